-- Where the last section ends.
use Rattle.std.proofs.Common.{◌≡◌, ℕ, zero, suc, ◌+◌, ◌<◌, List, [], ◌∷◌, length, take, get_or, refl, sym, ap, ◌∙◌}
use Rattle.std.proofs.Common.{arith}
use Rattle.abt_headers.specs.declared.sections.SectionPlace.{SectionPlace}
use Rattle.cmd_common_findings.specs.LeftOut.{last_end}

end_behind : (n : ℕ) (ps : List SectionPlace) (i : ℕ) (p : SectionPlace) → i < length ps
    → last_end n (take (suc i) ps) ≡ (get_or ps i p).at + (get_or ps i p).size
end_behind n [] i p h = absurd (let q : i < 0 = h in omega arith)
end_behind n (q ∷ ps) zero p h = refl
end_behind n (q ∷ ps) (suc i) p h = end_behind (q.at + q.size) ps i p (omega (arith, h))

-- one section more
pub one_more : (n : ℕ) (ps : List SectionPlace) (i : ℕ) (p : SectionPlace) → i < length ps → p ≡ get_or ps i p
    → p.at + p.size ≡ last_end n (take (i + 1) ps)
one_more n ps i p h is =
    let next : suc i ≡ i + 1 = omega arith in
    ap (λ (q : SectionPlace). q.at + q.size) is ∙ sym (end_behind n ps i p h)
    ∙ ap (λ (k : ℕ). last_end n (take k ps)) next
