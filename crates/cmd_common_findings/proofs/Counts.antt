-- Counting bytes that are not zero, part by part.
use Rattle.std.proofs.Common.{◌≡◌, ℕ, suc, ◌+◌, ◌-◌, ◌≤◌, ◌<◌, ◌==◌, cond, List, [], ◌∷◌, ◌++◌, length, take, drop}
use Rattle.std.proofs.Common.{get_or, min, refl, sym, ap, ◌∙◌, arith, drop-drop}
use Rattle.std.proofs.lemmas.List.{drop_more, length-drop, take_all}
use Rattle.abt_io.proofs.Parts.{take_plus}
use Rattle.abt_headers.specs.declared.sections.SectionPlace.{SectionPlace}
use Rattle.cmd_common_findings.specs.LeftOut.{set_in_padding, behind_places, set_in}

pub set_append : (x y : List ℕ) → set_in (x ++ y) ≡ set_in x + set_in y
set_append [] y = let e : set_in y ≡ 0 + set_in y = omega arith in e
set_append (b ∷ x) y =
    let one = cond (b == 0) 0 1 in
    ap (λ (n : ℕ). one + n) (set_append x y)
    ∙ (let back : one + (set_in x + set_in y) ≡ one + set_in x + set_in y = omega arith in back)

-- j bytes behind a place, and then so many more
pub counted_on : (s s' : List ℕ) (at j got n : ℕ) → s' ≡ s → n ≡ set_in (take got (drop (at + j) s'))
    → set_in (take j (drop at s)) + n ≡ set_in (take (j + got) (drop at s))
counted_on s s' at j got n same is =
    let x = drop at s in
    let part : take got (drop (at + j) s') ≡ take got (drop j x) =
    ap (λ (l : List ℕ). take got (drop (at + j) l)) same ∙ ap (take got) (sym (drop-drop j at s)) in
    ap (λ (k : ℕ). set_in (take j x) + k) (is ∙ ap set_in part) ∙ sym (set_append (take j x) (take got (drop j x)))
    ∙ ap set_in (take_plus j got x)

-- behind its end a list has nothing
pub counted_all : (s : List ℕ) (at few many : ℕ) → few ≤ many → length s - at ≤ few
    → set_in (take few (drop at s)) ≡ set_in (take many (drop at s))
counted_all s at few many h all =
    let x = drop at s in
    let long : length x ≡ length s - at = length-drop at s in
    ap set_in (take_all few x (omega (arith, long, all)) ∙ sym (take_all many x (omega (arith, long, all, h))))

-- one section more
pub place_counted : (x : List ℕ) (page i : ℕ) (ps : List SectionPlace) (p : SectionPlace) (n : ℕ) → i < length ps
    → p ≡ get_or ps i p → n ≡ set_in_padding x page (p.at + p.size)
    → behind_places x page (drop i ps) ≡ n + behind_places x page (drop (i + 1) ps)
place_counted x page i ps p n h is e =
    ap (behind_places x page) (drop_more ps i p h)
    ∙ ap (λ (q : SectionPlace). set_in_padding x page (q.at + q.size) + behind_places x page (drop (i + 1) ps)) (sym is)
    ∙ ap (λ (k : ℕ). k + behind_places x page (drop (i + 1) ps)) (sym e)
