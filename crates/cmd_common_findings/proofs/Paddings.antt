-- What of the padding is counted, section by section.
use Rattle.std.proofs.Common.{◌≡◌, ◌<◌, ◌+◌, ℕ, List, length, drop, get_or, sym, ap, ◌∙◌, arith}
use Rattle.abt_headers.specs.declared.sections.SectionPlace.{SectionPlace}
use Rattle.cmd_common_findings.specs.LeftOut.{set_in_padding, behind_places}
use Rattle.cmd_common_findings.proofs.Counts.{place_counted}

pub padding_on : (x : List ℕ) (page i : ℕ) (ps : List SectionPlace) (p : SectionPlace) (count n all : ℕ)
    → i < length ps → p ≡ get_or ps i p → n ≡ set_in_padding x page (p.at + p.size)
    → count + behind_places x page (drop i ps) ≡ all → count + n + behind_places x page (drop (i + 1) ps) ≡ all
padding_on x page i ps p count n all within is seen so_far =
    let rest = behind_places x page (drop (i + 1) ps) in
    let back : count + n + rest ≡ count + (n + rest) = omega arith in
    back ∙ ap (λ (k : ℕ). count + k) (sym (place_counted x page i ps p n within is seen)) ∙ so_far
