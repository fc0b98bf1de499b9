use Rattle.std.proofs.Common.{◌≡◌, drop, find}
use Rattle.abt_sections.specs.Header.{places_of, view_of}
use Rattle.cmd_common_findings.specs.Places.{first_place_of, stands_at}
use Rattle.cmd_common_findings.proofs.section_places.place_of.Given as goal

abbrev pub invariant-loop-i : goal.invariant-loop-i
invariant-loop-i l =
    let h = view_of l.image.header in
    first_place_of h l.kind ≡ find (stands_at l.kind) (drop l.i (places_of h))
