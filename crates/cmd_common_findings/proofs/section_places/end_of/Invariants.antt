use Rattle.std.proofs.Common.{◌≡◌, ◌<◌, ◌^◌, take}
use Rattle.abt_sections.specs.Header.{places_of, size_of, view_of}
use Rattle.cmd_common_findings.specs.LeftOut.{last_end}
use Rattle.cmd_common_findings.proofs.section_places.end_of.Given as goal

abbrev pub invariant-loop-i : goal.invariant-loop-i
invariant-loop-i l =
    let h = view_of l.image.header in
    record {
      value : l.end ≡ last_end (size_of h) (take l.i (places_of h));
      low : l.end < 2 ^ 63;
    }
