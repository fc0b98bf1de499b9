use Rattle.std.proofs.Common.{rules, arith}
use Rattle.abt_sections.specs.Header.{places_of, size_of, view_of}
use Rattle.cmd_common_findings.proofs.Ends.{one_more}
use Rattle.cmd_common_findings.proofs.section_places.end_of.Goals as goal

pub loop-i-preserved : goal.loop-i-preserved
loop-i-preserved c =
    let h = view_of c.args.image.now.header in
    let place = c.section-place in
    record {
      value = one_more (size_of h) (places_of h) c.loop-i.i place.result (search (rules, arith)) place.ensures.value;
      low = place.ensures.low;
    }
