use Rattle.std.proofs.Common.{rules}
use Rattle.abt_sections.proofs.Growing.{begins_then}
use Rattle.abt_sections.proofs.Beginnings.{ok_then}
use Rattle.abt_sections.proofs.write_padded.write_record.Goals as goal

pub returns-clause-appends : goal.returns-clause-appends
returns-clause-appends g c =
    let p = c.write_padding.ensures.appends in
    record {
      written = ok_then c.write_padding.result _ _ _ c.args.bytes.now _ c.in-Ok.ensures.ok p.written;
      front = begins_then _ _ _ _ _ c.in-Ok.ensures.ok p.front p.writes.only.least;
      writes = search rules;
    }
