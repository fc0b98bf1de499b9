use Rattle.abt_headers.specs.Boot.{boot_page, boot_record}
use Rattle.abt_sections.specs.Layout.{padded}
use Rattle.abt_sections.proofs.Growing.{begins_then}
use Rattle.std.proofs.Common.{◌≡◌, arith, map}
use Rattle.std.specs.Prelude.{IsTrue}
use Rattle.abt_sections.specs.Fields.{filled}
use Rattle.abt_sections.proofs.Beginnings.{ok_then}
use Rattle.abt_sections.proofs.Growing.{begins_stop}
use Rattle.abt_sections.proofs.MoreExits.{all_after_writes, writes_alone_all}
use Rattle.abt_sections.proofs.packing.write_image.Goals as goal

pub returns-clause-front : goal.returns-clause-front
returns-clause-front g c = λ models.
    let h = c.args.header.now in
    begins_then _ _ _ (padded (boot_page h) (boot_record h)) _ c.in-Ok.ensures.appends.written
    (rw c.page_size.ensures.value at (c.write_parts.ensures.front models))
    c.write_parts.ensures.parts.moves.writes.least

-- the record is not written
pub returns-in-Err : goal.returns-in-Err
returns-in-Err g c =
    let s = g.S.Source in
    let ps = c.args.parts.now in
    let e = c.in-Err.ensures in
    let h = c.args.header.now in
    record {
      parts = record {
        moves = writes_alone_all s ps (IsTrue s.models → c.args.sizes.now ≡ filled 5 (map s.size ps) → ⊥)
            e.appends.writes;
        written = λ models. tt;
        lasting = tt;
      };
      front = λ models. begins_stop _ _ (padded (boot_page h) (boot_record h)) _ e.appends.front;
      bytes = record { most = omega (arith, e.bytes.most); all = tt };
    }

pub returns-clause-parts : goal.returns-clause-parts
returns-clause-parts g c =
    let h = c.args.header.now in
    let e = c.in-Ok.ensures.appends in
    let p = c.write_parts.ensures.parts in
    record {
      moves = all_after_writes e.writes.only p.moves (λ changed. changed);
      written = λ models. ok_then c.write_parts.result _ _ _ (padded (boot_page h) (boot_record h)) _ e.written
          (rw c.page_size.ensures.value at (p.written models));
      lasting = p.lasting;
    }
