use Rattle.std.proofs.Common.{◌≡◌, ◌++◌, arith, map}
use Rattle.std.specs.Prelude.{IsTrue, slice_index}
use Rattle.std.specs.List.{concat}
use Rattle.abt_headers.specs.Vendor.{vendor_view, vendor_page, vendor_record}
use Rattle.abt_sections.specs.Layout.{padded}
use Rattle.abt_io.proofs.Lent.{writes_then}
use Rattle.abt_sections.proofs.Causes.{on_ok_then}
use Rattle.abt_sections.proofs.MoreExits.{first_refused, last_ends, writes_alone_more}
use Rattle.abt_sections.proofs.Growing.{begins_then, begins_stop, then_all}
use Rattle.abt_sections.proofs.vendor_packing.write_first_sections.Goals as goal

-- the record is not written
pub returns-in-Err : goal.returns-in-Err
returns-in-Err g c =
    let s = g.S.Source in
    let e = c.in-Err.ensures in
    let v = vendor_view c.args.header.now in
    let page = vendor_page v in
    let q = padded page (concat (map s.content c.args.ramdisks.now)) in
    let r = padded page (s.content c.args.dtb.now) in
    record {
      moves = writes_alone_more s c.args.ramdisks.now c.args.dtb.now
          (IsTrue s.models → s.size c.args.dtb.now ≡ slice_index c.args.sizes.now 1 → ⊥) e.appends.writes;
      lasting = tt;
      written = λ models. tt;
      front = λ models. begins_stop _ _ (padded page (vendor_record v)) (q ++ r) e.appends.front;
      bytes = record { most = omega (arith, e.bytes.most); all = tt };
    }

pub returns-in-Err-write_vendor_ramdisk-clause-moves : goal.returns-in-Err-write_vendor_ramdisk-clause-moves
returns-in-Err-write_vendor_ramdisk-clause-moves g c =
    first_refused c.args.dtb.now c.in-Ok.ensures.appends.writes.only
    c.in-Err-write_vendor_ramdisk.ensures.ramdisks.moves (λ never models. absurd (never models))

pub returns-clause-moves : goal.returns-clause-moves
returns-clause-moves g c =
    let e = c.in-Ok-write_vendor_ramdisk.ensures.ramdisks.moves in
    last_ends e.reads (writes_then c.in-Ok.ensures.appends.writes.only e.writes)
    c.write_part.ensures.part.moves (λ changed. changed)

pub returns-clause-lasting : goal.returns-clause-lasting
returns-clause-lasting g c =
    on_ok_then c.write_part.result (λ same. (c.in-Ok-write_vendor_ramdisk.ensures.ramdisks.lasting, same.0, same.1))
    c.write_part.ensures.part.lasting

pub returns-clause-written : goal.returns-clause-written
returns-clause-written g c = λ models.
    let v = vendor_view c.args.header.now in
    let page = vendor_page v in
    let q = padded page (concat (map g.S.Source.content c.args.ramdisks.now)) in
    let r = padded page (g.S.Source.content c.args.dtb.now) in
    let e = c.in-Ok-write_vendor_ramdisk.ensures in
    let size = c.page_size-page.ensures.value in
    on_ok_then c.write_part.result (λ last. then_all _ _ _ (padded page (vendor_record v)) (q ++ r)
    c.in-Ok.ensures.appends.written (then_all _ _ _ q r (rw size at (e.ramdisks.written models)) last))
    (rw size at (c.write_part.ensures.part.written models))

pub returns-in-Err-write_vendor_ramdisk-clause-front : goal.returns-in-Err-write_vendor_ramdisk-clause-front
returns-in-Err-write_vendor_ramdisk-clause-front g c = λ models.
    let v = vendor_view c.args.header.now in
    let page = vendor_page v in
    let q = padded page (concat (map g.S.Source.content c.args.ramdisks.now)) in
    let r = padded page (g.S.Source.content c.args.dtb.now) in
    begins_then _ _ _ (padded page (vendor_record v)) (q ++ r) c.in-Ok.ensures.appends.written
    (begins_stop _ _ q r
    (rw c.page_size-page.ensures.value at (c.in-Err-write_vendor_ramdisk.ensures.ramdisks.front models)))
    c.in-Err-write_vendor_ramdisk.ensures.ramdisks.moves.writes.least

pub returns-clause-front : goal.returns-clause-front
returns-clause-front g c = λ models.
    let v = vendor_view c.args.header.now in
    let page = vendor_page v in
    let q = padded page (concat (map g.S.Source.content c.args.ramdisks.now)) in
    let r = padded page (g.S.Source.content c.args.dtb.now) in
    let e = c.in-Ok-write_vendor_ramdisk.ensures in
    begins_then _ _ _ (padded page (vendor_record v)) (q ++ r) c.in-Ok.ensures.appends.written
    (begins_then _ _ _ q r (rw c.page_size-page.ensures.value at (e.ramdisks.written models))
    (rw c.page_size-page.ensures.value at (c.write_part.ensures.front models))
    c.write_part.ensures.part.moves.writes.least)
    (omega (arith, e.ramdisks.moves.writes.least, c.write_part.ensures.part.moves.writes.least))
