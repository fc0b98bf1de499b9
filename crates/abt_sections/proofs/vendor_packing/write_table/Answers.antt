use Rattle.std.proofs.Common.{rules, ◌≡◌, ◌+◌, ◌++◌, ℕ, List, arith, ap, sym, ◌∙◌, map, get_or, take}
use Rattle.std.proofs.lemmas.List.{get_or_default}
use Rattle.std.proofs.lemmas.List.Sums.{sum_by_more, sum_by_more_le}
use Rattle.abt_io.proofs.Lent.{writes_ok, writes_then}
use Rattle.abt_headers.specs.Entry.{entry_record}
use Rattle.abt_sections.specs.VendorCanon.{table_for}
use Rattle.abt_sections.proofs.Parts.{get_map}
use Rattle.abt_sections.proofs.Growing.{begins_then, begins_stop, begins_is, then_all}
use Rattle.abt_sections.proofs.VendorTables.{table_next, table_front}
use Rattle.abt_sections.proofs.vendor_packing.write_table.Goals as goal

pub returns-in-Err-clause-appends : goal.returns-in-Err-clause-appends
returns-in-Err-clause-appends g c =
    let f = g.S.Source.size in
    let fs = c.args.fragments.now in
    let ps = c.args.ramdisks.now in
    let ns = map f ps in
    let i = c.loop-i.i in
    let d = c.index-ramdisks-i.result in
    let n = c.length-size.ensures.size in
    let t = table_for (take i fs) (take i ns) 0 in
    let here : get_or ns i c.length-size.result ≡ c.length-size.result = ap (λ (k : ℕ). get_or ns i k) n
    ∙ get_map f ps i d ∙ ap f (sym c.index-ramdisks-i.is) ∙ sym n in
    let next = table_next f fs ps i _ c.length-size.result c.loop-i.offset (omega arith) (omega arith)
    (get_or_default fs i _ _ (omega arith)) here c.loop-i.invariant.offset in
    let r = table_front fs ns 0 (i + 1) in
    record {
      written = tt;
      front = begins_is _ _ _ _ r.1
          (begins_stop _ _ (table_for (take (i + 1) fs) (take (i + 1) ns) 0) r.0
          (begins_is _ _ _ _ (ap (λ (l : List ℕ). t ++ l) (c.encode.ensures.bytes
          ∙ ap entry_record c.entry_for-entry.ensures) ∙ next)
          (begins_then _ _ _ t _ c.loop-i.invariant.written c.in-Err.ensures.front c.in-Err.ensures.writes.least)));
      writes = search rules;
    }

pub loop-i-preserved : goal.loop-i-preserved
loop-i-preserved g c =
    let v = c.loop-i.invariant in
    let e = c.in-Ok.ensures in
    let f = g.S.Source.size in
    let fs = c.args.fragments.now in
    let ps = c.args.ramdisks.now in
    let ns = map f ps in
    let i = c.loop-i.i in
    let d = c.index-ramdisks-i.result in
    let n = c.length-size.ensures.size in
    let w0 = g.O.Output.written c.args.output.now in
    let t = table_for (take i fs) (take i ns) 0 in
    let here : get_or ns i c.length-size.result ≡ c.length-size.result = ap (λ (k : ℕ). get_or ns i k) n
    ∙ get_map f ps i d ∙ ap f (sym c.index-ramdisks-i.is) ∙ sym n in
    let next = table_next f fs ps i _ c.length-size.result c.loop-i.offset (omega arith) (omega arith)
    (get_or_default fs i _ _ (omega arith)) here v.offset in
    record {
      offset = omega (arith, v.offset, n, ap f c.index-ramdisks-i.is, sum_by_more f ps i d (omega arith));
      written =
          then_all _ _ _ t _ v.written e.ok
          ∙ ap (λ (l : List ℕ). w0 ++ l) (ap (λ (l : List ℕ). t ++ l) (c.encode.ensures.bytes
          ∙ ap entry_record c.entry_for-entry.ensures) ∙ next);
      all = search rules;
      writes = writes_then v.writes (writes_ok tt e.writes);
    }

pub overflow_add-offset : goal.overflow_add-offset
overflow_add-offset g c =
    let f = g.S.Source.size in
    let ps = c.args.ramdisks.now in
    let rest = sum_by_more_le f ps c.loop-i.i c.index-ramdisks-i.result (omega arith) in
    let size = c.length-size.ensures.size in
    omega (arith, c.loop-i.invariant.offset, c.requires.small, size, ap f c.index-ramdisks-i.is, rest)
