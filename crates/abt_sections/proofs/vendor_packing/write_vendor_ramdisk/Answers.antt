use Rattle.std.proofs.Common.{rules, ◌≡◌, ℕ, ◌++◌, ap, sym, arith, length, length-append, map}
use Rattle.std.specs.Prelude.{IsTrue}
use Rattle.std.specs.List.{concat}
use Rattle.abt_sections.specs.Layout.{zeros_behind}
use Rattle.abt_sections.proofs.Growing.{begins_then, begins_is}
use Rattle.abt_sections.proofs.Beginnings.{ok_padded}
use Rattle.abt_sections.proofs.vendor_packing.write_vendor_ramdisk.Goals as goal

pub returns-clause-ramdisks : goal.returns-clause-ramdisks
returns-clause-ramdisks g c =
    let x = concat (map g.S.Source.content c.args.ramdisks.now) in
    let w0 = g.O.Output.written c.args.output.now in
    let e = c.in-Ok.ensures in
    let p = c.write_padding.ensures.appends in
    let long : IsTrue g.S.Source.models → length x ≡ c.args.size = λ models.
    omega (arith, ap length (e.ramdisks.written models), length-append w0 x, e.bytes.all, c.requires.sized) in
    record {
      moves = search rules;
      lasting = search rules;
      written = λ models. ok_padded c.write_padding.result _ _ _ x c.args.size c.args.page (long models)
          (e.ramdisks.written models) p.written;
      front = λ models. begins_is _ _ _ _ (ap (λ (k : ℕ). x ++ zeros_behind k c.args.page) (sym (long models)))
          (begins_then _ _ _ x _ (e.ramdisks.written models) p.front p.writes.only.least);
    }
