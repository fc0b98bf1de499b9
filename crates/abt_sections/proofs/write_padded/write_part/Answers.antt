use Rattle.std.proofs.Common.{◌≡◌, ℕ, ◌++◌, ap, sym, arith, length}
use Rattle.std.specs.Prelude.{IsTrue}
use Rattle.abt_sections.specs.Layout.{zeros_behind}
use Rattle.abt_sections.proofs.Beginnings.{ok_padded}
use Rattle.abt_sections.proofs.Causes.{on_ok, on_ok_then}
use Rattle.abt_sections.proofs.Growing.{begins_is, begins_stop, begins_then, grows_by, grows_on}
use Rattle.abt_sections.proofs.MoreExits.{moves_written}
use Rattle.abt_sections.proofs.write_padded.write_part.Goals as goal

-- the part is not whole, or another
pub returns-in-Err : goal.returns-in-Err
returns-in-Err g c =
    let e = c.in-Err.ensures in
    let x = g.S.Source.content c.args.part.now in
    record {
      part = record {
        moves = e.part.moves;
        written = λ models. tt;
        bytes = record {
          grown = e.part.bytes.grown;
          most = omega (arith, e.part.bytes.most, c.padding-free.ensures.sum);
          all = tt;
        };
        lasting = tt;
      };
      front = λ models. begins_stop _ _ x (zeros_behind (length x) c.args.page) (e.front models);
    }

pub returns-clause-part : goal.returns-clause-part
returns-clause-part g c =
    let s = g.S.Source in
    let e = c.in-Ok.ensures in
    let p = c.write_padding.ensures in
    let r = c.write_padding.result in
    record {
      moves = moves_written (IsTrue s.models → s.size c.args.part.now ≡ c.args.size → ⊥) e.part.moves p.appends.writes;
      written = λ models. ok_padded r _ _ _ (s.content c.args.part.now) c.args.size c.args.page (e.sized models)
          (e.part.written models) p.appends.written;
      bytes = record {
        grown = grows_on _ _ _ e.part.bytes.grown (grows_by _ _ _ p.appends.front) (omega (arith, e.part.bytes.all));
        most = omega (arith, e.part.bytes.all, p.most);
        all = on_ok_then r (λ all. omega (arith, e.part.bytes.all, all)) p.all;
      };
      lasting = on_ok r e.part.lasting;
    }

pub returns-clause-front : goal.returns-clause-front
returns-clause-front g c = λ models.
    let x = g.S.Source.content c.args.part.now in
    let e = c.in-Ok.ensures in
    let p = c.write_padding.ensures.appends in
    begins_is _ _ _ _ (ap (λ (k : ℕ). x ++ zeros_behind k c.args.page) (sym (e.sized models)))
    (begins_then _ _ _ x _ (e.part.written models) p.front p.writes.only.least)
