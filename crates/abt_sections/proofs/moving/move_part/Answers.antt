use Rattle.std.proofs.Common.{arith}
use Rattle.abt_sections.proofs.Causes.{on_ok}
use Rattle.abt_sections.proofs.Digests.{hash_more}
use Rattle.std.proofs.Common.{◌≡◌, ◌∙◌, ◌++◌, ℕ, List, ap, length, Ok}
use Rattle.std.proofs.lemmas.List.{take_all}
use Rattle.std.specs.Prelude.{IsTrue}
use Rattle.abt_io.proofs.Lent.{reads_none}
use Rattle.abt_sections.proofs.Beginnings.{ok_padded}
use Rattle.abt_sections.proofs.Causes.{on_ok_then}
use Rattle.abt_sections.proofs.Growing.{grows_by, grows_on}
use Rattle.abt_sections.proofs.MoreExits.{moves_written}
use Rattle.abt_sections.proofs.Refusals.{moves_on}
use Rattle.abt_sections.proofs.moving.move_part.Goals as goal

pub returns-clause-hashed : goal.returns-clause-hashed
returns-clause-hashed g c = λ wanted models.
    on_ok c.write_padding.result (λ parts held.
    hash_more c.hash_wanted.new.hasher parts (g.S.Source.content c.args.part.now) c.args.size
    (omega (arith, c.length.ensures.told models, c.if-length-size.false))
    (rw c.to_le_bytes.ensures at (c.hash_wanted.ensures wanted _ (c.in-Ok.ensures.hashed wanted models _ held))))

-- the bytes are not all moved
pub returns-in-Err-clause-part : goal.returns-in-Err-clause-part
returns-in-Err-clause-part g c =
    let s = g.S.Source in
    let part = c.args.part.now in
    let e = c.in-Err.ensures in
    record {
      moves = moves_on (reads_none {X = Unit {0}} {E = Unit {0}} (Ok tt) s part) e.moves
          (λ changed models same. changed models (omega (arith, same, g.met.S.Source.sized part models)));
      written = λ models. tt;
      bytes = record {
        grown = e.bytes.grown;
        most = omega (arith, e.bytes.most, c.padding-free.ensures.sum);
        all = tt;
      };
      lasting = tt;
    }

pub returns-clause-part : goal.returns-clause-part
returns-clause-part g c =
    let s = g.S.Source in
    let e = c.in-Ok.ensures in
    let p = c.write_padding.ensures in
    let r = c.write_padding.result in
    let x = s.content c.args.part.now in
    record {
      moves = moves_written (IsTrue s.models → s.size c.args.part.now ≡ c.args.size → ⊥) e.moves p.appends.writes;
      written = λ models.
          let long : length x ≡ c.args.size = omega (arith, c.length.ensures.told models, c.if-length-size.false) in
          ok_padded r _ _ _ x c.args.size c.args.page long (e.written models
          ∙ ap (λ (l : List ℕ). g.O.Output.written c.args.output.now ++ l)
          (take_all c.args.size x (omega (arith, long))))
          p.appends.written;
      bytes = record {
        grown = grows_on _ _ _ e.bytes.grown (grows_by _ _ _ p.appends.front) (omega (arith, e.bytes.all));
        most = omega (arith, e.bytes.all, p.most);
        all = on_ok_then r (λ all. omega (arith, e.bytes.all, all)) p.all;
      };
      lasting = on_ok r (
        omega (arith, c.length.ensures.size, c.if-length-size.false),
        omega (arith, c.length-last.ensures.size, c.if-last-size.false),
      );
    }
