use Rattle.std.proofs.Common.{◌≡◌, inr, nat_lt, map, refl, arith}
use Rattle.std.specs.Prelude.{IsTrue}
use Rattle.abt_sections.specs.Fields.{filled}
use Rattle.abt_sections.proofs.MoreExits.{all_after_writes, all_moved_err, writes_alone_all}
use Rattle.abt_sections.proofs.Digests.{wanted_id}
use Rattle.abt_sections.proofs.Magic.{opens_as_nothing}
use Rattle.abt_sections.proofs.Placing.{no_magic_yet, page_stands}
use Rattle.abt_sections.proofs.packing_once.write_behind.Goals as goal

pub returns-in-Ok-move_parts-clause-id : goal.returns-in-Ok-move_parts-clause-id
returns-in-Ok-move_parts-clause-id g c = λ models.
    wanted_id c.args.version (nat_lt c.args.version 3) c.move_parts.new.hasher c.id_of_hashed.result
    (map g.S.Source.content c.args.parts.now) refl
    (λ wanted. c.in-Ok-move_parts.ensures.hashed wanted models c.new-hasher.ensures) c.id_of_hashed.ensures.wanted
    c.id_of_hashed.ensures.unwanted

pub returns-in-Err-move_parts-clause-broken : goal.returns-in-Err-move_parts-clause-broken
returns-in-Err-move_parts-clause-broken g c =
    inr (opens_as_nothing _ (no_magic_yet _ (page_stands (g.O.Output.written c.args.output.now) _ c.args.page
    c.requires.some (rw c.in-Ok.ensures.written at c.in-Err-move_parts.ensures.bytes.grown))))

-- no page of zeros is written
pub returns-in-Err : goal.returns-in-Err
returns-in-Err g c =
    let s = g.S.Source in
    let ps = c.args.parts.now in
    let e = c.in-Err.ensures in
    record {
      parts = record {
        moves = all_moved_err
            (writes_alone_all s ps (IsTrue s.models → c.args.sizes.now ≡ filled 5 (map s.size ps) → ⊥) e.writes);
        written = λ models. tt;
        lasting = tt;
      };
      once = omega arith;
      id = λ models. tt;
      zeros = tt;
      broken = e.broken;
      bytes = record { grown = e.bytes.grown; most = omega (arith, e.bytes.most); all = tt };
    }

pub returns-in-Err-move_parts-clause-parts : goal.returns-in-Err-move_parts-clause-parts
returns-in-Err-move_parts-clause-parts g c = record {
  moves = all_moved_err
      (all_after_writes c.in-Ok.ensures.writes.only c.in-Err-move_parts.ensures.parts.moves (λ changed. changed));
  written = λ models. tt;
  lasting = tt;
}
