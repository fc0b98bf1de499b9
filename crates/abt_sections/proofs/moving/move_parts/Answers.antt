use Rattle.std.proofs.Common.{rules, ◌+◌, ◌*◌, ℕ, List, arith, ap, ◌∙◌, length, length-set, map, get_or, take, ◌++◌}
use Rattle.std.proofs.lemmas.List.Sums.{sum_by-set, sum_by_more}
use Rattle.abt_io.proofs.Lent.{writes_then}
use Rattle.abt_headers.specs.Page.{pages}
use Rattle.abt_sections.specs.Layout.{padded, laid}
use Rattle.abt_sections.proofs.Digests.{hash_next}
use Rattle.abt_sections.proofs.Growing.{grows_on}
use Rattle.abt_sections.proofs.Growing as growing
use Rattle.abt_sections.proofs.Layouts.{laid_next, laid_less, sum_next, sum_less}
use Rattle.abt_sections.proofs.Moves.{moves_part}
use Rattle.abt_sections.proofs.Parts.{all_part, next_part, part_size, sizes_all, sizes_next}
use Rattle.std.proofs.lemmas.List.{length-map, take_all}
use Rattle.abt_sections.proofs.moving.move_parts.Goals as goal

pub returns-in-Err-clause-once : goal.returns-in-Err-clause-once
returns-in-Err-clause-once g c =
    let f = g.S.Source.given in
    let i = c.loop-i.i in
    let sizes = c.args.sizes.now in
    let risen = sum_by-set f c.loop-i.parts i c.move_part.new.part c.index-parts-i.result (omega arith) in
    let rest = sum_less sizes (i + 1) (length c.args.parts.now) (omega arith) in
    omega (arith, c.loop-i.invariant.once, c.in-Err.ensures.once, risen, sum_next sizes i (omega arith), rest)

pub returns-in-Err-clause-bytes : goal.returns-in-Err-clause-bytes
returns-in-Err-clause-bytes g c =
    let v = c.loop-i.invariant in
    let page = c.args.page in
    let i = c.loop-i.i in
    let p : ℕ → ℕ = λ m. pages m page * page in
    let sizes = c.args.sizes.now in
    let next = sum_by_more p sizes i 0 (omega arith) in
    let rest = laid_less page sizes (i + 1) (length c.args.parts.now) (omega arith) in
    search (rules, grows_on _ _ _ v.grown c.in-Err.ensures.part.bytes.grown (omega (arith, v.all)), next, rest)

pub returns-in-Err-clause-parts : goal.returns-in-Err-clause-parts
returns-in-Err-clause-parts g c =
    let v = c.loop-i.invariant in
    let ps = c.loop-i.parts in
    let i = c.loop-i.i in
    let d = c.index-parts-i.result in
    record {
      moves = moves_part ps i d _ (omega arith) v.reads v.writes c.in-Err.ensures.part.moves (λ changed models same.
          changed models (part_size g.S.Source.size ps c.args.parts.now i d c.args.sizes.now (v.reads.size models) same
          (omega arith)));
      written = search rules;
      lasting = tt;
    }

pub loop-i-preserved : goal.loop-i-preserved
loop-i-preserved g c =
    let s = g.S.Source in
    let v = c.loop-i.invariant in
    let ps = c.loop-i.parts in
    let i = c.loop-i.i in
    let d = c.index-parts-i.result in
    let e = c.in-Ok.ensures in
    let new = c.move_part.new.part in
    let page = c.args.page in
    let p : ℕ → ℕ = λ m. pages m page * page in
    let sizes = c.args.sizes.now in
    let all = map s.content c.args.parts.now in
    let b = s.content (get_or ps i d) in
    record {
      long = simp length-set v.long;
      reads = all_part s _ ps i d new (omega arith) v.reads e.part.moves.reads;
      once = omega (arith, v.once, e.once, sum_by-set s.given ps i new d (omega arith), sum_next sizes i (omega arith));
      written = λ models.
          let next = next_part s.content ps c.args.parts.now i d (v.reads.content models) (omega arith) in
          growing.then_all _ _ _ (laid page (take i all)) (padded page b) (v.written models) (e.part.written models)
          ∙ ap (λ (l : List ℕ). g.O.Output.written c.args.output.now ++ l) (laid_next page all b i next);
      hashed = λ wanted models none.
          hash_next _ _ _ (next_part s.content ps c.args.parts.now i d (v.reads.content models) (omega arith))
          (e.hashed wanted models _ (v.hashed wanted models none));
      grown = grows_on _ _ _ v.grown e.part.bytes.grown (omega (arith, v.all));
      all = omega (arith, v.all, e.part.bytes.all, sum_by_more p sizes i 0 (omega arith));
      lasting = sizes_next s.size ps i new sizes (omega arith) (omega arith) v.lasting e.part.lasting.1;
      writes = writes_then v.writes e.part.moves.writes;
    }

pub returns-clause-parts : goal.returns-clause-parts
returns-clause-parts g c =
    let s = g.S.Source in
    let v = c.loop-i.invariant in
    let ps = c.args.parts.now in
    let i = c.loop-i.i in
    let all = map s.content ps in
    record {
      moves = record { reads = v.reads; writes = v.writes; cause = tt };
      written = λ models. rw (take_all i all (omega (arith, length-map ps s.content))) at (v.written models);
      lasting = sizes_all s.size c.loop-i.parts c.args.sizes.now i (length ps) (omega arith) (omega arith) v.lasting;
    }

pub returns-clause-hashed : goal.returns-clause-hashed
returns-clause-hashed g c = λ wanted models none.
    let ps = c.args.parts.now in
    let content = g.S.Source.content in
    rw (take_all c.loop-i.i (map content ps) (omega (arith, length-map ps content)))
    at (c.loop-i.invariant.hashed wanted models none)
