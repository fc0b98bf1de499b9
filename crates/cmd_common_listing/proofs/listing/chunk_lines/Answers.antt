use Rattle.std.proofs.Common.{ℕ, ◌+◌, [], ◌∷◌, ◌++◌, Option, Ok, arith, refl, sym, ap, subst, ◌∙◌}
use Rattle.std.proofs.lemmas.List.{length-append}
use Rattle.abt_chunks.specs.declared.progress.ChunkInfo.{ChunkInfo}
use Rattle.abt_chunks.specs.Expanding.{IsGoing}
use Rattle.abt_chunks.specs.Listing.{Listing}
use Rattle.abt_chunks.specs.Showing.{Lists_next, Stands_next}
use Rattle.abt_chunks.specs.ListingAhead.{upcoming}
use Rattle.cmd_common_listing.specs.Listed.{chunk_line}
use Rattle.abt_chunks.proofs.Finishing.{unless_map}
use Rattle.cmd_common_listing.proofs.Listed.{chunks_begun, chunks_refused, one_chunk_more, read_told}
use Rattle.sys_text.proofs.Printing.{printed_none, ◌▸◌}
use Rattle.cmd_common_listing.proofs.listing.chunk_lines.Goals as goal

pub loop-listed-init : goal.loop-listed-init
loop-listed-init g c = record {
  going = λ p. p;
  faults = λ p. refl;
  prints = ([], printed_none _ _ _);
  lines = λ models. ([], refl, refl, printed_none _ _ _);
}

pub loop-listed-preserved : goal.loop-listed-preserved
loop-listed-preserved g c =
    let left = g.I.Input.remaining in
    let info = c.in-Some.chunk in
    let s = c.loop-listed.chunks.walk in
    let t = c.next.new.self.walk in
    let x = left c.loop-listed.input in
    let y = left c.next.new.input in
    let stands = subst (λ (r : Option ChunkInfo). Stands_next (Ok r) t.phase) c.in-Some.is c.in-Ok.ensures.stands in
    record {
      going = λ first. subst IsGoing (sym stands) tt;
      faults = λ first. let i = c.loop-listed.invariant in
          (c.in-Ok.ensures.blame (i.going first)).clean.0 ∙ i.faults first;
      prints = (
        c.loop-listed.invariant.prints.0 ++ chunk_line info,
        c.loop-listed.invariant.prints.1 ▸ c.put_chunk.ensures,
      );
      lines = λ models.
          let (done, long, so_far, printed) = c.loop-listed.invariant.lines models in
          let lists = subst (λ (r : Option ChunkInfo). Lists_next (Ok r) s t x y) c.in-Some.is
          (c.in-Ok.ensures.lists models) in
          let next = one_chunk_more _ _ _ _ _ _ _ _ done info so_far lists printed c.put_chunk.ensures in
          (done ++ info ∷ [], length-append done (info ∷ []) ∙ ap (λ (n : ℕ). n + 1) long, next.0, next.1);
    }

pub returns-in-Err-clause-begun : goal.returns-in-Err-clause-begun
returns-in-Err-clause-begun g c = λ models.
    let (done, long, so_far, printed) = c.loop-listed.invariant.lines models in
    chunks_begun _ _ _ _ _ done (upcoming c.loop-listed.chunks.walk (g.I.Input.remaining c.loop-listed.input)).shown
    (ap (λ (l : Listing). l.shown) so_far) printed

pub returns-in-Err-is_whole-clause-begun : goal.returns-in-Err-is_whole-clause-begun
returns-in-Err-is_whole-clause-begun g c = λ models.
    let left = g.I.Input.remaining in
    let info = c.in-Some.chunk in
    let s = c.loop-listed.chunks.walk in
    let t = c.next.new.self.walk in
    let (done, long, so_far, printed) = c.loop-listed.invariant.lines models in
    let lists = subst (λ (r : Option ChunkInfo). Lists_next (Ok r) s t (left c.loop-listed.input)
    (left c.next.new.input)) c.in-Some.is (c.in-Ok.ensures.lists models) in
    let next = one_chunk_more _ _ _ _ _ _ _ _ done info so_far lists printed c.put_chunk.ensures in
    chunks_begun _ _ _ _ _ (done ++ info ∷ []) (upcoming t (left c.next.new.input)).shown
    (ap (λ (l : Listing). l.shown) next.0) next.1

pub returns-in-Err-clause-refused : goal.returns-in-Err-clause-refused
returns-in-Err-clause-refused g c = λ models.
    let (done, long, so_far, printed) = c.loop-listed.invariant.lines models in
    unless_map c.in-Err.fault _ _ (chunks_refused _ _ _ _ _ _ _ done so_far printed) (c.in-Err.ensures.lists models)

pub returns-in-Err-clause-reads : goal.returns-in-Err-clause-reads
returns-in-Err-clause-reads g c = λ first.
    let i = c.loop-listed.invariant in
    let blame = c.in-Err.ensures.blame (i.going first) in
    read_told c.in-Err.fault _ _ _ (i.faults first) blame.cause blame.clean

pub returns-in-Err-is_whole-clause-reads : goal.returns-in-Err-is_whole-clause-reads
returns-in-Err-is_whole-clause-reads g c = λ first. let i = c.loop-listed.invariant in
    omega (arith, i.faults first, (c.in-Ok.ensures.blame (i.going first)).clean.0)
