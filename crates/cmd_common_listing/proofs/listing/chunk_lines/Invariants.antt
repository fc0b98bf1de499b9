use Rattle.std.proofs.Common.{◌≡◌, List, ℕ, length, flat_map, IsTrue}
use Rattle.abt_chunks.specs.declared.progress.ChunkInfo.{ChunkInfo}
use Rattle.abt_chunks.specs.Expanding.{IsGoing}
use Rattle.abt_chunks.specs.ListingAhead.{shown_before, upcoming}
use Rattle.cmd_common_listing.specs.Listed.{chunk_line}
use Rattle.sys_text.specs.Printed.{Prints}
use Rattle.cmd_common_listing.proofs.listing.chunk_lines.Given as goal

abbrev pub invariant-loop-listed : goal.invariant-loop-listed
invariant-loop-listed g l =
    let left = g.I.Input.remaining in
    let P = Prints g.O.Output.written g.O.Output.write_faults l.initial.text l.text in
    record {
      going : IsGoing l.initial.chunks.walk.phase → IsGoing l.chunks.walk.phase;
      faults : IsGoing l.initial.chunks.walk.phase
          → g.I.Input.read_faults l.input ≡ g.I.Input.read_faults l.initial.input;
      prints : (done : List ℕ) × P done;
      lines : IsTrue g.I.Input.models
          → (done : List ChunkInfo)
          × (length done ≡ l._listed)
          × (upcoming l.initial.chunks.walk (left l.initial.input) ≡ shown_before done
          (upcoming l.chunks.walk (left l.input)))
          × P (flat_map chunk_line done);
    }
