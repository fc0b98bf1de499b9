use Rattle.std.proofs.Common.{◌≤◌, [], length, refl, sym, subst}
use Rattle.abt_sparse.specs.declared.header.SparseHeader.{SparseHeader}
use Rattle.abt_sparse.specs.View.{view}
use Rattle.abt_chunks.specs.ListingAhead.{upcoming}
use Rattle.cmd_common_listing.specs.Listed.{ReadTold, header_line}
use Rattle.sys_text.specs.Printed.{Prints}
use Rattle.cmd_common_listing.proofs.Counting.{few_upcoming}
use Rattle.abt_chunks.proofs.Finishing.{unless_map}
use Rattle.cmd_common_listing.proofs.Listed.{header_refused, listed_printed, listing_begun, listing_refused}
use Rattle.cmd_common_listing.proofs.Listed.{nothing_begun, read_told}
use Rattle.sys_text.proofs.Printing.{printed_none, ◌▸◌}
use Rattle.cmd_common_listing.proofs.listing.lines.Goals as goal

pub returns-in-Err-clause-begun : goal.returns-in-Err-clause-begun
returns-in-Err-clause-begun g c = λ models. nothing_begun _ _ _ _

pub returns-in-Err-clause-prints : goal.returns-in-Err-clause-prints
returns-in-Err-clause-prints g c = ([], printed_none _ _ _)

pub returns-clause-listed : goal.returns-clause-listed
returns-clause-listed g c = λ models.
    let o = g.O.Output.written in
    let faults = g.O.Output.write_faults in
    let left = g.I.Input.remaining in
    let s = c.in-Ok.chunks.walk in
    let y = left c.open.new.input in
    let opened = c.in-Ok.ensures.opens models in
    let same = c.header-header.ensures in
    let few = subst (λ (h : SparseHeader). length (upcoming s y).shown ≤ h.total_chunks) (sym same)
    (few_upcoming s y opened.1 opened.2) in
    let first = subst (λ (h : SparseHeader). Prints o faults c.args.text.now c.put_header.new.text
    (header_line (view h))) same c.put_header.ensures in
    listed_printed o faults c.args.text.now c.put_header.new.text c.chunk_lines.new.text (left c.args.input.now) y
    (left c.chunk_lines.new.input) s c.chunk_lines.result
    opened.0 opened.1 opened.2 first (c.chunk_lines.ensures.listed models few)

pub returns-clause-begun : goal.returns-clause-begun
returns-clause-begun g c = λ models.
    let o = g.O.Output.written in
    let faults = g.O.Output.write_faults in
    let left = g.I.Input.remaining in
    let opened = c.in-Ok.ensures.opens models in
    let first = subst (λ (h : SparseHeader). Prints o faults c.args.text.now c.put_header.new.text
    (header_line (view h))) c.header-header.ensures c.put_header.ensures in
    listing_begun o faults _ _ _ (left c.args.input.now) (left c.open.new.input) c.in-Ok.chunks.walk opened.0 opened.1
    opened.2 first (c.chunk_lines.ensures.begun models)

pub returns-clause-prints : goal.returns-clause-prints
returns-clause-prints g c = (_, c.put_header.ensures ▸ c.chunk_lines.ensures.prints.1)

pub returns-in-Err-clause-refused : goal.returns-in-Err-clause-refused
returns-in-Err-clause-refused g c =
    λ models. unless_map c.in-Err.fault _ _ (header_refused _ _ _ _ _) (c.in-Err.ensures.opens models)

pub returns-in-Err-clause-reads : goal.returns-in-Err-clause-reads
returns-in-Err-clause-reads g c = let blame = c.in-Err.ensures.blame in
    read_told c.in-Err.fault _ _ _ refl blame.cause blame.clean

pub returns-clause-refused : goal.returns-clause-refused
returns-clause-refused g c = λ models.
    let o = g.O.Output.written in
    let faults = g.O.Output.write_faults in
    let left = g.I.Input.remaining in
    let opened = c.in-Ok.ensures.opens models in
    let first = subst (λ (h : SparseHeader). Prints o faults c.args.text.now c.put_header.new.text
    (header_line (view h))) c.header-header.ensures c.put_header.ensures in
    listing_refused o faults _ _ _ (left c.args.input.now)
    (left c.open.new.input) c.in-Ok.chunks.walk c.chunk_lines.result
    opened.0 opened.1 opened.2 first (c.chunk_lines.ensures.refused models)

pub returns-clause-reads : goal.returns-clause-reads
returns-clause-reads g c =
    subst (λ n. ReadTold c.chunk_lines.result n (g.I.Input.read_faults c.chunk_lines.new.input))
    c.in-Ok.ensures.blame.clean.0 (c.chunk_lines.ensures.reads c.in-Ok.ensures.going)
