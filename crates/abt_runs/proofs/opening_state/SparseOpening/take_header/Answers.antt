use Rattle.std.proofs.Common.{arith, ap, sym, ◌∙◌, ◌<◌, ◌≤◌, ℕ, length, Err}
use Rattle.abt_sparse.specs.View.{view}
use Rattle.abt_sparse.specs.declared.fault.SparseFault.TheVariants.{Truncated}
use Rattle.abt_runs.specs.Verdict.{rest_ends}
use Rattle.abt_runs.proofs.Opened.{bad_header, cut_header, past_header, header_low, failed_is, failed_takes}
use Rattle.abt_runs.proofs.Opened.{from_header}
use Rattle.abt_runs.proofs.opening_state.SparseOpening.take_header.Goals as goal

pub returns-then-size-from-clause-keeps : goal.returns-then-size-from-clause-keeps
returns-then-size-from-clause-keeps c x long is v old =
    let s = c.args.self.now in
    let o = from_header s.stage (view s.header) s.length s.index s.have s.at x v c.requires.here old in
    let short : length x < c.in-Ok.header.file_hdr_sz = omega (arith, long, c.if-size-from.true, c.from.ensures) in
    let cut = cut_header (view c.in-Ok.header) c.args.bytes.now x is (omega (arith, long, c.requires.long))
    c.in-Ok.ensures short in
    failed_is c.fail.new.self.stage _ _ _ _ _ _ x v c.fail.ensures.failed
    (sym (cut ∙ ap (λ (n : ℕ). Err (Truncated n)) long) ∙ o)

pub returns-else-size-from-clause-keeps : goal.returns-else-size-from-clause-keeps
returns-else-size-from-clause-keeps c x long is v old =
    let s = c.args.self.now in
    let o = from_header s.stage (view s.header) s.length s.index s.have s.at x v c.requires.here old in
    let enough : c.in-Ok.header.file_hdr_sz ≤ length x = omega (arith, long, c.if-size-from.false, c.from.ensures) in
    let past = past_header (view c.in-Ok.header) c.args.bytes.now x is (omega (arith, long, c.requires.long))
    c.in-Ok.ensures enough in
    (sym long, ap (λ (n : ℕ). rest_ends (view c.in-Ok.header) 0 0 n x) c.from-in-Ok.ensures ∙ sym past ∙ o)

pub returns-in-Err-clause-keeps : goal.returns-in-Err-clause-keeps
returns-in-Err-clause-keeps c x long is v old =
    let s = c.args.self.now in
    let o = from_header s.stage (view s.header) s.length s.index s.have s.at x v c.requires.here old in
    let bad = bad_header c.in-Err.fault c.args.bytes.now x is (omega (arith, long, c.requires.long)) c.in-Err.ensures in
    failed_is c.fail-in-Err.new.self.stage _ _ _ _ _ _ x v c.fail-in-Err.ensures.failed (sym bad ∙ o)

pub returns-in-Err-clause-takes : goal.returns-in-Err-clause-takes
returns-in-Err-clause-takes c =
    failed_takes c.fail-in-Err.result _ c.fail-in-Err.ensures.answer c.fail-in-Err.ensures.failed
    (header_low c.args.bytes.now c.in-Err.fault c.in-Err.ensures)
