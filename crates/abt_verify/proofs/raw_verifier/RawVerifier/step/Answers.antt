use Rattle.std.proofs.Common.{◌+◌, ◌≤◌, length, arith}
use Rattle.abt_verify.proofs.RawSteps.{raw_found, raw_next}
use Rattle.abt_verify.proofs.raw_verifier.RawVerifier.step.Goals as goal

pub returns-in-Going-clause-stands : goal.returns-in-Going-clause-stands
returns-in-Going-clause-stands g c models there before =
    let x = g.S.Source.content c.args.source.now in
    let fits : c.args.self.now.at + c.ask-n.result ≤ length x = let r = c.requires models in let w =
    c.args.self.now.within in omega (arith, r, w, c.ask-n.ensures.value) in
    rw (c.answer-answer.ensures, c.passed.ensures.value) (raw_next (g.P.Source.content c.args.partition.now) x
    c.args.self.now.at c.ask-n.result fits c.compare_piece-done.result.fault before (c.compare_piece-done.ensures.stands
    models there))

pub returns-in-Going-clause-differs : goal.returns-in-Going-clause-differs
returns-in-Going-clause-differs g c models there going before =
    let x = g.S.Source.content c.args.source.now in
    let fits : c.args.self.now.at + c.ask-n.result ≤ length x = let r = c.requires models in let w =
    c.args.self.now.within in omega (arith, r, w, c.ask-n.ensures.value) in
    rw c.answer-answer.ensures (raw_found (g.P.Source.content c.args.partition.now) x c.args.self.now.at c.ask-n.result
    fits c.compare_piece-done.result.fault before (c.compare_piece-done.ensures.differs models there))
