use Rattle.std.proofs.Common.{◌≡◌, Bool, Ok, Err, Result, length, arith, ap, ◌∙◌, ℕ}
use Rattle.std.specs.Int.{div_ceil}
use Rattle.abt_io.proofs.Lent.{reads_ok, reads_then}
use Rattle.abt_chunks.specs.declared.progress.MachineProgress.{MachineProgress}
use Rattle.abt_chunks.specs.declared.progress.MachineProgress.TheVariants.{Done, More}
use Rattle.abt_verify.specs.Fault.{HasRawCause, RawCause}
use Rattle.abt_verify.specs.declared.fault.VerifyFault.{VerifyFault}
use Rattle.abt_verify.specs.declared.fault.VerifyFault.TheVariants.{BadBlock}
use Rattle.abt_verify.specs.declared.stage.Verified.{Verified}
use Rattle.abt_verify.proofs.RawSteps.{raw_all}
use Rattle.abt_verify.proofs.raw_verifying.verify_raw.Goals as goal

pub steps-preserved : goal.steps-preserved
steps-preserved g c =
    let i = c.steps.invariant in
    let e = c.step.ensures in
    let m = c.in-Ok-More.ensures in
    let more : c.step.result ≡ Ok More = c.in-Ok-More.is
    ∙ ap (λ (p : MachineProgress). let r : Result MachineProgress VerifyFault = Ok p in r) c.in-Ok-More.field-0-is in
    let goes = rw more at e.goes in
    let counted = rw more at e.counted in
    record {
      goes = rw goes.stage tt;
      long = λ models. goes.length ∙ i.long models;
      told = λ models there.
          let now = rw (i.source.content models, i.partition.content there) at (m.stands models there) in
          now (i.told models there);
      read = omega (arith, counted.0, i.read, goes.more);
      compared = omega (arith, counted.1, i.compared, goes.more);
      source = reads_ok tt (reads_then i.source (rw more at e.source.only));
      partition = reads_ok tt (reads_then i.partition (rw more at e.partition.only));
      calls = omega (arith, counted.0, counted.1, goes.more, e.source.bytes, e.partition.bytes);
      turns = omega (arith, counted.0, counted.1, goes.more);
      steps = omega (arith, counted.0, counted.1, goes.more, e.one_step);
      greatest = omega (arith, e.one_step, e.source.bytes, e.partition.bytes);
    }

pub returns-in-Ok-Done-clause-verifies : goal.returns-in-Ok-Done-clause-verifies
returns-in-Ok-Done-clause-verifies g c models =
    let i = c.steps.invariant in
    let e = c.step.ensures in
    let m = c.in-Ok-Done.ensures in
    let x = g.S.Source.content c.args.source.now in
    let done : c.step.result ≡ Ok Done = c.in-Ok-Done.is
    ∙ ap (λ (p : MachineProgress). let r : Result MachineProgress VerifyFault = Ok p in r) c.in-Ok-Done.field-0-is in
    let ended : c.step.new.self.at ≡ c.step.new.self.length = rw c.in-Ok-Done.field-0-is at (m.goes.done i.goes) in
    let long : c.step.new.self.length ≡ length x = e.goes.length ∙ i.long models in
    let counted = (rw done at e.counted).1 in
    record {
      stands = λ there.
          let now = rw (i.source.content models, i.partition.content there) at (m.stands models there) in
          raw_all (g.P.Source.content c.args.partition.now) x c.step.new.self.at c.step.new.self.length ended long
          (now (i.told models there));
      blocks = c.div_ceil.ensures ∙ ap (λ (k : ℕ). div_ceil c.step.new.self.length k) c.from.ensures
          ∙ ap (λ (n : ℕ). div_ceil n c.args.b) long;
      once = omega (arith, counted, i.compared, ended, long, e.goes.at);
    }

-- a step refuses no block size
step_cause : (f : VerifyFault) (models : Bool) (r r' p p' : ℕ) → HasRawCause f models r r' p p'
    → RawCause (let a : Result Verified VerifyFault = Err f in a) models r r' p p'
step_cause (BadBlock n) models r r' p p' h = absurd h
step_cause f models r r' p p' h = h
