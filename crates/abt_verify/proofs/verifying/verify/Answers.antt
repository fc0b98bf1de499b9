use Rattle.std.proofs.Common.{◌≡◌, ◌+◌, ◌-◌, Ok, Err, Result, arith, refl, ap, ◌∙◌}
use Rattle.abt_io.proofs.Lent.{reads_none, reads_ok, reads_then}
use Rattle.abt_chunks.specs.Taking.{input_state}
use Rattle.abt_chunks.specs.declared.progress.MachineProgress.{MachineProgress}
use Rattle.abt_chunks.specs.declared.progress.MachineProgress.TheVariants.{Done, More}
use Rattle.abt_chunks.proofs.Turns.{reads_on}
use Rattle.abt_verify.specs.declared.fault.VerifyFault.{VerifyFault}
use Rattle.abt_verify.proofs.Come.{come_first, come_next, done_whole, ends, fault_verifies, same_there}
use Rattle.abt_verify.proofs.verifying.verify.Goals as goal

pub steps-init : goal.steps-init
steps-init g c =
    let o = c.open-machine.ensures in
    let zero : g.I.Input.given c.args.input.now - g.I.Input.given c.args.input.now ≡ 0 = omega arith in
    record {
      input = record {
        given = omega arith;
        present = λ models. omega (arith, zero);
        rest = λ models. rw zero refl;
        frame = refl;
        faults = omega arith;
      };
      partition = reads_none _ _ _;
      compared = omega arith;
      goes = rw (o.stage, o.walk) tt;
      told = λ models. come_first _ _ _ _ _ _ _ o.walk zero o.compared;
      read_faults = refl;
      calls = rw o.walk (omega arith);
      turns = rw o.walk (omega arith);
      steps = record { steps = omega arith; greatest = omega arith };
    }

pub steps-preserved : goal.steps-preserved
steps-preserved g c =
    let i = c.steps.invariant in
    let e = c.step.ensures in
    let m = c.in-Ok-More.ensures in
    let more : c.step.result ≡ Ok More = c.in-Ok-More.is
    ∙ ap (λ (p : MachineProgress). let r : Result MachineProgress VerifyFault = Ok p in r) c.in-Ok-More.field-0-is in
    let few = rw more at e.few in
    let progress = rw more at e.progress in
    let stage = rw more at e.stage in
    let body = rw c.in-Ok-More.field-0-is at (m.leaves i.goes) in
    let clean = rw more at (e.cause i.goes) in
    let k = g.I.Input.given c.steps.input - g.I.Input.given c.args.input.now in
    let n = g.I.Input.given c.step.new.input - g.I.Input.given c.steps.input in
    let j = g.I.Input.given c.step.new.input - g.I.Input.given c.args.input.now in
    let sum : j ≡ k + n = omega (arith, i.input.given, e.input.input.given) in
    record {
      input = reads_on _ _ _ _ i.input e.input.input;
      partition = reads_ok tt (reads_then i.partition (rw more at e.partition.only));
      compared = omega (arith, i.compared, e.partition.bytes);
      goes = rw (stage, body) tt;
      told = λ models. come_next g.P.Source.models c.steps.machine.walk c.step.new.self.walk
          (g.I.Input.remaining c.args.input.now) (g.I.Input.remaining c.steps.input)
          (g.I.Input.remaining c.step.new.input) (g.P.Source.content c.args.partition.now) k n j _ _ _ _ _
          (i.input.rest models) sum (i.told models) (same_there g.P.Source.models (Ok More) _ _ _ _ _ _ _ _
          i.partition.content (rw c.in-Ok-More.field-0-is at (m.told models i.goes))) (m.compared i.goes);
      read_faults = clean.0 ∙ i.read_faults;
      calls = omega (arith, i.calls, progress, e.input, e.input.input, e.partition.bytes);
      turns = omega (arith, i.turns, progress, few, e.input, e.input.input, e.partition.bytes);
      steps = record {
        steps = omega (arith, i.steps, e.one_step, e.input, e.partition.bytes);
        greatest = omega (arith, i.steps, e.one_step, e.input, e.partition.bytes);
      };
    }

pub returns-in-Ok-Done-clause-verifies : goal.returns-in-Ok-Done-clause-verifies
returns-in-Ok-Done-clause-verifies g c models =
    let i = c.steps.invariant in
    let e = c.step.ensures in
    let d = c.in-Ok-Done.ensures in
    let k = g.I.Input.given c.steps.input - g.I.Input.given c.args.input.now in
    let n = g.I.Input.given c.step.new.input - g.I.Input.given c.steps.input in
    let j = g.I.Input.given c.step.new.input - g.I.Input.given c.args.input.now in
    let same : j ≡ k + n = omega (arith, i.input.given, e.input.input.given) in
    let rest = (reads_on _ _ (input_state g.I.Input c.steps.input) _ i.input e.input.input).rest models in
    let ended = rw c.in-Ok-Done.field-0-is at (d.leaves i.goes) in
    let compares = same_there g.P.Source.models (Ok Done) _ _ _ _ _ _ _ _ i.partition.content
    (rw c.in-Ok-Done.field-0-is at (d.told models i.goes)) in
    done_whole _ _ _ _ _ _ _ _ _ (ends g.P.Source.models c.steps.machine.walk c.step.new.self.walk
    (g.I.Input.remaining c.args.input.now) (g.I.Input.remaining c.steps.input) (g.I.Input.remaining c.step.new.input)
    (g.P.Source.content c.args.partition.now) k n j _ _ _ _ (Ok Done) (i.input.rest models) same (i.told models)
    compares
    c.step.new.self.compared rest (d.compared i.goes)) ended (g.met.I.Input.are_bytes c.args.input.now models) _
    c.blocks-in-Ok-Done.ensures

pub returns-in-Err-clause-verifies : goal.returns-in-Err-clause-verifies
returns-in-Err-clause-verifies g c models =
    let i = c.steps.invariant in
    let e = c.step.ensures in
    let m = c.in-Err.ensures in
    let k = g.I.Input.given c.steps.input - g.I.Input.given c.args.input.now in
    let n = g.I.Input.given c.step.new.input - g.I.Input.given c.steps.input in
    let j = g.I.Input.given c.step.new.input - g.I.Input.given c.args.input.now in
    let same : j ≡ k + n = omega (arith, i.input.given, e.input.input.given) in
    let rest = (reads_on _ _ (input_state g.I.Input c.steps.input) _ i.input e.input.input).rest models in
    let compares = same_there g.P.Source.models (Err c.in-Err.fault) _ _ _ _ _ _ _ _ i.partition.content
    (m.told models i.goes) in
    fault_verifies _ c.in-Err.fault _ _ _ _ _ _ _ _ (ends g.P.Source.models c.steps.machine.walk
    c.step.new.self.walk (g.I.Input.remaining c.args.input.now) (g.I.Input.remaining c.steps.input)
    (g.I.Input.remaining c.step.new.input) (g.P.Source.content c.args.partition.now) k n j _ _ _ _ (Err c.in-Err.fault)
    (i.input.rest models) same (i.told models) compares c.step.new.self.compared rest tt) (m.leaves i.goes)
    (g.met.I.Input.are_bytes c.args.input.now models)
