use Rattle.std.proofs.Common.{◌≡◌, ◌+◌, ◌-◌, ◌++◌, ℕ, List, Result, Ok, take, arith, ap, ◌∙◌}
use Rattle.std.proofs.Common.{append-nil, refl}
use Rattle.std.proofs.Common.{take-append-drop, subst}
use Rattle.abt_io.proofs.Lent.{writes_ok, writes_then}
use Rattle.abt_io.specs.BytesLaws.{bytes_of_take}
use Rattle.abt_io.specs.Lent.{OnlyWrites}
use Rattle.abt_sparse.specs.declared.fault.SparseFault.{SparseFault}
use Rattle.abt_sparse.specs.Reading.{outcome}
use Rattle.abt_sparse.specs.View.{view}
use Rattle.abt_sparse.proofs.Exactly.{is_so}
use Rattle.abt_chunks.specs.declared.progress.MachineProgress.{MachineProgress}
use Rattle.abt_chunks.specs.declared.progress.MachineProgress.TheVariants.{More}
use Rattle.abt_chunks.specs.Ahead.{Ahead, seen}
use Rattle.abt_chunks.specs.Taking.{input_state}
use Rattle.abt_chunks.proofs.Causes.{since_going}
use Rattle.abt_chunks.proofs.Finishing.{told_more, begun_more, image_ends, refusal, unless_map, expansion_found}
use Rattle.abt_chunks.proofs.Finishing.{refused_found, begun_found}
use Rattle.abt_chunks.proofs.Needed.{needed_more}
use Rattle.abt_chunks.proofs.Short.{first_told, near_first, near_found, near_more}
use Rattle.abt_chunks.proofs.Turns.{reads_on}
use Rattle.abt_chunks.proofs.expander.expand.Goals as goal

abbrev whole : List ℕ → Ahead
whole l = seen (outcome l)

pub steps-init : goal.steps-init
steps-init g c =
    let zero : g.I.Input.given c.args.input.now - g.I.Input.given c.args.input.now ≡ 0 = omega arith in
    let rem = g.I.Input.remaining c.args.input.now in
    record {
      walks = record {
        input = record {
          given = omega arith;
          present = λ models. omega (arith, zero);
          rest = λ models. rw zero refl;
          frame = refl;
          faults = omega arith;
        };
        steps = record { steps = omega arith; greatest = omega arith };
      };
      writes = record {
        least = omega arith;
        frame = refl;
        faults = omega arith;
        clean = refl;
        full_faults = omega arith;
      };
      told = λ models t. first_told _ rem _ _ t c.open-machine.ensures zero;
      needed = λ models n less. absurd (omega (arith, less, zero));
      near = λ models. near_first _ rem _ zero;
      going = rw c.open-machine.ensures tt;
      read_faults = refl;
      reads = omega arith;
      calls = omega arith;
      turns = omega arith;
    }

pub steps-preserved : goal.steps-preserved
steps-preserved g c =
    let i = c.steps.invariant in
    let e = c.step.ensures in
    let stands = rw c.in-Ok-More.field-0-is at c.in-Ok-More.ensures.stands in
    let more : c.step.result ≡ Ok More = c.in-Ok-More.is
    ∙ ap (λ (p : MachineProgress). let r : Result MachineProgress SparseFault = Ok p in r) c.in-Ok-More.field-0-is in
    let costs = rw more at e.costs in
    let blame = rw more at (e.blame i.going) in
    let writes = rw more at (subst (λ (n : ℕ). OnlyWrites c.step.result n g.O.Output c.steps.output c.step.new.output)
    (since_going c.steps.machine.walk.phase c.step.result i.going) e.writes) in
    let rem = g.I.Input.remaining c.args.input.now in
    let k = g.I.Input.given c.steps.input - g.I.Input.given c.args.input.now in
    let n = g.I.Input.given c.step.new.input - g.I.Input.given c.steps.input in
    let j = g.I.Input.given c.step.new.input - g.I.Input.given c.args.input.now in
    let sum : j ≡ k + n = omega (arith, i.walks.input.given, e.input.input.given) in
    record {
      walks = record {
        input = reads_on _ _ _ _ i.walks.input e.input.input;
        steps = record {
          steps = omega (arith, i.walks.steps, e.one_step, e.input, e.input.input);
          greatest = omega (arith, i.walks.steps, e.one_step, e.input, e.input.input);
        };
      };
      writes = writes_ok tt (writes_then i.writes writes);
      told = λ models t. told_more (g.O.Output.written c.args.output.now) (g.O.Output.written c.steps.output)
          (g.O.Output.written c.step.new.output) rem (g.I.Input.remaining c.steps.input) c.steps.machine.walk
          c.step.new.self.walk k n j t whole (i.walks.input.rest models) sum (i.told models)
          (c.in-Ok-More.ensures.told models t (λ z. absurd cc));
      needed = λ models. needed_more (g.O.Output.written c.args.output.now) (g.O.Output.written c.steps.output) rem
          (g.I.Input.remaining c.steps.input) c.steps.machine.walk k n j
          (g.met.I.Input.are_bytes c.args.input.now models) (i.walks.input.rest models) sum
          (e.input.input.present models)
          e.input.wanted (i.told models) (i.needed models);
      near = λ models. near_more (g.O.Output.written c.args.output.now) (g.O.Output.written c.steps.output)
          (g.O.Output.written c.step.new.output) rem (g.I.Input.remaining c.steps.input) c.steps.machine.walk k n j
          (i.walks.input.rest models) sum (e.input.input.present models) e.input.wanted e.input.small
          writes.least (i.told models) (i.near models);
      going = rw stands tt;
      read_faults = blame.clean.0 ∙ i.read_faults;
      reads = omega (arith, i.reads, e.input, e.input.input, i.writes, writes);
      calls = omega (arith, i.calls, e.input, e.input.input, i.writes, writes, costs);
      turns = omega (arith, i.turns, e.input, e.input.input, i.writes, writes, costs);
    }

pub returns-in-Ok-Done-clause-needed : goal.returns-in-Ok-Done-clause-needed
returns-in-Ok-Done-clause-needed g c models =
    let i = c.steps.invariant in
    let e = c.step.ensures in
    needed_more (g.O.Output.written c.args.output.now) (g.O.Output.written c.steps.output)
    (g.I.Input.remaining c.args.input.now) (g.I.Input.remaining c.steps.input) c.steps.machine.walk
    (g.I.Input.given c.steps.input - g.I.Input.given c.args.input.now)
    (g.I.Input.given c.step.new.input - g.I.Input.given c.steps.input)
    (g.I.Input.given c.step.new.input - g.I.Input.given c.args.input.now)
    (g.met.I.Input.are_bytes c.args.input.now models) (i.walks.input.rest models)
    (omega (arith, i.walks.input.given, e.input.input.given)) (e.input.input.present models) e.input.wanted (i.told
    models)
    (i.needed models)

pub returns-in-Err-clause-needed : goal.returns-in-Err-clause-needed
returns-in-Err-clause-needed g c models =
    let i = c.steps.invariant in
    let e = c.step.ensures in
    needed_more (g.O.Output.written c.args.output.now) (g.O.Output.written c.steps.output)
    (g.I.Input.remaining c.args.input.now) (g.I.Input.remaining c.steps.input) c.steps.machine.walk
    (g.I.Input.given c.steps.input - g.I.Input.given c.args.input.now)
    (g.I.Input.given c.step.new.input - g.I.Input.given c.steps.input)
    (g.I.Input.given c.step.new.input - g.I.Input.given c.args.input.now)
    (g.met.I.Input.are_bytes c.args.input.now models) (i.walks.input.rest models)
    (omega (arith, i.walks.input.given, e.input.input.given)) (e.input.input.present models) e.input.wanted (i.told
    models)
    (i.needed models)

pub returns-in-Ok-Done-clause-begun : goal.returns-in-Ok-Done-clause-begun
returns-in-Ok-Done-clause-begun g c models =
    let i = c.steps.invariant in
    let e = c.step.ensures in
    let j = g.I.Input.given c.step.new.input - g.I.Input.given c.args.input.now in
    let rem = g.I.Input.remaining c.args.input.now in
    begun_found (take j rem) (outcome (take j rem)) _ _
    (is_so (take j rem) (bytes_of_take j rem (g.met.I.Input.are_bytes c.args.input.now models)))
    (begun_more (g.O.Output.written c.args.output.now) (g.O.Output.written c.steps.output)
    (g.O.Output.written c.step.new.output) rem (g.I.Input.remaining c.steps.input) c.steps.machine.walk
    (g.I.Input.given c.steps.input - g.I.Input.given c.args.input.now)
    (g.I.Input.given c.step.new.input - g.I.Input.given c.steps.input) j whole (i.walks.input.rest models)
    (omega (arith, i.walks.input.given, e.input.input.given)) (i.told models) (e.begun models))

pub returns-in-Err-clause-begun : goal.returns-in-Err-clause-begun
returns-in-Err-clause-begun g c models =
    let i = c.steps.invariant in
    let e = c.step.ensures in
    let j = g.I.Input.given c.step.new.input - g.I.Input.given c.args.input.now in
    let rem = g.I.Input.remaining c.args.input.now in
    begun_found (take j rem) (outcome (take j rem)) _ _
    (is_so (take j rem) (bytes_of_take j rem (g.met.I.Input.are_bytes c.args.input.now models)))
    (begun_more (g.O.Output.written c.args.output.now) (g.O.Output.written c.steps.output)
    (g.O.Output.written c.step.new.output) rem (g.I.Input.remaining c.steps.input) c.steps.machine.walk
    (g.I.Input.given c.steps.input - g.I.Input.given c.args.input.now)
    (g.I.Input.given c.step.new.input - g.I.Input.given c.steps.input) j whole (i.walks.input.rest models)
    (omega (arith, i.walks.input.given, e.input.input.given)) (i.told models) (e.begun models))

pub returns-in-Ok-Done-clause-least : goal.returns-in-Ok-Done-clause-least
returns-in-Ok-Done-clause-least g c models =
    let i = c.steps.invariant in
    let e = c.step.ensures in
    let j = g.I.Input.given c.step.new.input - g.I.Input.given c.args.input.now in
    let rem = g.I.Input.remaining c.args.input.now in
    near_found (take (j - 1) rem) (outcome (take (j - 1) rem)) (g.O.Output.written c.args.output.now)
    (g.O.Output.written c.step.new.output)
    (is_so (take (j - 1) rem) (bytes_of_take (j - 1) rem (g.met.I.Input.are_bytes c.args.input.now models)))
    (near_more (g.O.Output.written c.args.output.now) (g.O.Output.written c.steps.output)
    (g.O.Output.written c.step.new.output) rem (g.I.Input.remaining c.steps.input) c.steps.machine.walk
    (g.I.Input.given c.steps.input - g.I.Input.given c.args.input.now)
    (g.I.Input.given c.step.new.input - g.I.Input.given c.steps.input) j (i.walks.input.rest models)
    (omega (arith, i.walks.input.given, e.input.input.given)) (e.input.input.present models) e.input.wanted
    e.input.small e.writes.least (i.told models) (i.near models))

pub returns-in-Err-clause-least : goal.returns-in-Err-clause-least
returns-in-Err-clause-least g c models =
    let i = c.steps.invariant in
    let e = c.step.ensures in
    let j = g.I.Input.given c.step.new.input - g.I.Input.given c.args.input.now in
    let rem = g.I.Input.remaining c.args.input.now in
    near_found (take (j - 1) rem) (outcome (take (j - 1) rem)) (g.O.Output.written c.args.output.now)
    (g.O.Output.written c.step.new.output)
    (is_so (take (j - 1) rem) (bytes_of_take (j - 1) rem (g.met.I.Input.are_bytes c.args.input.now models)))
    (near_more (g.O.Output.written c.args.output.now) (g.O.Output.written c.steps.output)
    (g.O.Output.written c.step.new.output) rem (g.I.Input.remaining c.steps.input) c.steps.machine.walk
    (g.I.Input.given c.steps.input - g.I.Input.given c.args.input.now)
    (g.I.Input.given c.step.new.input - g.I.Input.given c.steps.input) j (i.walks.input.rest models)
    (omega (arith, i.walks.input.given, e.input.input.given)) (e.input.input.present models) e.input.wanted
    e.input.small e.writes.least (i.told models) (i.near models))

pub returns-in-Ok-Done-clause-expands : goal.returns-in-Ok-Done-clause-expands
returns-in-Ok-Done-clause-expands g c models =
    let i = c.steps.invariant in
    let e = c.in-Ok-Done.ensures in
    let stands = rw c.in-Ok-Done.field-0-is at e.stands in
    let k = g.I.Input.given c.steps.input - g.I.Input.given c.args.input.now in
    let n = g.I.Input.given c.step.new.input - g.I.Input.given c.steps.input in
    let j = g.I.Input.given c.step.new.input - g.I.Input.given c.args.input.now in
    let rem = g.I.Input.remaining c.args.input.now in
    let left = g.I.Input.remaining c.step.new.input in
    let old = g.O.Output.written c.args.output.now in
    let new = g.O.Output.written c.step.new.output in
    let all = (reads_on _ _ (input_state g.I.Input c.steps.input) _ i.walks.input e.input.input).rest models in
    let told = told_more old (g.O.Output.written c.steps.output) new rem (g.I.Input.remaining c.steps.input)
    c.steps.machine.walk c.step.new.self.walk k n j left whole (i.walks.input.rest models)
    (omega (arith, i.walks.input.given, e.input.input.given)) (i.told models) (e.told models left (λ z. refl)) in
    let joined : take j rem ++ left ≡ rem = ap (λ (l : List ℕ). take j rem ++ l) all ∙ take-append-drop j rem in
    let done = rw (joined, stands, append-nil) at told in
    expansion_found rem (outcome rem) _ old new left (is_so rem (g.met.I.Input.are_bytes c.args.input.now models))
    (image_ends (outcome rem) _ (view c.step.new.self.walk.header) old new left done refl c.data_length.ensures.value)

pub returns-in-Err-clause-expands : goal.returns-in-Err-clause-expands
returns-in-Err-clause-expands g c models =
    let i = c.steps.invariant in
    let e = c.in-Err.ensures in
    let k = g.I.Input.given c.steps.input - g.I.Input.given c.args.input.now in
    let n = g.I.Input.given c.step.new.input - g.I.Input.given c.steps.input in
    let j = g.I.Input.given c.step.new.input - g.I.Input.given c.args.input.now in
    let rem = g.I.Input.remaining c.args.input.now in
    let left = g.I.Input.remaining c.step.new.input in
    let old = g.O.Output.written c.args.output.now in
    let new = g.O.Output.written c.step.new.output in
    let all = (reads_on _ _ (input_state g.I.Input c.steps.input) _ i.walks.input e.input.input).rest models in
    let sum : j ≡ k + n = omega (arith, i.walks.input.given, e.input.input.given) in
    let joined : take j rem ++ left ≡ rem = ap (λ (l : List ℕ). take j rem ++ l) all ∙ take-append-drop j rem in
    refused_found rem (outcome rem) c.in-Err.fault old new
    (is_so rem (g.met.I.Input.are_bytes c.args.input.now models))
    (refusal (outcome rem) c.in-Err.fault old new (unless_map c.in-Err.fault _ _
    (λ step. rw (joined, e.stands, append-nil) at (told_more old (g.O.Output.written c.steps.output) new rem
    (g.I.Input.remaining c.steps.input) c.steps.machine.walk c.step.new.self.walk k n j left whole (i.walks.input.rest
    models)
    sum (i.told models) step)) (e.told models left (λ z. refl))))
