use Rattle.std.proofs.Common.{◌≡◌, ℕ, Bool, List, drop, ◌≤◌, ◌+◌, ◌-◌, ◌*◌, Ok, Result, length, arith, refl, sym, ap}
use Rattle.std.proofs.Common.{◌∙◌, length-drop, false, Err}
use Rattle.std.specs.Prelude.{IsTrue}
use Rattle.abt_io.proofs.Parts.{rest_more}
use Rattle.abt_chunks.specs.declared.progress.MachineProgress.{MachineProgress}
use Rattle.abt_chunks.specs.declared.progress.MachineProgress.TheVariants.{Done, More}
use Rattle.abt_flash_faults.specs.declared.fault.FlashFault.{FlashFault}
use Rattle.abt_flash.specs.Devices.{Reads}
use Rattle.abt_flash.specs.Stepping.{is_done}
use Rattle.abt_flash.specs.declared.stage.FlashStage.{FlashStage}
use Rattle.abt_flash.specs.declared.stage.FlashStage.TheVariants as stages
use Rattle.abt_flash.proofs.Come.{come_first, come_next, done_holds, done_whole, ends, ends_kept, ends_moments}
use Rattle.abt_flash.proofs.Come.{ends_seen, fault_flashes, fault_holds, going_phase, known_head, need_stays}
use Rattle.abt_flash.proofs.Come.{short_first, short_same}
use Rattle.abt_chunks.specs.declared.walk.Phase.TheVariants as phases
use Rattle.abt_flash.proofs.flashing.flash.Goals as goal
use Rattle.abt_flash.proofs.Still.{unread_then}
use Rattle.abt_chunks.specs.ListingAhead.{idle}

window_of : (a b : ℕ) → b ≤ a + 65536 → b - a ≤ 65536
window_of a b le = omega (arith, le)

pub steps-init : goal.steps-init
steps-init g c =
    let zero : g.I.Input.given c.args.input.now - g.I.Input.given c.args.input.now ≡ 0 = omega arith in
    record {
      read = omega arith;
      present = λ models. omega (arith, zero);
      rest = λ models. rw zero refl;
      goes = rw (c.open-machine.ensures.stage, c.open-machine.ensures.walk) tt;
      told = λ models. come_first _ _ _ _ _ _ _ _ _ c.open-machine.ensures.walk zero c.open-machine.ensures.laid;
      fresh = λ f. refl;
      measured = λ body some. absurd (let q : phases.Header ≡ phases.Body = sym c.open-machine.ensures.walk ∙ body in
          cc);
      synced = refl;
      unread = record { size = refl; reads = refl; given = refl; faults = refl };
      taken = omega arith;
      frame = refl;
      read_faults = refl;
      put_faults = refl;
      syncs = refl;
      calls = rw c.open-machine.ensures.walk (omega arith);
      turns = rw c.open-machine.ensures.walk (omega arith);
      steps = omega arith;
      greatest = omega arith;
    }

not_done : (st : FlashStage) → is_done st (Ok More) ≡ false
not_done stages.Going = refl
not_done stages.Done = refl
not_done (stages.Failed f) = refl

pub steps-preserved : goal.steps-preserved
steps-preserved g c =
    let i = c.steps.invariant in
    let e = c.step.ensures in
    let m = c.in-Ok-More.ensures in
    let more : c.step.result ≡ Ok More =
    c.in-Ok-More.is ∙ ap (λ (p : MachineProgress). let r : Result MachineProgress FlashFault = Ok p in
    r) c.in-Ok-More.field-0-is in
    let few : c.step.new.m.turns.number + 2 * g.P.Partition.taken c.steps.partition ≤ c.tick.new.self.turns.number +
    (g.I.Input.given c.step.new.input - g.I.Input.given c.steps.input) + 2
    * g.P.Partition.taken c.step.new.partition + 2 = rw more at c.step.ensures.stepped.costs.few in
    let progress : idle c.step.new.self.walk + 1 ≤ idle c.steps.machine.walk + 2 *
    (g.I.Input.given c.step.new.input - g.I.Input.given c.steps.input) + 2 *
    (g.P.Partition.taken c.step.new.partition - g.P.Partition.taken c.steps.partition) =
    rw more at c.step.ensures.stepped.costs.progress in
    let stage = rw more at c.step.ensures.stepped.stage in
    let body = rw c.in-Ok-More.field-0-is at (m.stepped.leaves i.goes) in
    let quiet : (g.P.Partition.past c.step.new.partition).synced ≡ (g.P.Partition.past c.steps.partition).synced =
    let q = rw (more, not_done c.steps.machine.stage) at c.step.ensures.stepped.syncs.synced in omega (arith, q) in
    let clean : (g.I.Input.read_faults c.step.new.input ≡ g.I.Input.read_faults c.steps.input)
    × (g.P.Partition.put_faults c.step.new.partition ≡ g.P.Partition.put_faults c.steps.partition) =
    rw more at (e.stepped.cause i.goes) in
    let going = going_phase c.steps.machine.stage c.steps.machine.walk.phase i.goes in
    let fresh = rw c.in-Ok-More.field-0-is at (m.stepped.goes_on.fresh i.goes) in
    let begins = rw c.in-Ok-More.field-0-is at m.stepped.goes_on.begins in
    let measures = rw (c.in-Ok-More.field-0-is, i.unread.size) at (m.stepped.measures i.goes) in
    let k = g.I.Input.given c.steps.input - g.I.Input.given c.args.input.now in
    let n = g.I.Input.given c.step.new.input - g.I.Input.given c.steps.input in
    let j = g.I.Input.given c.step.new.input - g.I.Input.given c.args.input.now in
    let rem = g.I.Input.remaining c.args.input.now in
    let rest = λ (models : IsTrue g.I.Input.models). rest_more rem (g.I.Input.remaining c.steps.input)
    (g.I.Input.remaining c.step.new.input) k n j (i.rest models) (e.stepped.read.rest models)
    (let q : j ≡ k + n = omega arith in q) in
    record {
      read = omega arith;
      present = λ models.
          let here : g.I.Input.given c.step.new.input - g.I.Input.given c.steps.input ≤ length
          (g.I.Input.remaining c.steps.input) = e.stepped.read.present models in
          let long : length (g.I.Input.remaining c.steps.input) ≡ length rem - k = ap length (i.rest models)
          ∙ length-drop k rem in
          let before : k ≤ length rem = i.present models in
          omega arith;
      rest = rest;
      goes = rw (stage, body) tt;
      told = λ models. come_next g.P.Source.models c.steps.machine.stage c.steps.machine.walk c.step.new.self.walk rem
          (g.I.Input.remaining c.steps.input) (g.I.Input.remaining c.step.new.input) k n j
          (g.P.Source.size c.args.partition.now)
          _ _ _ _ _ _ _ _ _ _ _ (i.rest models) (let q : j ≡ k + n = omega arith in q) i.synced (i.told models)
          (rw c.in-Ok-More.field-0-is at (m.stepped.told models)) (m.stepped.laid i.goes) (rest models)
          (rw c.in-Ok-More.field-0-is at (m.stepped.heads models i.goes))
          begins measures going quiet (e.stepped.read.present models) (window_of _ _ e.stepped.read.asked);
      fresh = λ f. let q = fresh f in q.1 ∙ i.fresh q.0;
      measured = λ b some. need_stays c.steps.machine.walk c.step.new.self.walk _ going (begins some)
          (rw c.in-Ok-More.field-0-is at m.stepped.goes_on.header) (measures (begins some));
      synced = quiet ∙ i.synced;
      unread = unread_then i.unread e.stepped.unread;
      taken = omega arith;
      frame = e.stepped.read.frame ∙ i.frame;
      read_faults = clean.0 ∙ i.read_faults;
      put_faults = clean.1 ∙ i.put_faults;
      syncs = let q = rw more at (e.stepped.syncs.refused i.goes) in omega (arith, q, quiet, i.syncs);
      calls = omega arith;
      turns = omega arith;
      steps = omega arith;
      greatest = omega arith;
    }

pub returns-in-Ok-Done-clause-touches : goal.returns-in-Ok-Done-clause-touches
returns-in-Ok-Done-clause-touches g c models partition =
    let i = c.steps.invariant in
    let e = c.step.ensures in
    let k = g.I.Input.given c.steps.input - g.I.Input.given c.args.input.now in
    let n = g.I.Input.given c.step.new.input - g.I.Input.given c.steps.input in
    let j = g.I.Input.given c.step.new.input - g.I.Input.given c.args.input.now in
    let rem = g.I.Input.remaining c.args.input.now in
    let same : j ≡ k + n = omega arith in
    let rest = rest_more rem (g.I.Input.remaining c.steps.input) (g.I.Input.remaining c.step.new.input) k n j
    (i.rest models) (e.stepped.read.rest models) same in
    let ended = (ends g.P.Source.models c.steps.machine.stage c.steps.machine.walk c.step.new.self.walk rem
    (g.I.Input.remaining c.steps.input) (g.I.Input.remaining c.step.new.input) k n j
    (g.P.Source.size c.args.partition.now)
    _ _ _ _ _ _ _ _ _ _ c.step.result (i.rest models) same i.synced (i.told models)
    (e.stepped.told models) c.step.new.self.laid
    (e.stepped.read.present models) (window_of _ _ e.stepped.read.asked) rest (e.stepped.laid i.goes)) in
    record {
      kept = ends_kept _ _ _ _ _ _ _ _ _ _ _ _ _ ended partition;
      moments = ends_moments _ _ _ _ _ _ _ _ _ _ _ _ _ ended partition;
    }

pub returns-in-Ok-Done-clause-seen : goal.returns-in-Ok-Done-clause-seen
returns-in-Ok-Done-clause-seen g c models =
    let i = c.steps.invariant in
    let e = c.step.ensures in
    let k = g.I.Input.given c.steps.input - g.I.Input.given c.args.input.now in
    let n = g.I.Input.given c.step.new.input - g.I.Input.given c.steps.input in
    let j = g.I.Input.given c.step.new.input - g.I.Input.given c.args.input.now in
    let rem = g.I.Input.remaining c.args.input.now in
    let same : j ≡ k + n = omega arith in
    let rest = rest_more rem (g.I.Input.remaining c.steps.input) (g.I.Input.remaining c.step.new.input) k n j
    (i.rest models) (e.stepped.read.rest models) same in
    ends_seen _ _ _ _ _ _ _ _ _ _ _ _ _
    (ends g.P.Source.models c.steps.machine.stage c.steps.machine.walk c.step.new.self.walk rem
    (g.I.Input.remaining c.steps.input) (g.I.Input.remaining c.step.new.input) k n j
    (g.P.Source.size c.args.partition.now)
    _ _ _ _ _ _ _ _ _ _ c.step.result (i.rest models) same i.synced (i.told models)
    (e.stepped.told models) c.step.new.self.laid
    (e.stepped.read.present models) (window_of _ _ e.stepped.read.asked) rest (e.stepped.laid i.goes))

pub returns-in-Err-clause-touches : goal.returns-in-Err-clause-touches
returns-in-Err-clause-touches g c models partition =
    let i = c.steps.invariant in
    let e = c.step.ensures in
    let k = g.I.Input.given c.steps.input - g.I.Input.given c.args.input.now in
    let n = g.I.Input.given c.step.new.input - g.I.Input.given c.steps.input in
    let j = g.I.Input.given c.step.new.input - g.I.Input.given c.args.input.now in
    let rem = g.I.Input.remaining c.args.input.now in
    let same : j ≡ k + n = omega arith in
    let rest = rest_more rem (g.I.Input.remaining c.steps.input) (g.I.Input.remaining c.step.new.input) k n j
    (i.rest models) (e.stepped.read.rest models) same in
    let ended = (ends g.P.Source.models c.steps.machine.stage c.steps.machine.walk c.step.new.self.walk rem
    (g.I.Input.remaining c.steps.input) (g.I.Input.remaining c.step.new.input) k n j
    (g.P.Source.size c.args.partition.now)
    _ _ _ _ _ _ _ _ _ _ c.step.result (i.rest models) same i.synced (i.told models)
    (e.stepped.told models) c.step.new.self.laid
    (e.stepped.read.present models) (window_of _ _ e.stepped.read.asked) rest (e.stepped.laid i.goes)) in
    record {
      kept = ends_kept _ _ _ _ _ _ _ _ _ _ _ _ _ ended partition;
      moments = ends_moments _ _ _ _ _ _ _ _ _ _ _ _ _ ended partition;
    }

pub returns-in-Err-clause-seen : goal.returns-in-Err-clause-seen
returns-in-Err-clause-seen g c models =
    let i = c.steps.invariant in
    let e = c.step.ensures in
    let k = g.I.Input.given c.steps.input - g.I.Input.given c.args.input.now in
    let n = g.I.Input.given c.step.new.input - g.I.Input.given c.steps.input in
    let j = g.I.Input.given c.step.new.input - g.I.Input.given c.args.input.now in
    let rem = g.I.Input.remaining c.args.input.now in
    let same : j ≡ k + n = omega arith in
    let rest = rest_more rem (g.I.Input.remaining c.steps.input) (g.I.Input.remaining c.step.new.input) k n j
    (i.rest models) (e.stepped.read.rest models) same in
    ends_seen _ _ _ _ _ _ _ _ _ _ _ _ _
    (ends g.P.Source.models c.steps.machine.stage c.steps.machine.walk c.step.new.self.walk rem
    (g.I.Input.remaining c.steps.input) (g.I.Input.remaining c.step.new.input) k n j
    (g.P.Source.size c.args.partition.now)
    _ _ _ _ _ _ _ _ _ _ c.step.result (i.rest models) same i.synced (i.told models)
    (e.stepped.told models) c.step.new.self.laid
    (e.stepped.read.present models) (window_of _ _ e.stepped.read.asked) rest (e.stepped.laid i.goes))

pub returns-in-Ok-Done-clause-flashes : goal.returns-in-Ok-Done-clause-flashes
returns-in-Ok-Done-clause-flashes g c models =
    let i = c.steps.invariant in
    let e = c.step.ensures in
    let k = g.I.Input.given c.steps.input - g.I.Input.given c.args.input.now in
    let n = g.I.Input.given c.step.new.input - g.I.Input.given c.steps.input in
    let j = g.I.Input.given c.step.new.input - g.I.Input.given c.args.input.now in
    let rem = g.I.Input.remaining c.args.input.now in
    let same : j ≡ k + n = omega arith in
    let rest = rest_more rem (g.I.Input.remaining c.steps.input) (g.I.Input.remaining c.step.new.input) k n j
    (i.rest models) (e.stepped.read.rest models) same in
    let ended = rw c.in-Ok-Done.field-0-is at (c.in-Ok-Done.ensures.stepped.leaves i.goes) in
    let measures = rw (c.in-Ok-Done.field-0-is, i.unread.size) at (c.in-Ok-Done.ensures.stepped.measures i.goes) in
    let going = going_phase c.steps.machine.stage c.steps.machine.walk.phase i.goes in
    done_whole _ c.steps.machine.walk _ _ _ _ _ _ _ _ _ _ _
    (ends g.P.Source.models c.steps.machine.stage c.steps.machine.walk c.step.new.self.walk rem
    (g.I.Input.remaining c.steps.input) (g.I.Input.remaining c.step.new.input) k n j
    (g.P.Source.size c.args.partition.now)
    _ _ _ _ _ _ _ _ _ _ (Ok Done) (i.rest models) same i.synced (i.told models)
    (rw c.in-Ok-Done.field-0-is at (c.in-Ok-Done.ensures.stepped.told models)) c.step.new.self.laid
    (e.stepped.read.present models) (window_of _ _ e.stepped.read.asked) rest
    (c.in-Ok-Done.ensures.stepped.laid i.goes)) ended _ _ (g.met.I.Input.are_bytes c.args.input.now models)
    (known_head _ _ _ _ _ _ _ _ _ _ _ _ (i.told models) going measures.0) measures.1 c.blocks-in-Ok-Done.ensures

pub returns-in-Ok-Done-clause-holds : goal.returns-in-Ok-Done-clause-holds
returns-in-Ok-Done-clause-holds g c models t =
    let i = c.steps.invariant in
    let e = c.step.ensures in
    let k = g.I.Input.given c.steps.input - g.I.Input.given c.args.input.now in
    let n = g.I.Input.given c.step.new.input - g.I.Input.given c.steps.input in
    let j = g.I.Input.given c.step.new.input - g.I.Input.given c.args.input.now in
    let rem = g.I.Input.remaining c.args.input.now in
    let same : j ≡ k + n = omega arith in
    let rest = rest_more rem (g.I.Input.remaining c.steps.input) (g.I.Input.remaining c.step.new.input) k n j
    (i.rest models) (e.stepped.read.rest models) same in
    let ended = rw c.in-Ok-Done.field-0-is at (c.in-Ok-Done.ensures.stepped.leaves i.goes) in
    done_holds _ c.steps.machine.walk _ _ _ _ _ _ _ _ _ _ _
    (ends g.P.Source.models c.steps.machine.stage c.steps.machine.walk c.step.new.self.walk rem
    (g.I.Input.remaining c.steps.input) (g.I.Input.remaining c.step.new.input) k n j
    (g.P.Source.size c.args.partition.now)
    _ _ _ _ _ _ _ _ _ _ (Ok Done) (i.rest models) same i.synced (i.told models)
    (rw c.in-Ok-Done.field-0-is at (c.in-Ok-Done.ensures.stepped.told models)) c.step.new.self.laid
    (e.stepped.read.present models) (window_of _ _ e.stepped.read.asked) rest
    (c.in-Ok-Done.ensures.stepped.laid i.goes)) ended t

pub returns-in-Err-clause-flashes : goal.returns-in-Err-clause-flashes
returns-in-Err-clause-flashes g c models =
    let i = c.steps.invariant in
    let e = c.step.ensures in
    let k = g.I.Input.given c.steps.input - g.I.Input.given c.args.input.now in
    let n = g.I.Input.given c.step.new.input - g.I.Input.given c.steps.input in
    let j = g.I.Input.given c.step.new.input - g.I.Input.given c.args.input.now in
    let rem = g.I.Input.remaining c.args.input.now in
    let same : j ≡ k + n = omega arith in
    let rest = rest_more rem (g.I.Input.remaining c.steps.input) (g.I.Input.remaining c.step.new.input) k n j
    (i.rest models) (e.stepped.read.rest models) same in
    let m = c.in-Err.ensures in
    let going = going_phase c.steps.machine.stage c.steps.machine.walk.phase i.goes in
    fault_flashes _ _ _ _ _ _ _ _ _ _ _ _ _ _ _ _ _ _ _ _ (g.met.I.Input.are_bytes c.args.input.now models) going
    (i.rest models) (i.told models) c.in-Err.fault
    (ends g.P.Source.models c.steps.machine.stage c.steps.machine.walk c.step.new.self.walk rem
    (g.I.Input.remaining c.steps.input) (g.I.Input.remaining c.step.new.input) k n j
    (g.P.Source.size c.args.partition.now)
    _ _ _ _ _ _ _ _ _ _ (Err c.in-Err.fault) (i.rest models) same i.synced (i.told models)
    (m.stepped.told models) c.step.new.self.laid
    (e.stepped.read.present models) (window_of _ _ e.stepped.read.asked) rest tt)
    (m.stepped.leaves i.goes) (m.stepped.heads models i.goes) (rw i.unread.size at (m.stepped.measures i.goes))
    (short_same c.in-Err.fault _ _ (λ q. ap g.P.Partition.taken q) m.stepped.short)

pub returns-in-Err-clause-holds : goal.returns-in-Err-clause-holds
returns-in-Err-clause-holds g c models t =
    let i = c.steps.invariant in
    let e = c.step.ensures in
    let k = g.I.Input.given c.steps.input - g.I.Input.given c.args.input.now in
    let n = g.I.Input.given c.step.new.input - g.I.Input.given c.steps.input in
    let j = g.I.Input.given c.step.new.input - g.I.Input.given c.args.input.now in
    let rem = g.I.Input.remaining c.args.input.now in
    let same : j ≡ k + n = omega arith in
    let rest = rest_more rem (g.I.Input.remaining c.steps.input) (g.I.Input.remaining c.step.new.input) k n j
    (i.rest models) (e.stepped.read.rest models) same in
    let m = c.in-Err.ensures in
    let going = going_phase c.steps.machine.stage c.steps.machine.walk.phase i.goes in
    fault_holds _ _ _ _ _ _ _ _ _ _ _ _ _ _ _ _ _ _ _ _ (g.met.I.Input.are_bytes c.args.input.now models) going
    (i.rest models) (i.told models) c.in-Err.fault
    (ends g.P.Source.models c.steps.machine.stage c.steps.machine.walk c.step.new.self.walk rem
    (g.I.Input.remaining c.steps.input) (g.I.Input.remaining c.step.new.input) k n j
    (g.P.Source.size c.args.partition.now)
    _ _ _ _ _ _ _ _ _ _ (Err c.in-Err.fault) (i.rest models) same i.synced (i.told models)
    (m.stepped.told models) c.step.new.self.laid
    (e.stepped.read.present models) (window_of _ _ e.stepped.read.asked) rest tt)
    (m.stepped.leaves i.goes) (rw i.unread.size at (m.stepped.measures i.goes))
    (short_same c.in-Err.fault _ _ (λ q. ap g.P.Source.content q) m.stepped.short) t

pub returns-in-Err-clause-untouched : goal.returns-in-Err-clause-untouched
returns-in-Err-clause-untouched g c =
    let i = c.steps.invariant in
    let m = c.in-Err.ensures in
    short_first c.in-Err.fault c.steps.machine.walk _ _ _
    (going_phase c.steps.machine.stage c.steps.machine.walk.phase i.goes)
    (rw i.unread.size at (m.stepped.measures i.goes)) i.measured i.fresh (λ p q. q ∙ p) m.stepped.short

pub returns-in-Ok-Done-clause-cause : goal.returns-in-Ok-Done-clause-cause
returns-in-Ok-Done-clause-cause g c =
    let i = c.steps.invariant in
    let clean = c.in-Ok-Done.ensures.stepped.cause i.goes in
    (clean.0 ∙ i.read_faults, clean.1 ∙ i.put_faults)

pub returns-in-Err-clause-cause : goal.returns-in-Err-clause-cause
returns-in-Err-clause-cause g c = let i = c.steps.invariant in
    rw (i.read_faults, i.put_faults) at (c.in-Err.ensures.stepped.cause i.goes)

-- what is read of an input that models its content is there, step after step
read_on : (models : Bool) (n n1 n2 : ℕ) (rem r1 r2 : List ℕ) → n ≤ n1 → n1 ≤ n2
    → (IsTrue models → n1 - n ≤ length rem) → (IsTrue models → r1 ≡ drop (n1 - n) rem) → Reads models n1 n2 r1 r2
    → Reads models n n2 rem r2
read_on models n n1 n2 rem r1 r2 a b before rest e = record {
  present = λ t. let k = before t in let q = e.present t in
      omega (arith, a, b, k, q, ap length (rest t), length-drop (n1 - n) rem);
  rest = λ t. rest_more rem r1 r2 (n1 - n) (n2 - n1) (n2 - n) (rest t) (e.rest t)
      (let q : n2 - n ≡ (n1 - n) + (n2 - n1) = omega (arith, a, b) in q);
}

pub returns-in-Ok-Done-clause-read : goal.returns-in-Ok-Done-clause-read
returns-in-Ok-Done-clause-read g c =
    let i = c.steps.invariant in
    let e = c.step.ensures in
    read_on _ _ _ _ _ _ _ i.read e.stepped.grows.given i.present i.rest
    (record { present = e.stepped.read.present; rest = e.stepped.read.rest })

pub returns-in-Err-clause-read : goal.returns-in-Err-clause-read
returns-in-Err-clause-read g c =
    let i = c.steps.invariant in
    let e = c.step.ensures in
    read_on _ _ _ _ _ _ _ i.read e.stepped.grows.given i.present i.rest
    (record { present = e.stepped.read.present; rest = e.stepped.read.rest })

-- ---- of the partition nothing was read

pub returns-in-Ok-Done-clause-unread : goal.returns-in-Ok-Done-clause-unread
returns-in-Ok-Done-clause-unread g c = unread_then c.steps.invariant.unread c.step.ensures.stepped.unread

pub returns-in-Err-clause-unread : goal.returns-in-Err-clause-unread
returns-in-Err-clause-unread g c = unread_then c.steps.invariant.unread c.step.ensures.stepped.unread
