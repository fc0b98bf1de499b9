-- Turns of a walk.
use Rattle.std.proofs.Common.{◌≡◌, ℕ, ◌+◌, ◌-◌, ◌≤◌, ◌∙◌, Bool, List, length, ap, arith, refl, length-drop}
use Rattle.std.proofs.Math.Nat.{le_trans}
use Rattle.abt_io.proofs.Parts.{rest_more}
use Rattle.abt_sparse.specs.declared.fault.SparseFault.{SparseFault}
use Rattle.abt_sparse.specs.declared.fault.SparseFault.TheVariants as faults
use Rattle.abt_chunks.specs.declared.walk.Phase.{Phase}
use Rattle.abt_chunks.specs.declared.walk.Phase.TheVariants as phases
use Rattle.abt_chunks.specs.declared.walk.Walk.{Walk}
use Rattle.abt_chunks.specs.declared.walk.Part.{Part}
use Rattle.abt_chunks.specs.declared.walk.Part.TheVariants as parts
use Rattle.abt_chunks.specs.declared.walk.Turn.{Turn}
use Rattle.abt_chunks.specs.declared.walk.Turn.TheVariants as turns
use Rattle.abt_chunks.specs.Turns.{AtTurn, ask_of, needed_of}
use Rattle.abt_chunks.specs.ListingAhead.{Closes}
use Rattle.abt_chunks.specs.Parts.{Says, SaysUnlessDevice, Caused}
use Rattle.abt_chunks.specs.Places.{place_in, upto_in}
use Rattle.abt_chunks.specs.Taking.{InputState, OwnTurn, ReadsOn, TurnTaken}
use Rattle.abt_chunks.specs.Cause.{IsOwn}

pub needed_asked : (turn : Turn) (s : Walk) → AtTurn turn s → needed_of turn ≤ ask_of turn s
needed_asked turns.Header s h = omega arith
needed_asked turns.Extra s h = omega (arith, h.1)
needed_asked turns.Raw s h = omega (arith, h.3)
needed_asked turns.Word s h = omega arith
needed_asked turns.Fill s h = omega arith
needed_asked turns.Gap s h = omega arith
needed_asked turns.Chunk s h = omega arith
needed_asked turns.End s h = omega arith
needed_asked turns.Over s h = omega arith

pub needed_room : (turn : Turn) → needed_of turn ≤ 28
needed_room turns.Header = omega arith
needed_room turns.Extra = omega arith
needed_room turns.Raw = omega arith
needed_room turns.Word = omega arith
needed_room turns.Fill = omega arith
needed_room turns.Gap = omega arith
needed_room turns.Chunk = omega arith
needed_room turns.End = omega arith
needed_room turns.Over = omega arith

pub caused_own : (f : SparseFault) → IsOwn f → Caused (parts.Fault f) phases.Header 1 0
caused_own (faults.Read d) h = absurd h
caused_own (faults.Write d) h = absurd h
caused_own f h = tt

told_fault : (f : SparseFault) (s s' : Walk) (c t : List ℕ) → Says (parts.Fault f) s s' c t
    → SaysUnlessDevice (parts.Fault f) s s' c t
told_fault (faults.Read d) s s' c t h = tt
told_fault (faults.Write d) s s' c t h = tt
told_fault f s s' c t h = h

pub told : (q : Part) (s s' : Walk) (c t : List ℕ) → Says q s s' c t → SaysUnlessDevice q s s' c t
told (parts.Fault f) s s' c t h = told_fault f s s' c t h
told q s s' c t h = h

place_inside : (p : Phase) (s : Walk) → place_in p s + 0 ≤ upto_in p s
place_inside phases.Header s = omega arith
place_inside phases.Body s = omega arith
place_inside phases.Done s = omega arith
place_inside (phases.Failed f) s = omega arith

-- a turn that refuses the image, and one by its own fault
pub refused_turn : (q : Part) (f : SparseFault) (s s' : Walk) (n : ℕ) → q ≡ parts.Fault f → s'.phase ≡ phases.Failed f
    → s'.header ≡ s.header → Closes (parts.Fault f) s.phase s → TurnTaken q s s' n
refused_turn q f s s' n part failed same closes = rw part (record {
  leaves = failed;
  moved = refl;
  inside = place_inside s.phase s;
  header = λ e. same;
  fewer = λ e. absurd cc;
  numbers = λ e. absurd cc;
  place = λ e. absurd cc;
  closes = closes;
})

pub refused : (q : Part) (f : SparseFault) (s s' : Walk) (n : ℕ) → q ≡ parts.Fault f → s'.phase ≡ phases.Failed f
    → s'.header ≡ s.header → Closes (parts.Fault f) s.phase s → Caused (parts.Fault f) s.phase 1 0 → OwnTurn q s s' n
refused q f s s' n part failed same closes cause = record {
  turn = refused_turn q f s s' n part failed same closes;
  words = λ fills skips. rw part (record { within = tt; empties = tt });
  cause = rw part cause;
}

-- one call after the other
pub reads_on : (models : Bool) (a b z : InputState) → ReadsOn models a b → ReadsOn models b z → ReadsOn models a z
reads_on models a b z k d = record {
  given = le_trans k.given d.given;
  present = λ told.
      let long : length b.remaining ≡ length a.remaining - (b.given - a.given) = ap length (k.rest told)
      ∙ length-drop (b.given - a.given) a.remaining in
      omega (arith, long, k.given, d.given, k.present told, d.present told);
  rest = λ told. rest_more a.remaining b.remaining z.remaining (b.given - a.given) (z.given - b.given)
      (z.given - a.given) (k.rest told) (d.rest told) (omega (arith, k.given, d.given));
  frame = d.frame ∙ k.frame;
  faults = le_trans k.faults d.faults;
}
