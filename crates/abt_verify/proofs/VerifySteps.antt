-- One step: from a part of the image to what is compared of it.
use Rattle.std.proofs.Common.{◌≡◌, ℕ, ◌+◌, ◌*◌, ◌≤◌, Bool, true, false, List, [], ◌++◌, length, take, replicate, Option}
use Rattle.std.proofs.Common.{Some, None, Ok, Err, refl, sym, ap, ◌∙◌, arith}
use Rattle.std.specs.Prelude.{IsTrue}
use Rattle.std.specs.List.{concat}
use Rattle.std.proofs.lemmas.List.{length-map, length-replicate, length-take-le}
use Rattle.abt_io.proofs.Words.{length_words}
use Rattle.abt_io.specs.declared.device.DeviceFault.{DeviceFault}
use Rattle.abt_sparse.specs.declared.fault.SparseFault.{SparseFault}
use Rattle.abt_sparse.specs.declared.fault.SparseFault.TheVariants as faults
use Rattle.abt_chunks.specs.declared.progress.MachineProgress.{MachineProgress}
use Rattle.abt_chunks.specs.declared.progress.MachineProgress.TheVariants as answers
use Rattle.abt_chunks.specs.declared.walk.Phase.{Phase}
use Rattle.abt_chunks.specs.declared.walk.Phase.TheVariants as phases
use Rattle.abt_chunks.specs.declared.walk.Walk.{Walk}
use Rattle.abt_chunks.specs.declared.walk.Part.{Part}
use Rattle.abt_chunks.specs.declared.walk.Part.TheVariants as parts
use Rattle.abt_chunks.specs.Ahead.{before, somes, stopping}
use Rattle.abt_chunks.specs.Expanding.{IsGoing, OnMoreExpanding, answer_by, cells_by}
use Rattle.abt_chunks.specs.Parts.{SaysUnlessDevice, Caused, Moved, Within, ahead, ahead_in, given_by, goes_on}
use Rattle.abt_chunks.specs.Parts.{is_fault, PartLeaves}
use Rattle.abt_chunks.specs.Places.{from_place, place_of, said_by}
use Rattle.abt_verify.specs.declared.fault.VerifyFault.{VerifyFault}
use Rattle.abt_verify.specs.declared.fault.VerifyFault.TheVariants as fails
use Rattle.abt_verify.specs.declared.stage.VerifyStage.{VerifyStage}
use Rattle.abt_verify.specs.declared.stage.VerifyStage.TheVariants as stages
use Rattle.abt_verify.specs.Comparing.{ReadsNothing, PartDiffers, compared_len}
use Rattle.abt_verify.specs.Fault.{PartCause, verify_fault_of}
use Rattle.abt_verify.specs.Standing.{FirstDiffers, Stands}
use Rattle.abt_verify.specs.Stepping.{Compares, IsComparing}
use Rattle.abt_verify.proofs.Said.{said_nones, said_somes, stands_none}

-- ---- where the blocks end

pub going_phase : (st : VerifyStage) (p : Phase) → IsComparing st p → IsGoing p
going_phase stages.Going p h = h
going_phase stages.Done p h = absurd h
going_phase (stages.Failed f) p h = absurd h

-- ---- a part is as long as its cells, and they say so many bytes

cells_said : (q : Part) (win : List ℕ) (r m k : ℕ) → Moved q r → r ≤ length win → Within q m k
    → said_by (cells_by q win) ≡ compared_len q
cells_said (parts.Raw n) win r m k moved le within = said_somes (take n win)
    ∙ length-take-le n win (omega (arith, moved.0, le))
cells_said (parts.Words word n) win r m k moved le within = said_somes (concat (replicate n word))
    ∙ length_words n word within.2
cells_said (parts.Skip n) win r m k moved le within = said_nones (4 * n)
cells_said parts.Nothing win r m k moved le within = refl
cells_said parts.End win r m k moved le within = refl
cells_said (parts.Fault f) win r m k moved le within = refl

length_cells : (q : Part) (win : List ℕ) (r m k : ℕ) → Moved q r → r ≤ length win → Within q m k
    → length (cells_by q win) ≡ given_by q
length_cells (parts.Raw n) win r m k moved le within = length-map (take n win) (λ x. Some x)
    ∙ length-take-le n win (omega (arith, moved.0, le))
length_cells (parts.Words word n) win r m k moved le within = length-map (concat (replicate n word)) (λ x. Some x)
    ∙ length_words n word within.2
length_cells (parts.Skip n) win r m k moved le within = length-replicate (4 * n) None
length_cells parts.Nothing win r m k moved le within = refl
length_cells parts.End win r m k moved le within = refl
length_cells (parts.Fault f) win r m k moved le within = refl

-- what a part says, as cells before what is ahead
as_cells : (q : Part) (s s' : Walk) (c t win : List ℕ) (r : ℕ) → take r win ≡ c → Moved q r → is_fault q ≡ false
    → PartLeaves q s'.phase → SaysUnlessDevice q s s' c t → ahead s (c ++ t) ≡ before (cells_by q win) (ahead s' t)
as_cells (parts.Raw n) s s' c t win r w moved sound leaves told =
    told.1 ∙ ap (λ (x : List ℕ). before (somes x) (ahead s' t)) (sym w ∙ ap (λ (k : ℕ). take k win) (sym moved.0))
as_cells (parts.Words word n) s s' c t win r w moved sound leaves told = told
as_cells (parts.Skip n) s s' c t win r w moved sound leaves told = told
as_cells parts.Nothing s s' c t win r w moved sound leaves told = told
as_cells parts.End s s' c t win r w moved sound leaves told = rw leaves told
as_cells (parts.Fault f) s s' c t win r w moved sound leaves told = absurd (let b : true ≡ false = sound in cc)

write_caused : (d : DeviceFault) (ph : Phase) (a z : ℕ) → IsGoing ph → Caused (parts.Fault (faults.Write d)) ph a z → ⊥
write_caused d phases.Header a z going h = h
write_caused d phases.Body a z going h = h
write_caused d phases.Done a z going h = going
write_caused d (phases.Failed f) a z going h = going

at_fault : (s' : Walk) (t : List ℕ) (f : SparseFault) → s'.phase ≡ phases.Failed f → ahead s' t ≡ stopping f
at_fault s' t f e = ap (λ (ph : Phase). ahead_in ph s' t) e

some_none : (f : VerifyFault) → (let a : Option VerifyFault = Some f in a ≡ None) → ⊥
some_none f e = cc

-- ---- what a step compares

module _ (models : Bool) (s s' : Walk) (c rest win p : List ℕ) (given given' r m k : ℕ) (in_window : take r win ≡ c)
    (long : r ≤ length win) where
  abbrev Says_all : Part → Type 0
  Says_all q = (t : List ℕ) → (is_fault q ≡ true → t ≡ rest) → SaysUnlessDevice q s s' c t

  abbrev Stands_there : Part → Type 0
  Stands_there q = IsTrue models → Stands p (from_place (place_of s) (cells_by q win))

  sound_told : (q : Part) → Moved q r → is_fault q ≡ false → PartLeaves q s'.phase → Says_all q → (t : List ℕ)
      → ahead s (c ++ t) ≡ before (cells_by q win) (ahead s' t)
  sound_told q moved sound leaves says t =
      as_cells q s s' c t win r in_window moved sound leaves
      (says t (λ e. absurd (let b : true ≡ false = sym e ∙ sound in cc)))

  goes_compared : (q : Part) (a : MachineProgress) → Moved q r → Within q m k → is_fault q ≡ false
      → PartLeaves q s'.phase
      → Says_all q → OnMoreExpanding {E = VerifyFault} (Ok a) (place_of s' ≡ place_of s + length (cells_by q win))
      → given' ≡ given + compared_len q → Stands_there q
      → Compares models (Ok a) s s' c rest p given given'
  goes_compared q a moved within sound leaves says place count stands = record {
    cells = cells_by q win;
    told = λ t e. sound_told q moved sound leaves says t;
    moved = place;
    counted = count ∙ ap (λ (n : ℕ). given + n) (sym (cells_said q win r m k moved long within));
    stands = stands;
    differs = λ t. tt;
  }

  more_place : (q : Part) → Moved q r → Within q m k → place_of s' ≡ place_of s + given_by q
      → place_of s' ≡ place_of s + length (cells_by q win)
  more_place q moved within e = e ∙ ap (λ (n : ℕ). place_of s + n) (sym (length_cells q win r m k moved long within))

  fault_compared : (f : SparseFault) (ph : Phase) (a z : ℕ) → IsGoing ph → Caused (parts.Fault f) ph a z
      → PartLeaves (parts.Fault f) s'.phase → Says_all (parts.Fault f)
      → Compares models (answer_by verify_fault_of (parts.Fault f)) s s' c rest p given given'
  fault_compared (faults.Read d) ph a z going caused leaves says = record {
    cells = [];
    told = λ t e. tt;
    moved = tt;
    counted = tt;
    stands = λ t. tt;
    differs = λ t. tt;
  }
  fault_compared (faults.Write d) ph a z going caused leaves says = absurd (write_caused d ph a z going caused)
  fault_compared f ph a z going caused leaves says = record {
    cells = [];
    told = λ t e. says t (λ b. e refl) ∙ sym (at_fault s' t f leaves);
    moved = tt;
    counted = tt;
    stands = λ t. stands_none p (place_of s);
    differs = λ t. tt;
  }

  -- a part that stands
  pub compared_part : (q : Part) (a z : ℕ) → IsGoing s.phase → Caused q s.phase a z → Moved q r → Within q m k
      → PartLeaves q s'.phase → Says_all q → (IsTrue (goes_on q) → place_of s' ≡ place_of s + given_by q)
      → given' ≡ given + compared_len q → Stands_there q
      → Compares models (answer_by verify_fault_of q) s s' c rest p given given'
  compared_part (parts.Raw n) a z going caused moved within leaves says place count stands =
      goes_compared (parts.Raw n) answers.More moved within refl leaves says
      (more_place (parts.Raw n) moved within (place refl)) count stands
  compared_part (parts.Words word n) a z going caused moved within leaves says place count stands =
      goes_compared (parts.Words word n) answers.More moved within refl leaves says
      (more_place (parts.Words word n) moved within (place refl)) count stands
  compared_part (parts.Skip n) a z going caused moved within leaves says place count stands =
      goes_compared (parts.Skip n) answers.More moved within refl leaves says
      (more_place (parts.Skip n) moved within (place refl)) count stands
  compared_part parts.Nothing a z going caused moved within leaves says place count stands =
      goes_compared parts.Nothing answers.More moved within refl leaves says
      (more_place parts.Nothing moved within (place refl)) count stands
  compared_part parts.End a z going caused moved within leaves says place count stands =
      goes_compared parts.End answers.Done moved within refl leaves says tt count stands
  compared_part (parts.Fault f) a z going caused moved within leaves says place count stands =
      fault_compared f s.phase a z going caused leaves says

  different_at : (q : Part) (n : ℕ) → Moved q r → is_fault q ≡ false → PartLeaves q s'.phase → Says_all q
      → (IsTrue models → FirstDiffers p (from_place (place_of s) (cells_by q win)) n)
      → Compares models (Err (fails.Differs n)) s s' c rest p given given'
  different_at q n moved sound leaves says differs = record {
    cells = cells_by q win;
    told = λ t e. sound_told q moved sound leaves says t;
    moved = tt;
    counted = tt;
    stands = λ t. tt;
    differs = differs;
  }

  different : (q : Part) (n : ℕ)
      → (ReadsNothing q → (let a : Option VerifyFault = Some (fails.Differs n) in a ≡ None)) → Moved q r
      → PartLeaves q s'.phase → Says_all q
      → (IsTrue models → FirstDiffers p (from_place (place_of s) (cells_by q win)) n)
      → Compares models (Err (fails.Differs n)) s s' c rest p given given'
  different (parts.Raw j) n still moved leaves says differs =
      different_at (parts.Raw j) n moved refl leaves says differs
  different (parts.Words word j) n still moved leaves says differs =
      different_at (parts.Words word j) n moved refl leaves says differs
  different (parts.Skip j) n still moved leaves says differs = absurd (some_none (fails.Differs n) (still tt))
  different parts.Nothing n still moved leaves says differs = absurd (some_none (fails.Differs n) (still tt))
  different parts.End n still moved leaves says differs = absurd (some_none (fails.Differs n) (still tt))
  different (parts.Fault f) n still moved leaves says differs = absurd (some_none (fails.Differs n) (still tt))

  -- a part that does not
  pub refused_part : (q : Part) (f : VerifyFault) (a z : ℕ) → PartCause (Some f) a z
      → (ReadsNothing q → (let x : Option VerifyFault = Some f in x ≡ None)) → Moved q r → PartLeaves q s'.phase
      → Says_all q
      → (IsTrue models → PartDiffers (Some f) p (from_place (place_of s) (cells_by q win)))
      → Compares models (Err f) s s' c rest p given given'
  refused_part q (fails.PartitionRead d) a z cause still moved leaves says differs = record {
    cells = [];
    told = λ t e. tt;
    moved = tt;
    counted = tt;
    stands = λ t. tt;
    differs = λ t. tt;
  }
  refused_part q (fails.Differs n) a z cause still moved leaves says differs =
      different q n still moved leaves says differs
  refused_part q f a z cause still moved leaves says differs = absurd cause
