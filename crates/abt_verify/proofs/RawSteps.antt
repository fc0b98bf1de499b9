-- A raw image: what stands so far, and the next bytes of it.
use Rattle.std.proofs.Common.{◌≡◌, ℕ, ◌+◌, ◌≤◌, Bool, false, List, ◌++◌, length, take, drop, Option, Some, None, Err}
use Rattle.std.proofs.Common.{sym, ap, subst, ◌∙◌, arith, take-append-drop, ◌==◌, nat_lt, ltb-false, inl, inr}
use Rattle.std.specs.Prelude.{OnOk, IfNone}
use Rattle.std.proofs.lemmas.List.{length-map, length-take-le, map-append, take_all}
use Rattle.std.proofs.lemmas.Bool.{cases_Bool}
use Rattle.abt_io.specs.declared.device.DeviceFault.{DeviceFault}
use Rattle.abt_chunks.specs.Places.{from_place}
use Rattle.abt_verify.specs.Fault.{short_fault}
use Rattle.abt_io.proofs.Parts.{take_plus}
use Rattle.abt_chunks.specs.declared.progress.MachineProgress.{MachineProgress}
use Rattle.abt_chunks.specs.Ahead.{somes}
use Rattle.abt_verify.specs.declared.fault.VerifyFault.{VerifyFault}
use Rattle.abt_verify.specs.declared.fault.VerifyFault.TheVariants as fails
use Rattle.abt_verify.specs.Comparing.{PartDiffers}
use Rattle.abt_verify.specs.Standing.{FirstDiffers, Stands}
use Rattle.abt_verify.specs.Stepping.{OnDiffers, passed_by, raw_answer}
use Rattle.abt_verify.proofs.Said.{first_more, stands_more}

module _ (p x : List ℕ) (at n : ℕ) (there : at + n ≤ length x) where
  long : at ≡ length (somes (take at x))
  long = sym (length-map (take at x) (λ y. Some y) ∙ length-take-le at x (omega (arith, there)))

  joined : somes (take at x) ++ somes (take n (drop at x)) ≡ somes (take (at + n) x)
  joined = sym (map-append (λ (y : ℕ). Some y) (take at x) (take n (drop at x))) ∙ ap somes (take_plus at n x)

  whole : (somes (take at x) ++ somes (take n (drop at x))) ++ somes (drop (at + n) x) ≡ somes x
  whole =
      ap (λ (cs : List (Option ℕ)). cs ++ somes (drop (at + n) x)) joined
      ∙ sym (map-append (λ (y : ℕ). Some y) (take (at + n) x) (drop (at + n) x))
      ∙ ap somes (take-append-drop (at + n) x)

  -- the next bytes stand, too
  pub raw_stands : Stands p (somes (take at x)) → Stands p (from_place at (somes (take n (drop at x))))
      → Stands p (somes (take (at + n) x))
  raw_stands before here =
      subst (λ (cs : List (Option ℕ)). Stands p cs) joined
      (stands_more p (somes (take at x)) (somes (take n (drop at x))) at before long here)

  -- or one of them differs
  pub raw_differs : (d : ℕ) → Stands p (somes (take at x))
      → FirstDiffers p (from_place at (somes (take n (drop at x)))) d → FirstDiffers p (somes x) d
  raw_differs d before here =
      subst (λ (cs : List (Option ℕ)). FirstDiffers p cs d) whole
      (first_more p (somes (take at x)) (somes (take n (drop at x))) (somes (drop (at + n) x)) at d before long here)

  raw_fault : (f : VerifyFault) → Stands p (somes (take at x))
      → PartDiffers (Some f) p (from_place at (somes (take n (drop at x))))
      → OnDiffers {X = MachineProgress} (Err f) (λ d. FirstDiffers p (somes x) d)
  raw_fault (fails.Differs d) before here = raw_differs d before here
  raw_fault f before here = tt

  ends_well : (P : Type 0) → P → OnOk (raw_answer n None) P
  ends_well P h = elim (cases_Bool (n == 0)) [ inl t ↦ rw t h | inr t ↦ rw t h ]

  no_fault : (P : ℕ → Type 0) → OnDiffers (raw_answer n None) P
  no_fault P = elim (cases_Bool (n == 0)) [ inl t ↦ rw t tt | inr t ↦ rw t tt ]

  -- what a step leaves standing, and what it finds
  pub raw_next : (f : Option VerifyFault) → Stands p (somes (take at x))
      → IfNone f (Stands p (from_place at (somes (take n (drop at x)))))
      → OnOk (raw_answer n f) (Stands p (somes (take (at + passed_by n f) x)))
  raw_next None before here = ends_well _ (raw_stands before here)
  raw_next (Some f) before here = tt

  pub raw_found : (f : Option VerifyFault) → Stands p (somes (take at x))
      → PartDiffers f p (from_place at (somes (take n (drop at x))))
      → OnDiffers (raw_answer n f) (λ d. FirstDiffers p (somes x) d)
  raw_found None before here = no_fault _
  raw_found (Some f) before here = raw_fault f before here

-- where nothing is left, all stands
pub raw_all : (p x : List ℕ) (at n : ℕ) → at ≡ n → n ≡ length x → Stands p (somes (take at x)) → Stands p (somes x)
raw_all p x at n done whole h =
    subst (λ (l : List ℕ). Stands p (somes l)) (take_all at x (omega (arith, done, whole))) h

-- no fault, where all bytes came
pub all_came : (f : Option DeviceFault) (came wanted : ℕ)
    → (let a : Option VerifyFault = None in a ≡ short_fault f came wanted) → wanted ≤ came
all_came (Some d) came wanted e = absurd cc
all_came None came wanted e = elim (cases_Bool (nat_lt came wanted)) [
  | inl t ↦ absurd (let z : (let a : Option VerifyFault = None in
      let b : Option VerifyFault = Some fails.SourceChanged in a ≡ b) = rw t at e in cc)
  | inr t ↦ ltb-false came wanted t
]
