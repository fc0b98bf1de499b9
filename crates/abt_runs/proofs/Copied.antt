-- The bytes of raw blocks of a raw image.
use Rattle.std.proofs.Common.{◌≡◌, ℕ, zero, suc, ◌+◌, ◌-◌, ◌/◌, ◌≤◌, List, ◌++◌, length, take, drop, replicate, refl}
use Rattle.std.proofs.Common.{ap, ◌∙◌, arith, inl, inr, bytes_eq, length-drop}
use Rattle.std.specs.List.{list_all}
use Rattle.std.proofs.lemmas.Bool.{cases_Bool}
use Rattle.std.proofs.lemmas.List.{take-take, drop-append-le, take-append-le, take-replicate}
use Rattle.std.proofs.Math.Seq.{drop-append-add}
use Rattle.abt_sparse.specs.Block.{split, class_of, filled_to}
use Rattle.abt_sparse.specs.Chunk.{raw_bytes}
use Rattle.abt_runs.specs.Part.{IsRaw}
use Rattle.abt_runs.proofs.Classes.{drop-take'}

pub raw_class : (bytes : List ℕ) → IsRaw (class_of bytes) → raw_bytes (class_of bytes) ≡ bytes
raw_class bytes h = elim (cases_Bool (list_all (bytes_eq (take 4 bytes)) (split 4 (length bytes / 4) bytes))) [
  | inl e ↦ absurd (rw e at h)
  | inr e ↦ rw e refl
]

pub take_drop_take : (n at k : ℕ) (z : List ℕ) → at + n ≤ k → take n (drop at (take k z)) ≡ take n (drop at z)
take_drop_take n at k z le = ap (λ (l : List ℕ). take n l) (drop-take' at k z (omega arith))
    ∙ take-take n (k - at) (drop at z) (omega arith)

-- within the bytes, and after them
pub filled_within : (x : List ℕ) (n pos total : ℕ) → pos + n ≤ length x → take n (drop pos (filled_to total x))
    ≡ take n (drop pos x)
filled_within x n pos total le =
    ap (λ (l : List ℕ). take n l) (drop-append-le pos x (replicate (total - length x) 0) (omega arith))
    ∙ take-append-le n (drop pos x) (replicate (total - length x) 0) (omega (arith, length-drop pos x))

pub filled_behind : (x : List ℕ) (n pos total : ℕ) → length x ≤ pos → pos + n ≤ total
    → take n (drop pos (filled_to total x)) ≡ replicate n 0
filled_behind x n pos total behind le =
    ap (λ (k : ℕ). take n (drop k (filled_to total x))) (let z : pos ≡ length x + (pos - length x) = omega arith in z)
    ∙ ap (λ (l : List ℕ). take n l) (let e : drop (length x + (pos - length x)) (x ++ replicate (total - length x) 0)
    ≡ drop (pos - length x) (replicate (total - length x) 0) = drop-append-add
    x (replicate (total - length x) 0) (pos - length x) in e)
    ∙ take_drop_reps n (pos - length x) (total - length x) (omega arith)
  where
    take_drop_reps : (n k m : ℕ) → k + n ≤ m → take {A = ℕ} n (drop k (replicate m 0)) ≡ replicate n 0
    take_drop_reps n zero m le = take-replicate n m 0 (omega arith)
    take_drop_reps n (suc k) zero le = absurd (omega arith)
    take_drop_reps n (suc k) (suc m) le = take_drop_reps n k m (omega arith)
