-- The classes of adjacent blocks.
use Rattle.std.proofs.Common.{◌≡◌, ℕ, zero, suc, ◌+◌, ◌-◌, ◌*◌, ◌/◌, ◌≤◌, Bool, false, List, [], ◌∷◌, ◌++◌, length}
use Rattle.std.proofs.Common.{take, drop, map, replicate, refl, sym, ap, ◌∙◌, arith, inl, inr, bytes_eq, Option, Some}
use Rattle.std.proofs.Common.{None, min, IsTrue, append-nil, nat_le, leb-true, leb-false}
use Rattle.std.specs.Prelude.{IfNone, is_some}
use Rattle.abt_runs.specs.declared.part.RunFault.{RunFault}
use Rattle.std.specs.List.{list_all, AllByRecursion}
use Rattle.std.proofs.lemmas.Bool.{cases_Bool}
use Rattle.std.proofs.lemmas.List.{drop-drop, take_all, take-append-le}
use Rattle.std.proofs.lemmas.List.{take-replicate}
use Rattle.std.proofs.Math.Seq.{take-append-add}
use Rattle.abt_sparse.specs.Block.{Block, Fill, Skip, split, class_of}
use Rattle.abt_runs.specs.Words.{word_of, kind_of_word}
use Rattle.abt_runs.specs.Part.{AllOf, IsRaw, is_end}
use Rattle.abt_runs.specs.declared.part.RunKind.{RunKind}
use Rattle.abt_runs.specs.declared.part.RunKind.TheVariants as kinds

-- ---- one block

pub one_class : (bytes : List ℕ) (o : Option (List ℕ)) → o ≡ word_of bytes → AllOf (kind_of_word o)
    (class_of bytes ∷ [])
one_class bytes o e = elim (cases_Bool (list_all (bytes_eq (take 4 bytes)) (split 4 (length bytes / 4) bytes))) [
  | inl h ↦
      let f : o ≡ Some (take 4 bytes) = rw h at e in
      rw (f, h) refl
  | inr h ↦
      let f : o ≡ None = rw h at e in
      rw (f, h) (tt, tt)
]

pub not_end : (o : Option (List ℕ)) → is_end (kind_of_word o) ≡ false
not_end None = refl
not_end (Some w) = refl

-- ---- one block more

fills_more : (n : ℕ) (x : Block) → replicate n x ++ x ∷ [] ≡ x ∷ replicate n x
fills_more zero x = refl
fills_more (suc n) x = ap (λ (l : List Block). x ∷ l) (fills_more n x)

raws_more : (xs : List Block) (x : Block) → AllByRecursion IsRaw xs → IsRaw x → AllByRecursion IsRaw (xs ++ x ∷ [])
raws_more [] x h k = (k, tt)
raws_more (y ∷ xs) x h k = (h.0, raws_more xs x h.1 k)

snoc_length : (xs : List Block) (x : Block) → length (xs ++ x ∷ []) ≡ suc (length xs)
snoc_length [] x = refl
snoc_length (y ∷ xs) x = ap suc (snoc_length xs x)

pub all_snoc : (k : RunKind) (xs : List Block) (x : Block) → is_end k ≡ false → AllOf k xs → AllOf k (x ∷ []) → AllOf k
    (xs ++ x ∷ [])
all_snoc kinds.Raw xs x e h k = raws_more xs x h k.0
all_snoc (kinds.Fill w) xs x e h k =
    let f : x ≡ Fill w = cc in
    ap (λ (l : List Block). l ++ x ∷ []) h ∙ ap (λ (y : Block). replicate (length xs) (Fill w) ++ y ∷ []) f ∙ fills_more
    (length xs) (Fill w) ∙ ap (λ (n : ℕ). replicate n (Fill w)) (sym (snoc_length xs x))
all_snoc kinds.Skip xs x e h k =
    let f : x ≡ Skip = cc in
    ap (λ (l : List Block). l ++ x ∷ []) h ∙ ap (λ (y : Block). replicate (length xs) Skip ++ y ∷ []) f ∙ fills_more
    (length xs) Skip ∙ ap (λ (n : ℕ). replicate n Skip) (sym (snoc_length xs x))
all_snoc kinds.End xs x e h k = absurd cc

abbrev pub classes : ℕ → ℕ → List ℕ → List Block
classes b n bytes = map class_of (split b n bytes)

pub classes-more : (b n : ℕ) (bytes : List ℕ) → classes b (suc n) bytes ≡ classes b n bytes ++ class_of
    (take b (drop (n * b) bytes)) ∷ []
classes-more b zero bytes = ap (λ (k : ℕ). class_of (take b (drop k bytes)) ∷ []) (let z : 0 ≡ 0 * b = omega arith in z)
classes-more b (suc n) bytes =
    let e : drop (n * b) (drop b bytes) ≡ drop (suc n * b) bytes = drop-drop (n * b) b bytes ∙ ap
    (λ (k : ℕ). drop k bytes) (omega arith) in
    ap (λ (l : List Block). class_of (take b bytes) ∷ l)
    (classes-more b n (drop b bytes) ∙ ap (λ (l : List ℕ). classes b n (drop b bytes) ++ class_of (take b l) ∷ [])
    e)

pub leading_on : (b n at : ℕ) (bytes : List ℕ) (o : Option (List ℕ)) → at ≡ n * b → is_end (kind_of_word o) ≡ false →
    AllOf (kind_of_word o) (classes b n bytes) → o ≡ word_of (take (at + b - at) (drop at bytes)) → AllOf
    (kind_of_word o) (classes b (n + 1) bytes)
leading_on b n at bytes o e go h same =
    let g : at + b - at ≡ b = omega arith in
    let s : o ≡ word_of (take b (drop (n * b) bytes)) = rw (← e) (rw g at same) in
    let one = one_class (take b (drop (n * b) bytes)) o s in
    let m : n + 1 ≡ suc n = omega arith in
    rw (m, classes-more b n bytes) (all_snoc (kind_of_word o) (classes b n bytes)
    (class_of (take b (drop (n * b) bytes))) go h one)

-- ---- blocks of the image

pub drop-take' : (i k : ℕ) (y : List ℕ) → i ≤ k → drop i (take k y) ≡ take (k - i) (drop i y)
drop-take' zero k y le = ap (λ (j : ℕ). take j y) (let z : k ≡ k - 0 = omega arith in z)
drop-take' (suc i) zero y le = absurd (omega arith)
drop-take' (suc i) (suc k) [] le = sym (take_all (suc k - suc i) [] (omega arith))
drop-take' (suc i) (suc k) (x ∷ y) le = drop-take' i k y (omega arith) ∙ ap (λ (j : ℕ). take j (drop i y))
    (let z : k - i ≡ suc k - suc i = omega arith in z)

-- bytes with zeros after them
pub padded : (k m want : ℕ) (y : List ℕ) → want ≡ min k (length y) → k ≤ length y + m → take want y
    ++ replicate (k - want)
    0 ≡ take k (y ++ replicate m 0)
padded k m want y e le = elim (cases_Bool (nat_le k (length y))) [
  | inl h ↦
      let le' = leb-true k (length y) h in
      let w : want ≡ k = omega arith in
      rw w (ap (λ (j : ℕ). take k y ++ replicate j 0) (let z : k - k ≡ 0 = omega arith in z) ∙ append-nil (take k y) ∙
      sym (take-append-le k y (replicate m 0) le'))
  | inr h ↦
      let gt = leb-false k (length y) h in
      let w : want ≡ length y = omega arith in
      let long : k ≡ length y + (k - length y) = omega arith in
      rw w (
      ap (λ (l : List ℕ). l ++ replicate (k - length y) 0) (take_all (length y) y (omega arith))
      ∙ ap (λ (l : List ℕ). y ++ l) (sym (take-replicate (k - length y) m 0 (omega arith)))
      ∙ sym (take-append-add y (replicate m 0) (k - length y))
      ∙ ap (λ (j : ℕ). take j (y ++ replicate m 0)) (sym long))
]

pub never : (b : Bool) (n m : ℕ) → b ≡ false → IsTrue b → n ≡ m
never b n m e h = absurd cc

-- what is said where there is no fault
pub if_none : {P : Type 0} (o : Option RunFault) → o ≡ None → IfNone o P → P
if_none None e h = h
if_none (Some f) e h = absurd cc
