-- The first file that is left of an older cut.
use Rattle.std.proofs.Common.{◌≡◌, ℕ, ◌<◌, ◌^◌, inl, inr, Option, Some, None, sym, ◌∙◌, subst, arith}
use Rattle.std.proofs.lemmas.Bool.{cases_lt}
use Rattle.sys_disk.specs.LeftOver.{IsNextLeft}

-- of files that lead there alike
pub left_alike : (at at' : ℕ → Option ℕ) (behind : ℕ) (found : Option ℕ) → ((n : ℕ) → at n ≡ at' n)
    → IsNextLeft at behind found → IsNextLeft at' behind found
left_alike at at' behind None same left = λ n more small. sym (same n) ∙ left n more small
left_alike at at' behind (Some k) same left =
    (left.0, (left.1.0, (λ none. left.1.1.0 (same k ∙ none), λ n more less. sym (same n) ∙ left.1.1.1 n more less)))

-- there is one least number
pub first_alone : (at : ℕ → Option ℕ) (behind j k : ℕ) → IsNextLeft at behind (Some j)
    → IsNextLeft at behind (Some k) → j ≡ k
first_alone at behind j k a b = elim (cases_lt j k) [
  | inl less ↦ absurd (a.1.1.0 (b.1.1.1 j a.0 less))
  | inr past ↦ elim (cases_lt k j) [
    | inl less ↦ absurd (b.1.1.0 (a.1.1.1 k b.0 less))
    | inr under ↦ omega (arith, past, under)
  ]
]

-- where none is left, none is the first
pub none_first : (at : ℕ → Option ℕ) (behind k : ℕ) → IsNextLeft at behind None → IsNextLeft at behind (Some k) → ⊥
none_first at behind k none found = found.1.1.0 (none k found.0 found.1.0)

-- the number that the disk told is the first one
pub first_told : (at at' : ℕ → Option ℕ) (found : Option ℕ) (k behind behind' n : ℕ) → found ≡ Some k
    → behind ≡ behind' → ((m : ℕ) → at m ≡ at' m) → IsNextLeft at behind found → IsNextLeft at' behind' (Some n)
    → k ≡ n
first_told at at' found k behind behind' n is here same left first =
    first_alone at' behind' k n (subst (λ b. IsNextLeft at' b (Some k)) here (left_alike at at' behind (Some k) same
    (subst (λ l. IsNextLeft at behind l) is left))) first

pub none_told : (at at' : ℕ → Option ℕ) (found : Option ℕ) (behind behind' n : ℕ) → found ≡ None
    → behind ≡ behind' → ((m : ℕ) → at m ≡ at' m) → IsNextLeft at behind found → IsNextLeft at' behind' (Some n) → ⊥
none_told at at' found behind behind' n is here same left first =
    none_first at' behind' n (subst (λ b. IsNextLeft at' b None) here (left_alike at at' behind None same
    (subst (λ l. IsNextLeft at behind l) is left))) first
