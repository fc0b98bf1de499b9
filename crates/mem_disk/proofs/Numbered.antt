-- The least number that a file has, of those that paths lead to.
use Rattle.std.proofs.Common.{arith, ◌≡◌, ◌≢◌, ℕ, ◌<◌, ◌+◌, ◌^◌, List, [], ◌∷◌, ◌++◌, Option, Some, None, refl, sym}
use Rattle.std.proofs.Common.{◌∙◌, ap, subst, Bool, true, false, IfSome, cond, nat_lt, if◌then◌else◌, ◌&&◌, length}
use Rattle.std.proofs.Common.{get_or, drop, decimal, string_bytes, bytes_eq, take, Decides, ltb-true, ltb-false}
use Rattle.std.proofs.lemmas.List.{append_cancel_left, take_all, take_more}
use Rattle.std.proofs.lemmas.Option.{none-some}
use Rattle.std.proofs.lemmas.Bool.{cond-true}
use Rattle.std.proofs.lemmas.Slice.Eq.{bytes_eq-Decides}
use Rattle.std.proofs.lemmas.Fmt.{decimal_injective}
use Rattle.sys_disk.specs.LeftOver.{IsNextLeft}
use Rattle.mem_files.specs.Stored.{leads}
use Rattle.mem_files.proofs.Paths.{leads_none}
use Rattle.sys_numbered_names.specs.Lesser.{lesser_of}
use Rattle.mem_files.specs.declared.stored.MemoryPath.{MemoryPath}

-- the path of this number
abbrev pub with_number : List ℕ → ℕ → List ℕ
with_number front n = front ++ (46 ∷ decimal n)

same_number : (front : List ℕ) (m n : ℕ) → m < 2 ^ 32 → n < 2 ^ 32 → with_number front m ≡ with_number front n → m ≡ n
same_number front m n small small' e =
    decimal_injective m n (omega arith) (omega arith)
    (ap (drop 1) (append_cancel_left front (46 ∷ decimal m) (46 ∷ decimal n) e))

-- ---- where one path more leads

test_none : (b : Bool) (x : ℕ) (r r' : Option ℕ) → (r ≡ None → r' ≡ None) → cond b (Some x) r ≡ None
    → cond b (Some x) r' ≡ None
test_none true x r r' h e = e
test_none false x r r' h e = h e

not_so : {P : Type 0} (r : Bool) → Decides r P → ¬ P → r ≡ false
not_so true d none = absurd (none (d.0 refl))
not_so false d none = refl

still_none : (ps : List MemoryPath) (q : MemoryPath) (path : List ℕ) → string_bytes q.name ≢ path → leads ps path ≡ None
    → leads (ps ++ (q ∷ [])) path ≡ None
unfolding leads
still_none [] q path other e =
    ap (λ b. cond b (Some q.file) None)
    (not_so (bytes_eq path (string_bytes q.name)) (bytes_eq-Decides path (string_bytes q.name)) (λ s. other (sym s)))
still_none (p ∷ ps) q path other e =
    test_none (bytes_eq path (string_bytes p.name)) p.file (leads ps path) (leads (ps ++ (q ∷ [])) path)
    (still_none ps q path other) e

test_some : (b : Bool) (x : ℕ) (r r' : Option ℕ) → (r ≢ None → r' ≢ None) → cond b (Some x) r ≢ None
    → cond b (Some x) r' ≢ None
test_some true x r r' h e = e
test_some false x r r' h e = h e

still_some : (ps : List MemoryPath) (q : MemoryPath) (path : List ℕ) → leads ps path ≢ None
    → leads (ps ++ (q ∷ [])) path ≢ None
unfolding leads
still_some [] q path e = absurd (e refl)
still_some (p ∷ ps) q path e =
    test_some (bytes_eq path (string_bytes p.name)) p.file (leads ps path) (leads (ps ++ (q ∷ [])) path)
    (still_some ps q path) e

test_new : (b : Bool) (x : ℕ) (r : Option ℕ) → r ≢ None → cond b (Some x) r ≢ None
test_new true x r h = λ e. none-some x (sym e)
test_new false x r h = h

now_some : (ps : List MemoryPath) (q : MemoryPath) (path : List ℕ) → string_bytes q.name ≡ path
    → leads (ps ++ (q ∷ [])) path ≢ None
unfolding leads
now_some [] q path named = λ e. none-some q.file
    (sym e ∙ cond-true _ _ _ ((bytes_eq-Decides path (string_bytes q.name)).1 (sym named)))
now_some (p ∷ ps) q path named =
    test_new (bytes_eq path (string_bytes p.name)) p.file (leads (ps ++ (q ∷ [])) path) (now_some ps q path named)

-- ---- the least number

abbrev pub Left : List MemoryPath → List ℕ → ℕ → Option ℕ → Type 0
Left ps front behind least = IsNextLeft (λ n. leads ps (with_number front n)) behind least

pub none_left : (front : List ℕ) (behind : ℕ) → Left [] front behind None
none_left front behind = λ n more small. leads_none (with_number front n)

module _ (ps : List MemoryPath) (q : MemoryPath) (front : List ℕ) (behind : ℕ) where
  -- it is none of these
  unnumbered : (least : Option ℕ) → ((n : ℕ) → 0 < n → n < 2 ^ 32 → string_bytes q.name ≢ with_number front n)
      → Left ps front behind least → Left (ps ++ (q ∷ [])) front behind least
  unnumbered None other left = λ n more small.
      still_none ps q (with_number front n) (other n (omega (arith, more)) small) (left n more small)
  unnumbered (Some k) other left =
      let under : k < 2 ^ 32 = left.1.0 in (
        left.0,
        (
          left.1.0,
          (
            still_some ps q (with_number front k) left.1.1.0,
            λ n more less. still_none ps q (with_number front n)
                (other n (omega (arith, more)) (omega (arith, under, less))) (left.1.1.1 n more less),
          ),
        ),
      )

  module _ (k : ℕ) (small : k < 2 ^ 32) (named : string_bytes q.name ≡ with_number front k) where
    others : (n : ℕ) → n < 2 ^ 32 → k ≢ n → string_bytes q.name ≢ with_number front n
    others n small' other e = other (same_number front k n small small' (sym named ∙ e))

    first : (b : Bool) → nat_lt behind k ≡ b → Left ps front behind None
        → Left (ps ++ (q ∷ [])) front behind (if b then Some k else None)
    first true is left = (
      ltb-true behind k is,
      (
        small,
        (
          now_some ps q (with_number front k) named,
          λ n more less. still_none ps q (with_number front n)
              (others n (omega (arith, small, less)) (λ e. omega (arith, e, less)))
              (left n more (omega (arith, small, less))),
        ),
      ),
    )
    first false is left = λ n more small'.
        let over = ltb-false behind k is in
        still_none ps q (with_number front n) (others n small' (λ e. omega (arith, e, more, over)))
        (left n more small')

    kept : (l : ℕ) → Left ps front behind (Some l) → ((n : ℕ) → behind < n → n < l → k ≢ n)
        → Left (ps ++ (q ∷ [])) front behind (Some l)
    kept l left apart =
        let under : l < 2 ^ 32 = left.1.0 in (
          left.0,
          (
            left.1.0,
            (
              still_some ps q (with_number front l) left.1.1.0,
              λ n more less. still_none ps q (with_number front n)
                  (others n (omega (arith, less, under)) (apart n more less)) (left.1.1.1 n more less),
            ),
          ),
        )

    second : (l : ℕ) (b c : Bool) → nat_lt behind k ≡ b → nat_lt k l ≡ c → Left ps front behind (Some l)
        → Left (ps ++ (q ∷ [])) front behind (if b && c then Some k else Some l)
    second l true true is less left =
        let before : k < l = ltb-true k l less in (
          ltb-true behind k is,
          (
            small,
            (
              now_some ps q (with_number front k) named,
              λ n more sooner. still_none ps q (with_number front n)
                  (others n (omega (arith, small, sooner)) (λ e. omega (arith, e, sooner)))
                  (left.1.1.1 n more (omega (arith, before, sooner))),
            ),
          ),
        )
    second l true false is less left =
        let over = ltb-false k l less in kept l left (λ n more before e. omega (arith, e, before, over))
    second l false c is less left =
        let over = ltb-false behind k is in kept l left (λ n more before e. omega (arith, e, more, over))

  pub left_more : (least number : Option ℕ)
      → IfSome number (λ k. (k < 2 ^ 32) × (string_bytes q.name ≡ with_number front k))
      → (number ≡ None → (n : ℕ) → 0 < n → n < 2 ^ 32 → string_bytes q.name ≢ with_number front n)
      → Left ps front behind least → Left (ps ++ (q ∷ [])) front behind (lesser_of least behind number)
  left_more None None some none left = unnumbered None (none refl) left
  left_more (Some l) None some none left = unnumbered (Some l) (none refl) left
  left_more None (Some k) some none left = first k some.0 some.1 (nat_lt behind k) refl left
  left_more (Some l) (Some k) some none left =
      second k some.0 some.1 l (nat_lt behind k) (nat_lt k l) refl refl left

-- the next turn of the walk
pub left_next : (ps : List MemoryPath) (i : ℕ) (q : MemoryPath) (text front : List ℕ) (behind : ℕ)
    (least number result : Option ℕ) → i < length ps → q ≡ get_or ps i q → text ≡ string_bytes q.name
    → IfSome number (λ k. (k < 2 ^ 32) × (text ≡ with_number front k))
    → (number ≡ None → (n : ℕ) → 0 < n → n < 2 ^ 32 → text ≢ with_number front n)
    → result ≡ lesser_of least behind number → Left (take i ps) front behind least
    → Left (take (i + 1) ps) front behind result
left_next ps i q text front behind least number result below is read some none e left =
    subst (λ r. Left (take (i + 1) ps) front behind r) (sym e)
    (subst (λ l. Left l front behind (lesser_of least behind number))
    (ap (λ x. take i ps ++ (x ∷ [])) is ∙ sym (take_more ps i q below))
    (left_more (take i ps) q front behind least number
    (subst (λ t. IfSome number (λ k. (k < 2 ^ 32) × (t ≡ with_number front k))) read some)
    (subst (λ t. number ≡ None → (n : ℕ) → 0 < n → n < 2 ^ 32 → t ≢ with_number front n) read none) left))

pub left_all : (ps : List MemoryPath) (i : ℕ) (front : List ℕ) (behind : ℕ) (least : Option ℕ) → ¬ (i < length ps)
    → Left (take i ps) front behind least → Left ps front behind least
left_all ps i front behind least past left =
    subst (λ l. Left l front behind least) (take_all i ps (omega (arith, past))) left
