-- The names of pieces: PREFIX is what comes before the last point, and the number what comes after it.
use Rattle.std.proofs.Common.{arith, ◌≡◌, ◌≢◌, ℕ, suc, ◌+◌, ◌-◌, ◌<◌, ◌≤◌, ◌^◌, List, [], ◌∷◌, ◌++◌, length, take, drop}
use Rattle.std.proofs.Common.{get_or, Option, Some, None, refl, sym, ◌∙◌, ap, subst, decimal}
use Rattle.std.specs.Str.Pattern.{RFindsChar}
use Rattle.std.proofs.lemmas.Fmt.{decimal_injective, decimal_is_IsNumeral}
use Rattle.std.proofs.lemmas.List.{append_cancel_left, length-append, take-append-drop}
use Rattle.std.proofs.lemmas.Str.Parse.{digit_at}
use Rattle.std.proofs.lemmas.Str.Pattern.{NoCharPasses-char, drop_at_char}
use Rattle.std.proofs.Math.Seq.{get_or-append_seam}
use Rattle.cmd_expand.specs.Overlaying.{IsPieceAt}

-- ---- no point

abbrev pub HasNoPoint : List ℕ → Type 0
HasNoPoint xs = (front rest : List ℕ) → xs ≢ front ++ (46 ∷ rest)

pub by_bytes : (xs : List ℕ) → ((i : ℕ) → i < length xs → get_or xs i 0 ≢ 46) → HasNoPoint xs
by_bytes xs none front rest e =
    let long : length (front ++ (46 ∷ rest)) ≡ length front + suc (length rest) = length-append front (46 ∷ rest) in
    let all : length xs ≡ length (front ++ (46 ∷ rest)) = ap length e in
    none (length front) (omega (arith, long, all))
    (ap (λ l. get_or l (length front) 0) e ∙ get_or-append_seam front 46 rest 0)

decimal_pointless : (n : ℕ) → n < 2 ^ 32 → HasNoPoint (decimal n)
decimal_pointless n small =
    by_bytes (decimal n) (λ i below point.
    let digit = digit_at (decimal n) i (decimal_is_IsNumeral n (omega (arith, small))).0.1 below in
    omega (arith, digit, point))

head_same : (a b : ℕ) (xs ys : List ℕ) → a ∷ xs ≡ b ∷ ys → a ≡ b
head_same a b xs ys e = ap (λ l. get_or l 0 a) e

tail_same : (a b : ℕ) (xs ys : List ℕ) → a ∷ xs ≡ b ∷ ys → xs ≡ ys
tail_same a b xs ys e = ap (λ (l : List ℕ). drop 1 l) e

-- what comes before the last point, and after it
pub last_point : (a b c d : List ℕ) → a ++ (46 ∷ b) ≡ c ++ (46 ∷ d) → HasNoPoint b → HasNoPoint d → (a ≡ c) × (b ≡ d)
last_point [] b [] d e none none' = (refl, tail_same 46 46 b d e)
last_point [] b (y ∷ c) d e none none' = absurd (none c d (tail_same 46 y b (c ++ (46 ∷ d)) e))
last_point (x ∷ a) b [] d e none none' = absurd (none' a b (sym (tail_same x 46 (a ++ (46 ∷ b)) d e)))
last_point (x ∷ a) b (y ∷ c) d e none none' =
    let rest = last_point a b c d (tail_same x y (a ++ (46 ∷ b)) (c ++ (46 ∷ d)) e) none none' in
    (ap (λ h. h ∷ a) (head_same x y (a ++ (46 ∷ b)) (c ++ (46 ∷ d)) e) ∙ ap (λ t. y ∷ t) rest.0, rest.1)

-- ---- a piece's path

pub one_name : (f g path : List ℕ) (n m : ℕ) → IsPieceAt f n path → IsPieceAt g m path → (f ≡ g) × (n ≡ m)
one_name f g path n m first second =
    let parts = last_point f (decimal n) g (decimal m) (sym first.path_is ∙ second.path_is)
    (decimal_pointless n first.fits) (decimal_pointless m second.fits) in
    let small : n < 2 ^ 64 = let low = first.fits in omega (arith, low) in
    let small' : m < 2 ^ 64 = let low = second.fits in omega (arith, low) in
    (parts.0, decimal_injective n m small small' parts.1)

-- without a point it is none
pub no_name : (path front : List ℕ) (n : ℕ) → RFindsChar 46 path None → ¬ IsPieceAt front n path
no_name path front n finds is =
    by_bytes path (λ i below. NoCharPasses-char 46 path i finds (omega arith) below) front (decimal n) is.path_is

-- where this comes before the last point, it is the PREFIX
pub front_is : (path before front : List ℕ) (i j n : ℕ) → RFindsChar 46 path (Some (i, j)) → before ≡ take i path
    → IsPieceAt front n path → front ≡ before
front_is path before front i j n finds is piece =
    let behind : HasNoPoint (drop j path)
    = by_bytes (drop j path) (λ k below. NoCharPasses-char 46 (drop j path) k finds.0 (omega arith) below) in
    let split : path ≡ before ++ (46 ∷ drop j path)
    = sym (take-append-drop i path) ∙ ap (λ l. take i path ++ l) (drop_at_char 46 path i j finds.1 (omega arith))
    ∙ ap (λ l. l ++ (46 ∷ drop j path)) (sym is) in
    (last_point front (decimal n) before (drop j path) (sym piece.path_is ∙ split)
    (decimal_pointless n piece.fits) behind).0

-- and no number follows it, or 0
pub not_behind : (path before front : List ℕ) (i j n : ℕ) → RFindsChar 46 path (Some (i, j)) → before ≡ take i path
    → ((k : ℕ) → 0 < k → k < 2 ^ 32 → path ≢ before ++ (46 ∷ decimal k)) → ¬ IsPieceAt front n path
not_behind path before front i j n finds is none piece =
    none n piece.some piece.fits
    (piece.path_is ∙ ap (λ l. l ++ (46 ∷ decimal n)) (front_is path before front i j n finds is piece))

pub zero_behind : (path before front : List ℕ) (i j n k : ℕ) → RFindsChar 46 path (Some (i, j))
    → before ≡ take i path → (k < 2 ^ 32) × (path ≡ before ++ (46 ∷ decimal k)) → ¬ (0 < k)
    → ¬ IsPieceAt front n path
zero_behind path before front i j n k finds is told zero piece =
    let same = front_is path before front i j n finds is piece in
    let digits : 46 ∷ decimal n ≡ 46 ∷ decimal k
    = append_cancel_left before (46 ∷ decimal n) (46 ∷ decimal k)
    (ap (λ l. l ++ (46 ∷ decimal n)) (sym same) ∙ sym piece.path_is ∙ told.1) in
    let small : n < 2 ^ 64 = let low = piece.fits in omega (arith, low) in
    let small' : k < 2 ^ 64 = let low = told.0 in omega (arith, low) in
    let number : n ≡ k = decimal_injective n k small small' (tail_same 46 46 (decimal n) (decimal k) digits) in
    zero (subst (λ m. 0 < m) number piece.some)
