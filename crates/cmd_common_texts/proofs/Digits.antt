-- The digits of a number, laid from the last one on.
use Rattle.std.proofs.Common.{◌≡◌, ℕ, zero, suc, ◌+◌, ◌-◌, ◌<◌, ◌≤◌, ◌/◌, ◌%◌, ◌==◌, Bool, true, false, cond, List, ◌∷◌}
use Rattle.std.proofs.Common.{length, take, drop, set, sym, ap, ◌∙◌, arith}
use Rattle.abt_io.proofs.Parts.{rest_is}
use Rattle.std.proofs.Math.ListN.{drop_of_length-le}
use Rattle.std.proofs.lemmas.Bool.{eq-eqb, ne_eqb}
use Rattle.std.proofs.lemmas.List.{drop-set}
use Rattle.std.specs.Fmt.{digit_glyph, digits, digits_onto}

-- none is laid
pub all_to_come : (room : List ℕ) (n : ℕ) → length room ≡ 64
    → digits_onto 64 16 false n (drop 64 room) ≡ digits 16 false n
unfolding digits
all_to_come room n long = ap (digits_onto 64 16 false n) (drop_of_length-le room {i = 64} (omega (arith, long)))

abbrev glyph : ℕ → ℕ
glyph n = digit_glyph false (n % 16)

-- whether a digit is the first, and what more is laid
digit_laid : (k n : ℕ) (laid : List ℕ) (t : Bool) → (n / 16 == 0) ≡ t
    → digits_onto (suc k) 16 false n laid ≡ cond t (glyph n ∷ laid) (digits_onto k 16 false (n / 16) (glyph n ∷ laid))
digit_laid k n laid t e =
    ap (λ (b : Bool). cond b (glyph n ∷ laid) (digits_onto k 16 false (n / 16) (glyph n ∷ laid))) e

laid_before : (room : List ℕ) (i n d : ℕ) → 0 < i → i ≤ 64 → length room ≡ 64 → d ≡ glyph n
    → drop (i - 1) (set room (i - 1) d) ≡ glyph n ∷ drop i room
laid_before room i n d some low long is =
    let back : i - 1 + 1 ≡ i = omega arith in
    drop-set room (i - 1) d (omega (arith, long)) ∙ ap (λ (k : ℕ). d ∷ drop k room) back
    ∙ ap (λ (b : ℕ). b ∷ drop i room) is

step : (i n : ℕ) (laid : List ℕ) → 0 < i → (n / 16 ≡ 0 → ⊥)
    → digits_onto i 16 false n laid ≡ digits_onto (i - 1) 16 false (n / 16) (glyph n ∷ laid)
step zero n laid some more = absurd (omega arith)
step (suc k) n laid some more =
    let back : k ≡ suc k - 1 = omega arith in
    digit_laid k n laid false (ne_eqb _ 0 more) ∙ ap (λ (j : ℕ). digits_onto j 16 false (n / 16) (glyph n ∷ laid)) back

last : (i n : ℕ) (laid : List ℕ) → 0 < i → n / 16 ≡ 0 → digits_onto i 16 false n laid ≡ glyph n ∷ laid
last zero n laid some none = absurd (omega arith)
last (suc k) n laid some none = digit_laid k n laid true (eq-eqb _ 0 none)

-- one digit more is laid, and others come before it
pub before_digit : (room : List ℕ) (i n d : ℕ) → 0 < i → i ≤ 64 → length room ≡ 64 → d ≡ digit_glyph false (n % 16)
    → (n / 16 ≡ 0 → ⊥)
    → digits_onto (i - 1) 16 false (n / 16) (drop (i - 1) (set room (i - 1) d)) ≡ digits_onto i 16 false n (drop i room)
before_digit room i n d some low long is more =
    ap (digits_onto (i - 1) 16 false (n / 16)) (laid_before room i n d some low long is)
    ∙ sym (step i n (drop i room) some more)

-- or it is the first of the number
pub last_digit : (room : List ℕ) (i n d : ℕ) → 0 < i → i ≤ 64 → length room ≡ 64 → d ≡ digit_glyph false (n % 16)
    → n / 16 ≡ 0
    → drop (i - 1) (set room (i - 1) d) ≡ digits_onto i 16 false n (drop i room)
last_digit room i n d some low long is none = laid_before room i n d some low long is
    ∙ sym (last i n (drop i room) some none)

-- what stands from a place on
pub to_the_end : (room : List ℕ) (i : ℕ) → length room ≡ 64 → take (64 - i) (drop i room) ≡ drop i room
to_the_end room i long = ap (λ (n : ℕ). take (n - i) (drop i room)) (sym long) ∙ rest_is i room
