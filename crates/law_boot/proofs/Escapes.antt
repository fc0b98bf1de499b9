-- Escaped bytes stand for themselves.
use Rattle.std.proofs.Common.{◌≡◌, ◌≢◌, ◌<◌, ℕ, suc, ◌+◌, ◌-◌, ◌*◌, ◌/◌, ◌%◌, ◌==◌, ◌&&◌, nat_le, not, Bool, true}
use Rattle.std.proofs.Common.{false, cond, inl, inr, List, [], ◌∷◌, ◌++◌, Option, Some, None, slice_index}
use Rattle.std.proofs.Common.{slice_index_or, length, take, drop, flat_map, refl, sym, ap, ◌∙◌, rules, arith}
use Rattle.std.proofs.Math.Seq.{drop-cons}
use Rattle.std.proofs.lemmas.Bool.{cases_Bool, true≢false, eqb-true}
use Rattle.std.proofs.lemmas.List.{drop-drop, length-drop, take_all}
use Rattle.std.proofs.lemmas.List.Concat.{flat_map-cons}
use Rattle.hex.specs.Hex.{encode_with, lower_digits, hex_digit_value}
use Rattle.hex.proofs.HexLemmas.{IsDigits-lower_digits}
use Rattle.abt_io.specs.Bytes.{AreBytes}
use Rattle.cmd_common_fields.specs.Unescaped.{byte_of, unescaped}
use Rattle.cmd_common_fields.proofs.Escapes.{escape_step, plain_step}
use Rattle.cmd_common_texts.specs.Info.{escaped, is_plain}
use Rattle.cmd_common_texts.specs.Words.{escaped_in_name}

last_not : (a b c d : Bool) → (a && b && c && not d) ≡ true → d ≡ false
last_not a b c false e = refl
last_not true true true true e = absurd (true≢false (sym e))
last_not true true false true e = absurd (true≢false (sym e))
last_not true false c true e = absurd (true≢false (sym e))
last_not false b c true e = absurd (true≢false (sym e))

-- the digits of a byte
digits_of_byte : (b : ℕ) → b < 256
    → byte_of (slice_index lower_digits (b / 16)) (slice_index lower_digits (b % 16)) ≡ Some b
digits_of_byte b small =
    let high : hex_digit_value (slice_index lower_digits (b / 16)) ≡ Some (b / 16) =
    IsDigits-lower_digits (b / 16) (omega (arith, small)) in
    let low : hex_digit_value (slice_index lower_digits (b % 16)) ≡ Some (b % 16) =
    IsDigits-lower_digits (b % 16) (omega arith) in
    let whole : 16 * (b / 16) + b % 16 ≡ b = omega arith in
    rw (high, low) (ap Some whole)

pub one_back : (b : ℕ) (x : List ℕ) → b < 256 → unescaped (escaped b ++ x) ≡ b ∷ unescaped x
unfolding encode_with
one_back b x small = elim (cases_Bool (is_plain b)) [
  | inl e ↦
      let plain : (b == 92) ≡ false = last_not (nat_le 0x20 b) (nat_le b 0x7e) (not (b == 0x22)) (b == 0x5c) e in
      rw e (plain_step b x plain)
  | inr e ↦ rw e (escape_step (slice_index lower_digits (b / 16)) (slice_index lower_digits (b % 16)) b x
      (digits_of_byte b small))
]

pub tail_bytes : (b : ℕ) (x : List ℕ) → AreBytes (b ∷ x) → AreBytes x
tail_bytes b x h = λ i. h (suc i)

-- a text that was escaped is itself
pub escaped_back : (x : List ℕ) → AreBytes x → unescaped (flat_map escaped x) ≡ x
escaped_back [] h = refl
escaped_back (b ∷ x) h = ap unescaped (flat_map-cons escaped b x) ∙ one_back b (flat_map escaped x) (h 0)
    ∙ ap (λ (y : List ℕ). b ∷ y) (escaped_back x (tail_bytes b x h))

-- ---- in a name

pub one_back_in_name : (b : ℕ) (x : List ℕ) → b < 256 → unescaped (escaped_in_name b ++ x) ≡ b ∷ unescaped x
one_back_in_name b x small = elim (cases_Bool (b == 58)) [
  | inl e ↦ let same : b ≡ 58 = search (rules, e) in rw same (escape_step 51 97 58 x refl)
  | inr e ↦ rw e (one_back b x small)
]

pub name_back : (x : List ℕ) → AreBytes x → unescaped (flat_map escaped_in_name x) ≡ x
name_back [] h = refl
name_back (b ∷ x) h = ap unescaped (flat_map-cons escaped_in_name b x)
    ∙ one_back_in_name b (flat_map escaped_in_name x) (h 0)
    ∙ ap (λ (y : List ℕ). b ∷ y) (name_back x (tail_bytes b x h))
