-- A text with escaped bytes, from a place on.
use Rattle.std.proofs.Common.{◌≡◌, ◌≢◌, ◌<◌, ℕ, suc, ◌+◌, ◌-◌, ◌*◌, ◌/◌, ◌%◌, ◌==◌, ◌&&◌, nat_le, not, Bool, true}
use Rattle.std.proofs.Common.{false, cond, inl, inr, List, [], ◌∷◌, ◌++◌, Option, Some, None, slice_index}
use Rattle.std.proofs.Common.{slice_index_or, length, take, drop, flat_map, refl, sym, ap, ◌∙◌, rules, arith}
use Rattle.std.proofs.Math.Seq.{drop-cons}
use Rattle.std.proofs.lemmas.Bool.{cases_Bool, true≢false, eqb-true}
use Rattle.std.proofs.lemmas.List.{drop-drop, length-drop, take_all}
use Rattle.std.proofs.lemmas.List.Concat.{flat_map-cons}
use Rattle.cmd_common_fields.specs.Unescaped.{byte_of, escape_in, escaped_byte, unescaped}

-- what comes of four letters and more
abbrev chosen : Option ℕ → ℕ → List ℕ → List ℕ → List ℕ
chosen (Some byte) a past next = byte ∷ unescaped past
chosen None a past next = a ∷ unescaped next

chosen_is : (o : Option ℕ) (a : ℕ) (past next : List ℕ)
    → (elim o [ Some byte ↦ byte ∷ unescaped past | None ↦ a ∷ unescaped next ]) ≡ chosen o a past next
chosen_is (Some byte) a past next = refl
chosen_is None a past next = refl

answered : (a b c d : ℕ) (x : List ℕ) (o : Option ℕ) → escaped_byte a b c d ≡ o
    → unescaped (a ∷ b ∷ c ∷ d ∷ x) ≡ chosen o a x (b ∷ c ∷ d ∷ x)
answered a b c d x o e = chosen_is (escaped_byte a b c d) a x (b ∷ c ∷ d ∷ x)
    ∙ ap (λ (p : Option ℕ). chosen p a x (b ∷ c ∷ d ∷ x)) e

-- a letter that begins no escape
pub plain_step : (b : ℕ) (x : List ℕ) → (b == 92) ≡ false → unescaped (b ∷ x) ≡ b ∷ unescaped x
plain_step b [] e = refl
plain_step b (c ∷ []) e = refl
plain_step b (c ∷ d ∷ []) e = refl
plain_step b (c ∷ d ∷ f ∷ x) e =
    answered b c d f x None (ap (λ (t : Bool). cond (t && (c == 120)) (byte_of d f) None) e)

-- and four that are one
pub escape_step : (c d v : ℕ) (x : List ℕ) → byte_of c d ≡ Some v → unescaped (92 ∷ 120 ∷ c ∷ d ∷ x) ≡ v ∷ unescaped x
escape_step c d v x e = answered 92 120 c d x (Some v) e

-- ---- a text from a place on

none_some : (byte : ℕ) → None ≡ Some byte → ⊥
none_some byte e = search (rules, e)

-- an escape at the beginning
front_escape : (y : List ℕ) (byte : ℕ) → escape_in y ≡ Some byte → unescaped y ≡ byte ∷ unescaped (drop 4 y)
front_escape [] byte e = absurd (none_some byte e)
front_escape (a ∷ []) byte e = absurd (none_some byte e)
front_escape (a ∷ b ∷ []) byte e = absurd (none_some byte e)
front_escape (a ∷ b ∷ c ∷ []) byte e = absurd (none_some byte e)
front_escape (a ∷ b ∷ c ∷ d ∷ x) byte e = answered a b c d x (Some byte) e

-- and another letter
front_letter : (a : ℕ) (y : List ℕ) → escape_in (a ∷ y) ≡ None → unescaped (a ∷ y) ≡ a ∷ unescaped y
front_letter a [] e = refl
front_letter a (b ∷ []) e = refl
front_letter a (b ∷ c ∷ []) e = refl
front_letter a (b ∷ c ∷ d ∷ x) e = answered a b c d x None e

-- a slice to the end
pub to_end : (x : List ℕ) (at : ℕ) → take (length x - at) (drop at x) ≡ drop at x
to_end x at = let long : length (drop at x) ≡ length x - at = length-drop at x in
    take_all (length x - at) (drop at x) (omega (arith, long))

pub next_escape : (x : List ℕ) (at byte : ℕ) → escape_in (drop at x) ≡ Some byte
    → unescaped (drop at x) ≡ byte ∷ unescaped (drop (at + 4) x)
next_escape x at byte e = front_escape (drop at x) byte e ∙ ap (λ (l : List ℕ). byte ∷ unescaped l) (drop-drop 4 at x)

pub next_letter : (x : List ℕ) (at : ℕ) → at < length x → escape_in (drop at x) ≡ None
    → unescaped (drop at x) ≡ slice_index_or x at 0 ∷ unescaped (drop (at + 1) x)
next_letter x at h e =
    let cut : drop at x ≡ slice_index_or x at 0 ∷ drop (suc at) x = drop-cons x at 0 h in
    let one : suc at ≡ at + 1 = omega arith in
    ap unescaped cut ∙ front_letter (slice_index_or x at 0) (drop (suc at) x) (ap escape_in (sym cut) ∙ e)
    ∙ ap (λ (k : ℕ). slice_index_or x at 0 ∷ unescaped (drop k x)) one
