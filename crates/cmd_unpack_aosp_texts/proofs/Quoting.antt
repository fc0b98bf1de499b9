-- Words in parts.
use Rattle.std.proofs.Common.{◌≡◌, ℕ, ◌&&◌, Bool, true, false, List, [], ◌∷◌, ◌++◌, refl, sym, ap, ◌∙◌, append-nil}
use Rattle.std.proofs.lemmas.Grind.{flat_map-append}
use Rattle.std.specs.List.{flat_map}
use Rattle.cmd_unpack_aosp_texts.specs.Shell.{are_safe, word_bytes, escaped_quote, is_blank, is_safe}
use Rattle.cmd_unpack_aosp_texts.specs.declared.shell.Word.{Word}

and_assoc : (a b c : Bool) → ((a && b) && c) ≡ (a && (b && c))
and_assoc true b c = refl
and_assoc false b c = refl

pub both_nothing : (x y : List ℕ) → is_blank (x ++ y) ≡ (is_blank x && is_blank y)
both_nothing [] y = refl
both_nothing (b ∷ x) y = refl

pub both_safe : (x y : List ℕ) → are_safe (x ++ y) ≡ (are_safe x && are_safe y)
both_safe [] y = refl
both_safe (b ∷ x) y = ap (λ (t : Bool). is_safe b && t) (both_safe x y)
    ∙ sym (and_assoc (is_safe b) (are_safe x) (are_safe y))

-- of all four parts
pub word_nothing : (a b c d : List ℕ)
    → is_blank (a ++ (b ++ (c ++ d))) ≡ (is_blank a && (is_blank b && (is_blank c && is_blank d)))
word_nothing a b c d = both_nothing a (b ++ (c ++ d))
    ∙ ap (λ (t : Bool). is_blank a && t) (both_nothing b (c ++ d)
    ∙ ap (λ (t : Bool). is_blank b && t) (both_nothing c d))

pub word_safe : (a b c d : List ℕ)
    → are_safe (a ++ (b ++ (c ++ d))) ≡ (are_safe a && (are_safe b && (are_safe c && are_safe d)))
word_safe a b c d = both_safe a (b ++ (c ++ d))
    ∙ ap (λ (t : Bool). are_safe a && t) (both_safe b (c ++ d)
    ∙ ap (λ (t : Bool). are_safe b && t) (both_safe c d))

pub word_escaped : (a b c d : List ℕ)
    → flat_map escaped_quote a ++ (flat_map escaped_quote b ++ (flat_map escaped_quote c ++ flat_map escaped_quote d))
    ≡ flat_map escaped_quote (a ++ (b ++ (c ++ d)))
word_escaped a b c d =
    ap (λ x. flat_map escaped_quote a ++ (flat_map escaped_quote b ++ x)) (sym (flat_map-append escaped_quote c d))
    ∙ ap (λ x. flat_map escaped_quote a ++ x) (sym (flat_map-append escaped_quote b (c ++ d)))
    ∙ sym (flat_map-append escaped_quote a (b ++ (c ++ d)))
