-- A text over two fields.
use Rattle.std.proofs.Common.{◌≡◌, ℕ, Bool, true, false, cond, not, ◌&&◌, List, [], ◌∷◌, ◌++◌, refl, ◌∙◌, ◌==◌}
use Rattle.abt_sections.specs.Fields.{no_zero}
use Rattle.abt_sections.specs.Check.{all_zero, text_field}
use Rattle.abt_sections.proofs.Zeros.{all_zero-append}

both : (a b : Bool) → (a && b) ≡ cond a b false
both true b = refl
both false b = refl

step : (c : Bool) (b : ℕ) (x y : List ℕ)
    → text_field (x ++ y) ≡ cond (text_field x) (all_zero y) (no_zero x && text_field y)
    → cond c (all_zero (x ++ y)) (text_field (x ++ y)) ≡ cond (cond c (all_zero x) (text_field x)) (all_zero y)
    ((not c && no_zero x) && text_field y)
step true b x y ih = all_zero-append x y ∙ both (all_zero x) (all_zero y)
step false b x y ih = ih

pub long_text : (x y : List ℕ) → text_field (x ++ y) ≡ cond (text_field x) (all_zero y) (no_zero x && text_field y)
long_text [] y = refl
long_text (b ∷ x) y = step (b == 0) b x y (long_text x y)
