-- The bytes after an offset.
use Rattle.std.specs.Prelude.{◌≡◌, ℕ, ◌-◌, List, length, drop}
use Rattle.std.proofs.Common.{sym, ◌∙◌, ap, length-drop}

-- it is as long as all, less the bytes before the offset
pub long_behind : (base all : ℕ) (x : List ℕ) → all ≡ length x → all - base ≡ length (drop base x)
long_behind base all x e = ap (λ (n : ℕ). n - base) e ∙ sym (length-drop base x)
