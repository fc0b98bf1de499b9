use Rattle.std.proofs.Common.{◌≡◌, ℕ, List, [], ◌∷◌, ◌++◌, Option, Some, None, IfSome, ap, sym, ◌∙◌, append-nil}
use Rattle.std.proofs.lemmas.List.{append_assoc}
use Rattle.std.specs.List.{FoldsTo, concat}
use Rattle.std.specs.Fmt.{WritesText}
use Rattle.sys_report.proofs.report.text_of.Goals as goal

appended : {W : Type 0} (bytes : W → List ℕ) (w : W) (parts : List (List ℕ)) (v : W)
    → FoldsTo (λ s told t. bytes t ≡ bytes s ++ told) w parts v → bytes v ≡ bytes w ++ concat parts
appended bytes w [] v p = ap bytes (sym p) ∙ sym (append-nil (bytes w))
appended bytes w (x ∷ xs) v p =
    appended bytes p.0 xs v p.2 ∙ ap (λ front. front ++ concat xs) p.1 ∙ append_assoc (bytes w) x (concat xs)

-- what was written behind nothing is the text
written : {W : Type 0} (bytes : W → List ℕ) (w : W) (text : Option (List ℕ)) (v : W) → bytes w ≡ []
    → WritesText (λ s told t. bytes t ≡ bytes s ++ told) w text v → IfSome text (λ told. bytes v ≡ told)
written bytes w None v empty p = tt
written bytes w (Some told) v empty p =
    appended bytes w p.parts v p.calls ∙ ap (λ front. front ++ concat p.parts) empty ∙ p.whole

pub returns-in-Ok : goal.returns-in-Ok
returns-in-Ok g c = written (λ s. s.bytes) _ _ _ c.new-text.ensures c.in-Ok.ensures.writes
