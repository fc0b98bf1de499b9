-- Several writes of text in a row.
use Rattle.std.proofs.Common.{ℕ, List, [], ◌∷◌, ◌++◌, Option, Some, None, IfSome, Result, Ok, Err, OnOk, subst}
use Rattle.std.proofs.Common.{append-nil}
use Rattle.std.specs.List.{FoldsTo, concat}
use Rattle.std.specs.Fmt.{WritesText}
use Rattle.sys_text.specs.declared.text_output.Text.{Text}
use Rattle.sys_text.specs.Printed.{Prints}
use Rattle.sys_text.proofs.Printing.{both_printed, printed_as, printed_none}

module _ {O : Type 0} (written : O → List ℕ) (faults : O → ℕ) where
  after_calls : (w : Text O) (parts : List (List ℕ)) (v : Text O)
      → FoldsTo (λ s bs t. Prints written faults s t bs) w parts v → Prints written faults w v (concat parts)
  after_calls w [] v p = subst (λ (u : Text O). Prints written faults w u []) p (printed_none written faults w)
  after_calls w (x ∷ xs) v p = both_printed written faults w p.0 v x (concat xs) p.1 (after_calls p.0 xs v p.2)

  pub after_text : (w : Text O) (text : Option (List ℕ)) (v : Text O)
      → WritesText (λ s bs t. Prints written faults s t bs) w text v → IfSome text (Prints written faults w v)
  after_text w None v p = tt
  after_text w (Some bs) v p =
      printed_as written faults w v (concat p.parts) bs p.whole (after_calls w p.parts v p.calls)

  kept_text : (w v u : Text O) (text : Option (List ℕ)) → Prints written faults v u []
      → IfSome text (Prints written faults w v) → IfSome text (Prints written faults w u)
  kept_text w v u None e p = tt
  kept_text w v u (Some bs) e p =
      printed_as written faults w u (bs ++ []) bs (append-nil bs) (both_printed written faults w v u bs [] p e)

  -- and then something that prints nothing
  pub after_text_and : {A E : Type 0} (w : Text O) (text : Option (List ℕ)) (v u : Text O) (r : Result A E)
      → WritesText (λ s bs t. Prints written faults s t bs) w text v → Prints written faults v u []
      → OnOk r (IfSome text (Prints written faults w u))
  after_text_and w text v u (Ok x) p e = kept_text w v u text e (after_text w text v p)
  after_text_and w text v u (Err x) p e = tt
