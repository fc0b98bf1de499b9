-- What a buffer keeps of texts, one behind another.
use Rattle.std.proofs.Common.{◌≡◌, ℕ, ◌+◌, ◌-◌, ◌≤◌, List, [], ◌∷◌, ◌++◌, length, take, sym, ap, ◌∙◌, arith}
use Rattle.std.proofs.Common.{Option, Some, None, IfSome, Result, Ok, Err, OnOk, inl, inr, append_assoc, append-nil}
use Rattle.std.specs.Prelude.{min}
use Rattle.std.proofs.Math.Nat.{min_comm}
use Rattle.std.specs.List.{FoldsTo, concat}
use Rattle.std.specs.Fmt.{WritesText}
use Rattle.std.proofs.Math.Seq.{take-append-add}
use Rattle.std.proofs.lemmas.Bool.{cases_lt}
use Rattle.std.proofs.lemmas.List.{length-take-le, take-append-le, take-take, take_all, take_min}
use Rattle.sys_text.specs.Shown.{HoldsMore, text_in}
use Rattle.sys_text.specs.declared.held.TextBuffer.{TextBuffer}

-- as far as there is room
take_room : (n : ℕ) (a b : List ℕ) → length a ≤ n → a ++ take (n - length a) b ≡ take n (a ++ b)
take_room n a b fits =
    let room : length a + (n - length a) ≡ n = omega (arith, fits) in
    sym (take-append-add a b (n - length a)) ∙ ap (λ k. take k (a ++ b)) room

-- what had no room leaves none to what follows
take_again : (n : ℕ) (a b : List ℕ) → take n (take n a ++ b) ≡ take n (a ++ b)
take_again n a b = elim (cases_lt n (length a)) [
  | inl more ↦
      let all : n ≤ length a = omega (arith, more) in
      let long : n ≤ length (take n a) = omega (arith, length-take-le n a all) in
      take-append-le n (take n a) b long ∙ take-take n n a (omega arith) ∙ sym (take-append-le n a b all)
  | inr fits ↦ ap (λ l. take n (l ++ b)) (take_all n a fits)
]

-- a buffer has taken as many bytes as have room
pub held_by : (bytes : List ℕ) (used : ℕ) (more bytes' : List ℕ) (used' n : ℕ) → length bytes ≡ 8192 → used ≤ 8192
    → n ≡ min (length more) (8192 - used) → text_in bytes' used' ≡ text_in bytes used ++ take n more
    → HoldsMore bytes used more bytes' used'
held_by bytes used more bytes' used' n long fits count text =
    let here : length (take used bytes) ≡ used = length-take-le used bytes (omega (arith, long, fits)) in
    text ∙ ap (λ k. take used bytes ++ take k more) (count ∙ min_comm (length more) (8192 - used))
    ∙ ap (λ l. take used bytes ++ l) (take_min (8192 - used) more)
    ∙ ap (λ k. take used bytes ++ take (8192 - k) more) (sym here)
    ∙ take_room 8192 (take used bytes) more (omega (arith, here, fits))

after_calls : (w : TextBuffer) (parts : List (List ℕ)) (v : TextBuffer)
    → take 8192 (text_in w.bytes w.used) ≡ text_in w.bytes w.used
    → FoldsTo (λ s text t. HoldsMore s.bytes s.used text t.bytes t.used) w parts v
    → HoldsMore w.bytes w.used (concat parts) v.bytes v.used
after_calls w [] v small p =
    ap (λ (u : TextBuffer). text_in u.bytes u.used) (sym p) ∙ sym small
    ∙ ap (take 8192) (sym (append-nil (text_in w.bytes w.used)))
after_calls w (x ∷ xs) v small p =
    let more = text_in w.bytes w.used ++ x in
    after_calls p.0 xs v
    (ap (take 8192) p.1 ∙ take-take 8192 8192 more (omega arith) ∙ sym p.1) p.2
    ∙ ap (λ l. take 8192 (l ++ concat xs)) p.1 ∙ take_again 8192 more (concat xs)
    ∙ ap (take 8192) (append_assoc (text_in w.bytes w.used) x (concat xs))

all_held : (w : TextBuffer) (text : Option (List ℕ)) (v : TextBuffer) (told : List ℕ) → text_in w.bytes w.used ≡ []
    → told ≡ text_in v.bytes v.used → WritesText (λ s bs t. HoldsMore s.bytes s.used bs t.bytes t.used) w text v
    → IfSome text (λ bs. told ≡ take 8192 bs)
all_held w None v told empty is p = tt
all_held w (Some bs) v told empty is p =
    is ∙ after_calls w p.parts v (ap (take 8192) empty ∙ sym empty) p.calls
    ∙ ap (λ l. take 8192 (l ++ concat p.parts)) empty ∙ ap (take 8192) p.whole

-- of a buffer that was empty, all that it holds is the text, as far as there was room
pub text_held : {A E : Type 0} (r : Result A E) (w : TextBuffer) (text : Option (List ℕ)) (v : TextBuffer)
    (told : List ℕ) → text_in w.bytes w.used ≡ [] → told ≡ text_in v.bytes v.used
    → OnOk r (WritesText (λ s bs t. HoldsMore s.bytes s.used bs t.bytes t.used) w text v)
    → OnOk r (IfSome text (λ bs. told ≡ take 8192 bs))
text_held (Ok x) w text v told empty is p = all_held w text v told empty is p
text_held (Err x) w text v told empty is p = tt
