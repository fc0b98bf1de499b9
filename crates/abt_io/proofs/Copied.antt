-- What is written part after part: bytes of a source, and zeros.
use Rattle.std.proofs.Common.{◌≡◌, ℕ, ◌+◌, ◌-◌, ◌≤◌, List, [], ◌++◌, length, take, drop, replicate, sym, ap, ◌∙◌}
use Rattle.std.proofs.Common.{append_assoc, append-nil, arith}
use Rattle.std.proofs.lemmas.List.{replicate-append-replicate, take-take, take-replicate, drop-drop}
use Rattle.abt_io.proofs.Parts.{take_plus}

-- one part more of the bytes from a place on
pub copied_more : (w0 w w' s s' : List ℕ) (from at d : ℕ) → s' ≡ s → w ≡ w0 ++ take at (drop from s)
    → w' ≡ w ++ take d (drop (from + at) s') → w' ≡ w0 ++ take (at + d) (drop from s)
copied_more w0 w w' s s' from at d same before e =
    e ∙ ap (λ (l : List ℕ). w ++ take d (drop (from + at) l)) same
    ∙ ap (λ (l : List ℕ). l ++ take d (drop (from + at) s)) before
    ∙ append_assoc w0 (take at (drop from s)) (take d (drop (from + at) s))
    ∙ ap (λ (l : List ℕ). w0 ++ (take at (drop from s) ++ take d l)) (sym (drop-drop at from s))
    ∙ ap (λ (l : List ℕ). w0 ++ l) (take_plus at d (drop from s))

-- what is written is a prefix of the n bytes
pub as_front_of : (w0 w' l : List ℕ) (k n : ℕ) → w' ≡ w0 ++ take k l → length w' - length w0 ≡ k → k ≤ n
    → w' ≡ w0 ++ take (length w' - length w0) (take n l)
as_front_of w0 w' l k n e long le =
    e ∙ ap (λ (x : List ℕ). w0 ++ x) (sym (take-take k n l le)) ∙ ap (λ (j : ℕ). w0 ++ take j (take n l)) (sym long)

pub zeros_more : (w0 w w' part : List ℕ) (at ask : ℕ) → w ≡ w0 ++ replicate at 0 → w' ≡ w ++ part
    → part ≡ replicate ask 0 → w' ≡ w0 ++ replicate (at + ask) 0
zeros_more w0 w w' part at ask before e same =
    e ∙ ap (λ (l : List ℕ). w ++ l) same ∙ ap (λ (l : List ℕ). l ++ replicate ask 0) before
    ∙ append_assoc w0 (replicate at 0) (replicate ask 0)
    ∙ ap (λ (l : List ℕ). w0 ++ l) (replicate-append-replicate at ask 0)

-- a prefix of the n zeros, where the last call wrote none
pub zeros_stay : (w0 w w' : List ℕ) (at n : ℕ) → w ≡ w0 ++ replicate at 0 → w' ≡ w ++ [] → at ≤ n
    → length w ≡ length w0 + at
    → w' ≡ w0 ++ take (length w' - length w0) (replicate n 0)
zeros_stay w0 w w' at n before e room long =
    let same : w' ≡ w = e ∙ append-nil w in
    let here : length w' - length w0 ≡ at = omega (arith, ap length same) in
    same ∙ before ∙ ap (λ (l : List ℕ). w0 ++ l) (sym (take-replicate at n 0 room))
    ∙ ap (λ (j : ℕ). w0 ++ take j (replicate n 0)) (sym here)

-- what was written stays, one part after another
pub grown_more : (w0 w1 w2 : List ℕ) → take (length w0) w1 ≡ w0 → take (length w1) w2 ≡ w1 → length w0 ≤ length w1
    → take (length w0) w2 ≡ w0
grown_more w0 w1 w2 before e le = sym (take-take (length w0) (length w1) w2 le)
    ∙ ap (λ (l : List ℕ). take (length w0) l) e ∙ before
