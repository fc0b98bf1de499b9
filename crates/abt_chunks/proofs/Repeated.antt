-- A word that is written again and again.
use Rattle.std.proofs.Common.{◌≡◌, ℕ, ◌+◌, ◌-◌, ◌*◌, ◌≤◌, List, ◌++◌, length, take, replicate, sym, ap, ◌∙◌, arith}
use Rattle.std.proofs.Common.{append_assoc}
use Rattle.std.specs.List.{concat}
use Rattle.std.specs.Prelude.{slice_range}
use Rattle.std.proofs.lemmas.List.{take-take}
use Rattle.abt_io.proofs.Words.{front_words, length_words, take_past, words_add}

abbrev words : ℕ → List ℕ → List ℕ
words n w = concat (replicate n w)

-- the beginning of the window, where most words are written
pub some_of_window : (window w : List ℕ) (most some : ℕ) → length w ≡ 4 → some ≤ most
    → take (4 * most) window ≡ words most w → slice_range window 0 (4 * some) ≡ words some w
some_of_window window w most some l le laid =
    ap (λ (j : ℕ). take j window) (let z : 4 * some - 0 ≡ 4 * some = omega arith in z)
    ∙ sym (take-take (4 * some) (4 * most) window (omega arith))
    ∙ ap (λ (xs : List ℕ). take (4 * some) xs) laid ∙ front_words most some w l le

-- some more of them after those that are written
pub words_on : (old now new part w : List ℕ) (done some : ℕ) → now ≡ old ++ words done w → part ≡ words some w
    → new ≡ now ++ part → new ≡ old ++ words (done + some) w
words_on old now new part w done some before p e =
    e ∙ ap (λ (l : List ℕ). l ++ part) before ∙ append_assoc old (words done w) part
    ∙ ap (λ (l : List ℕ). old ++ (words done w ++ l)) p
    ∙ ap (λ (l : List ℕ). old ++ l) (sym (words_add done some w))

-- and a prefix of some more
pub words_front : (old now new part w : List ℕ) (done some n k j : ℕ) → length w ≡ 4 → now ≡ old ++ words done w
    → part ≡ words some w → new ≡ now ++ take k part → k ≤ 4 * some → done + some ≤ n → j ≡ 4 * done + k
    → new ≡ old ++ take j (words n w)
words_front old now new part w done some n k j l before p e kle le same =
    let rest = words (n - done) w in
    let split : words n w ≡ words done w ++ rest =
    ap (λ (i : ℕ). words i w) (let q : n ≡ done + (n - done) = omega arith in q) ∙ words_add done (n - done) w in
    let tail : take k rest ≡ take k part = sym (take-take k (4 * some) rest kle)
    ∙ ap (λ (xs : List ℕ). take k xs) (front_words (n - done) some w l (omega arith) ∙ sym p) in
    e ∙ ap (λ (xs : List ℕ). xs ++ take k part) before ∙ append_assoc old (words done w) (take k part)
    ∙ ap (λ (xs : List ℕ). old ++ xs) (sym (ap (λ (xs : List ℕ). take j xs) split
    ∙ take_past (words done w) rest (4 * done) j (length_words done w l) (omega arith)
    ∙ ap (λ (i : ℕ). words done w ++ take i rest) (let q : j - 4 * done ≡ k = omega arith in q)
    ∙ ap (λ (xs : List ℕ). words done w ++ xs) tail))
