-- What a word is cut into: numbers hold no mark, so there is one way.
use Rattle.std.proofs.Common.{rules, ◌≡◌, ◌≢◌, ℕ, zero, suc, ◌<◌, ◌≤◌, true, List, [], ◌∷◌, ◌++◌, length, drop}
use Rattle.std.proofs.Common.{slice_index, refl, sym, ap, ◌∙◌, arith}
use Rattle.std.proofs.lemmas.Str.Parse.{IsNumeralModel, numerals_by_value, not_in_digits}
use Rattle.std.specs.Int.{IsInRange}
use Rattle.std.specs.Str.{all_ascii_digits}
use Rattle.std.specs.Str.Parse.{digits_value}
use Rattle.abt_headers.specs.declared.os.OsParts.{OsParts}
use Rattle.cmd_common_fields.specs.Board.{IsBoardWord}
use Rattle.cmd_common_fields.specs.OsWord.{IsNumberWord, IsOsWord}
use Rattle.cmd_common_fields.specs.declared.board_word.BoardWord.{BoardWord}

own : IsNumeralModel (λ (ds : List ℕ). all_ascii_digits ds ≡ true) (digits_value 10)
own = numerals_by_value _ (search rules)

-- ---- one cut

abbrev pub Lacks : ℕ → List ℕ → Type 0
Lacks mark x = (i : ℕ) → i < length x → slice_index x i ≢ mark

lacks_low : (mark : ℕ) (word : List ℕ) (n : ℕ) → mark < 48 → IsNumberWord word n → Lacks mark word
lacks_low mark word n low w = not_in_digits own word mark w.digits
    (λ (q : IsInRange 48 57 mark). omega (arith, q.0, low))

pub lacks_high : (mark : ℕ) (word : List ℕ) (n : ℕ) → 57 < mark → IsNumberWord word n → Lacks mark word
lacks_high mark word n high w = not_in_digits own word mark w.digits
    (λ (q : IsInRange 48 57 mark). omega (arith, q.1, high))

pub cut_once : (mark : ℕ) (a a' b b' : List ℕ) → Lacks mark a → Lacks mark a' → a ++ (mark ∷ b) ≡ a' ++ (mark ∷ b')
    → (a ≡ a') × (b ≡ b')
cut_once mark [] [] b b' h k e = (refl, ap (drop 1) e)
cut_once mark [] (c ∷ a') b b' h k e = absurd (k 0 (omega arith) (sym (ap (λ l. slice_index l 0) e)))
cut_once mark (c ∷ a) [] b b' h k e = absurd (h 0 (omega arith) (ap (λ l. slice_index l 0) e))
cut_once mark (c ∷ a) (d ∷ a') b b' h k e =
    let rest = cut_once mark a a' b b' (λ i l. h (suc i) (omega (arith, l))) (λ i l. k (suc i) (omega (arith, l)))
    (ap (drop 1) e) in
    let head : c ≡ d = ap (λ l. slice_index l 0) e in
    (ap (λ n. n ∷ a) head ∙ ap (λ l. d ∷ l) rest.0, rest.1)

number_once : (v w : List ℕ) (n m : ℕ) → v ≡ w → IsNumberWord v n → IsNumberWord w m → n ≡ m
number_once v w n m e p q = sym p.value ∙ ap (digits_value 10) e ∙ q.value

-- ---- the words of `--os` and `--board-id`

same_os : (f : ℕ → ℕ → ℕ → ℕ → ℕ → OsParts) (a b c d e a' b' c' d' e' : ℕ) → a ≡ a' → b ≡ b' → c ≡ c' → d ≡ d' → e ≡ e'
    → f a b c d e ≡ f a' b' c' d' e'
same_os f a b c d e a' b' c' d' e' p q r s t = cc

pub os_once : (word : List ℕ) (p q : OsParts) → IsOsWord word p → IsOsWord word q → p ≡ q
os_once word p q h k =
    let a = cut_once 46 h.a k.a _ _ (lacks_low 46 h.a p.a (omega arith) h.is_a)
    (lacks_low 46 k.a q.a (omega arith) k.is_a) (sym h.parts ∙ k.parts) in
    let b = cut_once 46 h.b k.b _ _ (lacks_low 46 h.b p.b (omega arith) h.is_b)
    (lacks_low 46 k.b q.b (omega arith) k.is_b) a.1 in
    let c = cut_once 45 h.c k.c _ _ (lacks_low 45 h.c p.c (omega arith) h.is_c)
    (lacks_low 45 k.c q.c (omega arith) k.is_c) b.1 in
    let y = cut_once 45 h.year k.year _ _ (lacks_low 45 h.year p.year (omega arith) h.is_year)
    (lacks_low 45 k.year q.year (omega arith) k.is_year) c.1 in
    same_os (λ a b c y m. record { a = a; b = b; c = c; year = y; month = m })
    p.a p.b p.c p.year p.month q.a q.b q.c q.year q.month
    (number_once h.a k.a p.a q.a a.0 h.is_a k.is_a)
    (number_once h.b k.b p.b q.b b.0 h.is_b k.is_b)
    (number_once h.c k.c p.c q.c c.0 h.is_c k.is_c)
    (number_once h.year k.year p.year q.year y.0 h.is_year k.is_year)
    (number_once h.month k.month p.month q.month y.1 h.is_month k.is_month)

same_board : (f : ℕ → ℕ → ℕ → BoardWord) (a b c a' b' c' : ℕ) → a ≡ a' → b ≡ b' → c ≡ c' → f a b c ≡ f a' b' c'
same_board f a b c a' b' c' p q r = cc

pub board_once : (word : List ℕ) (p q : BoardWord) → IsBoardWord word p → IsBoardWord word q → p ≡ q
board_once word p q h k =
    let a = cut_once 58 h.fragment k.fragment _ _ (lacks_high 58 h.fragment p.fragment (omega arith) h.is_fragment)
    (lacks_high 58 k.fragment q.fragment (omega arith) k.is_fragment) (sym h.parts ∙ k.parts) in
    let b = cut_once 61 h.place k.place _ _ (lacks_high 61 h.place p.place (omega arith) h.is_place)
    (lacks_high 61 k.place q.place (omega arith) k.is_place) a.1 in
    same_board (λ f k n. record { fragment = f; place = k; number = n })
    p.fragment p.place p.number q.fragment q.place q.number
    (number_once h.fragment k.fragment p.fragment q.fragment a.0 h.is_fragment k.is_fragment)
    (number_once h.place k.place p.place q.place b.0 h.is_place k.is_place)
    (number_once h.number k.number p.number q.number b.1 h.is_number k.is_number)
