-- The board ids that an order sets are those of the image.
use Rattle.std.proofs.Common.{eq-eqb, inl, inr, length-set, ◌≡◌, ℕ, zero, suc, ◌+◌, ◌<◌, ◌≤◌, ◌==◌, ◌&&◌, cond, List}
use Rattle.std.proofs.Common.{[], ◌∷◌, map, length}
use Rattle.std.proofs.Common.{set, replicate, drop, slice_index, slice_index_or, refl, sym, ap, subst, ◌∙◌, arith}
use Rattle.std.proofs.lemmas.Bool.{cases_Bool, cases_lt, eqb-true, false≢true}
use Rattle.std.proofs.lemmas.List.{ext_get_or, get_or-replicate, get_or-set_other, get_or-set_same, get_or_past}
use Rattle.std.proofs.lemmas.List.{length-replicate}
use Rattle.std.specs.List.{All, AllByRecursion}
use Rattle.abt_sections.specs.Canonical.{FragmentFits}
use Rattle.abt_sections.specs.declared.spec.FragmentSpec.{FragmentSpec}
use Rattle.cmd_common_fields.specs.declared.board_word.BoardWord.{BoardWord}
use Rattle.cmd_common_boot.specs.Boards.{AreSet, with_board, with_fragment}
use Rattle.law_boot.specs.Said.{AreBoards, board_id_of, number_after, without_board}
use Rattle.law_pack.proofs.PackedCuts.{board_once}

-- ---- what the words set

abbrev set_boards : List FragmentSpec → List BoardWord → List FragmentSpec
set_boards fs [] = fs
set_boards fs (b ∷ bs) = set_boards (with_board fs b) bs

sets : (count : ℕ) (words : List (List ℕ)) (bs : List BoardWord) (old new : List FragmentSpec)
    → AreBoards count words bs → AreSet words old new → new ≡ set_boards old bs
sets count [] [] old new a s = s
sets count [] (b ∷ bs) old new a s = absurd a
sets count (w ∷ ws) [] old new a s = absurd a
sets count (w ∷ ws) (b ∷ bs) old new a s =
    let next : s.0 ≡ with_board old b = s.1.is ∙ ap (with_board old) (board_once w s.1.board b s.1.shape a.0) in
    sets count ws bs s.0 new a.3 s.2 ∙ ap (λ (fs : List FragmentSpec). set_boards fs bs) next

-- each word is about one of so many fragments, and one of sixteen numbers
abbrev Fit : ℕ → List BoardWord → Type 0
Fit count bs = AllByRecursion (λ b. (b.fragment < count) × (b.place < 16)) bs

boards_fit : (count : ℕ) (words : List (List ℕ)) (bs : List BoardWord) → AreBoards count words bs → Fit count bs
boards_fit count [] [] a = tt
boards_fit count [] (b ∷ bs) a = absurd a
boards_fit count (w ∷ ws) [] a = absurd a
boards_fit count (w ∷ ws) (b ∷ bs) a = ((a.2, a.1.place), boards_fit count ws bs a.3)

-- ---- what they leave

abbrev Long : List FragmentSpec → Type 0
Long fs = AllByRecursion (λ f. length f.board_id ≡ 16) fs

count_kept : (fs : List FragmentSpec) (i k n : ℕ) → length (with_fragment fs i k n) ≡ length fs
count_kept [] i k n = refl
count_kept (f ∷ fs) zero k n = refl
count_kept (f ∷ fs) (suc i) k n = ap suc (count_kept fs i k n)

long_kept : (fs : List FragmentSpec) (i k n : ℕ) → Long fs → Long (with_fragment fs i k n)
long_kept [] i k n l = tt
long_kept (f ∷ fs) zero k n l = (length-set f.board_id k n ∙ l.0, l.1)
long_kept (f ∷ fs) (suc i) k n l = (l.0, long_kept fs i k n l.1)

rest_kept : (fs : List FragmentSpec) (i k n : ℕ) → map without_board (with_fragment fs i k n) ≡ map without_board fs
rest_kept [] i k n = refl
rest_kept (f ∷ fs) zero k n = refl
rest_kept (f ∷ fs) (suc i) k n = ap (λ (l : List FragmentSpec). without_board f ∷ l) (rest_kept fs i k n)

long_set : (bs : List BoardWord) (fs : List FragmentSpec) → Long fs → Long (set_boards fs bs)
long_set [] fs l = l
long_set (b ∷ bs) fs l = long_set bs (with_board fs b) (long_kept fs b.fragment b.place b.number l)

rest_set : (bs : List BoardWord) (fs : List FragmentSpec) → map without_board (set_boards fs bs) ≡ map without_board fs
rest_set [] fs = refl
rest_set (b ∷ bs) fs = rest_set bs (with_board fs b) ∙ rest_kept fs b.fragment b.place b.number

-- ---- single numbers

-- number k of the board id of fragment i
abbrev number_at : List FragmentSpec → ℕ → ℕ → ℕ
number_at fs i k = slice_index (board_id_of fs i) k

hit : (fs : List FragmentSpec) (i k n : ℕ) → Long fs → i < length fs → k < 16
    → number_at (with_fragment fs i k n) i k ≡ n
hit [] i k n l there place = absurd (omega (arith, there))
hit (f ∷ fs) zero k n l there place = get_or-set_same f.board_id k n 0 (omega (arith, l.0, place))
hit (f ∷ fs) (suc i) k n l there place = hit fs i k n l.1 (omega (arith, there)) place

miss : (fs : List FragmentSpec) (i k n j m : ℕ) → (i ≡ j → k ≡ m → ⊥)
    → number_at (with_fragment fs i k n) j m ≡ number_at fs j m
miss [] i k n j m h = refl
miss (f ∷ fs) zero k n zero m h = get_or-set_other f.board_id k m n 0 (λ e. h refl (sym e))
miss (f ∷ fs) zero k n (suc j) m h = refl
miss (f ∷ fs) (suc i) k n zero m h = refl
miss (f ∷ fs) (suc i) k n (suc j) m h = miss fs i k n j m (λ e. h (ap suc e))

one_set : (fs : List FragmentSpec) (i k n j m : ℕ) → Long fs → i < length fs → k < 16
    → number_at (with_fragment fs i k n) j m ≡ cond ((i == j) && (k == m)) n (number_at fs j m)
one_set fs i k n j m l there place = elim (cases_Bool (i == j)) [
  | inl a ↦ elim (cases_Bool (k == m)) [
    | inl b ↦
        let here : cond ((i == j) && (k == m)) n (number_at fs j m) ≡ n = rw (a, b) refl in
        let g = with_fragment fs i k n in
        subst (λ (q : ℕ). number_at g q m ≡ n) (eqb-true i j a)
        (subst (λ (q : ℕ). number_at g i q ≡ n) (eqb-true k m b) (hit fs i k n l there place)) ∙ sym here
    | inr b ↦
        let here : cond ((i == j) && (k == m)) n (number_at fs j m) ≡ number_at fs j m = rw (a, b) refl in
        miss fs i k n j m (λ e f. false≢true (sym b ∙ eq-eqb k m f)) ∙ sym here
  ]
  | inr a ↦
      let here : cond ((i == j) && (k == m)) n (number_at fs j m) ≡ number_at fs j m = rw a refl in
      miss fs i k n j m (λ e f. false≢true (sym a ∙ eq-eqb i j e)) ∙ sym here
]

all_set : (count : ℕ) (bs : List BoardWord) (fs : List FragmentSpec) → Long fs → Fit count bs → length fs ≡ count
    → (i k : ℕ)
    → number_at (set_boards fs bs) i k ≡ number_after (number_at fs i k) bs i k
all_set count [] fs l fit e i k = refl
all_set count (b ∷ bs) fs l fit e i k =
    all_set count bs (with_board fs b) (long_kept fs b.fragment b.place b.number l) fit.1
    (count_kept fs b.fragment b.place b.number ∙ e) i k
    ∙ ap (λ (n : ℕ). number_after n bs i k)
    (one_set fs b.fragment b.place b.number i k l (omega (arith, e, fit.0.0)) fit.0.1)

-- ---- the fragments

none_at : (i k : ℕ) (fs : List FragmentSpec) → number_at (map without_board fs) i k ≡ 0
none_at i k [] =
    let none : slice_index_or {A = List ℕ} [] i [] ≡ [] = get_or_past [] i [] (omega arith) in
    ap (λ (l : List ℕ). slice_index l k) none ∙ get_or_past [] k 0 (omega arith)
none_at zero k (f ∷ fs) = elim (cases_lt k 16) [
  | inl low ↦ get_or-replicate 16 k 0 0 low
  | inr high ↦ get_or_past (replicate 16 0) k 0 (omega (arith, high, length-replicate {A = ℕ} 16 0))
]
none_at (suc i) k (f ∷ fs) = none_at i k fs

same_fragment : (f : ℕ → List ℕ → List ℕ → FragmentSpec) (g h : FragmentSpec) → g.kind ≡ h.kind → g.name ≡ h.name
    → g.board_id ≡ h.board_id
    → f g.kind g.name g.board_id ≡ f h.kind h.name h.board_id
same_fragment f g h a b c = cc

same_fragments : (gs fs : List FragmentSpec) → map without_board gs ≡ map without_board fs → Long gs → Long fs
    → ((i k : ℕ) → number_at gs i k ≡ number_at fs i k) → gs ≡ fs
same_fragments [] [] e l m n = refl
same_fragments [] (f ∷ fs) e l m n = absurd
    (let q : 0 ≡ suc (length (map without_board fs)) = ap length e in omega (arith, q))
same_fragments (g ∷ gs) [] e l m n = absurd
    (let q : suc (length (map without_board gs)) ≡ 0 = ap length e in omega (arith, q))
same_fragments (g ∷ gs) (f ∷ fs) e l m n =
    let head : without_board g ≡ without_board f = ap (λ (s : List FragmentSpec). slice_index_or s 0 (without_board g))
    e in
    let board : g.board_id ≡ f.board_id = ext_get_or 0 g.board_id f.board_id (l.0 ∙ sym m.0) (λ k s. n 0 k) in
    let one : g ≡ f = same_fragment (λ k x b. record { kind = k; name = x; board_id = b }) g f
    (ap (λ (s : FragmentSpec). s.kind) head) (ap (λ (s : FragmentSpec). s.name) head) board in
    ap (λ (s : FragmentSpec). s ∷ gs) one ∙ ap (λ (l : List FragmentSpec). f ∷ l)
    (same_fragments gs fs (ap (drop 1) e) l.1 m.1 (λ i k. n (suc i) k))

bare_twice : (fs : List FragmentSpec) → map without_board (map without_board fs) ≡ map without_board fs
bare_twice [] = refl
bare_twice (f ∷ fs) = ap (λ (l : List FragmentSpec). without_board f ∷ l) (bare_twice fs)

bare_long : (fs : List FragmentSpec) → Long (map without_board fs)
bare_long [] = tt
bare_long (f ∷ fs) = (length-replicate {A = ℕ} 16 0, bare_long fs)

bare_count : (fs : List FragmentSpec) → length (map without_board fs) ≡ length fs
bare_count [] = refl
bare_count (f ∷ fs) = ap suc (bare_count fs)

fits_long : (fs : List FragmentSpec) → All FragmentFits fs → Long fs
fits_long [] all = tt
fits_long (f ∷ fs) all = ((all 0 f (omega arith)).board_long, fits_long fs (λ k d l. all (suc k) d (omega (arith, l))))

-- of what the words say without board ids, those that set them make the fragments
pub boards_set : (fs : List FragmentSpec) (words : List (List ℕ)) (bs : List BoardWord) (new : List FragmentSpec)
    → All FragmentFits fs → AreBoards (length fs) words bs
    → ((i k : ℕ) → slice_index (board_id_of fs i) k ≡ number_after 0 bs i k) → AreSet words (map without_board fs) new
    → new ≡ fs
boards_set fs words bs new fits are ids set =
    let bare = map without_board fs in
    let numbers : (i k : ℕ) → number_at (set_boards bare bs) i k ≡ number_at fs i k = λ i k.
    all_set (length fs) bs bare (bare_long fs) (boards_fit (length fs) words bs are) (bare_count fs) i k
    ∙ ap (λ (n : ℕ). number_after n bs i k) (none_at i k fs) ∙ sym (ids i k) in
    sets (length fs) words bs bare new are set
    ∙ same_fragments (set_boards bare bs) fs (rest_set bs bare ∙ bare_twice fs) (long_set bs bare (bare_long fs))
    (fits_long fs fits) numbers
