-- Files that words name, which are read in turn.
use Rattle.std.proofs.Common.{arith, inl, inr, ◌⊎◌, ◌≡◌, ℕ, suc, ◌+◌, ◌<◌, List, [], ◌∷◌, ◌++◌, length, map, take, drop}
use Rattle.std.proofs.Common.{get_or, false, Option, Some, refl, sym, ◌∙◌, ap, subst, append_assoc}
use Rattle.std.specs.List.{filter}
use Rattle.std.proofs.lemmas.List.{append-nil, map-append}
use Rattle.std.proofs.lemmas.List.Elements.{filter-append}
use Rattle.std.proofs.Math.Seq.{take-suc}
use Rattle.words_values.specs.WordFile.{names_file}
use Rattle.sys_disk.specs.Counts.{Cause}
use Rattle.sys_disk.specs.World.{World, OpenFiles, HasFailed}
use Rattle.cmd_common_sparse.specs.ImagePath.{image_path}
use Rattle.words_program.specs.WordFiles.{ReadsNext, ReadsWordFiles, paths_named}

-- ---- one word

none_named : (word : List ℕ) → names_file word ≡ false → paths_named (word ∷ []) ≡ []
none_named word not = rw not refl

none_taken : (h : OpenFiles) → h ≡ record h { read = h.read ++ [] }
none_taken h = ap (λ (l : List ℕ). record h { read = l }) (sym (append-nil h.read))

pub reads_none : (word : List ℕ) (texts : List (List ℕ)) (a : World) (h : OpenFiles) → names_file word ≡ false
    → ReadsNext word texts texts a h h
reads_none word texts a h not = record {
  own = [];
  behind = sym (append-nil texts);
  reads = record {
    files = [];
    there = ap (map a.at) (none_named word not);
    holds = refl;
    taken = none_taken h;
  };
}

-- ---- words in turn

named_more : (words : List (List ℕ)) (word : List ℕ)
    → paths_named (words ++ (word ∷ [])) ≡ paths_named words ++ paths_named (word ∷ [])
named_more words word =
    let path : List ℕ → List ℕ = λ w. image_path (drop 1 w) in
    ap (map path) (filter-append names_file words (word ∷ []))
    ∙ map-append path (filter names_file words) (filter names_file (word ∷ []))

pub reads_more : (words : List (List ℕ)) (word : List ℕ) (texts texts' : List (List ℕ)) (a a1 : World)
    (h h1 h2 : OpenFiles)
    → ReadsWordFiles words texts a h h1 → a1 ≡ a → ReadsNext word texts texts' a1 h1 h2
    → ReadsWordFiles (words ++ (word ∷ [])) texts' a h h2
reads_more words word texts texts' a a1 h h1 h2 all same next =
    let some : ℕ → Option ℕ = λ f. Some f in
    let more : ReadsNext word texts texts' a h1 h2 = subst (λ w. ReadsNext word texts texts' w h1 h2) same next in
    record {
      files = all.files ++ more.reads.files;
      there = ap (map a.at) (named_more words word) ∙ map-append a.at (paths_named words) (paths_named (word ∷ []))
          ∙ ap (λ l. l ++ map a.at (paths_named (word ∷ []))) all.there
          ∙ ap (λ l. map some all.files ++ l) more.reads.there
          ∙ sym (map-append some all.files more.reads.files);
      holds = more.behind ∙ ap (λ l. l ++ more.own) all.holds
          ∙ ap (λ l. map a.holds all.files ++ l) more.reads.holds
          ∙ sym (map-append a.holds all.files more.reads.files);
      taken = more.reads.taken ∙ ap (λ (k : OpenFiles). record k { read = k.read ++ more.reads.files }) all.taken
          ∙ ap (λ (l : List ℕ). record h { read = l }) (append_assoc h.read all.files more.reads.files);
    }

-- none of them
pub reads_nothing : (texts : List (List ℕ)) (a : World) (h : OpenFiles) → texts ≡ [] → ReadsWordFiles [] texts a h h
reads_nothing texts a h none = record {
  files = [];
  there = refl;
  holds = none;
  taken = none_taken h;
}

-- the word behind the first ones
pub reads_turn : {X : Type 0} (f : X → List ℕ) (xs : List X) (i : ℕ) (d : X) (word : List ℕ)
    (texts texts' : List (List ℕ)) (a a1 : World) (h h1 h2 : OpenFiles) → i < length xs → word ≡ f (get_or xs i d)
    → a1 ≡ a
    → ReadsWordFiles (map f (take i xs)) texts a h h1 → ReadsNext word texts texts' a1 h1 h2
    → ReadsWordFiles (map f (take (i + 1) xs)) texts' a h h2
reads_turn f xs i d word texts texts' a a1 h h1 h2 below is same all next =
    let one : suc i ≡ i + 1 = omega arith in
    let path : map f (take i xs) ++ (word ∷ []) ≡ map f (take (i + 1) xs)
    = ap (λ w. map f (take i xs) ++ (w ∷ [])) is ∙ sym (map-append f (take i xs) (get_or xs i d ∷ []))
    ∙ ap (map f) (sym (take-suc xs i d below)) ∙ ap (λ k. map f (take k xs)) one in
    subst (λ ws. ReadsWordFiles ws texts' a h h2) path
    (reads_more (map f (take i xs)) word texts texts' a a1 h h1 h2 all same next)

-- all of them
pub reads_all : {X : Type 0} (f : X → List ℕ) (xs : List X) (i : ℕ) (texts : List (List ℕ)) (a : World)
    (h h' : OpenFiles)
    → ReadsWordFiles (map f (take i xs)) texts a h h' → take i xs ≡ xs → ReadsWordFiles (map f xs) texts a h h'
reads_all f xs i texts a h h' all end = subst (λ l. ReadsWordFiles (map f l) texts a h h') end all

-- nothing has been opened to be written, where nothing had
pub still_reading : (words texts : List (List ℕ)) (a : World) (h h' : OpenFiles) → ReadsWordFiles words texts a h h'
    → h.begun ≡ [] → h'.begun ≡ []
still_reading words texts a h h' all none = ap (λ k. k.begun) all.taken ∙ none

-- what fails behind them fails in all
pub fails_behind : (words texts : List (List ℕ)) (a : World) (h h1 h2 : OpenFiles) (cause : Cause) (P : Type 0)
    → ReadsWordFiles words texts a h h1 → HasFailed cause h1 h2 ⊎ P → HasFailed cause h h2 ⊎ P
fails_behind words texts a h h1 h2 cause P all (inl failed) =
    let same : h1.counts.failed cause ≡ h.counts.failed cause = ap (λ k. k.counts.failed cause) all.taken in
    inl (omega (arith, same, failed))
fails_behind words texts a h h1 h2 cause P all (inr is) = inr is
