-- One part more, and all of them.
use Rattle.std.proofs.Common.{◌≡◌, ℕ, ◌+◌, ◌<◌, ◌≤◌, Bool, IsTrue, List, [], ◌++◌, length, sym, ◌∙◌, ap, subst}
use Rattle.std.proofs.Common.{arith, below_more}
use Rattle.std.specs.Prelude.{slice_index_or}
use Rattle.abt_headers.specs.declared.sections.SectionPlace.{SectionPlace}
use Rattle.sys_disk.specs.Counts.{Counts}
use Rattle.sys_disk.specs.World.{World, OpenFiles, Creates, Ends, ended, counting}
use Rattle.abt_sections.specs.Header.{Header, places_of, fragment_count, fragment_of}
use Rattle.abt_sections.specs.Layout.{part_of}
use Rattle.cmd_common_boot.specs.declared.part_names.ImagePart.{ImagePart}
use Rattle.cmd_common_boot.specs.declared.part_names.ImagePart.TheVariants as parts
use Rattle.sys_disk.specs.Among.{GoesAmong, IsMade, KeepsMade}
use Rattle.cmd_unpack.specs.Unpacking.{FragmentsDone, SectionsDone, path_of_part, section_part}
use Rattle.cmd_unpack.specs.Unpacking.{PartsBegun, up_to_section, up_to_fragment, up_to_words}
use Rattle.cmd_unpack.specs.Unpacking.{IsFirstPath, IsFragmentPath, IsSectionPath, of_section, of_fragment, of_words}
use Rattle.cmd_unpack.specs.Unpacking.{PartsLeft, in_fragments, in_sections, in_words}
use Rattle.std.proofs.lemmas.List.{get_or_default}
use Rattle.sys_disk.proofs.Amongs.{goes_more, made_later, made_written}

pub goes_section : (folder : List ℕ) (s f : ℕ) (with_words : Bool) (header : Header) (h h' : OpenFiles) (a b : World)
    → GoesAmong (IsSectionPath folder header s) h h' a b → GoesAmong (IsFirstPath folder header s f with_words) h h' a b
goes_section folder s f with_words header h h' a b goes = goes_more _ _ h h' a b (λ p named. of_section named) goes

pub goes_fragment : (folder : List ℕ) (s f : ℕ) (with_words : Bool) (header : Header) (h h' : OpenFiles) (a b : World)
    → GoesAmong (IsFragmentPath folder header f) h h' a b
    → GoesAmong (IsFirstPath folder header s f with_words) h h' a b
goes_fragment folder s f with_words header h h' a b goes = goes_more _ _ h h' a b (λ p named. of_fragment named) goes

pub goes_words : (folder : List ℕ) (s f : ℕ) (with_words : Bool) (header : Header) (h h' : OpenFiles) (a b : World)
    → IsTrue with_words → GoesAmong (λ path. path ≡ path_of_part folder parts.Words) h h' a b
    → GoesAmong (IsFirstPath folder header s f with_words) h h' a b
goes_words folder s f with_words header h h' a b wanted goes =
    goes_more _ _ h h' a b (λ p named. of_words wanted named) goes

-- they are among more of them, and among all
pub section_under : {folder : List ℕ} {header : Header} {m n : ℕ} → m ≤ n → (p : List ℕ) → IsSectionPath folder header m
    p
    → IsSectionPath folder header n p
section_under more p named = record {
  index = named.index;
  place = named.place;
  below = omega (arith, named.below, more);
  there = named.there;
  found = named.found;
  is_path = named.is_path;
}

pub section_any : {folder : List ℕ} {header : Header} {m : ℕ} (p : List ℕ) → IsSectionPath folder header m p
    → IsSectionPath folder header (length (places_of header)) p
section_any p named = record {
  index = named.index;
  place = named.place;
  below = named.there;
  there = named.there;
  found = named.found;
  is_path = named.is_path;
}

pub fragment_under : {folder : List ℕ} {header : Header} {m n : ℕ} → m ≤ n → (p : List ℕ)
    → IsFragmentPath folder header m p → IsFragmentPath folder header n p
fragment_under more p named = record {
  index = named.index;
  below = omega (arith, named.below, more);
  there = named.there;
  is_path = named.is_path;
}

pub fragment_any : {folder : List ℕ} {header : Header} {m : ℕ} (p : List ℕ) → IsFragmentPath folder header m p
    → IsFragmentPath folder header (fragment_count header) p
fragment_any p named = record {
  index = named.index;
  below = named.there;
  there = named.there;
  is_path = named.is_path;
}

pub sections_later : (folder : List ℕ) (header : Header) (x : List ℕ) (n : ℕ) (h h' : OpenFiles) (a b : World)
    → KeepsMade h h' a b → SectionsDone folder header x n h a → SectionsDone folder header x n h' b
sections_later folder header x n h h' a b kept done =
    λ k below p found. made_later h h' a b _ _ kept (done k below p found)

pub sections_more : (folder : List ℕ) (header : Header) (x y : List ℕ) (n : ℕ) (h h' : OpenFiles) (a b : World) → y ≡ x
    → KeepsMade h h' a b → SectionsDone folder header x n h a
    → ((p : SectionPlace) → p ≡ slice_index_or (places_of header) n p
    → IsMade h' b (path_of_part folder (section_part p)) (part_of y p))
    → SectionsDone folder header x (n + 1) h' b
sections_more folder header x y n h h' a b same kept done next =
    below_more (λ k. (p : SectionPlace) → p ≡ slice_index_or (places_of header) k p
    → IsMade h' b (path_of_part folder (section_part p)) (part_of x p)) n
    (sections_later folder header x n h h' a b kept done)
    (λ p found. subst (λ z. IsMade h' b (path_of_part folder (section_part p)) (part_of z p)) same (next p found))

pub fragments_later : (folder : List ℕ) (header : Header) (x : List ℕ) (n : ℕ) (h h' : OpenFiles) (a b : World)
    → KeepsMade h h' a b → FragmentsDone folder header x n h a → FragmentsDone folder header x n h' b
fragments_later folder header x n h h' a b kept done = λ k below. made_later h h' a b _ _ kept (done k below)

pub fragments_more : (folder : List ℕ) (header : Header) (x y : List ℕ) (n : ℕ) (h h' : OpenFiles) (a b : World) → y ≡ x
    → KeepsMade h h' a b → FragmentsDone folder header x n h a
    → IsMade h' b (path_of_part folder (parts.Fragment n)) (fragment_of y header n)
    → FragmentsDone folder header x (n + 1) h' b
fragments_more folder header x y n h h' a b same kept done next =
    below_more (λ k. IsMade h' b (path_of_part folder (parts.Fragment k)) (fragment_of x header k)) n
    (fragments_later folder header x n h h' a b kept done)
    (subst (λ z. IsMade h' b (path_of_part folder (parts.Fragment n)) (fragment_of z header n)) same next)

pub no_sections : (folder : List ℕ) (header : Header) (x : List ℕ) (h : OpenFiles) (w : World)
    → SectionsDone folder header x
    0 h w
no_sections folder header x h w = λ k below. absurd (omega (arith, below))

pub no_fragments : (folder : List ℕ) (header : Header) (x : List ℕ) (h : OpenFiles) (w : World)
    → FragmentsDone folder header x 0 h w
no_fragments folder header x h w = λ k below. absurd (omega (arith, below))

-- what is stored stays so where only a count has risen
done_counting : (path bytes : List ℕ) (h : OpenFiles) (n : Counts) (w : World) → IsMade h w path bytes
    → IsMade (counting n h) w
    path bytes
done_counting path bytes h n w done = record {
  file = done.file;
  there = done.there;
  holds = done.holds;
  listed = done.listed;
}

pub begun_counting : (folder : List ℕ) (with_words : Bool) (header : Header) (x : List ℕ) (h : OpenFiles) (n : Counts)
    (w : World)
    → PartsBegun folder with_words header x h w → PartsBegun folder with_words header x (counting n h) w
begun_counting folder with_words header x h n w (up_to_section i below sections) =
    up_to_section i below (λ k under p found. done_counting _ _ h n w (sections k under p found))
begun_counting folder with_words header x h n w (up_to_fragment i below sections fragments) =
    up_to_fragment i below (λ k under p found. done_counting _ _ h n w (sections k under p found))
    (λ k under. done_counting _ _ h n w (fragments k under))
begun_counting folder with_words header x h n w (up_to_words wanted sections fragments words) =
    up_to_words wanted (λ k under p found. done_counting _ _ h n w (sections k under p found))
    (λ k under. done_counting _ _ h n w (fragments k under)) (done_counting _ _ h n w words)

pub begun_later : (folder : List ℕ) (with_words : Bool) (header : Header) (x : List ℕ) (h k : OpenFiles) (n : Counts)
    (c d : World)
    → k ≡ counting n h → d ≡ c → PartsBegun folder with_words header x h c → PartsBegun folder with_words header x k d
begun_later folder with_words header x h k n c d let_go same begun =
    subst (λ w. PartsBegun folder with_words header x k w) (sym same)
    (subst (λ q. PartsBegun folder with_words header x q c) (sym let_go)
    (begun_counting folder with_words header x h n c begun))

-- and so do those before a failure
done_let_go : (path bytes : List ℕ) (h k : OpenFiles) (n : Counts) (c d : World) → k ≡ counting n h → d ≡ c
    → IsMade h c path bytes
    → IsMade k d path bytes
done_let_go path bytes h k n c d let_go same done =
    subst (λ w. IsMade k w path bytes) (sym same)
    (subst (λ q. IsMade q c path bytes) (sym let_go) (done_counting path bytes h n c done))

pub left_later : (folder : List ℕ) (header : Header) (x : List ℕ) (Tells : ImagePart → Type 0) (h k : OpenFiles)
    (n : Counts) (c d : World) (Only Later : (List ℕ → Type 0) → Type 0) → ((P : List ℕ → Type 0) → Only P → Later P)
    → k ≡ counting n h → d ≡ c → PartsLeft folder header x Tells h c Only → PartsLeft folder header x Tells k d Later
left_later folder header x Tells h k n c d Only Later more let_go same (in_sections i tells sections only) =
    in_sections i tells (λ j under p found. done_let_go _ _ h k n c d let_go same (sections j under p found))
    (more _ only)
left_later folder header x Tells h k n c d Only Later more let_go same
    (in_fragments i tells sections fragments only) =
    in_fragments i tells (λ j under p found. done_let_go _ _ h k n c d let_go same (sections j under p found))
    (λ j under. done_let_go _ _ h k n c d let_go same (fragments j under)) (more _ only)
left_later folder header x Tells h k n c d Only Later more let_go same (in_words tells sections fragments only) =
    in_words tells (λ j under p found. done_let_go _ _ h k n c d let_go same (sections j under p found))
    (λ j under. done_let_go _ _ h k n c d let_go same (fragments j under)) (more _ only)

-- ---- one section

-- a section does not depend on what is taken where there is none
pub same_section : (header : Header) (i : ℕ) (p q : SectionPlace) → i < length (places_of header)
    → p ≡ slice_index_or (places_of header) i p → q ≡ slice_index_or (places_of header) i q → p ≡ q
same_section header i p q there found found' = found ∙ get_or_default (places_of header) i p q there ∙ sym found'

pub section_named : (folder : List ℕ) (header : Header) (i : ℕ) (q : SectionPlace) (path : List ℕ)
    → i < length (places_of header) → q ≡ slice_index_or (places_of header) i q
    → path ≡ path_of_part folder (section_part q) → IsSectionPath folder header (i + 1) path
section_named folder header i q path there found is_path = record {
  index = i;
  place = q;
  below = omega arith;
  there = there;
  found = found;
  is_path = is_path;
}

pub fragment_named : (folder : List ℕ) (header : Header) (i : ℕ) (path : List ℕ) → i < fragment_count header
    → path ≡ path_of_part folder (parts.Fragment i) → IsFragmentPath folder header (i + 1) path
fragment_named folder header i path there is_path =
    record { index = i; below = omega arith; there = there; is_path = is_path }

-- an output that was created empty, written, and brought to its end
pub part_done : (path path' before after bytes : List ℕ) (b : Bool) (n : Counts) (h h' h'' : OpenFiles)
    (u v w : World) → path ≡ path'
    → before ≡ [] → after ≡ before ++ bytes → Creates path h h' u v → h'' ≡ ended b n h' → Ends h'.output after v w
    → IsMade h'' w path' bytes
part_done path path' before after bytes b n h h' h'' u v w is_path empty written made closed ends =
    let done = made_written path after b n h h' h'' u v w made closed ends in
    subst (λ q. IsMade h'' w q bytes) is_path
    (subst (λ x. IsMade h'' w path x) (written ∙ ap (λ x. x ++ bytes) empty) done)

pub same_path : (folder : List ℕ) (header : Header) (i : ℕ) (q p : SectionPlace) → i < length (places_of header)
    → q ≡ slice_index_or (places_of header) i q → p ≡ slice_index_or (places_of header) i p
    → path_of_part folder (section_part q) ≡ path_of_part folder (section_part p)
same_path folder header i q p there found found' =
    ap (λ place. path_of_part folder (section_part place)) (same_section header i q p there found found')
