-- The files of parts, and all of them.
use Rattle.std.proofs.Common.{◌≡◌, ℕ, ◌+◌, ◌-◌, ◌<◌, ◌≤◌, List, [], Option, Some, None, IfSome, length, refl}
use Rattle.std.proofs.Common.{sym, ap, ◌∙◌, subst}
use Rattle.std.proofs.Common.{arith, rules, nat_lt, below_more, inl, inr, Err}
use Rattle.std.specs.Prelude.{Contains, slice_index_or, true, false, if◌then◌else◌}
use Rattle.std.proofs.lemmas.List.{get_or_default}
use Rattle.std.proofs.lemmas.List.Elements.{Contains-push}
use Rattle.abt_headers.specs.declared.sections.SectionPlace.{SectionPlace}
use Rattle.sys_disk.specs.Counts.{Cause, Counts, call}
use Rattle.sys_disk.specs.World.{World, OpenFiles, OpensFile, HasFailed, IsFree, counting}
use Rattle.sys_disk.specs.Among.{GoesAmong, IsMade, KeepsMade, FileHolds, OnlyAmong}
use Rattle.sys_disk.proofs.Amongs.{among_behind, goes_none, goes_then, made_later, stands}
use Rattle.abt_sections.specs.Header.{Header, places_of, fragment_count, fragment_of}
use Rattle.abt_sections.specs.Layout.{part_of}
use Rattle.abt_sections.specs.Open.{HasImage}
use Rattle.cmd_common_boot.proofs.Causes.{host_image, refused_more, refuses_file}
use Rattle.cmd_common_boot.specs.declared.fault.BootCommandFault.{BootCommandFault}
use Rattle.abt_io.specs.declared.device.Source as sources
use Rattle.cmd_unpack.specs.Writing.{KeepsInUse, WritesParts}
use Rattle.cmd_unpack.proofs.UnpackSteps.{Allowed, allowed_as, allowed_more, guards_counted, guards_then}
use Rattle.cmd_unpack.proofs.UnpackSteps.{parts_none}
use Rattle.cmd_common_texts.specs.Words.{has_table}
use Rattle.cmd_unpack_aosp_texts.specs.Files.{name_of_fragment, name_of_section}
use Rattle.cmd_unpack_aosp.specs.AospFiles.{FileDone, FilesDone, HasFreeFile, HaveFreeFiles, IsFileOf, IsFilePath}
use Rattle.cmd_unpack_aosp.specs.AospFiles.{IsUnnamed, IsUnnamedAt, LooksAtFiles, none_taken}
use Rattle.cmd_unpack_aosp.specs.AospFiles.{RefusesName, RefusesPart, RefusesUnpack}
use Rattle.cmd_unpack_aosp.specs.AospFiles.{UnpacksAsAosp}
use Rattle.cmd_unpack_aosp.specs.AospFiles.{part_bytes_at, file_count, name_at, no_place, path_in_folder, place_at}

-- ---- one part

lies_below : (i n : ℕ) → i < n → nat_lt i n ≡ true
lies_below i n below = search (rules, arith)

lies_behind : (k n : ℕ) → nat_lt (n + k) n ≡ false
lies_behind k n = search (rules, arith)

same_place : (h : Header) (i : ℕ) (p : SectionPlace) → i < length (places_of h) → p ≡ slice_index_or (places_of h) i p
    → place_at h i ≡ p
same_place h i p there found = get_or_default (places_of h) i no_place p there ∙ sym found

pub section_name_at : (h : Header) (i : ℕ) (p : SectionPlace) → i < length (places_of h)
    → p ≡ slice_index_or (places_of h) i p
    → name_at h i ≡ name_of_section (has_table h) p
section_name_at h i p there found =
    ap (λ b. if b then name_of_section (has_table h) (place_at h i)
    else Some (name_of_fragment (i - length (places_of h)))) (lies_below i (length (places_of h)) there)
    ∙ ap (name_of_section (has_table h)) (same_place h i p there found)

pub section_bytes_at : (x : List ℕ) (h : Header) (i : ℕ) (p : SectionPlace) → i < length (places_of h)
    → p ≡ slice_index_or (places_of h) i p → part_of x p ≡ part_bytes_at x h i
section_bytes_at x h i p there found =
    ap (part_of x) (sym (same_place h i p there found))
    ∙ sym (ap (λ b. if b then part_of x (place_at h i) else fragment_of x h (i - length (places_of h)))
    (lies_below i (length (places_of h)) there))

behind : (n k : ℕ) → n + k - n ≡ k
behind n k = omega arith

fragment_name_at : (h : Header) (k : ℕ) → name_at h (length (places_of h) + k) ≡ Some (name_of_fragment k)
fragment_name_at h k =
    let n = length (places_of h) in
    ap (λ b. if b then name_of_section (has_table h) (place_at h (n + k)) else Some (name_of_fragment (n + k - n)))
    (lies_behind k n) ∙ ap (λ j. Some (name_of_fragment j)) (behind n k)

fragment_bytes_at : (x : List ℕ) (h : Header) (k : ℕ)
    → fragment_of x h k ≡ part_bytes_at x h (length (places_of h) + k)
fragment_bytes_at x h k =
    let n = length (places_of h) in
    sym (ap (λ b. if b then part_of x (place_at h (n + k)) else fragment_of x h (n + k - n)) (lies_behind k n)
    ∙ ap (fragment_of x h) (behind n k))

-- a fragment after all sections
pub fragment_found : (h : Header) (i k : ℕ) (name : List ℕ) → i ≡ length (places_of h) + k → name ≡ name_of_fragment k
    → name_at h i ≡ Some name
fragment_found h i k name behind_all named =
    ap (name_at h) behind_all ∙ fragment_name_at h k ∙ ap (λ n. Some n) (sym named)

pub fragment_bytes : (x : List ℕ) (h : Header) (i k : ℕ) → i ≡ length (places_of h) + k
    → fragment_of x h k ≡ part_bytes_at x h i
fragment_bytes x h i k behind_all = fragment_bytes_at x h k ∙ ap (part_bytes_at x h) (sym behind_all)

pub in_count : (h : Header) (i : ℕ) → i < length (places_of h) → i < file_count h
in_count h i there = omega (arith, there)

pub fragment_in_count : (h : Header) (i k : ℕ) → i ≡ length (places_of h) + k → k < fragment_count h → i < file_count h
fragment_in_count h i k behind_all there = omega (arith, behind_all, there)

pub file_named : (folder : List ℕ) (h : Header) (i : ℕ) (name path : List ℕ) → i < file_count h
    → name_at h i ≡ Some name
    → path ≡ path_in_folder folder name → IsFilePath folder h (i + 1) path
file_named folder h i name path there found is_path = record {
  index = i;
  name = name;
  below = omega arith;
  there = there;
  found = found;
  is_path = is_path;
}

pub file_done : (folder : List ℕ) (h : Header) (x : List ℕ) (i : ℕ) (held : OpenFiles) (world : World) (name bytes :
    List ℕ)
    → name_at h i ≡ Some name → bytes ≡ part_bytes_at x h i → IsMade held world (path_in_folder folder name) bytes
    → FileDone folder h x i held world
file_done folder h x i held world name bytes found same made =
    subst (λ o. IfSome o (λ n. IsMade held world (path_in_folder folder n) (part_bytes_at x h i))) (sym found)
    (subst (λ b. IsMade held world (path_in_folder folder name) b) same made)

pub no_file : (folder : List ℕ) (h : Header) (x : List ℕ) (i : ℕ) (held : OpenFiles) (world : World) → name_at h i
    ≡ None
    → FileDone folder h x i held world
no_file folder h x i held world none =
    subst (λ o. IfSome o (λ n. IsMade held world (path_in_folder folder n) (part_bytes_at x h i))) (sym none) tt

-- ---- the look at all names

pub none_looked_at : (folder : List ℕ) (h : Header) (held : OpenFiles) (w : World) → HaveFreeFiles folder h 0 held w
none_looked_at folder h held w = λ j below. absurd (omega (arith, below))

pub free_more : (folder : List ℕ) (h : Header) (i : ℕ) (held : OpenFiles) (w : World)
    → HaveFreeFiles folder h i held w → HasFreeFile folder h held w i → HaveFreeFiles folder h (i + 1) held w
free_more folder h i held w all free = below_more (HasFreeFile folder h held w) i all free

-- no file of a part is the image's
pub looks : (path folder x : List ℕ) (header : Header) (h h' : OpenFiles) (a b c : World) → OpensFile a path x h h'
    → b ≡ a → HasImage x header → HaveFreeFiles folder header (file_count header) h' b → LooksAtFiles path folder a c
looks path folder x header h h' a b c opens same image all =
    none_taken opens.file opens.there header (subst (λ z. HasImage z header) opens.held image)
    (λ p is at.
    let free : IsFree (path_in_folder folder is.name) h' b =
    subst (λ o. IfSome o (λ n. IsFree (path_in_folder folder n) h' b)) is.found (all is.index is.there) in
    (free opens.file (ap b.at (sym is.is_path) ∙ subst (λ w. w.at p ≡ Some opens.file) (sym same) at)).0
    (subst (λ k. Contains k.read opens.file) (sym opens.taken) (Contains-push h.read opens.file)))

-- ---- one after others

pub path_under : {folder : List ℕ} {h : Header} {m n : ℕ} → m ≤ n → (p : List ℕ) → IsFilePath folder h m p
    → IsFilePath folder h n p
path_under more p named = record {
  index = named.index;
  name = named.name;
  below = omega (arith, named.below, more);
  there = named.there;
  found = named.found;
  is_path = named.is_path;
}

pub path_any : {folder : List ℕ} {h : Header} {m : ℕ} (p : List ℕ) → IsFilePath folder h m p
    → IsFilePath folder h (file_count h) p
path_any p named = record {
  index = named.index;
  name = named.name;
  below = named.there;
  there = named.there;
  found = named.found;
  is_path = named.is_path;
}

done_later : (folder : List ℕ) (h : Header) (x : List ℕ) (i : ℕ) (k k' : OpenFiles) (a b : World) (o : Option (List ℕ))
    → KeepsMade k k' a b → IfSome o (λ n. IsMade k a (path_in_folder folder n) (part_bytes_at x h i))
    → IfSome o (λ n. IsMade k' b (path_in_folder folder n) (part_bytes_at x h i))
done_later folder h x i k k' a b None kept done = tt
done_later folder h x i k k' a b (Some n) kept done = made_later k k' a b _ _ kept done

pub no_files : (folder : List ℕ) (h : Header) (x : List ℕ) (k : OpenFiles) (w : World) → FilesDone folder h x 0 k w
no_files folder h x k w = λ j below. absurd (omega (arith, below))

pub files_more : (folder : List ℕ) (h : Header) (x y : List ℕ) (n : ℕ) (k k' : OpenFiles) (a b : World) → y ≡ x
    → KeepsMade k k' a b → FilesDone folder h x n k a → FileDone folder h y n k' b → FilesDone folder h x (n + 1) k' b
files_more folder h x y n k k' a b same kept done next =
    below_more (λ j. FileDone folder h x j k' b) n
    (λ j below. done_later folder h x j k k' a b (name_at h j) kept (done j below))
    (subst (λ z. FileDone folder h z n k' b) same next)

-- a failure after others
pub part_more : (x y : List ℕ) (h : Header) (P Q : Cause → Type 0) (fault : BootCommandFault) → y ≡ x
    → RefusesPart y h P fault → ((cause : Cause) → P cause → Q cause) → RefusesPart x h Q fault
part_more x y h P Q fault same (inl refused) more = inl (refused_more x y P Q ⊥ ⊥ fault same refused more (λ none.
    none))
part_more x y h P Q fault same (inr unnamed) more = inr unnamed

-- ---- all of it

all_stand : (folder : List ℕ) (h : Header) (x : List ℕ) (i : ℕ) (k : OpenFiles) (w : World) (o : Option (List ℕ))
    → IfSome o (λ n. IsMade k w (path_in_folder folder n) (part_bytes_at x h i))
    → IfSome o (λ n. FileHolds w (path_in_folder folder n) (part_bytes_at x h i))
all_stand folder h x i k w None done = tt
all_stand folder h x i k w (Some n) done = stands k w _ _ done

pub unpacks_all : (path folder x : List ℕ) (header : Header) (h h' h'' : OpenFiles) (a c : World)
    → OpensFile a path x h h'
    → HasImage x header → FilesDone folder header x (file_count header) h'' c → UnpacksAsAosp path folder a c
unpacks_all path folder x header h h' h'' a c opens image done = record {
  from = opens.file;
  there = opens.there;
  header = header;
  image = subst (λ z. HasImage z header) opens.held image;
  files = λ i below. subst (λ z. IfSome (name_at header i)
      (λ n. FileHolds c (path_in_folder folder n) (part_bytes_at z header i))) opens.held
      (all_stand folder header x i h'' c (name_at header i) (done i below));
}

pub file_of_image : (path folder x : List ℕ) (header : Header) (h h' : OpenFiles) (a : World) → OpensFile a path x h h'
    → HasImage x header → (p : List ℕ) → IsFilePath folder header (file_count header) p → IsFileOf path folder a p
file_of_image path folder x header h h' a opens image p named = record {
  from = opens.file;
  there = opens.there;
  header = header;
  image = subst (λ z. HasImage z header) opens.held image;
  is_file = named;
}

-- whatever was done after a file was opened, before it was closed: only such files, where they may be written
pub only_files : (path folder x : List ℕ) (header : Header) (h h' g h'' k : OpenFiles) (a b c d : World) (m n : Counts)
    → h.begun ≡ [] → OpensFile a path x h h' → b ≡ a → HasImage x header → g ≡ counting m h'
    → GoesAmong (Allowed (IsFilePath folder header (file_count header)) g) g h'' b c → k ≡ counting n h'' → d ≡ c
    → OnlyAmong (Allowed (IsFileOf path folder a) h) h.read k.begun a d
only_files path folder x header h h' g h'' k a b c d m n none opens same image taken goes let_go still =
    let P = IsFilePath folder header (file_count header) in
    let Q = Allowed (IsFileOf path folder a) h in
    let opened : KeepsInUse h h' = record {
      in_use = ap (λ q. q.in_use) opens.taken;
      allows = ap (λ q. q.allows_mounted) opens.taken;
    } in
    let guards = guards_then h h' g opened (guards_counted h' g m taken) in
    let named = allowed_more P (IsFileOf path folder a) h g h'' b c
    (file_of_image path folder x header h h' a opens image) (allowed_as P h g h'' b c guards goes) in
    among_behind Q path x h h' k a b d none opens same
    (goes_then Q h' h'' k b c d (goes_then Q h' g h'' b b c (goes_none Q h' g b b m taken refl) named)
    (goes_none Q h'' k c d n let_go still))

unnamed_at : (path x : List ℕ) (header : Header) (h h' : OpenFiles) (a : World) (fault : BootCommandFault)
    → OpensFile a path x h h' → HasImage x header → IsUnnamed header fault → IsUnnamedAt path a fault
unnamed_at path x header h h' a fault opens image unnamed = record {
  from = opens.file;
  there = opens.there;
  header = header;
  image = subst (λ z. HasImage z header) opens.held image;
  unnamed = unnamed;
}

-- a failure, of the file from which the image was opened
pub unpack_refused : (path x : List ℕ) (header : Header) (h h' : OpenFiles) (a : World) (P Q : Cause → Type 0)
    (fault : BootCommandFault) → OpensFile a path x h h' → HasImage x header → RefusesPart x header P fault
    → ((cause : Cause) → P cause → Q cause) → RefusesUnpack path a Q fault
unpack_refused path x header h h' a P Q fault opens image (inl refused) more =
    inl (refuses_file path x h h' a P ⊥ Q ⊥ fault opens refused more (λ none. absurd none))
unpack_refused path x header h h' a P Q fault opens image (inr unnamed) more =
    inr (unnamed_at path x header h h' a fault opens image unnamed)

-- and one before any part was read
pub taken_refused : (path x : List ℕ) (header : Header) (h h' h'' k : OpenFiles) (a : World) (n : Counts)
    (fault : BootCommandFault) → OpensFile a path x h h' → HasImage x header → k ≡ counting n h''
    → RefusesName header (λ cause. HasFailed cause h' h'') fault
    → RefusesUnpack path a (λ cause. HasFailed cause h k) fault
taken_refused path x header h h' h'' k a n fault opens image let_go (inl refused) =
    let c = call refused.host in
    let e : h'.counts.failed c ≡ h.counts.failed c = ap (λ q. q.counts.failed c) opens.taken in
    let b : k.counts.failed c ≡ h''.counts.failed c + n.failed c = ap (λ q. q.counts.failed c) let_go in
    let r : h'.counts.failed c < h''.counts.failed c = refused.rises in
    inl (host_image path a (λ cause. HasFailed cause h k) ⊥ fault refused.host refused.told (omega (arith, e, b, r)))
taken_refused path x header h h' h'' k a n fault opens image let_go (inr unnamed) =
    inr (unnamed_at path x header h h' a fault opens image unnamed)

-- nothing was begun
pub nothing_begun : {X E A : Type 0} {e : E} {s : sources.Ghosts A} {a : A} {P : List ℕ → Type 0} {h : OpenFiles}
    {u : World}
    → h.output ≡ None → WritesParts {X = X} (Err e) 0 P s a a h h u u
nothing_begun {s = s} {a = a} {P = P} {h = h} {u = u} closed =
    let none = parts_none {s = s} {a = a} {h = h} {u = u} {P = P} closed in record {
      content = tt;
      keeps = none.keeps;
      only = none.only;
      allowed = none.allowed;
      guards = none.guards;
      synced = tt;
      clean = tt;
    }
