-- The look at all names of parts, before the first is written.
use Rattle.std.proofs.Common.{◌≡◌, ◌<◌, ◌+◌, ℕ, Bool, IsTrue, List, Some, length, refl, sym, ◌∙◌, ap, subst, arith}
use Rattle.std.proofs.Common.{below_more}
use Rattle.std.specs.Prelude.{Contains, if◌then◌else◌}
use Rattle.std.proofs.lemmas.List.Elements.{Contains-push}
use Rattle.abt_sections.specs.Header.{Header, places_of, fragment_count}
use Rattle.abt_sections.specs.Open.{HasImage}
use Rattle.cmd_common_boot.specs.Unpacked.{IsPart, part_count}
use Rattle.cmd_common_boot.specs.declared.part_names.ImagePart.{ImagePart}
use Rattle.sys_disk.specs.World.{World, OpenFiles, OpensFile, IsFree}
use Rattle.cmd_unpack.specs.Unpacking.{HaveFreeNames, HasFreeName, IsPartPath, LooksAtParts, none_taken, path_of_part}
use Rattle.cmd_unpack.specs.Unpacking.{of_fragment, of_section, of_words}
use Rattle.cmd_unpack.proofs.Loops.{same_path}

-- one name more
pub free_more : (folder path : List ℕ) (h : Header) (i : ℕ) (part : ImagePart) (held : OpenFiles) (w : World)
    → HaveFreeNames folder h i held w → IsPart h i part → path ≡ path_of_part folder part → IsFree path held w
    → HaveFreeNames folder h (i + 1) held w
free_more folder path h i part held w all is is_path free =
    below_more (HasFreeName folder h held w) i all
    (record { part = part; is_part = is; free = subst (λ p. IsFree p held w) is_path free })

one_word : (b : Bool) (n : ℕ) → IsTrue b → n < n + (if b then 1 else 0)
one_word b n wanted = subst (λ c. n < n + (if c then 1 else 0)) (sym wanted) (omega arith)

-- all paths of parts are free
free_paths : (folder : List ℕ) (with_words : Bool) (h : Header) (held : OpenFiles) (w : World)
    → HaveFreeNames folder h (part_count h with_words) held w → (path : List ℕ) → IsPartPath folder with_words h path
    → IsFree path held w
free_paths folder with_words h held w all path (of_section is) =
    let k = all is.index (omega (arith, is.there)) in
    let s = k.is_part.of_section is.there in
    subst (λ p. IsFree p held w) (ap (path_of_part folder) s.2
    ∙ same_path folder h is.index s.0 is.place is.there s.1 is.found ∙ sym is.is_path) k.free
free_paths folder with_words h held w all path (of_fragment is) =
    let k = all (length (places_of h) + is.index) (omega (arith, is.there)) in
    subst (λ p. IsFree p held w) (ap (path_of_part folder) (k.is_part.of_fragment is.index refl is.there)
    ∙ sym is.is_path) k.free
free_paths folder with_words h held w all path (of_words wanted is_path) =
    let k = all (length (places_of h) + fragment_count h) (one_word with_words _ wanted) in
    subst (λ p. IsFree p held w) (ap (path_of_part folder) (k.is_part.of_words (omega arith)) ∙ sym is_path) k.free

-- and so none of them leads to the image's file
pub looks : (path folder x : List ℕ) (with_words : Bool) (header : Header) (h h' : OpenFiles) (a b c : World)
    → OpensFile a path x h h' → b ≡ a → HasImage x header
    → HaveFreeNames folder header (part_count header with_words) h' b → LooksAtParts path folder with_words a c
looks path folder x with_words header h h' a b c opens same image all =
    none_taken opens.file opens.there header (subst (λ z. HasImage z header) opens.held image)
    (λ p is at. (free_paths folder with_words header h' b all p is opens.file
    (subst (λ w. w.at p ≡ Some opens.file) (sym same) at)).0
    (subst (λ k. Contains k.read opens.file) (sym opens.taken) (Contains-push h.read opens.file)))
