-- The names of the fragments' files, as they are listed.
use Rattle.std.proofs.Common.{◌≡◌, ◌∙◌, ℕ, zero, suc, ◌+◌, ◌<◌, true, List, [], ◌∷◌, ap, arith, length, map}
use Rattle.std.specs.Prelude.{slice_index_or}
use Rattle.std.specs.Str.{bytes_eq}
use Rattle.std.proofs.lemmas.Slice.Eq.{bytes_eq-Decides}
use Rattle.std.proofs.lemmas.Bool.{and_parts}
use Rattle.cmd_unpack_aosp_texts.specs.Files.{are_names, name_of_fragment}

name_from : {R : Type 0} (now : R → List ℕ) (xs : List R) (k i : ℕ) (d : R) → are_names (map now xs) k ≡ true
    → i < length xs → now (slice_index_or xs i d) ≡ name_of_fragment (k + i)
name_from now [] k i d all below = absurd (omega (arith, below))
name_from now (y ∷ xs) k zero d all below =
    let both = and_parts (bytes_eq (now y) (name_of_fragment k)) (are_names (map now xs) (suc k)) all in
    let next : k ≡ k + 0 = omega arith in
    (bytes_eq-Decides (now y) (name_of_fragment k)).0 both.0 ∙ ap name_of_fragment next
name_from now (y ∷ xs) k (suc i) d all below =
    let both = and_parts (bytes_eq (now y) (name_of_fragment k)) (are_names (map now xs) (suc k)) all in
    let next : suc k + i ≡ k + suc i = omega arith in
    name_from now xs (suc k) i d both.1 (omega (arith, below)) ∙ ap name_of_fragment next

pub listed_name : {R : Type 0} (now : R → List ℕ) (xs : List R) (i : ℕ) (d : R) → are_names (map now xs) 0 ≡ true
    → i < length xs → now (slice_index_or xs i d) ≡ name_of_fragment i
listed_name now xs i d all below =
    let same : 0 + i ≡ i = omega arith in
    name_from now xs 0 i d all below ∙ ap name_of_fragment same
