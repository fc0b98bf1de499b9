-- Bytes that begin with others, and sections by their sizes.
use Rattle.std.proofs.Common.{◌≡◌, ℕ, ◌+◌, ◌*◌, List, [], ◌∷◌, ◌++◌, length, take, drop, refl, sym, ap, ◌∙◌}
use Rattle.std.proofs.Common.{take-append-drop, None}
use Rattle.std.proofs.lemmas.List.{take_at}
use Rattle.abt_headers.specs.declared.sections.Section.{Section}
use Rattle.abt_headers.specs.declared.sections.SectionPlace.{SectionPlace}
use Rattle.abt_headers.specs.Page.{pages}
use Rattle.abt_headers.specs.Places.{places_from}
use Rattle.abt_sections.specs.Layout.{Sized, parts_of}
use Rattle.abt_sections.specs.Open.{beyond}
use Rattle.abt_sections.specs.Canonical.{StartsWith}
use Rattle.abt_sections.proofs.Digests.{there_length}
use Rattle.abt_sections.proofs.Tables.{none_at, ends_there}

pub starts : (x y rest : List ℕ) → x ≡ y ++ rest → StartsWith x y
starts x y rest e = ap (take (length y)) e ∙ take_at y rest (length y) refl

pub continues : (x y : List ℕ) → StartsWith x y → x ≡ y ++ drop (length y) x
continues x y e = sym (take-append-drop (length y) x) ∙ ap (λ (l : List ℕ). l ++ drop (length y) x) e

-- what is stored at the places of sections that are there has their sizes
pub sized_there : (p k : ℕ) (ss : List (Section × ℕ)) (x : List ℕ) → beyond (places_from p k ss) (length x) ≡ None
    → Sized ss (parts_of x (places_from p k ss))
sized_there p k [] x there = tt
sized_there p k (s ∷ ss) x there =
    let place : SectionPlace = record { kind = s.0; at = p * k; size = s.1 } in
    let n = none_at place (places_from p (k + pages s.1 p) ss) (length x) there in
    (there_length x (p * k) s.1 (ends_there place (length x) n.0), sized_there p (k + pages s.1 p) ss x n.1)
