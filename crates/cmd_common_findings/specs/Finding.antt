-- What a search for bytes of an image returns, and how many bytes it reads at once.
use Rattle.std.specs.Prelude.{◌<◌, ◌≤◌, ◌+◌, ◌^◌, ◌==◌, ℕ, suc, IsTrue, Result, IfOk, List, [], ◌∷◌, take, drop}
use Rattle.std.specs.Prelude.{Option, Some, None, if◌then◌else◌}
use Rattle.abt_headers.specs.declared.sections.SectionPlace.{SectionPlace}
use Rattle.abt_io.specs.declared.device.Source as sources
use Rattle.abt_sections.specs.Reads.{ReadsUnless}
use Rattle.abt_sections.specs.declared.fault.SectionFault.{SectionFault}
use Rattle.abt_sections.specs.Header.{Header, page_of, places_of, size_of}
use Rattle.abt_sections.specs.Layout.{padding}

-- A source is only read, and `Is` holds of the result where the source models its contents.
pub record LooksFor {X : Type 0} (r : Result X SectionFault) {A : Type 0} (s : sources.Ghosts A) (old new : A)
    (Is : X → Type 0) : Type 0 where
  pub reads : ReadsUnless r s old new (IsTrue s.models → ⊥)
  pub value : IsTrue s.models → IfOk r Is

-- The window has room for this many bytes, and has a position for each byte after this one.
pub record HasRoomFor (ask at : ℕ) : Type 0 where
  pub room : ask ≤ 65536
  pub below : at + ask < 2 ^ 64

-- how many bytes at the start are zero
abbrev pub leading_zeros : List ℕ → ℕ
leading_zeros [] = 0
leading_zeros (b ∷ x) = if b == 0 then suc (leading_zeros x) else 0

-- the first of the n bytes at a place that isn't there or isn't zero
abbrev pub first_set_in : List ℕ → ℕ → ℕ → Option ℕ
first_set_in x at n =
    if leading_zeros (take n (drop at x)) == n then None else Some (at + leading_zeros (take n (drop at x)))

abbrev pub or_first : Option ℕ → Option ℕ → Option ℕ
or_first None other = other
or_first (Some at) other = Some at

-- the first after each of these places, up to a page boundary
abbrev pub first_behind : List ℕ → ℕ → List SectionPlace → Option ℕ
first_behind x page [] = None
first_behind x page (p ∷ ps) =
    or_first (first_set_in x (p.at + p.size) (padding p.size page)) (first_behind x page ps)

-- the first after the header and after each section: what makes the padding wrong
abbrev pub first_unpadded : List ℕ → Header → Option ℕ
first_unpadded x h =
    or_first (first_set_in x (size_of h) (padding (size_of h) (page_of h))) (first_behind x (page_of h) (places_of h))
