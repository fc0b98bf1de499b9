-- The layout of an image: its record first, then its parts, each at a page boundary, with zeros between.
use Rattle.std.specs.Prelude.{◌≡◌, ℕ, ◌-◌, ◌*◌, List, [], ◌∷◌, ◌++◌, length, take, drop, map, replicate, sum_by}
use Rattle.abt_headers.specs.declared.sections.Section.{Section}
use Rattle.abt_headers.specs.declared.sections.SectionPlace.{SectionPlace}
use Rattle.abt_headers.specs.Page.{pages}

-- how many bytes of the last page n bytes leave free
abbrev pub padding : ℕ → ℕ → ℕ
padding n page = pages n page * page - n

-- the zeros after n bytes, up to a page boundary
abbrev pub zeros_behind : ℕ → ℕ → List ℕ
zeros_behind n page = replicate (padding n page) 0

-- x, and zeros up to a page boundary
abbrev pub padded : ℕ → List ℕ → List ℕ
padded page x = x ++ zeros_behind (length x) page

-- parts one after another, each padded
abbrev pub laid : ℕ → List (List ℕ) → List ℕ
laid page [] = []
laid page (x ∷ xs) = padded page x ++ laid page xs

-- a record and parts after it
abbrev pub laid_out : ℕ → List ℕ → List (List ℕ) → List ℕ
laid_out page header parts = padded page header ++ laid page parts

-- how many bytes parts of these sizes take, each padded
abbrev pub laid_size : ℕ → List ℕ → ℕ
laid_size page sizes = sum_by (λ n. pages n page * page) sizes

-- what is stored at a place of x
abbrev pub part_of : List ℕ → SectionPlace → List ℕ
part_of x p = take p.size (drop p.at x)

abbrev pub parts_of : List ℕ → List SectionPlace → List (List ℕ)
parts_of x places = map (part_of x) places

-- each part is whole at its place, and has the size of the place
abbrev pub PartsPlaced : List ℕ → List SectionPlace → List (List ℕ) → Type 0
PartsPlaced x [] [] = Unit {0}
PartsPlaced x [] (q ∷ qs) = ⊥
PartsPlaced x (p ∷ ps) [] = ⊥
PartsPlaced x (p ∷ ps) (q ∷ qs) = (length q ≡ p.size) × (part_of x p ≡ q) × PartsPlaced x ps qs

-- each part has the size that the section says
abbrev pub Sized : List (Section × ℕ) → List (List ℕ) → Type 0
Sized [] [] = Unit {0}
Sized [] (q ∷ qs) = ⊥
Sized (s ∷ ss) [] = ⊥
Sized (s ∷ ss) (q ∷ qs) = (length q ≡ s.1) × Sized ss qs
