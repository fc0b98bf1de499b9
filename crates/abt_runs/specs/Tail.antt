-- A raw image as blocks, where a last block that is not whole may be raw whatever its bytes are.
use Rattle.std.specs.Prelude.{◌≡◌, ℕ, zero, suc, ◌+◌, ◌-◌, ◌*◌, ◌/◌, Bool, true, false, List, [], ◌∷◌, length, take}
use Rattle.std.specs.Prelude.{drop, Result}
use Rattle.abt_io.specs.declared.device.Source as sources
use Rattle.abt_io.specs.declared.meter.Meter.{Meter}
use Rattle.abt_sparse.specs.Block.{Block, Raw, class_of, classify, filled_to, block_count}
use Rattle.abt_runs.specs.Found.{AsksPart, FindsPart}
use Rattle.abt_runs.specs.Raw.{RawPlace, raw_charge, raw_padding, raw_before, raw_held}
use Rattle.abt_runs.specs.declared.part.Cursor.{Cursor}
use Rattle.abt_runs.specs.declared.part.Run.{Run}
use Rattle.abt_runs.specs.declared.part.RunFault.{RunFault}

-- n blocks of b bytes from the front: the first p of them by class, and the others raw
abbrev pub tailed : ℕ → ℕ → ℕ → List ℕ → List Block
tailed b zero p y = []
tailed b (suc n) zero y = Raw (take b y) ∷ tailed b n zero (drop b y)
tailed b (suc n) (suc p) y = class_of (take b y) ∷ tailed b n p (drop b y)

-- A raw image as blocks. Where the tail is to be raw, so is a block that is filled up with zeros, whatever its bytes
-- are; else it is classed as the others are.
abbrev pub raw_list : Bool → ℕ → List ℕ → List Block
raw_list false b x = classify b x
raw_list true b x = tailed b (block_count b x) (length x / b) (filled_to (b * block_count b x) x)

-- how many of n blocks, filled by so many bytes, are classed
abbrev pub classed_count : Bool → ℕ → ℕ → ℕ → ℕ
classed_count false b long n = n
classed_count true b long n = long / b

-- ---- a part of it

-- what a part of a raw image of so many bytes asks for, in n blocks of b bytes
abbrev pub AsksRawPart : ℕ → ℕ → ℕ → Bool → List ℕ → Cursor → ℕ → Type 0
AsksRawPart long n b models x from cap = AsksPart (λ c. RawPlace n b c) (λ y. long ≡ length y)
    (λ y c. RawPlace n b c) models x from cap

-- that it was found, with the tail raw where t says so
abbrev pub FindsRawPart : Bool → ℕ → ℕ → ℕ → Result Run RunFault → {A : Type 0} → sources.Ghosts A → A → A → Cursor → ℕ
    → Meter → Meter → Type 0
FindsRawPart t long n b r s old new from cap m m' = FindsPart (λ c. RawPlace n b c) b n (λ c. n - c.block)
    (λ c. raw_charge long n b c) (λ c. (n - c.block) * b) (λ c. c.block * (b + 16)) (λ c. raw_before long b c)
    (λ c. raw_padding n b c) (λ c k. raw_held long b c k) (λ x. raw_list t b x) (λ x c. RawPlace n b c)
    (λ x c. n - c.block) r s old new from cap m m'
