-- The numbers of a reader, as C keeps them, and the machine that has these numbers.
use Rattle.std.specs.Prelude.{◌≡◌, ℕ, ◌+◌, ◌-◌, ◌*◌, ◌^◌, ◌<◌, ◌≤◌, ◌↔◌, ◌++◌, List, [], take, length, Option, Some}
use Rattle.std.specs.Prelude.{None}
use Rattle.std.specs.Prelude.{Ok, Bool, if◌then◌else◌, ◌==◌, nat_lt}
use Rattle.abt_sparse.specs.declared.kind.ChunkKind.{ChunkKind}
use Rattle.abt_sparse.specs.declared.kind.ChunkKind.TheVariants as kinds
use Rattle.abt_sparse.specs.Chunk.{Header}
use Rattle.abt_sparse.specs.Number.{number_of}
use Rattle.abt_sparse.specs.Reading.{kind_at, outcome}
use Rattle.abt_sparse.specs.View.{view}
use Rattle.abt_chunks.specs.Ahead.{Ahead, seen, walk, before, somes, fills, gaps, stopping, left_of}
use Rattle.abt_chunks.specs.declared.walk.Part.{Part}
use Rattle.abt_chunks.specs.declared.walk.Part.TheVariants as parts
use Rattle.abt_chunks.specs.declared.walk.Phase.{Phase}
use Rattle.abt_chunks.specs.declared.walk.Phase.TheVariants as phases
use Rattle.abt_chunks.specs.declared.feed.Pull.{Pull}
use Rattle.abt_chunks.specs.declared.feed.Pull.TheVariants as pulls
use Rattle.abt_chunks.specs.declared.feed.Puller.{Puller}
use Rattle.abt_c.specs.declared.state.AbtPart.{AbtPart}
use Rattle.abt_c.specs.declared.state.AbtSize.{AbtSize}
use Rattle.abt_c.specs.declared.state.AbtSparse.{AbtSparse}
use Rattle.abt_c.specs.Telling.{IsBare, PartIs, detail_of}

abbrev pub phase_number : Phase → ℕ
phase_number phases.Header = 0
phase_number phases.Body = 1
phase_number phases.Done = 2
phase_number (phases.Failed f) = 3

-- the fault that a phase keeps, with its detail, and none
abbrev pub kept_fault : Phase → ℕ
kept_fault (phases.Failed f) = number_of f
kept_fault p = 0

abbrev pub kept_detail : Phase → ℕ
kept_detail (phases.Failed f) = detail_of f
kept_detail p = 0

-- how many details a fault of this number can have; no fault, 0, has none but 0
abbrev pub details : ℕ → ℕ
details n =
    if nat_lt n 2 then 1
    else if nat_lt n 5 then 2 ^ 16
    else if n == 6 then 2 ^ 48
    else if nat_lt n 10 then 2 ^ 32
    else if n == 10 then 2 ^ 64
    else 1

abbrev pub header_of : AbtSparse → Header
header_of s = record {
  minor = s.minor;
  file_hdr_sz = s.file_hdr_sz;
  chunk_hdr_sz = s.chunk_hdr_sz;
  blk_sz = s.blk_sz;
  total_blks = s.total_blks;
  total_chunks = s.total_chunks;
  image_checksum = s.image_checksum;
}

-- a state and the machine of the same numbers
pub record StandsFor (s : AbtSparse) (p : Puller) : Type 0 where
  pub phase : s.phase ≡ phase_number p.walk.phase
  pub header : header_of s ≡ view p.walk.header
  pub kind : kind_at s.kind ≡ Some p.walk.kind
  pub due : s.due ≡ (if p.walk.due then 1 else 0)
  pub word : s.word ≡ p.walk.word
  pub blocks : s.blocks ≡ p.walk.blocks
  pub index : s.index ≡ p.walk.index
  pub have : s.have ≡ p.walk.have
  pub extra : s.extra ≡ p.walk.extra
  pub raw : s.raw ≡ p.walk.raw
  pub words : s.words ≡ p.walk.words
  pub position : s.position ≡ p.walk.position
  pub held : s.held ≡ p.held
  pub count : s.count ≡ p.count

-- the same with the fault that is kept: one of an image, whose numbers are from 1 to 10, or 0 where it has not failed
pub record StandsWhole (s : AbtSparse) (p : Puller) : Type 0 where
  pub stands : StandsFor s p
  pub fault : s.fault ≡ kept_fault p.walk.phase
  pub detail : s.detail ≡ kept_detail p.walk.phase
  pub own : s.fault ≤ 10
  pub bits : s.detail < details s.fault

-- A state that one of the calls left, and none has spoiled: a machine has its numbers, and the fault that it keeps.
pub record IsLeft (s : AbtSparse) : Type 0 where
  pub puller : Puller
  pub keeps : StandsWhole s puller

-- the same of a phase, a fault and a detail
pub record CanKeep (phase fault detail : ℕ) : Type 0 where
  pub most : phase ≤ 3
  pub live : phase < 3 → (fault ≡ 0) × (detail ≡ 0)
  pub failed : phase ≡ 3 → 0 < fault
  pub own : fault ≤ 10
  pub bits : detail < details fault

-- no size is known
abbrev pub no_size : AbtSize
no_size = record { bytes = 0; block_size = 0; blocks = 0; chunks = 0 }

-- ---- what lies ahead of a state, in its own numbers

abbrev pub kind_or : Option ChunkKind → ChunkKind
kind_or (Some k) = k
kind_or None = kinds.Skip

abbrev pub state_kind : AbtSparse → ChunkKind
state_kind s = kind_or (kind_at s.kind)

-- where the next byte of a block lies in the expanded image
abbrev pub state_place_in : ℕ → ChunkKind → ℕ → ℕ → ℕ → ℕ → ℕ
state_place_in phase kind have size raw words = if phase == 0 then 0 else have * size - left_of kind raw words

abbrev pub state_place : AbtSparse → ℕ
state_place s = state_place_in s.phase (state_kind s) s.have s.blk_sz s.raw s.words

-- the bytes that it holds of a header or of a word
abbrev pub front_of : AbtSparse → List ℕ
front_of s = take s.count s.held

abbrev pub coming_of : ℕ → ChunkKind → Bool → Header → ℕ → ℕ → ℕ → ℕ → ℕ → List ℕ → ℕ → List ℕ → Ahead
coming_of phase k due h index have extra raw words word position y =
    if phase == 0 then seen (outcome y)
    else if phase == 1 then walk k due h index have extra raw words word (position + length y) y
    else record { cells = []; ending = Ok (h, y) }

-- what lies ahead of a state that has not failed, where these bytes are still to be given
abbrev pub state_ahead : AbtSparse → List ℕ → Ahead
state_ahead s y =
    coming_of s.phase (state_kind s) (s.due == 1) (header_of s) s.index s.have s.extra s.raw s.words s.word s.position
    (front_of s ++ y)

-- ---- what a call says

-- of what lay ahead, whatever bytes t follow those that were used
abbrev pub StateSays : Pull → AbtSparse → AbtSparse → List ℕ → List ℕ → Type 0
StateSays pulls.Need s s' c t = state_ahead s (c ++ t) ≡ state_ahead s' t
StateSays (pulls.Gives (parts.Raw n)) s s' c t = (length (front_of s ++ c) ≡ n)
    × (state_ahead s (c ++ t) ≡ before (somes (front_of s ++ c)) (state_ahead s' t))
StateSays (pulls.Gives (parts.Words word n)) s s' c t = state_ahead s (c ++ t)
    ≡ before (fills n word) (state_ahead s' t)
StateSays (pulls.Gives (parts.Skip n)) s s' c t = state_ahead s (c ++ t) ≡ before (gaps n) (state_ahead s' t)
StateSays (pulls.Gives parts.Nothing) s s' c t = state_ahead s (c ++ t) ≡ state_ahead s' t
StateSays (pulls.Gives parts.End) s s' c t = state_ahead s (c ++ t)
    ≡ record { cells = []; ending = Ok (header_of s', t) }
StateSays (pulls.Gives (parts.Fault f)) s s' c t = state_ahead s (c ++ t) ≡ stopping f

-- a part o was reported, for which the bytes c were used
pub record Told (o : AbtPart) (s s' : AbtSparse) (c : List ℕ) : Type 0 where
  pub pull : Pull
  pub is : PartIs pull o
  pub says : (t : List ℕ) → StateSays pull s s' c t

-- the same where the input has ended, and nothing follows
pub record Ended (o : AbtPart) (s s' : AbtSparse) : Type 0 where
  pub part : Part
  pub is : PartIs (pulls.Gives part) o
  pub says : StateSays (pulls.Gives part) s s' [] []

-- What a call that takes a state returns beside its part: the number of its fault, which only a part of kind 6 has. A
-- state that the calls left is taken and left so; each other one is returned with 90, and left as it is. After a fault
-- that is returned again.
pub record Answered (n : ℕ) (o : AbtPart) (s s' : AbtSparse) : Type 0 where
  pub fault : n ≡ o.fault
  pub kind : (o.kind ≡ 6) ↔ (0 < o.fault)
  pub place : s.phase < 3 → (o.fault ≡ 90 → ⊥) → o.position ≡ state_place s
  pub left : (IsLeft s ↔ (o.fault ≡ 90 → ⊥)) × (IsLeft s → IsLeft s')
  pub spoiled : o.fault ≡ 90 → s' ≡ s
  pub bare : o.fault ≡ 90 → IsBare o × (o.detail ≡ 0)
  pub again : 3 ≤ s.phase → (s' ≡ s) × IsBare o
  pub same : IsLeft s → 3 ≤ s.phase → (o.fault ≡ s.fault) × (o.detail ≡ s.detail)

-- the fault that a state keeps, and 90 for one that no call left
pub record KeptFault (n : ℕ) (s : AbtSparse) : Type 0 where
  pub fault : IsLeft s → n ≡ s.fault
  pub left : IsLeft s ↔ (n ≡ 90 → ⊥)
