-- What a listing still shows of the rest of an input, and what a part adds to that.
use Rattle.std.specs.Prelude.{◌≡◌, ℕ, ◌+◌, ◌-◌, ◌<◌, ◌≤◌, Bool, true, false, List, [], ◌∷◌, ◌++◌, length, take, drop}
use Rattle.std.specs.Prelude.{Option, Some, None, Ok, Err, if◌then◌else◌, nat_lt, ◌&&◌, not, ◌==◌}
use Rattle.abt_sparse.specs.declared.fault.SparseFault.{SparseFault}
use Rattle.abt_sparse.specs.declared.fault.SparseFault.TheVariants as faults
use Rattle.abt_sparse.specs.declared.fault.SparseFault.TheVariants.{Truncated}
use Rattle.abt_sparse.specs.declared.kind.ChunkKind.{ChunkKind}
use Rattle.abt_sparse.specs.declared.kind.ChunkKind.TheVariants as kinds
use Rattle.abt_sparse.specs.Chunk.{Header}
use Rattle.abt_sparse.specs.View.{view}
use Rattle.abt_chunks.specs.declared.walk.Phase.{Phase}
use Rattle.abt_chunks.specs.declared.walk.Phase.TheVariants as phases
use Rattle.abt_chunks.specs.declared.walk.Walk.{Walk}
use Rattle.abt_chunks.specs.declared.walk.Part.{Part}
use Rattle.abt_chunks.specs.declared.walk.Part.TheVariants as parts
use Rattle.abt_chunks.specs.declared.progress.ChunkInfo.{ChunkInfo}
use Rattle.abt_chunks.specs.Ahead.{due_of}
use Rattle.abt_chunks.specs.Cause.{UnlessCut}
use Rattle.abt_chunks.specs.Listing.{Listing, listing_from, listing_of, no_word}

-- ---- the chunk that was begun

-- nothing of a chunk of this kind is left
abbrev pub is_spent : ChunkKind → Bool → ℕ → ℕ → Bool
is_spent kinds.Raw due raw words = raw == 0
is_spent kinds.Fill due raw words = not due && (words == 0)
is_spent kinds.Skip due raw words = words == 0
is_spent kinds.Crc due raw words = not due

-- nothing is left of what was begun, the image's header or a chunk
abbrev pub at_end : Walk → Bool
at_end s = (s.extra == 0) && is_spent s.kind s.due s.raw s.words

-- 1 where the next step may pass a gap, for which nothing is read or written. One may follow each header of a chunk.
abbrev pub idle_in : Phase → Walk → ℕ
idle_in phases.Body s = if at_end s then 0 else 1
idle_in p s = 0

abbrev pub idle : Walk → ℕ
idle s = idle_in s.phase s

-- where a listing is between two calls
abbrev pub is_between : Phase → Walk → Bool
is_between phases.Header s = false
is_between phases.Body s = at_end s
is_between p s = true

-- the bytes of its data that a chunk still lacks
abbrev pub lacking : ChunkKind → Bool → ℕ → ℕ
lacking kinds.Raw due raw = raw
lacking kinds.Fill due raw = if due then 4 else 0
lacking kinds.Skip due raw = 0
lacking kinds.Crc due raw = if due then 4 else 0

-- the word that is shown of it, where y begins with what it lacks
abbrev pub word_shown : ChunkKind → Bool → List ℕ → List ℕ → List ℕ
word_shown kinds.Raw due word y = no_word
word_shown kinds.Fill due word y = if due then take 4 y else word
word_shown kinds.Skip due word y = no_word
word_shown kinds.Crc due word y = if due then take 4 y else word

-- the chunk that was begun, which is chunk i - 1, or none in the image's own header
abbrev pub begun_shown : ChunkKind → Bool → ℕ → ℕ → List ℕ → List ℕ → List ChunkInfo
begun_shown k due i blocks word y =
    if i == 0 then [] else (record { index = i - 1; kind = k; blocks = blocks; word = word_shown k due word y } ∷ [])

-- what is shown of the chunk that has ended
abbrev pub info_at : Walk → ChunkInfo
info_at s = record {
  index = s.index - 1;
  kind = s.kind;
  blocks = s.blocks;
  word = if due_of s.kind then s.word else no_word;
}

-- ---- the rest of a listing

abbrev pub head_shown : Header → ℕ → Option Header
head_shown h i = if i == 0 then None else Some h

-- these chunks, and then a listing
abbrev pub shown_before : List ChunkInfo → Listing → Listing
shown_before l a = record { head = a.head; shown = l ++ a.shown; ending = a.ending }

-- In a chunk or in the image's header: it is shown once all of it is there, and the chunks after it follow.
unfoldable pub begun_listing : ChunkKind → Bool → Header → ℕ → ℕ → ℕ → ℕ → List ℕ → ℕ → ℕ → List ℕ → Listing
begun_listing k due h i have extra raw word blocks size y =
    if nat_lt (length y) (extra + lacking k due raw)
    then record { head = head_shown h i; shown = []; ending = Err (Truncated size) }
    else shown_before (begun_shown k due i blocks word (drop extra y))
    (listing_from h size i have (drop (extra + lacking k due raw) y))

-- of a walk, where the chunk that was begun is still to be shown
abbrev pub with_begun : Walk → List ℕ → Listing
with_begun s y =
    begun_listing s.kind s.due (view s.header) s.index s.have s.extra s.raw s.word s.blocks (s.position + length y) y

-- after the image's 28 bytes: what was begun has ended, and so was shown, or not
abbrev pub upcoming_ended : Bool → Walk → List ℕ → Listing
upcoming_ended true s y = listing_from (view s.header) (s.position + length y) s.index s.have y
upcoming_ended false s y = with_begun s y

-- The listing of what is still to be read. What was begun is shown in it as long as it has not ended.
abbrev pub upcoming_in : Phase → Walk → List ℕ → Listing
upcoming_in phases.Header s y = listing_of y
upcoming_in phases.Body s y = upcoming_ended (at_end s) s y
upcoming_in phases.Done s y = record { head = Some (view s.header); shown = []; ending = Ok y }
upcoming_in (phases.Failed f) s y = record { head = Some (view s.header); shown = []; ending = Err f }

abbrev pub upcoming : Walk → List ℕ → Listing
upcoming s y = upcoming_in s.phase s y

-- a fault at this place, where the image's header was whole or not
abbrev pub head_in : Phase → Bool → Walk → Option Header
head_in phases.Header ended s = None
head_in phases.Body true s = Some (view s.header)
head_in phases.Body false s = head_shown (view s.header) s.index
head_in p ended s = Some (view s.header)

abbrev pub breaking : Walk → SparseFault → Listing
breaking s f = record { head = head_in s.phase (at_end s) s; shown = []; ending = Err f }

-- ---- a step

-- what a part adds to a listing, once its bytes c are read and t follows
abbrev pub ShowsPart : Part → Walk → Walk → List ℕ → List ℕ → Type 0
ShowsPart parts.End s s' c t = upcoming s (c ++ t) ≡ record { head = Some (view s'.header); shown = []; ending = Ok t }
ShowsPart (parts.Fault f) s s' c t = upcoming s (c ++ t) ≡ breaking s f
ShowsPart q s s' c t = upcoming s (c ++ t) ≡ with_begun s' t

-- the same, of a fault of a device nothing
abbrev pub Lists : Part → Walk → Walk → List ℕ → List ℕ → Type 0
Lists (parts.Fault (faults.Read d)) s s' c t = Unit {0}
Lists (parts.Fault (faults.Write d)) s s' c t = Unit {0}
Lists q s s' c t = ShowsPart q s s' c t

-- how many chunks were begun: one more where the last one had ended, and its header took some bytes
abbrev pub Numbers : Phase → Walk → Walk → ℕ → Type 0
Numbers phases.Header s s' received = s'.index ≡ 0
Numbers phases.Body s s' received = (s'.index ≡ (if at_end s then s.index + 1 else s.index))
    × (at_end s ≡ true → 0 < received)
Numbers p s s' received = Unit {0}

-- the image ends only after a chunk or after its header
abbrev pub MayEnd : Phase → Walk → Type 0
MayEnd phases.Header s = ⊥
MayEnd phases.Body s = at_end s ≡ true
MayEnd phases.Done s = Unit {0}
MayEnd (phases.Failed f) s = ⊥

-- and so is it refused for what it says, save for its header
abbrev pub Closes : Part → Phase → Walk → Type 0
Closes parts.End p s = MayEnd p s
Closes (parts.Fault f) phases.Body s = UnlessCut f (at_end s ≡ true)
Closes q p s = Unit {0}

-- of a fill and of a gap that are given whole nothing is left
abbrev pub Empties : Part → Walk → Walk → ℕ → ℕ → Type 0
Empties (parts.Words word n) s s' fills skips = s.words ≤ fills → at_end s' ≡ true
Empties (parts.Skip n) s s' fills skips = s.words ≤ skips → at_end s' ≡ true
Empties q s s' fills skips = Unit {0}
