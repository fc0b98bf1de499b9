-- The result of reading all of a source as a sparse image, and how much of it an opening has seen.
use Rattle.std.specs.Prelude.{◌≡◌, ℕ, ◌+◌, ◌-◌, ◌^◌, ◌<◌, ◌≤◌, List, length, drop, Result, Ok, Err, ⊤}
use Rattle.abt_sparse.specs.declared.fault.SparseFault.{SparseFault}
use Rattle.abt_sparse.specs.Number.{number_of}
use Rattle.abt_sparse.specs.Chunk.{Header}
use Rattle.abt_sparse.specs.Reading.{ChunksRead, Outcome, Image, Fault, chunks_at, outcome}
use Rattle.abt_sparse.specs.Reading as reading
use Rattle.abt_sparse.specs.View.{view}
use Rattle.abt_io.specs.declared.device.DeviceFault.TheVariants as devices
use Rattle.abt_runs.specs.declared.part.RunFault.{RunFault}
use Rattle.abt_runs.specs.declared.part.RunFault.TheVariants.{Sparse, Read, TooLarge, SourceChanged, BadBlock}
use Rattle.abt_runs.specs.declared.stage.OpeningStage.{OpeningStage}
use Rattle.abt_runs.specs.declared.stage.OpeningStage.TheVariants as stages
use Rattle.abt_runs.specs.declared.opening_state.SparseOpening.{SparseOpening}

-- an image ends with its header and so many bytes after it, and all else with a fault
abbrev pub ends : Outcome → Result (Header × ℕ) SparseFault
ends (Image h cs rest) = Ok (h, length rest)
ends (Fault f cells) = Err f

abbrev pub chunks_end : Header → ChunksRead → Result (Header × ℕ) SparseFault
chunks_end h (reading.Done cs rest) = Ok (h, length rest)
chunks_end h (reading.Failed f cs came) = Err f

-- what the rest of x comes to where so many chunks of so many blocks were passed, and the next begins at a place
abbrev pub rest_ends : Header → ℕ → ℕ → ℕ → List ℕ → Result (Header × ℕ) SparseFault
rest_ends h index have at x = chunks_end h (chunks_at h (length x) index have (h.total_chunks - index) (drop at x))

-- at this stage the whole of x comes to v
abbrev pub Verdict : OpeningStage → Header → ℕ → ℕ → ℕ → ℕ → List ℕ → Result (Header × ℕ) SparseFault → Type 0
Verdict stages.Header h long index have at x v = ends (outcome x) ≡ v
Verdict stages.Chunks h long index have at x v = (long ≡ length x) × (rest_ends h index have at x ≡ v)
Verdict stages.Done h long index have at x v = (long ≡ length x) × (Ok (h, length x - at) ≡ v)
Verdict (stages.Failed (Sparse f)) h long index have at x v = Err f ≡ v
Verdict (stages.Failed (Read d)) h long index have at x v = ⊤
Verdict (stages.Failed f) h long index have at x v = ⊥

abbrev pub ComesTo : SparseOpening → List ℕ → Result (Header × ℕ) SparseFault → Type 0
ComesTo o x v = Verdict o.stage (view o.header) o.length o.index o.have o.at x v

-- the length that an opening has found, once it has, is that of x
abbrev pub SameLength : OpeningStage → ℕ → List ℕ → Type 0
SameLength stages.Chunks long x = long ≡ length x
SameLength s long x = ⊤

-- one of 1 to 10
abbrev pub IsFormat : RunFault → Type 0
IsFormat (Sparse f) = number_of f ≤ 10
IsFormat f = ⊥

-- 1 to 10 alone come of the bytes: 11 where the source has failed in this call and returned this, 14 where it isn't the
-- one whose length was found
abbrev pub CausedIn : RunFault → ℕ → ℕ → Type 0 → Type 0
CausedIn (Sparse f) before after Same = number_of f ≤ 10
CausedIn (Read d) before after Same = (before < after) × (d ≡ devices.Failed)
CausedIn SourceChanged before after Same = Same → ⊥
CausedIn TooLarge before after Same = ⊥
CausedIn (BadBlock n) before after Same = ⊥

-- and each where the opening had failed so
abbrev pub CausedAt : OpeningStage → RunFault → ℕ → ℕ → Type 0 → Type 0
CausedAt (stages.Failed f) e before after Same = f ≡ e
CausedAt s e before after Same = CausedIn e before after Same

-- how many steps there are at most
abbrev pub steps_left : OpeningStage → ℕ → ℕ → ℕ
steps_left stages.Header index total = 2 ^ 33
steps_left stages.Chunks index total = 1 + (total - index)
steps_left s index total = 0

abbrev pub to_do : SparseOpening → ℕ
to_do o = steps_left o.stage o.index o.header.total_chunks

-- an image was opened exactly where the bytes are one, and else the first fault is returned
abbrev pub Refuses : RunFault → Outcome → Type 0
Refuses (Sparse f) (Fault g cells) = f ≡ g
Refuses (Sparse f) (Image h cs rest) = ⊥
Refuses (Read d) o = ⊤
Refuses e o = ⊥
