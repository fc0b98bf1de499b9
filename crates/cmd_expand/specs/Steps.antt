-- What each step of the command `expand` of several images leaves.
use Rattle.std.specs.Prelude.{◌≡◌, ℕ, ◌*◌, ◌<◌, ◌≤◌, List, [], ◌∷◌, ◌++◌, length, map, Option, Some, None}
use Rattle.std.specs.List.{AllByRecursion}
use Rattle.std.specs.Prelude.{Bool, true, IsTrue, ◌==◌, ◌&&◌, Err}
use Rattle.abt_io.specs.declared.device.Partition as partitions
use Rattle.abt_io.specs.declared.device.Source as sources
use Rattle.abt_sparse.specs.Fails.{Fails}
use Rattle.abt_sparse.specs.Pieces.{flashed_in_turn}
use Rattle.abt_chunks.specs.declared.progress.Expanded.{Expanded}
use Rattle.abt_runs.specs.declared.part.RunFault.TheVariants as of_runs
use Rattle.abt_flash.specs.Flashing.{Holds}
use Rattle.abt_flash_faults.specs.declared.fault.FlashFault.{FlashFault}
use Rattle.abt_flash_faults.specs.declared.fault.FlashFault.TheVariants as flashes
use Rattle.sys_disk.specs.World.{World, OpenFiles, OpensFile, HasFailed}
use Rattle.sys_disk.specs.Counts.{Cause, call, reading}
use Rattle.cmd_common_sparse.specs.declared.fault.SparseCommandFault.{SparseCommandFault}
use Rattle.cmd_common_sparse.specs.declared.fault.SparseCommandFault.TheVariants as faults
use Rattle.cmd_expand.specs.declared.open_images.Shape.{Shape}
use Rattle.cmd_expand.specs.Expanding.{HasFault}
use Rattle.cmd_expand.specs.declared.cut_of.CutPiece.{CutPiece}
use Rattle.cmd_expand.specs.CutOf.{IsOtherCut}
use Rattle.cmd_expand.specs.Overlaying.{AreImages, HasFirstFault, HasOtherBlocks, HasOtherCut, IsImageOf, LeadTo}

-- ---- opening

-- these files more are read
abbrev pub readings : List ℕ → OpenFiles → OpenFiles
readings files h = record h { read = h.read ++ files }

-- the files at these paths are read, and hold these bytes
pub record AreOpened (world : World) (paths : List (List ℕ)) (contents : List (List ℕ)) (held held' : OpenFiles)
    : Type 0 where
  pub files : List ℕ
  pub there : LeadTo world paths files
  pub bytes : contents ≡ map world.holds files
  pub taken : held' ≡ readings files held

-- one file more is read, and what it holds is the last
pub record OpensNext (world : World) (path : List ℕ) (contents contents' : List (List ℕ)) (held held' : OpenFiles)
    : Type 0 where
  pub bytes : List ℕ
  pub opened : OpensFile world path bytes held held'
  pub more : contents' ≡ contents ++ (bytes ∷ [])

-- whether blocks are as those of the first image, if there was one
abbrev pub is_same_shape : Option Shape → Shape → Bool
is_same_shape None own = true
is_same_shape (Some first) own = (first.blocks == own.blocks) && (first.block == own.block)

-- this is the shape of all these images, if there is one
abbrev pub IsShapeOf : Option Shape → List (List ℕ) → Type 0
IsShapeOf None xs = xs ≡ []
IsShapeOf (Some s) xs = (0 < length xs) × AllByRecursion (IsImageOf s.blocks s.block) xs

-- why an image is not opened
abbrev pub IsNotOpened : SparseCommandFault → List ℕ → World → OpenFiles → OpenFiles → Type 0
IsNotOpened (faults.Run (of_runs.Sparse f)) path world held held' = HasFault path world f
IsNotOpened (faults.Run (of_runs.Read d)) path world held held' = HasFailed reading held held'
IsNotOpened (faults.Host f) path world held held' = HasFailed (call f) held held'
IsNotOpened f path world held held' = ⊥

-- what an image of this length would expand to, where there is one
abbrev pub whole_of_shape : Option Shape → Expanded
whole_of_shape None = record { blocks = 0; bytes = 0 }
whole_of_shape (Some s) = record { blocks = s.blocks; bytes = s.blocks * s.block }

-- why no shape is found in these bytes, for a source whose count of faults went from r to r'
abbrev pub IsNotRead : SparseCommandFault → List ℕ → ℕ → ℕ → Type 0
IsNotRead (faults.Run (of_runs.Sparse f)) x r r' = (given : List (Option ℕ)) × Fails x f given
IsNotRead (faults.Run (of_runs.Read d)) x r r' = r < r'
IsNotRead f x r r' = ⊥

-- the image at this path has other blocks
abbrev pub IsOtherShape : Option Shape → List ℕ → World → Type 0
IsOtherShape None path world = ⊥
IsOtherShape (Some s) path world =
    (n : ℕ) × (b : ℕ) × AreImages n b (path ∷ []) world × ¬ ((n ≡ s.blocks) × (b ≡ s.block))

-- why the next image is not opened, which has this number
abbrev pub IsNotNext : SparseCommandFault → Option Shape → List (Option CutPiece) → ℕ → List ℕ → World → OpenFiles
    → OpenFiles
    → Type 0
IsNotNext (faults.Run (of_runs.Sparse f)) shape pieces number path world held held' = HasFault path world f
IsNotNext (faults.Run (of_runs.Read d)) shape pieces number path world held held' = HasFailed reading held held'
IsNotNext (faults.OtherBlocks n) shape pieces number path world held held' =
    (n ≡ number) × IsOtherShape shape path world
IsNotNext (faults.OtherCut n) shape pieces number path world held held' = (n ≡ number) × IsOtherCut pieces path world
IsNotNext (faults.Host f) shape pieces number path world held held' = HasFailed (call f) held held'
IsNotNext f shape pieces number path world held held' = ⊥

-- why they are not all opened
abbrev pub IsNotAllOpened : SparseCommandFault → List (List ℕ) → World → OpenFiles → OpenFiles → Type 0
IsNotAllOpened (faults.Run (of_runs.Sparse f)) inputs world held held' = HasFirstFault inputs world f
IsNotAllOpened (faults.Run (of_runs.Read d)) inputs world held held' = HasFailed reading held held'
IsNotAllOpened (faults.OtherBlocks n) inputs world held held' = HasOtherBlocks inputs world n
IsNotAllOpened (faults.OtherCut n) inputs world held held' = HasOtherCut inputs world n
IsNotAllOpened (faults.Host f) inputs world held held' = HasFailed (call f) held held'
IsNotAllOpened f inputs world held held' = ⊥

-- no file has changed, and none more is written in place
pub record OpensAlone (held held' : OpenFiles) (old new : World) : Type 0 where
  pub world : new ≡ old
  pub part : held'.part ≡ held.part

-- ---- writing

-- why an image is not flashed: a device failed, whose count rose; that of what is read went from r to r', of what is
-- written from w to w'
abbrev pub IsNotFlashed : FlashFault → ℕ → ℕ → ℕ → ℕ → Type 0
IsNotFlashed (flashes.Read d) r r' w w' = r < r'
IsNotFlashed (flashes.Write d) r r' w w' = w < w'
IsNotFlashed (flashes.Sync d) r r' w w' = w < w'
IsNotFlashed f r r' w w' = ⊥

abbrev pub IsNotLaid : SparseCommandFault → ℕ → ℕ → ℕ → ℕ → Type 0
IsNotLaid (faults.Flash f) r r' w w' = IsNotFlashed f r r' w w'
IsNotLaid f r r' w w' = ⊥

-- what flashing x over p leaves, where it was refused for this once some number of its bytes was read
abbrev pub BreaksAt : SparseCommandFault → List ℕ → List ℕ → List ℕ → Type 0
BreaksAt (faults.Flash f) x p p' = (got : ℕ) × Holds (Err f) got p p' x
BreaksAt f x p p' = Unit {0}

-- of these images some are flashed in turn over p, and then the next one, which was refused for this
pub record BreaksAmong (f : SparseCommandFault) (images : List (List ℕ)) (p p' : List ℕ) : Type 0 where
  pub before : List (List ℕ)
  pub next : List ℕ
  pub behind : List (List ℕ)
  pub among : images ≡ before ++ (next ∷ behind)
  pub holds : BreaksAt f next (flashed_in_turn p before) p'

-- the first of these images are flashed in turn over p, and those are left
pub record AreLaidBefore (left images : List (List ℕ)) (p p' : List ℕ) : Type 0 where
  pub before : List (List ℕ)
  pub among : images ≡ before ++ left
  pub laid : p' ≡ flashed_in_turn p before

-- more may be counted, and nothing else has changed
pub record FailsAlone (held held' : OpenFiles) : Type 0 where
  pub same : held' ≡ record held { counts = held'.counts }
  pub grown : (cause : Cause) → held.counts.failed cause ≤ held'.counts.failed cause
  pub read : held.counts.given ≤ held'.counts.given

-- The file that is overwritten stays the same and keeps its length, and of the disk only what is counted has changed.
pub record LaysAlone {C : Type 0} (models : Bool) (s : sources.Ghosts C) (p : partitions.Ghosts C) (onto onto' : C)
    (before after : OpenFiles) (old new : World) : Type 0 where
  pub same : IsTrue models → (p.past onto').file ≡ (p.past onto).file
  pub size : s.size onto' ≡ s.size onto
  pub world : IsTrue models → new ≡ old
  pub held : IsTrue models → FailsAlone before after
