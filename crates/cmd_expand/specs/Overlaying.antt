-- What the command `expand` of several images leaves of files, and what it prints.
use Rattle.std.specs.Prelude.{◌≡◌, ◌⊎◌, ℕ, ◌+◌, ◌*◌, ◌<◌, List, [], ◌∷◌, ◌++◌, length, map, min, replicate}
use Rattle.std.specs.Prelude.{Contains, Some, None, Result, Err, OnOk, ◌≤◌, ◌^◌, ⊤, decimal, get_or}
use Rattle.std.specs.List.{AllByRecursion}
use Rattle.abt_sparse.specs.declared.fault.SparseFault.{SparseFault}
use Rattle.abt_sparse.specs.Block.{Block, Skip}
use Rattle.abt_sparse.specs.Chunk.{Header, Chunk, classed}
use Rattle.abt_sparse.specs.Fails.{Spells}
use Rattle.abt_sparse.specs.Pieces.{flashed_in_turn}
use Rattle.abt_runs.specs.declared.part.RunFault.TheVariants as of_runs
use Rattle.abt_flash.specs.Flashing.{Holds}
use Rattle.abt_flash_faults.specs.declared.fault.FlashFault.{FlashFault}
use Rattle.abt_flash_faults.specs.declared.fault.FlashFault.TheVariants as flashes
use Rattle.sys_disk.specs.World.{World, OpenFiles, IsReading, KeepsFile, OnlyAt, Spares, SparesInUse, HasFailed}
use Rattle.sys_disk.specs.World.{HasNotFailed}
use Rattle.sys_disk.specs.Counts.{call, reading, writing}
use Rattle.sys_refusals.specs.declared.refusal.HostFault.TheVariants as hosts
use Rattle.cmd_common_sparse.specs.declared.fault.SparseCommandFault.{SparseCommandFault}
use Rattle.cmd_common_sparse.specs.declared.fault.SparseCommandFault.TheVariants as faults
use Rattle.cmd_common_sparse.specs.declared.lines.Line.TheVariants as lines
use Rattle.cmd_common_sparse.specs.Lines.{line_text}
use Rattle.cmd_expand.specs.Expanding.{HasFault}

-- ---- images of one shape

-- x begins with an image of n blocks of b bytes
pub record IsImageOf (n b : ℕ) (x : List ℕ) : Type 0 where
  pub header : Header
  pub chunks : List Chunk
  pub rest : List ℕ
  pub spelled : Spells x header chunks rest
  pub blocks : header.total_blks ≡ n
  pub size : header.blk_sz ≡ b

-- these paths lead to these files, each to its own
abbrev pub LeadTo : World → List (List ℕ) → List ℕ → Type 0
LeadTo world paths files = map world.at paths ≡ map (λ f. Some f) files

-- the files at these paths hold images, each of n blocks of b bytes
pub record AreImages (n b : ℕ) (paths : List (List ℕ)) (world : World) : Type 0 where
  pub files : List ℕ
  pub there : LeadTo world paths files
  pub images : AllByRecursion (IsImageOf n b) (map world.holds files)

-- ---- pieces of one cut

-- this is the path of a piece of a cut: PREFIX, a point and its number, from 1 on
pub record IsPieceAt (front : List ℕ) (number : ℕ) (path : List ℕ) : Type 0 where
  pub some : 0 < number
  pub fits : number < 2 ^ 32
  pub path_is : path ≡ front ++ (46 ∷ decimal number)

-- a block that is not don't care
abbrev pub IsBlockGiven : Block → Type 0
IsBlockGiven Skip = ⊥
IsBlockGiven block = ⊤

-- x begins with an image that writes this block: it is raw or filled there
pub record GivesBlock (x : List ℕ) (block : ℕ) : Type 0 where
  pub header : Header
  pub chunks : List Chunk
  pub rest : List ℕ
  pub spelled : Spells x header chunks rest
  pub given : IsBlockGiven (get_or (classed chunks) block Skip)

-- the file at this path holds an image that does
pub record FileGives (world : World) (path : List ℕ) (block : ℕ) : Type 0 where
  pub file : ℕ
  pub there : world.at path ≡ Some file
  pub gives : GivesBlock (world.holds file) block

-- These are the paths of pieces of one PREFIX, the second with the greater number. But the first writes a block that
-- does not come before one that the second writes. So they belong to different cuts.
pub record AreOutOfTurn (world : World) (path next : List ℕ) : Type 0 where
  pub front : List ℕ
  pub number : ℕ
  pub next_number : ℕ
  pub piece : IsPieceAt front number path
  pub next_piece : IsPieceAt front next_number next
  pub less : number < next_number
  pub block : ℕ
  pub next_block : ℕ
  pub gives : FileGives world path block
  pub next_gives : FileGives world next next_block
  pub turned : next_block ≤ block

-- no two of these paths are so
abbrev pub AreInTurn : List (List ℕ) → World → Type 0
AreInTurn paths world =
    (path : List ℕ) → (next : List ℕ) → Contains paths path → Contains paths next → ¬ AreOutOfTurn world path next

-- ---- what is left

-- The files at the INs' paths held images. All have the same number of blocks and the same block size, and no two are
-- known to belong to different cuts. OUT's file is none of them. It holds the result of flashing them in turn to
-- zeros. No other file has changed, and the line has the images' numbers.
pub record OverlaysFiles (inputs : List (List ℕ)) (output : List ℕ) (old new : World) (shows : List ℕ → Type 0)
    : Type 0 where
  pub blocks : ℕ
  pub size : ℕ
  pub ins : AreImages blocks size inputs old
  pub turn : AreInTurn inputs old
  pub onto : ℕ
  pub here : new.at output ≡ Some onto
  pub apart : ¬ Contains ins.files onto
  pub none : inputs ≡ [] → blocks ≡ 0
  pub holds : new.holds onto ≡ flashed_in_turn (replicate (blocks * size) 0) (map old.holds ins.files)
  pub spares : Spares onto old new
  pub shown : shows (line_text (lines.Expanded blocks (blocks * size)) ++ (10 ∷ []))

-- no file was opened for writing, and no file is written in place
pub record MayOverlay (held : OpenFiles) : Type 0 where
  pub first : IsReading held
  pub one : held.part ≡ None

-- What is left of files, whatever the outcome. Only OUT may hold anything else, and not where it is in use and that is
-- not allowed. Each IN holds what it held, and no file is open that is written in place. The result is Ok only where
-- nothing has failed.
pub record LeavesOverlaid {X F : Type 0} (r : Result X F) (paths : List (List ℕ)) (onto : List ℕ)
    (held held' : OpenFiles)
    (old new : World) : Type 0 where
  pub others : OnlyAt held.read onto old new
  pub in_use : SparesInUse onto held old new
  pub inputs : AllByRecursion (λ path. KeepsFile path old new) paths
  pub closed : held'.part ≡ None
  pub clean : OnOk r (HasNotFailed held held')

-- The files at the INs' paths held images of the same blocks. OUT's file holds zeros over which some of them were
-- flashed in turn, and then what flashing the next one leaves that stops with this fault, once some number of its bytes
-- was read.
pub record OverlaysInPart (fault : FlashFault) (inputs : List (List ℕ)) (output : List ℕ) (old new : World) : Type 0
  where
    pub blocks : ℕ
    pub size : ℕ
    pub ins : AreImages blocks size inputs old
    pub onto : ℕ
    pub here : new.at output ≡ Some onto
    pub before : List (List ℕ)
    pub next : List ℕ
    pub behind : List (List ℕ)
    pub among : map old.holds ins.files ≡ before ++ (next ∷ behind)
    pub read : ℕ
    pub holds : Holds (Err fault) read (flashed_in_turn (replicate (blocks * size) 0) before) (new.holds onto) next

-- 1 where there is one at least
abbrev pub once_if_any : {X : Type 0} → List X → ℕ
once_if_any [] = 0
once_if_any (x ∷ xs) = 1

-- ---- why it fails

-- this is the IN after this many others, whose files hold images that all have n blocks of b bytes
pub record StandsBehind (n b place : ℕ) (path : List ℕ) (inputs : List (List ℕ)) (world : World) : Type 0 where
  pub before : List (List ℕ)
  pub behind : List (List ℕ)
  pub among : inputs ≡ before ++ (path ∷ behind)
  pub place_is : place ≡ length before
  pub images : AreImages n b before world

-- the file of an IN has this fault, which is the first of all of them
pub record HasFirstFault (inputs : List (List ℕ)) (world : World) (f : SparseFault) : Type 0 where
  pub blocks : ℕ
  pub size : ℕ
  pub place : ℕ
  pub path : List ℕ
  pub stands : StandsBehind blocks size place path inputs world
  pub fault : HasFault path world f

-- the image with this number, from 1 on, has other blocks than all images before it
pub record HasOtherBlocks (inputs : List (List ℕ)) (world : World) (image : ℕ) : Type 0 where
  pub blocks : ℕ
  pub size : ℕ
  pub place : ℕ
  pub path : List ℕ
  pub stands : StandsBehind blocks size place path inputs world
  pub some : 0 < place
  pub number : image ≡ min (place + 1) 4294967295
  pub own_blocks : ℕ
  pub own_size : ℕ
  pub own : AreImages own_blocks own_size (path ∷ []) world
  pub other : ¬ ((own_blocks ≡ blocks) × (own_size ≡ size))

-- the image with this number, from 1 on, belongs to another cut than one before it
pub record HasOtherCut (inputs : List (List ℕ)) (world : World) (image : ℕ) : Type 0 where
  pub blocks : ℕ
  pub size : ℕ
  pub place : ℕ
  pub path : List ℕ
  pub stands : StandsBehind blocks size place path inputs world
  pub number : image ≡ min (place + 1) 4294967295
  pub other : List ℕ
  pub before : Contains stands.before other
  pub turned : AreOutOfTurn world path other ⊎ AreOutOfTurn world other path

-- Why the command fails: for what the INs' files hold; since a device or a call of the disk failed, or memory was
-- refused; or everything was done, but its line could not be printed. Where a device failed while an image was flashed,
-- OUT holds the images before it and a front of that one.
abbrev pub RefusesOverlay : SparseCommandFault → List (List ℕ) → List ℕ → World → World → OpenFiles → OpenFiles
    → (List ℕ → Type 0) → Type 0
RefusesOverlay (faults.Run (of_runs.Sparse f)) inputs output old new held held' untold = HasFirstFault inputs old f
RefusesOverlay (faults.Run (of_runs.Read d)) inputs output old new held held' untold = HasFailed reading held held'
RefusesOverlay (faults.OtherBlocks image) inputs output old new held held' untold = HasOtherBlocks inputs old image
RefusesOverlay (faults.OtherCut image) inputs output old new held held' untold = HasOtherCut inputs old image
RefusesOverlay (faults.Flash (flashes.Read d)) inputs output old new held held' untold =
    HasFailed reading held held' × OverlaysInPart (flashes.Read d) inputs output old new
RefusesOverlay (faults.Flash (flashes.Write d)) inputs output old new held held' untold =
    HasFailed writing held held' × OverlaysInPart (flashes.Write d) inputs output old new
RefusesOverlay (faults.Flash (flashes.Sync d)) inputs output old new held held' untold =
    HasFailed writing held held' × OverlaysInPart (flashes.Sync d) inputs output old new
RefusesOverlay (faults.Host f) inputs output old new held held' untold =
    HasFailed (call f) held held' ⊎ ((f ≡ hosts.Write) × OverlaysFiles inputs output old new untold)
RefusesOverlay f inputs output old new held held' untold = ⊥
