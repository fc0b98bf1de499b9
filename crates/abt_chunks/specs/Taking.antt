-- What every turn of a walk leaves, and what every call leaves of its input.
use Rattle.std.specs.Prelude.{◌≡◌, ℕ, ◌+◌, ◌-◌, ◌<◌, ◌≤◌, Bool, true, IsTrue, List, [], length, drop}
use Rattle.abt_io.specs.Frame.{ReadFrame}
use Rattle.abt_io.specs.declared.device.Input as inputs
use Rattle.abt_chunks.specs.declared.walk.Phase.TheVariants as phases
use Rattle.abt_chunks.specs.declared.walk.Walk.{Walk}
use Rattle.abt_chunks.specs.declared.walk.Part.{Part}
use Rattle.abt_chunks.specs.Turns.{todo}
use Rattle.abt_chunks.specs.Cause.{wanted}
use Rattle.abt_chunks.specs.Parts.{Caused, IsReadPart, PartLeaves, Moved, Says, SaysUnlessDevice, Within, given_by}
use Rattle.abt_chunks.specs.Parts.{goes_on, is_fault}
use Rattle.abt_chunks.specs.Places.{place_of, upto_of}
use Rattle.abt_chunks.specs.ListingAhead.{Closes, Empties, Lists, Numbers, ShowsPart}

-- A turn that gave the part q: the phase is the one that q leaves; what came is what q gives, and lies within the
-- blocks so far; the image's header stays once it has been read; and where the walk goes on, less is left to do, its
-- chunks are counted, and the next byte lies after what q gives. It ends only after a chunk or its header.
pub record TurnTaken (q : Part) (s s' : Walk) (received : ℕ) : Type 0 where
  pub leaves : PartLeaves q s'.phase
  pub moved : Moved q received
  pub inside : place_of s + given_by q ≤ upto_of s
  pub header : s.phase ≡ phases.Body → s'.header ≡ s.header
  pub fewer : goes_on q ≡ true → todo s' < todo s
  pub numbers : goes_on q ≡ true → Numbers s.phase s s' received
  pub place : goes_on q ≡ true → place_of s' ≡ place_of s + given_by q
  pub closes : Closes q s.phase s

-- a header or a word was read or is refused, and nothing of a block is given
pub record ReadsHead (q : Part) : Type 0 where
  pub read : IsReadPart q
  pub no_blocks : given_by q ≡ 0

-- of fills and of gaps at most so many words are given, and of one that is given whole nothing is left
pub record WithinWords (q : Part) (s s' : Walk) (fills skips : ℕ) : Type 0 where
  pub within : Within q fills skips
  pub empties : Empties q s s' fills skips

-- A turn by which the walk itself says what the image is: nothing is given of a fill or of a gap, and its fault is the
-- image's own.
pub record OwnTurn (q : Part) (s s' : Walk) (received : ℕ) : Type 0 where
  pub turn : TurnTaken q s s' received
  pub words : (fills skips : ℕ) → WithinWords q s s' fills skips
  pub cause : Caused q s.phase 1 0

-- What a turn says of the image, and of its listing, once the bytes c are taken: whatever bytes t follow, and none
-- where fewer came than n, which is a fault.
pub record TurnTells (q : Part) (s s' : Walk) (c : List ℕ) (n : ℕ) : Type 0 where
  pub says : (t : List ℕ) → (length c < n → t ≡ []) → Says q s s' c t
  pub lists : (t : List ℕ) → (length c < n → t ≡ []) → ShowsPart q s s' c t
  pub short : length c < n → is_fault q ≡ true

-- A turn that takes a header or a word, n bytes of it, or refuses it.
pub record TakesHead (q : Part) (s s' : Walk) (c : List ℕ) (n : ℕ) : Type 0 where
  pub read : ReadsHead q
  pub told : TurnTells q s s' c n
  pub turn : OwnTurn q s s' (length c)

-- A turn that gives words of a fill or of a gap, for which nothing is read.
pub record GivesWords (q : Part) (s s' : Walk) : Type 0 where
  pub told : TurnTells q s s' [] 0
  pub turn : TurnTaken q s s' 0
  pub cause : Caused q phases.Body 1 0

-- The same of a step: whatever bytes follow, and at a fault what is really left.
pub record StepTells (q : Part) (s s' : Walk) (c left : List ℕ) : Type 0 where
  pub says : (t : List ℕ) → (is_fault q ≡ true → t ≡ left) → SaysUnlessDevice q s s' c t
  pub lists : (t : List ℕ) → (is_fault q ≡ true → t ≡ left) → Lists q s s' c t

-- an input at one time: how many bytes it gave, in how many reads, what is left of it, how often it failed, and what no
-- read changes
pub record InputState : Type 0 where
  pub given : ℕ
  pub reads : ℕ
  pub remaining : List ℕ
  pub faults : ℕ
  pub frame : ReadFrame

abbrev pub input_state : {A : Type 0} → inputs.Ghosts A → A → InputState
input_state i input = record {
  given = i.given input;
  reads = i.reads input;
  remaining = i.remaining input;
  faults = i.read_faults input;
  frame = i.read_frame input;
}

-- A call that reads: what it was given is the beginning of what was left, the rest is left, and nothing else changed.
pub record ReadsOn (models : Bool) (old new : InputState) : Type 0 where
  pub given : old.given ≤ new.given
  pub present : IsTrue models → new.given - old.given ≤ length old.remaining
  pub rest : IsTrue models → new.remaining ≡ drop (new.given - old.given) old.remaining
  pub frame : new.frame ≡ old.frame
  pub faults : old.faults ≤ new.faults

-- A step of a walk that reads n bytes: at most so many, and no more than the walk lacks, by at most a read for each
-- and one more.
pub record ReadStep (n most : ℕ) (s : Walk) (models : Bool) (old new : InputState) : Type 0 where
  pub received : new.given ≡ old.given + n
  pub small : n ≤ most
  pub wanted : n ≤ wanted s
  pub input : ReadsOn models old new
  pub reads : new.reads ≤ old.reads + n + 1
