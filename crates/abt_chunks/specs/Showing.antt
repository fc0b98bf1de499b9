-- What the calls of a listing return.
use Rattle.std.specs.Prelude.{◌≡◌, ℕ, ◌*◌, ◌<◌, ◌≤◌, true, List, [], ◌∷◌, Option, Some, None, Result, Ok, Err}
use Rattle.abt_sparse.specs.declared.fault.SparseFault.{SparseFault}
use Rattle.abt_sparse.specs.View.{view}
use Rattle.abt_chunks.specs.declared.progress.MachineProgress.{MachineProgress}
use Rattle.abt_chunks.specs.declared.progress.MachineProgress.TheVariants as answers
use Rattle.abt_chunks.specs.declared.progress.ChunkInfo.{ChunkInfo}
use Rattle.abt_chunks.specs.declared.walk.Phase.{Phase}
use Rattle.abt_chunks.specs.declared.walk.Phase.TheVariants as phases
use Rattle.abt_chunks.specs.declared.walk.Walk.{Walk}
use Rattle.abt_chunks.specs.Expanding.{UnlessExpandingDevice}
use Rattle.abt_chunks.specs.Listing.{Listing, listing_of}
use Rattle.abt_chunks.specs.ListingAhead.{at_end, breaking, shown_before, upcoming, with_begun}

-- one step, from the bytes x to the bytes y after those that it read
abbrev pub ListsTo : Result MachineProgress SparseFault → Walk → Walk → List ℕ → List ℕ → Type 0
ListsTo (Ok answers.More) s s' x y = upcoming s x ≡ with_begun s' y
ListsTo (Ok answers.Done) s s' x y = upcoming s x ≡ record { head = Some (view s'.header); shown = []; ending = Ok y }
ListsTo (Err f) s s' x y = UnlessExpandingDevice f (upcoming s x ≡ breaking s f)

-- a fault, and no chunk before it; within the image's header, before chunk 0 is begun, no header either
pub record Breaks (a : Listing) (i : ℕ) (f : SparseFault) : Type 0 where
  pub shown : a.shown ≡ []
  pub ending : a.ending ≡ Err f
  pub headless : i ≡ 0 → a.head ≡ None

-- to the end of what was begun
abbrev pub Passes : Result (Unit {0}) SparseFault → Walk → Walk → List ℕ → List ℕ → Type 0
Passes (Ok u) s s' x y = with_begun s x ≡ with_begun s' y
Passes (Err f) s s' x y = UnlessExpandingDevice f (Breaks (with_begun s x) s.index f)

abbrev pub SettlesWalk : Result (Unit {0}) SparseFault → Walk → Type 0
SettlesWalk (Ok u) s = (s.phase ≡ phases.Body) × (at_end s ≡ true)
SettlesWalk (Err f) s = s.phase ≡ phases.Failed f

-- Opened on the bytes x, of which y are left: the header is good and passed, and the rest of the listing is still to
-- come.
abbrev pub Opens : Walk → List ℕ → List ℕ → Type 0
Opens s x y = (listing_of x ≡ upcoming s y) × (s.phase ≡ phases.Body) × (at_end s ≡ true)

-- The next chunk of a listing, and the rest of it still to come; or its end, or its fault.
abbrev pub Lists_next : Result (Option ChunkInfo) SparseFault → Walk → Walk → List ℕ → List ℕ → Type 0
Lists_next (Ok (Some info)) s s' x y = upcoming s x ≡ shown_before (info ∷ []) (upcoming s' y)
Lists_next (Ok None) s s' x y = ((upcoming s x).shown ≡ []) × ((upcoming s x).ending ≡ Ok y)
Lists_next (Err f) s s' x y = UnlessExpandingDevice f (((upcoming s x).shown ≡ []) × ((upcoming s x).ending ≡ Err f))

-- the phase that a result leaves
abbrev pub Stands_next : Result (Option ChunkInfo) SparseFault → Phase → Type 0
Stands_next (Ok (Some info)) p = p ≡ phases.Body
Stands_next (Ok None) p = p ≡ phases.Done
Stands_next (Err f) p = p ≡ phases.Failed f

-- a chunk takes some bytes, and no more calls and turns than eight to a byte
abbrev pub IsFew : Result (Option ChunkInfo) SparseFault → ℕ → ℕ → ℕ → Type 0
IsFew (Ok (Some info)) read calls turns = (0 < read) × (calls ≤ 8 * read) × (turns ≤ 8 * read)
IsFew r read calls turns = Unit {0}
