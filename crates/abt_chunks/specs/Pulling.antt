-- The reading machine that gets its input in pieces: what it holds, and what a pull returns.
use Rattle.std.specs.Prelude.{◌≡◌, ℕ, ◌+◌, ◌<◌, ◌≤◌, ◌++◌, List, length, take, min, true}
use Rattle.abt_chunks.specs.declared.feed.Pull.{Pull}
use Rattle.abt_chunks.specs.declared.feed.Pull.TheVariants as pulls
use Rattle.abt_chunks.specs.declared.feed.Puller.{Puller}
use Rattle.abt_chunks.specs.declared.walk.Part.TheVariants as parts
use Rattle.abt_chunks.specs.declared.feed.Pulled.{Pulled}
use Rattle.abt_chunks.specs.declared.walk.Turn.{Turn}
use Rattle.abt_chunks.specs.declared.walk.Walk.{Walk}
use Rattle.abt_chunks.specs.ListingAhead.{at_end}
use Rattle.abt_chunks.specs.Parts.{Says, PartLeaves, given_by, goes_on}
use Rattle.abt_chunks.specs.Places.{place_of, upto_of}
use Rattle.abt_chunks.specs.Turns.{AtTurn, IsWalkOver, todo}

-- the bytes that it holds
abbrev pub pulled_front : Puller → List ℕ
pulled_front p = take p.count p.held

-- What a pull says, once its bytes c are taken and whatever bytes t follow: what was held and came is held, or it gives
-- a part with them.
abbrev pub PullSays : Pull → Puller → Puller → List ℕ → List ℕ → Type 0
PullSays pulls.Need p p' c t = (p'.walk ≡ p.walk) × (pulled_front p' ≡ pulled_front p ++ c)
PullSays (pulls.Gives q) p p' c t = Says q p.walk p'.walk (pulled_front p ++ c) t

-- nothing is held after a part; where it gives something of a block, nothing was held before
abbrev pub IsKept : Pull → Puller → Puller → Type 0
IsKept pulls.Need p p' = p.count ≤ p'.count
IsKept (pulls.Gives q) p p' = (p'.count ≡ 0) × (0 < given_by q → p.count ≡ 0)

abbrev pub pulled_by : Pull → ℕ
pulled_by (pulls.Gives q) = given_by q
pulled_by q = 0

-- raw bytes are the bytes that it used
abbrev pub IsLent : Pull → ℕ → Type 0
IsLent (pulls.Gives (parts.Raw n)) used = n ≡ used
IsLent q used = Unit {0}

-- more input is asked for only where all n bytes of it were used
abbrev pub IsUsed : Pull → ℕ → ℕ → Type 0
IsUsed pulls.Need used n = used ≡ n
IsUsed q used n = Unit {0}

-- the phase that a part leaves
abbrev pub PullLeaves : Pull → Puller → Type 0
PullLeaves (pulls.Gives q) p = PartLeaves q p.walk.phase
PullLeaves q p = Unit {0}

-- What a pull made of n bytes: raw bytes are all that came of those that are left, a header or a word used one at
-- least, and a fill and a gap are given whole, and use none. The end uses none.
abbrev pub PullMoves : Pull → Walk → Walk → ℕ → ℕ → Type 0
PullMoves (pulls.Gives (parts.Raw k)) s s' used n = (0 < used) × (used ≡ min s.raw n)
PullMoves (pulls.Gives parts.Nothing) s s' used n = 0 < used
PullMoves (pulls.Gives (parts.Words word k)) s s' used n = (used ≡ 0) × (at_end s' ≡ true)
PullMoves (pulls.Gives (parts.Skip k)) s s' used n = (used ≡ 0) × (at_end s' ≡ true)
PullMoves (pulls.Gives parts.End) s s' used n = used ≡ 0
PullMoves q s s' used n = Unit {0}

-- after each part that another one follows less is left to do
abbrev pub PullFalls : Pull → Walk → Walk → Type 0
PullFalls (pulls.Gives q) s s' = goes_on q ≡ true → todo s' < todo s
PullFalls q s s' = Unit {0}

-- where the image has ended or was refused, a pull uses nothing, changes nothing, and asks for nothing more
pub record IsAgain (r : Pulled) (p p' : Puller) : Type 0 where
  pub same : p' ≡ p
  pub unused : r.used ≡ 0
  pub given : r.pull ≡ pulls.Need → ⊥

-- what a pull that is given these bytes returns, and what it leaves
pub record Pulls (r : Pulled) (p p' : Puller) (bytes : List ℕ) : Type 0 where
  pub used : r.used ≤ length bytes
  pub needs : IsUsed r.pull r.used (length bytes)
  pub says : (t : List ℕ) → PullSays r.pull p p' (take r.used bytes) t
  pub lent : IsLent r.pull r.used
  pub kept : IsKept r.pull p p'
  pub leaves : PullLeaves r.pull p'
  pub inside : place_of p.walk + pulled_by r.pull ≤ upto_of p.walk
  pub moves : PullMoves r.pull p.walk p'.walk r.used (length bytes)
  pub falls : PullFalls r.pull p.walk p'.walk
  pub again : IsWalkOver p.walk.phase → IsAgain r p p'

-- a walk is at this turn, and nothing is held
pub record ReadyAt (turn : Turn) (p : Puller) : Type 0 where
  pub here : AtTurn turn p.walk
  pub none : p.count ≡ 0
