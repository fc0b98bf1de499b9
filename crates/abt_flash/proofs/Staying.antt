-- Every state of a delivery leaves what a delivery mends.
use Rattle.std.proofs.Common.{◌≡◌, ℕ, zero, suc, ◌+◌, ◌-◌, ◌≤◌, List, [], ◌∷◌, length, take, refl, sym, ap, subst, ◌∙◌}
use Rattle.std.proofs.Common.{arith, inl, inr, length-append}
use Rattle.abt_io.specs.Moment.{Moment, Past, EachSince, Keeps, moment_of}
use Rattle.abt_io.proofs.Moments.{none_since, since_then, since_weaker}
use Rattle.abt_sparse.specs.Block.{Block, IsBlockSize, AreBlocks, cells, over}
use Rattle.abt_sparse.specs.Runs.{segments, joined}
use Rattle.abt_sparse.specs.Mending.{Mendable}
use Rattle.abt_sparse.proofs.MendLaws.{mendable_first}
use Rattle.abt_pieces.specs.Gather.{frame}
use Rattle.abt_flash.specs.Laying.{During, writes}
use Rattle.abt_flash.specs.Devices.{PartitionState}
use Rattle.abt_flash.specs.Delivering.{AlwaysMendable, ImageBlocks, LeavesMendable, MendableThen, StaysMendable}
use Rattle.abt_flash.specs.Delivering.{blocks_in_first}
use Rattle.abt_flash.specs.Going.{blocks_at, MendableAt, Staying}
use Rattle.abt_flash.proofs.Mended.{leaves_same, leaves_mendable, mendable_now, mendable_before, mendable_within}
use Rattle.abt_flash.proofs.Mended.{mendable_behind}

first_grows : (i k : ℕ) (parts : List (List Block))
    → length (joined (take i parts)) ≤ length (joined (take (i + k) parts))
first_grows zero k parts = omega arith
first_grows (suc i) k [] = omega arith
first_grows (suc i) k (s ∷ ss) =
    let n : suc i + k ≡ suc (i + k) = omega arith in
    rw n (let z = first_grows i k ss in
    omega (arith, z, length-append s (joined (take i ss)), length-append s (joined (take (i + k) ss))))

pub blocks_grow : (limit b : ℕ) (l : List Block) (made done : ℕ) → made ≤ done
    → blocks_in_first limit b l made ≤ blocks_in_first limit b l done
blocks_grow limit b l made done le =
    let z = first_grows made (done - made) (segments limit b l) in
    let n : made + (done - made) ≡ done = omega (arith, le) in
    rw n at z

-- at the beginning
pub staying_first : (limit b : ℕ) (l : List Block) (p : List ℕ) (made done s : ℕ) (past : Past) (content : List ℕ)
    → made ≤ done → blocks_in_first limit b l made ≡ s → LeavesMendable limit b l p done (moment_of past content)
    → Staying limit b l p made past.synced s past.moments past content
staying_first limit b l p made done s past content le blocks h = record {
  since = none_since past.moments (MendableThen limit b l p made past.synced);
  now = mendable_before b l p (blocks_in_first limit b l done) s (moment_of past content)
      (rw (← blocks) (blocks_grow limit b l made done le)) (mendable_now b l p (blocks_in_first limit b l done)
      (moment_of past content) h);
}

-- a state in the piece after so many is as it is to be then
then_mendable : (limit b : ℕ) (l : List Block) (p : List ℕ) (made synced now s : ℕ) (m : Moment)
    → made + (m.synced - synced) ≡ now → blocks_in_first limit b l now ≡ s → MendableAt b l p s m
    → MendableThen limit b l p made synced m
then_mendable limit b l p made synced now s m count blocks h q may =
    let z = leaves_mendable b l p q s m h may in
    rw (count, blocks) z

-- what is known of one piece that was flashed, or begun
module _ (limit b : ℕ) (l : List Block) (p : List ℕ) (made synced now s : ℕ) (old : List Moment) (past past' : Past)
    (content content' : List ℕ) (size : IsBlockSize b) (good : AreBlocks b l) (within : s ≤ length l)
    (count : past.synced + made ≡ synced + now) (order : made ≤ now) (blocks : blocks_in_first limit b l now ≡ s)
    (before : Staying limit b l p made synced s old past content)
    (moments : EachSince past.moments past'.moments (During (writes (cells b (blocks_at limit b l s)))
    (moment_of past content) (moment_of past' content'))) where
  -- each state within it
  inner : (m : Moment) → m.synced ≡ past.synced
      → During (writes (cells b (blocks_at limit b l s))) (moment_of past content) (moment_of past' content') m
      → MendableThen limit b l p made synced m
  inner m same d = then_mendable limit b l p made synced now s m (omega (arith, same, count, order)) blocks
      (mendable_within limit b l p s (moment_of past content) m (size.1) good within d.kept before.now)

  -- a piece more
  pub staying_more : (e : ℕ) → s ≤ e → e ≤ length l → past'.synced ≡ past.synced + 1
      → blocks_in_first limit b l (now + 1) ≡ e → past'.pending ≡ [] → content' ≡ over content (cells b (frame l s e))
      → Staying limit b l p made synced e old past' content'
  staying_more e up end syncs behind none laid =
      let last = mendable_behind b l p s e (moment_of past content)
      (moment_of past' content') size good up end laid none before.now in
      let then_last : MendableThen limit b l p made synced (moment_of past' content') =
      then_mendable limit b l p made synced (now + 1) e (moment_of past' content')
      (omega (arith, syncs, count, order)) behind last in
      record {
        since = since_then old past.moments past'.moments (MendableThen limit b l p made synced) before.since
            (since_weaker past.moments past'.moments _ (MendableThen limit b l p made synced) (λ m d. elim d.synced [
              | inl same ↦ inner m same d
              | inr is ↦ subst (MendableThen limit b l p made synced) (sym is) then_last
            ]) moments);
        now = last;
      }

  -- a piece that was stopped
  pub staying_stop : past'.synced ≡ past.synced → EachSince old past'.moments (MendableThen limit b l p made synced)
  staying_stop syncs = since_then old past.moments past'.moments (MendableThen limit b l p made synced) before.since
      (since_weaker past.moments past'.moments _ (MendableThen limit b l p made synced) (λ m d. elim d.synced [
        | inl same ↦ inner m same d
        | inr is ↦ inner m (ap (λ (x : Moment). x.synced) is ∙ syncs) d
      ]) moments)

  pub staying_now : past'.synced ≡ past.synced
      → Keeps (writes (cells b (blocks_at limit b l s))) (moment_of past content) (moment_of past' content')
      → MendableThen limit b l p made synced (moment_of past' content')
  staying_now syncs kept = inner (moment_of past' content') syncs (record { kept = kept; synced = inl syncs })

-- and where the call ends
pub staying_last : (limit b : ℕ) (l : List Block) (p : List ℕ) (made synced now s : ℕ) (old : List Moment)
    (past : Past) (content : List ℕ) → past.synced + made ≡ synced + now → made ≤ now
    → blocks_in_first limit b l now ≡ s → Staying limit b l p made synced s old past content
    → MendableThen limit b l p made synced (moment_of past content)
staying_last limit b l p made synced now s old past content count order blocks h =
    then_mendable limit b l p made synced now s (moment_of past content) (omega (arith, count, order)) blocks h.now

-- where nothing was done
pub stays_none : (limit b : ℕ) (l : List Block) (made : ℕ) (past : Past) (content : List ℕ)
    → StaysMendable limit b l made past past content content
stays_none limit b l made past content = record {
  same = refl;
  since = λ p done le h. none_since past.moments (MendableThen limit b l p made past.synced);
  now = λ p done le h. staying_last limit b l p made past.synced made
      (blocks_in_first limit b l made) past.moments past content refl (omega arith) refl
      (staying_first limit b l p made done (blocks_in_first limit b l made) past content le refl h);
}

-- a partition of which nothing is pending is mendable as what it holds, with no block whole
pub fresh_leaves : (limit b : ℕ) (l : List Block) (m : Moment) → m.pending ≡ [] → LeavesMendable limit b l m.content 0 m
fresh_leaves limit b l m none q may = let e = leaves_same m q none may in
    subst (λ (y : List ℕ). Mendable b l m.content y 0) (sym e) (mendable_first b l m.content)

-- so every intermediate state of a delivery is
pub from_fresh : (i : ImageBlocks) (limit : ℕ) (old new : PartitionState) → old.past.pending ≡ []
    → StaysMendable limit i.size i.blocks 0 old.past new.past old.content new.content → AlwaysMendable i limit old new
from_fresh i limit old new none h =
    let fresh = fresh_leaves limit i.size i.blocks (moment_of old.past old.content) none in
    record { since = h.since old.content 0 (omega arith) fresh; now = h.now old.content 0 (omega arith) fresh }

-- and of one that began after no piece
pub from_first : (i : ImageBlocks) (limit made : ℕ) (old new : PartitionState) → made ≡ 0 → old.past.pending ≡ []
    → StaysMendable limit i.size i.blocks made old.past new.past old.content new.content
    → AlwaysMendable i limit old new
from_first i limit made old new first none h = from_fresh i limit old new none (rw first at h)
