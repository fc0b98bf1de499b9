-- What cutting a piece reads, stage by stage.
use Rattle.std.proofs.Common.{◌≡◌, ℕ, ◌+◌, ◌-◌, ◌*◌, ◌≤◌, nat_lt, refl, arith, inl, inr}
use Rattle.std.proofs.lemmas.Bool.{cases_Bool}
use Rattle.abt_runs.specs.declared.part.Cursor.{Cursor}
use Rattle.abt_pieces.specs.Gather.{gathered_to}
use Rattle.abt_pieces.specs.Cutter.{first_writer}
use Rattle.abt_pieces.specs.Spent.{charge_and_copied, Spent}
use Rattle.abt_pieces.specs.SpentStage.{all_passes, SpentPlan, SpentOutline, SpentWriting, SpentStage, SpentPiece}
use Rattle.abt_pieces.specs.declared.stage.CutterStage.{CutterStage}
use Rattle.abt_pieces.specs.declared.outline.Outline.{Outline}
use Rattle.abt_pieces.specs.declared.plan.Planner.{Planner}
use Rattle.abt_pieces.specs.declared.write.Writer.{Writer}
use Rattle.abt_pieces.proofs.Counts.{entry_most}
use Rattle.abt_pieces.proofs.Spending.{spent_first}

-- one that is done
pub plan_ends : (charge copied : Cursor → ℕ) (b limit n one : ℕ) (start : Cursor) (t given given' : ℕ) (p : Planner)
    (o : Outline) → given ≤ given' → given' ≤ given + 32 + one → (n ≤ o.piece.past → given' ≡ given) → charge p.at ≤
    charge o.next → copied p.at ≤ copied o.next → o.next.ask ≡ 1
    → SpentPlan charge copied b limit start t p → SpentOutline charge copied n one start (t + (given' - given)) o
plan_ends charge copied b limit n one start t given given' p o grown last at_end charges copies fresh h = record {
  fresh = fresh;
  behind = omega (arith, h.low, h.most, charges);
  copies = omega (arith, h.copies, copies);
  most = omega (arith, h.most, charges, last, grown);
  end = λ over. let z = at_end over in omega (arith, h.most, charges, z);
}

spent_less : (Is : Cursor → Type 0) (charge copied : Cursor → ℕ) (held : Cursor → ℕ → ℕ) (d start : Cursor)
    (s t t' r : ℕ) (o : Outline) → t' ≤ t → Spent Is charge copied held d s t (first_writer start o r) → Spent Is charge
    copied held d s t' (first_writer start o r)
spent_less Is charge copied held d start s t t' r o le h = record {
  gathering = h.gathering;
  copies = elim h.copies [
    | inl a ↦ inl (omega (arith, a, le))
    | inr a ↦ inr (a.0, λ c is low. let z = a.1 c is low in omega (arith, z, le))
  ];
}

-- nothing is read between the plan and the first chunk
pub outline_writes : (Is : Cursor → Type 0) (charge copied : Cursor → ℕ) (held : Cursor → ℕ → ℕ) (n one : ℕ)
    (start : Cursor) (t r : ℕ) (o : Outline) → o.piece.first ≡ start.block → SpentOutline charge copied n one start t o
    → SpentWriting Is charge copied held n one t o (first_writer start o r)
outline_writes Is charge copied held n one start t r o first h =
    let e = entry_most start in
    let enough : 2 * charge start + copied start ≤ gathered_to charge o.piece.past o.next start + gathered_to
    (charge_and_copied charge copied) o.piece.past o.next start = elim
    (cases_Bool (nat_lt start.block o.piece.past)) [
      | inl a ↦ rw a (omega (arith, e))
      | inr a ↦ rw a (omega (arith, h.behind, h.copies))
    ] in
    record {
      begun = gathered_to (charge_and_copied charge copied) o.piece.past o.next start;
      total = 2 * charge start + copied start;
      fresh = h.fresh;
      spent = spent_less Is charge copied held o.next start _ _ _ r o enough
          (spent_first Is charge copied held start o.next (first_writer start o r) refl refl first);
      most = omega (arith, h.most);
      end = λ over. let z = h.end over in omega (arith, z);
    }

pub writing_goes : (Is : Cursor → Type 0) (charge copied : Cursor → ℕ) (held : Cursor → ℕ → ℕ)
    (n one t given given' : ℕ) (o : Outline) (w v : Writer) → (h : SpentWriting Is charge copied held n one t o w) →
    Spent Is charge copied held o.next h.begun (h.total + (given' - given)) v → SpentWriting Is charge copied held n one
    (t + (given' - given)) o v
writing_goes Is charge copied held n one t given given' o w v h z = record {
  begun = h.begun;
  total = h.total + (given' - given);
  fresh = h.fresh;
  spent = z;
  most = omega (arith, h.most);
  end = λ over. let y = h.end over in omega (arith, y);
}

pub writing_ends : (Is : Cursor → Type 0) (charge copied : Cursor → ℕ) (held : Cursor → ℕ → ℕ)
    (n one t given given' : ℕ) (o : Outline) (w : Writer) → (h : SpentWriting Is charge copied held n one t o w) →
    h.total + (given' - given) ≤ 2 * charge o.next + copied o.next + 32 → SpentPiece charge copied n one o.piece.past
    o.next (t + (given' - given))
writing_ends Is charge copied held n one t given given' o w h z = record {
  most = omega (arith, h.most, z);
  end = λ over. let y = h.end over in omega (arith, y, z);
}

-- the first plan
pub plan_begins_spent : (charge copied : Cursor → ℕ) (b limit : ℕ) (start : Cursor) (t : ℕ) (p : Planner) → p.at ≡ start
    → t ≡ all_passes charge copied start → SpentPlan charge copied b limit start t p
plan_begins_spent charge copied b limit start t p at is = rw at
    (record {
      low = omega (arith, is);
      copies = omega arith;
      most = omega (arith, is);
      inside = λ u. inr
          (omega (arith, is));
    })

pub nothing_read : (Is : Cursor → Type 0) (charge copied : Cursor → ℕ) (held : Cursor → ℕ → ℕ) (n one t given : ℕ)
    (o : Outline) (w : Writer) → SpentWriting Is charge copied held n one t o w → SpentWriting Is charge copied held n
    one (t + (given - given)) o w
nothing_read Is charge copied held n one t given o w h = let z : t + (given - given) ≡ t = omega arith in rw z h

-- ---- a piece from its first step on

pub stage_joins : (Is : Cursor → Type 0) (charge copied : Cursor → ℕ) (held : Cursor → ℕ → ℕ) (b limit n one : ℕ)
    (start : Cursor) (t x y z : ℕ) (st : CutterStage) → x ≤ y → y ≤ z
    → SpentStage Is charge copied held b limit n one start
    (t + (y - x) + (z - y)) st → SpentStage Is charge copied held b limit n one start (t + (z - x)) st
stage_joins Is charge copied held b limit n one start t x y z st le more' h = let e : t + (y - x) + (z - y) ≡ t +
    (z - x) = omega (arith, le, more') in rw e at h
