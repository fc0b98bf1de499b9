-- What OUT is left as, stated with another result.
use Rattle.std.proofs.Common.{ℕ, List, Bool}
use Rattle.std.specs.Prelude.{OnOk, Result, Ok, Err}
use Rattle.sys_disk.specs.World.{OpenFiles, World}
use Rattle.cmd_pack_outputs.specs.Writing.{LeavesOut}

-- what holds where a call returned this follows from it
pub on_ok_by : {X F : Type 0} {P Q : Type 0} (r : Result X F) → (P → Q) → OnOk r P → OnOk r Q
on_ok_by (Ok x) to p = to p
on_ok_by (Err e) to p = tt

-- the same stated with another result
pub left_told : {X Y F G : Type 0} {x : X} (y : Y) {output : List ℕ} {over : Bool} {W : List ℕ → Type 0}
    {h h' : OpenFiles}
    {a b : World} → LeavesOut {F = F} (Ok x) output over W h h' a b → LeavesOut {F = G} (Ok y) output over W h h' a b
left_told y left = record {
  others = left.others;
  guarded = left.guarded;
  closed = left.closed;
  whole = left.whole;
  clean = left.clean;
  synced = left.synced;
}

pub left_refused : {X Y F G : Type 0} {e : F} (f : G) {output : List ℕ} {over : Bool} {W : List ℕ → Type 0}
    {h h' : OpenFiles}
    {a b : World} → LeavesOut {X = X} (Err e) output over W h h' a b → LeavesOut {X = Y} (Err f) output over W h h' a b
left_refused f left = record {
  others = left.others;
  guarded = left.guarded;
  closed = left.closed;
  whole = left.whole;
  clean = tt;
  synced = tt;
}
