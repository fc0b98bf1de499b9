-- A cutter that has failed, and one that has not.
use Rattle.std.proofs.Common.{◌≡◌, ℕ, ap, sym, subst, ◌∙◌, refl, Bool, true, false, Result, ◌⊎◌, inl, inr}
use Rattle.std.proofs.Common.{if◌then◌else◌}
use Rattle.abt_io.specs.Lent.{OnlyWrites}
use Rattle.abt_io.specs.declared.device.Output as outputs
use Rattle.abt_pieces.specs.Cutter.{has_failed, is_begun}
use Rattle.abt_pieces.specs.Fault.{full_in_cut}
use Rattle.abt_pieces.specs.declared.fault.PieceFault.{PieceFault}
use Rattle.abt_pieces.specs.declared.stage.CutterStage.{CutterStage}
use Rattle.abt_pieces.specs.declared.stage.CutterStage.TheVariants.{Between, Plan, Begin, Write, Done, Failed}

pub writes_as : {X E : Type 0} {r : Result X E} {n k : ℕ} {B : Type 0} {o : outputs.Ghosts B} {a b : B} → n ≡ k
    → OnlyWrites r n o a b → OnlyWrites r k o a b
writes_as {r = r} {o = o} {a = a} {b = b} is w = subst (λ (j : ℕ). OnlyWrites r j o a b) is w

-- after an Ok it has not reported that the output is full
pub full_at_ok : (st : CutterStage) → ◌≡◌ {A = ℕ} (if has_failed st then 0 else 0) 0
full_at_ok Between = refl
full_at_ok (Plan p) = refl
full_at_ok (Begin o) = refl
full_at_ok (Write o w) = refl
full_at_ok Done = refl
full_at_ok (Failed f) = refl

-- a piece that is begun has not failed
begun_unfailed : (st : CutterStage) → is_begun st ≡ true → has_failed st ≡ false
begun_unfailed Between begun = refl
begun_unfailed (Plan p) begun = refl
begun_unfailed (Begin o) begun = refl
begun_unfailed (Write o w) begun = refl
begun_unfailed Done begun = refl
begun_unfailed (Failed f) begun = absurd cc

-- a call that began before a piece is within it, or where it began
pub full_at_fresh : {A B C : Type 0} (st st' : CutterStage) (f : PieceFault)
    → ((is_begun st ≡ true) × (st' ≡ Between)) ⊎ (A × B × C × (st ≡ st'))
    → (if has_failed st then 0 else full_in_cut f) ≡ (if has_failed st' then 0 else full_in_cut f)
full_at_fresh st st' f (inl h) =
    let z : has_failed st ≡ has_failed st' = begun_unfailed st h.0 ∙ sym (ap has_failed h.1) in
    ap (λ (b : Bool). if b then 0 else full_in_cut f) z
full_at_fresh st st' f (inr h) = ap (λ (s : CutterStage). if has_failed s then 0 else full_in_cut f) h.3

pub still_refused : {A B C D : Type 0} (st st' : CutterStage) (f : PieceFault)
    → ((is_begun st ≡ true) × (st' ≡ Between)) ⊎ (A × B × C × (st ≡ st'))
    → (st ≡ Failed f) ⊎ D → (st' ≡ Failed f) ⊎ D
still_refused st st' f fresh (inr d) = inr d
still_refused st st' f (inl h) (inl is) = absurd (let z : is_begun (Failed f) ≡ true = sym (ap is_begun is) ∙ h.0 in cc)
still_refused st st' f (inr h) (inl is) = inl (sym h.3 ∙ is)
