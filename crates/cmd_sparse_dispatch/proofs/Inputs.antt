-- One image that is expanded, or several.
use Rattle.std.proofs.Common.{◌≡◌, ◌≢◌, ℕ, Bool, List, [], ◌∷◌, length, map, get_or, Bor, refl, ap, subst, arith}
use Rattle.std.specs.Prelude.{IsTrue, Result, Ok, Err, IfErr, OnOk}
use Rattle.std.specs.List.{AllByRecursion}
use Rattle.sys_refusals.specs.Paths.{output_path}
use Rattle.sys_disk.specs.World.{World, OpenFiles, OnlyAt, KeepsFile, SparesInUse}
use Rattle.sys_report.specs.Shows.{ShowsBeside, Unprinted}
use Rattle.cmd_cut.specs.Sparsing.{HoldsNoPartOfSparse}
use Rattle.cmd_common_sparse.specs.ImagePath.{image_path}
use Rattle.cmd_common_sparse.specs.declared.fault.SparseCommandFault.{SparseCommandFault}
use Rattle.cmd_expand.specs.Overlaying.{OverlaysFiles, RefusesOverlay, once_if_any}
use Rattle.cmd_sparse_dispatch.specs.Commands.{State, ExpandsImages, RefusesExpand, SparesExpanded, SyncsOutputs}

-- the paths of words, by one way and by the other
paths_of : (inputs : List (Bor (List ℕ)))
    → map (λ word. image_path word.now) inputs ≡ map image_path (map (λ word. word.now) inputs)
paths_of [] = refl
paths_of (word ∷ words) = ap (λ paths. image_path word.now ∷ paths) (paths_of words)

-- of no IN, or of two and more, what is said of several is what is said
several : (P : List (List ℕ) → Type 0) (Q : List (List ℕ) → Type 0) (inputs : List (Bor (List ℕ))) → length inputs ≢ 1
    → (P [] → Q [])
    → ((a b : List ℕ) (rest : List (List ℕ)) → P (map image_path (a ∷ (b ∷ rest))) → Q (a ∷ (b ∷ rest)))
    → P (map (λ word. image_path word.now) inputs) → Q (map (λ word. word.now) inputs)
several P Q [] not none more is = none is
several P Q (a ∷ []) not none more is = absurd (not (omega arith))
several P Q (a ∷ (b ∷ rest)) not none more is =
    more a.now b.now (map (λ word. word.now) rest) (subst P (paths_of (a ∷ (b ∷ rest))) is)

both : {X E : Type 0} (r : Result X E) (P Q R : Type 0) → (P → Q → R) → OnOk r P → OnOk r Q → OnOk r R
both (Ok x) P Q R join p q = join p q
both (Err e) P Q R join p q = tt

pub several_done : {X E : Type 0} (on_output : List ℕ → Bool) (r : Result X E) (inputs : List (Bor (List ℕ)))
    (output place : List ℕ) (a z : State)
    → length inputs ≢ 1 → place ≡ output
    → OnOk r (OverlaysFiles (map (λ word. image_path word.now) inputs) place a.world z.world
    (ShowsBeside (on_output place) a.report z.report))
    → OnOk r (SyncsOutputs (once_if_any (map (λ word. image_path word.now) inputs)) a z)
    → OnOk r (ExpandsImages on_output (map (λ word. word.now) inputs) output a z)
several_done on_output r inputs output place a z not at done synced =
    both r _ _ _ (λ d s. several
    (λ paths. OverlaysFiles paths output a.world z.world (ShowsBeside (on_output output) a.report z.report)
    × SyncsOutputs (once_if_any paths) a z)
    (λ words. ExpandsImages on_output words output a z) inputs not (λ is. is) (λ x y rest is. is) (
      subst (λ p. OverlaysFiles (map (λ word. image_path word.now) inputs) p a.world z.world
          (ShowsBeside (on_output p) a.report z.report)) at d,
      s,
    )) done synced

pub several_spared : (inputs : List (Bor (List ℕ))) (output place : List ℕ) (a z : State) → length inputs ≢ 1
    → place ≡ output → OnlyAt a.held.read place a.world z.world
    → AllByRecursion (λ path. KeepsFile path a.world z.world) (map (λ word. image_path word.now) inputs)
    → SparesInUse place a.held a.world z.world → SparesExpanded (map (λ word. word.now) inputs) output a z
several_spared inputs output place a z not at only kept guarded = several
    (λ paths. OnlyAt a.held.read output a.world z.world × AllByRecursion (λ path. KeepsFile path a.world z.world) paths
    × SparesInUse output a.held a.world z.world)
    (λ words. SparesExpanded words output a z) inputs not (λ is. is) (λ x y rest is. is) (
      subst (λ p. OnlyAt a.held.read p a.world z.world) at only,
      kept,
      subst (λ p. SparesInUse p a.held a.world z.world) at guarded,
    )

pub several_refused : {X : Type 0} {E : Type 0} (r : Result X E) (fault_of : E → SparseCommandFault)
    (inputs : List (Bor (List ℕ))) (output place : List ℕ) (a z : State) → length inputs ≢ 1 → place ≡ output
    → IfErr r (λ e. RefusesOverlay (fault_of e) (map (λ word. image_path word.now) inputs) place a.world z.world
    a.held z.held (Unprinted a.report z.report))
    → IfErr r (λ e. RefusesExpand (fault_of e) (map (λ word. word.now) inputs) output a z)
several_refused (Ok x) fault_of inputs output place a z not at why = tt
several_refused (Err e) fault_of inputs output place a z not at why = several
    (λ paths. RefusesOverlay (fault_of e) paths output a.world z.world a.held z.held (Unprinted a.report z.report))
    (λ words. RefusesExpand (fault_of e) words output a z) inputs not (λ is. is) (λ x y rest is. is)
    (subst (λ p. RefusesOverlay (fault_of e) (map (λ word. image_path word.now) inputs) p a.world z.world a.held
    z.held (Unprinted a.report z.report)) at why)

pub one_spared : (inputs : List (Bor (List ℕ))) (other : Bor (List ℕ)) (output from place : List ℕ) (a z : State)
    → length inputs ≡ 1 → from ≡ image_path (get_or inputs 0 other).now → place ≡ output_path output
    → OnlyAt a.held.read place a.world z.world → KeepsFile from a.world z.world
    → SparesInUse place a.held a.world z.world → SparesExpanded (map (λ word. word.now) inputs) output a z
one_spared [] other output from place a z one read at only kept guarded = absurd (omega (arith, one))
one_spared (word ∷ []) other output from place a z one read at only kept guarded = (
  subst (λ p. OnlyAt a.held.read p a.world z.world) at only,
  subst (λ p. KeepsFile p a.world z.world) read kept,
  subst (λ p. SparesInUse p a.held a.world z.world) at guarded,
)
one_spared (word ∷ (more ∷ rest)) other output from place a z one read at only kept guarded =
    absurd (omega (arith, one))

-- what is spared at a path
pub guarded_at : (place output : List ℕ) (held : OpenFiles) (old new : World) → place ≡ output
    → SparesInUse place held old new → SparesInUse output held old new
guarded_at place output held old new at guarded = subst (λ p. SparesInUse p held old new) at guarded

pub spared_at : (read path : List ℕ) (place : List ℕ) (a z : World) → place ≡ path → OnlyAt read place a z
    → OnlyAt read path a z
spared_at read path place a z at only = subst (λ p. OnlyAt read p a z) at only

pub kept_at : (path place : List ℕ) (a z : World) → place ≡ path → KeepsFile place a z → KeepsFile path a z
kept_at path place a z at kept = subst (λ p. KeepsFile p a z) at kept

-- what is so of OUT, under the path that its word says
pub whole_at : (over : List ℕ → Bool) (i i' o o' : List ℕ) (t : Bool) (size : ℕ) (a z : World) → i ≡ i' → o ≡ o'
    → (IsTrue (over o) → HoldsNoPartOfSparse i o t size a z) → IsTrue (over o') → HoldsNoPartOfSparse i' o' t size a z
whole_at over i i' o o' t size a z same_i same_o whole is =
    subst (λ p. HoldsNoPartOfSparse p o' t size a z) same_i
    (subst (λ p. IsTrue (over p) → HoldsNoPartOfSparse i p t size a z) same_o whole is)
