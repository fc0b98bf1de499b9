-- The invariant of a cutter has at most one proof, where the fact that a place is within the image has at most one.
use Rattle.std.specs.Prelude.{ℕ, Option, Some, None}
use Rattle.std.proofs.Props.{props}
use Rattle.abt_runs.specs.declared.part.Cursor.{Cursor}
use Rattle.abt_pieces.specs.Plan.{Slim, Even}
use Rattle.abt_pieces.specs.Gather.{SoundGatherer}
use Rattle.abt_pieces.specs.Write.{SoundCopying, SoundWriter}
use Rattle.abt_pieces.specs.Cutter.{SoundPlanner, SoundOutline, SoundWriting, SoundStage, TakenStage, SoundCutter}
use Rattle.abt_pieces.specs.declared.segment_tail.Tail.{Tail}
use Rattle.abt_pieces.specs.declared.segment_tail.Tail.TheVariants as tails
use Rattle.abt_pieces.specs.declared.gather.Gatherer.{Gatherer}
use Rattle.abt_pieces.specs.declared.outline.Outline.{Outline}
use Rattle.abt_pieces.specs.declared.plan.Planner.{Planner}
use Rattle.abt_pieces.specs.declared.write.Copying.{Copying}
use Rattle.abt_pieces.specs.declared.write.Writer.{Writer}
use Rattle.abt_pieces.specs.declared.stage.CutterStage.{CutterStage}
use Rattle.abt_pieces.specs.declared.stage.CutterStage.TheVariants.{Between, Plan, Begin, Write, Done, Failed}

Slim-prop : (t : Tail) (at bytes weight : ℕ) → IsProp (Slim t at bytes weight)
Slim-prop tails.Fresh at bytes weight = Prim.hlevel props
Slim-prop tails.Skip at bytes weight = Prim.hlevel props
Slim-prop tails.Raw at bytes weight = Prim.hlevel props
Slim-prop (tails.Fill w) at bytes weight = Prim.hlevel props

Even-prop : (p : Planner) → IsProp (Even p)
Even-prop p = Prim.hlevel (props, Slim-prop p.tail p.at.block p.contents.bytes p.weight)

SoundPlanner-prop : (W : Cursor → Type 0) → ((c : Cursor) → IsProp (W c)) → (limit s : ℕ) (p : Planner)
    → IsProp (SoundPlanner W limit s p)
SoundPlanner-prop W alike limit s p = Prim.hlevel (props, alike, Even-prop)

SoundOutline-prop : (W : Cursor → Type 0) → ((c : Cursor) → IsProp (W c)) → (n limit s : ℕ) (o : Outline)
    → IsProp (SoundOutline W n limit s o)
SoundOutline-prop W alike n limit s o = Prim.hlevel (props, alike)

SoundGatherer-prop : (W : Cursor → Type 0) → ((c : Cursor) → IsProp (W c)) → (n s e : ℕ) (g : Gatherer)
    → IsProp (SoundGatherer W n s e g)
SoundGatherer-prop W alike n s e g = Prim.hlevel (props, alike)

SoundCopying-prop : (W : Cursor → Type 0) → ((c : Cursor) → IsProp (W c))
    → (reach : Cursor → ℕ) (b s e u bytes : ℕ) (c : Option Copying) → IsProp (SoundCopying W reach b s e u bytes c)
SoundCopying-prop W alike reach b s e u bytes None = Prim.hlevel props
SoundCopying-prop W alike reach b s e u bytes (Some c) = Prim.hlevel (props, alike)

SoundWriter-prop : (W : Cursor → Type 0) → ((c : Cursor) → IsProp (W c))
    → (reach : Cursor → ℕ) (n b : ℕ) (w : Writer) → IsProp (SoundWriter W reach n b w)
SoundWriter-prop W alike reach n b w = Prim.hlevel (props, SoundGatherer-prop W alike, SoundCopying-prop W alike)

SoundWriting-prop : (W : Cursor → Type 0) → ((c : Cursor) → IsProp (W c))
    → (reach : Cursor → ℕ) (n b limit s : ℕ) (o : Outline) (w : Writer) → IsProp (SoundWriting W reach n b limit s o w)
SoundWriting-prop W alike reach n b limit s o w =
    Prim.hlevel (props, SoundOutline-prop W alike, SoundWriter-prop W alike)

SoundStage-prop : (W : Cursor → Type 0) → ((c : Cursor) → IsProp (W c))
    → (reach : Cursor → ℕ) (n b limit s : ℕ) (st : CutterStage) → IsProp (SoundStage W reach n b limit s st)
SoundStage-prop W alike reach n b limit s Between = Prim.hlevel props
SoundStage-prop W alike reach n b limit s (Plan p) = SoundPlanner-prop W alike limit s p
SoundStage-prop W alike reach n b limit s (Begin o) = SoundOutline-prop W alike n limit s o
SoundStage-prop W alike reach n b limit s (Write o w) = SoundWriting-prop W alike reach n b limit s o w
SoundStage-prop W alike reach n b limit s Done = Prim.hlevel props
SoundStage-prop W alike reach n b limit s (Failed f) = Prim.hlevel props

TakenStage-prop : (K : Cursor → ℕ) (b limit : ℕ) (start : Cursor) (st : CutterStage)
    → IsProp (TakenStage K b limit start st)
TakenStage-prop K b limit start Between = Prim.hlevel props
TakenStage-prop K b limit start (Plan p) = Prim.hlevel props
TakenStage-prop K b limit start (Begin o) = Prim.hlevel props
TakenStage-prop K b limit start (Write o w) = Prim.hlevel props
TakenStage-prop K b limit start Done = Prim.hlevel props
TakenStage-prop K b limit start (Failed f) = Prim.hlevel props

pub SoundCutter-prop : (W : Cursor → Type 0) → ((c : Cursor) → IsProp (W c))
    → (reach K : Cursor → ℕ) (n b limit made : ℕ) (start : Cursor) (st : CutterStage)
    → IsProp (SoundCutter W reach K n b limit made start st)
SoundCutter-prop W alike reach K n b limit made start st =
    Prim.hlevel (props, alike, SoundStage-prop W alike, TakenStage-prop)
