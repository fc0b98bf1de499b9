-- The state of a cutter, between pieces and within one.
use Rattle.std.specs.Prelude.{◌≡◌, ℕ, ◌+◌, ◌-◌, ◌*◌, ◌/◌, ◌^◌, ◌≤◌, ◌<◌, Bool, true, false, List, [], ◌++◌, length}
use Rattle.std.specs.Prelude.{drop, nat_le, None, ⊤, Result, Ok, Err, if◌then◌else◌, nat_lt}
use Rattle.abt_sparse.specs.Block.{Block}
use Rattle.abt_sparse.specs.Runs.{weight, greedy, segments}
use Rattle.abt_runs.specs.declared.part.Cursor.{Cursor}
use Rattle.abt_pieces.specs.Plan.{Even, Planned, FirstPiece, last_words}
use Rattle.abt_pieces.specs.Fault.{full_cut}
use Rattle.abt_pieces.specs.Gather.{first_gatherer}
use Rattle.abt_pieces.specs.Outline.{IsOutline, piece_at}
use Rattle.abt_pieces.specs.Write.{SoundWriter, ToldWriter, rest_of, frame_of, write_left, writer_words, silent_write}
use Rattle.abt_pieces.specs.declared.fault.PieceFault.{PieceFault}
use Rattle.abt_pieces.specs.declared.segment_tail.Tail.TheVariants as tails
use Rattle.abt_pieces.specs.declared.outline.Piece.{Piece}
use Rattle.abt_pieces.specs.declared.outline.Outline.{Outline}
use Rattle.abt_pieces.specs.declared.plan.Planner.{Planner}
use Rattle.abt_pieces.specs.declared.write.Writer.{Writer}
use Rattle.abt_pieces.specs.declared.stage.CutterStage.{CutterStage}
use Rattle.abt_pieces.specs.declared.stage.CutterStage.TheVariants.{Between, Plan, Begin, Write, Done, Failed}
use Rattle.abt_pieces.specs.declared.stage.PieceProgress.{PieceProgress}
use Rattle.abt_pieces.specs.declared.stage.PieceProgress.TheVariants as answers

-- how many blocks a raw run of a piece has at most, after two headers and the piece's own
abbrev pub most_raw : ℕ → ℕ → ℕ
most_raw b limit = (limit - 40) / b

-- before the first chunk of a planned piece
abbrev pub first_writer : Cursor → Outline → ℕ → Writer
first_writer c o r = record {
  first = o.piece.first;
  past = o.piece.past;
  most = r;
  gatherer = first_gatherer c;
  copying = None;
  chunks = o.chunks;
  bytes = o.piece.bytes - 28;
}

-- a piece is begun or left, or a call has refused
abbrev pub has_more : CutterStage → Bool
has_more Between = true
has_more (Plan p) = true
has_more (Begin o) = true
has_more (Write o w) = true
has_more Done = false
has_more (Failed f) = true

-- a piece is begun: the last step returned that it goes on
abbrev pub is_begun : CutterStage → Bool
is_begun Between = false
is_begun (Plan p) = true
is_begun (Begin o) = true
is_begun (Write o w) = true
is_begun Done = false
is_begun (Failed f) = false

-- a call has refused, and each further one returns that again
abbrev pub has_failed : CutterStage → Bool
has_failed Between = false
has_failed (Plan p) = false
has_failed (Begin o) = false
has_failed (Write o w) = false
has_failed Done = false
has_failed (Failed f) = true

-- how often more a call reports that the output is full: one that returns a fault again calls no output
abbrev pub full_at : {X : Type 0} → CutterStage → Result X PieceFault → ℕ
full_at st r = if has_failed st then 0 else full_cut r

-- how many bytes of the begun piece are written
abbrev pub so_far : CutterStage → ℕ
so_far Between = 0
so_far (Plan p) = 0
so_far (Begin o) = 0
so_far (Write o w) = o.piece.bytes - w.bytes
so_far Done = 0
so_far (Failed f) = 0

-- ---- what a step returns

abbrev pub has_more_to_cut : Result PieceProgress PieceFault → Bool
has_more_to_cut (Ok answers.More) = true
has_more_to_cut (Ok (answers.Piece p)) = false
has_more_to_cut (Ok answers.End) = false
has_more_to_cut (Err f) = false

abbrev pub OnMoreCutting : Result PieceProgress PieceFault → Type 0 → Type 0
OnMoreCutting (Ok answers.More) P = P
OnMoreCutting r P = ⊤

abbrev pub OnEnd : Result PieceProgress PieceFault → Type 0 → Type 0
OnEnd (Ok answers.End) P = P
OnEnd r P = ⊤

abbrev pub OnPiece : Result PieceProgress PieceFault → (Piece → Type 0) → Type 0
OnPiece (Ok (answers.Piece p)) P = P p
OnPiece r P = ⊤

-- after a piece from block s up to e, of an image of n blocks: only the last piece ends with the image, and each
-- other one has a block
pub record Passed (n s e : ℕ) (st : CutterStage) : Type 0 where
  pub moves : e < n → s < e
  pub within : e ≤ n
  pub between : e < n → st ≡ Between
  pub done : n ≤ e → st ≡ Done

-- ---- the numbers, whatever the source gave

-- a plan of the piece that begins at block s
pub record SoundPlanner (W : Cursor → Type 0) (limit s : ℕ) (p : Planner) : Type 0 where
  pub first : p.first ≡ s
  pub within : W p.at
  pub room : p.weight ≤ limit
  pub even : Even p

-- a planned piece of an image of n blocks
pub record SoundOutline (W : Cursor → Type 0) (n limit s : ℕ) (o : Outline) : Type 0 where
  pub first : o.piece.first ≡ s
  pub past : o.piece.past ≡ o.next.block
  pub order : o.piece.first ≤ o.piece.past
  pub moves : o.piece.past < n → o.piece.first < o.piece.past
  pub end : o.piece.past ≤ n
  pub within : W o.next
  pub least : 28 ≤ o.piece.bytes
  pub long : o.piece.bytes ≤ limit

-- a planned piece that is being written
pub record SoundWriting (W : Cursor → Type 0) (reach : Cursor → ℕ) (n b limit s : ℕ) (o : Outline)
    (w : Writer) : Type 0 where
  pub outline : SoundOutline W n limit s o
  pub writer : SoundWriter W reach n b w
  pub first : w.first ≡ o.piece.first
  pub past : w.past ≡ o.piece.past
  pub rest : w.bytes ≤ o.piece.bytes

abbrev pub SoundStage : (Cursor → Type 0) → (Cursor → ℕ) → ℕ → ℕ → ℕ → ℕ → CutterStage → Type 0
SoundStage W reach n b limit s Between = ⊤
SoundStage W reach n b limit s (Plan p) = SoundPlanner W limit s p
SoundStage W reach n b limit s (Begin o) = SoundOutline W n limit s o
SoundStage W reach n b limit s (Write o w) = SoundWriting W reach n b limit s o w
SoundStage W reach n b limit s Done = ⊤
SoundStage W reach n b limit s (Failed f) = ⊤

-- what a plan takes is within what the blocks that it has passed take, and what a piece adds: a part that goes on
-- within a raw chunk is counted with a header, and then nothing more has room
pub record TakenPlan (K : Cursor → ℕ) (b limit : ℕ) (start : Cursor) (p : Planner) : Type 0 where
  pub most : p.contents.bytes + K start ≤ 40 + K p.at + 16
  pub inside : 0 < p.at.used → ((p.tail ≡ tails.Raw) × (limit - p.weight < b) → ⊥)
      → p.contents.bytes + K start ≤ 40 + K p.at

-- how long the begun piece is
abbrev pub TakenStage : (Cursor → ℕ) → ℕ → ℕ → Cursor → CutterStage → Type 0
TakenStage K b limit start Between = ⊤
TakenStage K b limit start (Plan p) = TakenPlan K b limit start p
TakenStage K b limit start (Begin o) = o.piece.bytes + K start ≤ K o.next + 80
TakenStage K b limit start (Write o w) = o.piece.bytes + K start ≤ K o.next + 80
TakenStage K b limit start Done = ⊤
TakenStage K b limit start (Failed f) = ⊤

-- the numbers of a cutter
pub record SoundCutter (W : Cursor → Type 0) (reach K : Cursor → ℕ) (n b limit made : ℕ) (start : Cursor)
    (st : CutterStage) : Type 0 where
  pub granted : 64 + b ≤ limit
  pub within : W start
  pub few : made ≤ start.block + 1
  pub left : has_more st ≡ true → made ≤ start.block
  pub stage : SoundStage W reach n b limit start.block st
  pub taken : TakenStage K b limit start st

-- ---- what is known of a source that models its content

-- what is still to come of the piece that begins at block s
abbrev pub coming : ℕ → ℕ → List Block → ℕ → CutterStage → List ℕ
coming b limit l s Between = piece_at b limit l s
coming b limit l s (Plan p) = piece_at b limit l s
coming b limit l s (Begin o) = piece_at b limit l s
coming b limit l s (Write o w) = rest_of (frame_of l w) w
coming b limit l s Done = []
coming b limit l s (Failed f) = []

-- the segments that are still to come, the begun one among them
abbrev pub segments_left : ℕ → ℕ → List Block → ℕ → CutterStage → List (List Block)
segments_left b limit l s Between = greedy (λ part. nat_le (weight b part) limit) [] (drop s l)
segments_left b limit l s (Plan p) = greedy (λ part. nat_le (weight b part) limit) [] (drop s l)
segments_left b limit l s (Begin o) = greedy (λ part. nat_le (weight b part) limit) [] (drop s l)
segments_left b limit l s (Write o w) = greedy (λ part. nat_le (weight b part) limit) [] (drop s l)
segments_left b limit l s Done = []
segments_left b limit l s (Failed f) = greedy (λ part. nat_le (weight b part) limit) [] (drop s l)

-- so many pieces are made of the image, and these segments are still to come
pub record Made (b limit : ℕ) (l : List Block) (n : ℕ) (rest : List (List Block)) : Type 0 where
  pub before : List (List Block)
  pub count : length before ≡ n
  pub all : segments limit b l ≡ before ++ rest

-- a plan has come so far
pub record ToldPlanner (P : Cursor → Type 0) (b : ℕ) (l : List Block) (p : Planner) : Type 0 where
  pub place : P p.at
  pub planned : Planned b l p

-- a planned piece is the one that begins at block s
pub record ToldOutline (P : Cursor → Type 0) (b : ℕ) (l : List Block) (limit s : ℕ) (o : Outline) : Type 0 where
  pub exact : IsOutline b l o
  pub greatest : FirstPiece b l limit s o.piece.past
  pub place : P o.next

-- and so much of it is still to be written
pub record ToldWriting (P : Cursor → Type 0) (T : Cursor → ℕ) (b : ℕ) (l : List Block) (limit s : ℕ) (o : Outline)
    (w : Writer) : Type 0 where
  pub outline : ToldOutline P b l limit s o
  pub writer : ToldWriter P T l w

abbrev pub ToldStage : (Cursor → Type 0) → (Cursor → ℕ) → ℕ → List Block → ℕ → ℕ → CutterStage → Type 0
ToldStage P T b l limit s Between = ⊤
ToldStage P T b l limit s (Plan p) = ToldPlanner P b l p
ToldStage P T b l limit s (Begin o) = ToldOutline P b l limit s o
ToldStage P T b l limit s (Write o w) = ToldWriting P T b l limit s o w
ToldStage P T b l limit s Done = ⊤
ToldStage P T b l limit s (Failed f) = ⊤

pub record ToldCutter (P : Cursor → Type 0) (T : Cursor → ℕ) (b : ℕ) (l : List Block) (limit made : ℕ)
    (start : Cursor) (st : CutterStage) : Type 0 where
  pub place : P start
  pub cuts : Made b limit l made (segments_left b limit l start.block st)
  pub stage : ToldStage P T b l limit start.block st

-- ---- how many steps there can be before a piece is whole

-- with a plan that has passed nothing more
unfoldable pub planned_left : (Cursor → ℕ) → Cursor → ℕ
planned_left left start = (left start + 3) * 2 ^ 65 + 2

abbrev pub cut_left : (Cursor → ℕ) → ℕ → Cursor → CutterStage → ℕ
cut_left left n start Between = planned_left left start + left start + 1
cut_left left n start (Plan p) = planned_left left start + left p.at
cut_left left n start (Begin o) = planned_left left start - 1
cut_left left n start (Write o w) = write_left left n w
cut_left left n start Done = 0
cut_left left n start (Failed f) = 0

-- ---- what the steps of a piece cost

-- how many of the steps that are left may read nothing and write nothing
abbrev pub silent_cut : ℕ → CutterStage → ℕ
silent_cut n Between = 6
silent_cut n (Plan p) = 6
silent_cut n (Begin o) = 5
silent_cut n (Write o w) = silent_write n w + 1
silent_cut n Done = 0
silent_cut n (Failed f) = 0

-- how many words of the last of n blocks may be compared without being read, in planning up to block e and in all
-- passes of a piece up to there
abbrev pub plan_words : ℕ → ℕ → ℕ → ℕ
plan_words one n e = if nat_lt (e + 1) n then 0 else one

abbrev pub piece_words : ℕ → ℕ → ℕ → ℕ
piece_words one n e = if nat_lt (e + 1) n then 0 else if nat_lt e n then one else 3 * one

-- how many of these may have been so far
abbrev pub cut_words : ℕ → ℕ → Cursor → CutterStage → ℕ
cut_words one n start Between = last_words one n start.block
cut_words one n start (Plan p) = last_words one n p.at.block
cut_words one n start (Begin o) = plan_words one n o.piece.past
cut_words one n start (Write o w) = plan_words one n o.piece.past + writer_words one n w
cut_words one n start Done = 0
cut_words one n start (Failed f) = 0
