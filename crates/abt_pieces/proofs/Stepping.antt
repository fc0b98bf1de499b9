-- A cutter from step to step.
use Rattle.std.proofs.Common.{◌≡◌, ℕ, ◌+◌, ◌-◌, ◌<◌, ◌≤◌, false, List, ◌++◌, length, take, drop, refl, sym, ap, ◌∙◌}
use Rattle.std.proofs.Common.{arith, inl, inr, nat_lt, append_assoc, take-append-drop, ◌*◌, max}
use Rattle.std.proofs.lemmas.Bool.{cases_Bool, ltb-true, ltb-false}
use Rattle.abt_sparse.specs.Block.{Block, AreBlocks}
use Rattle.abt_sparse.specs.Chunk.{piece, header_record, plain_header}
use Rattle.abt_io.specs.declared.meter.Meter.{Meter}
use Rattle.abt_runs.specs.declared.part.Cursor.{Cursor}
use Rattle.abt_pieces.specs.Calls.{Devices}
use Rattle.abt_pieces.specs.Step.{CutStepCosts}
use Rattle.abt_pieces.specs.Plan.{FirstPiece, last_words}
use Rattle.abt_pieces.specs.Contents.{contents_before}
use Rattle.abt_pieces.specs.Gather.{frame, first_gatherer, look_left}
use Rattle.abt_pieces.specs.Outline.{piece_blocks, piece_at}
use Rattle.abt_pieces.specs.Write.{rest_of, frame_of, write_left, writer_words}
use Rattle.abt_pieces.specs.Cutter.{most_raw, first_writer, is_begun, coming, ToldOutline, ToldCutter, ToldStage}
use Rattle.abt_pieces.specs.Cutter.{segments_left, Passed, TakenPlan, planned_left, plan_words, piece_words}
use Rattle.abt_pieces.specs.declared.outline.Piece.{Piece}
use Rattle.abt_pieces.specs.declared.fault.PieceFault.{PieceFault}
use Rattle.abt_pieces.specs.declared.outline.Outline.{Outline}
use Rattle.abt_pieces.specs.declared.plan.Planner.{Planner}
use Rattle.abt_pieces.specs.declared.write.Writer.{Writer}
use Rattle.abt_pieces.specs.declared.stage.CutterStage.{CutterStage}
use Rattle.abt_pieces.specs.declared.stage.CutterStage.TheVariants.{Between, Plan, Begin, Write, Done, Failed}
use Rattle.abt_pieces.proofs.Counts.{words_none, words_most, words_top, writer_none, writer_most, begin_bytes}
use Rattle.abt_pieces.proofs.Cutting.{piece_is, writer_told, header_first}

-- ---- the header of a planned piece

pub begun_told : (P : Cursor → Type 0) (T : Cursor → ℕ) (b n : ℕ) (l : List Block) (limit made : ℕ) (start : Cursor)
    (o : Outline) → n ≡ length l → o.piece.first ≡ start.block → AreBlocks b l → 0 < b → 40 ≤ limit → o.piece.bytes ≤
    limit → ToldCutter P T b l limit made start (Begin o)
    → ToldCutter P T b l limit made start (Write o (first_writer start o (most_raw b limit)))
begun_told P T b n l limit made start o same first good some room fits h = record {
  place = h.place;
  cuts = h.cuts;
  stage = record {
    outline = h.stage;
    writer = writer_told P T b n limit l start o h.place same (sym first) good some
        room fits h.stage.exact;
  };
}

-- what is to come is the header and the chunks
pub header_comes : (P : Cursor → Type 0) (b n limit : ℕ) (l : List Block) (start : Cursor) (o : Outline) → n ≡ length l
    → o.piece.first ≡ start.block → AreBlocks b l → 0 < b → 40 ≤ limit → o.piece.bytes ≤ limit → ToldOutline P b l limit
    start.block o
    → piece_at b limit l start.block ≡ header_record (plain_header b n o.chunks) ++ rest_of
    (frame_of l (first_writer start o (most_raw b limit))) (first_writer start o (most_raw b limit))
header_comes P b n limit l start o same first good some room fits h =
    let one = piece_is b limit l start.block o.piece.past h.greatest in
    let two : piece b (piece_blocks l o.piece) ≡ piece b (frame l start.block o.piece.past) = ap
    (λ (k : ℕ). piece b (frame l k o.piece.past)) first in
    sym one ∙ sym two ∙ header_first b n limit l start o same (sym first) good some room fits h.exact

-- ---- steps left

pub planned_some : (left : Cursor → ℕ) (c : Cursor) → 2 ≤ planned_left left c
unfolding planned_left
planned_some left c = omega arith

looks_first : (left : Cursor → ℕ) (n e : ℕ) (c : Cursor) → look_left left n e (first_gatherer c) ≤ left c + 3
looks_first left n e c = elim (cases_Bool (nat_lt c.block e)) [
  | inl h ↦ rw h (omega arith)
  | inr h ↦ rw h (elim (cases_Bool (nat_lt c.block n)) [ inl k ↦ rw k (omega arith) | inr k ↦ rw k (omega arith) ])
]

pub first_left : (left : Cursor → ℕ) (n r : ℕ) (c : Cursor) (o : Outline) → write_left left n (first_writer c o r) <
    planned_left left c - 1
unfolding write_left planned_left
first_left left n r c o = let z = looks_first left n o.piece.past c in omega (arith, z)

-- ---- a piece from its first step on

pub is_between : (st : CutterStage) → is_begun st ≡ false → (st ≡ Done → ⊥) → ((f : PieceFault) → st ≡ Failed f → ⊥)
    → st ≡
    Between
is_between Between h done failed = refl
is_between (Plan p) h done failed = absurd cc
is_between (Begin o) h done failed = absurd cc
is_between (Write o w) h done failed = absurd cc
is_between Done h done failed = absurd (done refl)
is_between (Failed f) h done failed = absurd (failed f refl)

-- what came is all of it
pub whole_front : (w0 w1 w2 x c : List ℕ) (d : ℕ) → w1 ≡ w0 ++ take d x → c ≡ drop d x → w2 ≡ w1 ++ c → w2 ≡ w0 ++ x
whole_front w0 w1 w2 x c d front rest all =
    all ∙ ap (λ (y : List ℕ). y ++ c) front ∙ append_assoc w0 (take d x) c
    ∙ ap (λ (y : List ℕ). w0 ++ (take d x ++ y)) rest ∙ ap (λ (y : List ℕ). w0 ++ y) (take-append-drop d x)

-- the piece that was to come
pub piece_came : (b limit : ℕ) (l : List Block) (s : ℕ) (p : Piece) (st : CutterStage) → st ≡ Between → p.first ≡ s →
    FirstPiece b l limit p.first p.past → coming b limit l s st ≡ piece b (piece_blocks l p)
piece_came b limit l s p st e first h = rw (e, ← first) (sym (piece_is b limit l p.first p.past h))

-- ---- what the steps of a piece cost

pub plan_covers : (p one n i : ℕ) → 4 * p ≤ one → (0 < p → i + 1 ≡ n) → p + last_words one n i ≤ plan_words one n i
plan_covers p one n i small end = elim (cases_Bool (nat_lt (i + 1) n)) [
  | inl a ↦
      let lt = ltb-true (i + 1) n a in
      let none : last_words one n i ≡ 0 = words_none one n i (omega (arith, lt)) in
      elim (cases_Bool (nat_lt 0 p)) [
        | inl b ↦ absurd (let e = end (ltb-true 0 p b) in omega (arith, e, lt))
        | inr b ↦
            let z = ltb-false 0 p b in rw a (omega (arith, none, z))
      ]
  | inr a ↦ rw a (words_top p one n i small end)
]

pub plan_most : (one n e : ℕ) → plan_words one n e ≤ one
plan_most one n e = elim (cases_Bool (nat_lt (e + 1) n)) [ inl a ↦ rw a (omega arith) | inr a ↦ rw a (omega arith) ]

pub piece_covers : (one n e : ℕ) (w : Writer) → w.past ≡ e → plan_words one n e + writer_words one n w ≤ piece_words one
    n e
piece_covers one n e w same = elim (cases_Bool (nat_lt (e + 1) n)) [
  | inl a ↦ let lt = ltb-true (e + 1) n a in let none = writer_none one n w (omega (arith, same, lt)) in rw a
      (omega (arith, none))
  | inr a ↦ elim (cases_Bool (nat_lt e n)) [
    | inl b ↦ let lt = ltb-true e n b in let none = writer_none one n w (omega (arith, same, lt)) in rw (a, b)
        (omega (arith, none))
    | inr b ↦ let most = writer_most one n w in rw (a, b) (omega (arith, most))
  ]
]

-- a plan counts them where it ends, and where it has looked one block further
pub piece_covers_plan : (one n e : ℕ) → last_words one n e + last_words one n (e + 1) ≤ piece_words one n e
piece_covers_plan one n e = elim (cases_Bool (nat_lt (e + 1) n)) [
  | inl a ↦ let lt = ltb-true (e + 1) n a in let none = words_none one n e (omega (arith, lt)) in let more = words_none
      one n (e + 1) lt in rw a (omega (arith, none, more))
  | inr a ↦ elim (cases_Bool (nat_lt e n)) [
    | inl b ↦ let lt = ltb-true e n b in let none = words_none one n e lt in let most = words_most one n (e + 1) in rw
        (a, b) (omega (arith, none, most))
    | inr b ↦ let one_more = words_most one n (e + 1) in let most = words_most one n e in rw (a, b)
        (omega (arith, one_more, most))
  ]
]

-- ---- after a piece

-- how a cutter is after a piece of an image of n blocks that ends before block e
pub record Behind (n e : ℕ) (st : CutterStage) : Type 0 where
  pub end : e ≤ n
  pub done : e ≡ n → st ≡ Done
  pub between : e < n → st ≡ Between

pub behind_unbegun : (n e : ℕ) (st : CutterStage) → Behind n e st → is_begun st ≡ false
behind_unbegun n e st h = elim (cases_Bool (nat_lt e n)) [
  | inl l ↦ rw (h.between (ltb-true e n l)) refl
  | inr l ↦ rw (h.done (let z = ltb-false e n l in omega (arith, z, h.end))) refl
]

pub behind_passed : (n s e : ℕ) (st : CutterStage) → (e < n → s < e) → Behind n e st → Passed n s e st
behind_passed n s e st moves h = record {
  moves = moves;
  within = h.end;
  between = h.between;
  done = λ over. h.done
      (omega (arith, over, h.end));
}

pub told_moves : (P : Cursor → Type 0) (T : Cursor → ℕ) (b : ℕ) (l : List Block) (limit made : ℕ) (start : Cursor)
    (st new : CutterStage) → ToldCutter P T b l limit made start st → segments_left b limit l start.block new
    ≡ segments_left
    b limit l start.block st → ToldStage P T b l limit start.block new → ToldCutter P T b l limit made start new
told_moves P T b l limit made start st new told same stage = record {
  place = told.place;
  cuts = record {
    before = told.cuts.before;
    count = told.cuts.count;
    all = told.cuts.all ∙ ap
        (λ (x : List (List Block)). told.cuts.before ++ x) (sym same);
  };
  stage = stage;
}

-- a step of the writer, in a piece whose plan compared so many words
pub write_costs : (plan words one : ℕ) (a z : Devices) (m m' : Meter) → plan ≤ one → CutStepCosts words (2 * one) a z m
    m' → CutStepCosts (plan + words) (3 * one) a z m m'
write_costs plan words one a z m m' most h = record {
  given = h.given;
  received = h.received;
  grown = h.grown;
  few = h.few;
  steps = h.steps;
  greatest = h.greatest;
  calls = h.calls;
  write_calls = h.write_calls;
  turns = omega (arith, h.turns, most);
}

-- a step that leaves the output alone
pub unwritten_costs : (words more : ℕ) (a z : Devices) (m m' : Meter) → z.writes ≡ a.writes → z.written ≡ a.written →
    a.given ≤ z.given → z.given ≤ a.given + 65536 → m'.steps.number ≡ m.steps.number + 1 → m'.greatest.number ≡ max
    m.greatest.number (z.given - a.given) → z.reads ≤ a.reads + (z.given - a.given) + 2 → m'.turns.number + words ≤
    m.turns.number + 2 * (z.given - a.given) + 3 + more → CutStepCosts words more a z m m'
unwritten_costs words more a z m m' writes written given received steps greatest calls turns = record {
  given = given;
  received = received;
  grown = omega (arith, written);
  few = omega (arith, written);
  steps = steps;
  greatest = greatest;
  calls = calls;
  write_calls = omega (arith, writes, written);
  turns = omega (arith, written, turns);
}

-- a step that leaves the source alone, and writes a header
pub header_costs : (plan one : ℕ) (a z : Devices) (m m' : Meter) → z.reads ≡ a.reads → z.given ≡ a.given → plan ≤ one →
    a.written ≤ z.written → z.written ≤ a.written + 28 → m'.steps.number ≡ m.steps.number + 1 → m'.greatest.number ≡
    m.greatest.number → z.writes + a.written ≤ a.writes + z.written + 1 → m'.turns.number + a.written ≤ m.turns.number +
    z.written + 1 → CutStepCosts plan (3 * one) a z m m'
header_costs plan one a z m m' reads given most grown few steps greatest writes turns = record {
  given = omega (arith, given);
  received = omega (arith, given);
  grown = grown;
  few = omega (arith, few);
  steps = steps;
  greatest = omega (arith, given, greatest);
  calls = omega (arith, reads);
  write_calls = writes;
  turns = omega (arith, most, grown, turns);
}

-- nothing is written while a piece is planned
pub no_bytes_yet : (b limit n : ℕ) → 64 + b ≤ limit → 0 + (n - n) ≤ limit
no_bytes_yet b limit n granted = omega (arith, granted)
