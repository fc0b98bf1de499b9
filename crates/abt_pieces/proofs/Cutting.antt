-- A cutter from stage to stage.
use Rattle.std.proofs.Common.{◌≡◌, ℕ, ◌+◌, ◌-◌, ◌*◌, ◌%◌, ◌<◌, ◌≤◌, nat_le, nat_lt, Bool, true, List, [], ◌∷◌, ◌++◌}
use Rattle.std.proofs.Common.{length, map, take, drop, replicate, refl, sym, ap, ◌∙◌, append_assoc, arith, inl, inr}
use Rattle.std.proofs.Common.{◌⊎◌, length-append, length-drop, leb-true, if◌then◌else◌}
use Rattle.std.proofs.lemmas.Bool.{cases_Bool, ltb-true, ltb-false}
use Rattle.std.proofs.lemmas.List.{length-take-le, length-replicate}
use Rattle.std.proofs.Math.Seq.{take-append_seam}
use Rattle.abt_sparse.specs.Block.{Block, Skip, AreBlocks}
use Rattle.abt_sparse.specs.Runs.{runs, weight, framed, greedy, tail_parts, segments, Division}
use Rattle.abt_sparse.specs.Chunk.{Chunk, piece, plain, header_record, plain_header, chunk_of_run, chunks_of}
use Rattle.abt_sparse.proofs.Weights.{one_fits, fewest}
use Rattle.abt_runs.specs.Part.{AllOf}
use Rattle.abt_runs.specs.declared.part.Cursor.{Cursor}
use Rattle.abt_runs.specs.declared.part.RunKind.TheVariants as kinds
use Rattle.abt_pieces.specs.Plan.{between, FirstPiece, PlanEnds}
use Rattle.abt_pieces.specs.Gather.{frame, first_gatherer, Gathered, SoundGatherer}
use Rattle.abt_pieces.specs.Outline.{IsOutline, piece_blocks, segment_at, piece_at, first_part}
use Rattle.abt_pieces.specs.Write.{bytes_of, rest_of, frame_of, ToldWriter}
use Rattle.abt_pieces.specs.declared.outline.Outline.{Outline}
use Rattle.abt_pieces.specs.declared.plan.Planner.{Planner}
use Rattle.std.proofs.lemmas.List.{length-map}
use Rattle.abt_pieces.specs.Cutter.{most_raw, first_writer, has_more, SoundOutline, ToldCutter, ToldStage, Made}
use Rattle.abt_pieces.specs.Cutter.{segments_left}
use Rattle.abt_pieces.specs.declared.stage.CutterStage.{CutterStage}
use Rattle.abt_pieces.specs.declared.fault.PieceFault.{PieceFault}
use Rattle.abt_pieces.specs.declared.stage.CutterStage.TheVariants.{Between, Plan, Begin, Write, Done, Failed}
use Rattle.std.specs.List.{flat_map}
use Rattle.abt_pieces.proofs.Framing.{length-frame}
use Rattle.abt_pieces.proofs.Writing.{frame_blocks}
use Rattle.abt_pieces.proofs.Uncut.{uncut}
use Rattle.abt_pieces.proofs.Counting.{skips_all}

-- the segment that was planned is the one to come
pub piece_is : (b limit : ℕ) (l : List Block) (s e : ℕ) → FirstPiece b l limit s e
    → piece b (frame l s e) ≡ piece_at b limit l s
piece_is b limit l s e h =
    let seg : segment_at b limit l s ≡ between l s e = ap first_part h.cut in
    let long : length (between l s e) ≡ e - s =
    length-take-le (e - s) (drop s l) (omega (arith, h.within, length-drop s l)) in
    let rest : length l - (s + length (segment_at b limit l s)) ≡ length l - e = let z = ap length seg in
    omega (arith, z, long, h.order) in
    sym (ap (λ (g : List Block). piece b (framed s g (length l - (s + length (segment_at b limit l s))))) seg
    ∙ ap (λ (n : ℕ). piece b (framed s (between l s e) n)) rest)

-- a segment that goes no further has a block, where there is one
pub moves : (b limit : ℕ) (l : List Block) (p : Planner) → 4 ≤ b → 64 + b ≤ limit → PlanEnds b l limit p
    → p.first ≡ p.at.block → p.at.block < length l → ⊥
moves b limit l p four room ends none more = go (drop p.at.block l) refl
  where
    go : (rest : List Block) → drop p.at.block l ≡ rest → ⊥
    go [] e = let z = ap length e in omega (arith, z, length-drop p.at.block l, more)
    go (x ∷ rest) e =
        let z : limit < weight b (between l p.first p.at.block ++ x ∷ []) = ends.over x rest e in
        let empty : between l p.first p.at.block ≡ [] =
        ap (λ (n : ℕ). take n (drop p.first l)) (let y : p.at.block - p.first ≡ 0 = omega (arith, none) in y) in
        let one : limit < weight b (x ∷ []) = rw empty at z in
        let le = leb-true (weight b (x ∷ [])) limit (one_fits limit b x four room) in
        omega (arith, le, one)

-- ---- a writer that begins

pub frame_front : (l : List Block) (s e : ℕ) → take s (frame l s e) ≡ replicate s Skip
frame_front l s e =
    ap (λ (x : List Block). take s x) (append_assoc (replicate s Skip) (between l s e) (replicate (length l - e) Skip))
    ∙ ap (λ (n : ℕ). take n (replicate s Skip ++ (between l s e ++ replicate (length l - e) Skip)))
    (sym (length-replicate {A = Block} s Skip))
    ∙ take-append_seam (replicate s Skip) (between l s e ++ replicate (length l - e) Skip)

pub gathered_first : (l : List Block) (e : ℕ) (c : Cursor) → c.block ≤ e → e ≤ length l
    → length (frame l c.block e) ≡ length l → Gathered (frame l c.block e) (first_gatherer c)
gathered_first l e c order within long =
    let none : c.block - c.block ≡ 0 = omega arith in
    let all : AllOf kinds.Skip (take c.block (frame l c.block e)) = rw (frame_front l c.block e) (skips_all c.block) in
    record {
      behind = omega arith;
      within = omega (arith, long);
      all = rw none (let z : c.block - 0 ≡ c.block = omega arith in rw z all);
    }

pub sound_first : (W : Cursor → Type 0) (n e : ℕ) (c : Cursor) → c.block ≤ e → e ≤ n → W c
    → SoundGatherer W n c.block e (first_gatherer c)
sound_first W n e c order within place = record {
  order = omega arith;
  inner = order;
  past = within;
  room = omega (arith, order, within);
  behind_it = omega arith;
  within = λ h. place;
  behind = λ h. absurd (omega (arith, order, h));
  ended = λ h. absurd cc;
  raw = λ h s. absurd cc;
}

-- no raw run of a piece within the limit is longer than its raw chunks may be
pub piece_uncut : (b limit : ℕ) (f : List Block) → 0 < b → 40 ≤ limit → AreBlocks b f → length (piece b f) ≤ limit
    → chunks_of (most_raw b limit) f ≡ map chunk_of_run (runs f)
piece_uncut b limit f some room good long =
    let cs = map chunk_of_run (runs f) in
    let total : length (piece b f) ≡ 28 + length (flat_map plain cs) =
    length-append (header_record (plain_header b (length f) (length cs))) (flat_map plain cs) in
    let r = most_raw b limit in
    let whole : b * r + (limit - 40) % b ≡ limit - 40 = omega arith in
    let rest : (limit - 40) % b < b = omega arith in
    let next : (r + 1) * b ≡ b * r + b = omega arith in
    uncut b r f good (omega (arith, total, long, whole, rest, next))

-- the piece is its header and its chunks
pub header_first : (b n limit : ℕ) (l : List Block) (c : Cursor) (o : Outline) → n ≡ length l
    → c.block ≡ o.piece.first → AreBlocks b l → 0 < b → 40 ≤ limit → o.piece.bytes ≤ limit → IsOutline b l o
    → piece b (piece_blocks l o.piece) ≡ header_record (plain_header b n o.chunks)
    ++ rest_of (frame_of l (first_writer c o (most_raw b limit))) (first_writer c o (most_raw b limit))
header_first b n limit l c o same first good some room fits h =
    let f = piece_blocks l o.piece in
    let long : length f ≡ n = length-frame l o.piece.first o.piece.past h.is.order h.is.within ∙ sym same in
    let cs = map chunk_of_run (runs f) in
    let count : length cs ≡ o.chunks = length-map (runs f) chunk_of_run ∙ sym h.count in
    let none : c.block - c.block ≡ 0 = omega arith in
    let uncut = piece_uncut b limit f some room (frame_blocks b l o.piece.first o.piece.past good)
    (omega (arith, h.is.long, fits)) in
    ap (λ (k : ℕ). header_record (plain_header b k (length cs)) ++ flat_map plain cs) long
    ∙ ap (λ (k : ℕ). header_record (plain_header b n k) ++ flat_map plain cs) count
    ∙ ap (λ (x : List Chunk). header_record (plain_header b n o.chunks) ++ flat_map plain x) (sym uncut)
    ∙ ap (λ (k : ℕ). header_record (plain_header b n o.chunks) ++ bytes_of (most_raw b limit) (drop k f)) (sym none)

pub header_long : (b n k : ℕ) → length (header_record (plain_header b n k)) ≡ 28
header_long b n k = refl

pub writer_told : (P : Cursor → Type 0) (T : Cursor → ℕ) (b n limit : ℕ) (l : List Block) (c : Cursor) (o : Outline)
    → P c → n ≡ length l → c.block ≡ o.piece.first → AreBlocks b l → 0 < b → 40 ≤ limit → o.piece.bytes ≤ limit
    → IsOutline b l o → ToldWriter P T l (first_writer c o (most_raw b limit))
writer_told P T b n limit l c o place same first good some room fits h =
    let f = piece_blocks l o.piece in
    let w = first_writer c o (most_raw b limit) in
    let long = length-frame l o.piece.first o.piece.past h.is.order h.is.within in
    let none : c.block - c.block ≡ 0 = omega arith in
    let whole = header_first b n limit l c o same first good some room fits h in
    let total = ap length whole ∙ length-append (header_record (plain_header b n o.chunks))
    (rest_of (frame_of l w) w) in
    let uncut = piece_uncut b limit f some room (frame_blocks b l o.piece.first o.piece.past good)
    (omega (arith, h.is.long, fits)) in
    let count : o.chunks ≡ length (chunks_of (most_raw b limit) (drop (c.block - c.block) f)) =
    h.count ∙ sym (length-map (runs f) chunk_of_run) ∙ sym (ap length uncut)
    ∙ ap (λ (k : ℕ). length (chunks_of (most_raw b limit) (drop k f))) (sym none) in
    record {
      gathering = record {
        gathered = rw (← first) (gathered_first l o.piece.past c (omega (arith, first, h.is.order)) h.is.within
            (rw first long));
        place = λ z. place;
        raw = λ z s. absurd cc;
      };
      copies = tt;
      count = omega (arith, count);
      long = omega (arith, h.is.long, total, header_long b n o.chunks);
    }

-- ---- a piece more

pub made_more : (b limit : ℕ) (l : List Block) (made s e : ℕ) (st : CutterStage)
    → Made b limit l made (segments_left b limit l s Between) → FirstPiece b l limit s e → (e ≡ length l → st ≡ Done)
    → (e < length l → st ≡ Between) → Made b limit l (made + 1) (segments_left b limit l e st)
made_more b limit l made s e st m h done more =
    let fits : List Block → Bool = λ part. nat_le (weight b part) limit in
    let one : segments limit b l ≡ m.before ++ (between l s e ∷ tail_parts fits (drop e l)) =
    m.all ∙ ap (λ (x : List (List Block)). m.before ++ x) h.cut in
    let two : segments limit b l ≡ (m.before ++ between l s e ∷ []) ++ tail_parts fits (drop e l) =
    one ∙ sym (append_assoc m.before (between l s e ∷ []) (tail_parts fits (drop e l))) in
    let count : length (m.before ++ between l s e ∷ []) ≡ made + 1 =
    omega (arith, length-append m.before (between l s e ∷ []), m.count) in
    record {
      before = m.before ++ between l s e ∷ [];
      count = count;
      all = two
          ∙ ap (λ (x : List (List Block)). (m.before ++ between l s e ∷ []) ++ x) (left (drop e l) refl);
    }
  where
    left : (rest : List Block) → drop e l ≡ rest
        → tail_parts (λ part. nat_le (weight b part) limit) rest ≡ segments_left b limit l e st
    left [] z = let d = done (let y = ap length z in omega (arith, y, length-drop e l, h.within)) in rw d refl
    left (x ∷ rest) z = let d = more (let y = ap length z in omega (arith, y, length-drop e l)) in rw (d, z) refl

greedy_some : (fits : List Block → Bool) (part rest : List Block) → 1 ≤ length (greedy fits part rest)
greedy_some fits part [] = omega arith
greedy_some fits part (x ∷ rest) =
    elim (cases_Bool (fits (part ++ x ∷ []))) [
      | inl e ↦ rw (e, length)
          (greedy_some fits (part ++ x ∷ []) rest)
      | inr e ↦ rw (e, length) (omega arith)
    ]

-- what is left has a piece, unless it is done
some_left : (b limit : ℕ) (l : List Block) (s : ℕ) (st : CutterStage)
    → (if has_more st then 1 else 0) ≤ length (segments_left b limit l s st)
some_left b limit l s Between = greedy_some (λ part. nat_le (weight b part) limit) [] (drop s l)
some_left b limit l s (Plan p) = greedy_some (λ part. nat_le (weight b part) limit) [] (drop s l)
some_left b limit l s (Begin o) = greedy_some (λ part. nat_le (weight b part) limit) [] (drop s l)
some_left b limit l s (Write o w) = greedy_some (λ part. nat_le (weight b part) limit) [] (drop s l)
some_left b limit l s Done = omega arith
some_left b limit l s (Failed f) = greedy_some (λ part. nat_le (weight b part) limit) [] (drop s l)

pub least_pieces : (b limit : ℕ) (l : List Block) (made s : ℕ) (st : CutterStage) (parts : List (List Block))
    → Made b limit l made (segments_left b limit l s st) → Division limit b l parts
    → made + (if has_more st then 1 else 0) ≤ length parts
least_pieces b limit l made s st parts m d =
    let a = ap length m.all ∙ length-append m.before (segments_left b limit l s st) in
    omega (arith, a, m.count, some_left b limit l s st, fewest limit b l parts d)

-- a piece is left as long as it is begun
left_same : (b limit : ℕ) (l : List Block) (s : ℕ) (st : CutterStage) → has_more st ≡ true
    → segments_left b limit l s st ≡ segments_left b limit l s Between
left_same b limit l s Between h = refl
left_same b limit l s (Plan p) h = refl
left_same b limit l s (Begin o) h = refl
left_same b limit l s (Write o w) h = refl
left_same b limit l s Done h = absurd cc
left_same b limit l s (Failed f) h = refl

-- nothing is known of a stage between pieces
untold : (P : Cursor → Type 0) (T : Cursor → ℕ) (b : ℕ) (l : List Block) (limit s : ℕ) (st : CutterStage)
    → (st ≡ Done) ⊎ (st ≡ Between) → ToldStage P T b l limit s st
untold P T b l limit s st (inl e) = rw e tt
untold P T b l limit s st (inr e) = rw e tt

-- a cutter after a piece more
pub told_more : (P : Cursor → Type 0) (T : Cursor → ℕ) (W : Cursor → Type 0) (b n limit made : ℕ) (l : List Block)
    (start : Cursor) (o : Outline) (old st : CutterStage) → has_more old ≡ true
    → ToldCutter P T b l limit made start old → SoundOutline W n limit start.block o → n ≡ length l
    → FirstPiece b l limit start.block o.piece.past → P o.next
    → (o.piece.past ≡ n → st ≡ Done) → (o.piece.past < n → st ≡ Between) → ToldCutter P T b l limit (made + 1) o.next st
told_more P T W b n limit made l start o old st more h sound same first place done between = record {
  place = place;
  cuts = rw (← sound.past) (made_more b limit l made start.block o.piece.past st
      (rw (left_same b limit l start.block old more) at h.cuts) first (λ e. done (omega (arith, e, same)))
      (λ e. between (omega (arith, e, same))));
  stage = untold P T b l limit o.next.block st (elim (cases_Bool (nat_lt o.piece.past n)) [
    | inl e ↦ inr (between (ltb-true o.piece.past n e))
    | inr e ↦ inl (done (let y = ltb-false o.piece.past n e in omega (arith, y, sound.end)))
  ]);
}

-- one that has refused
pub told_failed : (P : Cursor → Type 0) (T : Cursor → ℕ) (b limit made : ℕ) (l : List Block) (start : Cursor)
    (old : CutterStage) (f : PieceFault) → has_more old ≡ true → ToldCutter P T b l limit made start old
    → ToldCutter P T b l limit made start (Failed f)
told_failed P T b limit made l start old f more h =
    record { place = h.place; cuts = rw (left_same b limit l start.block old more) at h.cuts; stage = tt }
