-- What is left to deliver, piece by piece.
use Rattle.std.proofs.Common.{◌≡◌, ℕ, zero, suc, ◌+◌, ◌-◌, ◌*◌, ◌%◌, ◌≤◌, ◌⊎◌, nat_le, nat_lt, Bool, List, [], ◌∷◌}
use Rattle.std.proofs.Common.{◌++◌, length, map, take, drop, replicate, refl, sym, ap, ◌∙◌, arith, inl, inr, append-nil}
use Rattle.std.proofs.Common.{append_assoc, length-append, length-drop, take-append-drop}
use Rattle.std.specs.List.{AllByRecursion}
use Rattle.std.proofs.Math.Seq.{take-add}
use Rattle.std.proofs.lemmas.Bool.{cases_Bool, ltb-true, ltb-false}
use Rattle.std.proofs.lemmas.List.{length-take-le, length-replicate, take_at, drop_at, drop-map, drop-drop}
use Rattle.std.proofs.lemmas.List.Concat.{flat_map-append}
use Rattle.abt_sparse.specs.Block.{Block, Skip, AreBlocks, cells, over}
use Rattle.abt_sparse.specs.Runs.{weight, framed, frames, greedy, tail_parts, segments, joined}
use Rattle.abt_sparse.specs.Chunk.{piece}
use Rattle.abt_sparse.specs.Laws.{flashed_all}
use Rattle.abt_sparse.proofs.AreAll.{AreBlocks-append, AreBlocks-skips, AreBlocks-parts, AreBlocks-joined}
use Rattle.abt_sparse.proofs.Greedy.{joined-greedy}
use Rattle.abt_sparse.proofs.Lay.{nones, in_turn_from, over-nones, over_behind, over_then_nones, cells-append}
use Rattle.abt_sparse.proofs.Lay.{cells-framed, cells-skips, length-cells}
use Rattle.abt_pieces.specs.Contents.{written_in}
use Rattle.abt_pieces.specs.Cutter.{Made, segments_left}
use Rattle.abt_pieces.specs.Gather.{frame}
use Rattle.abt_pieces.specs.Outline.{piece_at, segment_at, first_part}
use Rattle.abt_pieces.specs.Plan.{between, FirstPiece}
use Rattle.abt_pieces.specs.declared.stage.CutterStage.{CutterStage}
use Rattle.abt_pieces.specs.declared.stage.CutterStage.TheVariants.{Between, Done}
use Rattle.abt_pieces.proofs.Counting.{written-append}
use Rattle.abt_pieces.proofs.Cutting.{piece_is}
use Rattle.abt_flash.specs.Delivering.{blocks_in_first, blocks_behind, blocks_up_to, pieces_behind}
use Rattle.abt_flash.specs.Going.{IsBehindPiece, frames_left, pieces_left}

-- ---- one piece more

-- the segments that are left: that of the next piece, and those after it
pub segments_more : (limit b : ℕ) (l : List Block) (s e : ℕ) (st : CutterStage) → FirstPiece b l limit s e
    → IsBehindPiece (length l) e st → segments_left b limit l s Between ≡ between l s e ∷ segments_left b limit l e st
segments_more limit b l s e st h at = h.cut ∙ ap (λ (x : List (List Block)). between l s e ∷ x) (left (drop e l) refl)
  where
    left : (rest : List Block) → drop e l ≡ rest
        → tail_parts (λ part. nat_le (weight b part) limit) rest ≡ segments_left b limit l e st
    left [] z = let d = at.done (let y = ap length z in omega (arith, y, length-drop e l)) in rw d refl
    left (x ∷ rest) z = let d = at.between (let y = ap length z in omega (arith, y, length-drop e l)) in rw (d, z) refl

nothing_behind : (e : ℕ) (l : List Block) → length l ≤ e → drop e l ≡ []
nothing_behind e l le = none (drop e l) (omega (arith, length-drop e l))
  where
    none : (x : List Block) → length x ≡ 0 → x ≡ []
    none [] z = refl
    none (y ∷ x) z = absurd (omega arith)

-- they are the blocks that are left
pub joined_left : (limit b : ℕ) (l : List Block) (e : ℕ) (st : CutterStage) → (st ≡ Between)
    ⊎ ((st ≡ Done) × (length l ≤ e)) → joined (segments_left b limit l e st) ≡ drop e l
joined_left limit b l e st (inl d) = rw d (joined-greedy (λ part. nat_le (weight b part) limit) (drop e l) [])
joined_left limit b l e st (inr d) = rw (d.0) (sym (nothing_behind e l d.1))

pub stands_left : (n e : ℕ) (st : CutterStage) → IsBehindPiece n e st → (st ≡ Between) ⊎ ((st ≡ Done) × (n ≤ e))
stands_left n e st at = elim (cases_Bool (nat_lt e n)) [
  | inl t ↦ inl (at.between (ltb-true e n t))
  | inr t ↦ let le = ltb-false e n t in inr (at.done le, le)
]

between_long : (l : List Block) (s e : ℕ) → s ≤ e → e ≤ length l → length (between l s e) ≡ e - s
between_long l s e order within = length-take-le (e - s) (drop s l) (omega (arith, within, length-drop s l))

pub frames_more : (limit b : ℕ) (l : List Block) (s e : ℕ) (st : CutterStage) → FirstPiece b l limit s e
    → IsBehindPiece (length l) e st → frames_left limit b l s Between ≡ frame l s e ∷ frames_left limit b l e st
frames_more limit b l s e st h at =
    let rest = segments_left b limit l e st in
    let behind : length (joined rest) ≡ length l - e =
    ap length (joined_left limit b l e st (stands_left (length l) e st at)) ∙ length-drop e l in
    let end : s + length (between l s e) ≡ e = let z = between_long l s e h.order h.within in
    omega (arith, z, h.order) in
    ap (frames s) (segments_more limit b l s e st h at)
    ∙ ap (λ (n : ℕ). framed s (between l s e) n ∷ frames (s + length (between l s e)) rest) behind
    ∙ ap (λ (n : ℕ). frame l s e ∷ frames n rest) end

pub pieces_more : (limit b : ℕ) (l : List Block) (s e : ℕ) (st : CutterStage) → FirstPiece b l limit s e
    → IsBehindPiece (length l) e st → pieces_left limit b l s Between ≡ piece_at b limit l s
    ∷ pieces_left limit b l e st
pieces_more limit b l s e st h at =
    ap (map (piece b)) (frames_more limit b l s e st h at)
    ∙ ap (λ (x : List ℕ). x ∷ pieces_left limit b l e st) (piece_is b limit l s e h)

-- ---- how much of it is written

pub skips_written : (n : ℕ) → written_in (replicate n Skip) ≡ 0
skips_written zero = refl
skips_written (suc n) = let z = skips_written n in omega (arith, z)

pub frame_written : (l : List Block) (s e : ℕ) → written_in (frame l s e) ≡ written_in (between l s e)
frame_written l s e =
    let one = written-append (replicate s Skip ++ between l s e) (replicate (length l - e) Skip) in
    let two = written-append (replicate s Skip) (between l s e) in
    let front = skips_written s in
    let back = skips_written (length l - e) in
    omega (arith, one, two, front, back)

pub written_more : (l : List Block) (s e : ℕ) → s ≤ e
    → written_in (drop s l) ≡ written_in (frame l s e) + written_in (drop e l)
written_more l s e order =
    let parts : drop s l ≡ between l s e ++ drop (e - s) (drop s l) = sym (take-append-drop (e - s) (drop s l)) in
    let rest : drop (e - s) (drop s l) ≡ drop e l = drop-drop (e - s) s l
    ∙ ap (λ (n : ℕ). drop n l) (let z : s + (e - s) ≡ e = omega (arith, order) in z) in
    let both = ap written_in (parts ∙ ap (λ (x : List Block). between l s e ++ x) rest)
    ∙ written-append (between l s e) (drop e l) in
    let here = frame_written l s e in
    omega (arith, both, here)

-- ---- after the first pieces

joined-both : (xs ys : List (List Block)) → joined (xs ++ ys) ≡ joined xs ++ joined ys
joined-both xs ys = flat_map-append (λ part. part) xs ys

-- where a cutter is, by how many pieces it has made
pub record Behind (limit b : ℕ) (l : List Block) (made s : ℕ) (st : CutterStage) : Type 0 where
  pub blocks : blocks_in_first limit b l made ≡ s
  pub rest : drop made (segments limit b l) ≡ segments_left b limit l s st

pub behind : (limit b : ℕ) (l : List Block) (made s : ℕ) (st : CutterStage)
    → Made b limit l made (segments_left b limit l s st) → (st ≡ Between) ⊎ ((st ≡ Done) × (length l ≤ s))
    → s ≤ length l → Behind limit b l made s st
behind limit b l made s st m at within =
    let rest = segments_left b limit l s st in
    let front : take made (segments limit b l) ≡ m.before = ap (take made) m.all ∙ take_at m.before rest made m.count in
    let all : joined m.before ++ joined rest ≡ l = sym (joined-both m.before rest) ∙ ap joined (sym m.all)
    ∙ joined-greedy (λ part. nat_le (weight b part) limit) l [] in
    let left = ap length (joined_left limit b l s st at) in
    let long = ap length all in
    let sum = length-append (joined m.before) (joined rest) in
    let here : length (joined m.before) ≡ s = omega (arith, left, long, sum, within, length-drop s l) in
    record {
      blocks = ap (λ (x : List (List Block)). length (joined x)) front ∙ here;
      rest = ap (drop made) m.all ∙ drop_at m.before rest made m.count;
    }

frames-drop : (i before : ℕ) (parts : List (List Block))
    → drop i (frames before parts) ≡ frames (before + length (joined (take i parts))) (drop i parts)
frames-drop zero before parts = ap (λ (n : ℕ). frames n parts) (let e : before ≡ before + 0 = omega arith in e)
frames-drop (suc i) before [] = refl
frames-drop (suc i) before (s ∷ ss) = frames-drop i (before + length s) ss
    ∙ ap (λ (n : ℕ). frames n (drop i ss)) (let e : before + length s + length (joined (take i ss)) ≡ before + length
    (s ++ joined (take i ss)) = omega (arith, length-append s (joined (take i ss))) in e)

pub pieces_behind_are : (limit b : ℕ) (l : List Block) (made s : ℕ) (st : CutterStage) → Behind limit b l made s st
    → pieces_behind limit b l made ≡ pieces_left limit b l s st
pieces_behind_are limit b l made s st h =
    let parts = segments limit b l in
    drop-map (piece b) made (frames 0 parts)
    ∙ ap (map (piece b)) (frames-drop made 0 parts
    ∙ ap (λ (n : ℕ). frames n (drop made parts)) (let e : 0 + length (joined (take made parts)) ≡ s = omega
    (arith, h.blocks) in e) ∙ ap (frames s) h.rest)

drop_good : (b : ℕ) (s : ℕ) (l : List Block) → AreBlocks b l → AreBlocks b (drop s l)
drop_good b s l h = (AreBlocks-parts b (take s l) (drop s l) (rw (take-append-drop s l) h)).1

-- flashing what is left writes the blocks that are left
pub laid_left : (limit b : ℕ) (p : List ℕ) (l : List Block) (s : ℕ) (st : CutterStage) → b % 4 ≡ 0 → AreBlocks b l
    → (st ≡ Between) ⊎ ((st ≡ Done) × (length l ≤ s))
    → flashed_all b p (frames_left limit b l s st) ≡ over p (cells b (blocks_behind s l))
laid_left limit b p l s st four h at =
    let rest = segments_left b limit l s st in
    let j = joined_left limit b l s st at in
    let good : AllByRecursion (AreBlocks b) rest = AreBlocks-joined b rest (rw j (drop_good b s l h)) in
    let skips : over p (cells b (replicate s Skip)) ≡ p = ap (over p) (cells-skips b s) ∙ over-nones p (s * b) in
    ap (λ (q : List ℕ). flashed_all b q (frames s rest)) (sym skips)
    ∙ ap (λ (n : ℕ). flashed_all b (over p (cells b (replicate s Skip))) (frames n rest))
    (sym (length-replicate s Skip))
    ∙ in_turn_from b p (replicate s Skip) rest four (AreBlocks-skips b s) good
    ∙ ap (λ (m : List Block). over p (cells b (replicate s Skip ++ m))) j

-- there is a piece left before one is made
greedy_some : (fits : List Block → Bool) (part rest : List Block) → 1 ≤ length (greedy fits part rest)
greedy_some fits part [] = omega arith
greedy_some fits part (x ∷ rest) =
    elim (cases_Bool (fits (part ++ x ∷ []))) [
      | inl e ↦ rw (e, length)
          (greedy_some fits (part ++ x ∷ []) rest)
      | inr e ↦ rw (e, length) (omega arith)
    ]

pub one_left : (limit b : ℕ) (l : List Block) (made s : ℕ) → Made b limit l made (segments_left b limit l s Between)
    → made + 1 ≤ length (segments limit b l)
one_left limit b l made s m =
    let rest = segments_left b limit l s Between in
    let a = ap length m.all ∙ length-append m.before rest in
    let some = greedy_some (λ part. nat_le (weight b part) limit) [] (drop s l) in
    omega (arith, a, m.count, some)

pub none_left : (limit b : ℕ) (l : List Block) (made s : ℕ) → Made b limit l made (segments_left b limit l s Done)
    → made ≡ length (segments limit b l)
none_left limit b l made s m = let a = ap length m.all ∙ length-append m.before [] in omega (arith, a, m.count)

-- the first piece that is left is the next one
pub pieces_front : (limit b : ℕ) (l : List Block) (s : ℕ) → s ≤ length l → (rest : List (List ℕ))
    × (pieces_left limit b l s Between ≡ piece_at b limit l s ∷ rest)
pieces_front limit b l s le = go (greedy (λ part. nat_le (weight b part) limit) [] (drop s l)) refl
  where
    go : (gs : List (List Block)) → greedy (λ part. nat_le (weight b part) limit) [] (drop s l) ≡ gs
        → (rest : List (List ℕ)) × (pieces_left limit b l s Between ≡ piece_at b limit l s ∷ rest)
    go [] e = absurd (let z = greedy_some (λ part. nat_le (weight b part) limit) [] (drop s l) in
        let y = ap length e in omega (arith, y, z))
    go (g ∷ gs) e =
        let seg : segment_at b limit l s ≡ g = ap first_part e in
        let all : joined (g ∷ gs) ≡ drop s l = ap joined (sym e)
        ∙ joined-greedy (λ part. nat_le (weight b part) limit) (drop s l) [] in
        let sum = ap length all in
        let behind_it : length (joined gs) ≡ length l - (s + length g) =
        omega (arith, sum, length-append g (joined gs), length-drop s l, le) in
        let here : piece b (framed s g (length (joined gs))) ≡ piece_at b limit l s =
        ap (λ (n : ℕ). piece b (framed s g n)) behind_it
        ∙ sym (ap (λ (x : List Block). piece b (framed s x (length l - (s + length x)))) seg) in (
          map (piece b) (frames (s + length g) gs),
          ap (λ (parts : List (List Block)). map (piece b) (frames s parts)) e
              ∙ ap (λ (x : List ℕ). x ∷ map (piece b) (frames (s + length g) gs)) here,
        )

-- ---- what is written so far

laid_on : (b : ℕ) (p : List ℕ) (front seg : List Block) (t : ℕ) → b % 4 ≡ 0 → AreBlocks b front
    → over (over p (cells b front)) (cells b (framed (length front) seg t)) ≡ over p (cells b (front ++ seg))
laid_on b p front seg t four h =
    let long : length front * b ≡ length (cells b front) = sym (length-cells b front four h) in
    ap (over (over p (cells b front))) (cells-framed b (length front) seg t
    ∙ ap (λ (n : ℕ). nones n ++ (cells b seg ++ nones (t * b))) long)
    ∙ over_behind p (cells b front) (cells b seg ++ nones (t * b))
    ∙ ap (over p) (sym (append_assoc (cells b front) (cells b seg) (nones (t * b))))
    ∙ over_then_nones p (cells b front ++ cells b seg) (t * b)
    ∙ ap (over p) (sym (cells-append b front seg))

behind_good : (b n : ℕ) (l : List Block) → AreBlocks b l → AreBlocks b (blocks_behind n l)
behind_good b n l h = AreBlocks-append b (replicate n Skip) (drop n l) (AreBlocks-skips b n) (drop_good b n l h)

up_to_good : (b n end : ℕ) (l : List Block) → AreBlocks b l → AreBlocks b (blocks_up_to n end l)
up_to_good b n end l h =
    (AreBlocks-parts b (take end (blocks_behind n l)) (drop end (blocks_behind n l))
    (rw (take-append-drop end (blocks_behind n l)) (behind_good b n l h))).0

drop_behind : (n s : ℕ) (l : List Block) → n ≤ s → drop s (blocks_behind n l) ≡ drop s l
drop_behind n s l le =
    let sum : s ≡ n + (s - n) = omega (arith, le) in
    ap (λ (k : ℕ). drop k (blocks_behind n l)) sum
    ∙ sym (drop-drop (s - n) n (blocks_behind n l))
    ∙ ap (drop (s - n)) (drop_at (replicate n Skip) (drop n l) n (length-replicate n Skip))
    ∙ drop-drop (s - n) n l
    ∙ ap (λ (k : ℕ). drop k l) (sym sum)

long_up_to : (n s : ℕ) (l : List Block) → n ≤ s → s ≤ length l → length (blocks_up_to n s l) ≡ s
long_up_to n s l order within =
    length-take-le s (blocks_behind n l) (omega (
      arith,
      order,
      within,
      length-append (replicate n Skip) (drop n l),
      length-replicate n Skip,
      length-drop n l,
    ))

-- nothing before the first piece, and one piece more
pub laid_first : (b : ℕ) (p : List ℕ) (l : List Block) (s : ℕ) → p ≡ over p (cells b (blocks_up_to s s l))
laid_first b p l s =
    sym (ap (λ (x : List Block). over p (cells b x))
    (take_at (replicate s Skip) (drop s l) s (length-replicate s Skip)) ∙ ap (over p) (cells-skips b s)
    ∙ over-nones p (s * b))

pub laid_next : (b : ℕ) (p now new : List ℕ) (l : List Block) (first s e : ℕ) → b % 4 ≡ 0 → AreBlocks b l → first ≤ s
    → s ≤ e → e ≤ length l
    → now ≡ over p (cells b (blocks_up_to first s l)) → new ≡ over now (cells b (frame l s e))
    → new ≡ over p (cells b (blocks_up_to first e l))
laid_next b p now new l first s e four good from order within before here =
    let front = blocks_up_to first s l in
    let long : length front ≡ s = long_up_to first s l from (omega (arith, order, within)) in
    let parts : blocks_up_to first e l ≡ front ++ between l s e =
    ap (λ (k : ℕ). take k (blocks_behind first l)) (let z : e ≡ s + (e - s) = omega (arith, order) in z)
    ∙ take-add s (e - s) (blocks_behind first l)
    ∙ ap (λ (x : List Block). front ++ take (e - s) x) (drop_behind first s l from) in
    here ∙ ap (λ (q : List ℕ). over q (cells b (frame l s e))) before
    ∙ ap (λ (k : ℕ). over (over p (cells b front)) (cells b (framed k (between l s e) (length l - e)))) (sym long)
    ∙ laid_on b p front (between l s e) (length l - e) four (up_to_good b first s l good)
    ∙ ap (λ (x : List Block). over p (cells b x)) (sym parts)

-- where the next piece ends
pub first_more : (limit b : ℕ) (l : List Block) (made s e : ℕ) → Behind limit b l made s Between
    → FirstPiece b l limit s e → blocks_in_first limit b l (made + 1) ≡ e
first_more limit b l made s e h piece =
    let all = segments limit b l in
    let rest = tail_parts (λ part. nat_le (weight b part) limit) (drop e l) in
    let parts : take (made + 1) all ≡ take made all ++ between l s e ∷ [] = take-add made 1 all
    ∙ ap (λ (x : List (List Block)). take made all ++ take 1 x) (h.rest ∙ piece.cut) in
    let sum = ap (λ (x : List (List Block)). length (joined x)) parts
    ∙ ap length (joined-both (take made all) (between l s e ∷ []))
    ∙ length-append (joined (take made all)) (joined (between l s e ∷ [])) in
    let one : length (joined (between l s e ∷ [])) ≡ length (between l s e) = ap length (append-nil (between l s e)) in
    let long = between_long l s e piece.order piece.within in
    let before = h.blocks in
    omega (arith, sum, one, long, before, piece.order)
