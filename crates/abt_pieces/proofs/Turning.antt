-- The next piece is the one after those that are made.
use Rattle.std.proofs.Common.{◌≡◌, ℕ, zero, suc, ◌+◌, ◌-◌, nat_le, Bool, List, [], ◌∷◌, ◌++◌, length, map, take, drop}
use Rattle.std.proofs.Common.{refl, sym, ap, ◌∙◌, arith, length-append, length-drop}
use Rattle.std.proofs.lemmas.List.{length-take-le, take_at, drop_at, drop-map}
use Rattle.std.proofs.lemmas.List.Concat.{flat_map-append}
use Rattle.abt_sparse.specs.Block.{Block}
use Rattle.abt_sparse.specs.Runs.{weight, framed, frames, tail_parts, segments, joined}
use Rattle.abt_sparse.specs.Chunk.{piece}
use Rattle.abt_sparse.specs.Pieces.{pieces}
use Rattle.abt_sparse.proofs.Greedy.{joined-greedy}
use Rattle.abt_pieces.specs.Cutter.{Made, segments_left}
use Rattle.abt_pieces.specs.Gather.{frame}
use Rattle.abt_pieces.specs.Plan.{between, FirstPiece}
use Rattle.abt_pieces.specs.Turn.{HasAt}
use Rattle.abt_pieces.specs.declared.stage.CutterStage.TheVariants.{Between}

frames-drop : (i before : ℕ) (parts : List (List Block))
    → drop i (frames before parts) ≡ frames (before + length (joined (take i parts))) (drop i parts)
frames-drop zero before parts = ap (λ (n : ℕ). frames n parts) (let e : before ≡ before + 0 = omega arith in e)
frames-drop (suc i) before [] = refl
frames-drop (suc i) before (s ∷ ss) = frames-drop i (before + length s) ss
    ∙ ap (λ (n : ℕ). frames n (drop i ss)) (let e : before + length s + length (joined (take i ss)) ≡ before + length
    (s ++ joined (take i ss)) = omega (arith, length-append s (joined (take i ss))) in e)

pub in_turn : (b limit made s e : ℕ) (l : List Block) → Made b limit l made (segments_left b limit l s Between)
    → FirstPiece b l limit s e → HasAt (pieces limit b l) made (piece b (frame l s e))
in_turn b limit made s e l m f =
    let fits : List Block → Bool = λ part. nat_le (weight b part) limit in
    let first = between l s e in
    let tail = tail_parts fits (drop e l) in
    let parts = segments limit b l in
    let all : parts ≡ m.before ++ (first ∷ tail) = m.all ∙ ap (λ (ps : List (List Block)). m.before ++ ps) f.cut in
    let behind : drop made parts ≡ first ∷ tail = ap (drop made) all ∙ drop_at m.before (first ∷ tail) made m.count in
    let front : take made parts ≡ m.before = ap (take made) all ∙ take_at m.before (first ∷ tail) made m.count in
    let whole : joined parts ≡ l = joined-greedy fits l [] in
    let left : joined (first ∷ tail) ≡ drop s l = ap joined (sym f.cut) ∙ joined-greedy fits (drop s l) [] in
    let both : joined parts ≡ joined m.before ++ joined (first ∷ tail) =
    ap joined all ∙ flat_map-append (λ part. part) m.before (first ∷ tail) in
    let long : length first ≡ e - s = length-take-le (e - s) (drop s l) (omega (arith, f.within, length-drop s l)) in
    let here : length (joined m.before) ≡ s =
    omega (
      arith,
      ap length whole,
      ap length both,
      length-append (joined m.before) (joined (first ∷ tail)),
      ap length left,
      length-drop s l,
      f.order,
      f.within,
    ) in
    let rest : length (joined tail) ≡ length l - e =
    omega (arith, ap length left, length-append first (joined tail), long, length-drop s l, f.order, f.within) in
    record {
      rest = map (piece b) (frames (s + length first) tail);
      at = drop-map (piece b) made (frames 0 parts)
          ∙ ap (map (piece b)) (frames-drop made 0 parts
          ∙ ap (λ (n : ℕ). frames n (drop made parts)) (let z : 0 + length (joined (take made parts)) ≡ s = omega
          (arith, ap (λ (ps : List (List Block)). length (joined ps)) front, here) in z) ∙ ap (frames s) behind)
          ∙ ap (λ (n : ℕ). piece b (framed s first n) ∷ map (piece b) (frames (s + length first) tail)) rest;
    }
