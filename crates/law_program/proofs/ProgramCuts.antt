-- The pieces of an image, each in its file, are flashed in turn, or expanded together.
use Rattle.std.proofs.Common.{arith, ◌≡◌, ◌≢◌, ◌+◌, ◌*◌, ◌<◌, ◌≤◌, ◌^◌, ℕ, zero, suc, List, [], ◌∷◌, map, drop, length}
use Rattle.std.proofs.Common.{get_or, replicate, Option, Some, None, refl, sym, ◌∙◌, ap, subst}
use Rattle.std.specs.List.{AllByRecursion}
use Rattle.std.proofs.lemmas.List.{length-map, length-replicate}
use Rattle.abt_sparse.specs.Block.{Block, IsBlockSize, AreBlocks, cells, expansion, over}
use Rattle.abt_sparse.specs.Chunk.{Header, Chunk, classed}
use Rattle.abt_sparse.specs.Pieces.{AreCuts, IsPiece, pieces, flashed, flashed_in_turn}
use Rattle.abt_sparse.specs.Reading.{Image, outcome}
use Rattle.abt_sparse.specs.Runs.{segments}
use Rattle.abt_sparse.proofs.Bytewise.{expanded_long}
use Rattle.law_sparse.proofs.SparseCuts.{segments_are}
use Rattle.abt_sparse.proofs.Exactly.{spelled_is}
use Rattle.abt_sparse.proofs.Flashing.{each_piece, given_is, pieces_flashed}
use Rattle.abt_sparse.proofs.Lay.{length-over}
use Rattle.abt_sparse.proofs.Spelling.{spelled_blocks}
use Rattle.abt_sparse.proofs.Totals.{length-pieces}
use Rattle.sys_disk.specs.World.{World}
use Rattle.cmd_expand.specs.Overlaying.{LeadTo, IsImageOf}
use Rattle.law_program.specs.InTurn.{ExpandedTogether, FlashedInTurn, IsCuttable}
use Rattle.law_program.proofs.Chains.{LeadEach, flashed_each, same_file}

-- ---- the image that was cut

-- what laying its pieces takes
record IsLaid (size : ℕ) (blocks : List Block) : Type 0 where
  good : IsBlockSize size
  are : AreBlocks size blocks
  few : length blocks < 2 ^ 32

is_laid : (limit : ℕ) (x : List ℕ) (i : IsCuttable limit x) → IsLaid i.header.blk_sz (classed i.chunks)
is_laid limit x i =
    let bs = spelled_blocks x i.header i.chunks i.rest i.spelled in
    let fits = i.spelled.front.header.fits in
    record { good = fits.blk_sz; are = bs.0; few = omega (arith, bs.1, fits.total_blks) }

-- ---- flashed in turn

lead_each : (w : World) (paths : List (List ℕ)) (fs : List ℕ) → LeadTo w paths fs → LeadEach w paths fs
lead_each w [] [] e = tt
lead_each w [] (f ∷ fs) e = absurd (omega (arith, ap length e))
lead_each w (p ∷ ps) [] e = absurd (omega (arith, ap length e))
lead_each w (p ∷ ps) (f ∷ fs) e = (ap (λ l. get_or l 0 None) e, lead_each w ps fs (ap (drop 1) e))

pub flashed_in_turn_are : FlashedInTurn
flashed_in_turn_are limit x partition paths a c onto i h at each =
    let size = i.header.blk_sz in
    let blocks = classed i.chunks in
    let l = is_laid limit x i in
    flashed_each partition onto paths h.files a c at (lead_each a paths h.files h.lead) each
    ∙ ap (flashed_in_turn (a.holds onto)) h.hold
    ∙ pieces_flashed limit size (a.holds onto) blocks l.good l.are l.few i.room i.low
    ∙ ap (over (a.holds onto)) (sym (given_is x i.header i.chunks i.rest i.spelled))

-- ---- expanded together

-- the same paths lead to the same files
same_files : (w : World) (paths : List (List ℕ)) (fs gs : List ℕ) → LeadEach w paths fs → LeadEach w paths gs → gs ≡ fs
same_files w [] [] [] l m = refl
same_files w [] [] (g ∷ gs) l m = absurd m
same_files w [] (f ∷ fs) gs l m = absurd l
same_files w (p ∷ ps) [] gs l m = absurd l
same_files w (p ∷ ps) (f ∷ fs) [] l m = absurd m
same_files w (p ∷ ps) (f ∷ fs) (g ∷ gs) l m =
    ap (λ x. x ∷ gs) (same_file g f (sym m.0 ∙ l.0)) ∙ ap (λ xs. f ∷ xs) (same_files w ps fs gs l.1 m.1)

same_image : (h k : Header) (cs ds : List Chunk) (r s : List ℕ) → Image h cs r ≡ Image k ds s → h ≡ k
same_image h k cs ds r s e = cc

-- the shape that the first piece has is the image's
same_shape : (limit n b m size : ℕ) (xs : List (List ℕ)) → xs ≢ [] → AllByRecursion (IsImageOf n b) xs
    → AllByRecursion (IsPiece limit size m) xs → (n ≡ m) × (b ≡ size)
same_shape limit n b m size [] some own all = absurd (some refl)
same_shape limit n b m size (x ∷ xs) some own all =
    let one = own.0 in
    let piece = all.0 in
    let same = same_image _ _ _ _ _ _ (sym (spelled_is x one.header one.chunks one.rest one.spelled)
    ∙ spelled_is x _ piece.chunks [] piece.spelled) in
    (sym one.blocks ∙ ap (λ h. h.total_blks) same, sym one.size ∙ ap (λ h. h.blk_sz) same)

-- an image has a piece at least
some_cuts : (limit b : ℕ) (l : List Block) (ss : List (List Block)) → AreCuts limit b l ss → 0 < length ss
some_cuts limit b l [] cuts = absurd cuts
some_cuts limit b l (s ∷ ss) cuts = omega arith

some_pieces : (limit b : ℕ) (l : List Block) → IsBlockSize b → 64 + b ≤ limit → pieces limit b l ≢ []
some_pieces limit b l good room none =
    let four : 4 ≤ b = omega (arith, good.0, good.1) in
    let some = some_cuts limit b l (segments limit b l) (segments_are limit b l four room) in
    absurd (omega (arith, some, length-pieces limit b l, ap length none))

pub expanded_together : ExpandedTogether
expanded_together limit x output paths a c i h out =
    let size = i.header.blk_sz in
    let blocks = classed i.chunks in
    let l = is_laid limit x i in
    let same = same_files a paths h.files out.ins.files (lead_each a paths h.files h.lead)
    (lead_each a paths out.ins.files out.ins.there) in
    let hold : map a.holds out.ins.files ≡ pieces limit size blocks = ap (map a.holds) same ∙ h.hold in
    let shape = same_shape limit out.blocks out.size (length blocks) size (pieces limit size blocks)
    (some_pieces limit size blocks l.good i.room)
    (subst (AllByRecursion (IsImageOf out.blocks out.size)) hold out.ins.images)
    (each_piece limit size blocks l.good l.are l.few i.room i.low) in
    let cs = cells size blocks in
    let long : out.blocks * out.size ≡ length cs = ap (λ n. n * out.size) shape.0 ∙ ap (λ n. length blocks * n) shape.1
    ∙ sym (expanded_long size blocks l.good l.are) ∙ length-over (replicate (length cs) 0) cs
    ∙ length-replicate (length cs) 0 in
    out.holds ∙ ap (flashed_in_turn (replicate (out.blocks * out.size) 0)) hold
    ∙ pieces_flashed limit size (replicate (out.blocks * out.size) 0) blocks l.good l.are l.few i.room i.low
    ∙ ap (λ n. over (replicate n 0) cs) long
