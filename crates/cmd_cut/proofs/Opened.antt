-- What is cut, as it was opened.
use Rattle.std.proofs.Common.{◌+◌, ◌≡◌, ℕ, ◌<◌, ◌≤◌, List, Some, None, refl, sym, ◌∙◌, ap, subst, length}
use Rattle.std.specs.Prelude.{IfErr, OnOk, Result, Ok, Err, Option}
use Rattle.abt_sparse.specs.declared.fault.SparseFault.{SparseFault}
use Rattle.abt_sparse.specs.Block.{Block, classify}
use Rattle.abt_sparse.specs.Chunk.{Header, Chunk, classed}
use Rattle.abt_sparse.specs.Fails.{Fails, IsOutcome, Spells}
use Rattle.abt_sparse.specs.Pieces.{pieces}
use Rattle.abt_sparse.specs.Reading.{Outcome, Image, Fault, outcome}
use Rattle.abt_runs.specs.Raw.{RefusedRaw}
use Rattle.abt_runs.specs.Sparse.{SparseOpened, blocks_in, sparse_list}
use Rattle.abt_runs.specs.Verdict.{Refuses}
use Rattle.abt_runs.specs.declared.part.RunFault.TheVariants as of_runs
use Rattle.sys_disk.specs.Counts.{Cause, reading}
use Rattle.sys_disk.specs.World.{World, OpenFiles}
use Rattle.cmd_common_sparse.specs.Blocks.{IsRawBlockSize, RefusedCut}
use Rattle.cmd_common_sparse.specs.PieceNames.{Naming}
use Rattle.cmd_common_sparse.specs.declared.fault.SparseCommandFault.{SparseCommandFault}
use Rattle.cmd_common_sparse.specs.declared.fault.SparseCommandFault.TheVariants as faults
use Rattle.cmd_cut.specs.Cutting.{CutsAll, CutsImage, CutsSoFar, IsImageOfBlocks, IsUncutSparse, StopsCut}
use Rattle.cmd_cut.specs.Cutting.{StopsImage, no_cut, no_room, stopped, unread}

pub if_err : {X E : Type 0} (r : Result X E) (P Q : E → Type 0) → ((e : E) → P e → Q e) → IfErr r P → IfErr r Q
if_err (Ok x) P Q go is = tt
if_err (Err e) P Q go is = go e is

-- an image of these blocks was cut, or not
pub cut_of : {X E : Type 0} (r : Result X E) (raw : Option ℕ) (size size' limit limit' : ℕ) (l l' : List Block)
    (names : Naming) (x : List ℕ) (h h' : OpenFiles) (a b : World) (shows : ℕ → ℕ → List Block → Type 0)
    → IsImageOfBlocks raw size l x
    → 64 + size ≤ limit
    → size' ≡ size → limit' ≡ limit → l' ≡ l → OnOk r (CutsAll names (pieces limit' size' l') h h' a b
    (shows limit' size' l'))
    → OnOk r (CutsImage raw limit names x h h' a b (shows limit))
cut_of (Err e) raw size size' limit limit' l l' names x h h' a b shows image granted sized limited listed all = tt
cut_of (Ok y) raw size size' limit limit' l l' names x h h' a b shows image granted sized limited listed all = record {
  size = size;
  blocks = l;
  image = image;
  granted = granted;
  all = subst (λ (n : ℕ). CutsAll names (pieces n size l) h h' a b (shows n size l)) limited
      (subst (λ (n : ℕ). CutsAll names (pieces limit' n l) h h' a b (shows limit' n l)) sized
      (subst (λ (k : List Block). CutsAll names (pieces limit' size' k) h h' a b (shows limit' size' k)) listed all));
}

pub stop_of : (Unprinted : Type 0) (fault : SparseCommandFault) (raw : Option ℕ) (size size' limit limit' : ℕ)
    (l l' : List Block)
    (names : Naming) (x : List ℕ) (h h' : OpenFiles) (a b : World) (Failed : Cause → Type 0) (Same : Type 0)
    → IsImageOfBlocks raw size l x → size' ≡ size → limit' ≡ limit → l' ≡ l
    → StopsCut fault Failed Unprinted (λ n m. CutsSoFar names (pieces limit' size' l') n m h h' a b)
    → StopsImage raw limit x fault Failed Unprinted Same (λ ps n m. CutsSoFar names ps n m h h' a b)
stop_of Unprinted fault raw size size' limit limit' l l' names x h h' a b Failed Same image sized limited listed why =
    stopped size l image
    (subst (λ (n : ℕ). StopsCut fault Failed Unprinted (λ k m. CutsSoFar names (pieces n size l) k m h h' a b)) limited
    (subst (λ (n : ℕ). StopsCut fault Failed Unprinted (λ k m. CutsSoFar names (pieces limit' n l) k m h h' a b)) sized
    (subst (λ (bs : List Block). StopsCut fault Failed Unprinted (λ k m. CutsSoFar names
    (pieces limit' size' bs) k m h h' a b))
    listed why)))

-- ---- a raw one

pub raw_image : (size : ℕ) (x : List ℕ) → IsRawBlockSize size → IsImageOfBlocks (Some size) size (classify size x) x
raw_image size x sized = (refl, sized, refl)

pub raw_uncut : (Unprinted : Type 0) (fault told : SparseCommandFault) (size long limit : ℕ) (x : List ℕ)
    (Failed : Cause → Type 0) (Same : Type 0)
    (Cut : List (List ℕ) → ℕ → ℕ → Type 0) → told ≡ fault → long ≡ length x → RefusedCut fault size long limit → Same
    → StopsImage (Some size) limit x told Failed Unprinted Same Cut
raw_uncut Unprinted (faults.Run f) told size long limit x Failed Same Cut is sized why same =
    no_cut f is (subst (λ (n : ℕ). RefusedRaw f size n) sized why) same
raw_uncut Unprinted (faults.Piece f) told size long limit x Failed Same Cut is sized why same =
    no_room size refl (is ∙ ap faults.Piece why.0) why.1 same
raw_uncut Unprinted (faults.Sparse f) told size long limit x Failed Same Cut is sized why same = absurd why
raw_uncut Unprinted (faults.Flash f) told size long limit x Failed Same Cut is sized why same = absurd why
raw_uncut Unprinted (faults.Verify f) told size long limit x Failed Same Cut is sized why same = absurd why
raw_uncut Unprinted (faults.OtherBlocks i) told size long limit x Failed Same Cut is sized why same = absurd why
raw_uncut Unprinted (faults.OtherCut i) told size long limit x Failed Same Cut is sized why same = absurd why
raw_uncut Unprinted (faults.Host f) told size long limit x Failed Same Cut is sized why same = absurd why

-- ---- a sparse one

spelled_by : (x : List ℕ) (header : Header) (chunks : List Chunk) (rest : List ℕ) → IsOutcome x (outcome x)
    → outcome x ≡ Image header chunks rest → Spells x header chunks rest
spelled_by x header chunks rest is same = subst (λ o. IsOutcome x o) same is

pub sparse_image : (header : Header) (long image : ℕ) (x : List ℕ) → IsOutcome x (outcome x)
    → SparseOpened header long image x → IsImageOfBlocks None header.blk_sz (sparse_list x) x
sparse_image header long image x is o = record {
  header = header;
  chunks = o.chunks;
  rest = o.rest;
  spelled = spelled_by x header o.chunks o.rest is o.is_image;
  sized = refl;
  holds = ap blocks_in o.is_image;
}

pub fails_by : (x : List ℕ) (f : SparseFault) (o : Outcome) → IsOutcome x o → Refuses (of_runs.Sparse f) o
    → (given : List (Option ℕ)) × Fails x f given
fails_by x f (Fault g cells) is same = (cells, subst (λ e. Fails x e cells) (sym same) is)
fails_by x f (Image h cs rest) is refused = absurd refused

pub sparse_uncut : (Unprinted : Type 0) (fault told : SparseCommandFault) (limit : ℕ) (x : List ℕ) (r r' : ℕ)
    (Failed : Cause → Type 0) (Same : Type 0)
    (Cut : List (List ℕ) → ℕ → ℕ → Type 0) → IsOutcome x (outcome x) → told ≡ fault → IsUncutSparse fault limit x r r'
    → (r < r' → Failed reading) → Same → StopsImage None limit x told Failed Unprinted Same Cut
sparse_uncut Unprinted (faults.Run (of_runs.Sparse f)) told limit x r r' Failed Same Cut all is why fails same =
    no_cut (of_runs.Sparse f) is (fails_by x f (outcome x) all why) same
sparse_uncut Unprinted (faults.Run (of_runs.Read d)) told limit x r r' Failed Same Cut all is why fails same =
    unread d is (fails why) same
sparse_uncut Unprinted (faults.Run of_runs.TooLarge) told limit x r r' Failed Same Cut all is why fails same = absurd
    why
sparse_uncut Unprinted (faults.Run of_runs.SourceChanged) told limit x r r' Failed Same Cut all is why fails same =
    absurd why
sparse_uncut Unprinted (faults.Run (of_runs.BadBlock n)) told limit x r r' Failed Same Cut all is why fails same =
    absurd why
sparse_uncut Unprinted (faults.Piece f) told limit x r r' Failed Same Cut all is why fails same =
    no_room why.header.blk_sz (
      classed why.chunks,
      record {
        header = why.header;
        chunks = why.chunks;
        rest = why.rest;
        spelled = spelled_by x why.header why.chunks why.rest all why.is_image;
        sized = refl;
        holds = refl;
      },
    )
    (is ∙ ap faults.Piece why.told) why.short same
sparse_uncut Unprinted (faults.Sparse f) told limit x r r' Failed Same Cut all is why fails same = absurd why
sparse_uncut Unprinted (faults.Flash f) told limit x r r' Failed Same Cut all is why fails same = absurd why
sparse_uncut Unprinted (faults.Verify f) told limit x r r' Failed Same Cut all is why fails same = absurd why
sparse_uncut Unprinted (faults.OtherBlocks i) told limit x r r' Failed Same Cut all is why fails same = absurd why
sparse_uncut Unprinted (faults.OtherCut i) told limit x r r' Failed Same Cut all is why fails same = absurd why
sparse_uncut Unprinted (faults.Host f) told limit x r r' Failed Same Cut all is why fails same = absurd why
