-- Which file a refusal is told of.
use Rattle.std.proofs.Common.{◌≡◌, ◌+◌, ◌*◌, ◌^◌, ◌<◌, ℕ, List, [], Option, Some, None, refl, sym, ◌∙◌, ap, subst}
use Rattle.std.specs.Prelude.{IfErr, IsErrAnd, IsOk, Result, Ok, Err}
use Rattle.abt_sparse.specs.Block.{Block}
use Rattle.abt_sparse.specs.Fails.{Fails, HeaderFails, ChunkFails, IsOutcome, no_image, bad_header, cut_header}
use Rattle.abt_sparse.specs.Fails.{bad_chunk, too_few, no_magic, other_major, short_header, short_chunk_header}
use Rattle.abt_sparse.specs.Fails.{bad_block_size, no_header, unknown_type, wrong_length, too_many, cut_short}
use Rattle.abt_sparse.specs.Chunk.{Header}
use Rattle.abt_sparse.specs.Number.{number_of}
use Rattle.abt_sparse.specs.Pieces.{pieces}
use Rattle.abt_sparse.specs.Reading.{outcome}
use Rattle.abt_sparse.specs.declared.fault.SparseFault.{SparseFault}
use Rattle.abt_runs.specs.Raw.{RefusedRaw}
use Rattle.abt_runs.specs.declared.part.RunFault.{RunFault}
use Rattle.abt_runs.specs.declared.part.RunFault.TheVariants as of_runs
use Rattle.sys_refusals.specs.Blamed.{TellsOf, TellsRead, place_on}
use Rattle.sys_refusals.specs.Paths.{path_out}
use Rattle.sys_refusals.specs.declared.place.FileArg.{FileArg}
use Rattle.sys_refusals.specs.declared.refusal.HostFault.{HostFault}
use Rattle.sys_refusals.specs.declared.refusal.Sides.{Sides}
use Rattle.sys_refusals.specs.declared.told.Side.TheVariants as sides
use Rattle.sys_refusals.proofs.Blames.{call≢output, input≢output, reads_call, tells_call, tells_refused, words≢output}
use Rattle.sys_disk.specs.Counts.{Counts}
use Rattle.sys_disk.specs.World.{World, OpenFiles, OpensFile, counting}
use Rattle.cmd_common_sparse.specs.Blocks.{RefusedCut}
use Rattle.cmd_common_sparse.specs.Fault.{side_of, side_of_number}
use Rattle.cmd_common_sparse.specs.PieceNames.{Naming}
use Rattle.cmd_common_sparse.specs.declared.fault.SparseCommandFault.{SparseCommandFault}
use Rattle.cmd_common_sparse.specs.declared.fault.SparseCommandFault.TheVariants as faults
use Rattle.cmd_cut.specs.Cutting.{CutsSoFar, FirstStand, IsImageOfBlocks, IsUncutSparse, TellsOfImage, TellsOfNext}
use Rattle.cmd_cut.specs.Cutting.{TellsOfPiece}
use Rattle.cmd_cut.proofs.Opened.{fails_by}
use Rattle.cmd_cut.proofs.Wholes.{cuts_between, first_stand}

-- ---- a fault of files, of which nothing is said

pub tells_host : (fault : SparseCommandFault) (h : HostFault) (place input output : Option FileArg)
    → fault ≡ faults.Host h → TellsOf (side_of fault) place input output
tells_host fault h place input output is = tells_call (side_of fault) place input output (ap side_of is)

pub reads_host : (fault : SparseCommandFault) (h : HostFault) (place input : Option FileArg) → fault ≡ faults.Host h
    → TellsRead (side_of fault) place input
reads_host fault h place input is = reads_call (side_of fault) place input (ap side_of is)

pub host_output : (fault : SparseCommandFault) (h : HostFault) → fault ≡ faults.Host h → side_of fault ≡ sides.Output
    → ⊥
host_output fault h is at = call≢output (sym (ap side_of is) ∙ at)

-- ---- an output that was brought to its end, or not

pub tells_end : {X Y R : Type 0} (fault : R → SparseCommandFault) (place : R → Option FileArg)
    (answer : Result X SparseCommandFault) (result : Result Y R) (input output : Option FileArg)
    → IfErr answer (λ f. IfErr result (λ r. fault r ≡ f))
    → IfErr answer (λ f. IfErr result (λ r. TellsOf (side_of f) (place r) input output))
    → (IsOk answer → IfErr result (λ r. (h : HostFault) × (fault r ≡ faults.Host h)))
    → IfErr result (λ r. TellsOf (side_of (fault r)) (place r) input output)
tells_end fault place answer (Ok y) input output same told host = tt
tells_end fault place (Ok x) (Err r) input output same told host =
    let h = host refl in tells_host (fault r) h.0 (place r) input output h.1
tells_end fault place (Err f) (Err r) input output same told host =
    subst (λ g. TellsOf (side_of g) (place r) input output) (sym same) told

-- a file could not be opened
pub tells_given : {X R : Type 0} (fault : R → SparseCommandFault) (place : R → Option FileArg) (result : Result X R)
    (h : HostFault) (input output : Option FileArg) → IsErrAnd result (λ r. fault r ≡ faults.Host h)
    → IfErr result (λ r. TellsOf (side_of (fault r)) (place r) input output)
tells_given fault place (Ok x) h input output given = tt
tells_given fault place (Err r) h input output given = tells_host (fault r) h (place r) input output given

-- ---- before an output is begun

pub tells_read : (s : Sides) (fault told : SparseCommandFault) (input : FileArg) (place : Option FileArg)
    → place ≡ place_on s (side_of fault) → told ≡ fault → s.input.place ≡ Some input
    → TellsRead (side_of told) place (Some input)
tells_read s fault told input place is same reads =
    tells_refused s (side_of fault) (side_of told) place (Some input) is (ap side_of same) reads

-- a raw image is refused for no output
pub run_side : (f : RunFault) (size long : ℕ) → RefusedRaw f size long → side_of (faults.Run f) ≡ sides.Output → ⊥
run_side (of_runs.BadBlock n) size long why at = words≢output at
run_side of_runs.TooLarge size long why at = input≢output at
run_side (of_runs.Sparse f) size long why at = absurd why
run_side (of_runs.Read d) size long why at = absurd why
run_side of_runs.SourceChanged size long why at = absurd why

pub raw_side : (fault told : SparseCommandFault) (size long limit : ℕ) → told ≡ fault
    → RefusedCut fault size long limit → side_of told ≡ sides.Output → ⊥
raw_side (faults.Run f) told size long limit same why at =
    run_side f size long why (sym (ap side_of same) ∙ at)
raw_side (faults.Piece f) told size long limit same why at =
    words≢output (sym (ap (λ k. side_of (faults.Piece k)) why.0) ∙ sym (ap side_of same) ∙ at)
raw_side (faults.Sparse f) told size long limit same why at = absurd why
raw_side (faults.Flash f) told size long limit same why at = absurd why
raw_side (faults.Verify f) told size long limit same why at = absurd why
raw_side (faults.OtherBlocks i) told size long limit same why at = absurd why
raw_side (faults.OtherCut i) told size long limit same why at = absurd why
raw_side (faults.Host f) told size long limit same why at = absurd why

-- and what is no sparse image neither
header_side : (x : List ℕ) (f : SparseFault) → HeaderFails x f → side_of_number (number_of f) ≡ sides.Input
header_side x _ (no_magic a) = refl
header_side x _ (other_major a b) = refl
header_side x _ (short_header a b) = refl
header_side x _ (short_chunk_header a b c) = refl
header_side x _ (bad_block_size a b c d) = refl

chunk_side : (h : Header) (size i have : ℕ) (y : List ℕ) (f : SparseFault) (came : List ℕ)
    → ChunkFails h size i have y f came → side_of_number (number_of f) ≡ sides.Input
chunk_side h size i have y _ _ (no_header a) = refl
chunk_side h size i have y _ _ (unknown_type a b) = refl
chunk_side h size i have y _ _ (wrong_length k n total a b) = refl
chunk_side h size i have y _ _ (too_many k n total a b c) = refl
chunk_side h size i have y _ _ (cut_short k n total a b c d) = refl

own_side : (x : List ℕ) (f : SparseFault) (given : List (Option ℕ)) → Fails x f given
    → side_of_number (number_of f) ≡ sides.Input
own_side x _ _ (no_image short) = refl
own_side x _ _ (bad_header f long why) = header_side x f why
own_side x _ _ (cut_header h y is same short) = refl
own_side x _ _ (bad_chunk h cs y f came front more why) = chunk_side h _ _ _ y f came why
own_side x _ _ (too_few h cs y front all short) = refl

pub sparse_side : (fault told : SparseCommandFault) (limit : ℕ) (x : List ℕ) (r r' : ℕ) → IsOutcome x (outcome x)
    → told ≡ fault → IsUncutSparse fault limit x r r' → side_of told ≡ sides.Output → ⊥
sparse_side (faults.Run (of_runs.Sparse f)) told limit x r r' all same why at =
    let own = fails_by x f (outcome x) all why in
    input≢output (sym (own_side x f own.0 own.1) ∙ sym (ap side_of same) ∙ at)
sparse_side (faults.Run (of_runs.Read d)) told limit x r r' all same why at =
    input≢output (sym (ap side_of same) ∙ at)
sparse_side (faults.Run of_runs.TooLarge) told limit x r r' all same why at = absurd why
sparse_side (faults.Run of_runs.SourceChanged) told limit x r r' all same why at = absurd why
sparse_side (faults.Run (of_runs.BadBlock n)) told limit x r r' all same why at = absurd why
sparse_side (faults.Piece f) told limit x r r' all same why at =
    words≢output (sym (ap (λ k. side_of (faults.Piece k)) why.told) ∙ sym (ap side_of same) ∙ at)
sparse_side (faults.Sparse f) told limit x r r' all same why at = absurd why
sparse_side (faults.Flash f) told limit x r r' all same why at = absurd why
sparse_side (faults.Verify f) told limit x r r' all same why at = absurd why
sparse_side (faults.OtherBlocks i) told limit x r r' all same why at = absurd why
sparse_side (faults.OtherCut i) told limit x r r' all same why at = absurd why
sparse_side (faults.Host f) told limit x r r' all same why at = absurd why

-- ---- of the next piece

pub told_between : (names : Naming) (ps : List (List ℕ)) (place : Option FileArg) (r : Counts)
    (h h1 h2 h3 : OpenFiles) (a a1 b c : World) → h1 ≡ h → a1 ≡ a → h3 ≡ counting r h2 → c ≡ b
    → TellsOfNext names place (λ n m. CutsSoFar names ps n m h1 h2 a1 b)
    → TellsOfNext names place (λ n m. CutsSoFar names ps n m h h3 a c)
told_between names ps place r h h1 h2 h3 a a1 b c held world later same next = record {
  count = next.count;
  before = cuts_between names ps next.count (next.count + 1) r h h1 h2 h3 a a1 b c held world next.before later same;
  told = next.told;
}

pub told_image : (raw : Option ℕ) (size size' limit limit' : ℕ) (l l' : List Block) (names : Naming) (x : List ℕ)
    (place : Option FileArg) (h h' : OpenFiles) (a b : World) → IsImageOfBlocks raw size l x
    → size' ≡ size → limit' ≡ limit → l' ≡ l
    → TellsOfNext names place (λ n m. CutsSoFar names (pieces limit' size' l') n m h h' a b)
    → TellsOfImage raw limit names x place (λ ps n m. CutsSoFar names ps n m h h' a b)
told_image raw size size' limit limit' l l' names x place h h' a b image sized limited listed next = record {
  size = size;
  blocks = l;
  image = image;
  next = subst (λ (k : ℕ). TellsOfNext names place (λ n m. CutsSoFar names (pieces k size l) n m h h' a b)) limited
      (subst (λ (k : ℕ). TellsOfNext names place (λ n m. CutsSoFar names (pieces limit' k l) n m h h' a b)) sized
      (subst (λ (k : List Block). TellsOfNext names place (λ n m. CutsSoFar names (pieces limit' size' k) n m h h' a
      b)) listed next));
}

told_file : (raw : Option ℕ) (limit : ℕ) (input : List ℕ) (names : Naming) (place : Option FileArg) (bytes : List ℕ)
    (h h' h'' : OpenFiles) (a b c : World) → h.begun ≡ [] → OpensFile a input bytes h h' → b ≡ a
    → TellsOfImage raw limit names bytes place (λ ps n m. CutsSoFar names ps n m h' h'' b c)
    → TellsOfPiece raw limit input names place h h'' a c
told_file raw limit input names place bytes h h' h'' a b c none o same i = record {
  from = o.file;
  there = o.there;
  image = subst (λ x. TellsOfImage raw limit names x place (FirstStand names o.file h h'' a c)) o.held (record {
    size = i.size;
    blocks = i.blocks;
    image = i.image;
    next = record {
      count = i.next.count;
      before = first_stand names input bytes (pieces limit i.size i.blocks) i.next.count (i.next.count + 1) h h' h'' a
          b c none o same i.next.before;
      told = i.next.told;
    };
  });
}

pub told_file_as : (raw raw' : Option ℕ) (limit : ℕ) (input : List ℕ) (names : Naming) (place : Option FileArg)
    (bytes : List ℕ) (h h' h'' : OpenFiles) (a b c : World) → raw ≡ raw' → h.begun ≡ []
    → OpensFile a input bytes h h' → b ≡ a
    → TellsOfImage raw' limit names bytes place (λ ps n m. CutsSoFar names ps n m h' h'' b c)
    → TellsOfPiece raw limit input names place h h'' a c
told_file_as raw raw' limit input names place bytes h h' h'' a b c is none o same i =
    told_file raw limit input names place bytes h h' h'' a b c none o same
    (subst (λ (k : Option ℕ). TellsOfImage k limit names bytes place (λ ps n m. CutsSoFar names ps n m h' h'' b c))
    (sym is) i)
