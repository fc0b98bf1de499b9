-- What opening images one after another leaves, and why it stops.
use Rattle.std.proofs.Common.{arith, ◌≡◌, ℕ, suc, ◌+◌, ◌<◌, ◌≤◌, List, [], ◌∷◌, ◌++◌, length, map}
use Rattle.std.proofs.Common.{min, take, drop, get_or, true, false, Option, Some, None, refl, sym, ◌∙◌, ap, subst}
use Rattle.std.specs.Prelude.{◌==◌, ◌&&◌}
use Rattle.std.specs.Prelude.{unwrap_or, Bool}
use Rattle.std.specs.List.{AllByRecursion, list_any}
use Rattle.std.proofs.lemmas.Bool.{false≢true, eq-eqb}
use Rattle.std.proofs.lemmas.List.{map-append, append_assoc, append-nil, length-map, take_all}
use Rattle.abt_io.specs.Bytes.{AreBytes}
use Rattle.abt_sparse.specs.declared.fault.SparseFault.{SparseFault}
use Rattle.abt_sparse.specs.declared.header.SparseHeader.{SparseHeader}
use Rattle.abt_sparse.specs.Fails.{Fails, IsOutcome}
use Rattle.abt_sparse.specs.Reading.{Outcome, Image, Fault, outcome}
use Rattle.abt_sparse.specs.View.{view}
use Rattle.abt_sparse.proofs.Exactly.{is_so}
use Rattle.abt_runs.specs.declared.part.RunFault.{RunFault}
use Rattle.abt_runs.specs.declared.part.RunFault.TheVariants as of_runs
use Rattle.abt_runs.specs.declared.stage.OpeningStage.TheVariants as stages
use Rattle.abt_runs.specs.Part.{RunCaused}
use Rattle.abt_runs.specs.Sparse.{SparseOpened, sparse_list}
use Rattle.abt_runs.specs.Verdict.{CausedAt, Refuses}
use Rattle.sys_disk.specs.World.{World, OpenFiles, OpensFile, HasFailed, counting, reading}
use Rattle.sys_disk.specs.Counts as causes
use Rattle.sys_disk.specs.Counts.{Cause, call, call_of, reads}
use Rattle.sys_refusals.specs.declared.refusal.HostFault.{HostFault}
use Rattle.cmd_common_sparse.specs.declared.fault.SparseCommandFault.{SparseCommandFault}
use Rattle.cmd_common_sparse.specs.declared.fault.SparseCommandFault.TheVariants as faults
use Rattle.cmd_expand.specs.declared.open_images.Shape.{Shape}
use Rattle.cmd_expand.specs.declared.cut_of.CutPiece.{CutPiece}
use Rattle.cmd_expand.specs.CutOf.{IsOtherCut, NextPiece, Said, TellsPiece, TellsPieces, is_of_other_cut}
use Rattle.cmd_expand.specs.Overlaying.{AreImages, AreInTurn, FileGives, GivesBlock, HasOtherBlocks, HasOtherCut}
use Rattle.cmd_expand.specs.Overlaying.{IsImageOf, StandsBehind}
use Rattle.cmd_expand.specs.Steps.{AreOpened, OpensNext, IsShapeOf, is_same_shape}
use Rattle.cmd_expand.specs.Steps.{IsNotAllOpened, IsNotNext, IsNotOpened, IsNotRead, IsOtherShape}
use Rattle.cmd_expand.proofs.GivenSpans.{gives_said, piece_alike, said_gives}
use Rattle.cmd_expand.proofs.Files.{failed_first, failed_second}
use Rattle.cmd_expand.proofs.Turns.{among_apart, among_turned, told_more, turn_more}
use Rattle.cmd_expand.proofs.Lists.{as_many, lead_more, paths_around, paths_long, paths_more}

-- ---- one image

pub is_image : (x : List ℕ) (h : SparseHeader) (long image : ℕ) → AreBytes x → SparseOpened (view h) long image x
    → IsImageOf h.total_blks h.blk_sz x
is_image x h long image bytes opened = record {
  header = view h;
  chunks = opened.chunks;
  rest = opened.rest;
  spelled = subst (λ o. IsOutcome x o) opened.is_image (is_so x bytes);
  blocks = refl;
  size = refl;
}

fault_of : (x : List ℕ) (f : SparseFault) (o : Outcome) → IsOutcome x o → Refuses (of_runs.Sparse f) o
    → (given : List (Option ℕ)) × Fails x f given
fault_of x f (Image h cs rest) is refuses = absurd refuses
fault_of x f (Fault g cells) is refuses = (cells, subst (λ k. Fails x k cells) (sym refuses) is)

pub not_read : (e : RunFault) (x : List ℕ) (r r' : ℕ) (Same : Type 0) → AreBytes x → Refuses e (outcome x)
    → CausedAt stages.Header e r r' Same → IsNotRead (faults.Run e) x r r'
not_read (of_runs.Sparse f) x r r' Same bytes refuses cause = fault_of x f (outcome x) (is_so x bytes) refuses
not_read (of_runs.Read d) x r r' Same bytes refuses cause = cause.0
not_read of_runs.TooLarge x r r' Same bytes refuses cause = absurd cause
not_read of_runs.SourceChanged x r r' Same bytes refuses cause = absurd refuses
not_read (of_runs.BadBlock n) x r r' Same bytes refuses cause = absurd cause

-- it was opened, and closed where its shape was not found
pub not_opened : (f : SparseCommandFault) (path x : List ℕ) (a : World) (h h1 h2 : OpenFiles)
    (r r' given : ℕ) → OpensFile a path x h h1 → r ≡ 0 → h2 ≡ counting (reads given r') h1 → IsNotRead f x r r'
    → IsNotOpened f path a h h2
not_opened (faults.Run (of_runs.Sparse f)) path x a h h1 h2 r r' given opened none gone is = record {
  file = opened.file;
  there = opened.there;
  given = is.0;
  fails = subst (λ z. Fails z f is.0) opened.held is.1;
}
not_opened (faults.Run (of_runs.Read d)) path x a h h1 h2 r r' given opened none gone is =
    let first : h1.counts.failed causes.reading ≡ h.counts.failed causes.reading
    = ap (λ (k : OpenFiles). k.counts.failed causes.reading) opened.taken in
    let last : h2.counts.failed causes.reading ≡ h1.counts.failed causes.reading + r'
    = ap (λ (k : OpenFiles). k.counts.failed causes.reading) gone in
    omega (arith, first, last, none, is)
not_opened (faults.Run of_runs.TooLarge) path x a h h1 h2 r r' given opened none gone is = absurd is
not_opened (faults.Run of_runs.SourceChanged) path x a h h1 h2 r r' given opened none gone is = absurd is
not_opened (faults.Run (of_runs.BadBlock n)) path x a h h1 h2 r r' given opened none gone is = absurd is
not_opened (faults.Sparse f) path x a h h1 h2 r r' given opened none gone is = absurd is
not_opened (faults.Piece f) path x a h h1 h2 r r' given opened none gone is = absurd is
not_opened (faults.Flash f) path x a h h1 h2 r r' given opened none gone is = absurd is
not_opened (faults.Verify f) path x a h h1 h2 r r' given opened none gone is = absurd is
not_opened (faults.OtherBlocks n) path x a h h1 h2 r r' given opened none gone is = absurd is
not_opened (faults.OtherCut n) path x a h h1 h2 r r' given opened none gone is = absurd is
not_opened (faults.Host f) path x a h h1 h2 r r' given opened none gone is = absurd is

-- the blocks that the file at its path gives are those of its bytes
file_gives : (path x : List ℕ) (a : World) (h h' : OpenFiles) (n : ℕ) → OpensFile a path x h h' → GivesBlock x n
    → FileGives a path n
file_gives path x a h h' n opened is = record {
  file = opened.file;
  there = opened.there;
  gives = subst (λ z. GivesBlock z n) opened.held is;
}

gives_file : (path x : List ℕ) (a : World) (h h' : OpenFiles) (n : ℕ) → OpensFile a path x h h' → FileGives a path n
    → GivesBlock x n
gives_file path x a h h' n opened is =
    let same : is.file ≡ opened.file = ap (λ o. unwrap_or o 0) (sym is.there ∙ opened.there) in
    subst (λ z. GivesBlock z n) (ap a.holds same ∙ sym opened.held) is.gives

pub tells_file : (o : Option CutPiece) (path word x : List ℕ) (a : World) (h h' : OpenFiles) → OpensFile a path x h h'
    → word ≡ path → TellsPiece o word (GivesBlock x) → TellsPiece o path (FileGives a path)
tells_file o path word x a h h' opened same is =
    piece_alike o path (GivesBlock x) (FileGives a path) (λ n. file_gives path x a h h' n opened)
    (λ n. gives_file path x a h h' n opened) (subst (λ p. TellsPiece o p (GivesBlock x)) same is)

-- the blocks of an image that was opened are those that its bytes give
pub tells_bytes : (o : Option CutPiece) (path x : List ℕ) (h : SparseHeader) (long image : ℕ) → AreBytes x
    → SparseOpened (view h) long image x → TellsPiece o path (Said (sparse_list x)) → TellsPiece o path (GivesBlock x)
tells_bytes o path x h long image bytes opened is =
    let spelled = subst (λ o. IsOutcome x o) opened.is_image (is_so x bytes) in
    piece_alike o path (Said (sparse_list x)) (GivesBlock x)
    (λ n. said_gives x (view h) opened.chunks opened.rest n spelled) (λ n. gives_said x n) is

-- walking it failed
pub not_walked : (e : RunFault) (x : List ℕ) (models : Bool) (r0 r r' : ℕ) → models ≡ true → r ≡ r0
    → RunCaused e models r r' → IsNotRead (faults.Run e) x r0 r'
not_walked (of_runs.Sparse f) x models r0 r r' t same cause = absurd cause
not_walked (of_runs.Read d) x models r0 r r' t same cause = let up = cause.0 in omega (arith, same, up)
not_walked of_runs.TooLarge x models r0 r r' t same cause = absurd cause
not_walked of_runs.SourceChanged x models r0 r r' t same cause = absurd (false≢true (sym cause ∙ t))
not_walked (of_runs.BadBlock n) x models r0 r r' t same cause = absurd cause

pub told_so : (f g : SparseCommandFault) (path : List ℕ) (a : World) (h k : OpenFiles) → g ≡ f
    → IsNotOpened f path a h k
    → IsNotOpened g path a h k
told_so f g path a h k same is = subst (λ q. IsNotOpened q path a h k) (sym same) is

-- it could not be opened
pub refused_once : (f : SparseCommandFault) (host : HostFault) (path : List ℕ) (a : World) (h h' : OpenFiles)
    → f ≡ faults.Host host → h' ≡ counting (call_of host) h → IsNotOpened f path a h h'
refused_once f host path a h h' made refused =
    subst (λ g. IsNotOpened g path a h h') (sym made) (failed_first host h h' refused)

-- ---- the next image

same_blocks : (n m : ℕ) → n ≡ m → (m == n) ≡ true
same_blocks n m same = eq-eqb m n (sym same)

pub other_shape : (shape : Option Shape) (own : Shape) (path x : List ℕ) (a : World) (h h' : OpenFiles)
    → OpensFile a path x h h' → IsImageOf own.blocks own.block x → is_same_shape shape own ≡ false
    → IsOtherShape shape path a
other_shape None own path x a h h' opened image differs = absurd (false≢true (sym differs))
other_shape (Some s) own path x a h h' opened image differs = (
  own.blocks,
  own.block,
  record {
    files = opened.file ∷ [];
    there = ap (λ o. o ∷ []) opened.there;
    images = (subst (λ z. IsImageOf own.blocks own.block z) opened.held image, tt);
  },
  λ same. false≢true (sym differs ∙ ap (λ t. t && (s.block == own.block)) (same_blocks own.blocks s.blocks same.0)
      ∙ same_blocks own.block s.block same.1),
)

pub next_other : (told : SparseCommandFault) (shape : Option Shape) (pieces : List (Option CutPiece)) (own : Shape)
    (number : ℕ) (path x : List ℕ) (a : World) (h h' k : OpenFiles) → told ≡ faults.OtherBlocks number
    → OpensFile a path x h h' → IsImageOf own.blocks own.block x → is_same_shape shape own ≡ false
    → IsNotNext told shape pieces number path a h k
next_other told shape pieces own number path x a h h' k is opened image differs =
    subst (λ f. IsNotNext f shape pieces number path a h k) (sym is)
    (refl, other_shape shape own path x a h h' opened image differs)

-- it was opened, and then memory was refused
pub next_lacking : (told : SparseCommandFault) (m : HostFault) (shape : Option Shape) (pieces : List (Option CutPiece))
    (number : ℕ) (path x : List ℕ) (a : World) (h h' k : OpenFiles) → told ≡ faults.Host m → OpensFile a path x h h'
    → k ≡ counting (call_of m) h' → IsNotNext told shape pieces number path a h k
next_lacking told m shape pieces number path x a h h' k is opened now =
    subst (λ f. IsNotNext f shape pieces number path a h k) (sym is) (failed_second path x a m h h' k opened now)

pub next_cut : (told : SparseCommandFault) (shape : Option Shape) (pieces : List (Option CutPiece))
    (own : Option CutPiece) (number : ℕ) (path : List ℕ) (a : World) (h k : OpenFiles) → told ≡ faults.OtherCut number
    → TellsPiece own path (FileGives a path) → list_any (is_of_other_cut own) pieces ≡ true
    → IsNotNext told shape pieces number path a h k
next_cut told shape pieces own number path a h k is models turned =
    subst (λ f. IsNotNext f shape pieces number path a h k) (sym is)
    (refl, record { own = own; models = models; turned = turned })

-- ---- all of them

abbrev pub reading_these : OpenFiles → List ℕ → OpenFiles
reading_these h files = record h { read = files }

pub opened_more : (a : World) (paths xs ys : List (List ℕ)) (path : List ℕ) (h h1 h2 : OpenFiles)
    → AreOpened a paths xs h h1 → OpensNext a path xs ys h1 h2 → AreOpened a (paths ++ (path ∷ [])) ys h h2
opened_more a paths xs ys path h h1 h2 all next = record {
  files = all.files ++ (next.opened.file ∷ []);
  there = lead_more a paths all.files path next.opened.file all.there next.opened.there;
  bytes = next.more ∙ ap (λ l. l ++ (next.bytes ∷ [])) all.bytes
      ∙ ap (λ z. map a.holds all.files ++ (z ∷ [])) next.opened.held
      ∙ sym (map-append a.holds all.files (next.opened.file ∷ []));
  taken = next.opened.taken ∙ ap (reading next.opened.file) all.taken
      ∙ ap (reading_these h) (append_assoc h.read all.files (next.opened.file ∷ []));
}

pub opened_none : (a : World) (xs : List (List ℕ)) (h h' : OpenFiles) → xs ≡ [] → h' ≡ h → AreOpened a [] xs h h'
opened_none a xs h h' none same = record {
  files = [];
  there = refl;
  bytes = none;
  taken = same ∙ ap (reading_these h) (sym (append-nil h.read));
}

-- what is known of those that were opened
abbrev pub blocks_of : Option Shape → ℕ
blocks_of None = 0
blocks_of (Some s) = s.blocks

abbrev pub block_of : Option Shape → ℕ
block_of None = 0
block_of (Some s) = s.block

pub are_images : (shape : Option Shape) (a : World) (paths xs : List (List ℕ)) (h h' : OpenFiles)
    → AreOpened a paths xs h h'
    → IsShapeOf shape xs → AreImages (blocks_of shape) (block_of shape) paths a
are_images None a paths xs h h' all is = record {
  files = all.files;
  there = all.there;
  images = subst (λ l. AllByRecursion (IsImageOf 0 0) l) (sym is ∙ all.bytes) tt;
}
are_images (Some s) a paths xs h h' all is = record {
  files = all.files;
  there = all.there;
  images = subst (λ l. AllByRecursion (IsImageOf s.blocks s.block) l) all.bytes is.1;
}

still : (cause : Cause) (a : World) (paths xs : List (List ℕ)) (h h1 h2 : OpenFiles) → AreOpened a paths xs h h1
    → HasFailed cause h1 h2 → HasFailed cause h h2
still cause a paths xs h h1 h2 all failed =
    let same : h1.counts.failed cause ≡ h.counts.failed cause
    = ap (λ (k : OpenFiles). k.counts.failed cause) all.taken in
    omega (arith, same, failed)

stands : (shape : Option Shape) (a : World) (inputs before behind xs : List (List ℕ)) (path : List ℕ) (h h' : OpenFiles)
    → AreOpened a before xs h h' → IsShapeOf shape xs → inputs ≡ before ++ (path ∷ behind)
    → StandsBehind (blocks_of shape) (block_of shape) (length before) path inputs a
stands shape a inputs before behind xs path h h' all is among = record {
  before = before;
  behind = behind;
  among = among;
  place_is = refl;
  images = are_images shape a before xs h h' all is;
}

some_before : (s : Shape) (a : World) (paths xs : List (List ℕ)) (h h' : OpenFiles) → AreOpened a paths xs h h'
    → IsShapeOf (Some s) xs → 0 < length paths
some_before s a paths xs h h' all is =
    let many : length all.files ≡ length paths = as_many a paths all.files all.there in
    let long : length xs ≡ length all.files = ap length all.bytes ∙ length-map all.files a.holds in
    omega (arith, many, long, is.0)

other_blocks : (shape : Option Shape) (a : World) (inputs before behind xs : List (List ℕ)) (path : List ℕ) (number : ℕ)
    (h h' : OpenFiles) → AreOpened a before xs h h' → IsShapeOf shape xs → inputs ≡ before ++ (path ∷ behind)
    → number ≡ min (length before + 1) 4294967295 → IsOtherShape shape path a → HasOtherBlocks inputs a number
other_blocks None a inputs before behind xs path number h h' all is among counted other = absurd other
other_blocks (Some s) a inputs before behind xs path number h h' all is among counted other = record {
  blocks = s.blocks;
  size = s.block;
  place = length before;
  path = path;
  stands = stands (Some s) a inputs before behind xs path h h' all is among;
  some = some_before s a before xs h h' all is;
  number = counted;
  own_blocks = other.0;
  own_size = other.1;
  own = other.2;
  other = other.3;
}

other_cut : (shape : Option Shape) (pieces : List (Option CutPiece)) (a : World)
    (inputs before behind xs : List (List ℕ)) (path : List ℕ) (number : ℕ) (h h' : OpenFiles)
    → AreOpened a before xs h h'
    → IsShapeOf shape xs → TellsPieces a pieces before → inputs ≡ before ++ (path ∷ behind)
    → number ≡ min (length before + 1) 4294967295 → IsOtherCut pieces path a → HasOtherCut inputs a number
unfolding stands
other_cut shape pieces a inputs before behind xs path number h h' all is told among counted cut =
    let other = among_turned a cut.own path pieces before cut.models told cut.turned in
    record {
      blocks = blocks_of shape;
      size = block_of shape;
      place = length before;
      path = path;
      stands = stands shape a inputs before behind xs path h h' all is among;
      number = counted;
      other = other.0;
      before = other.1;
      turned = other.2;
    }

-- why not all of them are opened: the images before this one are
pub not_all : (f : SparseCommandFault) (shape : Option Shape) (pieces : List (Option CutPiece)) (a : World)
    (inputs before behind xs : List (List ℕ)) (path : List ℕ) (number : ℕ) (h h1 h2 : OpenFiles)
    → AreOpened a before xs h h1 → IsShapeOf shape xs → TellsPieces a pieces before
    → inputs ≡ before ++ (path ∷ behind) → number ≡ min (length before + 1) 4294967295
    → IsNotNext f shape pieces number path a h1 h2 → IsNotAllOpened f inputs a h h2
not_all (faults.Run (of_runs.Sparse f)) shape pieces a inputs before behind xs path number h h1 h2 all is told among
    counted why =
    record {
      blocks = blocks_of shape;
      size = block_of shape;
      place = length before;
      path = path;
      stands = stands shape a inputs before behind xs path h h1 all is among;
      fault = why;
    }
not_all (faults.Run (of_runs.Read d)) shape pieces a inputs before behind xs path number h h1 h2 all is told among
    counted why =
    still causes.reading a before xs h h1 h2 all why
not_all (faults.Run of_runs.TooLarge) shape pieces a inputs before behind xs path number h h1 h2 all is told among
    counted why =
    absurd why
not_all (faults.Run of_runs.SourceChanged) shape pieces a inputs before behind xs path number h h1 h2 all is told among
    counted
    why = absurd why
not_all (faults.Run (of_runs.BadBlock n)) shape pieces a inputs before behind xs path number h h1 h2 all is told among
    counted why =
    absurd why
not_all (faults.OtherBlocks n) shape pieces a inputs before behind xs path number h h1 h2 all is told among
    counted why =
    other_blocks shape a inputs before behind xs path n h h1 all is among (why.0 ∙ counted) why.1
not_all (faults.OtherCut n) shape pieces a inputs before behind xs path number h h1 h2 all is told among counted why =
    other_cut shape pieces a inputs before behind xs path n h h1 all is told among (why.0 ∙ counted) why.1
not_all (faults.Host f) shape pieces a inputs before behind xs path number h h1 h2 all is told among
    counted why =
    still (call f) a before xs h h1 h2 all why
not_all (faults.Sparse f) shape pieces a inputs before behind xs path number h h1 h2 all is told among
    counted why = absurd why
not_all (faults.Piece f) shape pieces a inputs before behind xs path number h h1 h2 all is told among
    counted why = absurd why
not_all (faults.Flash f) shape pieces a inputs before behind xs path number h h1 h2 all is told among
    counted why = absurd why
not_all (faults.Verify f) shape pieces a inputs before behind xs path number h h1 h2 all is told among
    counted why = absurd why

-- ---- one turn

pub step_opened : {X : Type 0} (f : X → List ℕ) (xs : List X) (i : ℕ) (d : X) (a a1 : World) (cs ys : List (List ℕ))
    (path : List ℕ) (h h1 h2 : OpenFiles) → i < length xs → a1 ≡ a → path ≡ f (get_or xs i d)
    → AreOpened a (map f (take i xs)) cs h h1 → OpensNext a1 path cs ys h1 h2
    → AreOpened a (map f (take (i + 1) xs)) ys h h2
step_opened f xs i d a a1 cs ys path h h1 h2 below same is all next =
    subst (λ l. AreOpened a l ys h h2) (ap (λ p. map f (take i xs) ++ (p ∷ [])) is ∙ paths_more f xs i d below)
    (opened_more a (map f (take i xs)) cs ys path h h1 h2 all (subst (λ w. OpensNext w path cs ys h1 h2) same next))

pub step_pieces : {X : Type 0} (f : X → List ℕ) (xs : List X) (i : ℕ) (d : X) (a a1 : World)
    (pieces pieces' : List (Option CutPiece)) (path : List ℕ) → i < length xs → a1 ≡ a → path ≡ f (get_or xs i d)
    → TellsPieces a pieces (map f (take i xs)) → NextPiece a1 path pieces pieces'
    → TellsPieces a pieces' (map f (take (i + 1) xs))
step_pieces f xs i d a a1 pieces pieces' path below same is all next =
    let own = next.own in
    subst (λ l. TellsPieces a pieces' l) (ap (λ p. map f (take i xs) ++ (p ∷ [])) is ∙ paths_more f xs i d below)
    (subst (λ l. TellsPieces a l (map f (take i xs) ++ (path ∷ []))) (sym next.more)
    (told_more a pieces (map f (take i xs)) own path all
    (subst (λ w. TellsPiece own path (FileGives w path)) same next.models)))

pub step_turn : {X : Type 0} (f : X → List ℕ) (xs : List X) (i : ℕ) (d : X) (a a1 : World)
    (pieces pieces' : List (Option CutPiece)) (path : List ℕ) → i < length xs → a1 ≡ a → path ≡ f (get_or xs i d)
    → TellsPieces a pieces (map f (take i xs)) → NextPiece a1 path pieces pieces' → AreInTurn (map f (take i xs)) a
    → AreInTurn (map f (take (i + 1) xs)) a
step_turn f xs i d a a1 pieces pieces' path below same is all next turn =
    subst (λ l. AreInTurn l a) (ap (λ p. map f (take i xs) ++ (p ∷ [])) is ∙ paths_more f xs i d below)
    (turn_more a (map f (take i xs)) path turn
    (λ other among. among_apart a next.own path pieces (map f (take i xs)) other
    (subst (λ w. TellsPiece next.own path (FileGives w path)) same next.models) all next.apart among))

pub step_refused : {X : Type 0} (f : X → List ℕ) (xs : List X) (i : ℕ) (d : X) (fault : SparseCommandFault)
    (shape : Option Shape) (pieces : List (Option CutPiece)) (a a1 : World) (cs : List (List ℕ)) (path : List ℕ)
    (number count : ℕ) (h h1 h2 : OpenFiles)
    → i < length xs → a1 ≡ a → path ≡ f (get_or xs i d) → AreOpened a (map f (take i xs)) cs h h1 → IsShapeOf shape cs
    → TellsPieces a pieces (map f (take i xs)) → count ≡ min i 4294967295 → number ≡ min (count + 1) 4294967295
    → IsNotNext fault shape pieces number path a1 h1 h2 → IsNotAllOpened fault (map f xs) a h h2
step_refused f xs i d fault shape pieces a a1 cs path number count h h1 h2 below same is all shaped told so_far counted
    why =
    let long : length (map f (take i xs)) ≡ i = paths_long f xs i (omega (arith, below)) in
    let more : number ≡ min (length (map f (take i xs)) + 1) 4294967295 = omega (arith, long, so_far, counted) in
    not_all fault shape pieces a (map f xs) (map f (take i xs)) (map f (drop (suc i) xs)) cs path number h h1 h2 all
    shaped told
    (paths_around f xs i d below ∙ ap (λ p. map f (take i xs) ++ (p ∷ map f (drop (suc i) xs))) (sym is)) more
    (subst (λ w. IsNotNext fault shape pieces number path w h1 h2) same why)

-- all turns were made
pub all_in_turn : {X : Type 0} (f : X → List ℕ) (xs : List X) (i : ℕ) (a : World) → length xs ≤ i
    → AreInTurn (map f (take i xs)) a → AreInTurn (map f xs) a
all_in_turn f xs i a over turn = subst (λ l. AreInTurn (map f l) a) (take_all i xs over) turn

pub all_opened : {X : Type 0} (f : X → List ℕ) (xs : List X) (i : ℕ) (a : World) (cs : List (List ℕ)) (h h' : OpenFiles)
    → length xs ≤ i → AreOpened a (map f (take i xs)) cs h h' → AreOpened a (map f xs) cs h h'
all_opened f xs i a cs h h' over all = subst (λ l. AreOpened a (map f l) cs h h') (take_all i xs over) all
