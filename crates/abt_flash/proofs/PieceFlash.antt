-- What flashing a piece leaves, and why it may be refused.
use Rattle.std.proofs.Common.{◌≡◌, ℕ, ◌+◌, ◌-◌, ◌*◌, ◌^◌, ◌≤◌, ◌<◌, Bool, List, [], ◌++◌, length, map, take, drop}
use Rattle.std.proofs.Common.{Option, Result, Ok, Err, refl, sym, ap, subst, ◌∙◌, append-nil, arith, length-drop}
use Rattle.std.proofs.Common.{take-append-drop}
use Rattle.std.specs.Prelude.{IsTrue}
use Rattle.std.proofs.lemmas.List.{length-take-le, drop-drop}
use Rattle.std.proofs.Math.Seq.{drop-append_seam}
use Rattle.abt_sparse.specs.Block.{Block, IsBlockSize, AreBlocks, cells, over}
use Rattle.abt_sparse.specs.Runs.{runs, framed}
use Rattle.abt_sparse.specs.Chunk.{Header, Chunk, classed, piece, plain_header, chunk_of_run}
use Rattle.abt_sparse.specs.Reading.{Image, Fault, outcome}
use Rattle.abt_sparse.specs.Fails.{Spells}
use Rattle.abt_sparse.specs.Pieces.{given}
use Rattle.abt_sparse.specs.declared.fault.SparseFault.{SparseFault}
use Rattle.abt_sparse.proofs.AreAll.{AreBlocks-parts}
use Rattle.abt_sparse.proofs.Exactly.{spelled_is, failed_is, behind_header}
use Rattle.abt_sparse.proofs.Flashing.{given_is}
use Rattle.abt_sparse.proofs.Spelling.{pieces_read}
use Rattle.abt_pieces.specs.Contents.{written_in}
use Rattle.abt_pieces.specs.Gather.{frame}
use Rattle.abt_pieces.specs.Outline.{segment_at, first_part}
use Rattle.abt_pieces.specs.Plan.{between, FirstPiece}
use Rattle.abt_pieces.specs.declared.fault.PieceFault.{PieceFault}
use Rattle.abt_pieces.specs.declared.fault.PieceFault.TheVariants as cuts
use Rattle.abt_io.specs.declared.device.DeviceFault.TheVariants as devices
use Rattle.abt_pieces.specs.Fault.{CutCause}
use Rattle.abt_pieces.specs.Image.{IsPlainImage}
use Rattle.abt_flash_faults.specs.declared.fault.Cause.{Cause}
use Rattle.abt_flash_faults.specs.declared.fault.Cause.TheVariants as causes
use Rattle.abt_flash_faults.specs.Fault.{FlashCause, refused_syncs}
use Rattle.abt_flash.specs.Flashing.{WholeFlash, RefusedFlash, Short, Flashes, Holds}
use Rattle.abt_flash.specs.Devices.{Counts}
use Rattle.abt_flash.specs.Delivering.{OnFlashed, StopsFor, unsynced_by}
use Rattle.abt_flash.specs.Causes.{cutting_cause, flashing_cause}
use Rattle.abt_flash.specs.Going.{blocks_at}
use Rattle.abt_flash.specs.declared.stage.Flashed.{Flashed}
use Rattle.abt_flash_faults.specs.declared.fault.FlashFault.{FlashFault}
use Rattle.abt_flash_faults.specs.declared.fault.FlashFault.TheVariants.{Sparse, Read, Write, TooLarge, SourceChanged}
use Rattle.abt_flash_faults.specs.declared.fault.FlashFault.TheVariants.{BadBlock, LimitTooSmall, PartitionTooSmall}
use Rattle.abt_flash_faults.specs.declared.fault.FlashFault.TheVariants.{Sync, Stopped, NoSuchPiece}

-- ---- a piece as an image

-- y is an image of these n blocks of b bytes, with nothing after it
pub record Reads (b n : ℕ) (f : List Block) (y : List ℕ) : Type 0 where
  pub header : Header
  pub chunks : List Chunk
  pub spelled : Spells y header chunks []
  pub size : header.blk_sz ≡ b
  pub count : header.total_blks ≡ n
  pub blocks : classed chunks ≡ f

-- the parts of an image round a segment
pub parts_are : (l : List Block) (s e : ℕ) → s ≤ e → take s l ++ (between l s e ++ drop e l) ≡ l
parts_are l s e order =
    let rest : drop (e - s) (drop s l) ≡ drop e l = drop-drop (e - s) s l
    ∙ ap (λ (k : ℕ). drop k l) (let z : s + (e - s) ≡ e = omega (arith, order) in z) in
    ap (λ (x : List Block). take s l ++ (between l s e ++ x)) (sym rest)
    ∙ ap (λ (x : List Block). take s l ++ x) (take-append-drop (e - s) (drop s l)) ∙ take-append-drop s l

pub piece_reads : (limit b : ℕ) (l : List Block) (s e : ℕ) → IsBlockSize b → AreBlocks b l → length l < 2 ^ 32
    → limit < 2 ^ 32 → FirstPiece b l limit s e → Reads b (length l) (frame l s e) (piece b (frame l s e))
piece_reads limit b l s e size good few small h =
    let part = between l s e in
    let after = length l - e in
    let f = frame l s e in
    let y = piece b f in
    let long : length part ≡ e - s = length-take-le (e - s) (drop s l) (omega (arith, h.within, length-drop s l)) in
    let all : s + length part + after ≡ length l = omega (arith, long, h.order, h.within) in
    let inner : AreBlocks b (take s l ++ (part ++ drop e l)) = rw (parts_are l s e h.order) good in
    let mine : AreBlocks b part =
    (AreBlocks-parts b part (drop e l) (AreBlocks-parts b (take s l) (part ++ drop e l) inner).1).0 in
    let r = pieces_read b s after part [] size mine (omega (arith, all, few)) (omega (arith, h.fits, small)) in
    record {
      header = plain_header b (s + length part + after) (length (runs f));
      chunks = map chunk_of_run (runs f);
      spelled = subst (λ (z : List ℕ). Spells z (plain_header b (s + length part + after) (length (runs f)))
          (map chunk_of_run (runs f)) []) (append-nil y) r.0;
      size = refl;
      count = all;
      blocks = r.1;
    }

-- the next piece is that of its segment
pub blocks_at_are : (limit b : ℕ) (l : List Block) (s e : ℕ) → FirstPiece b l limit s e
    → blocks_at limit b l s ≡ frame l s e
blocks_at_are limit b l s e h =
    let seg : segment_at b limit l s ≡ between l s e = ap first_part h.cut in
    let long : length (between l s e) ≡ e - s =
    length-take-le (e - s) (drop s l) (omega (arith, h.within, length-drop s l)) in
    let rest : length l - (s + length (segment_at b limit l s)) ≡ length l - e = let z = ap length seg in
    omega (arith, z, long, h.order) in
    ap (λ (g : List Block). framed s g (length l - (s + length (segment_at b limit l s)))) seg
    ∙ ap (λ (n : ℕ). framed s (between l s e) n) rest

pub given_reads : (b n : ℕ) (f : List Block) (y : List ℕ) → Reads b n f y → given (outcome y) ≡ cells b f
given_reads b n f y r = given_is y r.header r.chunks [] r.spelled ∙ ap (λ (k : ℕ). cells k (classed r.chunks)) r.size
    ∙ ap (cells b) r.blocks

-- ---- what flashing it returns

same_chunks : {h h' : Header} {cs cs' : List Chunk} {r r' : List ℕ} → Image h cs r ≡ Image h' cs' r' → cs ≡ cs'
same_chunks {h} {h'} {cs} {cs'} {r} {r'} e = cc

same_rest : {h h' : Header} {cs cs' : List Chunk} {r r' : List ℕ} → Image h cs r ≡ Image h' cs' r' → r ≡ r'
same_rest {h} {h'} {cs} {cs'} {r} {r'} e = cc

same_header : {h h' : Header} {cs cs' : List Chunk} {r r' : List ℕ} → Image h cs r ≡ Image h' cs' r' → h ≡ h'
same_header {h} {h'} {cs} {cs'} {r} {r'} e = cc

pub record AllFlashed (b had has : ℕ) (f : List Block) (rest : List ℕ) : Type 0 where
  pub none : rest ≡ []
  pub taken : has ≡ had + b * written_in f

pub all_flashed : (b n : ℕ) (f : List Block) (y rest : List ℕ) (e : Flashed) (size had has : ℕ) → Reads b n f y
    → WholeFlash e size had has y rest → AllFlashed b had has f rest
all_flashed b n f y rest e size had has r w =
    let is : Image w.header w.chunks rest ≡ Image r.header r.chunks [] =
    sym (spelled_is y w.header w.chunks rest w.spelled) ∙ spelled_is y r.header r.chunks [] r.spelled in
    let blk : w.header.blk_sz ≡ b = ap (λ (h : Header). h.blk_sz) (same_header is) ∙ r.size in
    let count : e.blocks ≡ written_in f =
    w.blocks ∙ ap (λ (cs : List Chunk). written_in (classed cs)) (same_chunks is) ∙ ap written_in r.blocks in
    record {
      none = same_rest is;
      taken = w.once ∙ ap (λ (k : ℕ). had + k * e.blocks) blk
          ∙ ap (λ (k : ℕ). had + b * k) count;
    }

-- it is refused by a device alone
abbrev pub IsDevices : FlashFault → Type 0
IsDevices (Sparse f) = ⊥
IsDevices (PartitionTooSmall n) = ⊥
IsDevices e = Unit {0}

never_faulty : (b n : ℕ) (f : List Block) (y : List ℕ) (e : SparseFault) (size : ℕ) → Reads b n f y
    → RefusedFlash e size y → ⊥
never_faulty b n f y e size r h = let is : Image r.header r.chunks [] ≡ Fault e h.given =
    sym (spelled_is y r.header r.chunks [] r.spelled) ∙ failed_is y e h.given h.fails in cc

ok_header : {h h' : Header} → (let r : Result Header SparseFault = Ok h in r) ≡ Ok h' → h ≡ h'
ok_header {h} {h'} e = cc

never_short : (b n : ℕ) (f : List Block) (y rest : List ℕ) (need size had has : ℕ) → Reads b n f y → n * b ≤ size
    → Short need size had has y → ⊥
never_short b n f y rest need size had has r room h =
    let mine = behind_header y r.header r.spelled.front.after r.spelled.front.header in
    let its = behind_header y h.header h.behind h.spelled in
    let same : h.header ≡ r.header = ok_header (sym its.1 ∙ mine.1) in
    let is : need ≡ n * b = h.needs ∙ ap (λ (k : Header). k.total_blks * k.blk_sz) same
    ∙ ap (λ (k : ℕ). k * r.header.blk_sz) r.count ∙ ap (λ (k : ℕ). n * k) r.size in
    omega (arith, is, room, h.short)

pub only_devices : (b n : ℕ) (f : List Block) (y rest : List ℕ) (e : FlashFault) (size had has : ℕ) → Reads b n f y
    → n * b ≤ size → Flashes (Err e) size had has y rest → IsDevices e
only_devices b n f y rest (Sparse e) size had has r room h = never_faulty b n f y e size r h
only_devices b n f y rest (PartitionTooSmall need) size had has r room h =
    never_short b n f y rest need size had has r room h
only_devices b n f y rest (Read d) size had has r room h = tt
only_devices b n f y rest (Write d) size had has r room h = tt
only_devices b n f y rest (Sync d) size had has r room h = tt
only_devices b n f y rest TooLarge size had has r room h = tt
only_devices b n f y rest SourceChanged size had has r room h = tt
only_devices b n f y rest (BadBlock k) size had has r room h = tt
only_devices b n f y rest (LimitTooSmall k) size had has r room h = tt
only_devices b n f y rest (Stopped k c) size had has r room h = tt
only_devices b n f y rest (NoSuchPiece k) size had has r room h = tt

pub flash_stops : (e : FlashFault) (source spool : Bool) (a z : Counts) (g : ℕ) → a.spool_faults ≤ g
    → FlashCause e g z.spool_faults a.put_faults z.put_faults → (IsTrue spool → IsDevices e)
    → StopsFor (flashing_cause e) source spool a z
flash_stops (Sparse f) source spool a z g le h only = only
flash_stops (PartitionTooSmall n) source spool a z g le h only = only
flash_stops (Read d) source spool a z g le h only = let x = h.0 in (omega (arith, x, le), h.1)
flash_stops (Write d) source spool a z g le h only = (h.0, h.1)
flash_stops (Sync d) source spool a z g le h only = (h.0, h.1)
flash_stops TooLarge source spool a z g le h only = absurd h
flash_stops SourceChanged source spool a z g le h only = absurd h
flash_stops (BadBlock n) source spool a z g le h only = absurd h
flash_stops (LimitTooSmall n) source spool a z g le h only = absurd h
flash_stops (Stopped n c) source spool a z g le h only = absurd h
flash_stops (NoSuchPiece n) source spool a z g le h only = absurd h

-- a piece that was not written: the source or the spool has failed, or the source models nothing
pub cut_stops : (e : PieceFault) (source spool : Bool) (a z : Counts) (w w' : ℕ)
    → CutCause e source a.read_faults z.read_faults w w' → (w < w' → a.write_faults < z.write_faults)
    → (e ≡ cuts.Write devices.Full → ⊥) → StopsFor (cutting_cause e) source spool a z
cut_stops (cuts.Read d) source spool a z w w' h more full = h
cut_stops (cuts.Write devices.Failed) source spool a z w w' h more full = (more h, refl)
cut_stops (cuts.Write devices.Full) source spool a z w w' h more full = absurd (full refl)
cut_stops cuts.SourceChanged source spool a z w w' h more full = h
cut_stops cuts.TooLarge source spool a z w w' h more full = absurd h
cut_stops (cuts.BadBlock n) source spool a z w w' h more full = absurd h
cut_stops (cuts.LimitTooSmall n) source spool a z w w' h more full = absurd h

-- an image of n blocks, whatever these are
pub image_reads : (b n : ℕ) (y : List ℕ) (i : IsPlainImage b n y) → Reads b n (classed i.chunks) y
image_reads b n y i = record {
  header = plain_header b n (length i.chunks);
  chunks = i.chunks;
  spelled = i.spelled;
  size = refl;
  count = refl;
  blocks = refl;
}

-- a piece that was refused is flashed whole where its sync was
pub laid_stops : (e : FlashFault) (got : ℕ) (p p' x : List ℕ) (cs : List (Option ℕ)) → Holds (Err e) got p p' x
    → given (outcome x) ≡ cs → OnFlashed (Err (flashing_cause e)) (p' ≡ over p cs)
laid_stops (Sync d) got p p' x cs h same = h ∙ ap (over p) same
laid_stops (Sparse f) got p p' x cs h same = tt
laid_stops (PartitionTooSmall n) got p p' x cs h same = tt
laid_stops (Read d) got p p' x cs h same = tt
laid_stops (Write d) got p p' x cs h same = tt
laid_stops TooLarge got p p' x cs h same = tt
laid_stops SourceChanged got p p' x cs h same = tt
laid_stops (BadBlock n) got p p' x cs h same = tt
laid_stops (LimitTooSmall n) got p p' x cs h same = tt
laid_stops (Stopped n c) got p p' x cs h same = tt
laid_stops (NoSuchPiece n) got p p' x cs h same = tt

-- and only then a sync was refused
pub unsynced_stops : (e : FlashFault) (r r' p p' : ℕ) → FlashCause e r r' p p'
    → unsynced_by (Err (flashing_cause e)) ≡ refused_syncs {X = Flashed} (Err e)
unsynced_stops (Sync d) r r' p p' h = refl
unsynced_stops (Sparse f) r r' p p' h = refl
unsynced_stops (PartitionTooSmall n) r r' p p' h = refl
unsynced_stops (Read d) r r' p p' h = refl
unsynced_stops (Write d) r r' p p' h = refl
unsynced_stops TooLarge r r' p p' h = absurd h
unsynced_stops SourceChanged r r' p p' h = absurd h
unsynced_stops (BadBlock n) r r' p p' h = absurd h
unsynced_stops (LimitTooSmall n) r r' p p' h = absurd h
unsynced_stops (Stopped n c) r r' p p' h = absurd h
unsynced_stops (NoSuchPiece n) r r' p p' h = absurd h

-- a piece that was not written was not synced
pub unsynced_cut : (e : PieceFault) → unsynced_by (Err (cutting_cause e)) ≡ 0
unsynced_cut (cuts.Read d) = refl
unsynced_cut (cuts.Write d) = refl
unsynced_cut cuts.SourceChanged = refl
unsynced_cut cuts.TooLarge = refl
unsynced_cut (cuts.BadBlock n) = refl
unsynced_cut (cuts.LimitTooSmall n) = refl

pub laid_cut : (e : PieceFault) (P : Type 0) → OnFlashed (Err (cutting_cause e)) P
laid_cut (cuts.Read d) P = tt
laid_cut (cuts.Write d) P = tt
laid_cut cuts.SourceChanged P = tt
laid_cut cuts.TooLarge P = tt
laid_cut (cuts.BadBlock n) P = tt
laid_cut (cuts.LimitTooSmall n) P = tt

pub on_flashed : (c : Cause) (P : Type 0) → P → OnFlashed (Err c) P
on_flashed (causes.Sync d) P h = h
on_flashed (causes.Read d) P h = tt
on_flashed (causes.Write d) P h = tt
on_flashed causes.SourceChanged P h = tt
on_flashed (causes.SpoolWrite d) P h = tt
on_flashed (causes.SpoolRead d) P h = tt
on_flashed causes.SpoolChanged P h = tt

-- ---- the spool

-- what is after a clear is what was written since
pub behind_clear : (all old y : List ℕ) (gone : ℕ) → all ≡ old ++ y → gone ≡ length old → drop gone all ≡ y
behind_clear all old y gone e cut = ap (λ (n : ℕ). drop n all) cut ∙ ap (drop (length old)) e ∙ drop-append_seam old y

-- all of it was read where nothing is left
pub all_read : (rem rest : List ℕ) (d : ℕ) → d ≤ length rem → rest ≡ drop d rem → rest ≡ [] → d ≡ length rem
all_read rem rest d le is none = let z = ap length (sym is ∙ none) in omega (arith, z, le, length-drop d rem)

-- ---- what is touched

pub touched_reads : (limit b n : ℕ) (l : List Block) (s e : ℕ) (rem y : List ℕ) → rem ≡ y → Reads b n (frame l s e) y
    → FirstPiece b l limit s e → given (outcome rem) ≡ cells b (blocks_at limit b l s)
touched_reads limit b n l s e rem y is r h = ap (λ (z : List ℕ). given (outcome z)) is
    ∙ given_reads b n (frame l s e) y r ∙ ap (cells b) (sym (blocks_at_are limit b l s e h))
