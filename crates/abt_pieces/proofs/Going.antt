-- A writer that goes on: with a run begun, with a chunk of a raw run open, with a part of it found, with bytes copied.
use Rattle.std.proofs.Common.{min, append_assoc, mul-le-mul_right, ◌≡◌, ℕ, suc, ◌+◌, ◌-◌, ◌*◌, ◌<◌, ◌≤◌, Bool, true}
use Rattle.std.proofs.Common.{false, List, [], ◌∷◌, ◌++◌, length, take, drop, refl, sym, ap, subst, ◌∙◌, arith, inl}
use Rattle.std.proofs.Common.{inr, ◌⊎◌, length-append, length-drop, mul-le-mul_left, Option, Some, None, Result, Ok}
use Rattle.std.proofs.Common.{Err, OnOk, IfErr, IsTrue, ◌^◌, nat_lt, ◌==◌, ◌&&◌, not}
use Rattle.std.proofs.lemmas.Bool.{cases_Bool, eqb-true, eqb-false, ltb-true, ltb-false}
use Rattle.std.proofs.lemmas.List.{drop-drop, length-take-le, take-take, take-append-le, drop-append-le}
use Rattle.std.proofs.Math.ListN.{drop_of_length-le}
use Rattle.std.proofs.Math.Seq.{take-append_seam, drop-append_seam}
use Rattle.abt_sparse.specs.Block.{Block, AreBlocks}
use Rattle.abt_sparse.specs.Chunk.{chunks_of}
use Rattle.abt_runs.specs.Part.{AllOf, PartOf, is_end, raw_of}
use Rattle.abt_runs.specs.declared.part.Cursor.{Cursor}
use Rattle.abt_runs.specs.declared.part.Run.{Run}
use Rattle.abt_runs.specs.declared.part.RunKind.{RunKind}
use Rattle.abt_runs.specs.declared.part.RunKind.TheVariants as kinds
use Rattle.abt_runs.proofs.Alike.{kind_is}
use Rattle.abt_pieces.specs.Plan.{between}
use Rattle.abt_pieces.specs.Contents.{head_len}
use Rattle.abt_pieces.specs.Gather.{frame, Gathered, Closed, ClosedRun, SoundGatherer, ToldGatherer, look_left}
use Rattle.abt_pieces.specs.Write.{front_bytes, chunks_in, bytes_of, cut_bytes, begins, to_copy, to_begin, rest_of}
use Rattle.abt_pieces.specs.Write.{frame_of, IsCopying, SoundCopying, SoundWriter, ToldCopy, ToldCopying, ToldWriter}
use Rattle.abt_pieces.specs.Write.{starts, front_begun, raw_begun, begun_as, run_begun, run_front, run_head}
use Rattle.abt_pieces.specs.Write.{next_blocks, opened_on, chunk_opened, ChunkCause, next_copying, copied_on, copy_left}
use Rattle.abt_pieces.specs.Write.{write_left, passed_to}
use Rattle.abt_pieces.specs.declared.gather.Gatherer.{Gatherer}
use Rattle.abt_pieces.specs.declared.write.Copying.{Copying}
use Rattle.abt_pieces.specs.declared.write.Writer.{Writer}
use Rattle.abt_pieces.specs.declared.fault.PieceFault.{PieceFault}
use Rattle.abt_pieces.specs.Fault.{CutCause}
use Rattle.abt_pieces.proofs.Fronts.{wrote_rest, chunk_cause}
use Rattle.abt_pieces.proofs.Classes.{all_take}
use Rattle.abt_pieces.proofs.Framing.{frame_take, length-frame}
use Rattle.abt_pieces.proofs.Writing.{blocks_take, blocks_drop, between_two, front_long, raw_back, raw_front, raw_long}
use Rattle.abt_pieces.proofs.Writing.{raw_behind, raw_within, frame_blocks}
use Rattle.abt_pieces.proofs.PieceCuts.{no_cut, one_cut, FirstCut, first_cut, cut_next}

-- ---- a run that has ended

-- w with another gatherer
abbrev pub gathering : Writer → Gatherer → Writer
gathering w g = record {
  first = w.first;
  past = w.past;
  most = w.most;
  gatherer = g;
  copying = w.copying;
  chunks = w.chunks;
  bytes = w.bytes;
}

pub record RunEnded (b r : ℕ) (f : List Block) (g h : Gatherer) (x : Run) : Type 0 where
  pub all : AllOf x.kind (between f (begins g) g.at.block)
  pub long : length (between f (begins g) g.at.block) ≡ x.blocks
  pub next : begins h ≡ g.at.block
  pub order : begins g + x.blocks ≡ g.at.block
  pub blocks : AreBlocks b (between f (begins g) g.at.block)
  pub cut : FirstCut b r x.kind (between f (begins g) g.at.block) (drop g.at.block f) (drop (begins g) f)

pub run_ended : (b r : ℕ) (f : List Block) (g h : Gatherer) (x : Run) → 0 < r → AreBlocks b f → Gathered f g
    → Closed f g h x → ClosedRun g h x → RunEnded b r f g h x
run_ended b r f g h x some good gathered closed run =
    let u = begins g in
    let v = g.at.block in
    let long : length (between f u v) ≡ x.blocks =
    length-take-le (v - u) (drop u f) (omega (arith, length-drop u f, gathered.within, gathered.behind))
    ∙ (let z : v - u ≡ x.blocks = omega (arith, gathered.behind, run.blocks) in z) in
    let all : AllOf x.kind (between f u v) = rw run.kind closed.all in
    let these = blocks_take b (v - u) (drop u f) (blocks_drop b u f good) in
    record {
      all = all;
      long = long;
      next = omega (arith, run.start);
      order = omega (arith, gathered.behind, run.blocks);
      blocks = these;
      cut = first_cut b r x.kind (between f u v) (drop v f) (drop u f) closed.first some all
          (omega (arith, long, run.some, run.blocks)) these;
    }

-- its chunk is begun, or its chunks are to come
pub record RunBegun (P : Cursor → Type 0) (T : Cursor → ℕ) (l : List Block) (w t : Writer) (k : RunKind)
    (q : ℕ) : Type 0 where
  pub chunk : rest_of (frame_of l w) w ≡ run_front k q ++ rest_of (frame_of l w) t
  pub enough : 0 < w.chunks
  pub room : head_len k ≤ w.bytes
  pub told : ToldWriter P T l t

-- a run that is written as one chunk
front_told : (P : Cursor → Type 0) (T : Cursor → ℕ) (l : List Block) (w : Writer) (h : Gatherer) (k : RunKind)
    (q v : ℕ) → w.copying ≡ None → ToldWriter P T l w → ToldGatherer P l w.first w.past h → begins h ≡ v
    → length (chunks_of w.most (drop (begins w.gatherer) (frame_of l w))) ≡ 1 + length
    (chunks_of w.most (drop v (frame_of l w)))
    → bytes_of w.most (drop (begins w.gatherer) (frame_of l w)) ≡ run_front k q
    ++ ([] ++ bytes_of w.most (drop v (frame_of l w))) → length (run_front k q) ≡ head_len k
    → RunBegun P T l w (front_begun (gathering w h) k) k q
front_told P T l w h k q v none told on next count bytes head =
    let f = frame_of l w in
    let tail = bytes_of w.most (drop v f) in
    let rest : rest_of f w ≡ run_front k q ++ tail =
    ap (λ (o : Option Copying). to_copy w.most f (begins w.gatherer) o
    ++ bytes_of w.most (drop (begins w.gatherer) f)) none ∙ bytes in
    let new : rest_of f (front_begun (gathering w h) k) ≡ tail =
    ap (λ (o : Option Copying). to_copy w.most f (begins h) o ++ bytes_of w.most (drop (begins h) f)) none
    ∙ ap (λ (m : ℕ). bytes_of w.most (drop m f)) next in
    let total : length (rest_of f w) ≡ head_len k + length tail = ap length rest ∙ length-append (run_front k q) tail
    ∙ ap (λ (m : ℕ). m + length tail) head in
    let begun : to_begin w.most w.copying ≡ 0 = ap (λ (o : Option Copying). to_begin w.most o) none in
    let ends : length (chunks_of w.most (drop (begins h) f)) ≡ length (chunks_of w.most (drop v f)) =
    ap (λ (m : ℕ). length (chunks_of w.most (drop m f))) next in
    record {
      chunk = rest ∙ ap (λ (y : List ℕ). run_front k q ++ y) (sym new);
      enough = omega (arith, told.count, count);
      room = omega (arith, told.long, total);
      told = record {
        gathering = on;
        copies = rw none tt;
        count = omega (arith, told.count, count, begun, ends);
        long = omega (arith, told.long, total, ap length new);
      };
    }

between_same : (f : List Block) (u : ℕ) → between f u u ≡ []
between_same f u = ap (λ (m : ℕ). take m (drop u f)) (let z : u - u ≡ 0 = omega arith in z)

raw_to_copy : (r : ℕ) (f : List Block) (here : Cursor) (u v q : ℕ) → here.block ≡ u → u + q ≡ v
    → to_copy r f v (Some (starts here q)) ≡ cut_bytes r (between f u v)
raw_to_copy r f here u v q e order =
    ap (λ (m : ℕ). raw_of (between f here.block m) ++ cut_bytes r (between f m v))
    (let z : v - q ≡ u = omega (arith, order) in z)
    ∙ ap (λ (m : ℕ). raw_of (between f m u) ++ cut_bytes r (between f u v)) e
    ∙ ap (λ (xs : List Block). raw_of xs ++ cut_bytes r (between f u v)) (between_same f u)

-- a raw run, of which no chunk is begun yet
raw_told : (P : Cursor → Type 0) (T : Cursor → ℕ) (b : ℕ) (l : List Block) (w : Writer) (h : Gatherer) (x : Run)
    (u v : ℕ) → w.copying ≡ None → 0 < w.most → ToldWriter P T l w → ToldGatherer P l w.first w.past h → P x.here
    → begins w.gatherer ≡ u → begins h ≡ v → x.here.block ≡ u → u + x.blocks ≡ v → 0 < x.blocks
    → AllOf kinds.Raw (between (frame_of l w) u v)
    → length (chunks_of w.most (drop u (frame_of l w))) ≡ chunks_in kinds.Raw x.blocks w.most + length
    (chunks_of w.most (drop v (frame_of l w)))
    → bytes_of w.most (drop u (frame_of l w)) ≡ cut_bytes w.most (between (frame_of l w) u v)
    ++ bytes_of w.most (drop v (frame_of l w))
    → length (bytes_of w.most (drop u (frame_of l w))) ≡ chunks_in kinds.Raw x.blocks w.most * 12 + x.blocks * b
    + length (bytes_of w.most (drop v (frame_of l w)))
    → RunBegun P T l w (raw_begun (gathering w h) x) kinds.Raw x.blocks
raw_told P T b l w h x u v none some told on place first next here order more all count bytes long =
    let f = frame_of l w in
    let tail = bytes_of w.most (drop v f) in
    let t = raw_begun (gathering w h) x in
    let old : rest_of f w ≡ bytes_of w.most (drop u f) =
    ap (λ (o : Option Copying). to_copy w.most f (begins w.gatherer) o
    ++ bytes_of w.most (drop (begins w.gatherer) f)) none ∙ ap (λ (m : ℕ). bytes_of w.most (drop m f)) first in
    let new : rest_of f t ≡ cut_bytes w.most (between f u v) ++ tail =
    ap (λ (m : ℕ). to_copy w.most f m (Some (starts x.here x.blocks)) ++ bytes_of w.most (drop m f)) next
    ∙ ap (λ (y : List ℕ). y ++ tail) (raw_to_copy w.most f x.here u v x.blocks here order) in
    let begun : to_begin w.most w.copying ≡ 0 = ap (λ (o : Option Copying). to_begin w.most o) none in
    let before : length (chunks_of w.most (drop (begins w.gatherer) f)) ≡ length (chunks_of w.most (drop u f)) =
    ap (λ (m : ℕ). length (chunks_of w.most (drop m f))) first in
    let ends : length (chunks_of w.most (drop (begins h) f)) ≡ length (chunks_of w.most (drop v f)) =
    ap (λ (m : ℕ). length (chunks_of w.most (drop m f))) next in
    let one : 0 < chunks_in kinds.Raw x.blocks w.most = (let z = one_cut x.blocks w.most some more in
    omega (arith, z)) in
    record {
      chunk = old ∙ bytes ∙ sym new;
      enough = omega (arith, told.count, count, before, one);
      room = omega (arith, told.long, ap length old, long, one);
      told = record {
        gathering = on;
        copies = record {
          here = place;
          next = place;
          all = subst (λ (i : ℕ). AllOf kinds.Raw (between f i (begins h))) (sym here)
              (subst (λ (m : ℕ). AllOf kinds.Raw (between f u m)) (sym next) all);
          stands = omega arith;
        };
        count = omega (arith, told.count, count, begun, before, ends);
        long = told.long ∙ ap length (old ∙ bytes ∙ sym new);
      };
    }

begins_told : (P : Cursor → Type 0) (T : Cursor → ℕ) (b : ℕ) (l : List Block) (w : Writer) (h : Gatherer) (x : Run)
    (k : RunKind) → x.kind ≡ k → (k ≡ kinds.Raw → (x.here.block ≡ begins w.gatherer) × P x.here) → w.copying ≡ None
    → 0 < w.most → 0 < x.blocks → ToldWriter P T l w → ToldGatherer P l w.first w.past h
    → RunEnded b w.most (frame_of l w) w.gatherer h x → RunBegun P T l w (begun_as k (gathering w h) x) k x.blocks
begins_told P T b l w h x kinds.Raw e here none some more told on d =
    let c : FirstCut b w.most kinds.Raw (between (frame_of l w) (begins w.gatherer) w.gatherer.at.block)
    (drop w.gatherer.at.block (frame_of l w)) (drop (begins w.gatherer) (frame_of l w)) = rw e at d.cut in
    raw_told P T b l w h x (begins w.gatherer) w.gatherer.at.block none some told on (here refl).1 refl d.next
    (here refl).0 d.order more (rw e at d.all) (rw d.long at c.count) c.bytes (rw d.long at c.long)
begins_told P T b l w h x (kinds.Fill v) e here none some more told on d =
    let c : FirstCut b w.most (kinds.Fill v) (between (frame_of l w) (begins w.gatherer) w.gatherer.at.block)
    (drop w.gatherer.at.block (frame_of l w)) (drop (begins w.gatherer) (frame_of l w)) = rw e at d.cut in
    front_told P T l w h (kinds.Fill v) x.blocks w.gatherer.at.block none told on d.next c.count
    (rw d.long at c.bytes)
    (front_long b (kinds.Fill v) (between (frame_of l w) (begins w.gatherer) w.gatherer.at.block) x.blocks 16
    (rw e at d.all) (omega (arith, d.long, more)) d.blocks)
begins_told P T b l w h x kinds.Skip e here none some more told on d =
    let c : FirstCut b w.most kinds.Skip (between (frame_of l w) (begins w.gatherer) w.gatherer.at.block)
    (drop w.gatherer.at.block (frame_of l w)) (drop (begins w.gatherer) (frame_of l w)) = rw e at d.cut in
    front_told P T l w h kinds.Skip x.blocks w.gatherer.at.block none told on d.next c.count (rw d.long at c.bytes) refl
begins_told P T b l w h x kinds.End e here none some more told on d =
    absurd (let z : between (frame_of l w) (begins w.gatherer) w.gatherer.at.block ≡ [] = rw e at d.all in
    omega (arith, ap length z, d.long, more))

pub run_begins : (P : Cursor → Type 0) (T : Cursor → ℕ) (W : Cursor → Type 0) (reach : Cursor
    → ℕ) (n b : ℕ) (l : List Block) (w : Writer) (h : Gatherer) (x : Run) → w.copying ≡ None
    → AreBlocks b (frame_of l w) → SoundWriter W reach n b w → ToldWriter P T l w → ToldGatherer P l w.first w.past h
    → Closed (frame_of l w) w.gatherer h x → ClosedRun w.gatherer h x
    → RunBegun P T l w (run_begun (gathering w h) x) x.kind x.blocks
run_begins P T W reach n b l w h x none good sound told on closed run =
    let d = run_ended b w.most (frame_of l w) w.gatherer h x sound.most good told.gathering.gathered closed run in
    begins_told P T b l w h x x.kind refl (λ k.
    let raw = sym run.kind ∙ k in
    let z = sound.gathering.raw raw run.some in
    (omega (arith, ap (λ (c : Cursor). c.block) run.here, z.whole), rw run.here (told.gathering.raw raw run.some)))
    none sound.most (omega (arith, run.some, run.blocks)) told on d

begins_sound : (W : Cursor → Type 0) (reach : Cursor → ℕ) (n b : ℕ) (w : Writer) (h : Gatherer) (x : Run)
    (k : RunKind) → x.kind ≡ k → w.copying ≡ None → SoundWriter W reach n b w → SoundGatherer W n w.first w.past h
    → ClosedRun w.gatherer h x → SoundWriter W reach n b (begun_as k (gathering w h) x)
begins_sound W reach n b w h x kinds.Raw e none sound on run =
    let z = sound.gathering.raw (sym run.kind ∙ e) run.some in
    let here = ap (λ (c : Cursor). c.block) run.here in
    record {
      gathering = on;
      copies = record {
        first = omega (arith, here, z.first);
        order = omega arith;
        until = omega (arith, here, z.whole, run.start);
        past = omega (arith, z.past, run.start);
        part = let y : x.here.block - x.here.block ≡ 0 = omega arith in rw y (omega arith);
        copied = omega arith;
        inner = omega (arith, here, z.whole, run.start, run.blocks);
        total = let y : begins h - x.blocks - x.here.block ≡ 0 =
            omega (arith, here, z.whole, run.start, run.blocks) in rw y (omega arith);
        some = omega (arith, run.some, run.blocks);
        room = omega arith;
        here = rw run.here z.within;
        next = rw run.here z.within;
        reached = omega arith;
      };
      most = sound.most;
      small = sound.small;
      fits = sound.fits;
    }
begins_sound W reach n b w h x (kinds.Fill v) e none sound on run =
    record {
      gathering = on;
      copies = rw none tt;
      most = sound.most;
      small = sound.small;
      fits = omega (arith, sound.fits);
    }
begins_sound W reach n b w h x kinds.Skip e none sound on run =
    record {
      gathering = on;
      copies = rw none tt;
      most = sound.most;
      small = sound.small;
      fits = omega (arith, sound.fits);
    }
begins_sound W reach n b w h x kinds.End e none sound on run =
    record {
      gathering = on;
      copies = rw none tt;
      most = sound.most;
      small = sound.small;
      fits = omega (arith, sound.fits);
    }

pub run_sound : (W : Cursor → Type 0) (reach : Cursor → ℕ) (n b : ℕ) (w : Writer) (h : Gatherer) (x : Run)
    → w.copying ≡ None → SoundWriter W reach n b w → SoundGatherer W n w.first w.past h → ClosedRun w.gatherer h x
    → SoundWriter W reach n b (run_begun (gathering w h) x)
run_sound W reach n b w h x none sound on run = begins_sound W reach n b w h x x.kind refl none sound on run

-- what a begun run leaves as it is
pub begun_keeps : (k : RunKind) (w : Writer) (x : Run) → ((begun_as k w x).gatherer ≡ w.gatherer)
    × ((begun_as k w x).past ≡ w.past) × ((begun_as k w x).first ≡ w.first)
begun_keeps kinds.Raw w x = (refl, refl, refl)
begun_keeps (kinds.Fill v) w x = (refl, refl, refl)
begun_keeps kinds.Skip w x = (refl, refl, refl)
begun_keeps kinds.End w x = (refl, refl, refl)

-- its head is counted
head_counted : (k : RunKind) (w : Writer) (x : Run) → run_head k ≤ w.bytes
    → run_head k + (begun_as k w x).bytes ≡ w.bytes
head_counted kinds.Raw w x room = omega arith
head_counted (kinds.Fill v) w x room = omega arith
head_counted kinds.Skip w x room = omega arith
head_counted kinds.End w x room = omega arith

pub run_counted : {A : Type 0} (res : Result A PieceFault) (w v : Writer) (x : Run) (old new : ℕ)
    → OnOk res (v ≡ run_begun w x) → OnOk res (run_head x.kind ≤ w.bytes) → OnOk res (new ≡ old + run_head x.kind)
    → OnOk res (new + v.bytes ≡ old + w.bytes)
run_counted (Ok y) w v x old new is room whole = let z = head_counted x.kind w x room in rw is (omega (arith, whole, z))
run_counted (Err f) w v x old new is room whole = tt

-- what holds of a writer holds of what is one
pub begun_ok : {A : Type 0} (X : Writer → Type 0) (t : Writer) (res : Result A PieceFault) (v : Writer) → X t
    → OnOk res (v ≡ t) → OnOk res (X v)
begun_ok X t (Ok x) v z e = subst X (sym e) z
begun_ok X t (Err f) v z e = tt

pub begun_rest : {A : Type 0} (f : List Block) (w t : Writer) (front : List ℕ) (res : Result A PieceFault)
    (v : Writer) (old new : List ℕ) → rest_of f w ≡ front ++ rest_of f t → OnOk res (v ≡ t)
    → OnOk res (new ≡ old ++ front) → OnOk res (rest_of f v ≡ drop (length new - length old) (rest_of f w))
begun_rest f w t front (Ok x) v old new z e h = rw e (wrote_rest old new front (rest_of f w) (rest_of f t) h z)
begun_rest f w t front (Err e') v old new z e h = tt

pub chunk_causes : {A : Type 0} (res : Result A PieceFault) (models : Bool) (chunks bytes need r r' w w' : ℕ)
    → IfErr res (λ e. ChunkCause e chunks bytes need w w') → (IsTrue models → (0 < chunks) × (need ≤ bytes))
    → IfErr res (λ e. CutCause e models r r' w w')
chunk_causes (Ok x) models chunks bytes need r r' w w' h fits = tt
chunk_causes (Err f) models chunks bytes need r r' w w' h fits = chunk_cause f models chunks bytes need r r' w w' fits h

-- ---- a run that is still open

pub still_told : (P : Cursor → Type 0) (T : Cursor → ℕ) (W : Cursor → Type 0) (n : ℕ) (l : List Block) (w : Writer)
    (g : Gatherer) → w.copying ≡ None → SoundGatherer W n w.first w.past w.gatherer
    → SoundGatherer W n w.first w.past g → ToldWriter P T l w → ToldGatherer P l w.first w.past g
    → g.at.block + w.gatherer.count ≡ w.gatherer.at.block + g.count
    → (rest_of (frame_of l w) (gathering w g) ≡ rest_of (frame_of l w) w) × ToldWriter P T l (gathering w g)
still_told P T W n l w g none sound sound' told on grows =
    let same : begins g ≡ begins w.gatherer = omega (arith, grows, sound.behind_it, sound'.behind_it) in
    let rest : rest_of (frame_of l w) (gathering w g) ≡ rest_of (frame_of l w) w =
    ap (λ (m : ℕ). to_copy w.most (frame_of l w) m w.copying ++ bytes_of w.most (drop m (frame_of l w))) same in (
      rest,
      record {
        gathering = on;
        copies = rw none tt;
        count = rw same told.count;
        long = told.long
            ∙ ap length (sym rest);
      },
    )

pub still_sound : (W : Cursor → Type 0) (reach : Cursor → ℕ) (n b : ℕ) (w : Writer) (g : Gatherer) → w.copying ≡ None
    → SoundWriter W reach n b w → SoundGatherer W n w.first w.past g → SoundWriter W reach n b (gathering w g)
still_sound W reach n b w g none sound on =
    record { gathering = on; copies = rw none tt; most = sound.most; small = sound.small; fits = sound.fits }

-- ---- the next chunk of a raw run

pub is_copying : (W : Cursor → Type 0) (reach : Cursor → ℕ) (n b : ℕ) (w : Writer) (c : Copying) → w.copying ≡ Some c
    → SoundWriter W reach n b w → IsCopying W reach b w.first w.past (begins w.gatherer) w.bytes c
is_copying W reach n b w c is sound = rw is at sound.copies

pub mul_split : (x y z b : ℕ) → x ≤ y → y ≤ z → (z - x) * b ≡ (y - x) * b + (z - y) * b
mul_split x y z b low high = let e : z - x ≡ (y - x) + (z - y) = omega arith in rw e (omega arith)

-- what a writer needs of the frame of its piece
pub frame_long : (W : Cursor → Type 0) (n : ℕ) (l : List Block) (w : Writer)
    → SoundGatherer W n w.first w.past w.gatherer → n ≡ length l → w.past ≤ length (frame_of l w)
frame_long W n l w sound same =
    let end : w.past ≤ length l = omega (arith, sound.past, same) in
    let z = length-frame l w.first w.past sound.inner end in
    omega (arith, z, end)

pub record Opened (P : Cursor → Type 0) (T : Cursor → ℕ) (b : ℕ) (l : List Block) (w : Writer) (c : Copying)
    (q : ℕ) : Type 0 where
  pub chunk : rest_of (frame_of l w) w ≡ front_bytes kinds.Raw q (12 + q * b)
      ++ rest_of (frame_of l w) (chunk_opened w c b)
  pub enough : 0 < w.chunks
  pub room : 12 + q * b ≤ w.bytes
  pub told : ToldWriter P T l (chunk_opened w c b)

pub opened : (P : Cursor → Type 0) (T : Cursor → ℕ) (W : Cursor → Type 0) (reach : Cursor
    → ℕ) (n b : ℕ) (l : List Block) (w : Writer) (c : Copying) → w.copying ≡ Some c → n ≡ length l → AreBlocks b l
    → SoundWriter W reach n b w → ToldWriter P T l w → c.left ≡ 0 → Opened P T b l w c (next_blocks c w.most)
opened P T W reach n b l w c is same good sound told shut =
    let f = frame_of l w in
    let r = w.most in
    let u = begins w.gatherer in
    let q = next_blocks c r in
    let v = u - c.after in
    let h = is_copying W reach n b w c is sound in
    let t : ToldCopy P T f u c = rw is at told.copies in
    let a = c.here.block in
    let tail = bytes_of r (drop u f) in
    let gf = frame_blocks b l w.first w.past good in
    let end : u ≤ length f = let z = frame_long W n l w sound.gathering same in omega (arith, z, h.past) in
    let more : 0 < c.after = omega (arith, h.some, shut) in
    let back : AllOf kinds.Raw (between f v u) = raw_back f a v u (omega (arith, h.inner)) (omega arith) t.all in
    let front : AllOf kinds.Raw (between f a v) = raw_front f a v u (omega (arith, h.inner)) (omega arith) t.all in
    let whole : c.done ≡ (v - a) * b = omega (arith, h.total, shut) in
    let gone : drop c.done (raw_of (between f a v)) ≡ [] =
    drop_of_length-le (raw_of (between f a v)) (let y = raw_long b f a v (omega (arith, end)) front gf in
    omega (arith, y, whole)) in
    let g = between f v u in
    let long : length g ≡ c.after = length-take-le (u - v) (drop v f) (omega (arith, length-drop v f, end))
    ∙ (let z : u - v ≡ c.after = omega (arith, h.inner) in z) in
    let good' : AreBlocks b g = blocks_take b (u - v) (drop v f) (blocks_drop b v f gf) in
    let next = cut_next b r g q sound.most (omega (arith, long, more))
    (ap (λ (i : ℕ). min i r) (sym long)) back good' in
    let last : u - (c.after - q) ≡ v + q = omega (arith, h.inner) in
    let two : g ≡ between f v (v + q) ++ between f (v + q) u =
    between_two f v (v + q) u (omega arith) (omega (arith, h.inner)) in
    let first : length (between f v (v + q)) ≡ q =
    length-take-le (v + q - v) (drop v f) (omega (arith, length-drop v f, end, h.inner))
    ∙ (let z : v + q - v ≡ q = omega arith in z) in
    let front_is : take q g ≡ between f v (v + q) = ap (λ (y : List Block). take q y) two
    ∙ ap (λ (i : ℕ). take i (between f v (v + q) ++ between f (v + q) u)) (sym first)
    ∙ take-append_seam (between f v (v + q)) (between f (v + q) u) in
    let rest_is : drop q g ≡ between f (v + q) u = ap (λ (y : List Block). drop q y) two
    ∙ ap (λ (i : ℕ). drop i (between f v (v + q) ++ between f (v + q) u)) (sym first)
    ∙ drop-append_seam (between f v (v + q)) (between f (v + q) u) in
    let upto : AllOf kinds.Raw (between f a (v + q)) =
    raw_front f a (v + q) u (omega (arith, h.inner)) (omega (arith, h.inner)) t.all in
    let behind : drop c.done (raw_of (between f a (v + q))) ≡ raw_of (between f v (v + q)) =
    raw_behind b f a v (v + q) c.done (omega (arith, h.inner)) (omega arith)
    (omega (arith, end, h.inner)) upto gf whole in
    let head = front_bytes kinds.Raw q (12 + q * b) in
    let new = to_copy r f u (Some (opened_on c r b)) in
    let new_is : new ≡ raw_of (take q g) ++ cut_bytes r (drop q g) =
    ap (λ (m : ℕ). drop c.done (raw_of (between f a m)) ++ cut_bytes r (between f m u)) last
    ∙ ap (λ (y : List ℕ). y ++ cut_bytes r (between f (v + q) u)) behind
    ∙ ap (λ (y : List Block). raw_of y ++ cut_bytes r (between f (v + q) u)) (sym front_is)
    ∙ ap (λ (y : List Block). raw_of (take q g) ++ cut_bytes r y) (sym rest_is) in
    let old_is : to_copy r f u (Some c) ≡ head ++ new = ap (λ (y : List ℕ). y ++ cut_bytes r g) gone ∙ next.bytes
    ∙ ap (λ (y : List ℕ). head ++ y) (sym new_is) in
    let chunk : rest_of f w ≡ head ++ rest_of f (chunk_opened w c b) =
    ap (λ (o : Option Copying). to_copy r f u o ++ tail) is ∙ ap (λ (y : List ℕ). y ++ tail) old_is
    ∙ append_assoc head new tail in
    let total : length (rest_of f w) ≡ 12 + length (rest_of f (chunk_opened w c b)) =
    ap length chunk ∙ length-append head (rest_of f (chunk_opened w c b)) in
    let raw : length (raw_of (between f v (v + q))) ≡ q * b =
    raw_long b f v (v + q) (omega (arith, end, h.inner))
    (raw_front f v (v + q) u (omega arith) (omega (arith, h.inner)) back) gf
    ∙ ap (λ (i : ℕ). i * b) (let y : v + q - v ≡ q = omega arith in y) in
    let inside : q * b ≤ length (rest_of f (chunk_opened w c b)) =
    omega (
      arith,
      length-append new tail,
      ap length new_is,
      length-append (raw_of (take q g))
          (cut_bytes r (drop q g)),
      ap (λ (y : List Block). length (raw_of y)) front_is,
      raw,
    ) in
    let begun : to_begin r w.copying ≡ suc (chunks_in kinds.Raw (c.after - q) r) =
    ap (λ (o : Option Copying). to_begin r o) is ∙ one_cut c.after r sound.most more in
    record {
      chunk = chunk;
      enough = omega (arith, told.count, begun);
      room = omega (arith, told.long, total, inside);
      told = record {
        gathering = told.gathering;
        copies = record { here = t.here; next = t.next; all = t.all; stands = t.stands };
        count = omega (arith, told.count, begun);
        long = omega (arith, told.long, total);
      };
    }

pub opened_sound : (W : Cursor → Type 0) (reach : Cursor → ℕ) (n b : ℕ) (w : Writer) (c : Copying) → 0 < b
    → w.copying ≡ Some c → SoundWriter W reach n b w → c.left ≡ 0 → 12 + next_blocks c w.most * b ≤ w.bytes
    → SoundWriter W reach n b (chunk_opened w c b)
opened_sound W reach n b w c one is sound shut room =
    let h = is_copying W reach n b w c is sound in
    let u = begins w.gatherer in
    let q = next_blocks c w.most in
    let v = u - c.after in
    let last : u - (c.after - q) ≡ v + q = omega (arith, h.inner) in
    let m = mul_split c.here.block v (v + q) b (omega (arith, h.inner)) (omega arith) in
    let span : (v + q - v) * b ≡ q * b = ap (λ (i : ℕ). i * b) (let z : v + q - v ≡ q = omega arith in z) in
    record {
      gathering = sound.gathering;
      copies = record {
        first = h.first;
        order = h.order;
        until = h.until;
        past = h.past;
        part = h.part;
        copied = h.copied;
        inner = omega (arith, h.inner);
        total = rw last (omega (arith, h.total, shut, m, span));
        some = let p : q * 1 ≤ q * b = mul-le-mul_left q (let z : 1 ≤ b = omega arith in z) in
            omega (arith, p, h.some, shut, sound.most);
        room = omega (arith, room);
        here = h.here;
        next = h.next;
        reached = h.reached;
      };
      most = sound.most;
      small = sound.small;
      fits = omega (arith, sound.fits);
    }

-- ---- the next part of a raw run

-- w with another copying, and n bytes less to write
abbrev pub copying_on : Writer → Option Copying → ℕ → Writer
copying_on w c n = record {
  first = w.first;
  past = w.past;
  most = w.most;
  gatherer = w.gatherer;
  copying = c;
  chunks = w.chunks;
  bytes = w.bytes - n;
}

pub data PartCase (c : Copying) (r : Run) (b : ℕ) : Type 0 where
  void : r.blocks ≡ 0 → is_end r.kind ≡ false
      → next_copying c r b ≡ Some (record {
        here = c.here;
        next = r.next;
        size = c.size;
        done = c.done;
        left = c.left;
        after = c.after;
      }) → PartCase c r b
  raws : r.kind ≡ kinds.Raw
      → next_copying c r b ≡ Some (record {
        here = r.here;
        next = r.next;
        size = r.blocks * b;
        done = 0;
        left = c.left;
        after = c.after;
      }) → PartCase c r b
  other : (r.kind ≡ kinds.Raw → ⊥) → (0 < r.blocks) ⊎ (is_end r.kind ≡ true) → next_copying c r b ≡ None
      → PartCase c r b

by_kind : (c : Copying) (r : Run) (b : ℕ) (k : RunKind) → r.kind ≡ k → (r.blocks == 0) && not (is_end r.kind) ≡ false
    → (0 < r.blocks) ⊎ (is_end r.kind ≡ true) → PartCase c r b
by_kind c r b kinds.Raw e t some = raws e (rw (t, e) refl)
by_kind c r b (kinds.Fill w) e t some = other (λ z. absurd cc) some (rw (t, e) refl)
by_kind c r b kinds.Skip e t some = other (λ z. absurd cc) some (rw (t, e) refl)
by_kind c r b kinds.End e t some = other (λ z. absurd cc) some (rw (t, e) refl)

pub part_case : (c : Copying) (r : Run) (b : ℕ) → PartCase c r b
part_case c r b = elim (cases_Bool (r.blocks == 0)) [
  | inl z ↦ elim (cases_Bool (is_end r.kind)) [
    | inl e ↦ by_kind c r b r.kind refl (rw (z, e) refl) (inr e)
    | inr e ↦ void (eqb-true r.blocks 0 z) e (rw (z, e) refl)
  ]
  | inr z ↦ by_kind c r b r.kind refl (rw z refl) (inl (let q = eqb-false r.blocks 0 z in omega arith))
]

-- what is known of a part that was asked for up to block u, whatever the source gave
pub record PartFrom (W : Cursor → Type 0) (reach left : Cursor → ℕ) (b u n : ℕ) (from : Cursor) (r : Run) : Type 0 where
  pub next : r.next.block ≡ from.block + r.blocks
  pub capped : r.kind ≡ kinds.Raw → r.blocks ≤ u - from.block
  pub within : W r.next
  pub here : (r.here.block ≡ from.block) × W r.here
  pub reached : r.kind ≡ kinds.Raw → r.blocks * b ≤ reach r.here
  pub shorter : is_end r.kind ≡ false → left r.next < left from
  pub ended : is_end r.kind ≡ true → from.block ≡ n

-- the copying with its next part, in numbers
pub record NextPart (W : Cursor → Type 0) (reach left : Cursor → ℕ) (b s e u bytes : ℕ) (old c : Copying) : Type 0 where
  pub sound : IsCopying W reach b s e u bytes c
  pub fewer : left c.next < left old.next

-- blocks are left where bytes are left
pub goes_on : (W : Cursor → Type 0) (reach : Cursor → ℕ) (b s e u bytes : ℕ) (c : Copying)
    → IsCopying W reach b s e u bytes c → c.done ≡ c.size → 0 < c.left → c.next.block < u - c.after
goes_on W reach b s e u bytes c h whole remains = elim (cases_Bool (nat_lt c.next.block (u - c.after))) [
  | inl l ↦ ltb-true c.next.block (u - c.after) l
  | inr l ↦
      let over = ltb-false c.next.block (u - c.after) l in
      let most : (u - c.after - c.here.block) * b ≤ (c.next.block - c.here.block) * b =
      mul-le-mul_right b (let z : u - c.after - c.here.block ≤ c.next.block - c.here.block = omega
      (arith, over) in z) in
      absurd (omega (arith, most, h.total, h.part, remains, whole))
]

pub some_of : (c d : Copying) → Some c ≡ Some d → c ≡ d
some_of c d e = cc

pub next_sound : (W : Cursor → Type 0) (reach left : Cursor → ℕ) (b s e u bytes n : ℕ) (c d : Copying) (r : Run)
    → IsCopying W reach b s e u bytes c → c.done ≡ c.size → 0 < c.left → u ≤ n → PartFrom W reach left b u n c.next r
    → next_copying c r b ≡ Some d → NextPart W reach left b s e u bytes c d
next_sound W reach left b s e u bytes n c d r h whole remains end p is = elim (part_case c r b) [
  | void gone going same ↦
      let v : NextPart W reach left b s e u bytes c (record {
        here = c.here;
        next = r.next;
        size = c.size;
        done = c.done;
        left = c.left;
        after = c.after;
      }) = record {
        sound = record {
          first = h.first;
          order = omega (arith, h.order, p.next);
          until = omega (arith, h.until, p.next, gone);
          past = h.past;
          part = h.part ∙ ap (λ (m : ℕ). (m - c.here.block) * b) (let z : c.next.block ≡ r.next.block = omega
              (arith, p.next, gone) in z);
          copied = h.copied;
          inner = h.inner;
          total = h.total;
          some = h.some;
          room = h.room;
          here = h.here;
          next = p.within;
          reached = h.reached;
        };
        fewer = p.shorter going;
      } in
      subst (λ (x : Copying). NextPart W reach left b s e u bytes c x) (some_of _ d (sym same ∙ is)) v
  | raws k same ↦
      let q = p.capped k in
      let low = goes_on W reach b s e u bytes c h whole remains in
      let m = mul_split c.here.block c.next.block (u - c.after) b h.order (omega (arith, low)) in
      let v : NextPart W reach left b s e u bytes c (record {
        here = r.here;
        next = r.next;
        size = r.blocks * b;
        done = 0;
        left = c.left;
        after = c.after;
      }) = record {
        sound = record {
          first = omega (arith, p.here.0, h.first, h.order);
          order = omega (arith, p.here.0, p.next);
          until = omega (arith, p.next, q, h.until);
          past = h.past;
          part = ap (λ (x : ℕ). x * b) (let z : r.blocks ≡ r.next.block - r.here.block = omega (
            arith,
            p.next,
            p.here.0,
          ) in z);
          copied = omega arith;
          inner = omega (arith, p.here.0, low);
          total = rw p.here.0 (omega (arith, m, h.total, h.part, whole));
          some = h.some;
          room = h.room;
          here = p.here.1;
          next = p.within;
          reached = p.reached k;
        };
        fewer = p.shorter (ap is_end k);
      } in
      subst (λ (x : Copying). NextPart W reach left b s e u bytes c x) (some_of _ d (sym same ∙ is)) v
  | other nay some same ↦ absurd (let z : Some d ≡ None = sym is ∙ same in cc)
]

-- what a next part leaves as it is
pub next_keeps : (c d : Copying) (r : Run) (b : ℕ) → next_copying c r b ≡ Some d → (d.next ≡ r.next)
    × (d.left ≡ c.left) × (d.after ≡ c.after)
next_keeps c d r b is = elim (part_case c r b) [
  | void gone going same ↦ rw (sym (some_of _ d (sym same ∙ is))) (refl, refl, refl)
  | raws k same ↦ rw (sym (some_of _ d (sym same ∙ is))) (refl, refl, refl)
  | other nay some same ↦ absurd (let z : Some d ≡ None = sym is ∙ same in cc)
]

-- what is left of a raw run is known to be raw
pub raw_known : (P : Cursor → Type 0) (T : Cursor → ℕ) (W : Cursor → Type 0) (reach : Cursor
    → ℕ) (b n : ℕ) (l : List Block) (w : Writer) (c : Copying) → w.copying ≡ Some c → SoundWriter W reach n b w
    → n ≡ length l → ToldWriter P T l w
    → AllOf kinds.Raw (take (begins w.gatherer - c.next.block) (drop c.next.block l))
raw_known P T W reach b n l w c is sound same told =
    let h : IsCopying W reach b w.first w.past (begins w.gatherer) w.bytes c = rw is at sound.copies in
    let t : ToldCopy P T (frame_of l w) (begins w.gatherer) c = rw is at told.copies in
    let there = frame_take l w.first w.past c.next.block (begins w.gatherer - c.next.block)
    (omega (arith, h.first, h.order)) (omega (arith, h.until, h.past))
    (omega (arith, sound.gathering.past, same)) in
    rw there at (raw_back (frame_of l w) c.here.block c.next.block (begins w.gatherer) h.order h.until t.all)

-- a source that models its content gives a raw part where a raw run was seen
pub next_told : (P : Cursor → Type 0) (T : Cursor → ℕ) (W : Cursor → Type 0) (reach : Cursor
    → ℕ) (b o bytes : ℕ) (l : List Block) (s e u : ℕ) (c : Copying) (r : Run) → s ≤ e → e ≤ length l
    → AreBlocks b (frame l s e) → IsCopying W reach b s e u bytes c → c.done ≡ c.size → 0 < c.left
    → ToldCopy P T (frame l s e) u c → PartOf l c.next.block r → P r.next → P r.here → r.here.block ≡ c.next.block
    → (r.kind ≡ kinds.Raw → r.blocks ≤ T r.here) → (r.kind ≡ kinds.Raw → r.blocks ≤ u - c.next.block)
    → (d : Copying) × (next_copying c r b ≡ Some d) × ToldCopy P T (frame l s e) u d
    × (to_copy o (frame l s e) u (Some d) ≡ to_copy o (frame l s e) u (Some c))
next_told P T W reach b o bytes l s e u c r order within good h whole remains told part next here spot stands capped =
    let f = frame l s e in
    let long = length-frame l s e order within in
    let low = goes_on W reach b s e u bytes c h whole remains in
    let raw = raw_back f c.here.block c.next.block u h.order h.until told.all in
    let front = raw_front f c.here.block (u - c.after) u (omega (arith, h.inner)) (omega arith) told.all in
    elim (part_case c r b) [
      | void gone going same ↦ (
        _,
        same,
        record {
          here = told.here;
          next = next;
          all = told.all;
          stands = omega (arith, part.next, gone, told.stands);
        },
        refl,
      )
      | raws k same ↦ (
        _,
        same,
        record {
          here = here;
          next = next;
          all = rw spot raw;
          stands = let z = stands k in
              omega (arith, part.next, spot, z);
        },
        ap (λ (m : ℕ). drop 0 (raw_of (between f m (u - c.after))) ++ cut_bytes o (between f (u - c.after) u)) spot
            ∙ ap (λ (y : List ℕ). y ++ cut_bytes o (between f (u - c.after) u))
            (sym (raw_behind b f c.here.block c.next.block (u - c.after) c.done h.order (omega (arith, low))
            (omega (arith, h.past, long, within)) front good (whole ∙ h.part))),
      )
      | other nay some same ↦ absurd (nay (is_raw some))
    ]
  where
    is_raw : (0 < r.blocks) ⊎ (is_end r.kind ≡ true) → r.kind ≡ kinds.Raw
    is_raw (inr e') = absurd (let z = part.ended e' in let low = goes_on W reach b s e u bytes c h whole remains in
        omega (arith, z, low, h.past, within))
    is_raw (inl some) =
        let f = frame l s e in
        let low = goes_on W reach b s e u bytes c h whole remains in
        let raw = raw_back f c.here.block c.next.block u h.order h.until told.all in
        let same : take 1 (drop c.next.block f) ≡ take 1 (drop c.next.block l) =
        frame_take l s e c.next.block 1 (omega (arith, h.first, h.order)) (omega (arith, low, h.past)) within in
        let one : AllOf r.kind (take 1 (drop c.next.block l)) =
        rw (take-take 1 r.blocks (drop c.next.block l) (omega arith)) at
        (all_take r.kind 1 (take r.blocks (drop c.next.block l)) part.all) in
        let two : AllOf kinds.Raw (take 1 (drop c.next.block l)) =
        rw same at (rw (take-take 1 (u - c.next.block) (drop c.next.block f) (omega (arith, low))) at
        (all_take kinds.Raw 1 (between f c.next.block u) raw)) in
        first_is (take 1 (drop c.next.block l))
        (length-take-le 1 (drop c.next.block l) (omega (arith, length-drop c.next.block l, low, h.past, within)))
        one two
      where
        first_is : (xs : List Block) → length xs ≡ 1 → AllOf r.kind xs → AllOf kinds.Raw xs → r.kind ≡ kinds.Raw
        first_is [] e one two = absurd (omega arith)
        first_is (x ∷ xs) e one two = sym (kind_is r.kind x xs one) ∙ kind_is kinds.Raw x xs two

-- ---- bytes of a raw run

pub data CopyCase (c : Copying) (n : ℕ) : Type 0 where
  ended : c.after ≡ 0 → c.left ≡ n → copied_on c n ≡ None → CopyCase c n
  goes : (n ≤ c.left → 0 < c.left - n + c.after)
      → copied_on c n ≡ Some (record {
        here = c.here;
        next = c.next;
        size = c.size;
        done = c.done + n;
        left = c.left - n;
        after = c.after;
      }) → CopyCase c n

pub copy_case : (c : Copying) (n : ℕ) → CopyCase c n
copy_case c n = elim (cases_Bool (c.after == 0)) [
  | inl e ↦ elim (cases_Bool (c.left == n)) [
    | inl z ↦ ended (eqb-true c.after 0 e) (eqb-true c.left n z) (rw (e, z) refl)
    | inr z ↦ goes (λ le. let ne = eqb-false c.left n z in omega arith) (rw (e, z) refl)
  ]
  | inr e ↦ goes (λ le. let ne = eqb-false c.after 0 e in omega arith) (rw e refl)
]

pub copied_sound : (W : Cursor → Type 0) (reach : Cursor → ℕ) (b s e u bytes n : ℕ) (c : Copying)
    → IsCopying W reach b s e u bytes c → n ≤ c.left → c.done + n ≤ c.size
    → SoundCopying W reach b s e u (bytes - n) (copied_on c n)
copied_sound W reach b s e u bytes n c h fits room = elim (copy_case c n) [
  | ended x z same ↦ rw same tt
  | goes ne same ↦ rw same (record {
    first = h.first;
    order = h.order;
    until = h.until;
    past = h.past;
    part = h.part;
    copied = room;
    inner = h.inner;
    total = omega (arith, h.total, fits);
    some = ne fits;
    room =
        omega (arith, h.room);
    here = h.here;
    next = h.next;
    reached = h.reached;
  })
]

pub copied_fewer : (left : Cursor → ℕ) (bytes : ℕ) (c : Copying) (n : ℕ) → 0 < n → n ≤ bytes
    → copy_left left (bytes - n) (copied_on c n) < copy_left left bytes (Some c)
copied_fewer left bytes c n some fits = elim (copy_case c n) [
  | ended x z same ↦ rw same (omega arith)
  | goes ne same ↦ rw same (omega arith)
]

pub copied_passes : (c : Copying) (n u : ℕ) → c.next.block ≤ u → c.next.block ≤ passed_to u (copied_on c n)
copied_passes c n u le = elim (copy_case c n) [
  | ended x z same ↦ rw same le
  | goes ne same ↦ rw same (omega arith)
]

copied_told : (P : Cursor → Type 0) (T : Cursor → ℕ) (f : List Block) (u : ℕ) (c : Copying) (n : ℕ)
    → ToldCopy P T f u c → ToldCopying P T f u (copied_on c n)
copied_told P T f u c n h = elim (copy_case c n) [
  | ended x z same ↦ rw same tt
  | goes ne same ↦ rw same (record { here = h.here; next = h.next; all = h.all; stands = h.stands })
]

copied_begin : (r : ℕ) (c : Copying) (n : ℕ) → 0 < r → to_begin r (copied_on c n) ≡ chunks_in kinds.Raw c.after r
copied_begin r c n some = elim (copy_case c n) [
  | ended x z same ↦ rw (same, x) (sym (no_cut r some))
  | goes ne same ↦ rw same refl
]

-- n bytes are gone of what was to be copied
copied_rest : (W : Cursor → Type 0) (reach : Cursor → ℕ) (P : Cursor → Type 0) (T : Cursor
    → ℕ) (b r s e bytes : ℕ) (f : List Block) (u : ℕ) (c : Copying) (n : ℕ) (tail : List ℕ)
    → IsCopying W reach b s e u bytes c → ToldCopy P T f u c → u ≤ length f → AreBlocks b f → n ≤ c.left
    → (to_copy r f u (copied_on c n) ++ tail ≡ drop n (to_copy r f u (Some c) ++ tail))
    × (n ≤ length (drop c.done (raw_of (between f c.here.block (u - c.after)))))
copied_rest W reach P T b r s e bytes f u c n tail h told within good fits =
    let v = u - c.after in
    let whole = raw_of (between f c.here.block v) in
    let cut = cut_bytes r (between f v u) in
    let front = raw_front f c.here.block v u (omega (arith, h.inner)) (omega arith) told.all in
    let long : length whole ≡ (v - c.here.block) * b = raw_long b f c.here.block v (omega (arith, within)) front good in
    let left : length (drop c.done whole) ≡ c.left = omega (arith, length-drop c.done whole, long, h.total) in
    let on : drop n ((drop c.done whole ++ cut) ++ tail) ≡ drop n (drop c.done whole) ++ (cut ++ tail) =
    ap (λ (y : List ℕ). drop n y) (append_assoc (drop c.done whole) cut tail)
    ∙ drop-append-le n (drop c.done whole) (cut ++ tail) (omega (arith, left, fits)) in (
      elim (copy_case c n) [
        | ended x z same ↦
            let none : drop n (drop c.done whole) ≡ [] =
            drop_of_length-le (drop c.done whole) (omega (arith, left, z)) in
            let void : cut ≡ [] = ap (λ (i : ℕ). cut_bytes r (between f i u)) (let y : v ≡ u = omega (arith, x) in y)
            ∙ ap (λ (g : List Block). cut_bytes r g) (between_same f u) in
            ap (λ (o : Option Copying). to_copy r f u o ++ tail) same
            ∙ sym (on ∙ ap (λ (y : List ℕ). y ++ (cut ++ tail)) none ∙ ap (λ (y : List ℕ). y ++ tail) void)
        | goes ne same ↦
            ap (λ (o : Option Copying). to_copy r f u o ++ tail) same
            ∙ append_assoc (drop (c.done + n) whole) cut tail
            ∙ ap (λ (y : List ℕ). y ++ (cut ++ tail)) (sym (drop-drop n c.done whole)) ∙ sym on
      ],
      omega (arith, left, fits),
    )

-- ---- the measure

less_by : (x y c d k : ℕ) → x < y → c < k → x * k + c < y * k + d
less_by x y c d k lt small = let m : k * (x + 1) ≤ k * y = mul-le-mul_left k (let z : x + 1 ≤ y = omega arith in z) in
    omega arith

pub write_looks : (left : Cursor → ℕ) (n : ℕ) (w v : Writer) (g : Gatherer) → v.past ≡ w.past → v.gatherer ≡ g
    → look_left left n w.past g < look_left left n w.past w.gatherer → copy_left left v.bytes v.copying < 2 ^ 65
    → write_left left n v < write_left left n w
unfolding write_left
write_looks left n w v g e f lt small =
    rw (e, f) (less_by (look_left left n w.past g) (look_left left n w.past w.gatherer)
    (copy_left left v.bytes v.copying) (copy_left left w.bytes w.copying) (2 ^ 65) lt small)

pub write_copies : (left : Cursor → ℕ) (n : ℕ) (w v : Writer) → v.past ≡ w.past → v.gatherer ≡ w.gatherer
    → copy_left left v.bytes v.copying < copy_left left w.bytes w.copying → write_left left n v < write_left left n w
unfolding write_left
write_copies left n w v e f lt = rw (e, f) (omega (arith, lt))

copies_small : (left : Cursor → ℕ) (W : Cursor → Type 0) (reach : Cursor → ℕ) (n b : ℕ) (w : Writer)
    → ((c : Cursor) → W c → left c < 2 ^ 64) → SoundWriter W reach n b w → copy_left left w.bytes w.copying < 2 ^ 65
copies_small left W reach n b w fits h = small w.copying h.copies
  where
    small : (o : Option Copying) → SoundCopying W reach b w.first w.past (begins w.gatherer) w.bytes o
        → copy_left left w.bytes o < 2 ^ 65
    small None s = omega arith
    small (Some c) s = let z = fits c.next s.next in omega (arith, z, h.fits)

-- a run more is begun
pub begun_left : (left : Cursor → ℕ) (W : Cursor → Type 0) (reach : Cursor → ℕ) (n b : ℕ) (w : Writer) (g : Gatherer)
    (x : Run) → ((c : Cursor) → W c → left c < 2 ^ 64)
    → look_left left n w.past g < look_left left n w.past w.gatherer
    → SoundWriter W reach n b (run_begun (gathering w g) x)
    → write_left left n (run_begun (gathering w g) x) < write_left left n w
begun_left left W reach n b w g x fits lt sound = let k = begun_keeps x.kind (gathering w g) x in
    write_looks left n w (run_begun (gathering w g) x) g k.1 k.0 lt
    (copies_small left W reach n b (run_begun (gathering w g) x) fits sound)

pub none_small : (left : Cursor → ℕ) (bytes : ℕ) (o : Option Copying) → o ≡ None → copy_left left bytes o < 2 ^ 65
none_small left bytes o e = rw e (omega arith)

-- ---- the writer with the next part, and with bytes copied

pub record NextWriter (P : Cursor → Type 0) (T : Cursor → ℕ) (l : List Block) (w : Writer) (d : Copying) : Type 0 where
  pub told : ToldWriter P T l (copying_on w (Some d) 0)
  pub rest : rest_of (frame_of l w) (copying_on w (Some d) 0) ≡ rest_of (frame_of l w) w

pub next_writer : (P : Cursor → Type 0) (T : Cursor → ℕ) (W : Cursor → Type 0) (reach : Cursor
    → ℕ) (b n : ℕ) (l : List Block) (w : Writer) (c : Copying) (r : Run) → w.copying ≡ Some c
    → SoundWriter W reach n b w → n ≡ length l → AreBlocks b l → c.done ≡ c.size → 0 < c.left → ToldWriter P T l w
    → PartOf l c.next.block r → P r.next → P r.here → r.here.block ≡ c.next.block
    → (r.kind ≡ kinds.Raw → r.blocks ≤ T r.here)
    → (r.kind ≡ kinds.Raw → r.blocks ≤ begins w.gatherer - c.next.block)
    → (d : Copying) × (next_copying c r b ≡ Some d) × NextWriter P T l w d
next_writer P T W reach b n l w c r is sound same good whole remains told part next here spot stands capped =
    let h = is_copying W reach n b w c is sound in
    let t : ToldCopy P T (frame_of l w) (begins w.gatherer) c = rw is at told.copies in
    let x = next_told P T W reach b w.most w.bytes l w.first w.past (begins w.gatherer) c r sound.gathering.inner
    (omega (arith, sound.gathering.past, same)) (frame_blocks b l w.first w.past good) h whole remains t part next
    here spot stands capped in
    let rest : rest_of (frame_of l w) (copying_on w (Some x.0) 0) ≡ rest_of (frame_of l w) w =
    ap (λ (y : List ℕ). y ++ bytes_of w.most (drop (begins w.gatherer) (frame_of l w))) x.3
    ∙ ap (λ (o : Option Copying). to_copy w.most (frame_of l w) (begins w.gatherer) o
    ++ bytes_of w.most (drop (begins w.gatherer) (frame_of l w))) (sym is) in
    let begun : to_begin w.most (Some x.0) ≡ to_begin w.most w.copying =
    ap (λ (m : ℕ). chunks_in kinds.Raw m w.most) (next_keeps c x.0 r b x.1).2
    ∙ sym (ap (λ (o : Option Copying). to_begin w.most o) is) in (
      x.0,
      x.1,
      record {
        told = record {
          gathering = told.gathering;
          copies = x.2;
          count = omega (arith, told.count, begun);
          long = (let z : w.bytes - 0 ≡ w.bytes = omega arith in z)
              ∙ told.long ∙ ap length (sym rest);
        };
        rest = rest;
      },
    )

pub record CopiedWriter (P : Cursor → Type 0) (T : Cursor → ℕ) (l : List Block) (w : Writer) (c : Copying)
    (n : ℕ) : Type 0 where
  pub told : ToldWriter P T l (copying_on w (copied_on c n) n)
  pub rest : rest_of (frame_of l w) (copying_on w (copied_on c n) n) ≡ drop n (rest_of (frame_of l w) w)
  pub raw : AllOf kinds.Raw (take (c.next.block - c.here.block) (drop c.here.block l))
  pub bytes : take n (drop c.done (raw_of (take (c.next.block - c.here.block) (drop c.here.block l)))) ≡ take n
      (rest_of (frame_of l w) w)

pub copied_writer : (P : Cursor → Type 0) (T : Cursor → ℕ) (W : Cursor → Type 0) (reach : Cursor
    → ℕ) (b m : ℕ) (l : List Block) (w : Writer) (c : Copying) (n : ℕ) → w.copying ≡ Some c
    → SoundWriter W reach m b w → m ≡ length l → AreBlocks b l → ToldWriter P T l w → c.done + n ≤ c.size → n ≤ c.left
    → CopiedWriter P T l w c n
copied_writer P T W reach b m l w c n is sound same good told room fits =
    let f = frame_of l w in
    let u = begins w.gatherer in
    let v = u - c.after in
    let q = c.next.block - c.here.block in
    let h = is_copying W reach m b w c is sound in
    let t : ToldCopy P T f u c = rw is at told.copies in
    let gf = frame_blocks b l w.first w.past good in
    let tail = bytes_of w.most (drop u f) in
    let end : w.past ≤ length l = omega (arith, sound.gathering.past, same) in
    let within : u ≤ length f = let z = frame_long W m l w sound.gathering same in omega (arith, z, h.past) in
    let x = copied_rest W reach P T b w.most w.first w.past w.bytes f u c n tail h t within gf fits in
    let remains = drop c.done (raw_of (between f c.here.block v)) in
    let cut = cut_bytes w.most (between f v u) in
    let whole : rest_of f w ≡ to_copy w.most f u (Some c) ++ tail =
    ap (λ (o : Option Copying). to_copy w.most f u o ++ tail) is in
    let rest : rest_of f (copying_on w (copied_on c n) n) ≡ drop n (rest_of f w) =
    x.0 ∙ ap (λ (y : List ℕ). drop n y) (sym whole) in
    let there : take q (drop c.here.block f) ≡ take q (drop c.here.block l) =
    frame_take l w.first w.past c.here.block q h.first (omega (arith, h.order, h.until, h.past)) end in
    let front = raw_front f c.here.block c.next.block u h.order h.until t.all in
    let begun : to_begin w.most w.copying ≡ chunks_in kinds.Raw c.after w.most =
    ap (λ (o : Option Copying). to_begin w.most o) is in
    record {
      told = record {
        gathering = told.gathering;
        copies = copied_told P T f u c n t;
        count = omega (arith, told.count, begun, copied_begin w.most c n sound.most);
        long = let z = ap length rest in omega (arith, z, told.long, length-drop n (rest_of f w));
      };
      rest = rest;
      raw = rw there at front;
      bytes = ap (λ (y : List Block). take n (drop c.done (raw_of y))) (sym there)
          ∙ raw_within b f c.here.block c.next.block u c.done n h.order h.until within t.all gf
          (omega (arith, room, h.part))
          ∙ sym (raw_within b f c.here.block v u c.done n (omega (arith, h.inner)) (omega arith) within t.all gf
          (omega (arith, h.total, fits)))
          ∙ sym (ap (λ (y : List ℕ). take n y) (whole ∙ append_assoc remains cut tail)
          ∙ take-append-le n remains (cut ++ tail) x.1);
    }

pub part_front : (n : ℕ) (ys post : List ℕ) → n ≤ length ys → take (n - 0) (ys ++ post) ≡ take n ys
part_front n ys post le = ap (λ (m : ℕ). take m (ys ++ post)) (let z : n - 0 ≡ n = omega arith in z)
    ∙ take-append-le n ys post le

-- nothing is left to be written of a source that models its content, where no run is left
pub told_whole : (P : Cursor → Type 0) (T : Cursor → ℕ) (W : Cursor → Type 0) (n : ℕ) (l : List Block) (w : Writer)
    → SoundGatherer W n w.first w.past w.gatherer → n ≡ length l → w.copying ≡ None → is_end w.gatherer.kind ≡ true
    → ToldWriter P T l w → (w.bytes ≡ 0) × (w.chunks ≡ 0)
told_whole P T W n l w sound same none end told =
    let f = frame_of l w in
    let u = begins w.gatherer in
    let e = sound.ended end in
    let long : length f ≡ length l = length-frame l w.first w.past sound.inner (omega (arith, sound.past, same)) in
    let gone : drop u f ≡ [] = drop_of_length-le f (omega (arith, long, same, e.0, e.1)) in
    let rest : rest_of f w ≡ [] = ap (λ (c : Option Copying). to_copy w.most f u c ++ bytes_of w.most (drop u f)) none
    ∙ ap (λ (y : List Block). bytes_of w.most y) gone in
    let begun : to_begin w.most w.copying ≡ 0 = ap (λ (o : Option Copying). to_begin w.most o) none in (
      told.long ∙ ap length rest,
      omega (arith, told.count, begun, ap (λ (y : List Block). length (chunks_of w.most y)) gone),
    )
