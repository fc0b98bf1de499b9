-- What is written of a piece leads to a sparse image, whatever the source gave.
use Rattle.std.proofs.Common.{mul-le-mul_right, ◌≡◌, ℕ, zero, suc, ◌+◌, ◌-◌, ◌*◌, ◌^◌, ◌<◌, ◌≤◌, Bool, true, false}
use Rattle.std.proofs.Common.{List, [], ◌∷◌, ◌++◌, length, refl, sym, ap, subst, ◌∙◌, append_assoc, append-nil, arith}
use Rattle.std.proofs.Common.{length-append, length-take, length-drop, take-append-drop, take, drop, ◌%◌, Some, None}
use Rattle.std.proofs.Common.{Result, Ok, Err, OnOk, IfOk, inl, inr, ◌⊎◌}
use Rattle.std.specs.List.{concat, AllByRecursion}
use Rattle.std.proofs.lemmas.List.{take_all}
use Rattle.abt_sparse.specs.Block.{split}
use Rattle.abt_sparse.specs.Chunk.{Header, Chunk, Raws, Fills, Skips, count, data_of, plain, plain_header}
use Rattle.abt_sparse.specs.Chunk.{header_record, image_of}
use Rattle.abt_sparse.specs.Fails.{Spells, counted_in}
use Rattle.abt_sparse.proofs.ChunkLaws.{length-split}
use Rattle.abt_sparse.proofs.PieceLaws.{CanWrite, image_spells}
use Rattle.abt_runs.specs.Part.{is_end}
use Rattle.abt_runs.specs.declared.part.Cursor.{Cursor}
use Rattle.abt_runs.specs.declared.part.Run.{Run}
use Rattle.abt_runs.specs.declared.part.RunKind.{RunKind}
use Rattle.abt_runs.specs.declared.part.RunKind.TheVariants as kinds
use Rattle.abt_pieces.specs.Gather.{ClosedRun, SoundGatherer}
use Rattle.abt_pieces.specs.Write.{begins, front_bytes, front_begun, raw_begun, begun_as, run_begun, run_front}
use Rattle.abt_pieces.specs.Write.{run_head, next_blocks, chunk_opened, copied_on}
use Rattle.abt_pieces.specs.Cutter.{first_writer, is_begun, has_failed}
use Rattle.abt_pieces.specs.Image.{Appended, Leads, IsPlainImage, IsPlain, AreChunks, MayCome, StageMayCome}
use Rattle.abt_pieces.specs.Image.{copy_to_come, blocks_to_come}
use Rattle.abt_pieces.specs.declared.fault.PieceFault.{PieceFault}
use Rattle.abt_pieces.specs.declared.gather.Gatherer.{Gatherer}
use Rattle.abt_pieces.specs.declared.outline.Outline.{Outline}
use Rattle.abt_pieces.specs.declared.write.Copying.{Copying}
use Rattle.abt_pieces.specs.declared.write.Writer.{Writer}
use Rattle.abt_pieces.specs.declared.stage.CutterStage.{CutterStage}
use Rattle.abt_pieces.specs.declared.stage.CutterStage.TheVariants.{Between, Plan, Begin, Write, Done, Failed}
use Rattle.abt_pieces.proofs.Writing.{raw_chunk, fill_chunk}
use Rattle.abt_pieces.proofs.Going.{gathering, copying_on, ended, goes, copy_case}

-- ---- what leads on

pub leads_same : (P Q : List ℕ → Type 0) (old new : List ℕ) → new ≡ old → ((t : List ℕ) → Q t → P t) → Leads P Q old new
leads_same P Q old new e h = record { wrote = []; behind = e ∙ sym (append-nil old); is = h }

pub leads_join : (P Q R : List ℕ → Type 0) (w0 w1 w2 : List ℕ) → Leads P Q w0 w1 → Leads Q R w1 w2 → Leads P R w0 w2
leads_join P Q R w0 w1 w2 a b = record {
  wrote = a.wrote ++ b.wrote;
  behind = b.behind ∙ ap (λ (y : List ℕ). y ++ b.wrote) a.behind ∙ append_assoc w0 a.wrote b.wrote;
  is = λ t h. subst P (sym (append_assoc a.wrote b.wrote t)) (a.is (b.wrote ++ t) (b.is t h));
}

-- the last step writes nothing, and what was written before is all
pub leads_whole : (P Q : List ℕ → Type 0) (w0 w1 w2 : List ℕ) → Leads P Q w0 w1 → Appended Q w1 w2 → Appended P w0 w2
leads_whole P Q w0 w1 w2 a b = record {
  wrote = a.wrote ++ b.wrote;
  behind = b.behind ∙ ap (λ (y : List ℕ). y ++ b.wrote) a.behind ∙ append_assoc w0 a.wrote b.wrote;
  is = a.is b.wrote b.is;
}

pub nothing_appended : (P : List ℕ → Type 0) (old new : List ℕ) → new ≡ old → P [] → Appended P old new
nothing_appended P old new e h = record { wrote = []; behind = e ∙ sym (append-nil old); is = h }

-- ---- the chunk of a run, whatever its bytes are

-- a prefix and bytes after it are one chunk of q blocks
pub record OneChunk (b q : ℕ) (x : List ℕ) : Type 0 where
  pub chunk : Chunk
  pub blocks : count chunk ≡ q
  pub plainly : IsPlain b chunk
  pub bytes : x ≡ plain chunk

concat-split : (b n : ℕ) (d : List ℕ) → length d ≡ n * b → concat (split b n d) ≡ d
concat-split b zero [] h = refl
concat-split b zero (x ∷ d) h = absurd (omega arith)
concat-split b (suc n) d h = rw (concat-split b n (drop b d) (omega (arith, length-drop b d))) (take-append-drop b d)

split_long : (b n : ℕ) (d : List ℕ) → length d ≡ n * b → AllByRecursion (λ x. length x ≡ b) (split b n d)
split_long b zero d h = tt
split_long b (suc n) d h = (omega (arith, length-take b d), split_long b n (drop b d) (omega (arith, length-drop b d)))

pub raw_one : (b q : ℕ) (raw : List ℕ) → length raw ≡ q * b → 12 + q * b < 2 ^ 32
    → OneChunk b q (front_bytes kinds.Raw q (12 + q * b) ++ raw)
raw_one b q raw long fits =
    let d = concat-split b q raw long in
    let n = length-split b q raw in
    let size : length (data_of (Raws (split b q raw))) ≡ q * b = ap length d ∙ long in
    record {
      chunk = Raws (split b q raw);
      blocks = n;
      plainly = record { is = split_long b q raw long; fits = omega (arith, size, fits) };
      bytes = sym (raw_chunk (length (split b q raw)) q (12 + length (data_of (Raws (split b q raw)))) (12 + q * b)
          (data_of (Raws (split b q raw))) raw n (ap (λ (k : ℕ). 12 + k) size) d);
    }

pub fill_one : (b q : ℕ) (w : List ℕ) → length w ≡ 4 → OneChunk b q (front_bytes (kinds.Fill w) q 16 ++ [])
fill_one b q w four = record {
  chunk = Fills w q;
  blocks = refl;
  plainly = record { is = four; fits = omega (arith, four) };
  bytes = sym (fill_chunk q q w w refl refl four);
}

pub skip_one : (b q : ℕ) → OneChunk b q (front_bytes kinds.Skip q 12 ++ [])
skip_one b q = record {
  chunk = Skips q;
  blocks = refl;
  plainly = record { is = tt; fits = omega arith };
  bytes = append-nil (front_bytes kinds.Skip q 12);
}

pub no_raw : (raw : List ℕ) → length raw ≡ 0 → raw ≡ []
no_raw [] e = refl
no_raw (x ∷ raw) e = absurd (omega arith)

-- one chunk before others
pub joined_chunks : (b k j q : ℕ) (x rest : List ℕ) → OneChunk b q x → AreChunks b k j rest
    → AreChunks b (suc k) (q + j) (x ++ rest)
joined_chunks b k j q x rest o h = record {
  chunks = o.chunk ∷ h.chunks;
  count = ap suc h.count;
  blocks = omega (arith, o.blocks, h.blocks);
  all = (o.plainly, h.all);
  bytes = ap (λ (y : List ℕ). y ++ rest) o.bytes ∙ ap (λ (y : List ℕ). plain o.chunk ++ y) h.bytes;
}

-- ---- a run that has ended

-- one chunk more, first, of q blocks
one_more : (b n : ℕ) (w : Writer) (g : Gatherer) (k : RunKind) (q : ℕ) (front t : List ℕ) → w.copying ≡ None
    → n - begins w.gatherer ≡ q + (n - begins g) → 0 < w.chunks → OneChunk b q (front ++ [])
    → MayCome b n (front_begun (gathering w g) k) t → MayCome b n w (front ++ t)
one_more b n w g k q front t none blocks some o h =
    let few : length h.raw ≡ 0 = h.long ∙ ap copy_to_come none in
    let still : blocks_to_come w.copying ≡ 0 = ap blocks_to_come none in
    let more : AreChunks b (w.chunks - 1) (n - begins g) h.rest =
    subst (λ (m : ℕ). AreChunks b (w.chunks - 1) m h.rest)
    (let z : blocks_to_come w.copying + (n - begins g) ≡ n - begins g = omega (arith, still) in z) h.chunks in
    let j = joined_chunks b (w.chunks - 1) (n - begins g) q (front ++ []) h.rest o more in
    record {
      raw = [];
      rest = (front ++ []) ++ h.rest;
      long = sym (ap copy_to_come none);
      chunks = subst (λ (k : ℕ). AreChunks b k (blocks_to_come w.copying + (n - begins w.gatherer)) ((front ++ [])
          ++ h.rest)) (let z : suc (w.chunks - 1) ≡ w.chunks = omega arith in z)
          (subst (λ (m : ℕ). AreChunks b (suc (w.chunks - 1)) m ((front ++ []) ++ h.rest))
          (let z : q + (n - begins g) ≡ blocks_to_come w.copying + (n - begins w.gatherer) = omega (
            arith,
            blocks,
            still,
          ) in z) j);
      bytes = ap (λ (y : List ℕ). front ++ y) (h.bytes ∙ ap (λ (y : List ℕ). y ++ h.rest) (no_raw h.raw few))
          ∙ ap (λ (y : List ℕ). y ++ h.rest) (sym (append-nil front));
    }

raw_more : (b n : ℕ) (w : Writer) (g : Gatherer) (x : Run) (t : List ℕ) → w.copying ≡ None
    → n - begins w.gatherer ≡ x.blocks + (n - begins g) → MayCome b n (raw_begun (gathering w g) x) t → MayCome b n w t
raw_more b n w g x t none blocks h = record {
  raw = [];
  rest = h.rest;
  long = sym (ap copy_to_come none);
  chunks = subst (λ (m : ℕ). AreChunks b w.chunks m h.rest)
      (let z : x.blocks + (n - begins g) ≡ blocks_to_come w.copying + (n - begins w.gatherer) = omega (
        arith,
        blocks,
        ap blocks_to_come none,
      ) in z) h.chunks;
  bytes = h.bytes ∙ ap (λ (y : List ℕ). y ++ h.rest) (no_raw h.raw h.long);
}

run_comes : (b n : ℕ) (w : Writer) (g : Gatherer) (x : Run) (k : RunKind) → w.copying ≡ None
    → n - begins w.gatherer ≡ x.blocks + (n - begins g) → is_end k ≡ false → (0 < run_head k → 0 < w.chunks)
    → length (run_front k x.blocks) ≡ run_head k
    → (t : List ℕ) → MayCome b n (begun_as k (gathering w g) x) t → MayCome b n w (run_front k x.blocks ++ t)
run_comes b n w g x kinds.Raw none blocks going some head t h = raw_more b n w g x t none blocks h
run_comes b n w g x (kinds.Fill v) none blocks going some head t h =
    one_more b n w g (kinds.Fill v) x.blocks (front_bytes (kinds.Fill v) x.blocks 16) t none blocks
    (some (omega arith)) (fill_one b x.blocks v (omega (arith, head))) h
run_comes b n w g x kinds.Skip none blocks going some head t h =
    one_more b n w g kinds.Skip x.blocks (front_bytes kinds.Skip x.blocks 12) t none blocks (some (omega arith))
    (skip_one b x.blocks) h
run_comes b n w g x kinds.End none blocks going some head t h = absurd (let e : true ≡ false = going in cc)

pub run_leads : {A : Type 0} (W : Cursor → Type 0) (b n : ℕ) (w : Writer) (g : Gatherer) (x : Run)
    (res : Result A PieceFault) (v : Writer) (old new : List ℕ) → w.copying ≡ None → is_end w.gatherer.kind ≡ false
    → SoundGatherer W n w.first w.past w.gatherer → SoundGatherer W n w.first w.past g → ClosedRun w.gatherer g x
    → OnOk res (v ≡ run_begun (gathering w g) x) → OnOk res (0 < run_head x.kind → 0 < w.chunks)
    → OnOk res (new ≡ old ++ run_front x.kind x.blocks) → OnOk res (length new ≡ length old + run_head x.kind)
    → OnOk res (Leads (MayCome b n w) (MayCome b n v) old new)
run_leads W b n w g x (Ok y) v old new none going sound on run is some written whole =
    let blocks : n - begins w.gatherer ≡ x.blocks + (n - begins g) =
    omega (arith, sound.behind_it, sound.room, on.behind_it, on.room, run.blocks, run.start) in
    let head : length (run_front x.kind x.blocks) ≡ run_head x.kind =
    omega (arith, whole, ap length written, length-append old (run_front x.kind x.blocks)) in
    let goes : is_end x.kind ≡ false = ap is_end run.kind ∙ going in
    record {
      wrote = run_front x.kind x.blocks;
      behind = written;
      is = λ t h. run_comes b n w g x x.kind none blocks goes some head t (rw is at h);
    }
run_leads W b n w g x (Err f) v old new none going sound on run is some written whole = tt

-- a part more of the open run changes nothing
pub look_comes : (W : Cursor → Type 0) (b n : ℕ) (w : Writer) (g : Gatherer)
    → SoundGatherer W n w.first w.past w.gatherer → SoundGatherer W n w.first w.past g
    → g.at.block + w.gatherer.count ≡ w.gatherer.at.block + g.count
    → (t : List ℕ) → MayCome b n (gathering w g) t → MayCome b n w t
look_comes W b n w g sound on grows t h = record {
  raw = h.raw;
  rest = h.rest;
  long = h.long;
  chunks = subst (λ (u : ℕ). AreChunks b w.chunks (blocks_to_come w.copying + (n - u)) h.rest)
      (let z : begins g ≡ begins w.gatherer = omega (arith, sound.behind_it, on.behind_it, grows) in z) h.chunks;
  bytes = h.bytes;
}

-- ---- the chunks of a raw run

pub open_leads : (b n : ℕ) (w : Writer) (c : Copying) (old new : List ℕ) → w.copying ≡ Some c → c.left ≡ 0
    → 0 < w.chunks → 12 + w.most * b < 2 ^ 32
    → new ≡ old ++ front_bytes kinds.Raw (next_blocks c w.most) (12 + next_blocks c w.most * b)
    → Leads (MayCome b n w) (MayCome b n (chunk_opened w c b)) old new
open_leads b n w c old new is shut some small written =
    let q = next_blocks c w.most in
    let front = front_bytes kinds.Raw q (12 + q * b) in
    let most : q * b ≤ w.most * b = mul-le-mul_right b (let z : q ≤ w.most = omega arith in z) in
    record {
      wrote = front;
      behind = written;
      is = λ t h.
          let o = raw_one b q h.raw h.long (omega (arith, most, small)) in
          let j = joined_chunks b (w.chunks - 1) ((c.after - q) + (n - begins w.gatherer)) q (front
          ++ h.raw) h.rest o h.chunks in
          record {
            raw = [];
            rest = (front ++ h.raw) ++ h.rest;
            long = sym (ap copy_to_come is ∙ shut);
            chunks = rw is (subst (λ (k : ℕ). AreChunks b k (c.after + (n - begins w.gatherer)) ((front ++ h.raw)
                ++ h.rest)) (let z : suc (w.chunks - 1) ≡ w.chunks = omega arith in
                z) (subst (λ (m : ℕ). AreChunks b (suc (w.chunks - 1)) m ((front ++ h.raw) ++ h.rest))
                (let z : q + ((c.after - q) + (n - begins w.gatherer)) ≡ c.after +
                (n - begins w.gatherer) = omega arith in z) j));
            bytes = ap (λ (y : List ℕ). front ++ y) h.bytes ∙ sym (append_assoc front h.raw h.rest);
          };
    }

-- the next part of a raw run has as much left
pub part_comes : (b n : ℕ) (w v : Writer) (c d : Copying) → w.copying ≡ Some c → v.copying ≡ Some d → d.left ≡ c.left
    → d.after ≡ c.after → v.chunks ≡ w.chunks → v.gatherer ≡ w.gatherer → (t : List ℕ) → MayCome b n v t
    → MayCome b n w t
part_comes b n w v c d is now same behind chunks g t h = record {
  raw = h.raw;
  rest = h.rest;
  long = h.long ∙ ap copy_to_come now ∙ same ∙ sym (ap copy_to_come is);
  chunks = subst (λ (m : ℕ). AreChunks b w.chunks (m + (n - begins w.gatherer)) h.rest) (ap blocks_to_come now
      ∙ behind ∙ sym (ap blocks_to_come is))
      (subst (λ (x : Gatherer). AreChunks b w.chunks (blocks_to_come v.copying + (n - begins x)) h.rest) g
      (subst (λ (k : ℕ). AreChunks b k (blocks_to_come v.copying + (n - begins v.gatherer)) h.rest) chunks
      h.chunks));
  bytes = h.bytes;
}

-- what is left of a chunk once n bytes more of it are copied
copied_left : (c : Copying) (n : ℕ) → n ≤ c.left → (copy_to_come (copied_on c n) + n ≡ c.left)
    × (blocks_to_come (copied_on c n) ≡ c.after)
copied_left c n le = elim (copy_case c n) [
  | ended x z same ↦ rw same (omega (arith, z), sym x)
  | goes ne same ↦ rw same (omega (arith, le), refl)
]

pub copy_leads : (b m : ℕ) (w : Writer) (c : Copying) (n : ℕ) (x old new : List ℕ) → w.copying ≡ Some c → length x ≡ n
    → n ≤ c.left → new ≡ old ++ x → Leads (MayCome b m w) (MayCome b m (copying_on w (copied_on c n) n)) old new
copy_leads b m w c n x old new is long le written = record {
  wrote = x;
  behind = written;
  is = λ t h.
      let l = copied_left c n le in
      record {
        raw = x ++ h.raw;
        rest = h.rest;
        long = omega (arith, length-append x h.raw, long, h.long, l.0, ap copy_to_come is);
        chunks = subst (λ (k : ℕ). AreChunks b w.chunks (k + (m - begins w.gatherer)) h.rest) (l.1
            ∙ sym (ap blocks_to_come is)) h.chunks;
        bytes = ap (λ (y : List ℕ). x ++ y) h.bytes ∙ sym (append_assoc x h.raw h.rest);
      };
}

-- nothing is left
pub nothing_comes : (W : Cursor → Type 0) (b n : ℕ) (w : Writer) → SoundGatherer W n w.first w.past w.gatherer
    → w.copying ≡ None → is_end w.gatherer.kind ≡ true → w.chunks ≡ 0 → MayCome b n w []
nothing_comes W b n w sound none end few =
    let e = sound.ended end in
    record {
      raw = [];
      rest = [];
      long = sym (ap copy_to_come none);
      chunks = record {
        chunks = [];
        count = sym few;
        blocks = rw none (let z : 0 ≡ 0 + (n - begins w.gatherer) = omega (arith, e.0, e.1) in z);
        all = tt;
        bytes =
            refl;
      };
      bytes = refl;
    }

-- ---- the header

can_write : (b m : ℕ) (cs : List Chunk) → AllByRecursion (IsPlain b) cs → counted_in cs < m → m ≤ 2 ^ 32
    → AllByRecursion (CanWrite b) cs
can_write b m [] all few le = tt
can_write b m (c ∷ cs) all few le =
    (record { is = all.0.is; counts = omega arith; fits = all.0.fits }, can_write b m cs all.1 (omega arith) le)

-- chunks after the header that counts them and their blocks
pub chunks_image : (b n k : ℕ) (x : List ℕ) → (0 < b) × (b % 4 ≡ 0) × (b < 2 ^ 32) → n < 2 ^ 32 → k < 2 ^ 32
    → AreChunks b k n x → IsPlainImage b n (header_record (plain_header b n k) ++ x)
chunks_image b n k x good few fewer a =
    let cs = a.chunks in
    let image : image_of b (counted_in cs) cs ++ [] ≡ header_record (plain_header b n k) ++ x =
    append-nil (image_of b (counted_in cs) cs) ∙ rw (a.blocks, a.count, a.bytes) refl in
    let s = image_spells b cs [] good (omega (arith, a.blocks, few)) (omega (arith, a.count, fewer))
    (can_write b (2 ^ 32) cs a.all (omega (arith, a.blocks, few)) (omega arith)) in
    record {
      chunks = cs;
      spelled = subst (λ (y : List ℕ). Spells y (plain_header b n (length cs)) cs []) image
          (subst (λ (m : ℕ). Spells (image_of b (counted_in cs) cs ++ []) (plain_header b m (length cs)) cs []) a.blocks
          s);
    }

pub header_leads : (b n r : ℕ) (start : Cursor) (o : Outline) (old new : List ℕ) → (0 < b) × (b % 4 ≡ 0)
    × (b < 2 ^ 32) → n < 2 ^ 32 → o.chunks < 2 ^ 32 → new ≡ old ++ header_record (plain_header b n o.chunks)
    → Leads (IsPlainImage b n) (MayCome b n (first_writer start o r)) old new
header_leads b n r start o old new good few fewer written = record {
  wrote = header_record (plain_header b n o.chunks);
  behind = written;
  is = λ t h.
      let all : 0 + (n - (start.block - start.block)) ≡ n = omega arith in
      let rest : t ≡ h.rest = h.bytes ∙ ap (λ (y : List ℕ). y ++ h.rest) (no_raw h.raw h.long) in
      rw rest (chunks_image b n o.chunks h.rest good few fewer
      (subst (λ (m : ℕ). AreChunks b o.chunks m h.rest) all h.chunks));
}

header_long : (h : Header) → length (header_record h) ≡ 28
header_long h = refl

-- a header whose first 28 bytes are written is whole
pub whole_header : (h : Header) (old new : List ℕ) → new ≡ old ++ take (length new - length old) (header_record h)
    → length new ≡ length old + 28 → new ≡ old ++ header_record h
whole_header h old new front whole =
    let all : take (length new - length old) (header_record h) ≡ header_record h =
    take_all (length new - length old) (header_record h) (omega (arith, header_long h, whole)) in
    front ∙ ap (λ (y : List ℕ). old ++ y) all

-- ---- stages

begun_unfailed : (st : CutterStage) → is_begun st ≡ true → has_failed st ≡ false
begun_unfailed Between h = refl
begun_unfailed (Plan p) h = refl
begun_unfailed (Begin o) h = refl
begun_unfailed (Write o w) h = refl
begun_unfailed Done h = refl
begun_unfailed (Failed f) h = absurd (let e : false ≡ true = h in cc)

pub still_unfailed : {X A B C : Type 0} (start now : CutterStage) → ((is_begun now ≡ true) × X)
    ⊎ (A × B × C × (now ≡ start)) → has_failed start ≡ false → has_failed now ≡ false
still_unfailed start now (inl h) unfailed = begun_unfailed now h.0
still_unfailed start now (inr h) unfailed = ap has_failed h.3 ∙ unfailed

pub between_image : (b n : ℕ) (st : CutterStage) (old new : List ℕ) → st ≡ Between
    → Appended (StageMayCome b n st) old new → Appended (IsPlainImage b n) old new
between_image b n st old new is h = rw is at h

-- a writer that ends
pub end_comes : (r : Result Bool PieceFault) (W : Cursor → Type 0) (b n : ℕ) (w : Writer)
    → SoundGatherer W n w.first w.past w.gatherer → w.copying ≡ None → is_end w.gatherer.kind ≡ true
    → IfOk r (λ d. (d ≡ true) × (w.bytes ≡ 0) × (w.chunks ≡ 0)) → IfOk r (λ d. d ≡ true → MayCome b n w [])
end_comes (Ok d) W b n w sound none end h = λ e. nothing_comes W b n w sound none end h.2
end_comes (Err f) W b n w sound none end h = tt
