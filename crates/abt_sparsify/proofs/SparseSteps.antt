-- An image that is counted, before it is written, and why it is not.
use Rattle.std.proofs.Common.{IfOk, ◌^◌, ◌≡◌, ℕ, ◌+◌, ◌-◌, ◌*◌, ◌%◌, ◌<◌, ◌≤◌, List, [], ◌++◌, length, take, drop}
use Rattle.std.proofs.Common.{replicate, refl, sym, ap, subst, ◌∙◌, append_assoc, append-nil, arith, inl, inr, ◌⊎◌}
use Rattle.std.proofs.Common.{length-append, mul-le-mul_left, mul-le-mul_right, Result, Ok, Err, Bool, IfErr, nat_lt}
use Rattle.std.proofs.Common.{false}
use Rattle.std.proofs.lemmas.Bool.{cases_Bool, ltb-true, ltb-false}
use Rattle.std.proofs.lemmas.List.{take_all}
use Rattle.std.proofs.Math.ListN.{drop_of_length-le}
use Rattle.abt_sparse.specs.Block.{Block, Skip, AreBlocks}
use Rattle.abt_sparse.specs.Chunk.{chunks_of, spelling, header_record, plain_header}
use Rattle.abt_runs.specs.Raw.{RawPlace, RefusedRaw, raw_charge, raw_before, raw_held}
use Rattle.abt_runs.specs.Tail.{raw_list}
use Rattle.abt_runs.specs.TailLaws.{list_long, list_are_blocks}
use Rattle.abt_runs.specs.declared.part.Cursor.{Cursor}
use Rattle.abt_runs.specs.declared.part.Run.{Run}
use Rattle.abt_runs.specs.declared.part.RunKind.{RunKind}
use Rattle.abt_runs.specs.declared.part.RunKind.TheVariants as kinds
use Rattle.abt_runs.specs.declared.part.RunFault.{RunFault}
use Rattle.abt_runs.specs.declared.part.RunFault.TheVariants as of_runs
use Rattle.abt_pieces.specs.Contents.{head_len, copy_len}
use Rattle.abt_pieces.specs.Plan.{between}
use Rattle.abt_pieces.specs.Gather.{frame, Gathered, Closed, ClosedRun, SoundGatherer, ToldGatherer, first_gatherer}
use Rattle.abt_pieces.specs.Gather.{gathered_to}
use Rattle.abt_pieces.specs.Write.{begins, chunks_in, bytes_of, rest_of, SoundWriter, ToldWriter}
use Rattle.abt_pieces.specs.Image.{Appended, Leads, IsPlainImage, AreChunks, MayCome}
use Rattle.abt_pieces.specs.Spent.{charge_and_copied, Spent}
use Rattle.abt_pieces.specs.Fault.{CutCause, full_in_cut, fault_of_run}
use Rattle.abt_pieces.specs.declared.fault.PieceFault.{PieceFault}
use Rattle.abt_pieces.specs.declared.fault.PieceFault.TheVariants.{Read, Write, TooLarge, SourceChanged, BadBlock}
use Rattle.abt_pieces.specs.declared.fault.PieceFault.TheVariants.{LimitTooSmall}
use Rattle.abt_pieces.specs.declared.gather.Gatherer.{Gatherer}
use Rattle.abt_pieces.proofs.Counts.{not_below}
use Rattle.abt_pieces.proofs.PieceCuts.{few_cuts}
use Rattle.abt_pieces.proofs.Cutting.{sound_first, gathered_first}
use Rattle.abt_pieces.proofs.Going.{run_ended}
use Rattle.abt_pieces.proofs.Image.{no_raw, chunks_image, leads_same}
use Rattle.abt_pieces.proofs.Spending.{spent_first}
use Rattle.abt_sparsify.specs.Sparsify.{writer_at_start, with_run, Counted, CountsOf, SoundCount, no_runs, end_place}
use Rattle.abt_sparsify.specs.Sparsify.{read_to, IsRawSize, SparsifyCause}
use Rattle.abt_sparsify.specs.declared.count.Written.{Written}

-- ---- the whole image as its own frame

pub frame_whole : (l : List Block) (n : ℕ) → n ≡ length l → frame l 0 n ≡ l
frame_whole l n e =
    ap (λ (m : ℕ). take (n - 0) l ++ replicate m Skip) (let z : length l - n ≡ 0 = omega arith in z) ∙ append-nil
    (take (n - 0) l) ∙ take_all (n - 0) l (omega arith)

-- ---- before the first block

none_begun : (c : Cursor) → c.block - c.block ≡ 0
none_begun c = omega arith

pub gatherer_sound : (n b : ℕ) (c : Cursor) → c.block ≡ 0 → RawPlace n b c → SoundGatherer (λ d. RawPlace n b d) n 0 n
    (first_gatherer c)
gatherer_sound n b c first place = subst (λ (s : ℕ). SoundGatherer (λ d. RawPlace n b d) n s n (first_gatherer c)) first
    (sound_first (λ d. RawPlace n b d) n n c (omega (arith, first)) (omega arith) place)

pub gatherer_told : (n b : ℕ) (l : List Block) (c : Cursor) → c.block ≡ 0 → RawPlace n b c → n ≡ length l → ToldGatherer
    (λ d. RawPlace n b d) l 0 n (first_gatherer c)
gatherer_told n b l c first place e =
    let long : length (frame l c.block n) ≡ length l = ap (λ (s : ℕ). length (frame l s n)) first ∙ ap length
    (frame_whole l n e) in
    record {
      gathered = subst (λ (s : ℕ). Gathered (frame l s n) (first_gatherer c)) first
          (gathered_first l n c (omega (arith, first)) (omega (arith, e)) long);
      place = λ h. place;
      raw = λ h s. absurd cc;
    }

pub first_count : (b n : ℕ) (c : Cursor) → SoundCount b (first_gatherer c) (no_runs n)
first_count b n c = record { chunks = omega arith; least = omega arith; bytes = omega arith }

-- ---- a writer of all chunks of an image

pub first_sound : (n b r : ℕ) (c : Cursor) (a : Written) → c.block ≡ 0 → RawPlace n b c → 0 < r → 12 + r * b < 2 ^ 32 →
    a.bytes < 2 ^ 64 → SoundWriter (λ d. RawPlace n b d) (λ d. (n - d.block) * b) n b (writer_at_start n r c a)
first_sound n b r c a first place some small fits = record {
  gathering = gatherer_sound n b c first place;
  copies = tt;
  most = some;
  small = small;
  fits = omega (arith, fits);
}

pub first_rest : (n r : ℕ) (l : List Block) (c : Cursor) (a : Written) → n ≡ length l → rest_of (frame l 0 n)
    (writer_at_start n r c a) ≡ bytes_of r l
first_rest n r l c a e = ap (λ (k : ℕ). bytes_of r (drop k (frame l 0 n))) (none_begun c) ∙ ap
    (λ (f : List Block). bytes_of r f) (frame_whole l n e)

pub first_told : (n b r : ℕ) (l : List Block) (c : Cursor) (a : Written) → c.block ≡ 0 → RawPlace n b c → n ≡ length l →
    a.chunks ≡ length (chunks_of r l) → a.bytes ≡ length (spelling b r l) → ToldWriter (λ d. RawPlace n b d)
    (λ d. n - d.block) l (writer_at_start n r c a)
first_told n b r l c a first place e chunks bytes =
    let whole = length-append (header_record (plain_header b (length l) (length (chunks_of r l)))) (bytes_of r l) in
    let count : a.chunks ≡ length (chunks_of r (drop (c.block - c.block) (frame l 0 n))) = chunks ∙ sym
    (ap (λ (k : ℕ). length (chunks_of r (drop k (frame l 0 n)))) (none_begun c) ∙ ap
    (λ (f : List Block). length (chunks_of r f)) (frame_whole l n e)) in
    record {
      gathering = gatherer_told n b l c first place e;
      copies = tt;
      count = omega (arith, count);
      long = omega (arith, bytes, whole, ap length (first_rest n r l c a e));
    }

-- what follows nothing is all chunks
pub first_leads : (b n r : ℕ) (start : Cursor) (a : Written) (w : List ℕ) → start.block ≡ 0 → Leads
    (AreChunks b a.chunks n) (MayCome b n (writer_at_start n r start a)) w w
first_leads b n r start a w first = leads_same (AreChunks b a.chunks n) (MayCome b n (writer_at_start n r start a)) w w
    refl (λ t m.
    subst (λ (y : List ℕ). AreChunks b a.chunks n y) (sym
    (m.bytes ∙ ap (λ (y : List ℕ). y ++ m.rest) (no_raw m.raw m.long)))
    (subst (λ (k : ℕ). AreChunks b a.chunks k m.rest)
    (let z : 0 + (n - (start.block - start.block)) ≡ n = omega arith in z) m.chunks))

-- the header before them
pub header_chunks : (b n k : ℕ) (w0 w1 w2 : List ℕ) → (0 < b) × (b % 4 ≡ 0) × (b < 2 ^ 32) → n < 2 ^ 32 → k < 2 ^ 32 →
    w1 ≡ w0 ++ header_record (plain_header b n k) → Appended (AreChunks b k n) w1 w2 → Appended (IsPlainImage b n) w0 w2
header_chunks b n k w0 w1 w2 good few fewer written h = record {
  wrote = header_record (plain_header b n k) ++ h.wrote;
  behind = h.behind ∙ ap (λ (y : List ℕ). y ++ h.wrote) written ∙ append_assoc w0 (header_record (plain_header b n k))
      h.wrote;
  is = chunks_image b n k h.wrote good few fewer h.is;
}

-- ---- counting

pub counted_on : (b r n : ℕ) (l : List Block) (g h : Gatherer) (x : Run) (a : Written) → 0 < r → n ≡ length l →
    AreBlocks b l → Gathered (frame l 0 n) g → Closed (frame l 0 n) g h x → ClosedRun g h x → Counted r l g a → Counted
    r l h (with_run a x b r)
counted_on b r n l g h x a some e good gathered closed run c =
    let whole = frame_whole l n e in
    let d = run_ended b r l g h x some good (rw whole at gathered) (rw whole at closed) run in
    let k : chunks_in x.kind (length (between l (begins g) g.at.block)) r ≡ chunks_in x.kind x.blocks r = ap
    (λ (m : ℕ). chunks_in x.kind m r) d.long in
    let t : copy_len x.kind (length (between l (begins g) g.at.block)) b ≡ copy_len x.kind x.blocks b = ap
    (λ (m : ℕ). copy_len x.kind m b) d.long in
    record {
      chunks = rw d.next (omega (arith, c.chunks, rw k at d.cut.count));
      bytes = rw d.next (omega (arith, c.bytes, rw (k, t) at d.cut.long));
    }

pub counted_still : (r : ℕ) (l : List Block) (g h : Gatherer) (a : Written) → g.count ≤ g.at.block → h.count ≤
    h.at.block → h.at.block + g.count ≡ g.at.block + h.count → Counted r l g a → Counted r l h a
counted_still r l g h a low high grows c =
    let same : begins h ≡ begins g = omega (arith, grows, low, high) in
    record { chunks = rw same c.chunks; bytes = rw same c.bytes }

-- how much a run takes at most
run_bound : (k : RunKind) (q c b : ℕ) → 0 < q → c ≤ q → (k ≡ kinds.Raw → c * 12 ≤ q * 12) → (k ≡ kinds.Raw → ⊥) ⊎
    (k ≡ kinds.Raw) → c * head_len k + copy_len k q b ≤ q * (b + 16)
run_bound kinds.Raw q c b some few m o = let z = m refl in omega (arith, z)
run_bound (kinds.Fill w) q c b some few m o = let z : 16 * c ≤ 16 * q = mul-le-mul_left 16 few in omega (arith, z)
run_bound kinds.Skip q c b some few m o = let z : 12 * c ≤ 12 * q = mul-le-mul_left 12 few in omega (arith, z)
run_bound kinds.End q c b some few m o = omega arith

pub run_fits : (k : RunKind) (q r b : ℕ) → 0 < r → 0 < q → chunks_in k q r * head_len k + copy_len k q b ≤ q * (b + 16)
run_fits k q r b some more = run_bound k q (chunks_in k q r) b more (few_cuts k q r some more)
    (λ e. let z : 12 * chunks_in k q r ≤ 12 * q = mul-le-mul_left 12 (few_cuts k q r some more) in omega (arith, z))
    (raw_or k)
  where
    raw_or : (k : RunKind) → (k ≡ kinds.Raw → ⊥) ⊎ (k ≡ kinds.Raw)
    raw_or kinds.Raw = inr refl
    raw_or (kinds.Fill w) = inl (λ e. absurd cc)
    raw_or kinds.Skip = inl (λ e. absurd cc)
    raw_or kinds.End = inl (λ e. absurd cc)

pub sound_count_on : (b r : ℕ) (g h : Gatherer) (x : Run) (a : Written) → 0 < r → g.count ≤ g.at.block → ClosedRun g h x
    → SoundCount b g a → SoundCount b h (with_run a x b r)
sound_count_on b r g h x a some low run c =
    let next : begins h ≡ begins g + x.blocks = omega (arith, run.start, run.blocks, low) in
    let one : 0 < x.blocks = omega (arith, run.blocks, run.some) in
    let few = few_cuts x.kind x.blocks r some one in
    let fits = run_fits x.kind x.blocks r b some one in
    record {
      chunks = rw next (omega (arith, c.chunks, few));
      least = omega (arith, c.least);
      bytes = rw next (omega (arith, c.bytes, fits));
    }

pub sound_count_still : (b : ℕ) (g h : Gatherer) (a : Written) → g.count ≤ g.at.block → h.count ≤ h.at.block →
    h.at.block + g.count ≡ g.at.block + h.count → SoundCount b g a → SoundCount b h a
sound_count_still b g h a low high grows c =
    let same : begins h ≡ begins g = omega (arith, grows, low, high) in
    record { chunks = rw same c.chunks; least = c.least; bytes = rw same c.bytes }

-- of an opened raw image
pub raw_blocks : (t : Bool) (blocks size len : ℕ) (x : List ℕ) → 4 ≤ size → len ≤ blocks * size
    → blocks * size < len + size → len ≡ length x
    → (blocks ≡ length (raw_list t size x)) × AreBlocks size (raw_list t size x)
raw_blocks t blocks size len x some covers last e = (
  sym (list_long t len blocks size x some covers last e),
  list_are_blocks t len blocks size x some covers last e,
)

-- ---- an image that is counted whole

pub counted_whole : (b r n : ℕ) (l : List Block) (g : Gatherer) (a : Written) → n ≡ length l → g.count ≡ 0
    → g.at.block ≡ n → Counted r l g a
    → CountsOf r b l a
counted_whole b r n l g a e none end c =
    let gone : drop (begins g) l ≡ [] =
    drop_of_length-le l (let y : length l ≤ begins g = omega (arith, none, end, e) in y) in
    let head = header_record (plain_header b (length l) (length (chunks_of r l))) in
    record {
      chunks = omega (arith, c.chunks, ap (λ (y : List Block). length (chunks_of r y)) gone);
      bytes = omega (
        arith,
        c.bytes,
        ap (λ (y : List Block). length (bytes_of r y)) gone,
        length-append head
            (bytes_of r l),
      );
    }

pub counted_first : (r : ℕ) (l : List Block) (c : Cursor) (n : ℕ) → c.block ≡ 0 → Counted r l (first_gatherer c)
    (no_runs n)
counted_first r l c n e =
    let z : c.block - c.block ≡ 0 = omega arith in
    record { chunks = rw z (omega arith); bytes = rw z (omega arith) }

pub bounded_whole : (b n : ℕ) (g : Gatherer) (a : Written) → g.count ≡ 0 → g.at.block ≡ n → SoundCount b g a →
    (28 ≤ a.bytes) × (a.bytes ≤ 28 + n * (b + 16))
bounded_whole b n g a none end h = let all : begins g ≡ n = omega (arith, none, end) in (h.least, rw all at h.bytes)

pub few_bytes : (x n b y : ℕ) → x ≤ n → n < 2 ^ 32 → b ≤ 65536 → y ≤ 28 + x * (b + 16) → y < 2 ^ 64
few_bytes x n b y le small window h =
    let p : x * (b + 16) ≤ x * 65552 = mul-le-mul_left x (let z : b + 16 ≤ 65552 = omega arith in z) in
    omega (arith, p)

-- the header before all chunks
pub header_first : (b r : ℕ) (l : List Block) (b' n k : ℕ) → b' ≡ b → n ≡ length l → k ≡ length (chunks_of r l) →
    spelling b r l ≡ header_record (plain_header b' n k) ++ bytes_of r l
header_first b r l b' n k e f h = rw (e, f, h) refl

-- ---- what is read

pub is_end_place : (n b : ℕ) → b ≤ 65536 → RawPlace n b (end_place n)
is_end_place n b window = record {
  within = omega arith;
  some = omega arith;
  window = omega (arith, window);
  passed =
      omega arith;
  used = refl;
}

-- before a place of a pass at least 16 are granted
pub granted : (len n b : ℕ) (c : Cursor) → c.used ≡ 0 → 16 ≤ read_to len n b c
granted len n b c e = elim (cases_Bool (nat_lt c.block n)) [
  | inl h ↦ rw (h, e) (omega arith)
  | inr h ↦ rw h (omega arith)
]

-- and after the last block no more than twice the image
pub granted_end : (len n b : ℕ) (c : Cursor) → c.block ≡ n → read_to len n b c ≡ 2 * len + 16
granted_end len n b c e =
    let h : nat_lt c.block n ≡ false = not_below c.block n (omega (arith, e)) in
    let k : nat_lt n n ≡ false = not_below n n (omega arith) in
    rw (h, k) refl
  where
    not_below : (x y : ℕ) → y ≤ x → nat_lt x y ≡ false
    not_below x y le = elim (cases_Bool (nat_lt x y)) [
      | inl h ↦ absurd (let z = ltb-true x y h in omega arith)
      | inr h ↦
          h
    ]

-- before the first chunk of an image
pub all_spent : (len n b r : ℕ) (start : Cursor) (a : Written) → start.block ≡ 0 → start.used ≡ 0 → start.ask ≡ 1 → len
    ≤ n * b
    → Spent (λ c. RawPlace n b c × RawPlace n b c) (λ c. raw_charge len n b c) (λ c. raw_before len b c)
    (λ c k. raw_held len b c k) (end_place n) 16 32 (writer_at_start n r start a)
all_spent len n b r start a first used fresh covers =
    let charge : Cursor → ℕ = λ c. raw_charge len n b c in
    let copied : Cursor → ℕ = λ c. raw_before len b c in
    let h = spent_first (λ c. RawPlace n b c × RawPlace n b c) charge copied (λ c k. raw_held len b c k) start
    (end_place n) (writer_at_start n r start a) refl refl (sym first) in
    let one : gathered_to (charge_and_copied charge copied) n (end_place n) start ≡ 16 = before in
    let two : gathered_to charge n (end_place n) start ≡ 16 = alone in
    rw (one, two) at h
  where
    before : gathered_to (charge_and_copied (λ c. raw_charge len n b c) (λ c. raw_before len b c)) n (end_place n) start
        ≡ 16
    before = elim (cases_Bool (nat_lt start.block n)) [
      | inl e ↦ rw (e, first, used, fresh) (omega arith)
      | inr e ↦ rw e (none (ltb-false start.block n e))
    ]
      where
        none : n ≤ start.block → charge_and_copied (λ c. raw_charge len n b c) (λ c. raw_before len b c) (end_place n) +
            16 ≡ 16
        none le = let z : n ≡ 0 = omega (arith, le, first) in let y : len ≡ 0 = omega
            (arith, covers, ap (λ (k : ℕ). k * b) z) in let k : nat_lt n n ≡ false = not_below n n (omega arith) in rw
            (y, k) (omega arith)

    alone : gathered_to (λ c. raw_charge len n b c) n (end_place n) start ≡ 16
    alone = elim (cases_Bool (nat_lt start.block n)) [
      | inl e ↦ rw (e, first, used, fresh) (omega arith)
      | inr e ↦ rw e (none (ltb-false start.block n e))
    ]
      where
        none : n ≤ start.block → raw_charge len n b (end_place n) + 16 ≡ 16
        none le = let z : n ≡ 0 = omega (arith, le, first) in let y : len ≡ 0 = omega
            (arith, covers, ap (λ (k : ℕ). k * b) z) in let k : nat_lt n n ≡ false = not_below n n (omega arith) in rw
            (y, k) (omega arith)

-- two passes and copying read no more than five times the image
pub all_read : (len n b x : ℕ) → x + 32 ≤ 2 * raw_charge len n b (end_place n) + raw_before len b (end_place n) + 32 → x
    ≤ 5 * len
all_read len n b x h = let e : nat_lt n n ≡ false = not_below n n (omega arith) in let y : x + 32 ≤ 2 * (2 * len) +
    raw_before len b (end_place n) + 32 = rw e at h in omega (arith, y)

-- an image of len bytes has no more blocks than hold it
pub within_blocks : (x n b len : ℕ) → x * b < len + b → len ≤ n * b → x * (b + 16) ≤ n * (b + 16)
within_blocks x n b len last fits = elim (cases_Bool (nat_lt n x)) [
  | inl h ↦ let lt = ltb-true n x h in let p : b * (n + 1) ≤ b * x = mul-le-mul_left b
      (let z : n + 1 ≤ x = omega arith in z) in absurd (omega (arith, p))
  | inr h ↦ let le = ltb-false n x h in let p : (b + 16) * x ≤ (b + 16) * n = mul-le-mul_left (b + 16)
      (let z : x ≤ n = omega arith in z) in omega (arith, p)
]

-- ---- refusals

-- counting has no output
pub unwritten : (e : PieceFault) (models : Bool) (r r' : ℕ) → CutCause e models r r' 0 0 → full_in_cut e ≡ 0
unwritten (Read f) models r r' h = refl
unwritten (Write f) models r r' h = absurd (omega (arith, h))
unwritten TooLarge models r r' h = absurd h
unwritten SourceChanged models r r' h = refl
unwritten (BadBlock n) models r r' h = absurd h
unwritten (LimitTooSmall n) models r r' h = absurd h

pub few_blocks : (x b long : ℕ) → long ≤ x * b → x < 2 ^ 32 → (2 ^ 32 - 1) * b < long → ⊥
few_blocks x b long covers fits large = let p : x * b ≤ (2 ^ 32 - 1) * b = mul-le-mul_right b
    (let z : x ≤ 2 ^ 32 - 1 = omega (arith, fits) in z) in omega (arith, p, covers, large)

pub sparsify_causes : (res : Result Written PieceFault) (b long : ℕ) (models : Bool) (r r' w w' : ℕ) → IfErr res
    (λ e. CutCause e models r r' w w') → IfErr res (λ e. SparsifyCause e b long models r r' w w')
sparsify_causes (Ok a) b long models r r' w w' h = tt
sparsify_causes (Err (Read f)) b long models r r' w w' h = h
sparsify_causes (Err (Write f)) b long models r r' w w' h = h
sparsify_causes (Err SourceChanged) b long models r r' w w' h = h
sparsify_causes (Err TooLarge) b long models r r' w w' h = absurd h
sparsify_causes (Err (BadBlock n)) b long models r r' w w' h = absurd h
sparsify_causes (Err (LimitTooSmall n)) b long models r r' w w' h = absurd h

pub refused_bad : (e : PieceFault) (f : RunFault) (b long : ℕ) → e ≡ fault_of_run f → RefusedRaw f b long →
    (IsRawSize b → ⊥) → e ≡ BadBlock b
refused_bad e (of_runs.BadBlock n) b long is h bad = is ∙ ap BadBlock h.0
refused_bad e of_runs.TooLarge b long is h bad = absurd (bad (h.0, h.1, h.2))
refused_bad e (of_runs.Sparse f) b long is h bad = absurd h
refused_bad e (of_runs.Read f) b long is h bad = absurd h
refused_bad e of_runs.SourceChanged b long is h bad = absurd h

pub refused_large : (e : PieceFault) (f : RunFault) (b long : ℕ) → e ≡ fault_of_run f → RefusedRaw f b long → IsRawSize
    b → e ≡ TooLarge
refused_large e (of_runs.BadBlock n) b long is h good = absurd (h.1 good)
refused_large e of_runs.TooLarge b long is h good = is
refused_large e (of_runs.Sparse f) b long is h good = absurd h
refused_large e (of_runs.Read f) b long is h good = absurd h
refused_large e of_runs.SourceChanged b long is h good = absurd h

pub refused_cause : (e : PieceFault) (f : RunFault) (b long : ℕ) (models : Bool) (r r' w w' : ℕ) → e ≡ fault_of_run f →
    RefusedRaw f b long → SparsifyCause e b long models r r' w w'
refused_cause e (of_runs.BadBlock n) b long models r r' w w' is h = rw is h
refused_cause e of_runs.TooLarge b long models r r' w w' is h = rw is ((h.0, h.1, h.2), h.3)
refused_cause e (of_runs.Sparse f) b long models r r' w w' is h = absurd h
refused_cause e (of_runs.Read f) b long models r r' w w' is h = absurd h
refused_cause e of_runs.SourceChanged b long models r r' w w' is h = absurd h
