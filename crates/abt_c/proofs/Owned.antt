-- No bytes have the fault of a device.
use Rattle.std.proofs.Common.{◌≡◌, ℕ, zero, suc, ◌+◌, ◌-◌, ◌≤◌, Bool, true, false, cond, List, [], ◌++◌, length}
use Rattle.std.proofs.Common.{take, drop, Result, Ok, Err, refl, arith, ap, subst, ◌==◌, not, nat_lt, inl, inr}
use Rattle.std.proofs.lemmas.Bool.{cases_Bool}
use Rattle.std.specs.Prelude.{Option, Some, None}
use Rattle.abt_sparse.specs.Chunk.{Header, Chunk}
use Rattle.abt_sparse.specs.Number.{number_of}
use Rattle.abt_sparse.specs.Reading.{number_at, checked_header, kind_at, data_len, counted, chunk_from, partial_of}
use Rattle.abt_sparse.specs.Reading.{ChunkRead, Got, Bad, chunk_body, chunk_known, chunk_at, ChunksRead, Done, Failed}
use Rattle.abt_sparse.specs.Reading.{behind, chunks_at, body_at, Outcome, Fault, outcome_of, outcome}
use Rattle.abt_sparse.specs.declared.fault.SparseFault.{SparseFault}
use Rattle.abt_sparse.specs.declared.fault.SparseFault.TheVariants as faults
use Rattle.abt_sparse.specs.declared.kind.ChunkKind.{ChunkKind}
use Rattle.abt_sparse.specs.declared.kind.ChunkKind.TheVariants as kinds
use Rattle.abt_chunks.proofs.Onward.{header_own}
use Rattle.abt_chunks.specs.Ahead.{Ahead, stopping, before, somes, seen_chunks, seen, chunks_ahead}
use Rattle.abt_chunks.specs.Ahead.{body_ahead, walk}
use Rattle.abt_chunks.specs.Cause.{IsOwn}
use Rattle.abt_chunks.specs.Parts.{PartLeaves, Says, ahead, ahead_in}
use Rattle.abt_chunks.specs.Pulling as pulling
use Rattle.abt_chunks.specs.Pulling.{PullLeaves, PullSays}
use Rattle.abt_chunks.specs.declared.feed.Pull.{Pull}
use Rattle.abt_chunks.specs.declared.feed.Pull.TheVariants as pulls
use Rattle.abt_chunks.specs.declared.feed.Puller.{Puller}
use Rattle.abt_chunks.specs.declared.walk.Part.{Part}
use Rattle.abt_chunks.specs.declared.walk.Part.TheVariants as parts
use Rattle.abt_chunks.specs.declared.walk.Phase.{Phase}
use Rattle.abt_chunks.specs.declared.walk.Phase.TheVariants as phases
use Rattle.abt_chunks.specs.declared.walk.Walk.{Walk}
use Rattle.abt_c.specs.Standing.{kept_fault, phase_number}

own_low : (f : SparseFault) → IsOwn f → number_of f ≤ 10
own_low faults.Magic o = omega arith
own_low (faults.Major n) o = omega arith
own_low (faults.FileHeaderSize n) o = omega arith
own_low (faults.ChunkHeaderSize n) o = omega arith
own_low (faults.BlockSize n) o = omega arith
own_low (faults.ChunkType i k) o = omega arith
own_low (faults.ChunkLength i) o = omega arith
own_low (faults.TooManyBlocks i) o = omega arith
own_low (faults.TooFewBlocks n) o = omega arith
own_low (faults.Truncated n) o = omega arith
own_low (faults.Read d) o = absurd o
own_low (faults.Write d) o = absurd o

-- ---- a chunk, and chunks

abbrev OwnChunk : ChunkRead → Type 0
OwnChunk (Got c n rest) = Unit {0}
OwnChunk (Bad f came) = IsOwn f

bad_or : (t : Bool) (f : SparseFault) (came : List ℕ) (r : ChunkRead) → IsOwn f → OwnChunk r
    → OwnChunk (cond t (Bad f came) r)
bad_or true f came r own o = own
bad_or false f came r own o = o

own_body : (h : Header) (size i have : ℕ) (y : List ℕ) (k : ChunkKind) → OwnChunk (chunk_body h size i have y k)
own_body h size i have y k =
    let n = number_at 4 4 y in
    let total = number_at 8 4 y in
    let r1 : ChunkRead = Got (chunk_from h.blk_sz k n (drop h.chunk_hdr_sz (take total y))) (counted k n) (drop total y)
    in
    let r2 : ChunkRead = cond (nat_lt (length y) total) (Bad (faults.Truncated size) (partial_of k (drop h.chunk_hdr_sz
    y))) r1 in
    let r3 : ChunkRead = cond (nat_lt h.total_blks (have + counted k n)) (Bad (faults.TooManyBlocks i) []) r2 in
    bad_or (not (total == h.chunk_hdr_sz + data_len h.blk_sz k n)) (faults.ChunkLength i) [] r3 tt
    (bad_or (nat_lt h.total_blks (have + counted k n)) (faults.TooManyBlocks i) [] r2 tt
    (bad_or (nat_lt (length y) total) (faults.Truncated size) (partial_of k (drop h.chunk_hdr_sz y)) r1 tt tt))

own_known : (h : Header) (size i have : ℕ) (y : List ℕ) (k : Option ChunkKind)
    → OwnChunk (chunk_known h size i have y k)
own_known h size i have y None = tt
own_known h size i have y (Some k) = own_body h size i have y k

own_chunk : (h : Header) (size i have : ℕ) (y : List ℕ) → OwnChunk (chunk_at h size i have y)
unfolding chunk_at
own_chunk h size i have y =
    bad_or (nat_lt (length y) 12) (faults.Truncated size) [] (chunk_known h size i have y (kind_at (number_at 0 2 y)))
    tt
    (own_known h size i have y (kind_at (number_at 0 2 y)))

abbrev OwnChunks : ChunksRead → Type 0
OwnChunks (Done cs rest) = Unit {0}
OwnChunks (Failed f cs came) = IsOwn f

own_behind : (c : Chunk) (r : ChunksRead) → OwnChunks r → OwnChunks (behind c r)
own_behind c (Done cs rest) o = o
own_behind c (Failed f cs came) o = o

abbrev next_chunks : Header → ℕ → ℕ → ℕ → ℕ → ChunkRead → ChunksRead
next_chunks h size i have left (Got c n rest) = behind c (chunks_at h size (i + 1) (have + n) left rest)
next_chunks h size i have left (Bad f came) = Failed f [] came

own_next : (h : Header) (size i have left : ℕ) (r : ChunkRead) → OwnChunk r → ((n : ℕ) (rest : List ℕ)
    → OwnChunks (chunks_at h size (i + 1) (have + n) left rest)) → OwnChunks (next_chunks h size i have left r)
own_next h size i have left (Got c n rest) o k = own_behind c (chunks_at h size (i + 1) (have + n) left rest) (k n rest)
own_next h size i have left (Bad f came) o k = o

next_is : (h : Header) (size i have left : ℕ) (y : List ℕ) (r : ChunkRead) → chunk_at h size i have y ≡ r
    → chunks_at h size i have (suc left) y ≡ next_chunks h size i have left r
unfolding chunks_at
next_is h size i have left y (Got c n rest) e = rw (e, chunks_at) refl
next_is h size i have left y (Bad f came) e = rw (e, chunks_at) refl

done_or : (t : Bool) (y : List ℕ) (have : ℕ) → OwnChunks (cond t (Done [] y) (Failed (faults.TooFewBlocks have) [] []))
done_or true y have = tt
done_or false y have = tt

own_chunks : (h : Header) (size i have left : ℕ) (y : List ℕ) → OwnChunks (chunks_at h size i have left y)
unfolding chunks_at
own_chunks h size i have zero y = done_or (have == h.total_blks) y have
own_chunks h size i have (suc left) y = rw (next_is h size i have left y (chunk_at h size i have y) refl)
    (own_next h size i have left (chunk_at h size i have y) (own_chunk h size i have y) (λ n rest. own_chunks h size (i
    + 1) (have + n) left rest))

-- ---- what lies ahead

abbrev OwnEnding : Result (Header × List ℕ) SparseFault → Type 0
OwnEnding (Ok x) = Unit {0}
OwnEnding (Err f) = IsOwn f

abbrev Own : Ahead → Type 0
Own a = OwnEnding a.ending

own_or : (t : Bool) (a b : Ahead) → Own a → Own b → Own (cond t a b)
own_or true a b x y = x
own_or false a b x y = y

own_seen : (h : Header) (r : ChunksRead) → OwnChunks r → Own (seen_chunks h r)
own_seen h (Done cs rest) o = tt
own_seen h (Failed f cs came) o = o

own_ahead : (h : Header) (size i have : ℕ) (y : List ℕ) → Own (chunks_ahead h size i have y)
unfolding chunks_ahead
own_ahead h size i have y = own_seen h (chunks_at h size i have (h.total_chunks - i) y) (own_chunks h size i have
    (h.total_chunks - i) y)

own_data : (k : ChunkKind) (due : Bool) (h : Header) (i have raw words : ℕ) (word : List ℕ) (size : ℕ) (y : List ℕ)
    → Own (body_ahead k due h i have raw words word size y)
unfolding body_ahead
own_data kinds.Raw due h i have raw words word size y =
    own_or (nat_lt (length y) raw) (record { cells = somes y; ending = Err (faults.Truncated size) }) (before (somes
    (take raw y)) (chunks_ahead h size i have (drop raw y))) tt
    (own_ahead h size i have (drop raw y))
own_data kinds.Fill true h i have raw words word size y = own_or (nat_lt (length y) 4) (stopping (faults.Truncated
    size)) _ tt (own_ahead h size i have (drop 4 y))
own_data kinds.Fill false h i have raw words word size y = own_ahead h size i have y
own_data kinds.Skip due h i have raw words word size y = own_ahead h size i have y
own_data kinds.Crc true h i have raw words word size y = own_or (nat_lt (length y) 4) (stopping (faults.Truncated size))
    _ tt (own_ahead h size i have (drop 4 y))
own_data kinds.Crc false h i have raw words word size y = own_ahead h size i have y

own_walk : (k : ChunkKind) (due : Bool) (h : Header) (i have extra raw words : ℕ) (word : List ℕ) (size : ℕ) (y : List
    ℕ) → Own (walk k due h i have extra raw words word size y)
unfolding walk
own_walk k due h i have extra raw words word size y =
    own_or (nat_lt (length y) extra) (stopping (faults.Truncated size)) (body_ahead k due h i have raw words word size
    (drop extra y)) tt
    (own_data k due h i have raw words word size (drop extra y))

own_of : (h : Header) (r : ChunksRead) → OwnChunks r → Own (seen (outcome_of h r))
own_of h (Done cs rest) o = tt
own_of h (Failed f cs came) o = o

chunks_or : (t : Bool) (f : SparseFault) (r : ChunksRead) → IsOwn f → OwnChunks r
    → OwnChunks (cond t (Failed f [] []) r)
chunks_or true f r own o = own
chunks_or false f r own o = o

own_all : (h : Header) (y : List ℕ) → OwnChunks (body_at h y)
unfolding body_at
own_all h y = chunks_or (nat_lt (length y) h.file_hdr_sz) (faults.Truncated (length y)) (chunks_at h (length y) 0 0
    h.total_chunks (drop h.file_hdr_sz y)) tt
    (own_chunks h (length y) 0 0 h.total_chunks (drop h.file_hdr_sz y))

abbrev headed : List ℕ → Result Header SparseFault → Outcome
headed y (Err f) = Fault f []
headed y (Ok h) = outcome_of h (body_at h y)

own_headed : (y : List ℕ) (r : Result Header SparseFault) → checked_header y ≡ r → Own (seen (headed y r))
own_headed y (Err f) e = header_own y f e
own_headed y (Ok h) e = own_of h (body_at h y) (own_all h y)

headed_is : (y : List ℕ) (r : Result Header SparseFault) → checked_header y ≡ r → nat_lt (length y) 28 ≡ false
    → outcome y ≡ headed y r
unfolding outcome
headed_is y (Err f) e long = rw (long, e) refl
headed_is y (Ok h) e long = rw (long, e) refl

short_is : (y : List ℕ) → nat_lt (length y) 28 ≡ true → outcome y ≡ Fault (faults.Truncated (length y)) []
unfolding outcome
short_is y short = rw short refl

own_outcome : (y : List ℕ) → Own (seen (outcome y))
own_outcome y = elim (cases_Bool (nat_lt (length y) 28)) [
  | inl t ↦ rw (short_is y t) tt
  | inr t ↦ rw (headed_is y (checked_header y) refl t) (own_headed y (checked_header y) refl)
]

own_in : (q : Phase) (w : Walk) (y : List ℕ) → (phase_number q ≡ 3 → ⊥) → Own (ahead_in q w y)
own_in phases.Header w y live = own_outcome y
own_in phases.Body w y live = own_walk w.kind w.due _ w.index w.have w.extra w.raw w.words w.word (w.position + length
    y) y
own_in phases.Done w y live = tt
own_in (phases.Failed f) w y live = absurd (live refl)

-- a walk that has not failed stops at none
pub stops_low : (w : Walk) (y : List ℕ) (f : SparseFault) → (phase_number w.phase ≡ 3 → ⊥) → ahead w y ≡ stopping f
    → number_of f ≤ 10
stops_low w y f live e = own_low f (subst Own e (own_in w.phase w y live))

-- ---- what a part leaves

live_none : (q : Phase) → (phase_number q ≡ 3 → ⊥) → kept_fault q ≤ 10
live_none phases.Header live = omega arith
live_none phases.Body live = omega arith
live_none phases.Done live = omega arith
live_none (phases.Failed f) live = absurd (live refl)

none_in : (q r : Phase) → q ≡ r → kept_fault r ≡ 0 → kept_fault q ≤ 10
none_in q r e z = let n : kept_fault q ≡ kept_fault r = ap kept_fault e in omega (arith, n, z)

pub part_own : (q : Part) (w w' : Walk) (c : List ℕ) → (phase_number w.phase ≡ 3 → ⊥) → Says q w w' c []
    → PartLeaves q w'.phase → kept_fault w'.phase ≤ 10
part_own (parts.Raw n) w w' c live x l = none_in w'.phase phases.Body l refl
part_own (parts.Words word n) w w' c live x l = none_in w'.phase phases.Body l refl
part_own (parts.Skip n) w w' c live x l = none_in w'.phase phases.Body l refl
part_own parts.Nothing w w' c live x l = none_in w'.phase phases.Body l refl
part_own parts.End w w' c live x l = none_in w'.phase phases.Done l refl
part_own (parts.Fault f) w w' c live x l = let n : kept_fault w'.phase ≡ number_of f = ap kept_fault l in omega (
  arith,
  n,
  stops_low w (c ++ []) f live x,
)

pub pull_own : (q : Pull) (p p' : Puller) (c : List ℕ) → (phase_number p.walk.phase ≡ 3 → ⊥) → PullSays q p p' c []
    → PullLeaves q p' → kept_fault p'.walk.phase ≤ 10
pull_own pulls.Need p p' c live x l = let n : kept_fault p'.walk.phase ≡ kept_fault p.walk.phase = ap
    (λ (w : Walk). kept_fault w.phase) x.0 in omega (arith, n, live_none p.walk.phase live)
pull_own (pulls.Gives q) p p' c live x l = part_own q p.walk p'.walk (pulling.pulled_front p ++ c) live x l
