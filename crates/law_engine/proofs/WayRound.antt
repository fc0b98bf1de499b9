-- What arrives on a partition has the bytes that were sent at its front.
use Rattle.std.proofs.Common.{◌≡◌, ℕ, ◌+◌, ◌*◌, ◌^◌, ◌<◌, ◌≤◌, ◌++◌, List, [], length, take, drop, refl, sym, ap, subst}
use Rattle.std.proofs.Common.{◌∙◌, arith, append-nil, take-append-drop, Ok, Result}
use Rattle.abt_sparse.specs.Block.{Block, IsBlockSize, block_count, cells, classify, over}
use Rattle.abt_sparse.specs.Chunk.{spelling, chunks_of, plain_header}
use Rattle.abt_sparse.specs.Reading.{Outcome, Image, outcome}
use Rattle.abt_sparse.specs.Laws.{KeepsRaw, OneOutcome, ReadsBack}
use Rattle.abt_runs.specs.Sparse.{blocks_in}
use Rattle.abt_headers.specs.declared.fault.HeaderFault.{HeaderFault}
use Rattle.abt_flash.specs.Delivering.{ImageBlocks, Room}
use Rattle.abt_flash.specs.Raw.{raw_image}
use Rattle.abt_flash.specs.Sparse.{size_in, sparse_image}
use Rattle.abt_sections.specs.Header.{Header, places_of}
use Rattle.abt_sections.specs.Layout.{parts_of}
use Rattle.abt_sections.specs.Open.{HasImage}
use Rattle.abt_sections.specs.Unpacked.{HoldsParts}
use Rattle.law_engine.specs.WayRound.{Sparsed, SentAs, sparse, raw, Arrives, at_once, going_on, Carried}

-- what an arrival leaves
laid : (i : ImageBlocks) (limit : ℕ) (p q : List ℕ) → Arrives i limit p q → q ≡ over p (cells i.size i.blocks)
laid i limit p _ (at_once d old new e lays) = lays.laid refl refl refl
    ∙ ap (λ (t : List ℕ). over t (cells i.size i.blocks)) e
laid i limit p _ (going_on d old new made done le mendable mends) = mends.mends p done le mendable

-- the outcome of bytes as an image of blocks
abbrev image_of : Outcome → ImageBlocks
image_of o = record { size = size_in o; blocks = blocks_in o }

-- a sparse image has the blocks that it was written of
sparse_is : KeepsRaw → ReadsBack → OneOutcome → (b r : ℕ) (x y : List ℕ) → Sparsed b r x y
    → sparse_image y ≡ raw_image b x
sparse_is keeps reads one b r x y s =
    let l = classify b x in
    let few : length l < 2 ^ 32 = omega (arith, keeps.count b x s.size, s.count) in
    let back = reads b r l [] s.size s.chunk.0 s.chunk.1 (keeps.blocks b x s.size) few in
    let found : outcome (spelling b r l ++ []) ≡ Image (plain_header b (length l) (length (chunks_of r l)))
    (chunks_of r l) [] = one.only (spelling b r l
    ++ []) (Image (plain_header b (length l) (length (chunks_of r l))) (chunks_of r l) []) back.0 in
    ap sparse_image (s.written ∙ sym (append-nil (spelling b r l))) ∙ ap image_of found
    ∙ ap (λ (m : List Block). let i : ImageBlocks = record { size = b; blocks = m } in i) back.1

-- laid over a partition with room for all blocks the bytes stand at the front
front : KeepsRaw → (b : ℕ) (x p q : List ℕ) → IsBlockSize b → length (classify b x) * b ≤ length p
    → q ≡ over p (cells b (classify b x)) → q ≡ x ++ drop (length x) q
front keeps b x p q size fits e =
    let n = length (classify b x) in
    let same : b * block_count b x ≡ n * b = ap (λ (k : ℕ). b * k) (sym (keeps.count b x size))
    ∙ (let z : b * n ≡ n * b = omega arith in z) in
    let room : b * block_count b x ≤ length p = omega (arith, fits, same) in
    let stands : take (length x) q ≡ x = ap (take (length x)) e ∙ keeps.laid b x p size room in
    sym (take-append-drop (length x) q) ∙ ap (λ (f : List ℕ). f ++ drop (length x) q) stands

sent_front : KeepsRaw → ReadsBack → OneOutcome → (x : List ℕ) (i : ImageBlocks) (p q : List ℕ) → SentAs x i
    → length i.blocks * i.size ≤ length p → q ≡ over p (cells i.size i.blocks) → q ≡ x ++ drop (length x) q
sent_front keeps reads one x _ p q (sparse b r y s) fits e =
    let same = sparse_is keeps reads one b r x y s in
    front keeps b x p q s.size (subst (λ (i : ImageBlocks). length i.blocks * i.size ≤ length p) same fits)
    (subst (λ (i : ImageBlocks). q ≡ over p (cells i.size i.blocks)) same e)
sent_front keeps reads one x _ p q (raw b size) fits e = front keeps b x p q size fits e

pub carried : KeepsRaw → ReadsBack → OneOutcome → (x p q : List ℕ) → Carried x p q → q ≡ x ++ drop (length x) q
carried keeps reads one x p q c =
    sent_front keeps reads one x c.image p q c.sent c.room.all (laid c.image c.limit p q c.arrives)

same_header : (a b : Header) → (let r : Result Header HeaderFault = Ok a in
    let s : Result Header HeaderFault = Ok b in r ≡ s) → a ≡ b
same_header a b e = cc

pub found_again : (q : List ℕ) (h found : Header) (parts : List (List ℕ)) → HoldsParts q h parts → HasImage q found
    → (found ≡ h) × (parts_of q (places_of found) ≡ parts)
found_again q h found parts holds has =
    let same : found ≡ h = same_header found h (sym has.header ∙ holds.has.header) in
    (same, ap (λ (k : Header). parts_of q (places_of k)) same ∙ holds.each)
