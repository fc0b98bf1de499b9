-- Places of one sparse image, in their order.
use Rattle.std.proofs.Common.{◌≡◌, ℕ, zero, suc, ◌+◌, ◌-◌, ◌*◌, ◌<◌, ◌≤◌, List, [], ◌∷◌, ◌++◌, length, take, drop, refl}
use Rattle.std.proofs.Common.{sym, ap, subst, ◌∙◌, arith, length-drop, mul-le-mul_right}
use Rattle.abt_sparse.specs.declared.kind.ChunkKind.TheVariants as kinds
use Rattle.abt_sparse.specs.declared.chunk_header.ChunkHeader.{ChunkHeader}
use Rattle.abt_sparse.specs.Chunk.{Header, Chunk, Raws, Fills, Skips, Crc, count}
use Rattle.abt_sparse.specs.Reading.{counted}
use Rattle.abt_sparse.specs.Fails.{counted_in}
use Rattle.abt_runs.specs.Sparse.{SparseOpened, SparsePlace, SparseWithin, Inside, sparse_charge, lengths}
use Rattle.abt_runs.specs.SparseLaws.{count_is, image_chunks, image_rest, read_through}
use Rattle.abt_runs.specs.declared.part.Cursor.{Cursor}
use Rattle.abt_runs.specs.declared.part.Run.{Run}
use Rattle.abt_runs.proofs.Chunked.{Standing, chunk_of, Parts, passes, stops, ends, going_on, raw_counts}
use Rattle.abt_runs.proofs.Passing.{charge_in, charge_least, raw_total}

-- one list in two, in two ways
data Splits (us bs cs ds : List Chunk) : Type 0 where
  earlier : (m : Chunk) (ms : List Chunk) → us ≡ cs ++ m ∷ ms → ds ≡ m ∷ (ms ++ bs) → Splits us bs cs ds
  later : (ms : List Chunk) → cs ≡ us ++ ms → bs ≡ ms ++ ds → Splits us bs cs ds

same_head : {a b : Chunk} {us bs : List Chunk} → a ∷ us ≡ b ∷ bs → a ≡ b
same_head {a} {b} {us} {bs} e = cc

same_tail : {a b : Chunk} {us bs : List Chunk} → a ∷ us ≡ b ∷ bs → us ≡ bs
same_tail {a} {b} {us} {bs} e = cc

splits : (us bs cs ds : List Chunk) → us ++ bs ≡ cs ++ ds → Splits us bs cs ds
splits [] bs cs ds e = later cs refl e
splits (a ∷ us) bs [] ds e = earlier a us refl (sym e)
splits (a ∷ us) bs (c ∷ cs) ds e = more (same_head e) (splits us bs cs ds (same_tail e))
  where
    more : a ≡ c → Splits us bs cs ds → Splits (a ∷ us) bs (c ∷ cs) ds
    more h (earlier m ms p q) =
        earlier m ms (ap (λ (l : List Chunk). a ∷ l) p ∙ ap (λ (b : Chunk). b ∷ (cs ++ m ∷ ms)) h) q
    more h (later ms p q) = later ms (ap (λ (l : List Chunk). c ∷ l) p ∙ ap (λ (b : Chunk). b ∷ (us ++ ms)) (sym h)) q

counted-append : (cs ds : List Chunk) → counted_in (cs ++ ds) ≡ counted_in cs + counted_in ds
counted-append [] ds = omega arith
counted-append (c ∷ cs) ds = omega (arith, counted-append cs ds)

lengths-append : (h : Header) (cs ds : List Chunk) → lengths h (cs ++ ds) ≡ lengths h cs + lengths h ds
lengths-append h [] ds = omega arith
lengths-append h (c ∷ cs) ds = omega (arith, lengths-append h cs ds)

inside_few : (n : ℕ) (m : Chunk) (cs : List Chunk) → Inside n (m ∷ cs) → n ≤ count m
inside_few zero m cs i = omega arith
inside_few (suc n) (Raws blocks) cs i = omega (arith, i)
inside_few (suc n) (Fills word k) cs i = absurd i
inside_few (suc n) (Skips k) cs i = absurd i
inside_few (suc n) (Crc word) cs i = absurd i

-- a place d is before the chunk k at c, in it or after it
pub data Order (c : Cursor) (k : ChunkHeader) (d : Cursor) : Type 0 where
  before : d.block + c.used ≤ c.block → Order c k d
  same : c.at ≡ d.at → d.block + c.used ≡ c.block + d.used → (0 < d.used → (k.kind ≡ kinds.Raw) × (d.used < k.blocks))
      → Order c k d
  behind : c.at + k.total ≤ d.at → c.block + counted k.kind k.blocks ≤ d.block + c.used → Order c k d

pub order : (h : Header) (long image : ℕ) (x : List ℕ) (c d : Cursor) (k : ChunkHeader) → SparseOpened h long image x
    → Standing h x image c k → SparsePlace h x d → d.at ≤ image → Order c k d
order h long image x c d k o s p low =
    by_split (splits s.before (chunk_of h x c k ∷ s.after) p.before p.after
    (image_chunks (sym s.is_image ∙ p.is_image)))
  where
    rests : length s.rest ≡ length p.rest
    rests = ap length (image_rest (sym s.is_image ∙ p.is_image))

    there : length x - d.at ≡ lengths h p.after + length p.rest
    there = sym (length-drop d.at x)
        ∙ (read_through h (length x) (h.total_chunks - d.chunk) d.chunk (counted_in p.before)
        (drop d.at x) p.after p.rest p.ahead).long

    payload : List ℕ
    payload = drop h.chunk_hdr_sz (take k.total (drop c.at x))

    by_split : Splits s.before (chunk_of h x c k ∷ s.after) p.before p.after → Order c k d
    by_split (earlier m ms e f) =
        let i : d.used ≤ count m = inside_few d.used m _ (subst (λ (l : List Chunk). Inside d.used l) f p.inside) in
        before (omega (arith, i, ap counted_in e, counted-append p.before (m ∷ ms), s.block, p.block))
    by_split (later [] e f) =
        let here : length x - c.at ≡ lengths h (chunk_of h x c k ∷ s.after) + length s.rest = sym (length-drop c.at x)
        ∙ (read_through h (length x) (h.total_chunks - c.chunk) c.chunk (counted_in s.before) (drop c.at x)
        (chunk_of h x c k ∷ s.after) s.rest s.from_here).long in
        let l : lengths h (chunk_of h x c k ∷ s.after) ≡ lengths h p.after = ap (λ (cs : List Chunk). lengths h cs) f in
        let i = subst (λ (cs : List Chunk). Inside d.used cs) (sym f) p.inside in
        same (omega (arith, here, there, l, rests, s.enough, low, o.image_is))
        (omega (arith, ap counted_in e, counted-append s.before [], s.block, p.block))
        (going_on h.blk_sz k.kind k.blocks d.used payload s.after i)
    by_split (later (m ∷ ms) e f) =
        let here : length x - (c.at + k.total) ≡ lengths h s.after + length s.rest =
        sym (length-drop (c.at + k.total) x)
        ∙ (read_through h (length x) (h.total_chunks - (c.chunk + 1)) (c.chunk + 1)
        (counted_in s.before + counted k.kind k.blocks) (drop (c.at + k.total) x) s.after s.rest s.ahead).long in
        let l : lengths h s.after ≡ lengths h ms + lengths h p.after =
        ap (λ (cs : List Chunk). lengths h cs) (same_tail f) ∙ lengths-append h ms p.after in
        let n : counted k.kind k.blocks ≡ count m = sym (count_is h.blk_sz k.kind k.blocks payload)
        ∙ ap count (same_head f) in
        behind (omega (arith, here, there, l, rests, s.enough, low, o.image_is))
        (omega (arith, n, ap counted_in e, counted-append s.before (m ∷ ms), s.block, p.block))

-- the place after a part that has blocks is the first before its block
pub next_first : (h : Header) (long image : ℕ) (x : List ℕ) (c : Cursor) (k : ChunkHeader) (word : List ℕ) (cap : ℕ)
    (r : Run) → SparseOpened h long image x → Standing h x image c k → 0 < cap → Parts k word c cap r → 0 < r.blocks
    → (d : Cursor) → SparseWithin h image d → SparsePlace h x d → r.next.block ≤ d.block
    → sparse_charge h r.next ≤ sparse_charge h d
next_first h long image x c k word cap _ o s some (passes none) more d w p le = absurd (omega arith)
next_first h long image x c k word cap _ o s some (stops raw less) more d w p le =
    by_order (order h long image x c d k o s p (omega (arith, w.charge, charge_least h d)))
  where
    next : Cursor
    next = record c { block = c.block + cap; used = c.used + cap }

    mine : sparse_charge h next ≡ c.at + (h.chunk_hdr_sz + (c.used + cap) * h.blk_sz)
    mine = charge_in h next (omega arith)

    by_order : Order c k d → sparse_charge h next ≤ sparse_charge h d
    by_order (before b) = absurd (omega arith)
    by_order (same at e inside) =
        let m : (c.used + cap) * h.blk_sz ≤ d.used * h.blk_sz =
        mul-le-mul_right h.blk_sz (let z : c.used + cap ≤ d.used = omega arith in z) in
        omega (arith, m, mine, charge_in h d (omega arith))
    by_order (behind at e) =
        let m : (c.used + cap) * h.blk_sz ≤ k.blocks * h.blk_sz =
        mul-le-mul_right h.blk_sz (let z : c.used + cap ≤ k.blocks = omega arith in z) in
        omega (arith, m, mine, charge_least h d, raw_total h image c k s.fits raw)
next_first h long image x c k word cap _ o s some (ends more' few) more d w p le =
    by_order (order h long image x c d k o s p (omega (arith, w.charge, charge_least h d)))
  where
    by_order : Order c k d → c.at + k.total + 0 ≤ sparse_charge h d
    by_order (before b) = absurd (omega arith)
    by_order (same at e inside) =
        absurd (let i = inside (omega arith) in omega (arith, i.1, raw_counts k.kind k.blocks i.0))
    by_order (behind at e) = omega (arith, charge_least h d)

-- no part passes a place that is cap blocks on
pub not_past : (h : Header) (long image : ℕ) (x : List ℕ) (c : Cursor) (k : ChunkHeader) (word : List ℕ) (cap : ℕ)
    (r : Run) → SparseOpened h long image x → Standing h x image c k → 0 < cap → Parts k word c cap r
    → (d : Cursor) → SparseWithin h image d → SparsePlace h x d → d.block ≡ c.block + cap → r.blocks ≤ cap
not_past h long image x c k word cap _ o s some (passes none) d w p e = omega arith
not_past h long image x c k word cap _ o s some (stops raw less) d w p e = omega arith
not_past h long image x c k word cap _ o s some (ends more few) d w p at =
    by_order (order h long image x c d k o s p (omega (arith, w.charge, charge_least h d)))
  where
    by_order : Order c k d → counted k.kind k.blocks - c.used ≤ cap
    by_order (before b) = absurd (omega arith)
    by_order (same z e inside) = few ((inside (omega arith)).0)
    by_order (behind z e) = omega arith
