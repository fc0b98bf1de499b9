-- The numbers of a part of a chunk.
use Rattle.std.proofs.Common.{◌≡◌, ℕ, zero, suc, ◌+◌, ◌-◌, ◌*◌, ◌<◌, ◌≤◌, true, false, List, refl, ap, ◌∙◌, arith, inl}
use Rattle.std.proofs.Common.{inr, ◌==◌, eqb-true, mul-le-mul_right}
use Rattle.std.proofs.lemmas.Bool.{cases_Bool}
use Rattle.abt_sparse.specs.declared.kind.ChunkKind.{ChunkKind}
use Rattle.abt_sparse.specs.declared.kind.ChunkKind.TheVariants as kinds
use Rattle.abt_sparse.specs.declared.chunk_header.ChunkHeader.{ChunkHeader}
use Rattle.abt_sparse.specs.Chunk.{Header}
use Rattle.abt_sparse.specs.Reading.{data_len, counted}
use Rattle.abt_runs.specs.Part.{entry, piece_bytes, is_end}
use Rattle.abt_runs.specs.Sparse.{SparseWithin, sparse_charge, data_place}
use Rattle.abt_runs.specs.Head.{HeadFits, has_word, class_of_kind}
use Rattle.abt_runs.specs.declared.part.Cursor.{Cursor}
use Rattle.abt_runs.specs.declared.part.Run.{Run}
use Rattle.abt_runs.specs.declared.part.RunKind.{RunKind}
use Rattle.abt_runs.specs.declared.part.RunKind.TheVariants as classes
use Rattle.abt_runs.proofs.Chunked.{Parts, passes, stops, ends, none_left, raw_counts, class_raw, left_some}

-- of a raw chunk: the data up to a block
pub raw_total : (h : Header) (image : ℕ) (c : Cursor) (k : ChunkHeader) → HeadFits h image c k → k.kind ≡ kinds.Raw →
    k.total ≡ h.chunk_hdr_sz + k.blocks * h.blk_sz
raw_total h image c k f e = f.total ∙ ap (λ (j : ChunkKind). h.chunk_hdr_sz + data_len h.blk_sz j k.blocks) e

-- a place's read budget, in both its cases
data Charged (h : Header) (c : Cursor) : ℕ → Type 0 where
  fresh : c.used ≡ 0 → Charged h c (c.at + 0)
  within : 0 < c.used → Charged h c (c.at + (h.chunk_hdr_sz + c.used * h.blk_sz))

charged : (h : Header) (c : Cursor) → Charged h c (sparse_charge h c)
charged h c = elim (cases_Bool (c.used == 0)) [
  | inl z ↦ rw z (fresh (eqb-true c.used 0 z))
  | inr z ↦ rw z (within (left_some c.used z))
]

charge_most : (h : Header) (c : Cursor) (n : ℕ) → Charged h c n → n ≤ c.at + h.chunk_hdr_sz + c.used * h.blk_sz
charge_most h c _ (fresh z) = omega arith
charge_most h c _ (within some) = omega arith

-- it is within the chunk
charge_inside : (h : Header) (image : ℕ) (c : Cursor) (k : ChunkHeader) (n : ℕ) → 12 ≤ h.chunk_hdr_sz → HeadFits h image
    c k → Charged h c n → n ≤ c.at + k.total
charge_inside h image c k _ hdr f (fresh z) = omega arith
charge_inside h image c k _ hdr f (within some) =
    let g = f.going some in
    let m : c.used * h.blk_sz ≤ k.blocks * h.blk_sz = mul-le-mul_right h.blk_sz
    (let z : c.used ≤ k.blocks = omega (arith, g.1) in z) in
    omega (arith, raw_total h image c k f g.0)

pub next_within : (h : Header) (image : ℕ) (c : Cursor) (k : ChunkHeader) (word : List ℕ) (cap : ℕ) (r : Run) →
    SparseWithin h image c → HeadFits h image c k → c.chunk < h.total_chunks → 0 < cap → Parts k word c cap r →
    SparseWithin h image r.next
next_within h image c k word cap _ w f lt some (passes none) = record {
  chunk = omega arith;
  block = f.counted;
  used = omega arith;
  charge = omega (arith, f.whole);
  going = λ z. absurd
      (omega arith);
}
next_within h image c k word cap _ w f lt some (stops raw less) =
    let m : (c.used + cap) * h.blk_sz ≤ k.blocks * h.blk_sz = mul-le-mul_right h.blk_sz
    (let z : c.used + cap ≤ k.blocks = omega arith in z) in
    let next : Cursor = record c { block = c.block + cap; used = c.used + cap } in
    let most : sparse_charge h next ≤ c.at + h.chunk_hdr_sz + (c.used + cap) * h.blk_sz = charge_most h next
    (sparse_charge h next) (charged h next) in
    record {
      chunk = w.chunk;
      block = omega (arith, f.counted, raw_counts k.kind k.blocks raw, w.used);
      used = omega (arith, w.used);
      charge = omega (arith, most, m, f.whole, raw_total h image c k f raw);
      going = λ z. lt;
    }
next_within h image c k word cap _ w f lt some (ends more few) = record {
  chunk = omega arith;
  block = f.counted;
  used = omega arith;
  charge = omega (arith, f.whole);
  going = λ z. absurd
      (omega arith);
}

pub here_within : (h : Header) (image : ℕ) (c : Cursor) (k : ChunkHeader) (word : List ℕ) (cap : ℕ) (r : Run) →
    SparseWithin h image c → HeadFits h image c k → c.chunk < h.total_chunks → Parts k word c cap r → SparseWithin h
    image r.here
here_within h image c k word cap _ w f lt (passes none) = record {
  chunk = omega arith;
  block = f.counted;
  used = omega arith;
  charge = omega (arith, f.whole);
  going = λ z. absurd
      (omega arith);
}
here_within h image c k word cap _ w f lt (stops raw less) = w
here_within h image c k word cap _ w f lt (ends more few) = w

pub here_block : (h : Header) (image : ℕ) (c : Cursor) (k : ChunkHeader) (word : List ℕ) (cap : ℕ) (r : Run) →
    SparseWithin h image c → HeadFits h image c k → Parts k word c cap r → r.here.block ≡ c.block
here_block h image c k word cap _ w f (passes none) = let n = none_left h image c k f none in omega (arith, n.0, n.1)
here_block h image c k word cap _ w f (stops raw less) = refl
here_block h image c k word cap _ w f (ends more few) = refl

pub here_used : (c : Cursor) (k : ChunkHeader) (word : List ℕ) (cap : ℕ) (r : Run) → Parts k word c cap r → r.here.used
    ≤ c.used
here_used c k word cap _ (passes none) = omega arith
here_used c k word cap _ (stops raw less) = omega arith
here_used c k word cap _ (ends more few) = omega arith

pub here_charge : (h : Header) (image : ℕ) (c : Cursor) (k : ChunkHeader) (word : List ℕ) (cap : ℕ) (r : Run) → 12 ≤
    h.chunk_hdr_sz → HeadFits h image c k → Parts k word c cap r → sparse_charge h c ≤ sparse_charge h r.here
here_charge h image c k word cap _ hdr f (passes none) = omega
    (arith, charge_inside h image c k (sparse_charge h c) hdr f (charged h c))
here_charge h image c k word cap _ hdr f (stops raw less) = omega arith
here_charge h image c k word cap _ hdr f (ends more few) = omega arith

pub next_block : (h : Header) (image : ℕ) (c : Cursor) (k : ChunkHeader) (word : List ℕ) (cap : ℕ) (r : Run) →
    SparseWithin h image c → HeadFits h image c k → Parts k word c cap r → r.next.block ≡ c.block + r.blocks
next_block h image c k word cap _ w f (passes none) = let n = none_left h image c k f none in omega (arith, n.0, n.1)
next_block h image c k word cap _ w f (stops raw less) = refl
next_block h image c k word cap _ w f (ends more few) = omega (arith, w.used)

pub left_less : (h : Header) (image : ℕ) (c : Cursor) (k : ChunkHeader) (word : List ℕ) (cap : ℕ) (r : Run) →
    SparseWithin h image c → HeadFits h image c k → c.chunk < h.total_chunks → 0 < cap → Parts k word c cap r
    → (h.total_blks - r.next.block) + (h.total_chunks - r.next.chunk) < (h.total_blks - c.block) +
    (h.total_chunks - c.chunk)
left_less h image c k word cap _ w f lt some (passes none) = let n = none_left h image c k f none in omega
    (arith, n.0, n.1)
left_less h image c k word cap _ w f lt some (stops raw less) = omega
    (arith, f.counted, raw_counts k.kind k.blocks raw, w.used)
left_less h image c k word cap _ w f lt some (ends more few) = omega (arith, w.used, f.counted)

pub stops_full : (k : ChunkHeader) (word : List ℕ) (c : Cursor) (cap : ℕ) (r : Run) → Parts k word c cap r → 0 <
    r.next.used → (r.kind ≡ classes.Raw) × (r.blocks ≡ cap)
stops_full k word c cap _ (passes none) z = absurd (omega arith)
stops_full k word c cap _ (stops raw less) z = (refl, refl)
stops_full k word c cap _ (ends more few) z = absurd (omega arith)

class_is : (k : ChunkKind) (word : List ℕ) → k ≡ kinds.Raw → class_of_kind k word ≡ classes.Raw
class_is k word e = ap (λ (j : ChunkKind). class_of_kind j word) e

pub goes_raw : (h : Header) (image : ℕ) (k : ChunkHeader) (word : List ℕ) (c : Cursor) (cap : ℕ) (r : Run) → HeadFits h
    image c k → 0 < cap → Parts k word c cap r → 0 < c.used → (r.kind ≡ classes.Raw) × (0 < r.blocks)
goes_raw h image k word c cap _ f some (passes none) z = absurd
    (let n = none_left h image c k f none in omega (arith, n.0))
goes_raw h image k word c cap _ f some (stops raw less) z = (refl, some)
goes_raw h image k word c cap _ f some (ends more few) z = let g = f.going z in (class_is k.kind word g.0, omega arith)

class_goes : (k : ChunkKind) (word : List ℕ) → is_end (class_of_kind k word) ≡ false
class_goes kinds.Raw word = refl
class_goes kinds.Fill word = refl
class_goes kinds.Skip word = refl
class_goes kinds.Crc word = refl

pub not_end : (k : ChunkHeader) (word : List ℕ) (c : Cursor) (cap : ℕ) (r : Run) → Parts k word c cap r → is_end r.kind
    ≡ false
not_end k word c cap _ (passes none) = refl
not_end k word c cap _ (stops raw less) = refl
not_end k word c cap _ (ends more few) = class_goes k.kind word

pub nowhere_else : (k : ChunkHeader) (word : List ℕ) (c : Cursor) (cap : ℕ) (r : Run) → 0 < cap → Parts k word c cap r →
    r.blocks ≡ 0 → r.here ≡ r.next
nowhere_else k word c cap _ some (passes none) e = refl
nowhere_else k word c cap _ some (stops raw less) e = absurd (omega (arith, some, e))
nowhere_else k word c cap _ some (ends more few) e = absurd (omega (arith, more, e))

pub raw_few : (k : ChunkHeader) (word : List ℕ) (c : Cursor) (cap : ℕ) (r : Run) → Parts k word c cap r → r.kind ≡
    classes.Raw → r.blocks ≤ cap
raw_few k word c cap _ (passes none) e = absurd cc
raw_few k word c cap _ (stops raw less) e = omega arith
raw_few k word c cap _ (ends more few) e = few (class_raw k.kind word e)

pub raw_reach : (h : Header) (image : ℕ) (k : ChunkHeader) (word : List ℕ) (c : Cursor) (cap : ℕ) (r : Run) → HeadFits h
    image c k → Parts k word c cap r → r.kind ≡ classes.Raw → r.blocks * h.blk_sz ≤ image - data_place h r.here
raw_reach h image k word c cap _ f (passes none) e = absurd cc
raw_reach h image k word c cap _ f (stops raw less) e =
    let m : (c.used + cap) * h.blk_sz ≤ k.blocks * h.blk_sz = mul-le-mul_right h.blk_sz
    (let z : c.used + cap ≤ k.blocks = omega arith in z) in
    let d : (c.used + cap) * h.blk_sz ≡ c.used * h.blk_sz + cap * h.blk_sz = omega arith in
    omega (arith, m, d, f.whole, raw_total h image c k f raw)
raw_reach h image k word c cap _ f (ends more few) e =
    let raw = class_raw k.kind word e in
    let n = counted k.kind k.blocks - c.used in
    let m : (c.used + n) * h.blk_sz ≤ k.blocks * h.blk_sz = mul-le-mul_right h.blk_sz
    (let z : c.used + n ≤ k.blocks = omega (arith, raw_counts k.kind k.blocks raw) in z) in
    let d : (c.used + n) * h.blk_sz ≡ c.used * h.blk_sz + n * h.blk_sz = omega arith in
    omega (arith, m, d, f.whole, raw_total h image c k f raw)

-- what is read of a chunk: its header, and a word where it has blocks of one
word_total : (h : Header) (image : ℕ) (c : Cursor) (k : ChunkHeader) → HeadFits h image c k → has_word k.kind k.blocks ≡
    true → (k.total ≡ h.chunk_hdr_sz + 4) × (c.used ≡ 0)
word_total h image c k f e = (
  f.total ∙ ap (λ (j : ChunkKind). h.chunk_hdr_sz + data_len h.blk_sz j k.blocks) (fill k.kind e),
  elim (cases_Bool (c.used == 0)) [
    | inl z ↦ eqb-true c.used 0 z
    | inr z ↦ absurd (let g = f.going (left_some c.used z) in let a = g.0 in let b = fill k.kind e in cc)
  ],
)
  where
    fill : (j : ChunkKind) → has_word j k.blocks ≡ true → j ≡ kinds.Fill
    fill kinds.Raw e = absurd cc
    fill kinds.Fill e = refl
    fill kinds.Skip e = absurd cc
    fill kinds.Crc e = absurd cc

entered : (c : Cursor) → 0 < c.used → entry c ≡ 16
entered c some = elim (cases_Bool (c.used == 0)) [
  | inl z ↦ absurd (omega (arith, eqb-true c.used 0 z))
  | inr z ↦ rw z refl
]

-- the read budget after blocks of a raw chunk
pub charge_in : (h : Header) (c : Cursor) → 0 < c.used → sparse_charge h c ≡ c.at + (h.chunk_hdr_sz + c.used * h.blk_sz)
charge_in h c some = elim (cases_Bool (c.used == 0)) [
  | inl z ↦ absurd (omega (arith, eqb-true c.used 0 z))
  | inr z ↦ rw z refl
]

pub charge_least : (h : Header) (c : Cursor) → c.at ≤ sparse_charge h c
charge_least h c = omega arith

-- what a part adds to the read budget: at least a chunk's header where it begins one, and the data that it passes
pub data Adds (h : Header) (c : Cursor) (k : ChunkHeader) (before after : ℕ) (r : Run) : Type 0 where
  begun : c.used ≡ 0 → before + k.total ≤ after → Adds h c k before after r
  begun_raw : c.used ≡ 0 → k.kind ≡ kinds.Raw → r.kind ≡ classes.Raw → before + h.chunk_hdr_sz + r.blocks * h.blk_sz ≤
      after → Adds h c k before after r
  goes_on : 0 < c.used → r.kind ≡ classes.Raw → before + r.blocks * h.blk_sz ≤ after → Adds h c k before after r

adds_to : (h : Header) (image : ℕ) (c : Cursor) (k : ChunkHeader) (word : List ℕ) (cap : ℕ) (r : Run) (n : ℕ) → HeadFits
    h image c k → 0 < cap → Parts k word c cap r → Charged h c n → Adds h c k n (sparse_charge h r.next) r
adds_to h image c k word cap _ _ f some (passes none) (fresh z) = begun z (omega arith)
adds_to h image c k word cap _ _ f some (passes none) (within u) = absurd
    (let n = none_left h image c k f none in omega (arith, n.0))
adds_to h image c k word cap _ _ f some (ends more few) (fresh z) = begun z (omega arith)
adds_to h image c k word cap _ _ f some (ends more few) (within u) =
    let g = f.going u in
    let n = counted k.kind k.blocks - c.used in
    let all : c.used + n ≡ k.blocks = omega (arith, raw_counts k.kind k.blocks g.0, g.1) in
    let d : (c.used + n) * h.blk_sz ≡ c.used * h.blk_sz + n * h.blk_sz = omega arith in
    let e : (c.used + n) * h.blk_sz ≡ k.blocks * h.blk_sz = ap (λ (m : ℕ). m * h.blk_sz) all in
    goes_on u (class_is k.kind word g.0) (omega (arith, d, e, raw_total h image c k f g.0))
adds_to h image c k word cap _ _ f some (stops raw less) (fresh z) =
    let next : Cursor = record c { block = c.block + cap; used = c.used + cap } in
    let e : sparse_charge h next ≡ c.at + (h.chunk_hdr_sz + (c.used + cap) * h.blk_sz) = charge_in h next (omega arith)
    in
    let d : (c.used + cap) * h.blk_sz ≡ c.used * h.blk_sz + cap * h.blk_sz = omega arith in
    begun_raw z raw refl (omega (arith, e, d))
adds_to h image c k word cap _ _ f some (stops raw less) (within u) =
    let next : Cursor = record c { block = c.block + cap; used = c.used + cap } in
    let e : sparse_charge h next ≡ c.at + (h.chunk_hdr_sz + (c.used + cap) * h.blk_sz) = charge_in h next (omega arith)
    in
    let d : (c.used + cap) * h.blk_sz ≡ c.used * h.blk_sz + cap * h.blk_sz = omega arith in
    goes_on u refl (omega (arith, e, d))

pub adds : (h : Header) (image : ℕ) (c : Cursor) (k : ChunkHeader) (word : List ℕ) (cap : ℕ) (r : Run) → HeadFits h
    image c k → 0 < cap → Parts k word c cap r → Adds h c k (sparse_charge h c) (sparse_charge h r.next) r
adds h image c k word cap r f some p = adds_to h image c k word cap r (sparse_charge h c) f some p (charged h c)

pub read_charged : (h : Header) (image : ℕ) (c : Cursor) (k : ChunkHeader) (read before after : ℕ) (r : Run) → 12 ≤
    h.chunk_hdr_sz → HeadFits h image c k → (has_word k.kind k.blocks ≡ true → read ≤ 16) →
    (has_word k.kind k.blocks ≡ false → read ≤ 12)
    → Adds h c k before after r → read + before ≤ after + entry c
read_charged h image c k read before after r hdr f big small a = elim (cases_Bool (has_word k.kind k.blocks)) [
  | inl e ↦ filled a e (word_total h image c k f e) (big e)
  | inr e ↦ plain a (small e)
]
  where
    filled : Adds h c k before after r → has_word k.kind k.blocks ≡ true → (k.total ≡ h.chunk_hdr_sz + 4) × (c.used ≡ 0)
        → read ≤ 16 → read + before ≤ after + entry c
    filled (begun z le) e t few = omega (arith, t.0)
    filled (begun_raw z raw kind le) e t few = absurd (let a : has_word k.kind k.blocks ≡ false = ap
        (λ (j : ChunkKind). has_word j k.blocks) raw in cc)
    filled (goes_on u raw le) e t few = absurd (omega (arith, t.1))

    plain : Adds h c k before after r → read ≤ 12 → read + before ≤ after + entry c
    plain (begun z le) few = omega (arith, f.total)
    plain (begun_raw z raw kind le) few = omega arith
    plain (goes_on u raw le) few = omega (arith, entered c u)

pub takes : (h : Header) (image : ℕ) (c : Cursor) (k : ChunkHeader) (word : List ℕ) (cap : ℕ) (r : Run)
    (before after : ℕ) → 12 ≤ h.chunk_hdr_sz → HeadFits h image c k → Parts k word c cap r → Adds h c k before after r
    → piece_bytes h.blk_sz c.used r.kind r.blocks + before ≤ after
takes h image c k word cap r before after hdr f p (begun z le) = rw z (parts_of r p)
  where
    of_kind : (j : ChunkKind) → k.kind ≡ j → piece_bytes h.blk_sz 0 (class_of_kind j word) (counted j k.blocks) + before
        ≤ after
    of_kind kinds.Raw e = omega (arith, f.total, raw_total h image c k f e)
    of_kind kinds.Fill e = let t : k.total ≡ h.chunk_hdr_sz + 4 = f.total ∙ ap
        (λ (i : ChunkKind). h.chunk_hdr_sz + data_len h.blk_sz i k.blocks) e in omega arith
    of_kind kinds.Skip e = omega (arith, f.total)
    of_kind kinds.Crc e = omega (arith, f.total)

    parts_of : (q : Run) → Parts k word c cap q → piece_bytes h.blk_sz 0 q.kind q.blocks + before ≤ after
    parts_of _ (passes none) = omega (arith, f.total)
    parts_of _ (stops raw less) =
        let m : (c.used + cap) * h.blk_sz ≤ k.blocks * h.blk_sz = mul-le-mul_right h.blk_sz
        (let y : c.used + cap ≤ k.blocks = omega arith in y) in
        let d : (c.used + cap) * h.blk_sz ≡ c.used * h.blk_sz + cap * h.blk_sz = omega arith in
        omega (arith, m, d, raw_total h image c k f raw)
    parts_of _ (ends more few) = let all : counted k.kind k.blocks - c.used ≡ counted k.kind k.blocks = omega arith in
        rw all (of_kind k.kind refl)
takes h image c k word cap r before after hdr f p (begun_raw z raw kind le) = rw (z, kind) (omega arith)
takes h image c k word cap r before after hdr f p (goes_on u kind le) = rw (kind, unused c.used u) (omega arith)
  where
    unused : (n : ℕ) → 0 < n → (n == 0) ≡ false
    unused zero s = absurd (omega arith)
    unused (suc n) s = elim (cases_Bool (suc n == 0)) [
      | inl z ↦ absurd (let e = eqb-true (suc n) 0 z in omega arith)
      | inr z ↦ z
    ]

grown : (h : Header) (c : Cursor) (k : ChunkHeader) (before after : ℕ) (r : Run) → Adds h c k before after r → before ≤
    after
grown h c k before after r (begun z le) = omega arith
grown h c k before after r (begun_raw z raw kind le) = omega arith
grown h c k before after r (goes_on u kind le) = omega arith

-- from a part's first block to the place after its last
pub here_next : (h : Header) (image : ℕ) (c : Cursor) (k : ChunkHeader) (word : List ℕ) (cap : ℕ) (r : Run) → HeadFits h
    image c k → 0 < cap → Parts k word c cap r → sparse_charge h r.here ≤ sparse_charge h r.next
here_next h image c k word cap _ f some (passes none) = omega arith
here_next h image c k word cap r f some (stops raw less) = grown h c k (sparse_charge h c) (sparse_charge h r.next) r
    (adds h image c k word cap r f some (stops raw less))
here_next h image c k word cap r f some (ends more few) = grown h c k (sparse_charge h c) (sparse_charge h r.next) r
    (adds h image c k word cap r f some (ends more few))

-- raw blocks take at least their bytes
pub raw_copies : (h : Header) (image : ℕ) (c : Cursor) (k : ChunkHeader) (word : List ℕ) (cap : ℕ) (r : Run) → 12 ≤
    h.chunk_hdr_sz → HeadFits h image c k → 0 < cap → Parts k word c cap r → r.kind ≡ classes.Raw → sparse_charge h
    r.here + r.blocks * h.blk_sz ≤ sparse_charge h r.next
raw_copies h image c k word cap r hdr f some p kind = from_here r p kind
    (takes h image c k word cap r (sparse_charge h c) (sparse_charge h r.next) hdr f p
    (adds h image c k word cap r f some p))
  where
    least : (j : RunKind) (n : ℕ) → j ≡ classes.Raw → n * h.blk_sz ≤ piece_bytes h.blk_sz c.used j n
    least j n e = rw e (omega arith)

    from_here : (q : Run) → Parts k word c cap q → q.kind ≡ classes.Raw → piece_bytes h.blk_sz c.used q.kind q.blocks +
        sparse_charge h c ≤ sparse_charge h q.next → sparse_charge h q.here + q.blocks * h.blk_sz ≤ sparse_charge h
        q.next
    from_here _ (passes none) e le = absurd cc
    from_here q (stops raw less) e le = omega (arith, least q.kind q.blocks e)
    from_here q (ends more few) e le = omega (arith, least q.kind q.blocks e)
