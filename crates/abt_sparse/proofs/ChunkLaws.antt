-- A chunk that is read is encoded so, and what is encoded so is read.
use Rattle.std.proofs.Common.{◌≡◌, ℕ, zero, suc, ◌+◌, ◌-◌, ◌*◌, ◌^◌, ◌<◌, ◌≤◌, Bool, true, false, cond, List, [], ◌∷◌}
use Rattle.std.proofs.Common.{◌++◌, length, take, drop, Option, Some, None, refl, sym, ap, subst, ◌∙◌, append_assoc}
use Rattle.std.proofs.Common.{arith, inl, inr, ◌⊎◌, length-drop, length-take, length-append, drop-drop}
use Rattle.std.proofs.Common.{take-append-drop, not, ◌==◌, nat_lt, ltb-false, le-ltb, eqb-true, eq-eqb}
use Rattle.std.specs.Int.{w16, w32, to_le_bytes}
use Rattle.std.specs.List.{AllByRecursion, concat}
use Rattle.std.proofs.lemmas.Bool.{cases_Bool}
use Rattle.std.proofs.lemmas.List.{take_at, drop_at, drop-take}
use Rattle.abt_sparse.specs.declared.fault.SparseFault.{SparseFault}
use Rattle.abt_sparse.specs.declared.fault.SparseFault.TheVariants.{ChunkLength, TooManyBlocks, Truncated}
use Rattle.abt_sparse.specs.declared.kind.ChunkKind.{ChunkKind}
use Rattle.abt_sparse.specs.declared.kind.ChunkKind.TheVariants as kinds
use Rattle.abt_sparse.specs.Block.{split}
use Rattle.abt_sparse.specs.Chunk.{Header, Chunk, Raws, Fills, Skips, Crc, code, kind, count, data_of, IsChunk}
use Rattle.abt_sparse.specs.Chunk.{chunk_bytes, SpellsChunk}
use Rattle.abt_sparse.specs.Reading.{number_at, kind_at, data_len, counted, chunk_from, partial_of, ChunkRead, Got, Bad}
use Rattle.abt_sparse.specs.Reading.{chunk_body, chunk_known, chunk_at}
use Rattle.abt_sparse.proofs.Fields.{IsBytes, IsBytes-drop, again_2, again_4, field_2, field_4, below_4, not_false}

-- ---- lists

pub split-concat : (b : ℕ) (xs : List (List ℕ)) → AllByRecursion (λ x. length x ≡ b) xs
    → split b (length xs) (concat xs) ≡ xs
split-concat b [] h = refl
split-concat b (x ∷ xs) h = rw (take_at x (concat xs) b h.0, drop_at x (concat xs) b h.0, split-concat b xs h.1) refl

concat-split : (b n : ℕ) (d : List ℕ) → length d ≡ n * b → concat (split b n d) ≡ d
concat-split b zero [] h = refl
concat-split b zero (x ∷ d) h = absurd (omega arith)
concat-split b (suc n) d h = rw (concat-split b n (drop b d) (omega (arith, length-drop b d))) (take-append-drop b d)

pub length-split : (b n : ℕ) (d : List ℕ) → length (split b n d) ≡ n
length-split b zero d = refl
length-split b (suc n) d = ap suc (length-split b n (drop b d))

split_long : (b n : ℕ) (d : List ℕ) → length d ≡ n * b → AllByRecursion (λ x. length x ≡ b) (split b n d)
split_long b zero d h = tt
split_long b (suc n) d h = (omega (arith, length-take b d), split_long b n (drop b d) (omega (arith, length-drop b d)))

pub length-concat : (b : ℕ) (xs : List (List ℕ)) → AllByRecursion (λ x. length x ≡ b) xs
    → length (concat xs) ≡ length xs * b
length-concat b [] h = omega arith
length-concat b (x ∷ xs) h = omega (arith, length-append x (concat xs), h.0, length-concat b xs h.1)

three_parts : (z : List ℕ) (a d : ℕ) → z ≡ take a z ++ (take d (drop a z) ++ drop (a + d) z)
three_parts z a d = sym (take-append-drop a z)
    ∙ ap (λ (t : List ℕ). take a z ++ t) (sym (take-append-drop d (drop a z))
    ∙ ap (λ (t : List ℕ). take d (drop a z) ++ t) (drop-drop d a z))

-- ---- kinds

pub kind-code : (k : ChunkKind) → kind_at (code k) ≡ Some k
kind-code kinds.Raw = refl
kind-code kinds.Fill = refl
kind-code kinds.Skip = refl
kind-code kinds.Crc = refl

abbrev kind_some : ChunkKind → Option ChunkKind
kind_some k = Some k

picked : (n a : ℕ) (j k : ChunkKind) (o : Option ChunkKind) → cond (n == a) (Some j) o ≡ Some k → ((n ≡ a) × (j ≡ k))
    ⊎ (o ≡ Some k)
picked n a j k o e = elim (cases_Bool (n == a)) [
  | inl t ↦ let s : kind_some j ≡ kind_some k = rw t at e in inl (eqb-true n a t, cc)
  | inr t ↦ inr (rw t at e)
]

pub code-kind : (n : ℕ) (k : ChunkKind) → kind_at n ≡ Some k → n ≡ code k
code-kind n k e = elim (picked n 0xCAC1 kinds.Raw k _ e) [
  | inl p ↦ p.0 ∙ ap code p.1
  | inr q ↦ elim (picked n 0xCAC2 kinds.Fill k _ q) [
    | inl p ↦ p.0 ∙ ap code p.1
    | inr r ↦ elim (picked n 0xCAC3 kinds.Skip k _ r) [
      | inl p ↦ p.0 ∙ ap code p.1
      | inr s ↦ elim (picked n 0xCAC4 kinds.Crc k None s) [
        | inl p ↦ p.0 ∙ ap code p.1
        | inr t ↦ absurd cc
      ]
    ]
  ]
]

pub code_fits : (k : ChunkKind) → code k < 2 ^ 16
code_fits kinds.Raw = omega arith
code_fits kinds.Fill = omega arith
code_fits kinds.Skip = omega arith
code_fits kinds.Crc = omega arith

-- ---- the chunk that the fields and the data make

made_kind : (b : ℕ) (k : ChunkKind) (n : ℕ) (d : List ℕ) → kind (chunk_from b k n d) ≡ k
made_kind b kinds.Raw n d = refl
made_kind b kinds.Fill n d = refl
made_kind b kinds.Skip n d = refl
made_kind b kinds.Crc n d = refl

made_count : (b : ℕ) (k : ChunkKind) (n : ℕ) (d : List ℕ) → count (chunk_from b k n d) ≡ counted k n
made_count b kinds.Raw n d = length-split b n d
made_count b kinds.Fill n d = refl
made_count b kinds.Skip n d = refl
made_count b kinds.Crc n d = refl

made_data : (b : ℕ) (k : ChunkKind) (n : ℕ) (d : List ℕ) → length d ≡ data_len b k n → data_of (chunk_from b k n d) ≡ d
made_data b kinds.Raw n d h = concat-split b n d h
made_data b kinds.Fill n d h = refl
made_data b kinds.Skip n [] h = refl
made_data b kinds.Skip n (x ∷ d) h = absurd (omega arith)
made_data b kinds.Crc n d h = refl

made_chunk : (b : ℕ) (k : ChunkKind) (n : ℕ) (d : List ℕ) → length d ≡ data_len b k n → IsChunk b (chunk_from b k n d)
made_chunk b kinds.Raw n d h = split_long b n d h
made_chunk b kinds.Fill n d h = h
made_chunk b kinds.Skip n d h = tt
made_chunk b kinds.Crc n d h = h

counts : (k : ChunkKind) (n : ℕ) → (k ≡ kinds.Crc → ⊥) → n ≡ counted k n
counts kinds.Raw n h = refl
counts kinds.Fill n h = refl
counts kinds.Skip n h = refl
counts kinds.Crc n h = absurd (h refl)

pub taken_data : (b : ℕ) (c : Chunk) (n : ℕ) → IsChunk b c → ((kind c ≡ kinds.Crc → ⊥) → n ≡ count c)
    → (length (data_of c) ≡ data_len b (kind c) n) × (counted (kind c) n ≡ count c)
    × (chunk_from b (kind c) n (data_of c) ≡ c)
taken_data b (Raws xs) n h e = let s : n ≡ length xs = e (λ t. absurd cc) in
    rw s (length-concat b xs h, refl, ap (λ (ys : List (List ℕ)). Raws ys) (split-concat b xs h))
taken_data b (Fills w m) n h e = let s : n ≡ m = e (λ t. absurd cc) in (h, s, ap (λ (j : ℕ). Fills w j) s)
taken_data b (Skips m) n h e = let s : n ≡ m = e (λ t. absurd cc) in (refl, s, ap (λ (j : ℕ). Skips j) s)
taken_data b (Crc w) n h e = (h, refl, refl)

-- ---- a good header, by its fields

-- y begins with a good header of these fields, with its data, and then the rest
pub record GoodChunk (h : Header) (have : ℕ) (y : List ℕ) (k : ChunkKind) (n total : ℕ) (d rest : List ℕ) : Type 0 where
  pub long : 12 ≤ length y
  pub kind_is : kind_at (number_at 0 2 y) ≡ Some k
  pub blocks_is : number_at 4 4 y ≡ n
  pub total_is : number_at 8 4 y ≡ total
  pub total_right : total ≡ h.chunk_hdr_sz + data_len h.blk_sz k n
  pub room : have + counted k n ≤ h.total_blks
  pub whole : total ≤ length y
  pub data_is : drop h.chunk_hdr_sz (take total y) ≡ d
  pub rest_is : drop total y ≡ rest

good_got : (h : Header) (size i have : ℕ) (y : List ℕ) (k : ChunkKind) (n total : ℕ) (d rest : List ℕ)
    → GoodChunk h have y k n total d rest
    → chunk_at h size i have y ≡ Got (chunk_from h.blk_sz k n d) (counted k n) rest
unfolding chunk_at
good_got h size i have y k n total d rest g =
    let long : nat_lt (length y) 12 ≡ false = le-ltb _ _ g.long in
    let right : (total == h.chunk_hdr_sz + data_len h.blk_sz k n) ≡ true = eq-eqb _ _ g.total_right in
    let room : nat_lt h.total_blks (have + counted k n) ≡ false = le-ltb _ _ g.room in
    let whole : nat_lt (length y) total ≡ false = le-ltb _ _ g.whole in
    rw (long, g.kind_is, g.blocks_is, g.total_is, right, room, whole, g.data_is, g.rest_is) refl

-- the tests on the way to a chunk
guard_got : (t : Bool) (f : SparseFault) (came : List ℕ) (r : ChunkRead) (c : Chunk) (n : ℕ) (rest : List ℕ)
    → cond t (Bad f came) r ≡ Got c n rest → (t ≡ false) × (r ≡ Got c n rest)
guard_got true f came r c n rest e = absurd cc
guard_got false f came r c n rest e = (refl, e)

-- the chunk of good fields
pub record Made (h : Header) (have : ℕ) (y : List ℕ) (c : Chunk) (m : ℕ) (rest : List ℕ) : Type 0 where
  pub k : ChunkKind
  pub n : ℕ
  pub total : ℕ
  pub d : List ℕ
  pub good : GoodChunk h have y k n total d rest
  pub c_is : chunk_from h.blk_sz k n d ≡ c
  pub m_is : counted k n ≡ m

body_made : (h : Header) (size i have : ℕ) (y : List ℕ) (k : ChunkKind) (c : Chunk) (m : ℕ) (rest : List ℕ)
    → 12 ≤ length y → kind_at (number_at 0 2 y) ≡ Some k → chunk_body h size i have y k ≡ Got c m rest
    → Made h have y c m rest
body_made h size i have y k c m rest long e g =
    let n = number_at 4 4 y in
    let total = number_at 8 4 y in
    let a = guard_got (not (total == h.chunk_hdr_sz + data_len h.blk_sz k n)) (ChunkLength i) [] _ c m rest g in
    let b = guard_got (nat_lt h.total_blks (have + counted k n)) (TooManyBlocks i) [] _ c m rest a.1 in
    let w = guard_got (nat_lt (length y) total) (Truncated size) (partial_of k (drop h.chunk_hdr_sz y)) _ c m rest b.1
    in
    let made : Got (chunk_from h.blk_sz k n (drop h.chunk_hdr_sz (take total y))) (counted k n)
    (drop total y) ≡ Got c m rest = w.1 in
    record {
      k = k;
      n = n;
      total = total;
      d = drop h.chunk_hdr_sz (take total y);
      good = record {
        long = long;
        kind_is = e;
        blocks_is = refl;
        total_is = refl;
        total_right = eqb-true _ _ (not_false _ a.0);
        room = ltb-false _ _ b.0;
        whole = ltb-false _ _ w.0;
        data_is =
            refl;
        rest_is = cc;
      };
      c_is = cc;
      m_is = cc;
    }

known_made : (h : Header) (size i have : ℕ) (y : List ℕ) (o : Option ChunkKind) (c : Chunk) (m : ℕ) (rest : List ℕ)
    → 12 ≤ length y → kind_at (number_at 0 2 y) ≡ o → chunk_known h size i have y o ≡ Got c m rest
    → Made h have y c m rest
known_made h size i have y None c m rest long e g = absurd cc
known_made h size i have y (Some k) c m rest long e g = body_made h size i have y k c m rest long e g

pub got_made : (h : Header) (size i have : ℕ) (y : List ℕ) (c : Chunk) (m : ℕ) (rest : List ℕ)
    → chunk_at h size i have y ≡ Got c m rest → Made h have y c m rest
unfolding chunk_at
got_made h size i have y c m rest g =
    let a = guard_got (nat_lt (length y) 12) (Truncated size) []
    (chunk_known h size i have y (kind_at (number_at 0 2 y))) c m rest g in
    known_made h size i have y (kind_at (number_at 0 2 y)) c m rest (ltb-false _ _ a.0) refl a.1

-- ---- what is encoded is read

pub spells_got : (h : Header) (size i have : ℕ) (c : Chunk) (front rest : List ℕ) → SpellsChunk h c front
    → have + count c ≤ h.total_blks → chunk_at h size i have (front ++ rest) ≡ Got c (count c) rest
spells_got h size i have c front rest s room =
    let t = taken_data h.blk_sz c s.blocks s.is_chunk s.counted in
    let d = data_of c in
    let total = h.chunk_hdr_sz + length d in
    let head : List ℕ = to_le_bytes w16 (code (kind c))
    ++ (to_le_bytes w16 s.reserved ++ (to_le_bytes w32 s.blocks ++ (to_le_bytes w32 total ++ s.extra))) in
    let is_front : front ≡ head ++ d = s.spelled in
    let head_long : length head ≡ h.chunk_hdr_sz = omega (arith, s.extra_long) in
    let front_long : length (head ++ d) ≡ total = omega (arith, length-append head d, head_long) in
    let good : GoodChunk h have ((head ++ d) ++ rest) (kind c) s.blocks total d rest = record {
      long = omega arith;
      kind_is = ap kind_at (again_2 (code (kind c)) [] (code_fits (kind c))) ∙ kind-code (kind c);
      blocks_is = again_4 s.blocks [] s.blocks_fit;
      total_is = again_4 total [] s.total_fits;
      total_right = ap (λ (j : ℕ). h.chunk_hdr_sz + j) t.0;
      room = rw t.1 room;
      whole = omega (arith, length-append (head ++ d) rest, front_long);
      data_is = rw (take_at (head ++ d) rest total front_long) (drop_at head d h.chunk_hdr_sz head_long);
      rest_is = drop_at (head ++ d) rest total front_long;
    } in
    rw is_front (good_got h size i have ((head ++ d) ++ rest) (kind c) s.blocks total d rest good ∙ rw (t.1, t.2) refl)

-- ---- what is read is encoded so

pub record Taken (h : Header) (have : ℕ) (y : List ℕ) (c : Chunk) (m : ℕ) (rest : List ℕ) : Type 0 where
  pub front : List ℕ
  pub spells : SpellsChunk h c front
  pub parts : y ≡ front ++ rest
  pub counted_is : m ≡ count c
  pub room : have + m ≤ h.total_blks
  pub rest_fits : IsBytes rest

taken_good : (h : Header) (have : ℕ) (y : List ℕ) (k : ChunkKind) (n total : ℕ) (d rest : List ℕ)
    → 12 ≤ h.chunk_hdr_sz → IsBytes y → GoodChunk h have y k n total d rest
    → Taken h have y (chunk_from h.blk_sz k n d) (counted k n) rest
taken_good h have y k n total d rest hdr fits g =
    let b = h.blk_sz in
    let c = chunk_from b k n d in
    let extra = take (h.chunk_hdr_sz - 12) (drop 12 y) in
    let chs : 12 + (h.chunk_hdr_sz - 12) ≡ h.chunk_hdr_sz = omega arith in
    let long : length d ≡ data_len b k n =
    rw (← g.data_is) (omega (
      arith,
      length-drop h.chunk_hdr_sz (take total y),
      length-take total y,
      g.total_right,
      g.whole,
    )) in
    let same : data_of c ≡ d = made_data b k n d long in
    let total_same : total ≡ h.chunk_hdr_sz + length d = rw long g.total_right in
    let data_at : d ≡ take (length d) (drop h.chunk_hdr_sz y) =
    sym g.data_is ∙ ap (λ (j : ℕ). drop h.chunk_hdr_sz (take j y)) total_same
    ∙ drop-take h.chunk_hdr_sz (length d) y in
    let tail : drop 12 y ≡ extra ++ (d ++ rest) =
    three_parts (drop 12 y) (h.chunk_hdr_sz - 12) (length d)
    ∙ ap (λ (t : List ℕ). extra ++ t) (ap (λ (t : List ℕ). take (length d) t
    ++ drop ((h.chunk_hdr_sz - 12) + length d) (drop 12 y)) (drop-drop (h.chunk_hdr_sz - 12) 12 y
    ∙ ap (λ (j : ℕ). drop j y) chs)
    ∙ rw (← data_at) (ap (λ (t : List ℕ). d ++ t) (drop-drop ((h.chunk_hdr_sz - 12) + length d) 12 y
    ∙ ap (λ (j : ℕ). drop j y) (let j : 12 + ((h.chunk_hdr_sz - 12) + length d) ≡ total = omega arith in j)
    ∙ g.rest_is))) in
    let f8 = rw g.total_is at (field_4 8 y (extra ++ (d ++ rest)) (omega (arith, g.long)) fits (sym tail)) in
    let f4 = rw g.blocks_is at (field_4 4 y _ (omega (arith, g.long)) fits f8) in
    let f2 = field_2 2 y _ (omega (arith, g.long)) fits f4 in
    let f0 = field_2 0 y _ (omega (arith, g.long)) fits f2 in
    let code_is : number_at 0 2 y ≡ code k = code-kind (number_at 0 2 y) k g.kind_is in
    let front = chunk_bytes (code k) (to_le_bytes w16 (number_at 2 2 y)) n total extra d in
    let parts : y ≡ front ++ rest = sym (rw code_is at f0) ∙ ap (λ (t : List ℕ). to_le_bytes w16 (code k)
    ++ (to_le_bytes w16 (number_at 2 2 y) ++ (to_le_bytes w32 n ++ (to_le_bytes w32 total ++ t))))
    (sym (append_assoc extra d rest)) in
    let total_fits : total < 2 ^ 32 = rw g.total_is at (below_4 8 y fits) in
    record {
      front = front;
      spells = record {
        reserved = number_at 2 2 y;
        blocks = n;
        extra = extra;
        blocks_fit = rw g.blocks_is at (below_4 4 y fits);
        extra_long = omega (
          arith,
          length-take (h.chunk_hdr_sz - 12) (drop 12 y),
          length-drop 12 y,
          g.whole,
          g.total_right,
        );
        total_fits = rw same (rw total_same at total_fits);
        counted = λ ne. counts k n (λ e. ne (made_kind b k n d ∙ e)) ∙ sym (made_count b k n d);
        is_chunk = made_chunk b k n d long;
        spelled = rw (same, made_kind b k n d, ← total_same) refl;
      };
      parts = parts;
      counted_is = sym (made_count b k n d);
      room = g.room;
      rest_fits = rw (← g.rest_is) (IsBytes-drop total y fits);
    }

pub got_spells : (h : Header) (size i have : ℕ) (y : List ℕ) (c : Chunk) (m : ℕ) (rest : List ℕ) → 12 ≤ h.chunk_hdr_sz
    → IsBytes y → chunk_at h size i have y ≡ Got c m rest → Taken h have y c m rest
got_spells h size i have y c m rest hdr fits e =
    let w = got_made h size i have y c m rest e in
    subst (λ (x : Chunk). Taken h have y x m rest) w.c_is
    (subst (λ (j : ℕ). Taken h have y (chunk_from h.blk_sz w.k w.n w.d) j rest) w.m_is
    (taken_good h have y w.k w.n w.total w.d rest hdr fits w.good))
