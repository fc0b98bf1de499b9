-- An image that ends too early is refused where it ends, and what came of it is a front of what it would give.
use Rattle.std.proofs.Common.{◌≡◌, ℕ, zero, suc, ◌+◌, ◌-◌, ◌≤◌, ◌<◌, true, false, List, [], ◌∷◌, ◌++◌, length, take}
use Rattle.std.proofs.Common.{drop, map, Option, Some, Ok, refl, sym, ap, subst, ◌∙◌, append_assoc, arith, inl, inr}
use Rattle.std.proofs.Common.{nat_lt, ltb-true, ltb-false, lt-ltb, le-ltb, length-append, length-take, take-append-drop}
use Rattle.std.specs.List.{concat}
use Rattle.std.specs.Int.{w16, w32, to_le_bytes}
use Rattle.std.proofs.lemmas.Bool.{cases_Bool}
use Rattle.std.proofs.lemmas.List.{take-append-le, map-append}
use Rattle.abt_sparse.specs.declared.fault.SparseFault.TheVariants.{Truncated}
use Rattle.abt_sparse.specs.Block.{Block, Raw, cells}
use Rattle.abt_sparse.specs.Chunk.{Header, header_record, Chunk, Raws, Fills, Skips, Crc, code, kind, count, data_of}
use Rattle.abt_sparse.specs.Chunk.{partial_of, blocks_of, classed, SpellsChunk, SpellsChunks}
use Rattle.abt_sparse.specs.Reading.{checked_header, chunk_at, Bad, Failed, behind, chunks_at, body_at, Fault, outcome}
use Rattle.abt_sparse.specs.Fails.{BeginsChunk, no_header, cut_short, counted_in, Spells}
use Rattle.abt_sparse.specs.Laws.{CutShort}
use Rattle.abt_sparse.proofs.Fields.{again_2, again_4, checked-again}
use Rattle.abt_sparse.proofs.Lay.{cells-append}
use Rattle.abt_sparse.proofs.ChunkLaws.{code_fits, spells_got, taken_data}
use Rattle.abt_sparse.proofs.Failing.{chunk_failed}
use Rattle.abt_sparse.proofs.Exactly.{chunks-got, chunks-bad}

-- ---- a front of two lists

take_long : {X : Type 0} (front after : List X) (j : ℕ) → length front ≤ j → take j (front ++ after) ≡ front
    ++ take (j - length front) after
take_long [] after j le = ap (λ (k : ℕ). take k after) (let e : j ≡ j - 0 = omega arith in e)
take_long (x ∷ front) after zero le = absurd (omega (arith, le))
take_long {X = X} (x ∷ front) after (suc j) le =
    ap (λ (t : List X). x ∷ t) (take_long front after j (omega (arith, le))
    ∙ ap (λ (k : ℕ). front ++ take k after)
    (let e : j - length front ≡ suc j - suc (length front) = omega arith in e))

-- what is left behind the head of a front
drop_front : (head d : List ℕ) (j : ℕ) → drop (length head) (take j (head ++ d)) ≡ take (j - length head) d
drop_front [] d j = ap (λ (k : ℕ). take k d) (let e : j ≡ j - 0 = omega arith in e)
drop_front (x ∷ head) d zero = ap (λ (k : ℕ). take k d) (let e : 0 ≡ 0 - suc (length head) = omega arith in e)
drop_front (x ∷ head) d (suc j) = drop_front head d j
    ∙ ap (λ (k : ℕ). take k d) (let e : j - length head ≡ suc j - suc (length head) = omega arith in e)

-- ---- a chunk

cells-raws : (b : ℕ) (xs : List (List ℕ)) → cells b (map (λ x. Raw x) xs) ≡ map (λ x. Some x) (concat xs)
cells-raws b [] = refl
cells-raws b (x ∷ xs) = ap (λ (cs : List (Option ℕ)). map (λ y. Some y) x ++ cs) (cells-raws b xs)
    ∙ sym (map-append (λ y. Some y) x (concat xs))

-- what n bytes of a chunk's data give is a front of what the chunk gives
came_front : (b n : ℕ) (c : Chunk) → (more : List (Option ℕ))
    × (cells b (blocks_of c) ≡ map (λ x. Some x) (partial_of (kind c) (take n (data_of c))) ++ more)
came_front b n (Raws xs) = (
  map (λ x. Some x) (drop n (concat xs)),
  cells-raws b xs ∙ ap (map (λ x. Some x)) (sym (take-append-drop n (concat xs)))
      ∙ map-append (λ x. Some x) (take n (concat xs)) (drop n (concat xs)),
)
came_front b n (Fills w m) = (cells b (blocks_of (Fills w m)), refl)
came_front b n (Skips m) = (cells b (blocks_of (Skips m)), refl)
came_front b n (Crc w) = ([], refl)

-- the chunk that is cut short, and what came of it
record ChunkCut (h : Header) (size i have : ℕ) (y : List ℕ) (blocks : List Block) : Type 0 where
  came : List ℕ
  more : List (Option ℕ)
  read : chunk_at h size i have y ≡ Bad (Truncated size) came
  given : cells h.blk_sz blocks ≡ map (λ x. Some x) came ++ more

chunk_cut : (h : Header) (size i have j : ℕ) (c : Chunk) (front : List ℕ) → 12 ≤ h.chunk_hdr_sz
    → SpellsChunk h c front → have + count c ≤ h.total_blks → j < length front
    → ChunkCut h size i have (take j front) (blocks_of c)
chunk_cut h size i have j c front hdr s room lt = elim (cases_Bool (nat_lt j 12)) [
  | inl t ↦ record {
    came = [];
    more = cells h.blk_sz (blocks_of c);
    read = chunk_failed h size i have (take j front) (Truncated size) []
        (no_header (omega (arith, length-take j front, ltb-true _ _ t)));
    given = refl;
  }
  | inr t ↦
      let d = data_of c in
      let total = h.chunk_hdr_sz + length d in
      let fields : List ℕ = to_le_bytes w16 (code (kind c))
      ++ (to_le_bytes w16 s.reserved ++ (to_le_bytes w32 s.blocks ++ to_le_bytes w32 total)) in
      let le : 12 ≤ j = ltb-false _ _ t in
      let y : List ℕ = fields ++ take (j - 12) (s.extra ++ d) in
      let whole : front ≡ fields ++ (s.extra ++ d) = s.spelled in
      let cut : take j front ≡ y = ap (take j) whole ∙ take_long fields (s.extra ++ d) j le in
      let front_long : length front ≡ total = ap length whole ∙ omega (arith, length-append s.extra d, s.extra_long) in
      let long : length y ≡ j = ap length (sym cut) ∙ omega (arith, length-take j front, lt) in
      let parts = taken_data h.blk_sz c s.blocks s.is_chunk s.counted in
      let begins : BeginsChunk y (kind c) s.blocks total = record {
        long = omega (arith, long, le);
        chunk_type = again_2 (code (kind c)) [] (code_fits (kind c));
        chunk_sz = again_4 s.blocks [] s.blocks_fit;
        total_sz = again_4 total [] s.total_fits;
      } in
      let head : List ℕ = fields ++ s.extra in
      let head_long : length head ≡ h.chunk_hdr_sz = omega (arith, s.extra_long) in
      let left : drop h.chunk_hdr_sz y ≡ take (j - h.chunk_hdr_sz) d =
      ap (drop h.chunk_hdr_sz) (sym cut ∙ ap (take j) (whole ∙ sym (append_assoc fields s.extra d)))
      ∙ subst (λ (n : ℕ). drop n (take j (head ++ d)) ≡ take (j - n) d) head_long (drop_front head d j) in
      let f = came_front h.blk_sz (j - h.chunk_hdr_sz) c in
      let bad = chunk_failed h size i have y (Truncated size) (partial_of (kind c) (drop h.chunk_hdr_sz y))
      (cut_short (kind c) s.blocks total begins (ap (λ (n : ℕ). h.chunk_hdr_sz + n) parts.0) (rw parts.1 room)
      (omega (arith, long, front_long, lt))) in
      record {
        came = partial_of (kind c) (take (j - h.chunk_hdr_sz) d);
        more = f.0;
        read = ap (chunk_at h size i have) cut ∙ bad
            ∙ ap (λ (z : List ℕ). Bad (Truncated size) (partial_of (kind c) z)) left;
        given = f.1;
      }
]

-- ---- chunks

record ChunksCut (h : Header) (size i have left : ℕ) (y : List ℕ) (blocks : List Block) : Type 0 where
  chunks : List Chunk
  came : List ℕ
  more : List (Option ℕ)
  read : chunks_at h size i have left y ≡ Failed (Truncated size) chunks came
  given : cells h.blk_sz blocks ≡ (cells h.blk_sz (classed chunks) ++ map (λ x. Some x) came) ++ more

-- the cells of a chunk that is cut short, and of a chunk before one
stopped : (b : ℕ) (c : Chunk) (cs : List Chunk) (came more : List (Option ℕ)) → cells b (blocks_of c) ≡ came ++ more
    → cells b (classed (c ∷ cs)) ≡ came ++ (more ++ cells b (classed cs))
stopped b c cs came more e = cells-append b (blocks_of c) (classed cs)
    ∙ ap (λ (l : List (Option ℕ)). l ++ cells b (classed cs)) e ∙ append_assoc came more (cells b (classed cs))

further : (b : ℕ) (c : Chunk) (cs ds : List Chunk) (came more : List (Option ℕ))
    → cells b (classed cs) ≡ (cells b (classed ds) ++ came) ++ more
    → cells b (classed (c ∷ cs)) ≡ (cells b (classed (c ∷ ds)) ++ came) ++ more
further b c cs ds came more e =
    rw (cells-append b (blocks_of c) (classed cs), cells-append b (blocks_of c) (classed ds), e) (simp append_assoc)

chunks_cut : (h : Header) (size i have j : ℕ) (cs : List Chunk) (y rest : List ℕ) → 12 ≤ h.chunk_hdr_sz
    → SpellsChunks h cs y rest → have + counted_in cs ≤ h.total_blks → j + length rest < length y
    → ChunksCut h size i have (length cs) (take j y) (classed cs)
chunks_cut h size i have j [] y rest hdr s room lt = absurd (omega (arith, lt, ap length s))
chunks_cut h size i have j (c ∷ cs) y rest hdr s room lt =
    let front = s.0 in
    let after = s.1 in
    elim (cases_Bool (nat_lt j (length front))) [
      | inl t ↦
          let near : j < length front = ltb-true _ _ t in
          let cut : take j y ≡ take j front = ap (take j) s.3 ∙ take-append-le j front after (omega (arith, near)) in
          let k = chunk_cut h size i have j c front hdr s.2 (omega (arith, room)) near in
          record {
            chunks = [];
            came = k.came;
            more = k.more ++ cells h.blk_sz (classed cs);
            read = ap (chunks_at h size i have (suc (length cs))) cut
                ∙ chunks-bad h size i have (length cs) (take j front) (Truncated size) k.came k.read;
            given = stopped h.blk_sz c cs (map (λ x. Some x) k.came) k.more k.given;
          }
      | inr t ↦
          let far : length front ≤ j = ltb-false _ _ t in
          let sum = length-append front after in
          let cut : take j y ≡ front ++ take (j - length front) after = ap (take j) s.3 ∙ take_long front after j far in
          let got = spells_got h size i have c front (take (j - length front) after) s.2 (omega (arith, room)) in
          let ih = chunks_cut h size (i + 1) (have + count c) (j - length front) cs after rest hdr s.4
          (omega (arith, room)) (omega (arith, lt, far, sum, ap length s.3)) in
          record {
            chunks = c ∷ ih.chunks;
            came = ih.came;
            more = ih.more;
            read = ap (chunks_at h size i have (suc (length cs))) cut
                ∙ chunks-got h size i have (length cs) (front ++ take (j - length front) after) c (count c)
                (take (j - length front) after) got
                ∙ ap (behind c) ih.read;
            given = further h.blk_sz c cs ih.chunks (map (λ x. Some x) ih.came) ih.more ih.given;
          }
    ]

-- ---- the image

short_front : (x : List ℕ) (h : Header) (m : ℕ) (blocks : List Block) → length (take m x) ≡ m
    → outcome (take m x) ≡ Fault (Truncated (length (take m x))) [] → CutShort m (take m x) (cells h.blk_sz blocks)
short_front x h m blocks n e = record {
  came = [];
  more = cells h.blk_sz blocks;
  read = e
      ∙ ap (λ (k : ℕ). Fault (Truncated k) []) n;
  given = refl;
}

no_header_yet : (y : List ℕ) → length y < 28 → outcome y ≡ Fault (Truncated (length y)) []
unfolding outcome
no_header_yet y lt = let t : nat_lt (length y) 28 ≡ true = lt-ltb _ _ lt in rw t refl

in_header : (h : Header) (y : List ℕ) → 28 ≤ length y → checked_header y ≡ Ok h → length y < h.file_hdr_sz
    → outcome y ≡ Fault (Truncated (length y)) []
unfolding outcome body_at
in_header h y long e lt =
    let t : nat_lt (length y) 28 ≡ false = le-ltb _ _ long in
    let u : nat_lt (length y) h.file_hdr_sz ≡ true = lt-ltb _ _ lt in
    rw (t, e, u) refl

in_body : (h : Header) (y after : List ℕ) (chunks : List Chunk) (came : List ℕ) (m : ℕ) → 28 ≤ length y
    → checked_header y ≡ Ok h → h.file_hdr_sz ≤ length y → length y ≡ m → drop h.file_hdr_sz y ≡ after
    → chunks_at h m 0 0 h.total_chunks after ≡ Failed (Truncated m) chunks came
    → outcome y ≡ Fault (Truncated m) (cells h.blk_sz (classed chunks) ++ map (λ x. Some x) came)
unfolding outcome body_at
in_body h y after chunks came m long e le n d r =
    let t : nat_lt (length y) 28 ≡ false = le-ltb _ _ long in
    let u : nat_lt (length y) h.file_hdr_sz ≡ false = le-ltb _ _ le in
    rw (t, e, u, d) (rw n (rw r refl))

pub cut_short_is : (x : List ℕ) (h : Header) (cs : List Chunk) (rest : List ℕ) (m : ℕ) → Spells x h cs rest
    → m + length rest < length x → CutShort m (take m x) (cells h.blk_sz (classed cs))
cut_short_is x h cs rest m s lt =
    let head = s.front.header in
    let after = s.front.after in
    let hdr = h.file_hdr_sz in
    let n : length (take m x) ≡ m = omega (arith, length-take m x, lt) in
    elim (cases_Bool (nat_lt m 28)) [
      | inl t ↦ short_front x h m (classed cs) n (no_header_yet (take m x) (omega (arith, n, ltb-true _ _ t)))
      | inr t ↦
          let long : 28 ≤ m = ltb-false _ _ t in
          let front : take m x ≡ header_record h ++ take (m - 28) (head.extra ++ after) = ap (take m) head.spelled
          ∙ take_long (header_record h) (head.extra ++ after) m long in
          let good : checked_header (take m x) ≡ Ok h = ap checked_header front
          ∙ checked-again h (take (m - 28) (head.extra ++ after)) head.fits in
          elim (cases_Bool (nat_lt m hdr)) [
            | inl u ↦ short_front x h m (classed cs) n (in_header h (take m x) (omega (arith, n, long)) good
                (omega (arith, n, ltb-true _ _ u)))
            | inr u ↦
                let le : hdr ≤ m = ltb-false _ _ u in
                let top : List ℕ = header_record h ++ head.extra in
                let top_long : length top ≡ hdr = omega (arith, head.extra_long) in
                let parts : x ≡ top ++ after = head.spelled ∙ sym (append_assoc (header_record h) head.extra after) in
                let left : drop hdr (take m x) ≡ take (m - hdr) after = ap (λ (y : List ℕ). drop hdr (take m y)) parts
                ∙ subst (λ (k : ℕ). drop k (take m (top ++ after)) ≡ take (m - k) after) top_long
                (drop_front top after m) in
                let all : length x ≡ hdr + length after =
                ap length parts ∙ omega (arith, length-append top after, top_long) in
                let k = chunks_cut h m 0 0 (m - hdr) cs after rest head.fits.chunk_hdr_sz.0 s.front.chunks
                (omega (arith, s.full)) (omega (arith, lt, all, le)) in
                record {
                  came = cells h.blk_sz (classed k.chunks) ++ map (λ x. Some x) k.came;
                  more = k.more;
                  read = in_body h (take m x) (take (m - hdr) after) k.chunks k.came m (omega (arith, n, long)) good
                      (omega (arith, n, le)) n left (rw s.whole at k.read);
                  given = k.given;
                }
          ]
    ]
