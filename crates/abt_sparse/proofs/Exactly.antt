-- Bytes begin with an image or have a fault, exactly one of these, and reading finds which.
use Rattle.std.proofs.Common.{◌≡◌, ℕ, zero, suc, ◌+◌, ◌-◌, ◌≤◌, ◌<◌, true, false, List, [], ◌∷◌, ◌++◌, length, take}
use Rattle.std.proofs.Common.{drop, map, Option, Some, Result, Ok, Err, refl, sym, ap, subst, ◌∙◌, append_assoc}
use Rattle.std.proofs.Common.{append-nil, arith, inl, inr, length-drop, length-take, length-append, drop-drop}
use Rattle.std.proofs.Common.{take-append-drop, ◌==◌, nat_lt, ltb-false, ltb-true, le-ltb, lt-ltb, eqb-true, eq-eqb}
use Rattle.std.proofs.Common.{ne_eqb}
use Rattle.std.proofs.lemmas.Bool.{cases_Bool, eqb-false}
use Rattle.std.proofs.lemmas.List.{drop_at}
use Rattle.abt_sparse.specs.declared.fault.SparseFault.{SparseFault}
use Rattle.abt_sparse.specs.declared.fault.SparseFault.TheVariants.{TooFewBlocks}
use Rattle.abt_sparse.specs.Block.{cells}
use Rattle.abt_sparse.specs.Chunk.{Header, header_record, Chunk, count, classed, SpellsChunks}
use Rattle.abt_sparse.specs.Reading.{checked_header, ChunkRead, Got, Bad, chunk_at, ChunksRead, Done, Failed, behind}
use Rattle.abt_sparse.specs.Reading.{chunks_at, body_at, Outcome, Image, Fault, outcome_of, outcome}
use Rattle.abt_sparse.specs.Fails.{SpellsHeader, counted_in, Front, Spells, Fails, no_image, bad_header, cut_header}
use Rattle.abt_sparse.specs.Fails.{bad_chunk, too_few, IsOutcome}
use Rattle.abt_sparse.proofs.Failing.{header_fails, header_failed, chunk_fails, chunk_failed}
use Rattle.abt_sparse.proofs.Fields.{IsBytes, IsBytes-drop, Checked-from, IsHeader-from, header-back, checked-again}
use Rattle.abt_sparse.proofs.ChunkLaws.{Taken, got_spells, spells_got}

-- one more chunk
pub chunks-got : (h : Header) (size i have left : ℕ) (bytes : List ℕ) (c : Chunk) (n : ℕ) (rest : List ℕ)
    → chunk_at h size i have bytes ≡ Got c n rest
    → chunks_at h size i have (suc left) bytes ≡ behind c (chunks_at h size (i + 1) (have + n) left rest)
unfolding chunks_at
chunks-got h size i have left bytes c n rest e = rw (e, chunks_at) refl

pub chunks-bad : (h : Header) (size i have left : ℕ) (bytes : List ℕ) (f : SparseFault) (came : List ℕ)
    → chunk_at h size i have bytes ≡ Bad f came → chunks_at h size i have (suc left) bytes ≡ Failed f [] came
unfolding chunks_at
chunks-bad h size i have left bytes f came e = rw (e, chunks_at) refl

-- ---- chunks

-- after these many chunks and blocks, with so many chunks left, y goes wrong so
abbrev pub GoesWrong : Header → ℕ → ℕ → ℕ → ℕ → List ℕ → SparseFault → List ℕ → Type 0
GoesWrong h size i have zero y f came = (have ≡ h.total_blks → ⊥) × (f ≡ TooFewBlocks have) × (came ≡ [])
GoesWrong h size i have (suc left) y f came = chunk_at h size i have y ≡ Bad f came

-- what is read of y is so, where so many chunks are left
abbrev IsRead : Header → ℕ → ℕ → ℕ → ℕ → List ℕ → ChunksRead → Type 0
IsRead h size i have left y (Done cs rest) = SpellsChunks h cs y rest × (length cs ≡ left)
    × (have + counted_in cs ≡ h.total_blks)
IsRead h size i have left y (Failed f cs came) = (rest : List ℕ) × SpellsChunks h cs y rest × (length cs ≤ left)
    × (have + counted_in cs ≤ h.total_blks)
    × GoesWrong h size (i + length cs) (have + counted_in cs) (left - length cs) rest f came

wrong_same : (h : Header) (size i j have had left more : ℕ) (y : List ℕ) (f : SparseFault) (came : List ℕ) → i ≡ j
    → have ≡ had → left ≡ more → GoesWrong h size i have left y f came → GoesWrong h size j had more y f came
wrong_same h size i j have had left more y f came a b c w =
    subst (λ (n : ℕ). GoesWrong h size j had n y f came) c (subst (λ (n : ℕ). GoesWrong h size j n left y f came) b
    (subst (λ (n : ℕ). GoesWrong h size n have left y f came) a w))

read-behind : (h : Header) (size i have left : ℕ) (y : List ℕ) (c : Chunk) (m : ℕ) (rest : List ℕ) (read : ChunksRead)
    → Taken h have y c m rest → IsRead h size (i + 1) (have + m) left rest read
    → IsRead h size i have (suc left) y (behind c read)
read-behind h size i have left y c m rest (Done cs last) t r =
    ((t.front, rest, t.spells, t.parts, r.0), ap suc r.1, omega (arith, t.counted_is, r.2))
read-behind h size i have left y c m rest (Failed f cs came) t r = (
  r.0,
  (t.front, rest, t.spells, t.parts, r.1),
  omega (arith, r.2),
  omega (arith, t.counted_is, r.3),
  wrong_same h size _ _ _ _ _ _ r.0 f came (let e : (i + 1) + length cs ≡ i + suc (length cs) = omega arith in
      e) (let e : (have + m) + counted_in cs ≡ have + (count c + counted_in cs) = omega (arith, t.counted_is) in e)
      (let e : left - length cs ≡ suc left - suc (length cs) = omega arith in e) r.4,
)

-- one step, where the rest is read as it should
read_step : (h : Header) (size i have left : ℕ) (y : List ℕ) (read : ChunkRead) → 12 ≤ h.chunk_hdr_sz → IsBytes y
    → have ≤ h.total_blks
    → ((m : ℕ) (rest : List ℕ) → have + m ≤ h.total_blks → IsBytes rest
    → IsRead h size (i + 1) (have + m) left rest (chunks_at h size (i + 1) (have + m) left rest))
    → chunk_at h size i have y ≡ read → IsRead h size i have (suc left) y (chunks_at h size i have (suc left) y)
read_step h size i have left y (Got c m rest) hdr fits le ih e =
    let t = got_spells h size i have y c m rest hdr fits e in
    rw (chunks-got h size i have left y c m rest e) (read-behind h size i have left y c m rest
    (chunks_at h size (i + 1) (have + m) left rest) t (ih m rest t.room t.rest_fits))
read_step h size i have left y (Bad f came) hdr fits le ih e =
    rw (chunks-bad h size i have left y f came e) (
      y,
      refl,
      omega arith,
      omega arith,
      wrong_same h size _ _ _ _ _ _ y f came (let q : i ≡ i + 0 = omega arith in
          q) (let q : have ≡ have + 0 = omega arith in q) (let q : suc left ≡ suc left - 0 = omega arith in q) e,
    )

chunks_read : (h : Header) (size i have left : ℕ) (y : List ℕ) → 12 ≤ h.chunk_hdr_sz → have ≤ h.total_blks → IsBytes y
    → IsRead h size i have left y (chunks_at h size i have left y)
unfolding chunks_at
chunks_read h size i have zero y hdr le fits = elim (cases_Bool (have == h.total_blks)) [
  | inl t ↦ let e = eqb-true _ _ t in rw t (refl, refl, omega arith)
  | inr t ↦ let e = eqb-false _ _ t in
      rw t (
        y,
        refl,
        omega arith,
        omega arith,
        (
          λ s. e (let q : have ≡ h.total_blks = omega (arith, s) in q),
          ap TooFewBlocks (let q : have ≡ have + 0 = omega arith in q),
          refl,
        ),
      )
]
chunks_read h size i have (suc left) y hdr le fits =
    read_step h size i have left y (chunk_at h size i have y) hdr fits le
    (λ m rest room ok. chunks_read h size (i + 1) (have + m) left rest hdr room ok) refl

chunks_done : (h : Header) (size : ℕ) (cs : List Chunk) (i have : ℕ) (y rest : List ℕ) → SpellsChunks h cs y rest
    → have + counted_in cs ≡ h.total_blks → chunks_at h size i have (length cs) y ≡ Done cs rest
unfolding chunks_at
chunks_done h size [] i have y rest s e =
    let t : (have == h.total_blks) ≡ true = eq-eqb _ _ (omega (arith, e)) in
    rw (t, s) refl
chunks_done h size (c ∷ cs) i have y rest s e =
    let g = spells_got h size i have c s.0 s.1 s.2 (omega (arith, e)) in
    let k = chunks-got h size i have (length cs) (s.0 ++ s.1) c (count c) s.1 g in
    rw (s.3, k, chunks_done h size cs (i + 1) (have + count c) s.1 rest s.4 (omega (arith, e))) refl

chunks_wrong : (h : Header) (size : ℕ) (cs : List Chunk) (i have left : ℕ) (y rest : List ℕ) (f : SparseFault)
    (came : List ℕ) → SpellsChunks h cs y rest → length cs ≤ left → have + counted_in cs ≤ h.total_blks
    → GoesWrong h size (i + length cs) (have + counted_in cs) (left - length cs) rest f came
    → chunks_at h size i have left y ≡ Failed f cs came
unfolding chunks_at
chunks_wrong h size [] i have zero y rest f came s lt le w =
    let t : (have == h.total_blks) ≡ false =
    ne_eqb _ _ (λ e. w.0 (let q : have + 0 ≡ h.total_blks = omega (arith, e) in q)) in
    rw (t, w.1, w.2) (ap (λ (n : ℕ). Failed (TooFewBlocks n) [] []) (let q : have ≡ have + 0 = omega arith in q))
chunks_wrong h size [] i have (suc left) y rest f came s lt le w =
    let e : chunk_at h size i have rest ≡ Bad f came =
    wrong_same h size _ _ _ _ _ (suc left) rest f came (let q : i + 0 ≡ i = omega arith in
    q) (let q : have + 0 ≡ have = omega arith in q) (let q : suc left - 0 ≡ suc left = omega arith in q) w in
    rw s (chunks-bad h size i have left rest f came e)
chunks_wrong h size (c ∷ cs) i have zero y rest f came s lt le w = absurd (omega (arith, lt))
chunks_wrong h size (c ∷ cs) i have (suc left) y rest f came s lt le w =
    let g = spells_got h size i have c s.0 s.1 s.2 (omega (arith, le)) in
    let k = chunks-got h size i have left (s.0 ++ s.1) c (count c) s.1 g in
    let moved = wrong_same h size _ _ _ _ _ _ rest f came
    (let e : i + suc (length cs) ≡ (i + 1) + length cs = omega arith in
    e) (let e : have + (count c + counted_in cs) ≡ (have + count c) + counted_in cs = omega arith in e)
    (let e : suc left - suc (length cs) ≡ left - length cs = omega arith in e) w in
    rw (
      s.3,
      k,
      chunks_wrong h size cs (i + 1) (have + count c) left s.1 rest f came s.4 (omega (arith, lt))
          (omega (arith, le)) moved,
    ) refl

-- ---- the whole

-- the header of x, in its parts
pub header_spelled : (x : List ℕ) (h : Header) → IsBytes x → 28 ≤ length x → h.file_hdr_sz ≤ length x
    → checked_header x ≡ Ok h → SpellsHeader x h (drop h.file_hdr_sz x)
header_spelled x h fits long all e =
    let c = Checked-from x h e in
    let ok = IsHeader-from x h fits c in
    let more = h.file_hdr_sz - 28 in
    let sum : 28 + more ≡ h.file_hdr_sz = omega (arith, c.file_hdr_sz) in
    let tail : drop 28 x ≡ take more (drop 28 x) ++ drop h.file_hdr_sz x = sym (take-append-drop more (drop 28 x))
    ∙ ap (λ (t : List ℕ). take more (drop 28 x) ++ t) (drop-drop more 28 x ∙ ap (λ (n : ℕ). drop n x) sum) in
    record {
      extra = take more (drop 28 x);
      fits = ok;
      extra_long = omega (arith, length-take more (drop 28 x), length-drop 28 x, sum);
      spelled = sym (header-back x h long fits c) ∙ ap (λ (t : List ℕ). header_record h ++ t) tail;
    }

-- a fault after the chunks, in its own words
ne_lt : (m n : ℕ) → m ≤ n → (m ≡ n → ⊥) → m < n
ne_lt m n le ne = elim (cases_Bool (m == n)) [
  | inl t ↦ absurd (ne (eqb-true _ _ t))
  | inr t ↦ let e = eqb-false _ _ t
      in omega arith
]

wrong_fails : (x : List ℕ) (h : Header) (cs : List Chunk) (y : List ℕ) (f : SparseFault) (came : List ℕ) (left : ℕ)
    → Front x h cs y → h.total_chunks - length cs ≡ left
    → GoesWrong h (length x) (length cs) (counted_in cs) left y f came
    → Fails x f (cells h.blk_sz (classed cs) ++ map (λ b. Some b) came)
wrong_fails x h cs y f came zero front e w =
    let few : Fails x (TooFewBlocks (counted_in cs)) (cells h.blk_sz (classed cs)) =
    too_few h cs y front (omega (arith, front.within, e)) (ne_lt (counted_in cs) h.total_blks front.room w.0) in
    rw (w.1, w.2, append-nil (cells h.blk_sz (classed cs))) few
wrong_fails x h cs y f came (suc left) front e w =
    bad_chunk h cs y f came front (omega (arith, e)) (chunk_fails h (length x) (length cs) (counted_in cs) y f came w)

body_is : (x : List ℕ) (h : Header) → IsBytes x → SpellsHeader x h (drop h.file_hdr_sz x) → (read : ChunksRead)
    → IsRead h (length x) 0 0 h.total_chunks (drop h.file_hdr_sz x) read → IsOutcome x (outcome_of h read)
body_is x h fits s (Done cs rest) r = record {
  front = record {
    after = drop h.file_hdr_sz x;
    header = s;
    chunks = r.0;
    within = omega (arith, r.1);
    room = omega (arith, r.2);
  };
  whole = r.1;
  full = omega (arith, r.2);
}
body_is x h fits s (Failed f cs came) r =
    wrong_fails x h cs r.0 f came (h.total_chunks - length cs) record {
      after = drop h.file_hdr_sz x;
      header = s;
      chunks = r.1;
      within = r.2;
      room = omega (arith, r.3);
    } refl
    (wrong_same h (length x) _ _ _ _ _ _ r.0 f came (let q : 0 + length cs ≡ length cs = omega arith in
    q) (let q : 0 + counted_in cs ≡ counted_in cs = omega arith in q) refl r.4)

checked_is : (x : List ℕ) → IsBytes x → 28 ≤ length x → (r : Result Header SparseFault) → checked_header x ≡ r
    → IsOutcome x (outcome x)
unfolding outcome body_at
checked_is x fits long (Err f) e = let t : nat_lt (length x) 28 ≡ false = le-ltb _ _ long in
    rw (t, e) (bad_header f long (header_fails x f e))
checked_is x fits long (Ok h) e =
    let t : nat_lt (length x) 28 ≡ false = le-ltb _ _ long in
    let c = Checked-from x h e in
    elim (cases_Bool (nat_lt (length x) h.file_hdr_sz)) [
      | inl s ↦ rw (t, e, s) (cut_header h (drop 28 x) (IsHeader-from x h fits c) (sym (header-back x h long fits c))
          (ltb-true _ _ s))
      | inr s ↦ rw (t, e, s) (body_is x h fits (header_spelled x h fits long (ltb-false _ _ s) e)
          (chunks_at h (length x) 0 0 h.total_chunks (drop h.file_hdr_sz x))
          (chunks_read h (length x) 0 0 h.total_chunks (drop h.file_hdr_sz x) c.chunk_hdr_sz (omega arith)
          (IsBytes-drop h.file_hdr_sz x fits)))
    ]

-- reading finds what is so
pub is_so : (x : List ℕ) → IsBytes x → IsOutcome x (outcome x)
unfolding outcome
is_so x fits = elim (cases_Bool (nat_lt (length x) 28)) [
  | inl s ↦ rw s (no_image (ltb-true _ _ s))
  | inr s ↦ checked_is x fits (ltb-false _ _ s) (checked_header x) refl
]

-- ---- and nothing else is so

-- what is after a header that is encoded
pub behind_header : (x : List ℕ) (h : Header) (after : List ℕ) → SpellsHeader x h after → (28 ≤ length x)
    × (checked_header x ≡ Ok h) × (h.file_hdr_sz ≤ length x) × (drop h.file_hdr_sz x ≡ after)
behind_header x h after s =
    let parts : x ≡ (header_record h ++ s.extra) ++ after =
    s.spelled ∙ sym (append_assoc (header_record h) s.extra after) in
    let front : length (header_record h ++ s.extra) ≡ h.file_hdr_sz = omega (arith, s.extra_long) in
    let long : length x ≡ h.file_hdr_sz + length after =
    ap length parts ∙ omega (arith, length-append (header_record h ++ s.extra) after, front) in (
      omega (arith, long, s.fits.file_hdr_sz.0),
      rw s.spelled (checked-again h (s.extra ++ after) s.fits),
      omega (arith, long),
      ap (λ (t : List ℕ). drop h.file_hdr_sz t) parts
          ∙ drop_at (header_record h ++ s.extra) after h.file_hdr_sz front,
    )

outcome_behind : (x : List ℕ) (h : Header) (after : List ℕ) → SpellsHeader x h after
    → outcome x ≡ outcome_of h (chunks_at h (length x) 0 0 h.total_chunks after)
unfolding outcome body_at
outcome_behind x h after s =
    let b = behind_header x h after s in
    let t : nat_lt (length x) 28 ≡ false = le-ltb _ _ b.0 in
    let u : nat_lt (length x) h.file_hdr_sz ≡ false = le-ltb _ _ b.2 in
    rw (t, b.1, u, b.3) refl

pub spelled_is : (x : List ℕ) (h : Header) (cs : List Chunk) (rest : List ℕ) → Spells x h cs rest
    → outcome x ≡ Image h cs rest
spelled_is x h cs rest s =
    let f = s.front in
    let d = rw s.whole at (chunks_done h (length x) cs 0 0 f.after rest f.chunks (omega (arith, s.full))) in
    outcome_behind x h f.after f.header ∙ ap (outcome_of h) d

wrong_is : (x : List ℕ) (h : Header) (cs : List Chunk) (y : List ℕ) (f : SparseFault) (came : List ℕ) → Front x h cs y
    → GoesWrong h (length x) (length cs) (counted_in cs) (h.total_chunks - length cs) y f came
    → outcome x ≡ Fault f (cells h.blk_sz (classed cs) ++ map (λ b. Some b) came)
wrong_is x h cs y f came front w =
    outcome_behind x h front.after front.header
    ∙ rw (chunks_wrong h (length x) cs 0 0 h.total_chunks front.after y f came front.chunks front.within
    (omega (arith, front.room))
    (wrong_same h (length x) _ _ _ _ _ _ y f came (let q : length cs ≡ 0 + length cs = omega arith in
    q) (let q : counted_in cs ≡ 0 + counted_in cs = omega arith in q) refl w)) refl

-- where chunks are left, the next one fails
some_left : (h : Header) (size i have : ℕ) (y : List ℕ) (f : SparseFault) (came : List ℕ) (left : ℕ) → 0 < left
    → chunk_at h size i have y ≡ Bad f came → GoesWrong h size i have left y f came
some_left h size i have y f came zero some e = absurd (omega arith)
some_left h size i have y f came (suc left) some e = e

none_left : (h : Header) (size i have : ℕ) (y : List ℕ) (left : ℕ) → left ≡ 0 → have < h.total_blks
    → GoesWrong h size i have left y (TooFewBlocks have) []
none_left h size i have y zero none lt = (λ e. omega (arith, e, lt), refl, refl)
none_left h size i have y (suc left) none lt = absurd (omega arith)

pub failed_is : (x : List ℕ) (f : SparseFault) (given : List (Option ℕ)) → Fails x f given → outcome x ≡ Fault f given
unfolding outcome body_at
failed_is x f given (no_image lt) = let t : nat_lt (length x) 28 ≡ true = lt-ltb _ _ lt in rw t refl
failed_is x f given (bad_header g long e) =
    let t : nat_lt (length x) 28 ≡ false = le-ltb _ _ long in
    let u : checked_header x ≡ Err f = header_failed x f e in
    rw (t, u) refl
failed_is x f given (cut_header h y is e lt) =
    let long : length x ≡ 28 + length y = ap length e ∙ length-append (header_record h) y in
    let good : checked_header x ≡ Ok h = ap checked_header e ∙ checked-again h y is in
    let t : nat_lt (length x) 28 ≡ false = le-ltb _ _ (omega (arith, long)) in
    let u : nat_lt (length x) h.file_hdr_sz ≡ true = lt-ltb _ _ lt in
    rw (t, good, u) refl
failed_is x f given (bad_chunk h cs y g came front more w) =
    wrong_is x h cs y f came front (some_left h (length x) (length cs) (counted_in cs) y f came
    (h.total_chunks - length cs) (omega (arith, more))
    (chunk_failed h (length x) (length cs) (counted_in cs) y f came w))
failed_is x f given (too_few h cs y front all lt) =
    wrong_is x h cs y (TooFewBlocks (counted_in cs)) [] front (none_left h (length x) (length cs) (counted_in cs) y
    (h.total_chunks - length cs) (omega (arith, all)) lt)
    ∙ ap (λ (g : List (Option ℕ)). Fault (TooFewBlocks (counted_in cs)) g) (append-nil (cells h.blk_sz (classed cs)))

-- two outcomes of the same bytes are one
pub only : (x : List ℕ) (a : Outcome) → IsOutcome x a → outcome x ≡ a
only x (Image h cs rest) s = spelled_is x h cs rest s
only x (Fault f cs) s = failed_is x f cs s
