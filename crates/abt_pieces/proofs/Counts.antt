-- What steps cost, summed.
use Rattle.std.proofs.Common.{◌≡◌, ◌==◌, if◌then◌else◌, ℕ, zero, suc, ◌+◌, ◌-◌, ◌*◌, ◌<◌, ◌≤◌, nat_lt, min, true, false}
use Rattle.std.proofs.Common.{refl, sym, ap, ◌∙◌, arith, inl, inr, Option, Some, None}
use Rattle.std.proofs.lemmas.Bool.{cases_Bool, eqb-true, eqb-false, ltb-true, ltb-false, lt-ltb}
use Rattle.abt_runs.specs.Part.{is_end, piece_bytes, entry}
use Rattle.abt_runs.specs.Whole.{alike_kinds}
use Rattle.abt_runs.specs.declared.part.Cursor.{Cursor}
use Rattle.abt_runs.specs.declared.part.Run.{Run}
use Rattle.abt_runs.specs.declared.part.RunKind.{RunKind}
use Rattle.abt_runs.specs.declared.part.RunKind.TheVariants as kinds
use Rattle.abt_pieces.specs.Contents.{opens_len, copy_len, contents_before}
use Rattle.abt_pieces.specs.Plan.{last_words}
use Rattle.abt_pieces.specs.Gather.{ClosedRun, SoundGatherer, gathered_on, silent_left, gathered_to}
use Rattle.abt_pieces.specs.Write.{begins, begun_as, run_begun, opened_on, chunk_opened, copied_on, to_find}
use Rattle.abt_pieces.specs.Write.{silent_write, passed_to, writer_words}
use Rattle.abt_pieces.specs.declared.write.Copying.{Copying}
use Rattle.abt_pieces.specs.declared.write.Writer.{Writer}
use Rattle.abt_pieces.proofs.Going.{gathering, begun_keeps, ended, goes, copy_case}
use Rattle.abt_pieces.specs.declared.gather.Gatherer.{Gatherer}
use Rattle.abt_pieces.proofs.Gathering.{left_on}

pub not_below : (x y : ℕ) → y ≤ x → nat_lt x y ≡ false
not_below x y le = elim (cases_Bool (nat_lt x y)) [ inl h ↦ absurd (let z = ltb-true x y h in omega arith) | inr h ↦ h ]

-- ---- the words of the last block

-- a part of q blocks counts them once
pub words_on : (p one n i j q : ℕ) → 4 * p ≤ one → (0 < p → i + 1 ≡ n) → (0 < p → 0 < q) → j ≡ i + q → p + last_words
    one n i ≤ last_words one n j
words_on p one n i j q small end some e = elim (cases_Bool (nat_lt 0 p)) [
  | inl a ↦
      let pos = ltb-true 0 p a in
      let last = end pos in
      let more = some pos in
      let h : nat_lt i n ≡ true = lt-ltb i n (omega arith) in
      let k : nat_lt j n ≡ false = not_below j n (omega arith) in
      rw (h, k) (omega arith)
  | inr a ↦
      let none = ltb-false 0 p a in
      elim (cases_Bool (nat_lt i n)) [
        | inl h ↦ rw h (omega arith)
        | inr h ↦
            let over = ltb-false i n h in
            let k : nat_lt j n ≡ false = not_below j n (omega arith) in
            rw (h, k) (omega arith)
      ]
]

pub words_further : (one n i j : ℕ) → i ≤ j → last_words one n i ≤ last_words one n j
words_further one n i j le = elim (cases_Bool (nat_lt i n)) [
  | inl h ↦ rw h (omega arith)
  | inr h ↦ let over = ltb-false i n h in let k : nat_lt j n ≡ false = not_below j n (omega arith) in rw (h, k)
      (omega arith)
]

pub words_most : (one n i : ℕ) → last_words one n i ≤ one
words_most one n i = elim (cases_Bool (nat_lt i n)) [ inl h ↦ rw h (omega arith) | inr h ↦ rw h (omega arith) ]

pub words_top : (p one n i : ℕ) → 4 * p ≤ one → (0 < p → i + 1 ≡ n) → p + last_words one n i ≤ one
words_top p one n i small end = let a = words_on p one n i (i + 1) 1 small end (λ h. omega arith) refl in let b =
    words_most one n (i + 1) in omega arith

pub words_none : (one n i : ℕ) → i < n → last_words one n i ≡ 0
words_none one n i lt = let h : nat_lt i n ≡ true = lt-ltb i n lt in rw h refl

-- the same of a part within a segment
pub segment_words : (p one n i j q past : ℕ) → 4 * p ≤ one → (0 < p → i + 1 ≡ n) → (0 < p → 0 < q) → j ≡ i + q → i <
    past → past ≤ n → p + last_words one n (min i past) ≤ last_words one n (min j past)
segment_words p one n i j q past small end some e low within =
    let a : min i past ≡ i = omega arith in
    rw a (words_on p one n i (min j past) (min j past - i) small end
    (λ h. let s = some h in let z : 0 < min j past - i = omega arith in z)
    (let z : min j past ≡ i + (min j past - i) = omega arith in z))

pub segment_top : (p one n i past : ℕ) → 4 * p ≤ one → (0 < p → i + 1 ≡ n) → i < past → p + last_words one n
    (min i past) ≤ one
segment_top p one n i past small end low = let a : min i past ≡ i = omega arith in rw a (words_top p one n i small end)

pub segment_further : (one n i j past : ℕ) → i ≤ j → last_words one n (min i past) ≤ last_words one n (min j past)
segment_further one n i j past le = words_further one n (min i past) (min j past) (omega arith)

-- ---- steps that read nothing

pub silent_most : (n past : ℕ) (g : Gatherer) → silent_left n past g ≤ 3
silent_most n past g = elim (cases_Bool (nat_lt g.at.block past)) [
  | inl a ↦ rw a (omega arith)
  | inr a ↦ elim (cases_Bool (nat_lt g.at.block n)) [
    | inl b ↦ rw (a, b) (omega arith)
    | inr b ↦ elim (cases_Bool (is_end g.kind)) [
      | inl c ↦ rw (a, b, c) (omega arith)
      | inr c ↦ rw (a, b, c)
          (omega arith)
    ]
  ]
]

pub paid_on : (within : Cursor → Type 0) (n first past d : ℕ) (g : Gatherer) (r : Run) → SoundGatherer within n first
    past g → is_end g.kind ≡ false → (g.at.block < past → 0 < d) → (past ≤ g.at.block → r.next.block ≡ n) →
    (g.at.block ≡ n → is_end r.kind ≡ true)
    → silent_left n past (gathered_on g r).0 < silent_left n past g + d
paid_on within n first past d g r h going reads tail at_end = elim (cases_Bool (nat_lt g.at.block past)) [
  | inl a ↦ let some = reads (ltb-true g.at.block past a) in let most = silent_most n past (gathered_on g r).0 in
      let same : silent_left n past g ≡ 3 = rw a refl in omega arith
  | inr a ↦ let over = ltb-false g.at.block past a in let less = left_on (λ c. 0) within n first past g r h going
      (λ low _. absurd (omega arith)) tail at_end in omega arith
]

-- ---- what a part takes in a piece

pub takes_on : (j k : RunKind) (used q size bytes t t' : ℕ) → (0 < used → k ≡ kinds.Raw) → is_end k ≡ false →
    piece_bytes size used k q + t ≤ t' → bytes + (opens_len j k + copy_len k q size) + t ≤ bytes + t' +
    (if used == 0 then 0 else 16)
takes_on j kinds.Raw used q size bytes t t' inside going h = elim (cases_Bool (used == 0)) [
  | inl z ↦ let e : 12 + q * size + t ≤ t' = rw z at h in elim (cases_Bool (alike_kinds j kinds.Raw))
      [ inl a ↦ rw (z, a) (omega arith) | inr a ↦ rw (z, a) (omega arith) ]
  | inr z ↦ let e : 0 + q * size + t ≤ t' = rw z at h in elim (cases_Bool (alike_kinds j kinds.Raw))
      [ inl a ↦ rw (z, a) (omega arith) | inr a ↦ rw (z, a) (omega arith) ]
]
takes_on j (kinds.Fill w) used q size bytes t t' inside going h = elim (cases_Bool (alike_kinds j (kinds.Fill w)))
    [ inl a ↦ rw a (omega arith) | inr a ↦ rw a (omega arith) ]
takes_on j kinds.Skip used q size bytes t t' inside going h = elim (cases_Bool (alike_kinds j kinds.Skip))
    [ inl a ↦ rw a (omega arith) | inr a ↦ rw a (omega arith) ]
takes_on j kinds.End used q size bytes t t' inside going h = absurd cc

pub begin_bytes : (n : ℕ) → (contents_before n).bytes ≤ 40
begin_bytes zero = omega arith
begin_bytes (suc n) = omega arith

-- ---- a writer that goes on

pub writer_most : (one n : ℕ) (w : Writer) → writer_words one n w ≤ 2 * one
unfolding writer_words
writer_most one n w =
    let a = words_most one n (min w.gatherer.at.block w.past) in
    let b = words_most one n (min (passed_to (begins w.gatherer) w.copying) w.past) in
    omega (arith, a, b)

pub writer_none : (one n : ℕ) (w : Writer) → w.past < n → writer_words one n w ≡ 0
unfolding writer_words
writer_none one n w lt =
    let a = words_none one n (min w.gatherer.at.block w.past) (omega arith) in
    let b = words_none one n (min (passed_to (begins w.gatherer) w.copying) w.past) (omega arith) in
    omega (arith, a, b)

-- it has looked on
pub writer_looks : (one n t t' : ℕ) (w v : Writer) → v.past ≡ w.past → passed_to (begins w.gatherer) w.copying ≤
    passed_to (begins v.gatherer) v.copying
    → t + last_words one n (min w.gatherer.at.block w.past) ≤ t' + last_words one n (min v.gatherer.at.block w.past) → t
    + writer_words one n w ≤ t' + writer_words one n v
unfolding writer_words
writer_looks one n t t' w v e le h =
    let m = segment_further one n (passed_to (begins w.gatherer) w.copying) (passed_to (begins v.gatherer) v.copying)
    w.past le in
    rw e (omega (arith, m, h))

-- it has passed raw blocks
pub writer_passes : (one n t t' : ℕ) (w v : Writer) → v.past ≡ w.past → v.gatherer ≡ w.gatherer
    → t + last_words one n (min (passed_to (begins w.gatherer) w.copying) w.past) ≤ t' + last_words one n
    (min (passed_to (begins w.gatherer) v.copying) w.past) → t + writer_words one n w ≤ t' + writer_words one n v
unfolding writer_words
writer_passes one n t t' w v e f h = rw (e, f) (omega (arith, h))

pub writer_copies : (one n : ℕ) (w v : Writer) → v.past ≡ w.past → v.gatherer ≡ w.gatherer → passed_to
    (begins w.gatherer) w.copying ≤ passed_to (begins w.gatherer) v.copying → writer_words one n w ≤ writer_words one n
    v
unfolding writer_words
writer_copies one n w v e f le =
    let m = segment_further one n (passed_to (begins w.gatherer) w.copying) (passed_to (begins w.gatherer) v.copying)
    w.past le in
    rw (e, f) (omega (arith, m))

pub writer_looked : (one n t t' : ℕ) (w : Writer) → t + last_words one n (min w.gatherer.at.block w.past) ≤ t' + one → t
    + writer_words one n w ≤ t' + 2 * one
unfolding writer_words
writer_looked one n t t' w h = let b = words_most one n (min (passed_to (begins w.gatherer) w.copying) w.past) in omega
    (arith, b, h)

pub writer_passed : (one n t t' : ℕ) (w : Writer) (c : Copying) → w.copying ≡ Some c → t + last_words one n
    (min c.next.block w.past) ≤ t' + one → t + writer_words one n w ≤ t' + 2 * one
unfolding writer_words
writer_passed one n t t' w c is h =
    let a = words_most one n (min w.gatherer.at.block w.past) in
    let p : passed_to (begins w.gatherer) w.copying ≡ c.next.block = ap
    (λ (o : Option Copying). passed_to (begins w.gatherer) o) is in
    rw p (omega (arith, a, h))

-- a run is begun where the blocks before it have been passed
begun_passes : (W : Cursor → Type 0) (n : ℕ) (w : Writer) (g : Gatherer) (r : Run) (k : RunKind) → r.kind ≡ k →
    w.copying ≡ None → SoundGatherer W n w.first w.past w.gatherer → ClosedRun w.gatherer g r
    → passed_to (begins w.gatherer) w.copying ≤ passed_to (begins (begun_as k (gathering w g) r).gatherer)
    (begun_as k (gathering w g) r).copying
begun_passes W n w g r kinds.Raw e none sound run = let z = sound.raw (sym run.kind ∙ e) run.some in let y = ap
    (λ (c : Cursor). c.block) run.here in rw none (omega (arith, y, z.whole))
begun_passes W n w g r (kinds.Fill v) e none sound run = rw none (omega (arith, run.start))
begun_passes W n w g r kinds.Skip e none sound run = rw none (omega (arith, run.start))
begun_passes W n w g r kinds.End e none sound run = rw none (omega (arith, run.start))

pub run_words : (W : Cursor → Type 0) (n one t t' : ℕ) (w : Writer) (g : Gatherer) (r : Run) → w.copying ≡ None →
    SoundGatherer W n w.first w.past w.gatherer → ClosedRun w.gatherer g r → t + last_words one n
    (min w.gatherer.at.block w.past) ≤ t' + last_words one n (min g.at.block w.past)
    → t + writer_words one n w ≤ t' + writer_words one n (run_begun (gathering w g) r)
run_words W n one t t' w g r none sound run h =
    let k = begun_keeps r.kind (gathering w g) r in
    writer_looks one n t t' w (run_begun (gathering w g) r) k.1 (begun_passes W n w g r r.kind refl none sound run)
    (rw k.0 h)

one_to_find : (u : ℕ) (c : Copying) → to_find u (Some c) ≤ 1
one_to_find u c = elim (cases_Bool (nat_lt c.next.block (u - c.after)))
    [ inl e ↦ rw e (omega arith) | inr e ↦ rw e (omega arith) ]

none_to_find : (u : ℕ) (o : Option Copying) → o ≡ None → to_find u o ≡ 0
none_to_find u o e = rw e refl

-- no part is found before the first chunk is begun
begun_find : (W : Cursor → Type 0) (n : ℕ) (w : Writer) (g : Gatherer) (r : Run) (k : RunKind) → r.kind ≡ k → w.copying
    ≡ None → SoundGatherer W n w.first w.past w.gatherer → ClosedRun w.gatherer g r → to_find
    (begins (begun_as k (gathering w g) r).gatherer) (begun_as k (gathering w g) r).copying ≡ 0
begun_find W n w g r kinds.Raw e none sound run =
    let z = sound.raw (sym run.kind ∙ e) run.some in
    let y = ap (λ (c : Cursor). c.block) run.here in
    let h : nat_lt r.here.block (begins g - r.blocks) ≡ false = not_below r.here.block (begins g - r.blocks)
    (omega (arith, y, z.whole, run.start, run.blocks)) in
    rw h refl
begun_find W n w g r (kinds.Fill v) e none sound run = none_to_find (begins g) w.copying none
begun_find W n w g r kinds.Skip e none sound run = none_to_find (begins g) w.copying none
begun_find W n w g r kinds.End e none sound run = none_to_find (begins g) w.copying none

pub run_paid : (W : Cursor → Type 0) (n d : ℕ) (w : Writer) (g : Gatherer) (r : Run) → w.copying ≡ None → SoundGatherer
    W n w.first w.past w.gatherer → ClosedRun w.gatherer g r → silent_left n w.past g < silent_left n w.past w.gatherer
    + d → silent_write n (run_begun (gathering w g) r) < silent_write n w + d
run_paid W n d w g r none sound run h =
    let k = begun_keeps r.kind (gathering w g) r in
    let find = begun_find W n w g r r.kind refl none sound run in
    let same : silent_left n (run_begun (gathering w g) r).past (run_begun (gathering w g) r).gatherer ≡ silent_left n
    w.past g = rw (k.0, k.1) refl in
    omega (arith, h, find, same)

pub looks_paid : (n d old : ℕ) (w : Writer) (g : Gatherer) → w.copying ≡ None → silent_left n w.past g < silent_left n
    w.past w.gatherer + d → silent_write n (gathering w g) < silent_write n w + d + (old - old)
looks_paid n d old w g none h = omega (
  arith,
  h,
  none_to_find (begins w.gatherer) w.copying none,
  none_to_find
      (begins g) w.copying none,
)

-- the header of a chunk pays for its first part
pub open_paid : (n k : ℕ) (w : Writer) (c : Copying) (b : ℕ) → 1 < k → silent_write n (chunk_opened w c b) <
    silent_write n w + k
open_paid n k w c b some = let z = one_to_find (begins w.gatherer) (opened_on c w.most b) in omega (arith, z, some)

-- a part that is found without a read is all that is left of the run
pub next_paid : (n k k' : ℕ) (w v : Writer) (c d : Copying) → v.past ≡ w.past → v.gatherer ≡ w.gatherer → w.copying ≡
    Some c → v.copying ≡ Some d → c.next.block < begins w.gatherer - c.after → k ≤ k' →
    (k' ≡ k → d.next.block ≡ begins w.gatherer) → silent_write n v < silent_write n w + (k' - k)
next_paid n k k' w v c d past gathers is now low le all =
    let u = begins w.gatherer in
    let old : to_find u w.copying ≡ 1 = ap (λ (o : Option Copying). to_find u o) is ∙
    (let h : nat_lt c.next.block (u - c.after) ≡ true = lt-ltb c.next.block (u - c.after) low in rw h refl) in
    let new : to_find u v.copying ≡ to_find u (Some d) = ap (λ (o : Option Copying). to_find u o) now in
    rw (past, gathers) (elim (cases_Bool (k' == k)) [
      | inl e ↦ let z : to_find u (Some d) ≡ 0 = none_left d (all (eqb-true k' k e)) in omega (arith, old, new, z)
      | inr e ↦ let more = eqb-false k' k e in let z = one_to_find u d in omega (arith, old, new, z, more, le)
    ])
  where
    none_left : (d : Copying) → d.next.block ≡ begins w.gatherer → to_find (begins w.gatherer) (Some d) ≡ 0
    none_left d e = let h : nat_lt d.next.block (begins w.gatherer - d.after) ≡ false = not_below d.next.block
        (begins w.gatherer - d.after) (omega (arith, e)) in rw h refl

copied_find : (u : ℕ) (c : Copying) (m : ℕ) → to_find u (copied_on c m) ≤ to_find u (Some c)
copied_find u c m = elim (copy_case c m) [
  | ended x z same ↦ rw same (omega arith)
  | goes ne same ↦ rw same (omega arith)
]

pub copied_paid : (n k m : ℕ) (w v : Writer) (c : Copying) → v.past ≡ w.past → v.gatherer ≡ w.gatherer → w.copying ≡
    Some c → v.copying ≡ copied_on c m → 0 < k → silent_write n v < silent_write n w + k
copied_paid n k m w v c past gathers is now some =
    let u = begins w.gatherer in
    let old : to_find u w.copying ≡ to_find u (Some c) = ap (λ (o : Option Copying). to_find u o) is in
    let new : to_find u v.copying ≡ to_find u (copied_on c m) = ap (λ (o : Option Copying). to_find u o) now in
    let z = copied_find u c m in
    rw (past, gathers) (omega (arith, old, new, z, some))

-- a chunk that is begun changes no words
pub open_words : (one n t t' : ℕ) (w : Writer) (c : Copying) (b : ℕ) → w.copying ≡ Some c → t ≤ t' → t + writer_words
    one n w ≤ t' + writer_words one n (chunk_opened w c b)
unfolding writer_words
open_words one n t t' w c b is h = rw is (omega (arith, h))

pub still_passes : (w : Writer) (g : Gatherer) → w.copying ≡ None → w.gatherer.count ≤ w.gatherer.at.block → g.count ≤
    g.at.block → g.at.block + w.gatherer.count ≡ w.gatherer.at.block + g.count → passed_to (begins w.gatherer) w.copying
    ≤ passed_to (begins g) w.copying
still_passes w g none old new grows = rw none (let z : begins w.gatherer ≤ begins g = omega arith in z)

-- ---- what a pass reads

pub entry_most : (c : Cursor) → entry c ≤ 16
entry_most c = elim (cases_Bool (c.used == 0)) [ inl e ↦ rw e (omega arith) | inr e ↦ rw e (omega arith) ]

-- what was counted before a part that begins inside a chunk has that chunk's header left over
pub entry_held : (at : Cursor) (a b : ℕ) → a ≤ b + 16 → (0 < at.used → a ≤ b) → a + entry at ≤ b + 16
entry_held at a b more inside = elim (cases_Bool (at.used == 0)) [
  | inl e ↦ rw e (omega (arith, more))
  | inr e ↦ let some : 0 < at.used = omega (arith, eqb-false at.used 0 e) in rw e (omega (arith, inside some))
]

pub entry_none : (c : Cursor) → c.used ≡ 0 → entry c ≡ 0
entry_none c e = rw e refl

-- a part that does not come to the end of the segment
pub gathers_on : (charge : Cursor → ℕ) (past given given' : ℕ) (d at next : Cursor) → at.block < past → next.block <
    past → next.used ≡ 0 → given' + charge at ≤ given + charge next + entry at
    → given' + gathered_to charge past d at ≤ given + gathered_to charge past d next
gathers_on charge past given given' d at next low low' used h =
    let a = lt-ltb at.block past low in
    let b = lt-ltb next.block past low' in
    let e = entry_most at in
    let z = entry_none next used in
    rw (a, b) (omega (arith, e, z, h))

-- one that does
pub gathers_end : (charge : Cursor → ℕ) (past given given' : ℕ) (d at next n : Cursor) → at.block < past → past ≤
    n.block → charge next ≤ charge d → given' + charge at ≤ given + charge next + entry at
    → given' + gathered_to charge past d at ≤ given + gathered_to charge past d n
gathers_end charge past given given' d at next n low over fits h =
    let a = lt-ltb at.block past low in
    let b = not_below n.block past over in
    let e = entry_most at in
    rw (a, b) (omega (arith, e, fits, h))

-- one after it
pub gathers_none : (charge : Cursor → ℕ) (past given : ℕ) (d at n : Cursor) → past ≤ at.block → past ≤ n.block → given +
    gathered_to charge past d at ≤ given + gathered_to charge past d n
gathers_none charge past given d at n over over' =
    let a = not_below at.block past over in
    let b = not_below n.block past over' in
    rw (a, b) (omega arith)
