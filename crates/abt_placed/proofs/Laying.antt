-- What a placer has written, as it goes on.
use Rattle.std.proofs.Common.{inl, inr, ◌⊎◌, Bool, nat_lt, if◌then◌else◌, ◌≡◌, ℕ, zero, suc, ◌+◌, ◌-◌, ◌*◌, ◌<◌, ◌≤◌}
use Rattle.std.proofs.Common.{true, false, List, [], ◌∷◌, ◌++◌, length, take, drop, replicate, refl, sym, ap}
use Rattle.std.proofs.Common.{subst, ◌∙◌, arith, append_assoc, append-nil, length-append, length-drop}
use Rattle.std.specs.Prelude.{slice_range}
use Rattle.std.proofs.lemmas.List.{take_all, drop-append-le, length-replicate, take-append-drop}
use Rattle.std.proofs.Math.Seq.{drop-append-add, take-append_seam, drop-append_seam}
use Rattle.std.proofs.lemmas.Bool.{cases_Bool, ltb-false}
use Rattle.abt_io.specs.Moment.{put_at}
use Rattle.abt_io.proofs.Overs.{put'_is}
use Rattle.abt_sparse.specs.Block.{Block, Skip, AreBlocks}
use Rattle.abt_sparse.specs.Chunk.{chunks_of, spelling, header_record, plain_header}
use Rattle.abt_runs.specs.Part.{AllOf, raw_of, is_end}
use Rattle.abt_runs.specs.Tail.{tailed}
use Rattle.abt_runs.specs.TailLaws.{length-tailed, tailed_are}
use Rattle.abt_runs.proofs.Alike.{Ended, all_append, alike_same}
use Rattle.abt_runs.proofs.Tailed.{drop_tailed, take_tailed, part_tailed, tailed_front, raw_tailed}
use Rattle.abt_runs.specs.Whole.{alike_kinds}
use Rattle.abt_runs.specs.declared.part.RunKind.{RunKind}
use Rattle.abt_runs.specs.declared.part.RunKind.TheVariants as kinds
use Rattle.abt_pieces.specs.Write.{front_bytes, chunk_len}
use Rattle.abt_pieces.proofs.Cutting.{header_long}
use Rattle.abt_pieces.proofs.Framing.{ended_by}
use Rattle.abt_pieces.proofs.Counting.{skips_all}
use Rattle.abt_pieces.proofs.Writing.{blocks_skips, blocks_append, blocks_drop, length_raw, raw-append, run_data}
use Rattle.abt_sparsify.specs.Sparsify.{bytes_of}
use Rattle.abt_sparsify.proofs.SparseSteps.{header_first}
use Rattle.abt_placed.specs.Placer.{SoundPlacer, kept_for, data_for, closed, closed_as, closing, closing_as}
use Rattle.abt_placed.specs.Placer.{goes_on_with, goes_on_as, longer, with_chunk_begun, with_part, beginning, taking}
use Rattle.abt_placed.specs.Placed.{Placed, classes, skips, open_bytes}
use Rattle.abt_placed.specs.declared.placer.Placer.{Placer}
use Rattle.abt_placed.proofs.Numbers.{goes}
use Rattle.abt_placed.proofs.Chunking.{chunk_first}

-- ---- bytes over those that were kept

drop_seam : (z d : List ℕ) → drop (length z) (z ++ d) ≡ d
drop_seam [] d = refl
drop_seam (y ∷ z) d = drop_seam z d

-- a header in the place of as many zeros
put_seam : (p z x d : List ℕ) → length x ≡ length z → put_at (p ++ (z ++ d)) (length p) x ≡ p ++ (x ++ d)
put_seam p z x d e =
    let back : drop (length p + length x) (p ++ (z ++ d)) ≡ d = drop-append-add p (z ++ d) (length x)
    ∙ ap (λ (n : ℕ). drop n (z ++ d)) e ∙ drop_seam z d in
    sym (put'_is (p ++ (z ++ d)) (length p) x) ∙ ap (λ (l : List ℕ). l
    ++ (x ++ drop (length p + length x) (p ++ (z ++ d)))) (take-append_seam p (z ++ d))
    ∙ ap (λ (l : List ℕ). p ++ (x ++ l)) back

-- the open chunk becomes whole
closing_is : (k : RunKind) (s : Placer) (b : ℕ) (p raw : List ℕ) → is_end k ≡ false
    → (k ≡ kinds.Raw → length raw ≡ s.count * b) → closing_as k s b (p ++ (kept_for k ++ data_for k raw)) ≡ p
    ++ (front_bytes k s.count (chunk_len k s.count b) ++ data_for k raw)
closing_is kinds.End s b p raw e long = absurd cc
closing_is kinds.Raw s b p raw e long =
    let now = p ++ (replicate 12 0 ++ raw) in
    let at : length now - (12 + s.count * b) ≡ length p = omega
    (arith, length-append p (replicate 12 0 ++ raw), length-append (replicate 12 0) raw, long refl) in
    ap (λ (n : ℕ). put_at now n (front_bytes kinds.Raw s.count (12 + s.count * b))) at
    ∙ put_seam p (replicate 12 0) (front_bytes kinds.Raw s.count (12 + s.count * b)) raw refl
closing_is (kinds.Fill v) s b p raw e long = ap (λ (l : List ℕ). l ++ front_bytes (kinds.Fill v) s.count 16)
    (append-nil p) ∙ ap (λ (l : List ℕ). p ++ l) (sym (append-nil (front_bytes (kinds.Fill v) s.count 16)))
closing_is kinds.Skip s b p raw e long = ap (λ (l : List ℕ). l ++ front_bytes kinds.Skip s.count 12) (append-nil p)
    ∙ ap (λ (l : List ℕ). p ++ l) (sym (append-nil (front_bytes kinds.Skip s.count 12)))

data_same : (k : RunKind) (g : List Block) → data_for k (raw_of g) ≡ run_data k g
data_same kinds.Raw g = refl
data_same (kinds.Fill v) g = refl
data_same kinds.Skip g = refl
data_same kinds.End g = refl

data_joined : (k : RunKind) (g h : List Block) → data_for k (raw_of g) ++ data_for k (raw_of h)
    ≡ data_for k (raw_of (g ++ h))
data_joined kinds.Raw g h = sym (raw-append g h)
data_joined (kinds.Fill v) g h = refl
data_joined kinds.Skip g h = refl
data_joined kinds.End g h = refl

raw_len : (b : ℕ) (k : RunKind) (g : List Block) (q : ℕ) → AllOf k g → AreBlocks b g → length g ≡ q → k ≡ kinds.Raw
    → length (raw_of g) ≡ q * b
raw_len b k g q all good long e = length_raw b g (rw e at all) good ∙ ap (λ (n : ℕ). n * b) long

-- ---- the open chunk made whole

-- no block that follows goes on with the open chunk
abbrev pub EndedBy : Placer → List Block → Type 0
EndedBy s rest = is_end s.kind ≡ false → (Ended s.kind rest) ⊎ ((s.kind ≡ kinds.Raw) × (s.count ≡ s.most))

-- all chunks of the blocks g are whole, before blocks of which P is so
pub record Shut (P : List Block → Type 0) (b r : ℕ) (g : List Block) (old now : List ℕ) (t : Placer) : Type 0 where
  pub done : List ℕ
  pub front : length old ≡ t.front
  pub stands : now ≡ old ++ (replicate 28 0 ++ done)
  pub blocks : t.blocks ≡ length g
  pub most : t.most ≡ r
  pub bytes : (rest : List Block) → AreBlocks b rest → P rest → bytes_of r (g ++ rest) ≡ done ++ bytes_of r rest
  pub chunks : (rest : List Block) → AreBlocks b rest → P rest → length (chunks_of r (g ++ rest)) ≡ t.chunks
      + length (chunks_of r rest)

no_chunk : (k : RunKind) (s : Placer) (b : ℕ) (now : List ℕ) → is_end k ≡ true → (closed_as k s ≡ s)
    × (closing_as k s b now ≡ now) × (k ≡ kinds.End)
no_chunk kinds.End s b now e = (refl, refl, refl)
no_chunk kinds.Raw s b now e = absurd cc
no_chunk (kinds.Fill v) s b now e = absurd cc
no_chunk kinds.Skip s b now e = absurd cc

abbrev shut : Placer → Placer
shut s = record {
  front = s.front;
  most = s.most;
  chunks = s.chunks + 1;
  blocks = s.blocks
      + s.count;
  kind = kinds.End;
  count = 0;
}

shut_is : (k : RunKind) (s : Placer) → is_end k ≡ false → closed_as k s ≡ shut s
shut_is kinds.End s e = absurd cc
shut_is kinds.Raw s e = refl
shut_is (kinds.Fill v) s e = refl
shut_is kinds.Skip s e = refl

-- where none is open
none_shut : (b : ℕ) (g : List Block) (now : List ℕ) (s : Placer) → s.kind ≡ kinds.End → s.count ≡ 0
    → (p : Placed b g now s) → Shut (EndedBy s) b s.most g p.before now s
none_shut b g now s is none p =
    let gone : drop s.blocks g ≡ [] = (let h : AllOf kinds.End (drop s.blocks g) = rw is at p.all in h) in
    record {
      done = p.done;
      front = p.front;
      stands = p.stands ∙ ap (λ (j : RunKind). (p.before ++ (replicate 28 0 ++ p.done))
          ++ open_bytes j (drop s.blocks g)) is ∙ append-nil (p.before ++ (replicate 28 0 ++ p.done));
      blocks = omega (arith, p.count, none);
      most = refl;
      bytes = λ rest good e. p.bytes rest good ∙ ap (λ (l : List Block). p.done ++ bytes_of s.most (l ++ rest)) gone;
      chunks = λ rest good e. p.chunks rest good ∙ ap (λ (l : List Block). s.chunks
          + length (chunks_of s.most (l ++ rest))) gone;
    }

open_shut : (k : RunKind) (b : ℕ) (g : List Block) (now : List ℕ) (s : Placer) → s.kind ≡ k → is_end k ≡ false
    → 0 < s.most → 0 < s.count → (k ≡ kinds.Raw → s.count ≤ s.most) → (p : Placed b g now s)
    → Shut (EndedBy s) b s.most g p.before (closing_as k s b now) (shut s)
open_shut k b g now s is on some more few p =
    let r = s.most in
    let q = s.count in
    let o = drop s.blocks g in
    let long : length o ≡ q = omega (arith, length-drop s.blocks g, p.count) in
    let all : AllOf k o = rw is at p.all in
    let good : AreBlocks b o = blocks_drop b s.blocks g p.good in
    let base = p.before ++ (replicate 28 0 ++ p.done) in
    let x = front_bytes k q (chunk_len k q b) ++ data_for k (raw_of o) in
    let st : now ≡ base ++ (kept_for k ++ data_for k (raw_of o)) = p.stands
    ∙ ap (λ (j : RunKind). base ++ open_bytes j o) is in
    let cl : closing_as k s b now ≡ base ++ x = ap (closing_as k s b) st
    ∙ closing_is k s b base (raw_of o) on (raw_len b k o q all good long) in
    let one = λ (rest : List Block) (fine : AreBlocks b rest) (e : EndedBy s rest).
    chunk_first b r k o rest some (omega (arith, long, more)) (λ y. omega (arith, long, few y)) on all
    (blocks_append b o rest good fine)
    (elim (e (ap is_end is ∙ on)) [ inl y ↦ inl (rw is at y) | inr y ↦ inr (sym is ∙ y.0, long ∙ y.1) ]) in
    record {
      done = p.done ++ x;
      front = p.front;
      stands = cl ∙ append_assoc p.before (replicate 28 0 ++ p.done) x
          ∙ ap (λ (l : List ℕ). p.before ++ l) (append_assoc (replicate 28 0) p.done x);
      blocks = sym p.count;
      most = refl;
      bytes = λ rest fine e.
          let c = one rest fine e in
          p.bytes rest fine ∙ ap (λ (l : List ℕ). p.done ++ l)
          (c.bytes ∙ ap (λ (n : ℕ). front_bytes k n (chunk_len k n b) ++ (run_data k o ++ bytes_of r rest)) long
          ∙ ap (λ (l : List ℕ). front_bytes k q (chunk_len k q b) ++ (l ++ bytes_of r rest))
          (sym (data_same k o)) ∙ sym (append_assoc (front_bytes k q (chunk_len k q b))
          (data_for k (raw_of o)) (bytes_of r rest)))
          ∙ sym (append_assoc p.done x (bytes_of r rest));
      chunks = λ rest fine e.
          let c = one rest fine e in
          omega (arith, p.chunks rest fine, c.count);
    }

pub shut_all : (b : ℕ) (g : List Block) (now : List ℕ) (s : Placer) → SoundPlacer b (length now) s
    → (p : Placed b g now s) → Shut (EndedBy s) b s.most g p.before (closing s b now) (closed s)
shut_all b g now s h p = elim (cases_Bool (is_end s.kind)) [
  | inl e ↦ let n = no_chunk s.kind s b now e in rw (n.0, n.1) (none_shut b g now s n.2 (h.none e) p)
  | inr e ↦ rw (shut_is s.kind s e) (open_shut s.kind b g now s refl e h.most (h.some e) h.raw p)
]

-- ---- blocks that go on with the open chunk, and blocks that begin one

longer_placed : (k : RunKind) (b : ℕ) (g h : List Block) (now x : List ℕ) (s : Placer) (q : ℕ) → s.kind ≡ k → length h
    ≡ q → AllOf k h → AreBlocks b h → data_for k x ≡ data_for k (raw_of h) → Placed b g now s
    → Placed b (g ++ h) (now ++ data_for k x) (longer s q)
longer_placed k b g h now x s q is long all good same_data p =
    let o = drop s.blocks g in
    let two : drop s.blocks (g ++ h) ≡ o ++ h = drop-append-le s.blocks g h (omega (arith, p.count)) in
    let base = p.before ++ (replicate 28 0 ++ p.done) in
    let st : now ≡ base ++ open_bytes k o = p.stands ∙ ap (λ (j : RunKind). base ++ open_bytes j o) is in
    record {
      before = p.before;
      done = p.done;
      front = p.front;
      stands = ap (λ (l : List ℕ). l ++ data_for k x) st ∙ ap (λ (l : List ℕ). (base ++ open_bytes k o) ++ l)
          same_data ∙ append_assoc base (open_bytes k o) (data_for k (raw_of h))
          ∙ ap (λ (l : List ℕ). base ++ l) (append_assoc (kept_for k) (data_for k (raw_of o)) (data_for k (raw_of h))
          ∙ ap (λ (l : List ℕ). kept_for k ++ l) (data_joined k o h))
          ∙ ap (λ (l : List Block). base ++ open_bytes k l) (sym two)
          ∙ ap (λ (j : RunKind). base ++ open_bytes j (drop s.blocks (g ++ h))) (sym is);
      bytes = λ t fine. ap (bytes_of s.most) (append_assoc g h t) ∙ p.bytes (h ++ t) (blocks_append b h t good fine)
          ∙ ap (λ (l : List Block). p.done ++ bytes_of s.most l)
          (sym (append_assoc o h t) ∙ ap (λ (l : List Block). l ++ t) (sym two));
      chunks = λ t fine. ap (λ (l : List Block). length (chunks_of s.most l)) (append_assoc g h t)
          ∙ p.chunks (h ++ t) (blocks_append b h t good fine)
          ∙ ap (λ (l : List Block). s.chunks + length (chunks_of s.most l))
          (sym (append_assoc o h t) ∙ ap (λ (l : List Block). l ++ t) (sym two));
      all = rw (two, is) (all_append k o h (rw is at p.all) all);
      count = omega (arith, length-append g h, p.count, long);
      good = blocks_append b g h p.good good;
    }

begun_placed : (P : List Block → Type 0) (k : RunKind) (b r : ℕ) (g h : List Block) (old now x : List ℕ) (t : Placer)
    (q : ℕ) → length h ≡ q → AllOf k h → AreBlocks b g → AreBlocks b h → data_for k x ≡ data_for k (raw_of h)
    → ((rest : List Block) → P (h ++ rest)) → Shut P b r g old now t
    → Placed b (g ++ h) ((now ++ kept_for k) ++ data_for k x) (with_chunk_begun t k q)
begun_placed P k b r g h old now x t q long all fine good same_data ends p =
    let base = old ++ (replicate 28 0 ++ p.done) in
    let new : drop t.blocks (g ++ h) ≡ h = ap (λ (n : ℕ). drop n (g ++ h)) p.blocks ∙ drop-append_seam g h in
    record {
      before = old;
      done = p.done;
      front = p.front;
      stands = ap (λ (l : List ℕ). (l ++ kept_for k) ++ data_for k x) p.stands
          ∙ append_assoc base (kept_for k) (data_for k x) ∙ ap (λ (l : List ℕ). base ++ (kept_for k ++ l)) same_data
          ∙ ap (λ (l : List Block). base ++ open_bytes k l) (sym new);
      bytes = λ rest fair. ap (bytes_of t.most) (append_assoc g h rest)
          ∙ (rw p.most (p.bytes (h ++ rest) (blocks_append b h rest good fair) (ends rest)))
          ∙ ap (λ (l : List Block). p.done ++ bytes_of t.most (l ++ rest)) (sym new);
      chunks = λ rest fair. ap (λ (l : List Block). length (chunks_of t.most l)) (append_assoc g h rest)
          ∙ (rw p.most (p.chunks (h ++ rest) (blocks_append b h rest good fair) (ends rest)))
          ∙ ap (λ (l : List Block). t.chunks + length (chunks_of t.most (l ++ rest))) (sym new);
      all = rw new all;
      count = omega (arith, length-append g h, p.blocks, long);
      good = blocks_append b g h fine good;
    }

full : (k : RunKind) (s : Placer) → s.kind ≡ k → (k ≡ kinds.Raw → s.count ≤ s.most) → goes_on_as k s ≡ false
    → alike_kinds s.kind k ≡ true → (k ≡ kinds.Raw) × (s.count ≡ s.most)
full kinds.Raw s is few e same = elim (cases_Bool (nat_lt s.count s.most)) [
  | inl lt ↦ absurd (let z : true ≡ false = sym (rw (lt, same) refl) ∙ e in cc)
  | inr ge ↦ let g = ltb-false s.count s.most ge in (refl, (let f = few refl in omega (arith, g, f)))
]
full (kinds.Fill v) s is few e same = absurd (let z : true ≡ false = sym same ∙ e in cc)
full kinds.Skip s is few e same = absurd (let z : true ≡ false = sym same ∙ e in cc)
full kinds.End s is few e same = absurd (let z : true ≡ false = sym same ∙ e in cc)

next_ends : (s : Placer) (k : RunKind) (h rest : List Block) → goes_on_with s k ≡ false → 0 < length h → AllOf k h
    → (s.kind ≡ kinds.Raw → s.count ≤ s.most) → EndedBy s (h ++ rest)
next_ends s k h rest e some all few on = elim (cases_Bool (alike_kinds s.kind k)) [
  | inl y ↦ let w = alike_same s.kind k y in let fl = full k s w (λ r. few (w ∙ r)) e y in inr (w ∙ fl.0, fl.1)
  | inr n ↦ inl (ended_by s.kind k (h ++ rest) 0 (length h) n
      (subst (λ (l : List Block). AllOf k l) (sym (take-append_seam h rest)) all) (inl some))
]

taken_as : (t : Bool) (b : ℕ) (g h : List Block) (now x : List ℕ) (s : Placer) (k : RunKind) (q : ℕ)
    → goes_on_with s k ≡ t → 0 < q → length h ≡ q → AllOf k h → AreBlocks b h → data_for k x ≡ data_for k (raw_of h)
    → SoundPlacer b (length now) s → Placed b g now s
    → Placed b (g ++ h) ((if t then now else closing s b now ++ kept_for k) ++ data_for k x)
    (if t then longer s q else with_chunk_begun (closed s) k q)
taken_as true b g h now x s k q e some long all good same_data sound p = longer_placed k b g h now x s q
    (goes s k e).same long all good same_data p
taken_as false b g h now x s k q e some long all good same_data sound p =
    begun_placed (EndedBy s) k b s.most g h p.before (closing s b now) x (closed s) q long all p.good good same_data
    (λ rest. next_ends s k h rest e (omega (arith, long, some)) all sound.raw) (shut_all b g now s sound p)

-- ---- the blocks of a window

classes_good : (b p q : ℕ) (x : List ℕ) → 4 ≤ b → length x ≡ q * b → AreBlocks b (classes b p q x)
classes_good b p q x some long = tailed_are b q p x some (omega (arith, long))

data_of_classes : (k : RunKind) (b p q : ℕ) (x : List ℕ) → length x ≡ q * b → AllOf k (classes b p q x) → data_for k x
    ≡ data_for k (raw_of (classes b p q x))
data_of_classes kinds.Raw b p q x long all = sym (raw_tailed b q p x all ∙ take_all (q * b) x (omega (arith, long)))
data_of_classes (kinds.Fill v) b p q x long all = refl
data_of_classes kinds.Skip b p q x long all = refl
data_of_classes kinds.End b p q x long all = refl

-- what `take` leaves
pub taken_placed : (b p : ℕ) (g : List Block) (w w' x : List ℕ) (s s' : Placer) (k : RunKind) (q : ℕ) → 0 < q → 4 ≤ b
    → length x ≡ q * b → AllOf k (classes b p q x) → SoundPlacer b (length w) s → s' ≡ with_part s k q → w'
    ≡ taking s k b x w → Placed b g w s
    → Placed b (g ++ classes b p q x) w' s'
taken_placed b p g w w' x s s' k q more some long all sound e f y =
    rw (e, f) (taken_as (goes_on_with s k) b g (classes b p q x) w x s k q refl more (length-tailed b q p x) all
    (classes_good b p q x some long) (data_of_classes k b p q x long all) sound y)

classes_joined : (b p d n : ℕ) (w : List ℕ) → classes b p d w ++ classes b (p - d) n (drop (d * b) w)
    ≡ classes b p (d + n) w
classes_joined b p d n w =
    let rest : drop d (classes b p (d + n) w) ≡ classes b (p - d) n (drop (d * b) w) =
    drop_tailed b d (d + n) p w (omega arith) ∙ ap (λ (m : ℕ). tailed b m (p - d) (drop (d * b) w))
    (let z : d + n - d ≡ n = omega arith in z) in
    ap (λ (l : List Block). l ++ classes b (p - d) n (drop (d * b) w)) (sym (take_tailed b d (d + n) p w (omega arith)))
    ∙ ap (λ (l : List Block). take d (classes b p (d + n) w) ++ l) (sym rest)
    ∙ take-append-drop d (classes b p (d + n) w)

-- the classes of blocks of a part of the window
pub classes_part : (b p n from past : ℕ) (w : List ℕ) → from + n * b ≤ past → classes b p n (slice_range w from past)
    ≡ classes b p n (drop from w)
classes_part b p n from past w le = tailed_front b n p (past - from) (drop from w) (omega (arith, le))

pub part_classes : (k : RunKind) (b p n from to past : ℕ) (w x y : List ℕ) → from + n * b ≤ to → from + n * b ≤ past
    → x ≡ slice_range w from to → y ≡ slice_range w from past → AllOf k (classes b p n x) → AllOf k (classes b p n y)
part_classes k b p n from to past w x y le le' e f all =
    subst (λ (l : List Block). AllOf k l) (ap (classes b p n) e ∙ classes_part b p n from to w le
    ∙ sym (classes_part b p n from past w le') ∙ sym (ap (classes b p n) f)) all

-- ---- the first and the last

-- after the last block, with the header written, the whole image is
pub placed_whole : (b : ℕ) (g : List Block) (now now' : List ℕ) (s s' : Placer) → SoundPlacer b (length now) s
    → Placed b g now s → s' ≡ closed s → now' ≡ put_at (closing s b now) s.front
    (header_record (plain_header b (closed s).blocks (closed s).chunks))
    → (now' ≡ take s.front now ++ spelling b s.most g) × (s'.chunks ≡ length (chunks_of s.most g))
placed_whole b g now now' s s' sound p e f =
    let c = shut_all b g now s sound p in
    let t = closed s in
    let r = s.most in
    let bytes : bytes_of r g ≡ c.done = ap (bytes_of r) (sym (append-nil g)) ∙ c.bytes [] tt (λ on. inl tt)
    ∙ append-nil c.done in
    let chunks : length (chunks_of r g) ≡ t.chunks = ap (λ (y : List Block). length (chunks_of r y))
    (sym (append-nil g)) ∙ c.chunks [] tt (λ on. inl tt) ∙ (let z : t.chunks + 0 ≡ t.chunks = omega arith in z) in
    let head = header_record (plain_header b t.blocks t.chunks) in
    let laid : now' ≡ p.before ++ (head ++ c.done) = f ∙ ap (λ (m : ℕ). put_at (closing s b now) m head) (sym p.front)
    ∙ ap (λ (y : List ℕ). put_at y (length p.before) head) c.stands
    ∙ put_seam p.before (replicate 28 0) head c.done (header_long b t.blocks t.chunks) in
    let rest = (replicate 28 0 ++ p.done) ++ open_bytes s.kind (drop s.blocks g) in
    let same : p.before ≡ take s.front now = sym (ap (λ (m : ℕ). take m now) (sym p.front)
    ∙ ap (take (length p.before)) (p.stands ∙ append_assoc p.before (replicate 28 0 ++ p.done)
    (open_bytes s.kind (drop s.blocks g))) ∙ take-append_seam p.before rest) in (
      laid ∙ ap (λ (y : List ℕ). p.before ++ (head ++ y)) (sym bytes)
          ∙ ap (λ (y : List ℕ). p.before ++ y) (sym (header_first b r g b t.blocks t.chunks refl c.blocks
          (sym chunks))) ∙ ap (λ (y : List ℕ). y ++ spelling b r g) same,
      ap (λ (y : Placer). y.chunks) e ∙ sym chunks,
    )

-- so many skipped blocks more
pub skipped_placed : (b n : ℕ) (g : List Block) (w w' : List ℕ) (s s' : Placer) → 0 < n → SoundPlacer b (length w) s
    → s' ≡ with_part s kinds.Skip n → w' ≡ beginning s kinds.Skip b w → Placed b g w s → Placed b (g ++ skips n) w' s'
skipped_placed b n g w w' s s' some sound e f p =
    rw (e, f) (subst (λ (l : List ℕ). Placed b (g ++ skips n) l (with_part s kinds.Skip n))
    (append-nil (beginning s kinds.Skip b w)) (taken_as (goes_on_with s kinds.Skip) b g (skips n) w [] s
    kinds.Skip n refl some (length-replicate n Skip) (skips_all n) (blocks_skips b n) refl sound p))

-- before the first block of a segment
pub begun_behind : (b at first r : ℕ) (k : RunKind) (old now : List ℕ) → at ≡ length old → now ≡ old ++ replicate 28 0
    → (first ≡ 0 → k ≡ kinds.End) → (0 < first → k ≡ kinds.Skip)
    → Placed b (skips first ++ []) now (record {
      front = at;
      most = r;
      chunks = 0;
      blocks = 0;
      kind = k;
      count =
          first;
    })
begun_behind b at zero r k old now place e none some = rw (none refl) (record {
  before = old;
  done = [];
  front = sym place;
  stands = e ∙ sym (append-nil (old ++ (replicate 28 0 ++ [])));
  bytes = λ t good. refl;
  chunks = λ t good. (let z : length (chunks_of r t) ≡ 0 + length (chunks_of r t) = omega arith in z);
  all = refl;
  count = refl;
  good = tt;
})
begun_behind b at (suc first) r k old now place e none some = rw (some (omega arith), append-nil (skips (suc first)))
    (record {
      before = old;
      done = [];
      front = sym place;
      stands = e ∙ sym (append-nil (old ++ (replicate 28 0 ++ [])));
      bytes = λ t good. refl;
      chunks = λ t good. (let z : length (chunks_of r (skips (suc first) ++ t)) ≡ 0
          + length (chunks_of r (skips (suc first) ++ t)) = omega arith in z);
      all = skips_all (suc first);
      count = length-replicate (suc first) Skip ∙ (let z : suc first ≡ 0 + suc first = omega arith in z);
      good = blocks_skips b (suc first);
    })

-- blocks of the window, and those of a part after them
pub classes_more : (b p d n from past : ℕ) (g : List Block) (w x : List ℕ) → from ≡ d * b → from + n * b ≤ past → x
    ≡ slice_range w from past → (g ++ classes b p d w) ++ classes b (p - d) n x ≡ g ++ classes b p (d + n) w
classes_more b p d n from past g w x at le e =
    append_assoc g (classes b p d w) (classes b (p - d) n x) ∙ ap (λ (l : List Block). g ++ l)
    (ap (λ (l : List Block). classes b p d w ++ l) (ap (classes b (p - d) n) e
    ∙ classes_part b (p - d) n from past w le ∙ ap (λ (m : ℕ). classes b (p - d) n (drop m w)) at)
    ∙ classes_joined b p d n w)

-- the blocks of a part, of all in the window
pub classes_next : (b p d n a from past : ℕ) (w x : List ℕ) → d + n ≤ a → from ≡ d * b → from + n * b ≤ past → x
    ≡ slice_range w from past → take n (drop d (classes b p a w)) ≡ classes b (p - d) n x
classes_next b p d n a from past w x within at le e =
    part_tailed b d n a p w within ∙ ap (λ (m : ℕ). classes b (p - d) n (drop m w)) (sym at)
    ∙ sym (classes_part b (p - d) n from past w le) ∙ sym (ap (classes b (p - d) n) e)
