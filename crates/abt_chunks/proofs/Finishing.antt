-- What is written, finished by what is ahead.
use Rattle.std.proofs.Common.{◌≡◌, ℕ, zero, suc, ◌+◌, ◌-◌, ◌*◌, Bool, true, false, List, [], ◌++◌, take, drop}
use Rattle.std.proofs.Common.{replicate, Option, Result, Ok, Err, refl, sym, ap, subst, ◌∙◌, append_assoc, append-nil}
use Rattle.std.proofs.Common.{arith, take-append-drop, lt-ltb, ne_eqb, inl, inr}
use Rattle.std.proofs.lemmas.Bool.{cases_Bool}
use Rattle.std.specs.Prelude.{IsTrue, OnOk, is_err, if◌then◌else◌, ◌==◌, nat_lt}
use Rattle.std.specs.List.{concat}
use Rattle.abt_sparse.specs.declared.fault.SparseFault.{SparseFault}
use Rattle.abt_sparse.specs.declared.fault.SparseFault.TheVariants as faults
use Rattle.abt_sparse.specs.Block.{laid, expansion, cells}
use Rattle.abt_sparse.specs.Chunk.{Header, classed}
use Rattle.abt_sparse.proofs.Lay.{laid-append, laid_some, laid_none}
use Rattle.abt_chunks.specs.declared.walk.Phase.{Phase}
use Rattle.abt_chunks.specs.declared.walk.Phase.TheVariants as phases
use Rattle.abt_chunks.specs.declared.walk.Walk.{Walk}
use Rattle.abt_chunks.specs.declared.walk.Part.{Part}
use Rattle.abt_chunks.specs.declared.walk.Part.TheVariants as parts
use Rattle.abt_chunks.specs.Ahead.{Ahead, before, somes, fills, gaps, finish, seen, seen_chunks, chunks_ahead}
use Rattle.abt_chunks.specs.Ahead.{body_ahead, walk}
use Rattle.abt_chunks.specs.Parts.{SaysUnlessDevice, PartLeaves, Moved, is_fault, ahead, ahead_in}
use Rattle.abt_chunks.specs.Places.{owed, owed_in, owed_of}
use Rattle.abt_chunks.specs.Expanding.{laid_by, answer_of, ExpandingLeaves, UnlessExpanding, UnlessExpandingDevice}
use Rattle.abt_chunks.specs.Expanding.{IsFrontOf}
use Rattle.abt_chunks.specs.declared.progress.Expanded.{Expanded}
use Rattle.abt_io.proofs.Parts.{take_plus}
use Rattle.abt_sparse.specs.Reading.{Bad, chunk_at, chunks_at, Outcome, Image, Fault}
use Rattle.abt_sparse.specs.Fails.{Fails, Spells, IsOutcome}
use Rattle.abt_sparse.specs.View.{view}
use Rattle.abt_sparse.specs.declared.kind.ChunkKind.{ChunkKind}
use Rattle.abt_sparse.specs.declared.kind.ChunkKind.TheVariants as kinds
use Rattle.abt_sparse.proofs.Exactly.{chunks-bad}
use Rattle.abt_chunks.specs.declared.progress.MachineProgress.{MachineProgress}
use Rattle.abt_chunks.specs.declared.progress.MachineProgress.TheVariants as answers
use Rattle.abt_chunks.specs.Whole.{Begun, Expansion, Refusal, image, fault}

abbrev Whole : Type 0
Whole = List ℕ × Result (Header × List ℕ) SparseFault

finish-before : (w xs : List ℕ) (cs : List (Option ℕ)) (a : Ahead) → laid cs ≡ xs
    → finish w (before cs a) ≡ finish (w ++ xs) a
finish-before w xs cs a e =
    ap (λ (l : List ℕ). let r : Whole = (l, a.ending) in r)
    (ap (λ (l : List ℕ). w ++ l) (laid-append cs a.cells ∙ ap (λ (l : List ℕ). l ++ laid a.cells) e)
    ∙ sym (append_assoc w xs (laid a.cells)))

module _ (s s' : Walk) (y' c t win w w' : List ℕ) (r : ℕ) (in_window : take r win ≡ c) where
  raw_is : (n : ℕ) → n ≡ r → laid (somes c) ≡ take n win
  raw_is n e = laid_some c ∙ sym in_window ∙ ap (λ (k : ℕ). take k win) (sym e)

  onward_fault : (f : SparseFault) → SaysUnlessDevice (parts.Fault f) s s' c t → s'.phase ≡ phases.Failed f
      → w' ≡ w ++ [] → UnlessExpanding (answer_of (parts.Fault f))
      (finish w (ahead s (c ++ t)) ≡ finish w' (ahead s' t))
  onward_fault (faults.Read d) says leaves e = tt
  onward_fault (faults.Write d) says leaves e = tt
  onward_fault f says leaves e = let k : w' ≡ w = e ∙ append-nil w in rw (says, leaves, k) refl

  pub onward : (q : Part) → SaysUnlessDevice q s s' c t → PartLeaves q s'.phase → Moved q r → w' ≡ w ++ laid_by q win
      → UnlessExpanding (answer_of q) (finish w (ahead s (c ++ t)) ≡ finish w' (ahead s' t))
  onward (parts.Raw n) says leaves moved e =
      rw (says.1, e) (finish-before w (take n win) (somes c) (ahead s' t) (raw_is n moved.0))
  onward (parts.Words word n) says leaves moved e =
      rw (says, e) (finish-before w (concat (replicate n word)) (fills n word) (ahead s' t)
      (laid_some (concat (replicate n word))))
  onward (parts.Skip n) says leaves moved e =
      rw (says, e) (finish-before w (replicate (4 * n) 0) (gaps n) (ahead s' t) (laid_none (4 * n)))
  onward parts.Nothing says leaves moved e = let k : w' ≡ w = e ∙ append-nil w in rw (says, k) refl
  onward parts.End says leaves moved e = let k : w' ≡ w = e ∙ append-nil w in rw (says, leaves, k) refl
  onward (parts.Fault f) says leaves moved e = onward_fault f says leaves e

-- a prefix of what a part gives is a beginning
begins_part : (w w' xs : List ℕ) (k : ℕ) (a b : Ahead) (cs : List (Option ℕ)) → laid cs ≡ xs → a ≡ before cs b
    → w' ≡ w ++ take k xs → IsFrontOf w' (w ++ laid a.cells)
begins_part w w' xs k a b cs e f g = record {
  more = drop k xs ++ laid b.cells;
  joined = rw (f, g, laid-append cs b.cells, e)
      (ap (λ (l : List ℕ). w ++ (l ++ laid b.cells)) (sym (take-append-drop k xs))
      ∙ ap (λ (l : List ℕ). w ++ l) (append_assoc (take k xs) (drop k xs) (laid b.cells))
      ∙ sym (append_assoc w (take k xs) (drop k xs ++ laid b.cells)));
}

begins_none : (w w' : List ℕ) (k : ℕ) (l : List ℕ) → w' ≡ w ++ take k [] → IsFrontOf w' (w ++ l)
begins_none w w' zero l e = record { more = l; joined = rw (e, append-nil) refl }
begins_none w w' (suc k) l e = record { more = l; joined = rw (e, append-nil) refl }

module _ (s s' : Walk) (y' c win w w' : List ℕ) (r k : ℕ) (in_window : take r win ≡ c) where
  pub begins : (q : Part) → ((t : List ℕ) → (is_fault q ≡ true → t ≡ y') → SaysUnlessDevice q s s' c t) → Moved q r
      → w' ≡ w ++ take k (laid_by q win) → IsFrontOf w' (finish w (ahead s c)).0
  begins (parts.Raw n) says moved e = let h = rw append-nil at (says [] (λ z. absurd cc)).1 in
      begins_part w w' (take n win) k (ahead s c) (ahead s' []) (somes c)
      (raw_is s s' y' c [] win w w' r in_window n moved.0) h e
  begins (parts.Words word n) says moved e = let h = rw append-nil at (says [] (λ z. absurd cc)) in
      begins_part w w' (concat (replicate n word)) k (ahead s c) (ahead s' []) (fills n word)
      (laid_some (concat (replicate n word))) h e
  begins (parts.Skip n) says moved e = let h = rw append-nil at (says [] (λ z. absurd cc)) in
      begins_part w w' (replicate (4 * n) 0) k (ahead s c) (ahead s' []) (gaps n) (laid_none (4 * n)) h e
  begins parts.Nothing says moved e = begins_none w w' k (laid (ahead s c).cells) e
  begins parts.End says moved e = begins_none w w' k (laid (ahead s c).cells) e
  begins (parts.Fault f) says moved e = begins_none w w' k (laid (ahead s c).cells) e

pub fault_errs : (q : Part) → is_fault q ≡ true → IsTrue (is_err (answer_of q))
fault_errs (parts.Fault f) e = refl
fault_errs (parts.Raw n) e = absurd cc
fault_errs (parts.Words word n) e = absurd cc
fault_errs (parts.Skip n) e = absurd cc
fault_errs parts.Nothing e = absurd cc
fault_errs parts.End e = absurd cc

-- ---- the loop

-- one step more
pub told_more : (w0 w w' rem rem' : List ℕ) (s s' : Walk) (k n j : ℕ) (t : List ℕ) (whole : List ℕ → Ahead)
    → rem' ≡ drop k rem → j ≡ k + n
    → ((t : List ℕ) → finish w0 (whole (take k rem ++ t)) ≡ finish w (ahead s t))
    → finish w (ahead s (take n rem' ++ t)) ≡ finish w' (ahead s' t)
    → finish w0 (whole (take j rem ++ t)) ≡ finish w' (ahead s' t)
told_more w0 w w' rem rem' s s' k n j t whole r same before step =
    let parts : take j rem ++ t ≡ take k rem ++ (take n rem' ++ t) =
    ap (λ (i : ℕ). take i rem ++ t) same ∙ ap (λ (l : List ℕ). l ++ t) (sym (take_plus k n rem))
    ∙ append_assoc (take k rem) (take n (drop k rem)) t
    ∙ ap (λ (l : List ℕ). take k rem ++ (take n l ++ t)) (sym r) in
    ap (λ (l : List ℕ). finish w0 (whole l)) parts ∙ before (take n rem' ++ t) ∙ step

-- what is begun in a step is begun in the whole
pub begun_more : (w0 w w' rem rem' : List ℕ) (s : Walk) (k n j : ℕ) (whole : List ℕ → Ahead) → rem' ≡ drop k rem
    → j ≡ k + n
    → ((t : List ℕ) → finish w0 (whole (take k rem ++ t)) ≡ finish w (ahead s t))
    → IsFrontOf w' (finish w (ahead s (take n rem'))).0 → IsFrontOf w' (finish w0 (whole (take j rem))).0
begun_more w0 w w' rem rem' s k n j whole r same before b =
    let parts : take j rem ≡ take k rem ++ take n rem' = ap (λ (i : ℕ). take i rem) same ∙ sym (take_plus k n rem)
    ∙ ap (λ (l : List ℕ). take k rem ++ take n l) (sym r) in
    record {
      more = b.more;
      joined = ap (λ (l : List ℕ). (finish w0 (whole l)).0) parts
          ∙ ap (λ (p : Whole). p.0) (before (take n rem')) ∙ b.joined;
    }

abbrev Ending : Type 0
Ending = Result (Header × List ℕ) SparseFault

abbrev ended_header : Header → Ending → Header
ended_header d (Ok p) = p.0
ended_header d (Err f) = d

abbrev ended_left : List ℕ → Ending → List ℕ
ended_left d (Ok p) = p.1
ended_left d (Err f) = d

err_ok : (f : SparseFault) (h : Header) (l : List ℕ) → (let a : Ending = Err f in let b : Ending = Ok (h, l) in a ≡ b)
    → ⊥
err_ok f h l q = cc

ok_err : (f : SparseFault) (h : Header) (l : List ℕ) → (let a : Ending = Ok (h, l) in let b : Ending = Err f in a ≡ b)
    → ⊥
ok_err f h l q = cc

err_err : (g f : SparseFault) → (let a : Ending = Err g in let b : Ending = Err f in a ≡ b) → f ≡ g
err_err g f q = cc

-- the fault is the outcome's, and the output holds what comes before it
abbrev pub FindsFault : SparseFault → List ℕ → List ℕ → Outcome → Type 0
FindsFault f old new (Image h cs rest) = ⊥
FindsFault f old new (Fault g cs) = (f ≡ g) × (new ≡ old ++ laid cs)

-- what an expansion returns, by the outcome of its input
abbrev pub Finds : Result Expanded SparseFault → List ℕ → List ℕ → List ℕ → Outcome → Type 0
Finds (Ok e) old new left (Image h cs rest) = (left ≡ rest) × (new ≡ old ++ expansion h.blk_sz (classed cs))
    × (e.blocks ≡ h.total_blks) × (e.bytes ≡ h.total_blks * h.blk_sz)
Finds (Ok e) old new left (Fault f cs) = ⊥
Finds (Err f) old new left o = UnlessExpandingDevice f (FindsFault f old new o)

-- the end of an image
pub image_ends : (o : Outcome) (e : Expanded) (h : Header) (old new left : List ℕ)
    → finish old (seen o) ≡ (new, Ok (h, left)) → e.blocks ≡ h.total_blks → e.bytes ≡ h.total_blks * h.blk_sz
    → Finds (Ok e) old new left o
image_ends (Image g cs rest) e h old new left q b s =
    let a = ap (λ (p : Whole). p.0) q in
    let r = ap (λ (p : Whole). p.1) q in
    let same : g ≡ h = ap (ended_header g) r in (
      sym (ap (ended_left rest) r),
      sym a,
      b ∙ sym (ap (λ (k : Header). k.total_blks) same),
      s
          ∙ sym (ap (λ (k : Header). k.total_blks * k.blk_sz) same),
    )
image_ends (Fault f cs) e h old new left q b s = let r = ap (λ (p : Whole). p.1) q in absurd (err_ok f h left r)

-- and of a refusal
refused : (o : Outcome) (f : SparseFault) (old new : List ℕ) → finish old (seen o) ≡ (new, Err f)
    → FindsFault f old new o
refused (Image g cs rest) f old new q = let r = ap (λ (p : Whole). p.1) q in absurd (ok_err f g rest r)
refused (Fault g cs) f old new q =
    let a = ap (λ (p : Whole). p.0) q in
    let r = ap (λ (p : Whole). p.1) q in
    let same : f ≡ g = err_err g f r in
    (same, sym a)

pub refusal : (o : Outcome) (f : SparseFault) (old new : List ℕ)
    → UnlessExpandingDevice f (finish old (seen o) ≡ (new, Err f)) → UnlessExpandingDevice f (FindsFault f old new o)
refusal o (faults.Read d) old new q = tt
refusal o (faults.Write d) old new q = tt
refusal o f old new q = refused o f old new q

pub unless_map : (f : SparseFault) (P Q : Type 0) → (P → Q) → UnlessExpandingDevice f P → UnlessExpandingDevice f Q
unless_map (faults.Read d) P Q go h = tt
unless_map (faults.Write d) P Q go h = tt
unless_map f P Q go h = go h

-- ---- in the words of what it is to be an image, and to have a fault

pub expansion_found : (x : List ℕ) (o : Outcome) (e : Expanded) (old new left : List ℕ) → IsOutcome x o
    → Finds (Ok e) old new left o → Expansion e old new x left
expansion_found x (Image h cs rest) e old new left is finds = record {
  header = h;
  chunks = cs;
  spelled = subst (λ (l : List ℕ). Spells x h cs l) (sym finds.0) is;
  written = finds.1;
  blocks = finds.2;
  bytes = finds.3;
}
expansion_found x (Fault f cs) e old new left is finds = absurd finds

refusal_found : (x : List ℕ) (o : Outcome) (f : SparseFault) (old new : List ℕ) → IsOutcome x o
    → FindsFault f old new o → Refusal f old new x
refusal_found x (Image h cs rest) f old new is finds = absurd finds
refusal_found x (Fault g cs) f old new is finds =
    record { given = cs; fails = subst (λ (k : SparseFault). Fails x k cs) (sym finds.0) is; written = finds.1 }

pub refused_found : (x : List ℕ) (o : Outcome) (f : SparseFault) (old new : List ℕ) → IsOutcome x o
    → UnlessExpandingDevice f (FindsFault f old new o) → UnlessExpandingDevice f (Refusal f old new x)
refused_found x o f old new is finds =
    unless_map f (FindsFault f old new o) (Refusal f old new x) (refusal_found x o f old new is) finds

pub begun_found : (y : List ℕ) (o : Outcome) (old new : List ℕ) → IsOutcome y o
    → IsFrontOf new (finish old (seen o)).0 → Begun old new y
begun_found y (Image h cs rest) old new is b =
    record { whole = laid (cells h.blk_sz (classed cs)); gives = image h cs rest is; begins = b }
begun_found y (Fault f cs) old new is b = record { whole = laid cs; gives = fault f cs is; begins = b }

-- ---- what is owed

no_head : (h : Header) (size i have : ℕ) → chunk_at h size i have [] ≡ Bad (faults.Truncated size) []
unfolding chunk_at
no_head h size i have = refl

nothing_read : (h : Header) (size i have left : ℕ) → (seen_chunks h (chunks_at h size i have left [])).cells ≡ []
unfolding chunks_at
nothing_read h size i have zero = elim (cases_Bool (have == h.total_blks)) [ inl t ↦ rw t refl | inr t ↦ rw t refl ]
nothing_read h size i have (suc left) =
    rw (chunks-bad h size i have left [] (faults.Truncated size) [] (no_head h size i have)) refl

nothing_ahead : (h : Header) (size i have : ℕ) → (chunks_ahead h size i have []).cells ≡ []
unfolding chunks_ahead
nothing_ahead h size i have = nothing_read h size i have (h.total_chunks - i)

owed_body : (k : ChunkKind) (due : Bool) (h : Header) (i have raw words : ℕ) (word : List ℕ) (size : ℕ)
    → (body_ahead k due h i have raw words word size []).cells ≡ owed_of k due words word
unfolding body_ahead
owed_body kinds.Raw due h i have zero words word size = nothing_ahead h size i have
owed_body kinds.Raw due h i have (suc raw) words word size = let t : nat_lt 0 (suc raw) ≡ true =
    lt-ltb _ _ (omega arith) in rw t refl
owed_body kinds.Fill true h i have raw words word size = refl
owed_body kinds.Fill false h i have raw words word size = rw (nothing_ahead h size i have, append-nil) refl
owed_body kinds.Skip due h i have raw words word size = rw (nothing_ahead h size i have, append-nil) refl
owed_body kinds.Crc true h i have raw words word size = refl
owed_body kinds.Crc false h i have raw words word size = nothing_ahead h size i have

owed_walk : (k : ChunkKind) (due : Bool) (h : Header) (i have extra raw words : ℕ) (word : List ℕ) (size : ℕ)
    → (walk k due h i have extra raw words word size []).cells ≡ (if extra == 0 then owed_of k due words word else [])
unfolding walk
owed_walk k due h i have zero raw words word size = owed_body k due h i have raw words word size
owed_walk k due h i have (suc extra) raw words word size = let t : nat_lt 0 (suc extra) ≡ true =
    lt-ltb _ _ (omega arith) in let e : (suc extra == 0) ≡ false = ne_eqb _ _ (λ q. absurd (omega (arith, q))) in
    rw (t, e) refl

abbrev pub IsFine : Phase → Type 0
IsFine phases.Header = ⊥
IsFine p = Unit {0}

pub owed_at : (p : Phase) (s : Walk) → IsFine p → (ahead_in p s []).cells ≡ owed_in p s
owed_at phases.Header s fine = absurd fine
owed_at phases.Body s fine = owed_walk s.kind s.due (view s.header) s.index s.have s.extra s.raw s.words s.word
    (s.position + 0)
owed_at phases.Done s fine = refl
owed_at (phases.Failed f) s fine = refl

fine : (r : MachineProgress) (p : Phase) → ExpandingLeaves (Ok r) p → IsFine p
fine answers.More p e = rw e tt
fine answers.Done p e = rw e tt

pub held_back : (r : Result MachineProgress SparseFault) (s s' : Walk) (c w w' : List ℕ) → ExpandingLeaves r s'.phase
    → UnlessExpanding r (finish w (ahead s (c ++ [])) ≡ finish w' (ahead s' []))
    → OnOk r ((finish w (ahead s c)).0 ≡ w' ++ laid (owed s'))
held_back (Ok r) s s' c w w' stands told =
    let e : finish w (ahead s c) ≡ finish w' (ahead s' []) = rw append-nil at told in
    ap (λ (p : Whole). p.0) e
    ∙ ap (λ (cs : List (Option ℕ)). w' ++ laid cs) (owed_at s'.phase s' (fine r s'.phase stands))
held_back (Err f) s s' c w w' stands told = tt

stands_so : (q : Part) (s' : Walk) → PartLeaves q s'.phase → ExpandingLeaves (answer_of q) s'.phase
stands_so (parts.Raw n) s' l = l
stands_so (parts.Words word n) s' l = l
stands_so (parts.Skip n) s' l = l
stands_so parts.Nothing s' l = l
stands_so parts.End s' l = l
stands_so (parts.Fault f) s' l = l

pub held_part : (s s' : Walk) (y' c win w w' : List ℕ) (r : ℕ) → take r win ≡ c → (q : Part)
    → ((t : List ℕ) → (is_fault q ≡ true → t ≡ y') → SaysUnlessDevice q s s' c t) → PartLeaves q s'.phase → Moved q r
    → w' ≡ w ++ laid_by q win
    → OnOk (answer_of q) ((finish w (ahead s c)).0 ≡ w' ++ laid (owed s'))
held_part s s' y' c win w w' r e (parts.Fault f) says leaves moved ok = tt
held_part s s' y' c win w w' r e q says leaves moved ok =
    held_back (answer_of q) s s' c w w' (stands_so q s' leaves)
    (onward s s' y' c [] win w w' r e q (says [] (λ z. absurd cc)) leaves moved ok)
