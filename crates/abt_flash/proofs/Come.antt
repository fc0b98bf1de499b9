-- A flash from its beginning: what has been written so far, and how it ends.
use Rattle.std.proofs.Common.{◌≡◌, ℕ, ◌+◌, ◌-◌, ◌*◌, ◌/◌, ◌^◌, ◌<◌, ◌≤◌, min, Bool, true, false, List, [], ◌∷◌, ◌++◌}
use Rattle.std.proofs.Common.{length, take, drop, Option, Some, None, Result, Ok, Err, refl, sym, ap, subst, ◌∙◌}
use Rattle.std.proofs.Common.{append-nil, append_assoc, arith, inl, inr, length-append, take-append-drop, nat_lt}
use Rattle.std.proofs.Common.{ltb-true, ltb-false, ◌||◌, ◌==◌, eq-eqb}
use Rattle.std.proofs.lemmas.Bool.{cases_Bool}
use Rattle.std.proofs.lemmas.List.{length-take-le, take-take}
use Rattle.std.proofs.Math.Nat.{mul-div_cancel_left, mul-le-mul}
use Rattle.std.specs.Prelude.{IsTrue, OnOk, is_err}
use Rattle.abt_io.specs.Moment.{Moment, Past, Keeps, KeepsUnsynced, EachSince, moment_of}
use Rattle.abt_io.proofs.Moments.{keeps_same, keeps_then, keeps_within, none_since}
use Rattle.abt_io.proofs.Parts.{take_plus}
use Rattle.abt_sparse.specs.declared.fault.SparseFault.{SparseFault}
use Rattle.abt_sparse.specs.declared.header.SparseHeader.{SparseHeader}
use Rattle.abt_sparse.specs.Block.{over, cells}
use Rattle.abt_sparse.specs.Chunk.{Header, classed}
use Rattle.abt_sparse.specs.Reading.{Outcome, Image, Fault, outcome}
use Rattle.abt_sparse.specs.Fails.{Fails, Spells, SpellsHeader, IsOutcome}
use Rattle.abt_sparse.specs.Pieces.{given, flashed}
use Rattle.abt_sparse.specs.View.{view}
use Rattle.abt_sparse.proofs.Exactly.{is_so}
use Rattle.abt_sparse.proofs.Fields.{IsBytes}
use Rattle.abt_sparse.proofs.Spelling.{spelled_blocks}
use Rattle.abt_chunks.specs.declared.progress.MachineProgress.{MachineProgress}
use Rattle.abt_chunks.specs.declared.progress.MachineProgress.TheVariants as answers
use Rattle.abt_chunks.specs.declared.walk.Phase.{Phase}
use Rattle.abt_chunks.specs.declared.walk.Phase.TheVariants as phases
use Rattle.abt_chunks.specs.declared.walk.Walk.{Walk}
use Rattle.abt_chunks.specs.Ahead.{Ahead, before, seen, stopping}
use Rattle.abt_chunks.specs.Expanding.{IsGoing}
use Rattle.abt_chunks.specs.Listing.{listing_of}
use Rattle.abt_chunks.specs.Parts.{ahead, ahead_in}
use Rattle.abt_chunks.specs.Places.{place_of, place_in}
use Rattle.abt_chunks.specs.ListingAhead.{at_end, head_in, upcoming, upcoming_in}
use Rattle.abt_chunks.proofs.Onward.{before-append}
use Rattle.abt_chunks.proofs.Short.{too_few}
use Rattle.abt_pieces.specs.Contents.{written_in}
use Rattle.abt_flash_faults.specs.declared.fault.FlashFault.{FlashFault}
use Rattle.abt_flash_faults.specs.declared.fault.FlashFault.TheVariants as fails
use Rattle.abt_flash.specs.declared.stage.Flashed.{Flashed}
use Rattle.abt_flash.specs.declared.stage.FlashStage.{FlashStage}
use Rattle.abt_flash.specs.declared.stage.FlashStage.TheVariants as stages
use Rattle.abt_flash.specs.Laying.{During, writes}
use Rattle.abt_flash.specs.Stepping.{Goes, Heads, IsFresh, IsFresh_in, Laid, Leaves, Measures, OnShort, UnlessFlashing}
use Rattle.abt_flash.specs.Stepping.{UnlessFlashingDevice, need_of, passed, passed_in}
use Rattle.abt_flash.specs.Flashing.{Flashes, Holds, IsLaidSoFar, RefusedFlash, WholeFlash}
use Rattle.abt_flash.proofs.Cells.{over_more, unwritten_behind, unwritten_front, written_by-append, written_cells}
use Rattle.abt_flash.proofs.Cells.{written_le_blocks}
use Rattle.abt_flash.proofs.Fronts.{BreaksPast, FrontAtLeast, at_least_more, breaks_behind}
use Rattle.abt_flash.proofs.Heads.{head_spelled, passed_head, spelled_head}
use Rattle.abt_flash.proofs.Moments.{during_then, during_within, unsynced_during, unsynced_within}
use Rattle.abt_chunks.specs.Places.{from_place, said_by}

-- After k bytes of x these cells have been written, and the walk is at s.
pub record Come (models : Bool) (s : Walk) (k : ℕ) (x : List ℕ) (size : ℕ) (past0 past : Past) (p0 p : List ℕ)
    (taken0 taken laid : ℕ) : Type 0 where
  pub cells : List (Option ℕ)
  pub told : (t : List ℕ) → seen (outcome (take k x ++ t)) ≡ before cells (ahead s t)
  pub placed : place_of s ≡ length cells
  pub counted : taken ≡ taken0 + said_by cells
  pub noted : laid ≡ min (said_by cells) (2 ^ 64 - 1)
  pub content : IsTrue models → p ≡ over p0 cells
  pub kept : IsTrue models → Keeps (writes cells) (moment_of past0 p0) (moment_of past p)
  pub moments : IsTrue models → EachSince past0.moments past.moments (KeepsUnsynced (writes cells) (moment_of past0 p0))
  pub near : length (given (outcome (take (k - 1) x))) < length cells + 65536
  pub head : (listing_of x).head ≡ (upcoming s (drop k x)).head
  pub fits : s.phase ≡ phases.Body → 0 < s.index → (h : Header) → (listing_of x).head ≡ Some h
      → h.total_blks * h.blk_sz ≤ size

over_none : (p : List ℕ) → p ≡ over p []
over_none [] = refl
over_none (y ∷ p) = refl

ahead_first : (s : Walk) (t : List ℕ) → s.phase ≡ phases.Header → ahead s t ≡ seen (outcome t)
ahead_first s t e = ap (λ (ph : Phase). ahead_in ph s t) e

pub seen_given : (o : Outcome) → (seen o).cells ≡ given o
seen_given (Image h cs rest) = refl
seen_given (Fault f cs) = refl

near_none : (y : List ℕ) → y ≡ [] → length (given (outcome y)) < 0 + 65536
near_none y e =
    let z : length (given (outcome y)) ≡ 0 =
    ap (λ (l : List ℕ). length (given (outcome l))) e ∙ ap length (sym (seen_given (outcome []))
    ∙ too_few [] (omega arith)) in
    omega (arith, z)

-- at the beginning nothing has
pub come_first : (models : Bool) (s : Walk) (k : ℕ) (x : List ℕ) (size : ℕ) (past : Past) (p : List ℕ)
    (taken laid : ℕ) → s.phase ≡ phases.Header → k ≡ 0 → laid ≡ 0
    → Come models s k x size past past p p taken taken laid
come_first models s k x size past p taken laid first none fine = record {
  cells = [];
  told = λ t. ap (λ (j : ℕ). seen (outcome (take j x ++ t))) none ∙ sym (ahead_first s t first);
  placed = ap (λ (ph : Phase). place_in ph s) first;
  counted = omega arith;
  noted = omega (arith, fine);
  content = λ t. over_none p;
  kept = λ t. keeps_same _ (moment_of past p);
  moments = λ t. none_since past.moments _;
  near = near_none (take (k - 1) x) (ap (λ (i : ℕ). take i x) (let z : k - 1 ≡ 0 = omega (arith, none) in z));
  head = sym (ap (λ (ph : Phase). (upcoming_in ph s (drop k x)).head) first
      ∙ ap (λ (j : ℕ). (listing_of (drop j x)).head) none);
  fits = λ body some h e. absurd (let q : phases.Header ≡ phases.Body = sym first ∙ body in cc);
}

unless_fault : (f : FlashFault) (P Q : Type 0) → (P → Q) → UnlessFlashingDevice f P → UnlessFlashingDevice f Q
unless_fault (fails.Read d) P Q go h = tt
unless_fault (fails.Write d) P Q go h = tt
unless_fault f P Q go h = go h

pub unless_map : {X : Type 0} (r : Result X FlashFault) (P Q : Type 0) → (P → Q) → UnlessFlashing r P
    → UnlessFlashing r Q
unless_map (Ok v) P Q go h = go h
unless_map (Err f) P Q go h = unless_fault f P Q go h

-- A flash that returns r, where so many bytes of x were read, as far as rest: all cells that it wrote or may have
-- touched. Of these so many at least are written where a device failed.
pub record Ends (models : Bool) (r : Result MachineProgress FlashFault) (s' : Walk) (x : List ℕ) (got : ℕ)
    (rest : List ℕ) (past0 past' : Past) (p0 p' : List ℕ) (taken0 taken' laid' : ℕ) : Type 0 where
  pub all : List (Option ℕ)
  pub more : List ℕ → List (Option ℕ)
  pub front : (t : List ℕ) → given (outcome (take got x ++ t)) ≡ all ++ more t
  pub whole : take got x ++ rest ≡ x
  pub told : UnlessFlashing r (seen (outcome x) ≡ before all (ahead s' rest))
  pub counted : UnlessFlashing r (taken' ≡ taken0 + said_by all)
  pub noted : OnOk r (laid' ≡ min (said_by all) (2 ^ 64 - 1))
  pub content : IsTrue models → UnlessFlashing r (p' ≡ over p0 all)
  pub least : ℕ
  pub broken : IsTrue models → BreaksPast r least all p0 p'
  pub near : length (given (outcome (take (got - 1) x))) < least + 65536
  pub kept : IsTrue models → Keeps (writes all) (moment_of past0 p0) (moment_of past' p')
  pub moments : IsTrue models
      → EachSince past0.moments past'.moments (During (writes all) (moment_of past0 p0) (moment_of past' p'))

-- ---- one step more

module _ (models : Bool) (stage : FlashStage) (s s' : Walk) (x x' rest : List ℕ) (k n j size : ℕ)
    (past0 past past' : Past) (p0 p p' : List ℕ) (taken0 taken taken' laid : ℕ) (r : Result MachineProgress FlashFault)
    (left : x' ≡ drop k x) (same : j ≡ k + n) (unsynced : past.synced ≡ past0.synced)
    (i : Come models s k x size past0 past p0 p taken0 taken laid)
    (e : Laid models stage r s s' (take n x') rest past past' p p' taken taken') where
  abbrev All : List (Option ℕ)
  All = i.cells ++ e.cells

  abbrev First : Moment
  First = moment_of past0 p0

  abbrev Last : Moment
  Last = moment_of past' p'

  split_at : (t : List ℕ) → take j x ++ t ≡ take k x ++ (take n x' ++ t)
  split_at t =
      ap (λ (m : ℕ). take m x ++ t) same ∙ ap (λ (l : List ℕ). l ++ t) (sym (take_plus k n x))
      ∙ append_assoc (take k x) (take n (drop k x)) t
      ∙ ap (λ (l : List ℕ). take k x ++ (take n l ++ t)) (sym left)

  -- the cells so far are a prefix of what is given, whatever follows
  pub all_front : (t : List ℕ) → (seen (outcome (take j x ++ t))).cells ≡ All ++ e.more t
  all_front t =
      ap (λ (l : List ℕ). (seen (outcome l)).cells) (split_at t) ∙ ap (λ (a : Ahead). a.cells) (i.told (take n x' ++ t))
      ∙ ap (λ (cs : List (Option ℕ)). i.cells ++ cs) (e.front t) ∙ sym (append_assoc i.cells e.cells (e.more t))

  all_from : (t : List ℕ) → ahead s (take n x' ++ t) ≡ before e.cells (ahead s' t)
      → seen (outcome (take j x ++ t)) ≡ before All (ahead s' t)
  all_from t q =
      ap (λ (l : List ℕ). seen (outcome l)) (split_at t) ∙ i.told (take n x' ++ t)
      ∙ ap (λ (a : Ahead). before i.cells a) q ∙ sym (before-append i.cells e.cells (ahead s' t))

  pub all_told : (t : List ℕ) → (IsTrue (is_err r) → t ≡ rest)
      → UnlessFlashing r (seen (outcome (take j x ++ t)) ≡ before All (ahead s' t))
  all_told t h = unless_map r _ _ (all_from t) (e.told t h)

  behind : (m : ℕ) → writes All m ≡ false → writes (from_place (place_of s) e.cells) m ≡ false
  behind m q = rw i.placed (unwritten_behind i.cells e.cells m q)

  kept_before : IsTrue models → Keeps (writes All) First (moment_of past p)
  kept_before t = keeps_within (writes i.cells) (writes All) First (moment_of past p)
      (unwritten_front i.cells e.cells) (i.kept t)

  pub all_kept : IsTrue models → Keeps (writes All) First Last
  all_kept t = keeps_then (writes All) First (moment_of past p) Last (kept_before t)
      (keeps_within _ (writes All) (moment_of past p) Last behind (e.kept t))

  pub all_moments : IsTrue models → EachSince past0.moments past'.moments (During (writes All) First Last)
  all_moments t =
      during_then (writes All) _ First (moment_of past p) Last past0.moments past.moments past'.moments behind
      (kept_before t) unsynced
      (unsynced_within (writes i.cells) (writes All) First past0.moments past.moments
      (unwritten_front i.cells e.cells) (i.moments t)) (e.moments t)

  pub all_content : IsTrue models → UnlessFlashing r (p' ≡ over p0 All)
  all_content t = unless_map r _ _ (λ q. over_more p0 p p' i.cells e.cells (place_of s) (i.content t) i.placed q)
      (e.content t)

  pub all_broken : IsTrue models → BreaksPast r (length i.cells) All p0 p'
  all_broken t = breaks_behind r (place_of s) p0 p p' i.cells e.cells (i.content t) i.placed (e.broken t)

  pub all_counted : UnlessFlashing r (taken' ≡ taken0 + said_by All)
  all_counted = unless_map r _ _ (λ q. omega (arith, q, i.counted, written_by-append i.cells e.cells)) e.counted

  on_ok : {X : Type 0} (q : Result X FlashFault) (A B C : Type 0) → (A → B → C) → UnlessFlashing q A → OnOk q B
      → OnOk q C
  on_ok (Ok v) A B C go a b = go a b
  on_ok (Err f) A B C go a b = tt

  pub all_noted : (laid' : ℕ) → OnOk r (laid' ≡ min (laid + (taken' - taken)) (2 ^ 64 - 1))
      → OnOk r (laid' ≡ min (said_by All) (2 ^ 64 - 1))
  all_noted laid' note =
      on_ok r _ _ _ (λ a b. omega (arith, a, b, i.noted, written_by-append i.cells e.cells)) e.counted note

  -- fewer bytes than are read so far give less than a window more than was written before this step
  pub all_near : n ≤ length x' → n ≤ 65536
      → length (given (outcome (take (j - 1) x))) < length i.cells + 65536
  all_near there small = elim (cases_Bool (nat_lt 0 n)) [
    | inl some ↦
        let m = n - 1 in
        let here : 0 < n = ltb-true _ _ some in
        let t = take m x' in
        let c = take n x' in
        let read : length c ≡ n = length-take-le n x' there in
        let part : take m c ≡ t = take-take m n x' (omega arith) in
        let few : length (ahead s (take m c)).cells ≤ m = e.short m (omega (arith, read, here)) in
        let less : length (ahead s t).cells ≤ m = rw part at few in
        let all : take k x ++ t ≡ take (j - 1) x = ap (λ (l : List ℕ). take k x ++ take m l) left
        ∙ take_plus k m x ∙ ap (λ (q : ℕ). take q x) (let z : k + m ≡ j - 1 = omega (arith, same, here) in z) in
        let sum : length (given (outcome (take (j - 1) x))) ≡ length (i.cells ++ (ahead s t).cells) =
        ap (λ (l : List ℕ). length (given (outcome l))) (sym all)
        ∙ ap length (sym (seen_given (outcome (take k x ++ t))) ∙ ap (λ (a : Ahead). a.cells) (i.told t)) in
        omega (arith, sum, length-append i.cells (ahead s t).cells, less, small)
    | inr none ↦
        let zero : n ≤ 0 = ltb-false _ _ none in
        let e : length (given (outcome (take (j - 1) x))) ≡ length (given (outcome (take (k - 1) x))) =
        ap (λ (q : ℕ). length (given (outcome (take (q - 1) x)))) (let z : j ≡ k = omega (arith, same, zero) in z) in
        omega (arith, e, i.near)
  ]

  pub ends : (laid' : ℕ) → n ≤ length x' → n ≤ 65536 → rest ≡ drop j x
      → OnOk r (laid' ≡ min (laid + (taken' - taken)) (2 ^ 64 - 1))
      → Ends models r s' x j rest past0 past' p0 p' taken0 taken' laid'
  ends laid' there small at_rest note =
      let whole : take j x ++ rest ≡ x = ap (λ (l : List ℕ). take j x ++ l) at_rest ∙ take-append-drop j x in
      record {
        all = All;
        more = e.more;
        front = λ t. sym (seen_given (outcome (take j x ++ t))) ∙ all_front t;
        whole = whole;
        told = unless_map r _ _ (λ q. ap (λ (l : List ℕ). seen (outcome l)) (sym whole)
            ∙ q) (all_told rest (λ z. refl));
        counted = all_counted;
        noted = all_noted laid' note;
        content = all_content;
        least = length i.cells;
        broken = all_broken;
        near = all_near there small;
        kept = all_kept;
        moments = all_moments;
      }

-- ---- the loop

body_of : (ph : Phase) (s : Walk) → IsGoing ph → passed_in ph s ≡ true → ph ≡ phases.Body
body_of phases.Header s going e = absurd (let f : false ≡ true = e in cc)
body_of phases.Body s going e = refl
body_of phases.Done s going e = absurd going
body_of (phases.Failed f) s going e = absurd going

some_same : (g h : Header) → (let a : Option Header = Some g in let b : Option Header = Some h in a ≡ b) → g ≡ h
some_same g h e = cc

-- the header that the walk has read is the one at the beginning
pub known_head : (models : Bool) (s : Walk) (k : ℕ) (x : List ℕ) (size : ℕ) (past0 past : Past) (p0 p : List ℕ)
    (taken0 taken laid : ℕ) → Come models s k x size past0 past p0 p taken0 taken laid → IsGoing s.phase
    → passed s ≡ true
    → (listing_of x).head ≡ Some (view s.header)
known_head models s k x size past0 past p0 p taken0 taken laid i going e =
    i.head ∙ passed_head s (drop k x) (body_of s.phase s going e) e

fits_known : (s : Walk) (x : List ℕ) (size : ℕ) (h : Header) → (listing_of x).head ≡ Some (view s.header)
    → (listing_of x).head ≡ Some h → need_of s ≤ size → h.total_blks * h.blk_sz ≤ size
fits_known s x size h known e le = let same : view s.header ≡ h = some_same (view s.header) h (sym known ∙ e) in
    rw (← same) le

pub come_next : (models : Bool) (stage : FlashStage) (s s' : Walk) (x x' rest : List ℕ) (k n j size : ℕ)
    (past0 past past' : Past) (p0 p p' : List ℕ) (taken0 taken taken' laid laid' : ℕ)
    → x' ≡ drop k x → j ≡ k + n → past.synced ≡ past0.synced
    → Come models s k x size past0 past p0 p taken0 taken laid
    → Laid models stage (Ok answers.More) s s' (take n x') rest past past' p p' taken taken'
    → laid' ≡ min (laid + (taken' - taken)) (2 ^ 64 - 1) → rest ≡ drop j x → Heads (Ok answers.More) s s' x' rest
    → (0 < s'.index → passed s ≡ true) → Measures (Ok answers.More) s size → IsGoing s.phase
    → past'.synced ≡ past.synced → n ≤ length x' → n ≤ 65536
    → Come models s' j x size past0 past' p0 p' taken0 taken' laid'
come_next models stage s s' x x' rest k n j size past0 past past' p0 p p' taken0 taken taken' laid laid' left same
    unsynced i e note behind heads begins measures going quiet there small = record {
      cells = i.cells ++ e.cells;
      told = λ t. all_told models stage s s' x x' rest k n j size past0 past past' p0 p p' taken0 taken taken' laid
          (Ok answers.More) left same unsynced i e t (λ z. absurd cc);
      placed = e.moved ∙ omega (arith, i.placed, length-append i.cells e.cells);
      counted = all_counted models stage s s' x x' rest k n j size past0 past past' p0 p p' taken0 taken taken' laid
          (Ok answers.More) left same unsynced i e;
      noted = omega (arith, note, i.noted, e.counted, written_by-append i.cells e.cells);
      content = all_content models stage s s' x x' rest k n j size past0 past past' p0 p p' taken0 taken taken' laid
          (Ok answers.More) left same unsynced i e;
      kept = all_kept models stage s s' x x' rest k n j size past0 past past' p0 p p' taken0 taken taken' laid
          (Ok answers.More) left same unsynced i e;
      moments = λ t. unsynced_during (writes (i.cells ++ e.cells)) (moment_of past0 p0)
          (moment_of past' p') past0.moments past'.moments (quiet ∙ unsynced)
          (all_moments models stage s s' x x' rest k n j size past0 past past' p0 p p' taken0 taken taken' laid
          (Ok answers.More) left same unsynced i e t);
      near =
          let less = all_near models stage s s' x x' rest k n j size past0 past past' p0 p p' taken0 taken taken' laid
          (Ok answers.More) left same unsynced i e there small in
          omega (arith, less, length-append i.cells e.cells);
      head = i.head ∙ ap (λ (l : List ℕ). (upcoming s l).head) (sym left) ∙ heads
          ∙ ap (λ (l : List ℕ). (upcoming s' l).head) behind;
      fits = λ body some h q. fits_known s x size h
          (known_head models s k x size past0 past p0 p taken0 taken laid i going (begins some)) q
          (measures (begins some));
    }

-- ---- the ends

abbrev Ending : Type 0
Ending = Result (Header × List ℕ) SparseFault

abbrev header_in : Header → Ending → Header
header_in d (Ok e) = e.0
header_in d (Err f) = d

abbrev left_in : List ℕ → Ending → List ℕ
left_in d (Ok e) = e.1
left_in d (Err f) = d

ended_header : (g h : Header) (l m : List ℕ) → (let a : Ending = Ok (g, l) in let b : Ending = Ok (h, m) in a ≡ b)
    → g ≡ h
ended_header g h l m q = ap (header_in g) q

ended_left : (g h : Header) (l m : List ℕ) → (let a : Ending = Ok (g, l) in let b : Ending = Ok (h, m) in a ≡ b) → l ≡ m
ended_left g h l m q = ap (left_in l) q

err_ok : (f : SparseFault) (h : Header) (l : List ℕ) → (let a : Ending = Err f in let b : Ending = Ok (h, l) in a ≡ b)
    → ⊥
err_ok f h l q = cc

ok_err : (f : SparseFault) (h : Header) (l : List ℕ) → (let a : Ending = Ok (h, l) in let b : Ending = Err f in a ≡ b)
    → ⊥
ok_err f h l q = cc

err_err : (g f : SparseFault) → (let a : Ending = Err g in let b : Ending = Err f in a ≡ b) → g ≡ f
err_err g f q = cc

at_done : (s' : Walk) (rest : List ℕ) → s'.phase ≡ phases.Done
    → ahead s' rest ≡ record { cells = []; ending = Ok (view s'.header, rest) }
at_done s' rest e = ap (λ (ph : Phase). ahead_in ph s' rest) e

at_fault : (s' : Walk) (rest : List ℕ) (f : SparseFault) → s'.phase ≡ phases.Failed f → ahead s' rest ≡ stopping f
at_fault s' rest f e = ap (λ (ph : Phase). ahead_in ph s' rest) e

-- so many blocks of b bytes are counted again from their bytes
counted_back : (b w most : ℕ) → 0 < b → b < 2 ^ 32 → most < 2 ^ 32 → w ≤ most
    → min (min (b * w) (2 ^ 64 - 1) / b) most ≡ w
counted_back b w most some small few le =
    let bound : b * w ≤ 4294967295 * 4294967295 = mul-le-mul (let q : b ≤ 4294967295 = omega arith in
    q) (let q : w ≤ 4294967295 = omega arith in q) in
    let whole : min (b * w) (2 ^ 64 - 1) ≡ b * w = omega (arith, bound) in
    let back : min (b * w) (2 ^ 64 - 1) / b ≡ w = ap (λ (n : ℕ). n / b) whole ∙ mul-div_cancel_left w some in
    omega (arith, back, le)

-- ---- what is touched

module _ (models : Bool) (r : Result MachineProgress FlashFault) (s' : Walk) (x : List ℕ) (got : ℕ)
    (rest : List ℕ) (past0 past' : Past) (p0 p' : List ℕ) (taken0 taken' laid' : ℕ)
    (e : Ends models r s' x got rest past0 past' p0 p' taken0 taken' laid') where
  given_all : given (outcome x) ≡ e.all ++ e.more rest
  given_all = ap (λ (l : List ℕ). given (outcome l)) (sym e.whole) ∙ e.front rest

  given_read : given (outcome (take got x)) ≡ e.all ++ e.more []
  given_read = ap (λ (l : List ℕ). given (outcome l)) (sym (append-nil (take got x))) ∙ e.front []

  within_all : (i : ℕ) → writes (given (outcome x)) i ≡ false → writes e.all i ≡ false
  within_all i q = unwritten_front e.all (e.more rest) i (ap (λ (cs : List (Option ℕ)). writes cs i) (sym given_all)
      ∙ q)

  within_read : (i : ℕ) → writes (given (outcome (take got x))) i ≡ false → writes e.all i ≡ false
  within_read i q = unwritten_front e.all (e.more []) i (ap (λ (cs : List (Option ℕ)). writes cs i) (sym given_read)
      ∙ q)

  pub ends_kept : IsTrue models → Keeps (writes (given (outcome x))) (moment_of past0 p0) (moment_of past' p')
  ends_kept t = keeps_within (writes e.all) (writes (given (outcome x))) (moment_of past0 p0)
      (moment_of past' p') within_all (e.kept t)

  pub ends_moments : IsTrue models
      → EachSince past0.moments past'.moments (During (writes (given (outcome x))) (moment_of past0 p0)
      (moment_of past' p'))
  ends_moments t = during_within (writes e.all) (writes (given (outcome x))) (moment_of past0 p0)
      (moment_of past' p') past0.moments past'.moments within_all (e.moments t)

  pub ends_seen : IsTrue models
      → Keeps (writes (given (outcome (take got x)))) (moment_of past0 p0) (moment_of past' p')
  ends_seen t = keeps_within (writes e.all) (writes (given (outcome (take got x)))) (moment_of past0 p0)
      (moment_of past' p') within_read (e.kept t)

-- ---- an image

image_of : (x : List ℕ) (all : List (Option ℕ)) (rest : List ℕ) (hs ht : SparseHeader) (e : Flashed)
    (size taken0 taken' laid' : ℕ) (o : Outcome) → IsOutcome x o
    → seen o ≡ before all (record { cells = []; ending = Ok (view ht, rest) })
    → (listing_of x).head ≡ Some (view hs) → hs.total_blks * hs.blk_sz ≤ size → taken' ≡ taken0 + said_by all
    → laid' ≡ min (said_by all) (2 ^ 64 - 1) → e.blocks ≡ min (laid' / ht.blk_sz) ht.total_blks
    → WholeFlash e size taken0 taken' x rest
image_of x all rest hs ht e size taken0 taken' laid' (Image h cs left) is q known fits count note blocks =
    let b = h.blk_sz in
    let w = written_in (classed cs) in
    let ends = ap (λ (a : Ahead). a.ending) q in
    let head : h ≡ view ht = ended_header h (view ht) left rest ends in
    let after : left ≡ rest = ended_left h (view ht) left rest ends in
    let size_is : b ≡ ht.blk_sz = ap (λ (k : Header). k.blk_sz) head in
    let most_is : h.total_blks ≡ ht.total_blks = ap (λ (k : Header). k.total_blks) head in
    let ok = is.front.header.fits in
    let bs = spelled_blocks x h cs left is in
    let cells_are : cells b (classed cs) ≡ all = ap (λ (a : Ahead). a.cells) q ∙ append-nil all in
    let bytes : said_by all ≡ b * w = ap said_by (sym cells_are) ∙ written_cells b (classed cs) ok.blk_sz.1 bs.0 in
    let few : w ≤ h.total_blks = omega (arith, written_le_blocks (classed cs), bs.1) in
    let again : min (min (b * w) (2 ^ 64 - 1) / b) h.total_blks ≡ w =
    counted_back b w h.total_blks ok.blk_sz.0 ok.blk_sz.2 ok.total_blks few in
    let noted : laid' ≡ min (b * w) (2 ^ 64 - 1) = note ∙ ap (λ (n : ℕ). min n (2 ^ 64 - 1)) bytes in
    let answer : e.blocks ≡ w =
    blocks ∙ ap (λ (n : ℕ). min (n / ht.blk_sz) ht.total_blks) noted
    ∙ ap (λ (n : ℕ). min (min (b * w) (2 ^ 64 - 1) / n) ht.total_blks) (sym size_is)
    ∙ ap (λ (n : ℕ). min (min (b * w) (2 ^ 64 - 1) / b) n) (sym most_is) ∙ again in
    let same : view hs ≡ h = some_same (view hs) h (sym known ∙ spelled_head x h is.front.after is.front.header) in
    record {
      header = h;
      chunks = cs;
      spelled = subst (λ (l : List ℕ). Spells x h cs l) after is;
      fits = subst (λ (k : Header). k.total_blks * k.blk_sz ≤ size) same fits;
      blocks = answer;
      once = count ∙ ap (λ (n : ℕ). taken0 + n) (bytes ∙ ap (λ (n : ℕ). b * n) (sym answer));
    }
image_of x all rest hs ht e size taken0 taken' laid' (Fault f cs) is q known fits count note blocks =
    absurd (err_ok f (view ht) rest (ap (λ (a : Ahead). a.ending) q))

module _ (models : Bool) (s s' : Walk) (x : List ℕ) (got : ℕ) (rest : List ℕ) (past0 past' : Past) (p0 p' : List ℕ)
    (taken0 taken' laid' : ℕ) (e : Ends models (Ok answers.Done) s' x got rest past0 past' p0 p' taken0 taken' laid')
    (ended : s'.phase ≡ phases.Done) where
  done_told : seen (outcome x) ≡ before e.all (record { cells = []; ending = Ok (view s'.header, rest) })
  done_told = e.told ∙ ap (λ (a : Ahead). before e.all a) (at_done s' rest ended)

  -- the end of an image that fits
  pub done_whole : (f : Flashed) (size : ℕ) → IsBytes x → (listing_of x).head ≡ Some (view s.header)
      → need_of s ≤ size → f.blocks ≡ min (laid' / s'.header.blk_sz) s'.header.total_blks
      → WholeFlash f size taken0 taken' x rest
  done_whole f size bytes known fits blocks = image_of x e.all rest s.header s'.header f size taken0 taken' laid'
      (outcome x) (is_so x bytes) done_told known fits e.counted e.noted blocks

  pub done_holds : IsTrue models → p' ≡ flashed p0 x
  done_holds t =
      let are : given (outcome x) ≡ e.all = sym (seen_given (outcome x)) ∙ ap (λ (a : Ahead). a.cells) done_told
      ∙ append-nil e.all in
      e.content t ∙ ap (over p0) (sym are)

-- ---- a fault

refused_of : (f : SparseFault) (x : List ℕ) (all : List (Option ℕ)) (size : ℕ) (o : Outcome) → IsOutcome x o
    → seen o ≡ before all (stopping f) → ((h : Header) (y : List ℕ) → SpellsHeader x h y
    → h.total_blks * h.blk_sz ≤ size) → RefusedFlash f size x
refused_of f x all size (Image h cs left) is q fits = absurd (ok_err f h left (ap (λ (a : Ahead). a.ending) q))
refused_of f x all size (Fault g cs) is q fits =
    let same : g ≡ f = err_err g f (ap (λ (a : Ahead). a.ending) q) in
    record { given = cs; fails = subst (λ (k : SparseFault). Fails x k cs) same is; fits = fits }

or_none : (a b : Bool) → (a || b) ≡ false → (a ≡ false) × (b ≡ false)
or_none true b e = absurd (let f : true ≡ false = e in cc)
or_none false b e = (refl, e)

-- before the header has been passed, none is known
head_none : (ph : Phase) (s : Walk) → IsGoing ph → passed_in ph s ≡ false → head_in ph (at_end s) s ≡ None
head_none phases.Header s going e = refl
head_none phases.Body s going e =
    let parts = or_none (nat_lt 0 s.index) (at_end s) e in
    let less : s.index ≤ 0 = ltb-false _ _ parts.0 in
    let none : (s.index == 0) ≡ true = eq-eqb _ _ (let z : s.index ≡ 0 = omega arith in z) in
    rw parts.1 (rw none refl)
head_none phases.Done s going e = absurd going
head_none (phases.Failed f) s going e = absurd going

none_some : (h : Header) → (let a : Option Header = None in let b : Option Header = Some h in a ≡ b) → ⊥
none_some h e = cc

no_cells : (cs : List (Option ℕ)) → length cs ≡ 0 → cs ≡ []
no_cells [] e = refl
no_cells (c ∷ cs) e = absurd (omega (arith, e))

module _ (models : Bool) (s s' : Walk) (x x' : List ℕ) (got : ℕ) (rest : List ℕ) (k size : ℕ) (past0 past past' : Past)
    (p0 p p' : List ℕ) (taken0 taken taken' laid laid' : ℕ) (bytes : IsBytes x) (going : IsGoing s.phase)
    (left : x' ≡ drop k x) (i : Come models s k x size past0 past p0 p taken0 taken laid) where
  known : passed s ≡ true → (listing_of x).head ≡ Some (view s.header)
  known q = known_head models s k x size past0 past p0 p taken0 taken laid i going q

  fits_all : (g : SparseFault) → Heads (Err (fails.Sparse g)) s s' x' rest → (passed s ≡ true → need_of s ≤ size)
      → (h : Header) (y : List ℕ) → SpellsHeader x h y → h.total_blks * h.blk_sz ≤ size
  fits_all g heads measures h y sp =
      let here = spelled_head x h y sp in
      elim (cases_Bool (passed s)) [
        | inl t ↦ fits_known s x size h (known t) here (measures t)
        | inr t ↦ absurd (none_some h (sym (head_none s.phase s going t) ∙ sym heads
            ∙ ap (λ (l : List ℕ). (upcoming s l).head) left ∙ sym i.head ∙ here))
      ]

  short_none : passed s ≡ true → size < need_of s → i.cells ≡ []
  short_none q lt = elim (cases_Bool (nat_lt 0 s.index)) [
    | inl t ↦
        let body : s.phase ≡ phases.Body = body_of s.phase s going q in
        let le : (view s.header).total_blks * (view s.header).blk_sz ≤ size =
        i.fits body (ltb-true _ _ t) (view s.header) (known q) in
        absurd (omega (arith, le, lt))
    | inr t ↦
        let less : s.index ≤ 0 = ltb-false _ _ t in
        let have : s.have ≡ 0 = omega (arith, s.begun, less) in
        let none : s.have * s.header.blk_sz ≡ 0 = ap (λ (n : ℕ). n * s.header.blk_sz) have ∙ omega arith in
        no_cells i.cells (sym i.placed ∙ place_none s.phase s none)
  ] where
    place_none : (ph : Phase) (s : Walk) → s.have * s.header.blk_sz ≡ 0 → place_in ph s ≡ 0
    place_none phases.Header s e = refl
    place_none phases.Body s e = omega (arith, e)
    place_none phases.Done s e = omega (arith, e)
    place_none (phases.Failed g) s e = omega (arith, e)

  pub fault_flashes : (f : FlashFault) → Ends models (Err f) s' x got rest past0 past' p0 p' taken0 taken' laid'
      → Leaves (Err f) s'.phase → Heads (Err f) s s' x' rest → Measures (Err f) s size
      → OnShort {X = MachineProgress} (Err f) (taken' ≡ taken) → Flashes (Err f) size taken0 taken' x rest
  fault_flashes (fails.Sparse g) e leaves heads measures none =
      refused_of g x e.all size (outcome x) (is_so x bytes) (e.told
      ∙ ap (λ (a : Ahead). before e.all a) (at_fault s' rest g leaves)) (fits_all g heads measures)
  fault_flashes (fails.PartitionTooSmall need) e leaves heads measures none =
      let at = known measures.0 in
      let zero = short_none measures.0 (rw (← measures.1) measures.2) in
      let count : said_by i.cells ≡ 0 = ap said_by zero in
      record {
        header = view s.header;
        behind = drop s.header.file_hdr_sz x;
        spelled = head_spelled x (view s.header) bytes at;
        needs = measures.1;
        short = measures.2;
        none = omega (arith, none, i.counted, count);
      }
  fault_flashes (fails.Sync d) e leaves heads measures none =
      let laid = min (said_by e.all) (2 ^ 64 - 1) in
      let answer : Flashed = record { blocks = min (laid / s'.header.blk_sz) s'.header.total_blks } in (
        answer,
        image_of x e.all rest s.header s'.header answer size taken0 taken' laid (outcome x) (is_so x bytes)
            (e.told ∙ ap (λ (a : Ahead). before e.all a) (at_done s' rest leaves))
            (known measures.0) measures.1 e.counted refl refl,
      )
  fault_flashes f e leaves heads measures none = tt

  -- what is written is the front of what the bytes give that were read
  front_all : (r : Result MachineProgress FlashFault) (torn : ℕ)
      → (e : Ends models r s' x got rest past0 past' p0 p' taken0 taken' laid')
      → FrontAtLeast e.least torn e.all p0 p' → IsLaidSoFar torn got x p0 p'
  front_all r torn e h =
      let are = given_read models r s' x got rest past0 past' p0 p' taken0 taken' laid' e in
      let all = subst (λ (cs : List (Option ℕ)). FrontAtLeast e.least torn cs p0 p') (sym are)
      (at_least_more e.least torn e.all (e.more []) p0 p' h) in
      record { front = all.front; least = omega (arith, e.near, all.long) }

  pub fault_holds : (f : FlashFault) → Ends models (Err f) s' x got rest past0 past' p0 p' taken0 taken' laid'
      → Leaves (Err f) s'.phase → Measures (Err f) s size → OnShort {X = MachineProgress} (Err f) (p' ≡ p)
      → IsTrue models → Holds (Err f) got p0 p' x
  fault_holds (fails.Sparse g) e leaves measures same t =
      let q = e.told ∙ ap (λ (a : Ahead). before e.all a) (at_fault s' rest g leaves) in
      let are : given (outcome x) ≡ e.all = sym (seen_given (outcome x)) ∙ ap (λ (a : Ahead). a.cells) q
      ∙ append-nil e.all in
      e.content t ∙ ap (over p0) (sym are)
  fault_holds (fails.PartitionTooSmall need) e leaves measures same t =
      let zero = short_none measures.0 (rw (← measures.1) measures.2) in
      same ∙ i.content t ∙ ap (over p0) zero ∙ sym (over_none p0)
  fault_holds (fails.Sync d) e leaves measures same t =
      let q = e.told ∙ ap (λ (a : Ahead). before e.all a) (at_done s' rest leaves) in
      let are : given (outcome x) ≡ e.all = sym (seen_given (outcome x)) ∙ ap (λ (a : Ahead). a.cells) q
      ∙ append-nil e.all in
      e.content t ∙ ap (over p0) (sym are)
  fault_holds (fails.Read d) e leaves measures same t = front_all (Err (fails.Read d)) 0 e (e.broken t)
  fault_holds (fails.Write d) e leaves measures same t = front_all (Err (fails.Write d)) 65536 e (e.broken t)
  fault_holds f e leaves measures same t = tt

pub going_phase : (st : FlashStage) (p : Phase) → Goes st p → IsGoing p
going_phase stages.Going p h = h
going_phase stages.Done p h = absurd h
going_phase (stages.Failed f) p h = absurd h

pub short_same : (f : FlashFault) (A B : Type 0) → (A → B) → OnShort {X = MachineProgress} (Err f) A
    → OnShort {X = MachineProgress} (Err f) B
short_same (fails.PartitionTooSmall need) A B go h = go h
short_same f A B go h = tt

-- ---- the partition's size, whatever the input

pub need_stays : (s s' : Walk) (size : ℕ) → IsGoing s.phase → passed s ≡ true
    → (s.phase ≡ phases.Body → s'.header ≡ s.header) → need_of s ≤ size → need_of s' ≤ size
need_stays s s' size going e stays le = rw (stays (body_of s.phase s going e)) le

-- it is found too small only before the first chunk
pub short_first : (f : FlashFault) (s : Walk) (size : ℕ) (A B : Type 0) → IsGoing s.phase → Measures (Err f) s size
    → (s.phase ≡ phases.Body → 0 < s.index → need_of s ≤ size) → (IsFresh s → A) → {C : Type 0} → (A → C → B)
    → OnShort {X = MachineProgress} (Err f) C → OnShort {X = Flashed} (Err f) B
short_first (fails.PartitionTooSmall need) s size A B going measures measured fresh go short =
    let body : s.phase ≡ phases.Body = body_of s.phase s going measures.0 in
    elim (cases_Bool (nat_lt 0 s.index)) [
      | inl t ↦ let le : need_of s ≤ size = measured body (ltb-true _ _ t) in
          absurd (omega (arith, le, measures.1, measures.2))
      | inr t ↦
          let none : s.index ≤ 0 = ltb-false _ _ t in
          let first : s.index ≡ 0 = omega (arith, none) in
          let P : Phase → Type 0 = λ ph. IsFresh_in ph s in
          go (fresh (subst P (sym body) first)) short
    ]
short_first f s size A B going measures measured fresh go short = tt
