-- Verifying from its beginning: what stands so far, and how it ends.
use Rattle.std.proofs.Common.{◌≡◌, ℕ, ◌+◌, ◌-◌, ◌*◌, ◌/◌, ◌^◌, ◌<◌, ◌≤◌, min, Bool, List, [], ◌++◌, length, take, drop}
use Rattle.std.proofs.Common.{Option, Some, None, Result, Ok, Err, refl, sym, ap, subst, ◌∙◌, append-nil, append_assoc}
use Rattle.std.proofs.Common.{arith, length-append, take-append-drop, get_or, zero, suc}
use Rattle.std.proofs.Math.Nat.{mul-div_cancel_left, mul-le-mul}
use Rattle.std.specs.Prelude.{IsTrue, OnOk, is_err}
use Rattle.abt_io.proofs.Parts.{take_plus}
use Rattle.abt_sparse.specs.declared.fault.SparseFault.{SparseFault}
use Rattle.abt_sparse.specs.declared.header.SparseHeader.{SparseHeader}
use Rattle.abt_sparse.specs.Block.{cells}
use Rattle.abt_sparse.specs.Chunk.{Header, classed}
use Rattle.abt_sparse.specs.Reading.{Outcome, Image, Fault, outcome}
use Rattle.abt_sparse.specs.Fails.{Fails, Spells, IsOutcome}
use Rattle.abt_sparse.specs.Pieces.{given}
use Rattle.abt_sparse.specs.View.{view}
use Rattle.abt_sparse.proofs.Exactly.{is_so}
use Rattle.abt_sparse.proofs.Fields.{IsBytes}
use Rattle.abt_sparse.proofs.Spelling.{spelled_blocks}
use Rattle.abt_chunks.specs.declared.progress.MachineProgress.{MachineProgress}
use Rattle.abt_chunks.specs.declared.progress.MachineProgress.TheVariants as answers
use Rattle.abt_chunks.specs.declared.walk.Phase.{Phase}
use Rattle.abt_chunks.specs.declared.walk.Phase.TheVariants as phases
use Rattle.abt_chunks.specs.declared.walk.Walk.{Walk}
use Rattle.abt_chunks.specs.Ahead.{Ahead, before, seen, stopping}
use Rattle.abt_chunks.specs.Parts.{ahead, ahead_in}
use Rattle.abt_chunks.specs.Places.{from_place, place_in, place_of, said_by}
use Rattle.abt_chunks.proofs.Onward.{before-append}
use Rattle.abt_verify.specs.declared.fault.VerifyFault.{VerifyFault}
use Rattle.abt_verify.specs.declared.fault.VerifyFault.TheVariants as fails
use Rattle.abt_verify.specs.declared.stage.Verified.{Verified}
use Rattle.abt_verify.specs.Standing.{FirstDiffers, Stands, held_in}
use Rattle.abt_verify.specs.Stepping.{Compares, LeavesWalk, OnDiffers, OnStanding, UnlessUnread, UnlessUnreadFault}
use Rattle.abt_verify.specs.Verifying.{RefusedVerify, SaysOfPartition, Verifies, WholeVerify, fault, image}
use Rattle.abt_verify.proofs.Said.{first_more, held_le, said_by-append, said_cells, stands_more}

-- After k bytes of x these cells stand on a partition that holds p, and the walk is at s.
pub record Come (models : Bool) (s : Walk) (k : ℕ) (x p : List ℕ) (given0 given compared : ℕ) : Type 0 where
  pub cells : List (Option ℕ)
  pub told : (t : List ℕ) → seen (outcome (take k x ++ t)) ≡ before cells (ahead s t)
  pub placed : place_of s ≡ length cells
  pub stands : IsTrue models → Stands p cells
  pub counted : given ≡ given0 + said_by cells
  pub noted : compared ≡ min (said_by cells) (2 ^ 64 - 1)

ahead_first : (s : Walk) (t : List ℕ) → s.phase ≡ phases.Header → ahead s t ≡ seen (outcome t)
ahead_first s t e = ap (λ (ph : Phase). ahead_in ph s t) e

-- at the beginning none do
pub come_first : (models : Bool) (s : Walk) (k : ℕ) (x p : List ℕ) (given compared : ℕ) → s.phase ≡ phases.Header
    → k ≡ 0 → compared ≡ 0 → Come models s k x p given given compared
come_first models s k x p given compared first none fine = record {
  cells = [];
  told = λ t. ap (λ (j : ℕ). seen (outcome (take j x ++ t))) none ∙ sym (ahead_first s t first);
  placed = ap (λ (ph : Phase). place_in ph s) first;
  stands = λ t i y e. absurd (nothing i y e);
  counted = omega arith;
  noted = omega (arith, fine);
} where
  nothing : (i y : ℕ) → get_or {A = Option ℕ} [] i None ≡ Some y → ⊥
  nothing zero y e = cc
  nothing (suc i) y e = cc

unless_fault : (f : VerifyFault) (P Q : Type 0) → (P → Q) → UnlessUnreadFault f P → UnlessUnreadFault f Q
unless_fault (fails.Read d) P Q go h = tt
unless_fault (fails.PartitionRead d) P Q go h = tt
unless_fault f P Q go h = go h

unless_map : {X : Type 0} (r : Result X VerifyFault) (P Q : Type 0) → (P → Q) → UnlessUnread r P → UnlessUnread r Q
unless_map (Ok v) P Q go h = go h
unless_map (Err f) P Q go h = unless_fault f P Q go h

standing_fault : (f : VerifyFault) (P Q : Type 0) → (P → Q) → OnStanding {X = MachineProgress} (Err f) P
    → OnStanding {X = MachineProgress} (Err f) Q
standing_fault (fails.Sparse g) P Q go h = go h
standing_fault f P Q go h = tt

standing_map : (r : Result MachineProgress VerifyFault) (P Q : Type 0) → (P → Q) → OnStanding r P → OnStanding r Q
standing_map (Ok v) P Q go h = go h
standing_map (Err f) P Q go h = standing_fault f P Q go h

ok_map : (r : Result MachineProgress VerifyFault) (P Q : Type 0) → (P → Q) → OnOk r P → OnOk r Q
ok_map (Ok v) P Q go h = go h
ok_map (Err f) P Q go h = tt

ok_both : (r : Result MachineProgress VerifyFault) (P Q R : Type 0) → (P → Q → R) → OnOk r P → OnOk r Q → OnOk r R
ok_both (Ok v) P Q R go a b = go a b
ok_both (Err f) P Q R go a b = tt

-- A step that returns r, where x was read as far as rest: all cells that were compared.
pub record Ends (models : Bool) (r : Result MachineProgress VerifyFault) (s' : Walk) (x read rest p : List ℕ)
    (given0 given' compared' : ℕ) : Type 0 where
  pub all : List (Option ℕ)
  pub whole : read ++ rest ≡ x
  pub told : UnlessUnread r (seen (outcome x) ≡ before all (ahead s' rest))
  pub stands : IsTrue models → OnStanding r (Stands p all)
  pub differs : IsTrue models → (more : List (Option ℕ)) → OnDiffers r (λ n. FirstDiffers p (all ++ more) n)
  pub counted : OnOk r (given' ≡ given0 + said_by all)
  pub noted : OnOk r (compared' ≡ min (said_by all) (2 ^ 64 - 1))

differs_fault : (f : VerifyFault) (P Q : ℕ → Type 0) → ((n : ℕ) → P n → Q n)
    → OnDiffers {X = MachineProgress} (Err f) P → OnDiffers {X = MachineProgress} (Err f) Q
differs_fault (fails.Differs n) P Q go h = go n h
differs_fault f P Q go h = tt

differs_map : (r : Result MachineProgress VerifyFault) (P Q : ℕ → Type 0) → ((n : ℕ) → P n → Q n) → OnDiffers r P
    → OnDiffers r Q
differs_map (Ok v) P Q go h = tt
differs_map (Err f) P Q go h = differs_fault f P Q go h

-- a step over the same bytes
pub same_there : (models : Bool) (r : Result MachineProgress VerifyFault) (s s' : Walk) (c rest p p' : List ℕ)
    (given given' : ℕ) → (IsTrue models → p' ≡ p) → Compares models r s s' c rest p' given given'
    → Compares models r s s' c rest p given given'
same_there models r s s' c rest p p' given given' is e = record {
  cells = e.cells;
  told = e.told;
  moved = e.moved;
  counted = e.counted;
  stands = λ t. standing_map r _ _ (λ h. subst (λ (l : List ℕ). Stands l (from_place (place_of s) e.cells)) (is t) h)
      (e.stands t);
  differs = λ t. differs_map r _ _ (λ n h. subst (λ (l : List ℕ). FirstDiffers l (from_place (place_of s) e.cells) n)
      (is t) h) (e.differs t);
}

-- ---- one step more

module _ (models : Bool) (s s' : Walk) (x x' rest p : List ℕ) (k n j : ℕ) (given0 given given' compared : ℕ)
    (r : Result MachineProgress VerifyFault)
    (left : x' ≡ drop k x) (same : j ≡ k + n) (i : Come models s k x p given0 given compared)
    (e : Compares models r s s' (take n x') rest p given given') where
  abbrev All : List (Option ℕ)
  All = i.cells ++ e.cells

  split_at : (t : List ℕ) → take j x ++ t ≡ take k x ++ (take n x' ++ t)
  split_at t =
      ap (λ (m : ℕ). take m x ++ t) same ∙ ap (λ (l : List ℕ). l ++ t) (sym (take_plus k n x))
      ∙ append_assoc (take k x) (take n (drop k x)) t
      ∙ ap (λ (l : List ℕ). take k x ++ (take n l ++ t)) (sym left)

  all_from : (t : List ℕ) → ahead s (take n x' ++ t) ≡ before e.cells (ahead s' t)
      → seen (outcome (take j x ++ t)) ≡ before All (ahead s' t)
  all_from t q =
      ap (λ (l : List ℕ). seen (outcome l)) (split_at t) ∙ i.told (take n x' ++ t)
      ∙ ap (λ (a : Ahead). before i.cells a) q ∙ sym (before-append i.cells e.cells (ahead s' t))

  pub all_told : (t : List ℕ) → (IsTrue (is_err r) → t ≡ rest)
      → UnlessUnread r (seen (outcome (take j x ++ t)) ≡ before All (ahead s' t))
  all_told t h = unless_map r _ _ (all_from t) (e.told t h)

  pub all_stand : IsTrue models → OnStanding r (Stands p All)
  all_stand t = standing_map r _ _ (stands_more p i.cells e.cells (place_of s) (i.stands t) i.placed) (e.stands t)

  all_differ : IsTrue models → (more : List (Option ℕ)) → OnDiffers r (λ d. FirstDiffers p (All ++ more) d)
  all_differ t more = differs_map r _ _ (λ d. first_more p i.cells e.cells more (place_of s) d (i.stands t) i.placed)
      (e.differs t)

  pub all_counted : OnOk r (given' ≡ given0 + said_by All)
  all_counted = ok_map r _ _ (λ q. omega (arith, q, i.counted, said_by-append i.cells e.cells)) e.counted

  pub all_noted : (compared' : ℕ) → OnOk r (compared' ≡ min (compared + (given' - given)) (2 ^ 64 - 1))
      → OnOk r (compared' ≡ min (said_by All) (2 ^ 64 - 1))
  all_noted compared' note =
      ok_both r _ _ _ (λ a b. omega (arith, a, b, i.noted, said_by-append i.cells e.cells)) e.counted note

  pub ends : (compared' : ℕ) → rest ≡ drop j x → OnOk r (compared' ≡ min (compared + (given' - given)) (2 ^ 64 - 1))
      → Ends models r s' x (take j x) rest p given0 given' compared'
  ends compared' at_rest note =
      let whole : take j x ++ rest ≡ x = ap (λ (l : List ℕ). take j x ++ l) at_rest ∙ take-append-drop j x in
      record {
        all = All;
        whole = whole;
        told = unless_map r _ _ (λ q. ap (λ (l : List ℕ). seen (outcome l)) (sym whole)
            ∙ q) (all_told rest (λ z. refl));
        stands = all_stand;
        differs = all_differ;
        counted = all_counted;
        noted = all_noted compared' note;
      }

pub come_next : (models : Bool) (s s' : Walk) (x x' rest p : List ℕ) (k n j : ℕ)
    (given0 given given' compared compared' : ℕ) → x' ≡ drop k x → j ≡ k + n
    → Come models s k x p given0 given compared → Compares models (Ok answers.More) s s' (take n x') rest p given given'
    → compared' ≡ min (compared + (given' - given)) (2 ^ 64 - 1) → Come models s' j x p given0 given' compared'
come_next models s s' x x' rest p k n j given0 given given' compared compared' left same i e note = record {
  cells = i.cells ++ e.cells;
  told = λ t. all_told models s s' x x' rest p k n j given0 given given' compared (Ok answers.More) left same i e t
      (λ z. absurd cc);
  placed = e.moved ∙ omega (arith, i.placed, length-append i.cells e.cells);
  stands = all_stand models s s' x x' rest p k n j given0 given given' compared (Ok answers.More) left same i e;
  counted = all_counted models s s' x x' rest p k n j given0 given given' compared (Ok answers.More) left same i e;
  noted = all_noted models s s' x x' rest p k n j given0 given given' compared
      (Ok answers.More) left same i e compared' note;
}

-- ---- the ends

abbrev Ending : Type 0
Ending = Result (Header × List ℕ) SparseFault

abbrev header_in : Header → Ending → Header
header_in d (Ok e) = e.0
header_in d (Err f) = d

abbrev left_in : List ℕ → Ending → List ℕ
left_in d (Ok e) = e.1
left_in d (Err f) = d

ended_header : (g h : Header) (l m : List ℕ) → (let a : Ending = Ok (g, l) in let b : Ending = Ok (h, m) in a ≡ b)
    → g ≡ h
ended_header g h l m q = ap (header_in g) q

ended_left : (g h : Header) (l m : List ℕ) → (let a : Ending = Ok (g, l) in let b : Ending = Ok (h, m) in a ≡ b) → l ≡ m
ended_left g h l m q = ap (left_in l) q

err_ok : (f : SparseFault) (h : Header) (l : List ℕ) → (let a : Ending = Err f in let b : Ending = Ok (h, l) in a ≡ b)
    → ⊥
err_ok f h l q = cc

ok_err : (f : SparseFault) (h : Header) (l : List ℕ) → (let a : Ending = Ok (h, l) in let b : Ending = Err f in a ≡ b)
    → ⊥
ok_err f h l q = cc

err_err : (g f : SparseFault) → (let a : Ending = Err g in let b : Ending = Err f in a ≡ b) → g ≡ f
err_err g f q = cc

at_done : (s' : Walk) (rest : List ℕ) → s'.phase ≡ phases.Done
    → ahead s' rest ≡ record { cells = []; ending = Ok (view s'.header, rest) }
at_done s' rest e = ap (λ (ph : Phase). ahead_in ph s' rest) e

at_fault : (s' : Walk) (rest : List ℕ) (f : SparseFault) → s'.phase ≡ phases.Failed f → ahead s' rest ≡ stopping f
at_fault s' rest f e = ap (λ (ph : Phase). ahead_in ph s' rest) e

-- so many blocks of b bytes are counted again from their bytes
counted_back : (b w most : ℕ) → 0 < b → b < 2 ^ 32 → most < 2 ^ 32 → w ≤ most
    → min (min (b * w) (2 ^ 64 - 1) / b) most ≡ w
counted_back b w most some small few le =
    let bound : b * w ≤ 4294967295 * 4294967295 = mul-le-mul (let q : b ≤ 4294967295 = omega arith in
    q) (let q : w ≤ 4294967295 = omega arith in q) in
    let whole : min (b * w) (2 ^ 64 - 1) ≡ b * w = omega (arith, bound) in
    let back : min (b * w) (2 ^ 64 - 1) / b ≡ w = ap (λ (n : ℕ). n / b) whole ∙ mul-div_cancel_left w some in
    omega (arith, back, le)

image_of : (models : Bool) (x p : List ℕ) (all : List (Option ℕ)) (rest : List ℕ) (ht : SparseHeader) (e : Verified)
    (given0 given' compared' : ℕ) (o : Outcome) → IsOutcome x o
    → seen o ≡ before all (record { cells = []; ending = Ok (view ht, rest) })
    → (IsTrue models → Stands p all) → given' ≡ given0 + said_by all → compared' ≡ min (said_by all) (2 ^ 64 - 1)
    → e.blocks ≡ min (compared' / ht.blk_sz) ht.total_blks → WholeVerify models e p x rest given0 given'
image_of models x p all rest ht e given0 given' compared' (Image h cs left) is q stands count note blocks =
    let b = h.blk_sz in
    let w = held_in (classed cs) in
    let ends = ap (λ (a : Ahead). a.ending) q in
    let head : h ≡ view ht = ended_header h (view ht) left rest ends in
    let after : left ≡ rest = ended_left h (view ht) left rest ends in
    let size_is : b ≡ ht.blk_sz = ap (λ (k : Header). k.blk_sz) head in
    let most_is : h.total_blks ≡ ht.total_blks = ap (λ (k : Header). k.total_blks) head in
    let ok = is.front.header.fits in
    let bs = spelled_blocks x h cs left is in
    let cells_are : cells b (classed cs) ≡ all = ap (λ (a : Ahead). a.cells) q ∙ append-nil all in
    let bytes : said_by all ≡ b * w = ap said_by (sym cells_are) ∙ said_cells b (classed cs) ok.blk_sz.1 bs.0 in
    let few : w ≤ h.total_blks = omega (arith, held_le (classed cs), bs.1) in
    let again : min (min (b * w) (2 ^ 64 - 1) / b) h.total_blks ≡ w =
    counted_back b w h.total_blks ok.blk_sz.0 ok.blk_sz.2 ok.total_blks few in
    let noted : compared' ≡ min (b * w) (2 ^ 64 - 1) = note ∙ ap (λ (n : ℕ). min n (2 ^ 64 - 1)) bytes in
    let answer : e.blocks ≡ w =
    blocks ∙ ap (λ (n : ℕ). min (n / ht.blk_sz) ht.total_blks) noted
    ∙ ap (λ (n : ℕ). min (min (b * w) (2 ^ 64 - 1) / n) ht.total_blks) (sym size_is)
    ∙ ap (λ (n : ℕ). min (min (b * w) (2 ^ 64 - 1) / b) n) (sym most_is) ∙ again in
    record {
      header = h;
      chunks = cs;
      spelled = subst (λ (l : List ℕ). Spells x h cs l) after is;
      stands = λ t. subst (λ (l : List (Option ℕ)). Stands p l) (sym cells_are) (stands t);
      blocks = answer;
      once = count ∙ ap (λ (n : ℕ). given0 + n) (bytes ∙ ap (λ (n : ℕ). b * n) (sym answer));
    }
image_of models x p all rest ht e given0 given' compared' (Fault f cs) is q stands count note blocks =
    absurd (err_ok f (view ht) rest (ap (λ (a : Ahead). a.ending) q))

-- the end of an image
pub done_whole : (models : Bool) (s' : Walk) (x read rest p : List ℕ) (given0 given' compared' : ℕ)
    → Ends models (Ok answers.Done) s' x read rest p given0 given' compared' → s'.phase ≡ phases.Done → IsBytes x
    → (v : Verified) → v.blocks ≡ min (compared' / s'.header.blk_sz) s'.header.total_blks
    → WholeVerify models v p x rest given0 given'
done_whole models s' x read rest p given0 given' compared' e ended bytes v blocks =
    image_of models x p e.all rest s'.header v given0 given' compared' (outcome x) (is_so x bytes) (e.told
    ∙ ap (λ (a : Ahead). before e.all a) (at_done s' rest ended)) e.stands e.counted e.noted blocks

-- ---- a fault

refused_of : (models : Bool) (f : SparseFault) (x p : List ℕ) (all : List (Option ℕ)) (o : Outcome) → IsOutcome x o
    → seen o ≡ before all (stopping f) → (IsTrue models → Stands p all) → RefusedVerify models f p x
refused_of models f x p all (Image h cs left) is q stands = absurd (ok_err f h left (ap (λ (a : Ahead). a.ending) q))
refused_of models f x p all (Fault g cs) is q stands =
    let same : g ≡ f = err_err g f (ap (λ (a : Ahead). a.ending) q) in
    let cells_are : cs ≡ all = ap (λ (a : Ahead). a.cells) q ∙ append-nil all in
    record {
      before = cs;
      fails = subst (λ (k : SparseFault). Fails x k cs) same is;
      stands = λ t. subst (λ (l : List (Option ℕ)). Stands p l) (sym cells_are) (stands t);
    }

says_given : (x : List ℕ) (o : Outcome) → IsOutcome x o → SaysOfPartition x (given o)
says_given x (Image h cs left) is = image h cs left is
says_given x (Fault f cs) is = fault f cs is

seen_given : (o : Outcome) → (seen o).cells ≡ given o
seen_given (Image h cs rest) = refl
seen_given (Fault f cs) = refl

pub fault_verifies : (models : Bool) (f : VerifyFault) (s' : Walk) (x read rest p : List ℕ) (given0 given' compared' :
    ℕ) → Ends models (Err f) s' x read rest p given0 given' compared' → LeavesWalk (Err f) s'.phase → IsBytes x
    → Verifies models (Err f) p x rest given0 given'
fault_verifies models (fails.Sparse g) s' x read rest p given0 given' compared' e leaves bytes =
    refused_of models g x p e.all (outcome x) (is_so x bytes) (e.told
    ∙ ap (λ (a : Ahead). before e.all a) (at_fault s' rest g leaves)) e.stands
fault_verifies models (fails.Differs n) s' x read rest p given0 given' compared' e leaves bytes =
    let are : given (outcome x) ≡ e.all ++ (ahead s' rest).cells = sym (seen_given (outcome x))
    ∙ ap (λ (a : Ahead). a.cells) e.told in
    record {
      said = given (outcome x);
      says = says_given x (outcome x) (is_so x bytes);
      first = λ t. subst (λ (l : List (Option ℕ)). FirstDiffers p l n) (sym are) (e.differs t (ahead s' rest).cells);
    }
fault_verifies models f s' x read rest p given0 given' compared' e leaves bytes = tt
