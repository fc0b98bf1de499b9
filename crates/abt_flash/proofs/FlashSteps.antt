-- One step: from a part of the image to what is written of it.
use Rattle.std.proofs.Common.{◌≡◌, ℕ, ◌+◌, ◌*◌, ◌<◌, ◌≤◌, Bool, true, false, List, [], ◌++◌, length, take, replicate}
use Rattle.std.proofs.Common.{Option, Some, None, Result, Ok, Err, refl, sym, ap, ◌∙◌, arith, nat_lt, ◌||◌}
use Rattle.std.specs.Prelude.{IsTrue, OnOk}
use Rattle.std.proofs.lemmas.List.{length-map, length-replicate, length-take-le}
use Rattle.std.specs.List.{concat}
use Rattle.abt_io.specs.Moment.{Moment, Past, Keeps, EachSince, moment_of, in_range}
use Rattle.abt_io.proofs.Moments.{keeps_same, keeps_within}
use Rattle.abt_io.proofs.Words.{length_words}
use Rattle.abt_sparse.specs.Block.{over}
use Rattle.abt_sparse.specs.declared.fault.SparseFault.{SparseFault}
use Rattle.abt_sparse.specs.declared.fault.SparseFault.TheVariants as faults
use Rattle.abt_chunks.specs.declared.progress.MachineProgress.{MachineProgress}
use Rattle.abt_chunks.specs.declared.progress.MachineProgress.TheVariants as answers
use Rattle.abt_chunks.specs.declared.walk.Phase.{Phase}
use Rattle.abt_chunks.specs.declared.walk.Phase.TheVariants as phases
use Rattle.abt_chunks.specs.declared.walk.Walk.{Walk}
use Rattle.abt_chunks.specs.declared.walk.Part.{Part}
use Rattle.abt_chunks.specs.declared.walk.Part.TheVariants as parts
use Rattle.abt_chunks.specs.Ahead.{Ahead, before, somes}
use Rattle.abt_chunks.specs.Parts.{SaysUnlessDevice, PartLeaves, Caused, Moved, Within, is_fault, goes_on, given_by}
use Rattle.abt_chunks.specs.Parts.{ahead}
use Rattle.abt_chunks.specs.Places.{place_of, owed}
use Rattle.abt_chunks.specs.ListingAhead.{Closes, MayEnd}
use Rattle.abt_chunks.proofs.Finishing.{owed_at}
use Rattle.abt_flash_faults.specs.declared.fault.FlashFault.{FlashFault}
use Rattle.abt_flash_faults.specs.declared.fault.FlashFault.TheVariants as fails
use Rattle.abt_flash.specs.declared.stage.FlashStage.{FlashStage}
use Rattle.abt_io.specs.declared.device.DeviceFault.{DeviceFault}
use Rattle.abt_io.specs.declared.device.DeviceFault.TheVariants as devices
use Rattle.abt_io.specs.Count.{full_in}
use Rattle.abt_chunks.specs.Cause.{CleanPart, full_in_part}
use Rattle.abt_flash_faults.specs.Fault.{FlashCause, OnUnsynced, PutCause, FlashingRises, UnlessUnwritten}
use Rattle.abt_flash_faults.specs.Fault.{fault_of_sparse}
use Rattle.abt_flash.specs.Laying.{BreaksOff, During, IsFrontLaid, put_by, writes}
use Rattle.abt_chunks.specs.Expanding.{IsGoing}
use Rattle.abt_flash.specs.Stepping.{Goes, Heads, Laid, Leaves, Measures, UnlessFlashing, UnlessFlashingDevice, need_of}
use Rattle.abt_flash.specs.Stepping.{passed, passed_in}
use Rattle.abt_flash.proofs.Cells.{empty_range, nothing_over, unwritten_range, written_nones, written_somes}
use Rattle.abt_flash.proofs.Fronts.{breaks_none, front_none}
use Rattle.abt_flash.proofs.Moments.{during_none, during_within}
use Rattle.abt_chunks.specs.Expanding.{OnMoreExpanding, answer_by, cells_by}
use Rattle.abt_chunks.specs.Places.{from_place, said_by}

-- a part is as long as its cells, and so many bytes of them are written
cells_written : (q : Part) (win : List ℕ) (r m : ℕ) → Moved q r → r ≤ length win → Within q m m
    → said_by (cells_by q win) ≡ put_by q
cells_written (parts.Raw n) win r m moved le within = written_somes (take n win)
    ∙ length-take-le n win (omega (arith, moved.0, le))
cells_written (parts.Words word n) win r m moved le within = written_somes (concat (replicate n word))
    ∙ length_words n word within.2
cells_written (parts.Skip n) win r m moved le within = written_nones (4 * n)
cells_written parts.Nothing win r m moved le within = refl
cells_written parts.End win r m moved le within = refl
cells_written (parts.Fault f) win r m moved le within = refl

length_cells : (q : Part) (win : List ℕ) (r m : ℕ) → Moved q r → r ≤ length win → Within q m m
    → length (cells_by q win) ≡ given_by q
length_cells (parts.Raw n) win r m moved le within = length-map (take n win) (λ x. Some x)
    ∙ length-take-le n win (omega (arith, moved.0, le))
length_cells (parts.Words word n) win r m moved le within = length-map (concat (replicate n word)) (λ x. Some x)
    ∙ length_words n word within.2
length_cells (parts.Skip n) win r m moved le within = length-replicate (4 * n) None
length_cells parts.Nothing win r m moved le within = refl
length_cells parts.End win r m moved le within = refl
length_cells (parts.Fault f) win r m moved le within = refl

-- what its cells don't write is outside the range that is written
outside : (q : Part) (win : List ℕ) (r m at i : ℕ) → Moved q r → r ≤ length win → Within q m m
    → writes (from_place at (cells_by q win)) i ≡ false → in_range at (put_by q) i ≡ false
outside (parts.Raw n) win r m at i moved le within e =
    unwritten_range at (take n win) n i (length-take-le n win (omega (arith, moved.0, le))) e
outside (parts.Words word n) win r m at i moved le within e =
    unwritten_range at (concat (replicate n word)) (4 * n) i (length_words n word within.2) e
outside (parts.Skip n) win r m at i moved le within e = empty_range at i
outside parts.Nothing win r m at i moved le within e = empty_range at i
outside parts.End win r m at i moved le within e = empty_range at i
outside (parts.Fault f) win r m at i moved le within e = empty_range at i

-- what a part says, as cells before what is ahead
as_cells : (q : Part) (s s' : Walk) (c t win : List ℕ) (r : ℕ) → take r win ≡ c → Moved q r → is_fault q ≡ false
    → PartLeaves q s'.phase → SaysUnlessDevice q s s' c t → ahead s (c ++ t) ≡ before (cells_by q win) (ahead s' t)
as_cells (parts.Raw n) s s' c t win r w moved sound leaves told =
    told.1 ∙ ap (λ (x : List ℕ). before (somes x) (ahead s' t)) (sym w ∙ ap (λ (k : ℕ). take k win) (sym moved.0))
as_cells (parts.Words word n) s s' c t win r w moved sound leaves told = told
as_cells (parts.Skip n) s s' c t win r w moved sound leaves told = told
as_cells parts.Nothing s s' c t win r w moved sound leaves told = told
as_cells parts.End s s' c t win r w moved sound leaves told = rw leaves told
as_cells (parts.Fault f) s s' c t win r w moved sound leaves told = absurd (let b : true ≡ false = sound in cc)

owed_now : (s' : Walk) → s'.phase ≡ phases.Body → (ahead s' []).cells ≡ owed s'
owed_now s' e = owed_at s'.phase s' (rw e tt)

owed_done : (s' : Walk) → s'.phase ≡ phases.Done → (ahead s' []).cells ≡ owed s'
owed_done s' e = owed_at s'.phase s' (rw e tt)

unless_fault : (f : FlashFault) (P : Type 0) → P → UnlessFlashingDevice f P
unless_fault (fails.Read d) P h = tt
unless_fault (fails.Write d) P h = tt
unless_fault f P h = h

pub unless_all : {X : Type 0} (r : Result X FlashFault) (P : Type 0) → P → UnlessFlashing r P
unless_all (Ok x) P h = h
unless_all (Err f) P h = unless_fault f P h

-- ---- what a step writes

module _ (models : Bool) (stage : FlashStage) (s s' : Walk) (c rest win : List ℕ) (past past' : Past) (p p' : List ℕ)
    (taken taken' r m : ℕ) (in_window : take r win ≡ c) (long : r ≤ length win)
    (short : (i : ℕ) → i < length c → length (ahead s (take i c)).cells ≤ i) where
  abbrev First : Moment
  First = moment_of past p

  abbrev Last : Moment
  Last = moment_of past' p'

  abbrev Keeps_put : Part → Type 0
  Keeps_put q = IsTrue models → Keeps (in_range (place_of s) (put_by q)) First Last

  abbrev Moments_put : Part → Type 0
  Moments_put q = IsTrue models
      → EachSince past.moments past'.moments (During (in_range (place_of s) (put_by q)) First Last)

  abbrev Torn_put : Part → Type 0
  Torn_put q = IsTrue models → IsFrontLaid 65536 (place_of s) (cells_by q win) p p'

  abbrev Content_put : Part → Type 0
  Content_put q = IsTrue models → p' ≡ over p (from_place (place_of s) (cells_by q win))

  goes_laid : (q : Part) (a : MachineProgress) → Moved q r → Within q m m
      → ((t : List ℕ) → ahead s (c ++ t) ≡ before (cells_by q win) (ahead s' t))
      → OnMoreExpanding {E = FlashFault} (Ok a) (place_of s' ≡ place_of s + length (cells_by q win))
      → ((ahead s' []).cells ≡ owed s') → taken' ≡ taken + put_by q → Content_put q → Keeps_put q → Moments_put q
      → Laid models stage (Ok a) s s' c rest past past' p p' taken taken'
  goes_laid q a moved within told placed fine put content kept moments = record {
    cells = cells_by q win;
    more = λ t. (ahead s' t).cells;
    front = λ t. ap (λ (x : Ahead). x.cells) (told t);
    told = λ t e. told t;
    moved = placed;
    counted = put ∙ ap (λ (n : ℕ). taken + n) (sym (cells_written q win r m moved long within));
    content = content;
    broken = λ t. tt;
    kept = λ t. keeps_within _ _ First Last (λ i. outside q win r m (place_of s) i moved long within) (kept t);
    moments = λ t. during_within _ _ First Last past.moments past'.moments
        (λ i. outside q win r m (place_of s) i moved long within) (moments t);
    short = short;
    held = λ goes. fine;
  }

  fault_laid : (f : SparseFault) → ((t : List ℕ) → t ≡ rest → SaysUnlessDevice (parts.Fault f) s s' c t)
      → s'.phase ≡ phases.Failed f → taken' ≡ taken + 0 → Content_put (parts.Fault f) → Keeps_put (parts.Fault f)
      → Moments_put (parts.Fault f)
      → Laid models stage (Err (fault_of_sparse f)) s s' c rest past past' p p' taken taken'
  fault_laid (faults.Read d) says leaves put content kept moments = record {
    cells = [];
    more = λ t. (ahead s (c ++ t)).cells;
    front = λ t. refl;
    told = λ t e. tt;
    moved = tt;
    counted = tt;
    content = λ t. tt;
    broken = λ t. front_none 0 (place_of s) [] p p' (content t ∙ nothing_over p (place_of s));
    kept = λ t. keeps_within _ _ First Last (λ i e. empty_range (place_of s) i) (kept t);
    moments = λ t. during_within _ _ First Last past.moments past'.moments (λ i e. empty_range (place_of s) i)
        (moments t);
    short = short;
    held = λ goes. tt;
  }
  fault_laid (faults.Write d) says leaves put content kept moments = record {
    cells = [];
    more = λ t. (ahead s (c ++ t)).cells;
    front = λ t. refl;
    told = λ t e. tt;
    moved = tt;
    counted = tt;
    content = λ t. tt;
    broken = λ t. front_none 65536 (place_of s) [] p p' (content t ∙ nothing_over p (place_of s));
    kept = λ t. keeps_within _ _ First Last (λ i e. empty_range (place_of s) i) (kept t);
    moments = λ t. during_within _ _ First Last past.moments past'.moments (λ i e. empty_range (place_of s) i)
        (moments t);
    short = short;
    held = λ goes. tt;
  }
  fault_laid f says leaves put content kept moments = record {
    cells = [];
    more = λ t. (ahead s (c ++ t)).cells;
    front = λ t. refl;
    told = λ t e. rw (says t (e refl), leaves) refl;
    moved = tt;
    counted = put;
    content = content;
    broken = λ t. tt;
    kept = λ t. keeps_within _ _ First Last (λ i e. empty_range (place_of s) i) (kept t);
    moments = λ t. during_within _ _ First Last past.moments past'.moments (λ i e. empty_range (place_of s) i)
        (moments t);
    short = short;
    held = λ goes. tt;
  }

  pub laid_part : (q : Part) → Moved q r → Within q m m → PartLeaves q s'.phase
      → ((t : List ℕ) → (is_fault q ≡ true → t ≡ rest) → SaysUnlessDevice q s s' c t)
      → (IsTrue (goes_on q) → place_of s' ≡ place_of s + given_by q)
      → taken' ≡ taken + put_by q → Content_put q → Keeps_put q → Moments_put q
      → Laid models stage (answer_by fault_of_sparse q) s s' c rest past past' p p' taken taken'
  laid_part (parts.Raw n) moved within leaves says placed put content kept moments =
      goes_laid (parts.Raw n) answers.More moved within
      (λ t. as_cells (parts.Raw n) s s' c t win r in_window moved refl leaves (says t (λ e. absurd cc)))
      (placed refl ∙ ap (λ (k : ℕ). place_of s + k) (sym (length_cells (parts.Raw n) win r m moved long within)))
      (owed_now s' leaves) put content kept moments
  laid_part (parts.Words word n) moved within leaves says placed put content kept moments =
      goes_laid (parts.Words word n) answers.More moved within
      (λ t. as_cells (parts.Words word n) s s' c t win r in_window moved refl leaves (says t (λ e. absurd cc)))
      (placed refl ∙ ap (λ (k : ℕ). place_of s + k)
      (sym (length_cells (parts.Words word n) win r m moved long within)))
      (owed_now s' leaves) put content kept moments
  laid_part (parts.Skip n) moved within leaves says placed put content kept moments =
      goes_laid (parts.Skip n) answers.More moved within
      (λ t. as_cells (parts.Skip n) s s' c t win r in_window moved refl leaves (says t (λ e. absurd cc)))
      (placed refl ∙ ap (λ (k : ℕ). place_of s + k) (sym (length_cells (parts.Skip n) win r m moved long within)))
      (owed_now s' leaves) put content kept moments
  laid_part parts.Nothing moved within leaves says placed put content kept moments =
      goes_laid parts.Nothing answers.More moved within
      (λ t. as_cells parts.Nothing s s' c t win r in_window moved refl leaves (says t (λ e. absurd cc)))
      (placed refl) (owed_now s' leaves) put content kept moments
  laid_part parts.End moved within leaves says placed put content kept moments =
      goes_laid parts.End answers.Done moved within
      (λ t. as_cells parts.End s s' c t win r in_window moved refl leaves (says t (λ e. absurd cc)))
      tt (owed_done s' leaves) put content kept moments
  laid_part (parts.Fault f) moved within leaves says placed put content kept moments =
      fault_laid f (λ t e. says t (λ z. e)) leaves put content kept moments

  -- where the partition was not written, what the part gives may be touched, and no more
  unwritten_front : (q : Part) (d : DeviceFault) (cs : List (Option ℕ)) (more : List ℕ → List (Option ℕ))
      → ((t : List ℕ) → (ahead s (c ++ t)).cells ≡ cs ++ more t)
      → ((i : ℕ) → writes (from_place (place_of s) cs) i ≡ false → in_range (place_of s) (put_by q) i ≡ false)
      → (IsTrue models → IsFrontLaid 65536 (place_of s) cs p p') → Keeps_put q → Moments_put q
      → Laid models stage (Err (fails.Write d)) s s' c rest past past' p p' taken taken'
  unwritten_front q d cs more front out torn kept moments = record {
    cells = cs;
    more = more;
    front = front;
    told = λ t e. tt;
    moved = tt;
    counted = tt;
    content = λ t. tt;
    broken = torn;
    kept = λ t. keeps_within _ _ First Last out (kept t);
    moments = λ t. during_within _ _ First Last past.moments past'.moments out (moments t);
    short = short;
    held = λ goes. tt;
  }

  unwritten_part : (q : Part) (d : DeviceFault) → Moved q r → Within q m m → is_fault q ≡ false
      → PartLeaves q s'.phase → ((t : List ℕ) → (is_fault q ≡ true → t ≡ rest) → SaysUnlessDevice q s s' c t)
      → Torn_put q → Keeps_put q → Moments_put q
      → Laid models stage (Err (fails.Write d)) s s' c rest past past' p p' taken taken'
  unwritten_part q d moved within sound leaves says torn kept moments =
      unwritten_front q d (cells_by q win) (λ t. (ahead s' t).cells)
      (λ t. ap (λ (x : Ahead). x.cells) (as_cells q s s' c t win r in_window moved sound leaves
      (says t (λ e. absurd (let b : true ≡ false = sym e ∙ sound in cc)))))
      (λ i. outside q win r m (place_of s) i moved long within) torn kept moments

  unwritten_laid : (q : Part) (d : DeviceFault) → Moved q r → Within q m m → PartLeaves q s'.phase
      → ((t : List ℕ) → (is_fault q ≡ true → t ≡ rest) → SaysUnlessDevice q s s' c t)
      → Torn_put q → Keeps_put q → Moments_put q
      → Laid models stage (Err (fails.Write d)) s s' c rest past past' p p' taken taken'
  unwritten_laid (parts.Fault g) d moved within leaves says torn kept moments =
      unwritten_front (parts.Fault g) d [] (λ t. (ahead s (c ++ t)).cells) (λ t. refl)
      (λ i e. empty_range (place_of s) i) torn kept moments
  unwritten_laid q d moved within leaves says torn kept moments =
      unwritten_part q d moved within refl leaves says torn kept moments

  -- where it was not synced, all is written
  unsynced_laid : (d : DeviceFault) → Moved parts.End r → s'.phase ≡ phases.Done
      → ((t : List ℕ) → (is_fault parts.End ≡ true → t ≡ rest) → SaysUnlessDevice parts.End s s' c t)
      → taken' ≡ taken + put_by parts.End
      → Content_put parts.End → Keeps_put parts.End → Moments_put parts.End
      → Laid models stage (Err (fails.Sync d)) s s' c rest past past' p p' taken taken'
  unsynced_laid d moved leaves says put content kept moments = record {
    cells = [];
    more = λ t. (ahead s' t).cells;
    front = λ t. ap (λ (x : Ahead). x.cells) (as_cells parts.End s s' c t win r in_window moved refl leaves
        (says t (λ e. absurd cc)));
    told = λ t e. as_cells parts.End s s' c t win r in_window moved refl leaves (says t (λ z. absurd cc));
    moved = tt;
    counted = put;
    content = content;
    broken = λ t. tt;
    kept = λ t. keeps_within _ _ First Last (λ i e. empty_range (place_of s) i) (kept t);
    moments = λ t. during_within _ _ First Last past.moments past'.moments (λ i e. empty_range (place_of s) i)
        (moments t);
    short = short;
    held = λ goes. tt;
  }

  pub refused_laid : (q : Part) (f : FlashFault) (n n' : ℕ) → Moved q r → Within q m m → PartLeaves q s'.phase
      → ((t : List ℕ) → (is_fault q ≡ true → t ≡ rest) → SaysUnlessDevice q s s' c t)
      → PutCause {X = Unit {0}} (Err f) n n' → OnUnsynced {X = Unit {0}} (Err f) (q ≡ parts.End)
      → UnlessUnwritten {X = Unit {0}} (Err f) (taken' ≡ taken + put_by q)
      → (IsTrue models → UnlessUnwritten {X = Unit {0}} (Err f)
      (p' ≡ over p (from_place (place_of s) (cells_by q win))))
      → (IsTrue models → BreaksOff {X = Unit {0}} (Err f) (place_of s) (cells_by q win) p p') → Keeps_put q
      → Moments_put q
      → Laid models stage (Err f) s s' c rest past past' p p' taken taken'
  refused_laid q (fails.Write d) n n' moved within leaves says cause is put content torn kept moments =
      unwritten_laid q d moved within leaves says torn kept moments
  refused_laid q (fails.Sync d) n n' moved within leaves says cause is put content torn kept moments =
      unsynced_laid d (rw is at moved) (rw is at leaves) (rw is at says) (rw is at put) (rw is at content)
      (rw is at kept) (rw is at moments)
  refused_laid q f n n' moved within leaves says cause is put content torn kept moments = absurd cause

-- where the partition refuses, the phase that this leaves the walk in, and what is known of the header
pub refused_leaves : (q : Part) (f : FlashFault) (ph : Phase) (n n' : ℕ) → PutCause {X = Unit {0}} (Err f) n n'
    → OnUnsynced {X = Unit {0}} (Err f) (q ≡ parts.End) → PartLeaves q ph → Leaves (Err f) ph
refused_leaves q (fails.Write d) ph n n' cause is leaves = tt
refused_leaves q (fails.Sync d) ph n n' cause is leaves = rw is at leaves
refused_leaves q f ph n n' cause is leaves = absurd cause

pub refused_heads : (q : Part) (f : FlashFault) (s s' : Walk) (x y : List ℕ) (n n' : ℕ)
    → PutCause {X = Unit {0}} (Err f) n n' → OnUnsynced {X = Unit {0}} (Err f) (q ≡ parts.End)
    → Heads (answer_by fault_of_sparse q) s s' x y → Heads (Err f) s s' x y
refused_heads q (fails.Write d) s s' x y n n' cause is h = tt
refused_heads q (fails.Sync d) s s' x y n n' cause is h = rw is at h
refused_heads q f s s' x y n n' cause is h = absurd cause

or_true : (b : Bool) → (b || true) ≡ true
or_true true = refl
or_true false = refl

may_end : (ph : Phase) (s : Walk) → IsGoing ph → MayEnd ph s → passed_in ph s ≡ true
may_end phases.Header s going h = absurd h
may_end phases.Body s going h = ap (λ (b : Bool). nat_lt 0 s.index || b) h ∙ or_true (nat_lt 0 s.index)
may_end phases.Done s going h = absurd going
may_end (phases.Failed f) s going h = absurd h

pub refused_measures : (q : Part) (f : FlashFault) (s : Walk) (size n n' : ℕ) → PutCause {X = Unit {0}} (Err f) n n'
    → OnUnsynced {X = Unit {0}} (Err f) (q ≡ parts.End) → IsGoing s.phase → Closes q s.phase s
    → (passed s ≡ true → need_of s ≤ size) → Measures (Err f) s size
refused_measures q (fails.Write d) s size n n' cause is going closes all = all
refused_measures q (fails.Sync d) s size n n' cause is going closes all = let p =
    may_end s.phase s going (rw is at closes) in (p, all p)
refused_measures q f s size n n' cause is going closes all = absurd cause

-- ---- who failed

failed_only : (d : DeviceFault) → full_in d ≡ 0 → d ≡ devices.Failed
failed_only devices.Failed h = refl
failed_only devices.Full h = absurd (omega (arith, h))

read_caused : (d : DeviceFault) (ph : Phase) (r r' : ℕ) → IsGoing ph → Caused (parts.Fault (faults.Read d)) ph r r'
    → r < r'
read_caused d phases.Header r r' going h = h
read_caused d phases.Body r r' going h = h
read_caused d phases.Done r r' going h = absurd going
read_caused d (phases.Failed f) r r' going h = absurd going

write_caused : (d : DeviceFault) (ph : Phase) (r r' : ℕ) → IsGoing ph → Caused (parts.Fault (faults.Write d)) ph r r'
    → ⊥
write_caused d phases.Header r r' going h = h
write_caused d phases.Body r r' going h = h
write_caused d phases.Done r r' going h = going
write_caused d (phases.Failed f) r r' going h = going

pub answer_cause : (q : Part) (ph : Phase) (r r' p p' : ℕ) → IsGoing ph → Caused q ph r r' → CleanPart q r r'
    → full_in_part q ≡ 0 → p' ≡ p → FlashingRises (answer_by fault_of_sparse q) r r' p p'
answer_cause (parts.Raw n) ph r r' p p' going h clean full put = (clean, put)
answer_cause (parts.Words word n) ph r r' p p' going h clean full put = (clean, put)
answer_cause (parts.Skip n) ph r r' p p' going h clean full put = (clean, put)
answer_cause parts.Nothing ph r r' p p' going h clean full put = (clean, put)
answer_cause parts.End ph r r' p p' going h clean full put = (clean, put)
answer_cause (parts.Fault (faults.Read d)) ph r r' p p' going h clean full put =
    (read_caused d ph r r' going h, failed_only d full, put)
answer_cause (parts.Fault (faults.Write d)) ph r r' p p' going h clean full put =
    absurd (write_caused d ph r r' going h)
answer_cause (parts.Fault f) ph r r' p p' going h clean full put = (tt, clean, put)

sound_clean : (q : Part) (r r' : ℕ) → is_fault q ≡ false → CleanPart q r r' → r' ≡ r
sound_clean (parts.Raw n) r r' sound h = h
sound_clean (parts.Words word n) r r' sound h = h
sound_clean (parts.Skip n) r r' sound h = h
sound_clean parts.Nothing r r' sound h = h
sound_clean parts.End r r' sound h = h
sound_clean (parts.Fault f) r r' sound h = absurd (let b : true ≡ false = sound in cc)

pub refused_cause : (q : Part) (f : FlashFault) (r r' p p' : ℕ) → PutCause {X = Unit {0}} (Err f) p p'
    → is_fault q ≡ false → CleanPart q r r' → FlashCause f r r' p p'
refused_cause q (fails.Write d) r r' p p' cause sound clean = (cause.0, cause.1, sound_clean q r r' sound clean)
refused_cause q (fails.Sync d) r r' p p' cause sound clean = (cause.0, cause.1, sound_clean q r r' sound clean)
refused_cause q f r r' p p' cause sound clean = absurd cause

-- a step in which nothing happens
pub nothing_laid : (models : Bool) (stage : FlashStage) (r : Result MachineProgress FlashFault) (s s' : Walk)
    (c rest : List ℕ) (past : Past) (p : List ℕ) (taken : ℕ) → c ≡ [] → s' ≡ s
    → (Goes stage s.phase → OnOk r ((ahead s []).cells ≡ owed s')) → OnMoreExpanding r (place_of s' ≡ place_of s + 0)
    → Laid models stage r s s' c rest past past p p taken taken
nothing_laid models stage r s s' c rest past p taken none same held moved = record {
  cells = [];
  more = λ t. (ahead s t).cells;
  front = λ t. rw none refl;
  told = λ t e. unless_all r _ (rw (none, same) refl);
  moved = moved;
  counted = unless_all r _ (omega arith);
  content = λ t. unless_all r _ (sym (nothing_over p (place_of s)));
  broken = λ t. breaks_none r (place_of s) [] p p refl;
  kept = λ t. keeps_same _ (moment_of past p);
  moments = λ t. during_none _ _ _ past.moments;
  short = λ i less. absurd (omega (arith, less, ap length none));
  held = held;
}
