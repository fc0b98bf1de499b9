-- What opening, writing and closing leave together.
use Rattle.std.proofs.Common.{inl, inr, arith, ◌⊎◌, ◌≡◌, ◌≤◌, ℕ, suc, ◌+◌, ◌*◌, ◌<◌, List, [], ◌∷◌, ◌++◌, length}
use Rattle.std.proofs.Common.{replicate, map, Option, Some, None, refl, sym, ◌∙◌, ap, subst}
use Rattle.std.specs.Prelude.{Contains, if◌then◌else◌, nat_lt, Result, Err, OnOk}
use Rattle.std.specs.List.{AllByRecursion}
use Rattle.std.proofs.lemmas.Bool.{lt-ltb}
use Rattle.std.proofs.lemmas.List.{length-map, length-replicate}
use Rattle.abt_io.specs.Moment.{Past, past_of_file}
use Rattle.abt_sparse.specs.Pieces.{flashed_in_turn}
use Rattle.abt_chunks.specs.declared.progress.Expanded.{Expanded}
use Rattle.abt_runs.specs.declared.part.RunFault.TheVariants as of_runs
use Rattle.abt_flash.specs.Flashing.{Holds}
use Rattle.abt_flash_faults.specs.declared.fault.FlashFault.TheVariants as flashes
use Rattle.sys_disk.specs.InPlace.{MakesPlace, closed_part, is_settled, is_settled_in}
use Rattle.sys_disk.specs.World.{World, OpenFiles, Spares, Ends, OnlyAt, in_output, KeepsFile, HasFailed, HasNotFailed}
use Rattle.sys_disk.specs.World.{SparesInUse, counting}
use Rattle.sys_disk.specs.Counts.{Cause, call, call_of, calls, Counts, HasNone, of_writing, reading, writes, writing}
use Rattle.sys_disk.proofs.Failings.{counts_one}
use Rattle.sys_refusals.specs.declared.refusal.HostFault.{HostFault}
use Rattle.sys_refusals.specs.declared.refusal.HostFault.TheVariants as hosts
use Rattle.sys_disk.proofs.Worlds.{spared_if_may, spares_trans}
use Rattle.cmd_common_sparse.specs.declared.fault.SparseCommandFault.{SparseCommandFault}
use Rattle.cmd_common_sparse.specs.declared.fault.SparseCommandFault.TheVariants as faults
use Rattle.cmd_common_sparse.specs.declared.lines.Line.TheVariants as lines
use Rattle.cmd_common_sparse.specs.Lines.{line_text}
use Rattle.cmd_expand.specs.declared.open_images.Shape.{Shape}
use Rattle.cmd_expand.specs.Expanding.{FromCall}
use Rattle.cmd_expand.proofs.Files.{failed_first, no_writing}
use Rattle.cmd_expand.specs.Overlaying.{AreImages, AreInTurn, IsImageOf, LeavesOverlaid, OverlaysFiles}
use Rattle.cmd_expand.specs.Overlaying.{OverlaysInPart, RefusesOverlay, once_if_any}
use Rattle.cmd_expand.specs.Steps.{AreOpened, BreaksAmong, FailsAlone, IsNotAllOpened, IsNotLaid, IsShapeOf}
use Rattle.cmd_expand.specs.Steps.{whole_of_shape}
use Rattle.cmd_expand.proofs.Lists.{as_many, each_read, fewer_read, keeps_read, not_among}

-- ---- counts of what has failed

-- all was opened, zeros were made, images were written, and the output is closed; this much has failed before and since
pub record CountsInAll (h h2 h3 h4 : OpenFiles) (m : ℕ) (u : Counts) : Type 0 where
  pub before : (cause : Cause) → h2.counts.failed cause ≡ h.counts.failed cause
  pub since : (cause : Cause) → h4.counts.failed cause
      ≡ h3.counts.failed cause + of_writing m cause + u.failed cause

pub counts_in_all : (a a1 b : World) (inputs xs : List (List ℕ)) (output : List ℕ) (m : ℕ) (u : Counts) (past : Past)
    (h h1 h2 h3 h4 : OpenFiles) → AreOpened a inputs xs h h1 → MakesPlace output h1 h2 a1 b
    → h4 ≡ counting u (closed_part past (writes m) h3) → CountsInAll h h2 h3 h4 m u
counts_in_all a a1 b inputs xs output m u past h h1 h2 h3 h4 all made closed = record {
  before = λ cause. ap (λ (k : OpenFiles). k.counts.failed cause) made.begins
      ∙ ap (λ (k : OpenFiles). k.counts.failed cause) all.taken;
  since = λ cause. ap (λ (k : OpenFiles). k.counts.failed cause) closed;
}

pub failed_zeros : (a : World) (inputs xs : List (List ℕ)) (f : HostFault) (h h1 k : OpenFiles)
    → AreOpened a inputs xs h h1 → k ≡ counting (call_of f) h1 → HasFailed (call f) h k
failed_zeros a inputs xs f h h1 k all refused =
    let first : h1.counts.failed (call f) ≡ h.counts.failed (call f)
    = ap (λ (q : OpenFiles). q.counts.failed (call f)) all.taken in
    let up : h1.counts.failed (call f) < k.counts.failed (call f) = failed_first f h1 k refused in
    omega (arith, first, up)

-- a read failed
pub failed_reading : (h h2 h3 h4 : OpenFiles) (m : ℕ) (u : Counts) → CountsInAll h h2 h3 h4 m u
    → h2.counts.failed reading < h3.counts.failed reading → HasFailed reading h h4
failed_reading h h2 h3 h4 m u counts rose =
    let before : h2.counts.failed reading ≡ h.counts.failed reading = counts.before reading in
    let since : h4.counts.failed reading ≡ h3.counts.failed reading + 0 + u.failed reading = counts.since reading in
    omega (arith, before, since, rose)

-- a write or a sync did
pub failed_writing : (h h2 h3 h4 : OpenFiles) (p p' : ℕ) (u : Counts) → CountsInAll h h2 h3 h4 p' u → p ≡ 0
    → h2.counts.failed writing + p < h3.counts.failed writing + p' → HasFailed writing h h4
failed_writing h h2 h3 h4 p p' u counts none rose =
    let before : h2.counts.failed writing ≡ h.counts.failed writing = counts.before writing in
    let since : h4.counts.failed writing ≡ h3.counts.failed writing + p' + u.failed writing = counts.since writing in
    omega (arith, before, since, none, rose)

-- closing failed
pub failed_closing : (f : HostFault) (h h2 h3 h4 : OpenFiles) (m : ℕ) → CountsInAll h h2 h3 h4 m (call_of f)
    → FailsAlone h2 h3 → HasFailed (call f) h h4
failed_closing f h h2 h3 h4 m counts alone =
    let before : h2.counts.failed (call f) ≡ h.counts.failed (call f) = counts.before (call f) in
    let since : h4.counts.failed (call f) ≡ h3.counts.failed (call f) + 0 + calls f (call f)
    = counts.since (call f) in
    let grown : h2.counts.failed (call f) ≤ h3.counts.failed (call f) = alone.grown (call f) in
    let one = counts_one f in
    omega (arith, before, since, grown, one)

-- nothing has failed
pub clean_closing : (h h2 h3 h4 : OpenFiles) (p p' : ℕ) (u : Counts) → CountsInAll h h2 h3 h4 p' u → p ≡ 0
    → HasNotFailed h2 h3 → p' ≡ p → HasNone u → HasNotFailed h h4
clean_closing h h2 h3 h4 p p' u counts none clean same zero cause =
    let before : h2.counts.failed cause ≡ h.counts.failed cause = counts.before cause in
    let since : h4.counts.failed cause ≡ h3.counts.failed cause + of_writing p' cause + u.failed cause
    = counts.since cause in
    let even : h3.counts.failed cause ≡ h2.counts.failed cause = clean cause in
    let late : u.failed cause ≡ 0 = zero cause in
    let written : of_writing p' cause ≡ 0 = ap (λ n. of_writing n cause) (same ∙ none) ∙ no_writing cause in
    omega (arith, before, since, even, late, written)

-- ---- what the output holds

spared : (a a1 b b' c : World) (output y : List ℕ) (h1 h2 h3 : OpenFiles) (made : MakesPlace output h1 h2 a1 b)
    → a1 ≡ a → b' ≡ b → FailsAlone h2 h3 → Ends h3.part y b' c → (c.holds made.file ≡ y) × Spares made.file a c
spared a a1 b b' c output y h1 h2 h3 made same same' alone ends =
    let part : h3.part ≡ Some made.file = ap (λ k. k.part) alone.same ∙ ap (λ k. k.part) made.begins in
    let end : (c.holds made.file ≡ y) × Spares made.file b c
    = subst (λ w. Ends (Some made.file) y w c) same' (subst (λ p. Ends p y b' c) part ends) in
    (end.0, spares_trans made.file a b c (subst (λ w. Spares made.file w b) same made.spares) end.1)

-- how long the zeros are
pub zeros_long : (z : List ℕ) (size n m : ℕ) → size ≡ length z → z ≡ replicate n 0 → n ≡ m → size ≡ m
zeros_long z size n m is zeros same = is ∙ ap length zeros ∙ length-replicate n 0 ∙ same

-- its position
pub lands : (a a1 b b' c : World) (output y : List ℕ) (h1 h2 h3 : OpenFiles) → MakesPlace output h1 h2 a1 b
    → a1 ≡ a → b' ≡ b → FailsAlone h2 h3 → Ends h3.part y b' c → c.at ≡ b'.at → OnlyAt h1.read output a c
lands a a1 b b' c output y h1 h2 h3 made same same' alone ends paths =
    in_output made.file (ap (λ g. g output) paths ∙ ap (λ w. w.at output) same' ∙ made.there) made.free
    (spared a a1 b b' c output y h1 h2 h3 made same same' alone ends).1

-- the images' blocks, and how many bytes they take
pub record Sized (e : Expanded) (inputs xs : List (List ℕ)) : Type 0 where
  pub number : ℕ
  pub size : ℕ
  pub all : AllByRecursion (IsImageOf number size) xs
  pub none : inputs ≡ [] → number ≡ 0
  pub counted : e.blocks ≡ number
  pub long : e.bytes ≡ number * size

as_long_as : (a : World) (inputs xs : List (List ℕ)) (h h1 : OpenFiles) → AreOpened a inputs xs h h1
    → length xs ≡ length inputs
as_long_as a inputs xs h h1 all =
    ap length all.bytes ∙ length-map all.files a.holds ∙ as_many a inputs all.files all.there

pub sized : (shape : Option Shape) (e : Expanded) (a : World) (inputs xs : List (List ℕ)) (h h1 : OpenFiles)
    → e ≡ whole_of_shape shape → AreOpened a inputs xs h h1 → IsShapeOf shape xs → Sized e inputs xs
sized None e a inputs xs h h1 whole all is = record {
  number = 0;
  size = 0;
  all = subst (λ l. AllByRecursion (IsImageOf 0 0) l) (sym is) tt;
  none = λ _. refl;
  counted = ap (λ w. w.blocks) whole;
  long = ap (λ w. w.bytes) whole;
}
sized (Some s) e a inputs xs h h1 whole all is = record {
  number = s.blocks;
  size = s.block;
  all = is.1;
  none = λ empty.
      let long : length xs ≡ length inputs = as_long_as a inputs xs h h1 all in
      let zero_long : length inputs ≡ 0 = ap length empty in
      absurd (omega (arith, long, zero_long, is.0));
  counted = ap (λ w. w.blocks) whole;
  long = ap (λ w. w.bytes) whole;
}

pub overlays : (shape : Option Shape) (e : Expanded) (a a1 b b' c : World) (inputs xs : List (List ℕ))
    (output y z : List ℕ) (h h1 h2 h3 : OpenFiles) (shows : List ℕ → Type 0) → e ≡ whole_of_shape shape
    → AreOpened a inputs xs h h1 → IsShapeOf shape xs → AreInTurn inputs a
    → MakesPlace output h1 h2 a1 b → a1 ≡ a → z ≡ replicate e.bytes 0
    → y ≡ flashed_in_turn z xs → b' ≡ b → FailsAlone h2 h3 → Ends h3.part y b' c → c.at ≡ b'.at
    → shows (line_text (lines.Expanded e.blocks e.bytes) ++ (10 ∷ []))
    → OverlaysFiles inputs output a c shows
overlays shape e a a1 b b' c inputs xs output y z h h1 h2 h3 shows whole all is turn made same zeros laid same' alone
    ends paths shown =
    let s = sized shape e a inputs xs h h1 whole all is in
    let end = spared a a1 b b' c output y h1 h2 h3 made same same' alone ends in
    record {
      blocks = s.number;
      size = s.size;
      ins = record {
        files = all.files;
        there = all.there;
        images = subst (λ l. AllByRecursion (IsImageOf s.number s.size) l) all.bytes s.all;
      };
      turn = turn;
      onto = made.file;
      here = ap (λ g. g output) paths ∙ ap (λ w. w.at output) same' ∙ made.there;
      apart = not_among h.read all.files made.file
          (subst (λ k. ¬ Contains k.read made.file) all.taken made.free);
      none = s.none;
      holds = end.0 ∙ laid ∙ ap (λ p. flashed_in_turn p xs) (zeros ∙ ap (λ n. replicate n 0) s.long)
          ∙ ap (flashed_in_turn (replicate (s.number * s.size) 0)) all.bytes;
      spares = end.1;
      shown = subst (λ n. shows (line_text (lines.Expanded s.number n) ++ (10 ∷ []))) s.long
          (subst (λ n. shows (line_text (lines.Expanded n e.bytes) ++ (10 ∷ []))) s.counted shown);
    }

-- ---- what others hold

others_read : (a a1 c : World) (inputs xs : List (List ℕ)) (output : List ℕ) (h h1 : OpenFiles)
    → AreOpened a inputs xs h h1
    → a1 ≡ a → OnlyAt h1.read output a1 c → OnlyAt h.read output a c
others_read a a1 c inputs xs output h h1 all same only =
    fewer_read h.read all.files output a c (subst (λ k. OnlyAt k.read output a c) all.taken
    (subst (λ w. OnlyAt h1.read output w c) same only))

ins_kept : (a a1 c : World) (inputs xs : List (List ℕ)) (output : List ℕ) (h h1 : OpenFiles)
    → AreOpened a inputs xs h h1
    → a1 ≡ a → OnlyAt h1.read output a1 c → AllByRecursion (λ path. KeepsFile path a c) inputs
ins_kept a a1 c inputs xs output h h1 all same only =
    keeps_read h1.read output inputs all.files a c all.there
    (subst (λ k. AllByRecursion (λ f. Contains k.read f) all.files) (sym all.taken) (each_read h.read all.files))
    (subst (λ w. OnlyAt h1.read output w c) same only)

-- a path at which a file was made may be written
pub spared_made : (path : List ℕ) (h h' : OpenFiles) (a b u v : World) → MakesPlace path h h' a b
    → SparesInUse path h u v
spared_made path h h' a b u v made = spared_if_may path h u v made.allowed

pub leaves_overlaid : {X F : Type 0} (r : Result X F) (a a1 c : World) (inputs xs : List (List ℕ)) (output : List ℕ)
    (h h1 k : OpenFiles) → AreOpened a inputs xs h h1 → a1 ≡ a → OnlyAt h1.read output a1 c
    → SparesInUse output h1 a1 c → k.part ≡ None → OnOk r (HasNotFailed h k) → LeavesOverlaid r inputs output h k a c
leaves_overlaid r a a1 c inputs xs output h h1 k all same only guarded closed clean = record {
  others = others_read a a1 c inputs xs output h h1 all same only;
  in_use = λ used refused. subst (λ k. SparesInUse output k a1 c) all.taken guarded used refused ∙ same;
  inputs = ins_kept a a1 c inputs xs output h h1 all same only;
  closed = closed;
  clean = clean;
}

-- ---- syncs

once : {X : Type 0} (xs : List X) → (if nat_lt 0 (length xs) then 1 else 0) ≡ once_if_any xs
once [] = refl
once (x ∷ xs) =
    let more : 0 < suc (length xs) = omega arith in
    ap (λ b. if b then 1 else 0) (lt-ltb 0 (suc (length xs)) more)

pub synced : {file : ℕ} (a a1 b : World) (inputs xs : List (List ℕ)) (output : List ℕ) (k : ℕ) (m u : Counts)
    (past past' : Past) (h h1 h2 h3 h4 : OpenFiles) → AreOpened a inputs xs h h1 → MakesPlace output h1 h2 a1 b
    → FailsAlone h2 h3 → h4 ≡ counting u (closed_part past' m h3) → past ≡ past_of_file file → past'.pending ≡ []
    → past'.synced ≡ past.synced + k → length xs ≡ k → h4.syncs ≡ h.syncs + once_if_any inputs
synced a a1 b inputs xs output k m u past past' h h1 h2 h3 h4 all made alone closed fresh empty counted items =
    let none : past.synced ≡ 0 = ap (λ q. q.synced) fresh in
    let long : length xs ≡ length inputs = as_long_as a inputs xs h h1 all in
    let many : past'.synced ≡ length inputs
    = omega (arith, counted, none, items, long) in
    let settled : is_settled past' ≡ nat_lt 0 (length inputs)
    = ap (λ l. is_settled_in l past'.synced) empty ∙ ap (is_settled_in []) many in
    ap (λ k. k.syncs) closed ∙ ap (λ k. k.syncs + (if is_settled past' then 1 else 0)) alone.same
    ∙ ap (λ k. k.syncs + (if is_settled past' then 1 else 0)) made.begins
    ∙ ap (λ k. k.syncs + (if is_settled past' then 1 else 0)) all.taken
    ∙ ap (λ t. h.syncs + (if t then 1 else 0)) settled ∙ ap (λ n. h.syncs + n) (once inputs)

-- ---- why it fails

pub from_opening : (untold : List ℕ → Type 0) (f : SparseCommandFault) (inputs : List (List ℕ)) (output : List ℕ)
    (a c : World) (h k : OpenFiles)
    → IsNotAllOpened f inputs a h k → RefusesOverlay f inputs output a c h k untold
from_opening untold (faults.Run (of_runs.Sparse f)) inputs output a c h k why = why
from_opening untold (faults.Run (of_runs.Read d)) inputs output a c h k why = why
from_opening untold (faults.Run of_runs.TooLarge) inputs output a c h k why = absurd why
from_opening untold (faults.Run of_runs.SourceChanged) inputs output a c h k why = absurd why
from_opening untold (faults.Run (of_runs.BadBlock n)) inputs output a c h k why = absurd why
from_opening untold (faults.OtherBlocks n) inputs output a c h k why = why
from_opening untold (faults.OtherCut n) inputs output a c h k why = why
from_opening untold (faults.Host f) inputs output a c h k why = inl why
from_opening untold (faults.Sparse f) inputs output a c h k why = absurd why
from_opening untold (faults.Piece f) inputs output a c h k why = absurd why
from_opening untold (faults.Flash f) inputs output a c h k why = absurd why
from_opening untold (faults.Verify f) inputs output a c h k why = absurd why

-- so much is written where it fails for this
abbrev pub BreaksOver : SparseCommandFault → List (List ℕ) → List ℕ → World → World → Type 0
BreaksOver (faults.Flash f) inputs output a c = OverlaysInPart f inputs output a c
BreaksOver f inputs output a c = Unit {0}

breaks_in : (f : SparseCommandFault) (number size : ℕ) (inputs xs : List (List ℕ)) (output z : List ℕ) (onto : ℕ)
    (a c : World) (ins : AreImages number size inputs a) → c.at output ≡ Some onto → xs ≡ map a.holds ins.files
    → z ≡ replicate (number * size) 0 → BreaksAmong f xs z (c.holds onto) → BreaksOver f inputs output a c
breaks_in (faults.Flash f) number size inputs xs output z onto a c ins here bytes zeros broken = record {
  blocks = number;
  size = size;
  ins = ins;
  onto = onto;
  here = here;
  before = broken.before;
  next = broken.next;
  behind = broken.behind;
  among = sym bytes ∙ broken.among;
  read = broken.holds.0;
  holds = subst (λ l. Holds (Err f) broken.holds.0 (flashed_in_turn l broken.before) (c.holds onto) broken.next) zeros
      broken.holds.1;
}
breaks_in (faults.Run f) number size inputs xs output z onto a c ins here bytes zeros broken = tt
breaks_in (faults.Sparse f) number size inputs xs output z onto a c ins here bytes zeros broken = tt
breaks_in (faults.Piece f) number size inputs xs output z onto a c ins here bytes zeros broken = tt
breaks_in (faults.Verify f) number size inputs xs output z onto a c ins here bytes zeros broken = tt
breaks_in (faults.OtherBlocks m) number size inputs xs output z onto a c ins here bytes zeros broken = tt
breaks_in (faults.OtherCut m) number size inputs xs output z onto a c ins here bytes zeros broken = tt
breaks_in (faults.Host f) number size inputs xs output z onto a c ins here bytes zeros broken = tt

pub breaks_over : (f : SparseCommandFault) (shape : Option Shape) (e : Expanded) (a a1 b b' c : World)
    (inputs xs : List (List ℕ)) (output y z : List ℕ) (h h1 h2 h3 : OpenFiles) → e ≡ whole_of_shape shape
    → AreOpened a inputs xs h h1 → IsShapeOf shape xs → MakesPlace output h1 h2 a1 b → a1 ≡ a
    → z ≡ replicate e.bytes 0 → BreaksAmong f xs z y → b' ≡ b → FailsAlone h2 h3 → Ends h3.part y b' c
    → c.at ≡ b'.at → BreaksOver f inputs output a c
breaks_over f shape e a a1 b b' c inputs xs output y z h h1 h2 h3 whole all is made same zeros broken same' alone
    ends paths =
    let s = sized shape e a inputs xs h h1 whole all is in
    let end = spared a a1 b b' c output y h1 h2 h3 made same same' alone ends in
    breaks_in f s.number s.size inputs xs output z made.file a c record {
      files = all.files;
      there = all.there;
      images = subst (λ l. AllByRecursion (IsImageOf s.number s.size) l) all.bytes s.all;
    } (ap (λ g. g output) paths ∙ ap (λ w. w.at output) same' ∙ made.there) all.bytes
    (zeros ∙ ap (λ n. replicate n 0) s.long) (subst (λ l. BreaksAmong f xs z l) (sym end.0) broken)

pub from_laying : (untold : List ℕ → Type 0) (f : SparseCommandFault) (inputs : List (List ℕ)) (output : List ℕ)
    (a c : World) (h k : OpenFiles)
    (r r' p p' : ℕ) → (r < r' → HasFailed reading h k) → (p < p' → HasFailed writing h k)
    → BreaksOver f inputs output a c → IsNotLaid f r r' p p' → RefusesOverlay f inputs output a c h k untold
from_laying untold (faults.Flash (flashes.Read d)) inputs output a c h k r r' p p' read written part why =
    (read why, part)
from_laying untold (faults.Flash (flashes.Write d)) inputs output a c h k r r' p p' read written part why =
    (written why, part)
from_laying untold (faults.Flash (flashes.Sync d)) inputs output a c h k r r' p p' read written part why =
    (written why, part)
from_laying untold (faults.Flash (flashes.Sparse f)) inputs output a c h k r r' p p' read written part why =
    absurd why
from_laying untold (faults.Flash (flashes.PartitionTooSmall m)) inputs output a c h k r r' p p' read written part why =
    absurd why
from_laying untold (faults.Flash flashes.TooLarge) inputs output a c h k r r' p p' read written part why =
    absurd why
from_laying untold (faults.Flash flashes.SourceChanged) inputs output a c h k r r' p p' read written part why =
    absurd why
from_laying untold (faults.Flash (flashes.BadBlock m)) inputs output a c h k r r' p p' read written part why =
    absurd why
from_laying untold (faults.Flash (flashes.LimitTooSmall m)) inputs output a c h k r r' p p' read written part why =
    absurd why
from_laying untold (faults.Flash (flashes.Stopped j m)) inputs output a c h k r r' p p' read written part why =
    absurd why
from_laying untold (faults.Flash (flashes.NoSuchPiece m)) inputs output a c h k r r' p p' read written part why =
    absurd why
from_laying untold (faults.Run f) inputs output a c h k r r' p p' read written part why =
    absurd why
from_laying untold (faults.Sparse f) inputs output a c h k r r' p p' read written part why =
    absurd why
from_laying untold (faults.Piece f) inputs output a c h k r r' p p' read written part why =
    absurd why
from_laying untold (faults.Verify f) inputs output a c h k r r' p p' read written part why =
    absurd why
from_laying untold (faults.OtherBlocks m) inputs output a c h k r r' p p' read written part why =
    absurd why
from_laying untold (faults.OtherCut m) inputs output a c h k r r' p p' read written part why =
    absurd why
from_laying untold (faults.Host f) inputs output a c h k r r' p p' read written part why =
    absurd why

-- a fault of files, of a call that has failed, or after all was done
pub from_files : (untold : List ℕ → Type 0) (f : SparseCommandFault) (inputs : List (List ℕ)) (output : List ℕ)
    (a c : World) (h k : OpenFiles)
    → FromCall f h k ⊎ ((f ≡ faults.Host hosts.Write) × OverlaysFiles inputs output a c untold)
    → RefusesOverlay f inputs output a c h k untold
from_files untold f inputs output a c h k (inl host) =
    subst (λ g. RefusesOverlay g inputs output a c h k untold) (sym host.1) (inl host.2)
from_files untold f inputs output a c h k (inr host) =
    subst (λ g. RefusesOverlay g inputs output a c h k untold) (sym host.0) (inr (refl, host.1))
