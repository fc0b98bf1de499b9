-- What opening, flashing and closing leave together.
use Rattle.std.proofs.Common.{◌≡◌, ℕ, ◌+◌, ◌<◌, ◌≤◌, arith, List, [], Bool, true, length, Option}
use Rattle.std.proofs.Common.{◌-◌, None, refl, sym, ◌∙◌, ap, subst}
use Rattle.std.specs.Prelude.{if◌then◌else◌}
use Rattle.abt_io.specs.Moment.{Past, past_of_file}
use Rattle.sys_disk.specs.InPlace.{ClosesPart, OpensPart, SparesOthers, in_place, is_settled, is_settled_in}
use Rattle.sys_disk.specs.Counts as counts
use Rattle.sys_disk.specs.World.{World, OpenFiles, HasFailed, HasNotFailed, OpensFile, Ends, KeepsFile, counting}
use Rattle.sys_disk.specs.World.{number_of, reading}
use Rattle.sys_disk.proofs.Closings.{ends_in, apart_from, others_spared, keeps_read}
use Rattle.sys_disk.proofs.Worlds.{may_behind, spared_if_may}
use Rattle.cmd_flash.specs.Files.{Between, DeviceFailed, NeitherFailed, OfBoth, OfFile, SparesAround}

-- ---- what has not failed is not counted

pub unread : (n : ℕ) (cause : counts.Cause) → n ≡ 0 → counts.of_reading n cause ≡ 0
unread n (counts.call f) none = refl
unread n counts.reading none = none
unread n counts.writing none = refl

pub unwritten : (n : ℕ) (cause : counts.Cause) → n ≡ 0 → counts.of_writing n cause ≡ 0
unwritten n (counts.call f) none = refl
unwritten n counts.reading none = refl
unwritten n counts.writing none = none

-- ---- the files

-- the partition that is closed is the one that was opened
pub this_part : (past past' : Past) (h h' : OpenFiles) (n : counts.Counts) → past ≡ past_of_file (number_of h.part)
    → past'.file ≡ past.file → h' ≡ counting n h → past'.file ≡ number_of h'.part
this_part past past' h h' n opened same gone =
    same ∙ ap (λ (q : Past). q.file) opened ∙ sym (ap (λ (k : OpenFiles). number_of k.part) gone)

-- one sync, after the last byte
pub settled_once : {file : ℕ} (past past' : Past) → past ≡ past_of_file file → past'.synced ≡ past.synced + 1
    → past'.pending ≡ [] → is_settled past' ≡ true
settled_once past past' fresh one empty =
    ap (λ (l : List (ℕ × ℕ)). is_settled_in l past'.synced) empty
    ∙ ap (is_settled_in []) (one ∙ ap (λ (q : Past). q.synced + 1) fresh)

-- the files that were read and written
pub between : (input path x p p' : List ℕ) (a a' b c : World) (h0 h h' : OpenFiles)
    (P : List ℕ → List ℕ → List ℕ → Type 0)
    → OpensFile a input x h0 h → a' ≡ a → OpensPart a' path p h h' → b ≡ a' → Ends h'.part p' b c → P x p p'
    → Between input path a c P
between input path x p p' a a' b c h0 h h' P r same o same' ends so =
    let opened : OpensPart a path p h h' = subst (λ (w : World). OpensPart w path p h h') same o in
    let ended : Ends h'.part p' a c = subst (λ (w : World). Ends h'.part p' w c) (same' ∙ same) ends in
    let after = ends_in path p p' a c h h' opened ended in
    record {
      from = r.file;
      onto = opened.file;
      there = r.there;
      here = opened.there;
      apart = apart_from input path x p a h0 h h' r opened;
      so = subst (λ (z : List ℕ). P (a.holds r.file) (a.holds opened.file) z) (sym after.0)
          (subst (λ (z : List ℕ). P (a.holds r.file) z p') opened.held (subst (λ (z : List ℕ). P z p p') r.held so));
      spares = after.1;
    }

pub of_both : (input path x p : List ℕ) (a a' : World) (h0 h h' : OpenFiles) (P : List ℕ → List ℕ → Type 0)
    → OpensFile a input x h0 h → a' ≡ a → OpensFile a' path p h h' → P x p → OfBoth input path a P
of_both input path x p a a' h0 h h' P r same o so =
    let opened : OpensFile a path p h h' = subst (λ (w : World). OpensFile w path p h h') same o in
    record {
      from = r.file;
      against = opened.file;
      there = r.there;
      here = opened.there;
      so = subst (λ (z : List ℕ). P (a.holds r.file) z) opened.held (subst (λ (z : List ℕ). P z p) r.held so);
    }

pub of_file : (input x : List ℕ) (a : World) (h0 h : OpenFiles) (P : List ℕ → Type 0) → OpensFile a input x h0 h → P x
    → OfFile input a P
of_file input x a h0 h P r so =
    record { from = r.file; there = r.there; so = subst P r.held so }

-- after an input was opened, the file that was written in place is the only one that may hold anything else
pub others_written : (path p p' : List ℕ) (a a' b c : World) (h h' : OpenFiles) → a' ≡ a → OpensPart a' path p h h'
    → b ≡ a'
    → Ends h'.part p' b c → c.at ≡ b.at → SparesOthers path a c
others_written path p p' a a' b c h h' same o same' ends paths =
    others_spared path p p' a c h h' (subst (λ (w : World). OpensPart w path p h h') same o)
    (subst (λ (w : World). Ends h'.part p' w c) (same' ∙ same) ends) (paths ∙ ap (λ (w : World). w.at) (same' ∙ same))

-- and the input holds what it held
pub input_kept : (input path x p p' : List ℕ) (a a' b c : World) (h0 h h' : OpenFiles) → OpensFile a input x h0 h → a'
    ≡ a
    → OpensPart a' path p h h' → b ≡ a' → Ends h'.part p' b c → KeepsFile input a c
input_kept input path x p p' a a' b c h0 h h' r same o same' ends =
    keeps_read input path x p p' a c h0 h h' r (subst (λ (w : World). OpensPart w path p h h') same o)
    (subst (λ (w : World). Ends h'.part p' w c) (same' ∙ same) ends)

-- ---- an input was opened, and a partition; then both were closed

-- this much was counted of the input, of the partition, and when it was closed, after the input was
pub record Ran (input path x p p' : List ℕ) (old new : World) (h hc h' : OpenFiles) (n k m : counts.Counts)
    (past : Past) : Type 1
  where
    pub with_files : (P : List ℕ → List ℕ → List ℕ → Type 0) → P x p p' → Between input path old new P
    pub others : SparesAround path h old new
    pub kept : KeepsFile input old new
    pub failed : (cause : counts.Cause) → h'.counts.failed cause
        ≡ h.counts.failed cause + (n.failed cause + k.failed cause + m.failed cause)
    pub began : (cause : counts.Cause) → h.counts.failed cause ≤ hc.counts.failed cause
    pub given : h'.counts.given ≡ h.counts.given + (n.given + k.given)
    pub synced : is_settled past ≡ true → h'.syncs ≡ h.syncs + 1
    pub closed : h'.part ≡ None

synced_more : (h h' h'' h3 h4 : OpenFiles) (f g : ℕ) (n k : counts.Counts) (past : Past) (d : Bool) → h' ≡ reading f h
    → h'' ≡ in_place g h' → h3 ≡ counting n h'' → ClosesPart d past k h3 h4 → is_settled past ≡ true
    → h4.syncs ≡ h.syncs + 1
synced_more h h' h'' h3 h4 f g n k past d r o l c settled =
    ap (λ (q : OpenFiles). q.syncs) c.closed ∙ ap (λ (t : Bool). h3.syncs + (if t then 1 else 0)) settled
    ∙ ap (λ (q : OpenFiles). q.syncs + 1) l ∙ ap (λ (q : OpenFiles). q.syncs + 1) o
    ∙ ap (λ (q : OpenFiles). q.syncs + 1) r

begun_more : (h h' h'' h3 : OpenFiles) (f g : ℕ) (n : counts.Counts) (cause : counts.Cause) → h' ≡ reading f h
    → h'' ≡ in_place g h' → h3 ≡ counting n h'' → h3.counts.failed cause ≡ h.counts.failed cause + n.failed cause
begun_more h h' h'' h3 f g n cause r o l =
    let one : h'.counts.failed cause ≡ h.counts.failed cause = ap (λ (q : OpenFiles). q.counts.failed cause) r in
    let two : h''.counts.failed cause ≡ h'.counts.failed cause = ap (λ (q : OpenFiles). q.counts.failed cause) o in
    let three : h3.counts.failed cause ≡ h''.counts.failed cause + n.failed cause =
    ap (λ (q : OpenFiles). q.counts.failed cause) l in
    omega (arith, one, two, three)

failed_more : (h h3 h4 : OpenFiles) (n k : counts.Counts) (past : Past) (d : Bool) (cause : counts.Cause)
    → h3.counts.failed cause ≡ h.counts.failed cause + n.failed cause → (c : ClosesPart d past k h3 h4)
    → h4.counts.failed cause ≡ h.counts.failed cause + (n.failed cause + k.failed cause + c.more.failed cause)
failed_more h h3 h4 n k past d cause more c =
    let four : h4.counts.failed cause ≡ h3.counts.failed cause + k.failed cause + c.more.failed cause =
    ap (λ (q : OpenFiles). q.counts.failed cause) c.closed in
    omega (arith, more, four)

given_more : (h h' h'' h3 h4 : OpenFiles) (f g : ℕ) (n k : counts.Counts) (past : Past) (d : Bool) → h' ≡ reading f h
    → h'' ≡ in_place g h' → h3 ≡ counting n h'' → (c : ClosesPart d past k h3 h4)
    → h4.counts.given ≡ h.counts.given + (n.given + k.given)
given_more h h' h'' h3 h4 f g n k past d r o l c =
    let one : h'.counts.given ≡ h.counts.given = ap (λ (q : OpenFiles). q.counts.given) r in
    let two : h''.counts.given ≡ h'.counts.given = ap (λ (q : OpenFiles). q.counts.given) o in
    let three : h3.counts.given ≡ h''.counts.given + n.given = ap (λ (q : OpenFiles). q.counts.given) l in
    let four : h4.counts.given ≡ h3.counts.given + k.given + c.more.given =
    ap (λ (q : OpenFiles). q.counts.given) c.closed in
    let five = c.unread in
    omega (arith, one, two, three, four, five)

at_least : (a b n : ℕ) → b ≡ a + n → a ≤ b
at_least a b n more = omega (arith, more)

pub ran : (input path x p p' : List ℕ) (a a' a'' b c : World) (h0 h h' h3 h4 : OpenFiles) (n k : counts.Counts)
    (past : Past) (d : Bool)
    → OpensFile a input x h0 h → a' ≡ a → OpensPart a' path p h h' → a'' ≡ a' → h3 ≡ counting n h' → b ≡ a''
    → Ends h3.part p' b c → c.at ≡ b.at → (q : ClosesPart d past k h3 h4)
    → Ran input path x p p' a c h0 h3 h4 n k q.more past
ran input path x p p' a a' a'' b c h0 h h' h3 h4 n k past d r same o same' l same'' ends paths closed =
    let ended : Ends h'.part p' b c = subst (λ (q : Option ℕ). Ends q p' b c) (ap (λ (q : OpenFiles). q.part) l) ends in
    record {
      with_files = λ P so. between input path x p p' a a' b c h0 h h' P r same o (same'' ∙ same') ended so;
      others = record {
        others = others_written path p p' a a' b c h h' same o (same'' ∙ same') ended paths;
        in_use = spared_if_may path h0 a c (may_behind path input x h0 h a r o.allowed);
      };
      kept = input_kept input path x p p' a a' b c h0 h h' r same o (same'' ∙ same') ended;
      failed = λ cause. failed_more h0 h3 h4 n k past d cause
          (begun_more h0 h h' h3 r.file o.file n cause r.taken o.taken l) closed;
      began = λ cause. at_least (h0.counts.failed cause) (h3.counts.failed cause) (n.failed cause)
          (begun_more h0 h h' h3 r.file o.file n cause r.taken o.taken l);
      given = given_more h0 h h' h3 h4 r.file o.file n k past d r.taken o.taken l closed;
      synced = λ settled. synced_more h0 h h' h3 h4 r.file o.file n k past d r.taken o.taken l closed settled;
      closed = ap (λ (q : OpenFiles). q.part) closed.closed;
    }

-- a device that had not failed has failed, and this is counted when it is closed; and nothing is, where none has
pub ran_failed : (input path x p p' : List ℕ) (old new : World) (h hc h' : OpenFiles) (g r t r' t' : ℕ)
    (m : counts.Counts) (past : Past)
    → Ran input path x p p' old new h hc h' (counts.reads g r') (counts.writes t') m past → r ≡ 0 → t ≡ 0
    → (cause : counts.Cause) → DeviceFailed r r' t t' cause → HasFailed cause h h'
ran_failed input path x p p' old new h hc h' g r t r' t' m past all none none' (counts.call f) rose = absurd rose
ran_failed input path x p p' old new h hc h' g r t r' t' m past all none none' counts.reading rose =
    let more : h'.counts.failed counts.reading ≡ h.counts.failed counts.reading + (r' + 0 + m.failed counts.reading) =
    all.failed counts.reading in
    omega (arith, more, none, rose)
ran_failed input path x p p' old new h hc h' g r t r' t' m past all none none' counts.writing rose =
    let more : h'.counts.failed counts.writing ≡ h.counts.failed counts.writing + (0 + t' + m.failed counts.writing) =
    all.failed counts.writing in
    omega (arith, more, none', rose)

pub ran_clean : (input path x p p' : List ℕ) (old new : World) (h hc h' : OpenFiles) (g r t r' t' : ℕ)
    (m : counts.Counts) (past : Past)
    → Ran input path x p p' old new h hc h' (counts.reads g r') (counts.writes t') m past → r ≡ 0 → t ≡ 0
    → NeitherFailed r r' t t' → counts.HasNone m → HasNotFailed h h'
ran_clean input path x p p' old new h hc h' g r t r' t' m past all none none' same clean = λ cause.
    let more = all.failed cause in
    let read : counts.of_reading r' cause ≡ 0 = unread r' cause (same.0 ∙ none) in
    let put : counts.of_writing t' cause ≡ 0 = unwritten t' cause (same.1 ∙ none') in
    let last = clean cause in
    omega (arith, more, read, put, last)

-- how many bytes the input gave, of which none had been read
pub ran_given : (input path x p p' : List ℕ) (old new : World) (h hc h' : OpenFiles) (g g' r' t' : ℕ)
    (m : counts.Counts) (past : Past)
    → Ran input path x p p' old new h hc h' (counts.reads g' r') (counts.writes t') m past → g ≡ 0
    → h'.counts.given ≡ h.counts.given + (g' - g)
ran_given input path x p p' old new h hc h' g g' r' t' m past all none =
    let more : h'.counts.given ≡ h.counts.given + (g' + 0) = all.given in omega (arith, more, none)

-- what failed after the input was closed has failed in the run
pub ran_late : (input path x p p' : List ℕ) (old new : World) (h hc h' : OpenFiles) (n k m : counts.Counts)
    (past : Past) → Ran input path x p p' old new h hc h' n k m past → (cause : counts.Cause) → HasFailed cause hc h'
    → HasFailed cause h h'
ran_late input path x p p' old new h hc h' n k m past all cause rose =
    let began = all.began cause in omega (arith, began, rose)

-- ---- two files were opened for reading, looked at again, and closed

failed_two : (h h' h'' hu h3 h4 : OpenFiles) (f g : ℕ) (u n k : counts.Counts) (cause : counts.Cause) → h' ≡ reading f h
    → h'' ≡ reading g h' → hu ≡ counting u h'' → h3 ≡ counting n hu → h4 ≡ counting k h3
    → h4.counts.failed cause ≡ h.counts.failed cause + (u.failed cause + (n.failed cause + k.failed cause))
failed_two h h' h'' hu h3 h4 f g u n k cause r o s l c =
    let one : h'.counts.failed cause ≡ h.counts.failed cause = ap (λ (q : OpenFiles). q.counts.failed cause) r in
    let two : h''.counts.failed cause ≡ h'.counts.failed cause = ap (λ (q : OpenFiles). q.counts.failed cause) o in
    let looked : hu.counts.failed cause ≡ h''.counts.failed cause + u.failed cause =
    ap (λ (q : OpenFiles). q.counts.failed cause) s in
    let three : h3.counts.failed cause ≡ hu.counts.failed cause + n.failed cause =
    ap (λ (q : OpenFiles). q.counts.failed cause) l in
    let four : h4.counts.failed cause ≡ h3.counts.failed cause + k.failed cause =
    ap (λ (q : OpenFiles). q.counts.failed cause) c in
    omega (arith, one, two, looked, three, four)

-- one was
failed_one : (h h' h'' : OpenFiles) (f : ℕ) (n : counts.Counts) (cause : counts.Cause) → h' ≡ reading f h
    → h'' ≡ counting n h' → h''.counts.failed cause ≡ h.counts.failed cause + n.failed cause
failed_one h h' h'' f n cause r l =
    let one : h'.counts.failed cause ≡ h.counts.failed cause = ap (λ (q : OpenFiles). q.counts.failed cause) r in
    let two : h''.counts.failed cause ≡ h'.counts.failed cause + n.failed cause =
    ap (λ (q : OpenFiles). q.counts.failed cause) l in
    omega (arith, one, two)

pub rose_one : (h h' h'' : OpenFiles) (f g n r : ℕ) → h' ≡ reading f h → h'' ≡ counting (counts.reads g n) h' → r ≡ 0
    → r < n → HasFailed counts.reading h h''
rose_one h h' h'' f g n r opened gone none rose =
    let more : h''.counts.failed counts.reading ≡ h.counts.failed counts.reading + n =
    failed_one h h' h'' f (counts.reads g n) counts.reading opened gone in
    omega (arith, more, none, rose)

pub rose_two : (h h' h'' hu h3 h4 : OpenFiles) (f g : ℕ) (u : counts.Counts) (a b n k r t : ℕ) → h' ≡ reading f h
    → h'' ≡ reading g h' → hu ≡ counting u h'' → h3 ≡ counting (counts.reads a n) hu
    → h4 ≡ counting (counts.reads b k) h3 → r ≡ 0 → t ≡ 0 → r + t < n + k → HasFailed counts.reading h h4
rose_two h h' h'' hu h3 h4 f g u a b n k r t opened opened' looked gone gone' none none' rose =
    let more : h4.counts.failed counts.reading
    ≡ h.counts.failed counts.reading + (u.failed counts.reading + (n + k)) =
    failed_two h h' h'' hu h3 h4 f g u (counts.reads a n) (counts.reads b k) counts.reading opened opened' looked gone
    gone' in
    omega (arith, more, none, none', rose)
