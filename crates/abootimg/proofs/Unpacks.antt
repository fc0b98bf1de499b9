-- How unpacking as unpack_bootimg goes on from step to step.
use Rattle.std.proofs.Common.{arith, ◌≡◌, ◌≢◌, ◌<◌, ◌≤◌, ◌+◌, ◌++◌, ℕ, List, Some, refl, sym, ◌∙◌, ap, subst}
use Rattle.std.proofs.Common.{inl, inr}
use Rattle.std.specs.Prelude.{Result, Ok, Err, IfErr, OnOk, false}
use Rattle.abt_sections.specs.Header.{Header}
use Rattle.abt_sections.specs.Cause.{OpenCause}
use Rattle.abt_sections.specs.Open.{HasImage, IsReadFault, RefusedAs}
use Rattle.abt_sections.specs.declared.fault.SectionFault.{SectionFault}
use Rattle.abt_sections.specs.declared.fault.SectionFault.TheVariants as faults
use Rattle.sys_disk.specs.World.{World, OpenFiles, OpensFile, HasFailed, HasNotFailed, KeepsFile, MayWrite, counting}
use Rattle.sys_disk.specs.Counts.{Cause, Counts, call, call_of, calls, of_reading, reading, reads}
use Rattle.sys_disk.proofs.Failings.{counts_one}
use Rattle.sys_refusals.specs.declared.refusal.HostFault.{HostFault}
use Rattle.sys_disk.specs.Among.{OnlyAmong}
use Rattle.sys_report.specs.Shows.{CannotPrint, IsTold}
use Rattle.sys_report.specs.declared.report.Report.{Report}
use Rattle.sys_host.specs.Answering.{PrintsNothing}
use Rattle.words_tools.specs.declared.unpack_bootimg.UnpackImage.{UnpackImage}
use Rattle.cmd_common_boot.specs.declared.fault.BootCommandFault.{BootCommandFault}
use Rattle.cmd_common_boot.proofs.Causes.{source_failed}
use Rattle.cmd_common_texts.specs.Info.{PrintCause, SectionWriteTold}
use Rattle.cmd_unpack_aosp.specs.AospFiles.{IsFileOf, RefusesUnpack, UnpacksAsAosp}
use Rattle.cmd_unpack_aosp_texts.specs.Texts.{aosp_text}
use Rattle.cmd_unpack_aosp_texts.specs.declared.text.AospText.{AospText}
use Rattle.abootimg.specs.OrderDone.{IsReadyForOrder}
use Rattle.abootimg.specs.Stored.{FailsBetween, KeepsStored, NothingFails, SomeFails, Stored, counting_more, stored}
use Rattle.abootimg.specs.UnpackEnds.{HoldsNoImage, PartsEnd, PartsOn, PrintsText, PrintsTextOf, StepStays, TextCause}
use Rattle.abootimg.specs.UnpackEnds.{TextStep, UnpackBegun, UnpackEnds, WhyRefused, failed, no_image, text_wanted}
use Rattle.abootimg.specs.UnpackEnds.{unprinted}
use Rattle.abootimg.proofs.Looks.{no_reading}
use Rattle.abootimg.proofs.Refusals.{not_one}

-- ---- no file is changed

pub kept_none : (a : Stored) → KeepsStored a a
kept_none a = record { same = refl; in_use = refl; rises = λ cause. omega arith }

pub kept_then : (a b z : Stored) → KeepsStored a b → KeepsStored b z → KeepsStored a z
kept_then a b z first next = record {
  same = next.same ∙ first.same;
  in_use = next.in_use ∙ first.in_use;
  rises = λ cause.
      let up : a.counts.failed cause ≤ b.counts.failed cause = first.rises cause in
      let more : b.counts.failed cause ≤ z.counts.failed cause = next.rises cause in
      omega (arith, up, more);
}

-- one is more of the other
more_by : (m n k : ℕ) → m ≡ n + k → n ≤ m
more_by m n k is = omega (arith, is)

pub kept_counting : (w w' : World) (h h' : OpenFiles) (n : Counts) → w' ≡ w → h' ≡ counting n h
    → KeepsStored (stored w h) (stored w' h')
kept_counting w w' h h' n same counted = record {
  same = same;
  in_use = ap (λ (k : OpenFiles). k.in_use) counted;
  rises = λ cause. more_by (h'.counts.failed cause) (h.counts.failed cause) (n.failed cause)
      (ap (λ (k : OpenFiles). k.counts.failed cause) counted);
}

pub kept_opening : (w w' : World) (path x : List ℕ) (h h' : OpenFiles) → OpensFile w path x h h' → w' ≡ w
    → KeepsStored (stored w h) (stored w' h')
kept_opening w w' path x h h' opens same = record {
  same = same;
  in_use = ap (λ (k : OpenFiles). k.in_use) opens.taken;
  rises = λ cause.
      let e : h'.counts.failed cause ≡ h.counts.failed cause
      = ap (λ (k : OpenFiles). k.counts.failed cause) opens.taken in
      omega (arith, e);
}

pub kept_counted : (a z : Stored) (n : Counts) → z ≡ counting_more n a → KeepsStored a z
kept_counted a z n counted = record {
  same = ap (λ (s : Stored). s.world) counted;
  in_use = ap (λ (s : Stored). s.in_use) counted;
  rises = λ cause. more_by (z.counts.failed cause) (a.counts.failed cause) (n.failed cause)
      (ap (λ (s : Stored). s.counts.failed cause) counted);
}

-- what is done on a disk that is given back
kept_from : (a z : Stored) (w w' : World) (h h' : OpenFiles) → w ≡ a.world → h.in_use ≡ a.in_use
    → h.counts ≡ a.counts → KeepsStored (stored w h) (stored w' h') → z ≡ stored w' h' → KeepsStored a z
kept_from a z w w' h h' first busy begins kept back = record {
  same = ap (λ (s : Stored). s.world) back ∙ (kept.same ∙ first);
  in_use = ap (λ (s : Stored). s.in_use) back ∙ (kept.in_use ∙ busy);
  rises = λ cause.
      let from : h.counts.failed cause ≡ a.counts.failed cause = ap (λ (n : Counts). n.failed cause) begins in
      let upto : z.counts.failed cause ≡ h'.counts.failed cause = ap (λ (s : Stored). s.counts.failed cause) back in
      let rises : h.counts.failed cause ≤ h'.counts.failed cause = kept.rises cause in
      omega (arith, from, upto, rises);
}

-- ---- nothing fails

same_count : (a b : Stored) (cause : Cause) → b.counts ≡ a.counts → b.counts.failed cause ≡ a.counts.failed cause
same_count a b cause same = ap (λ (n : Counts). n.failed cause) same

pub clean_none : (a : Stored) → NothingFails a a
clean_none a = record { stays = λ cause. refl }

pub clean_then : (a b z : Stored) → NothingFails a b → NothingFails b z → NothingFails a z
clean_then a b z first next = record { stays = λ cause. next.stays cause ∙ first.stays cause }

-- what is done on a disk that is given back
pub clean_from : (a z : Stored) (w w' : World) (h h' : OpenFiles) → h.counts ≡ a.counts
    → NothingFails (stored w h) (stored w' h') → z ≡ stored w' h' → NothingFails a z
clean_from a z w w' h h' begins clean back = record {
  stays = λ cause. ap (λ (s : Stored). s.counts.failed cause) back
      ∙ (clean.stays cause ∙ same_count a (stored w h) cause begins);
}

pub clean_opening : (w w' : World) (path x : List ℕ) (h h' : OpenFiles) → OpensFile w path x h h'
    → NothingFails (stored w h) (stored w' h')
clean_opening w w' path x h h' opens = record {
  stays = λ cause. ap (λ (k : OpenFiles). k.counts.failed cause) opens.taken;
}

-- a call of a storage that has counted nothing more
pub clean_counted : (a z : Stored) (n : Counts) → z ≡ counting_more n a → ((cause : Cause) → n.failed cause ≡ 0)
    → NothingFails a z
clean_counted a z n counted none = record {
  stays = λ cause.
      let more : z.counts.failed cause ≡ a.counts.failed cause + n.failed cause
      = ap (λ (s : Stored). s.counts.failed cause) counted in
      let no : n.failed cause ≡ 0 = none cause in
      omega (arith, more, no);
}

-- a call of a disk that has counted nothing more
pub clean_counting : (w w' : World) (h h' : OpenFiles) (n : Counts) → h' ≡ counting n h
    → ((cause : Cause) → n.failed cause ≡ 0) → NothingFails (stored w h) (stored w' h')
clean_counting w w' h h' n counted none = record {
  stays = λ cause.
      let more : h'.counts.failed cause ≡ h.counts.failed cause + n.failed cause
      = ap (λ (k : OpenFiles). k.counts.failed cause) counted in
      let no : n.failed cause ≡ 0 = none cause in
      omega (arith, more, no);
}

-- a device that has not failed
pub none_read : (faults : ℕ) → faults ≡ 0 → (cause : Cause) → of_reading faults cause ≡ 0
none_read faults none cause = ap (λ n. of_reading n cause) none ∙ no_reading cause

-- what has not failed on the disk of the parts
pub clean_parts : (a z : Stored) (h h' : OpenFiles) (w w' : World) → h.counts ≡ a.counts → HasNotFailed h h'
    → z ≡ stored w' h' → NothingFails a z
clean_parts a z h h' w w' begins clean back =
    clean_from a z w w' h h' begins (record { stays = λ cause. clean cause }) back

-- ---- something fails

pub fails_first : (a b z : Stored) → SomeFails a b → KeepsStored b z → SomeFails a z
fails_first a b z first next = record {
  cause = first.cause;
  rises =
      let rises : a.counts.failed first.cause < b.counts.failed first.cause = first.rises in
      let more : b.counts.failed first.cause ≤ z.counts.failed first.cause = next.rises first.cause in
      omega (arith, rises, more);
}

pub fails_then : (a b z : Stored) → KeepsStored a b → SomeFails b z → SomeFails a z
fails_then a b z first next = record {
  cause = next.cause;
  rises =
      let more : a.counts.failed next.cause ≤ b.counts.failed next.cause = first.rises next.cause in
      let rises : b.counts.failed next.cause < z.counts.failed next.cause = next.rises in
      omega (arith, more, rises);
}

-- a call of a storage has failed
pub fails_counted : (a z : Stored) (fault : HostFault) → z ≡ counting_more (call_of fault) a
    → FailsBetween a z (call fault)
fails_counted a z fault counted =
    let more : z.counts.failed (call fault) ≡ a.counts.failed (call fault) + calls fault (call fault)
    = ap (λ (s : Stored). s.counts.failed (call fault)) counted in
    let one : calls fault (call fault) ≡ 1 = counts_one fault in
    omega (arith, more, one)

pub some_counted : (a z : Stored) (fault : HostFault) → z ≡ counting_more (call_of fault) a → SomeFails a z
some_counted a z fault counted = record { cause = call fault; rises = fails_counted a z fault counted }

-- ---- a step that changes no file

pub step_done : (a z : Stored) (r r' : Report) → KeepsStored a z → PrintsNothing r r' → NothingFails a z
    → StepStays a r z r' 0
step_done a z r r' kept quiet clean = record {
  kept = kept;
  status_is = omega arith;
  quiet = λ done. quiet;
  clean = λ done. clean;
}

pub step_refused : (a z : Stored) (r r' : Report) (n : ℕ) → KeepsStored a z → n ≡ 1 → StepStays a r z r' n
step_refused a z r r' n kept one = record {
  kept = kept;
  status_is = omega (arith, one);
  quiet = λ done. absurd (not_one n one done);
  clean = λ done. absurd (not_one n one done);
}

-- it is made on a disk that is given back
pub step_from : (a z : Stored) (w w' : World) (h h' : OpenFiles) (r r' : Report) (n : ℕ) → w ≡ a.world
    → h.in_use ≡ a.in_use → h.counts ≡ a.counts → StepStays (stored w h) r (stored w' h') r' n → z ≡ stored w' h'
    → StepStays a r z r' n
step_from a z w w' h h' r r' n first busy begins stays back = record {
  kept = kept_from a z w w' h h' first busy begins stays.kept back;
  status_is = stays.status_is;
  quiet = stays.quiet;
  clean = λ done. clean_from a z w w' h h' begins (stays.clean done) back;
}

-- it is made in a file that is opened, and closed again
pub step_over : (w v u w' : World) (path x : List ℕ) (h k l h' : OpenFiles) (r r' : Report) (m : Counts)
    (n : ℕ) → OpensFile w path x h k → v ≡ w → StepStays (stored v k) r (stored u l) r' n → w' ≡ u → h' ≡ counting m l
    → (n ≡ 0 → NothingFails (stored u l) (stored w' h')) → StepStays (stored w h) r (stored w' h') r' n
step_over w v u w' path x h k l h' r r' m n opens same stays back closed clean = record {
  kept = kept_then _ _ _ (kept_then _ _ _ (kept_opening w v path x h k opens same) stays.kept)
      (kept_counting u w' l h' m back closed);
  status_is = stays.status_is;
  quiet = stays.quiet;
  clean = λ done. clean_then (stored w h) (stored v k) (stored w' h') (clean_opening w v path x h k opens)
      (clean_then (stored v k) (stored u l) (stored w' h') (stays.clean done) (clean done));
}

pub quiet_then : (r q s : Report) → PrintsNothing r q → PrintsNothing q s → PrintsNothing r s
quiet_then r q s first next = next ∙ ap (λ (k : Report). record k { progress = s.progress }) first

-- one after another
pub step_then : (a b z : Stored) (r q s : Report) (m n : ℕ) → StepStays a r b q m → m ≡ 0 → StepStays b q z s n
    → StepStays a r z s n
step_then a b z r q s m n first none next = record {
  kept = kept_then a b z first.kept next.kept;
  status_is = next.status_is;
  quiet = λ done. quiet_then r q s (first.quiet none) (next.quiet done);
  clean = λ done. clean_then a b z (first.clean none) (next.clean done);
}

-- ---- the parts

pub zero_done : {X E : Type 0} (r : Result X E) (n : ℕ) (P : Type 0) → IfErr r (λ e. n ≡ 1) → n ≡ 0 → OnOk r P → P
zero_done (Ok x) n P one none is = is
zero_done (Err e) n P one none is = absurd (not_one n one none)

-- two that are the same
no_more : (m n : ℕ) → n ≡ m → m ≤ n
no_more m n same = omega (arith, same)

-- the result of the command, and its status
pub parts_told : {X E : Type 0} (fault : E → BootCommandFault) (r : Result X E) (n : ℕ) (path : List ℕ)
    (image : UnpackImage) (w w' : World) (h h' : OpenFiles) → path ≡ image.input.now → OnOk r (n ≡ 0)
    → IfErr r (λ e. n ≡ 1) → OnOk r (UnpacksAsAosp path image.folder.now w w')
    → OnlyAmong (λ q. IsFileOf path image.folder.now w q × MayWrite q h) h.read h'.begun w w' → KeepsFile path w w'
    → OnOk r (HasNotFailed h h') → IfErr r (λ e. RefusesUnpack path w (λ cause. HasFailed cause h h') (fault e))
    → PartsOn image w h w' h' n
parts_told fault (Ok x) n path image w w' h h' at none one done only keeps clean refuses = record {
  done = λ is. subst (λ p. UnpacksAsAosp p image.folder.now w w') at done;
  clean = λ is. clean;
  status_is = omega (arith, none);
  refused = λ not. absurd (not none);
  only = subst (λ p. OnlyAmong (λ q. IsFileOf p image.folder.now w q × MayWrite q h) h.read h'.begun w w') at only;
  keeps = subst (λ p. KeepsFile p w w') at keeps;
}
parts_told fault (Err e) n path image w w' h h' at none one done only keeps clean refuses = record {
  done = λ is. absurd (not_one n one is);
  clean = λ is. absurd (not_one n one is);
  status_is = omega (arith, one);
  refused = λ not. record {
    fault = fault e;
    refuses = subst (λ p. RefusesUnpack p w (λ cause. HasFailed cause h h') (fault e)) at refuses;
  };
  only = subst (λ p. OnlyAmong (λ q. IsFileOf p image.folder.now w q × MayWrite q h) h.read h'.begun w w') at only;
  keeps = subst (λ p. KeepsFile p w w') at keeps;
}

pub parts_from : (image : UnpackImage) (a z : Stored) (w w' : World) (h h' : OpenFiles) (n : ℕ) → w ≡ a.world
    → h.in_use ≡ a.in_use → h.allows_mounted ≡ false → h.counts ≡ a.counts → IsReadyForOrder h
    → PartsOn image w h w' h' n → z ≡ stored w' h' → PartsEnd image a z n
parts_from image a z w w' h h' n first busy unallowed begins ready parts back =
    record {
      held = h;
      held' = h';
      ready = ready;
      in_use = busy;
      unallowed = unallowed;
      from = λ cause. no_more (a.counts.failed cause) (h.counts.failed cause)
          (ap (λ (n : Counts). n.failed cause) begins);
      upto = λ cause. no_more (h'.counts.failed cause) (z.counts.failed cause)
          (ap (λ (s : Stored). s.counts.failed cause) back);
      parts = subst (λ (x : World). PartsOn image x h z.world h' n) first
          (subst (λ (s : Stored). PartsOn image w h s.world h' n) (sym back) parts);
    }

-- before them and after them no file has changed
parts_within : (image : UnpackImage) (a b y z : Stored) (n : ℕ) → KeepsStored a b → PartsEnd image b y n
    → KeepsStored y z → PartsEnd image a z n
parts_within image a b y z n first parts next =
    record {
      held = parts.held;
      held' = parts.held';
      ready = parts.ready;
      in_use = parts.in_use ∙ first.in_use;
      unallowed = parts.unallowed;
      from = λ cause.
          let up : a.counts.failed cause ≤ b.counts.failed cause = first.rises cause in
          let from : b.counts.failed cause ≤ parts.held.counts.failed cause = parts.from cause in
          omega (arith, up, from);
      upto = λ cause.
          let more : y.counts.failed cause ≤ z.counts.failed cause = next.rises cause in
          let upto : parts.held'.counts.failed cause ≤ y.counts.failed cause = parts.upto cause in
          omega (arith, upto, more);
      parts = subst (λ (x : World). PartsOn image x parts.held z.world parts.held' n) first.same
          (subst (λ (x : World). PartsOn image b.world parts.held x parts.held' n) (sym next.same) parts.parts);
    }

-- ---- the text

-- the image was opened, and its text is what was written
pub prints_text : (image : UnpackImage) (x y : List ℕ) (h : Header) (which : AospText) (old new : Report) → y ≡ x
    → which ≡ text_wanted image.text → HasImage x h
    → new.out.log.state.bytes ≡ old.out.log.state.bytes ++ aosp_text which image.folder.now y h
    → PrintsText image x old new
prints_text image x y h which old new same wanted has written = record {
  header = h;
  has = has;
  printed = written
      ∙ ap (λ (k : AospText). old.out.log.state.bytes ++ aosp_text k image.folder.now y h) wanted
      ∙ ap (λ (z : List ℕ). old.out.log.state.bytes ++ aosp_text (text_wanted image.text) image.folder.now z h) same;
}

-- of the file at the path that was opened, and nothing was printed after it
pub text_done : (image : UnpackImage) (path x : List ℕ) (w w' : World) (h h' k : OpenFiles) (r q r' : Report)
    → path ≡ image.input.now → OpensFile w path x h h' → PrintsText image x r q
    → r'.out.log.state.bytes ≡ q.out.log.state.bytes → KeepsStored (stored w h) (stored w' k)
    → NothingFails (stored w h) (stored w' k) → TextStep image (stored w h) r (stored w' k) r' 0
text_done image path x w w' h h' k r q r' at opens prints behind kept clean = record {
  kept = kept;
  status_is = omega arith;
  clean = λ done. clean;
  refused = λ not. absurd (not refl);
  printed = λ done. record {
    file = opens.file;
    there = subst (λ p. w.at p ≡ Some opens.file) at opens.there;
    prints = subst (λ z. PrintsText image z r r') opens.held (record {
      header = prints.header;
      has = prints.has;
      printed = behind ∙ prints.printed;
    });
  };
}

pub text_refused : (image : UnpackImage) (a z : Stored) (r r' : Report) (n : ℕ) → KeepsStored a z → n ≡ 1
    → WhyRefused image a r z r' → TextStep image a r z r' n
text_refused image a z r r' n kept one why = record {
  kept = kept;
  status_is = omega (arith, one);
  printed = λ done. absurd (not_one n one done);
  clean = λ done. absurd (not_one n one done);
  refused = λ not. why;
}

-- opening fails for the bytes of the image, or since a read has failed
pub cause_of_opening : (f : SectionFault) (x : List ℕ) (n m : ℕ) (changed : Type 0) (old new : Report)
    → OpenCause f n m changed → RefusedAs x f → TextCause f x n m old new
cause_of_opening (faults.Read d) x n m changed old new cause is = cause
cause_of_opening (faults.Write d) x n m changed old new cause is = absurd is
cause_of_opening faults.SourceChanged x n m changed old new cause is = absurd is
cause_of_opening (faults.Header f) x n m changed old new cause is = is
cause_of_opening (faults.Entry i) x n m changed old new cause is = is
cause_of_opening faults.Name x n m changed old new cause is = absurd is
cause_of_opening faults.CommandLine x n m changed old new cause is = absurd is
cause_of_opening (faults.SectionTruncated s) x n m changed old new cause is = is
cause_of_opening (faults.SectionTooLarge s) x n m changed old new cause is = absurd is

-- printing fails since a read has failed, or standard output has
pub cause_of_printing : (f : SectionFault) (x : List ℕ) (n k m : ℕ) (old new : Report) → k ≡ n → PrintCause f k m
    → SectionWriteTold f old.out.faults.number new.out.faults.number → new.err.faults.number ≡ old.err.faults.number
    → new.unshown.number ≡ old.unshown.number → TextCause f x n m old new
cause_of_printing (faults.Read d) x n k m old new same cause told err unshown = omega (arith, same, cause)
cause_of_printing (faults.Write d) x n k m old new same cause told err unshown = omega (arith, told, err, unshown)
cause_of_printing faults.SourceChanged x n k m old new same cause told err unshown = absurd cause
cause_of_printing (faults.Header f) x n k m old new same cause told err unshown = absurd cause
cause_of_printing (faults.Entry i) x n k m old new same cause told err unshown = absurd cause
cause_of_printing faults.Name x n k m old new same cause told err unshown = absurd cause
cause_of_printing faults.CommandLine x n k m old new same cause told err unshown = absurd cause
cause_of_printing (faults.SectionTruncated s) x n k m old new same cause told err unshown = absurd cause
cause_of_printing (faults.SectionTooLarge s) x n k m old new same cause told err unshown = absurd cause

-- a device that was opened, failed, and is closed
reading_failed : (w u : World) (h k l : OpenFiles) (given n m : ℕ) → k.counts ≡ h.counts → n ≡ 0 → n < m
    → l ≡ counting (reads given m) k → SomeFails (stored w h) (stored u l)
reading_failed w u h k l given n m begins none more closed = record {
  cause = reading;
  rises =
      let all : l.counts.failed reading ≡ k.counts.failed reading + m
      = ap (λ (i : OpenFiles). i.counts.failed reading) closed in
      let same : k.counts.failed reading ≡ h.counts.failed reading
      = ap (λ (i : Counts). i.failed reading) begins in
      omega (arith, all, same, none, more);
}

-- a fault of the bytes of the file that was opened
none_there : (image : UnpackImage) (path x : List ℕ) (w u : World) (h k : OpenFiles) (f : SectionFault)
    → path ≡ image.input.now → OpensFile w path x h k → u ≡ w → (IsReadFault f → ⊥) → RefusedAs x f
    → HoldsNoImage image.input.now u
none_there image path x w u h k f at opens same unread is = record {
  file = opens.file;
  there = subst (λ (v : World). v.at image.input.now ≡ Some opens.file) (sym same)
      (subst (λ p. w.at p ≡ Some opens.file) at opens.there);
  fault = f;
  unread = unread;
  refused = subst (λ (v : World). RefusedAs (v.holds opens.file) f) (sym same)
      (subst (λ y. RefusedAs y f) opens.held is);
}

pub why_of_text : (image : UnpackImage) (path x : List ℕ) (w u : World) (h k l : OpenFiles) (given n m : ℕ)
    (r q r' : Report) (f : SectionFault) → path ≡ image.input.now → OpensFile w path x h k → n ≡ 0 → u ≡ w
    → l ≡ counting (reads given m) k → IsTold q r' → TextCause f x n m r q
    → WhyRefused image (stored w h) r (stored u l) r'
why_of_text image path x w u h k l given n m r q r' (faults.Read d) at opens none same closed noted is =
    failed (reading_failed w u h k l given n m (ap (λ (i : OpenFiles). i.counts) opens.taken) none is closed)
why_of_text image path x w u h k l given n m r q r' (faults.Write d) at opens none same closed noted is =
    unprinted q is noted
why_of_text image path x w u h k l given n m r q r' faults.SourceChanged at opens none same closed noted is = absurd is
why_of_text image path x w u h k l given n m r q r' (faults.Header f) at opens none same closed noted is =
    no_image (none_there image path x w u h k (faults.Header f) at opens same (λ no. no) is)
why_of_text image path x w u h k l given n m r q r' (faults.Entry i) at opens none same closed noted is =
    no_image (none_there image path x w u h k (faults.Entry i) at opens same (λ no. no) is)
why_of_text image path x w u h k l given n m r q r' faults.Name at opens none same closed noted is = absurd is
why_of_text image path x w u h k l given n m r q r' faults.CommandLine at opens none same closed noted is = absurd is
why_of_text image path x w u h k l given n m r q r' (faults.SectionTruncated s) at opens none same closed noted is =
    no_image (none_there image path x w u h k (faults.SectionTruncated s) at opens same (λ no. no) is)
why_of_text image path x w u h k l given n m r q r' (faults.SectionTooLarge s) at opens none same closed noted is =
    absurd is

-- the file was not opened
pub why_unopened : (image : UnpackImage) (w u : World) (h k : OpenFiles) (r r' : Report) (fault : HostFault)
    → k ≡ counting (call_of fault) h → WhyRefused image (stored w h) r (stored u k) r'
why_unopened image w u h k r r' fault counted =
    failed (record { cause = call fault; rises = source_failed h k fault counted })

-- it is refused on a disk that is given back, from where nothing has failed, and nothing was printed
why_from : (image : UnpackImage) (a z : Stored) (w w' : World) (h h' : OpenFiles) (r r' : Report)
    → h.counts ≡ a.counts → z ≡ stored w' h' → WhyRefused image (stored w h) r (stored w' h') r'
    → WhyRefused image a r z r'
why_from image a z w w' h h' r r' begins back (failed is) = failed (record {
  cause = is.cause;
  rises =
      let from : h.counts.failed is.cause ≡ a.counts.failed is.cause = same_count a (stored w h) is.cause begins in
      let upto : z.counts.failed is.cause ≡ h'.counts.failed is.cause
      = ap (λ (s : Stored). s.counts.failed is.cause) back in
      let rises : h.counts.failed is.cause < h'.counts.failed is.cause = is.rises in
      omega (arith, from, upto, rises);
})
why_from image a z w w' h h' r r' begins back (no_image is) =
    no_image (subst (λ (s : Stored). HoldsNoImage image.input.now s.world) (sym back) is)
why_from image a z w w' h h' r r' begins back (unprinted told cannot noted) = unprinted told cannot noted

pub text_from : (image : UnpackImage) (a z : Stored) (w w' : World) (h h' : OpenFiles) (r r' : Report) (n : ℕ)
    → w ≡ a.world → h.in_use ≡ a.in_use → h.counts ≡ a.counts → TextStep image (stored w h) r (stored w' h') r' n
    → z ≡ stored w' h' → TextStep image a r z r' n
text_from image a z w w' h h' r r' n first busy begins text back = record {
  kept = kept_from a z w w' h h' first busy begins text.kept back;
  status_is = text.status_is;
  printed = λ done. subst (λ (x : World). PrintsTextOf image x r r') first (text.printed done);
  clean = λ done. clean_from a z w w' h h' begins (text.clean done) back;
  refused = λ not. why_from image a z w w' h h' r r' begins back (text.refused not);
}

-- ---- all of it

-- no part was begun
pub ends_before : (image : UnpackImage) (a z : Stored) (r r' : Report) (n : ℕ) → StepStays a r z r' n → n ≢ 0
    → UnpackEnds image a r z r' n
ends_before image a z r r' n stays not = record {
  done = λ done. absurd (not done);
  printed = λ done. absurd (not done);
  clean = λ done. absurd (not done);
  status_is = stays.status_is;
  ends = inl (stays.kept.same, not);
}

-- they are refused
pub ends_within : (image : UnpackImage) (a b z : Stored) (r q r' : Report) (m n : ℕ) → StepStays a r b q m
    → PartsEnd image b z n → n ≢ 0 → UnpackEnds image a r z r' n
ends_within image a b z r q r' m n before parts not = record {
  done = λ done. absurd (not done);
  printed = λ done. absurd (not done);
  clean = λ done. absurd (not done);
  status_is = parts.parts.status_is;
  ends = inr (record {
    parts_status = n;
    parts = parts_within image a b z z n before.kept parts (kept_none z);
    stops = λ refused. refl;
    behind = λ none. absurd (not none);
  });
}

begun_behind : (image : UnpackImage) (a b y z : Stored) (r r' : Report) (m n : ℕ) → KeepsStored a b
    → PartsEnd image b y m → m ≡ 0 → KeepsStored y z → (n ≢ 0 → WhyRefused image a r z r')
    → UnpackBegun image a r z r' n
begun_behind image a b y z r r' m n first parts none next why = record {
  parts_status = m;
  parts = parts_within image a b y z m first parts next;
  stops = λ refused. absurd (refused none);
  behind = λ done. why;
}

-- the parts change files, and what has failed before stays counted
parts_rise : (image : UnpackImage) (a z : Stored) (n : ℕ) → PartsEnd image a z n → n ≡ 0 → (cause : Cause)
    → a.counts.failed cause ≤ z.counts.failed cause
parts_rise image a z n parts none cause =
    let from : a.counts.failed cause ≤ parts.held.counts.failed cause = parts.from cause in
    let upto : parts.held'.counts.failed cause ≤ z.counts.failed cause = parts.upto cause in
    let same : parts.held'.counts.failed cause ≡ parts.held.counts.failed cause = parts.parts.clean none cause in
    omega (arith, from, upto, same)

-- why it is refused behind the parts, before which nothing was printed
why_behind : (image : UnpackImage) (a b y u z : Stored) (r t r' : Report) (m : ℕ) → KeepsStored a b
    → PartsEnd image b y m → m ≡ 0 → KeepsStored y u → PrintsNothing r t → WhyRefused image u t z r'
    → WhyRefused image a r z r'
why_behind image a b y u z r t r' m first parts none links quiet (failed is) = failed (record {
  cause = is.cause;
  rises =
      let one : a.counts.failed is.cause ≤ b.counts.failed is.cause = first.rises is.cause in
      let two : b.counts.failed is.cause ≤ y.counts.failed is.cause
      = parts_rise image b y m parts none is.cause in
      let three : y.counts.failed is.cause ≤ u.counts.failed is.cause = links.rises is.cause in
      let rises : u.counts.failed is.cause < z.counts.failed is.cause = is.rises in
      omega (arith, one, two, three, rises);
})
why_behind image a b y u z r t r' m first parts none links quiet (no_image is) = no_image is
why_behind image a b y u z r t r' m first parts none links quiet (unprinted told cannot noted) =
    unprinted told (subst (λ (k : Report). CannotPrint k told) quiet cannot) noted

-- they are stored, and the links are refused
pub ends_behind : (image : UnpackImage) (a b y z : Stored) (r q s t r' : Report) (k m n : ℕ) → StepStays a r b q k
    → PartsEnd image b y m → m ≡ 0 → StepStays y s z t n → SomeFails y z → n ≢ 0 → UnpackEnds image a r z r' n
ends_behind image a b y z r q s t r' k m n before parts none stays fails not = record {
  done = λ done. absurd (not done);
  printed = λ done. absurd (not done);
  clean = λ done. absurd (not done);
  status_is = stays.status_is;
  ends = inr (begun_behind image a b y z r r' m n before.kept parts none stays.kept (λ refused.
      why_behind image a b y y z r r r' m before.kept parts none (kept_none y) refl (failed fails)));
}

same_number : (a b : ℕ) → Some a ≡ Some b → a ≡ b
same_number a b e = cc

-- The image's file holds what it held before its parts were written. So the text is that of the same image, and it is
-- all that was printed.
prints_first : (image : UnpackImage) (w w' : World) (P : List ℕ → Type 0) (read begun : List ℕ) (r q r' : Report)
    → UnpacksAsAosp image.input.now image.folder.now w w' → OnlyAmong P read begun w w'
    → KeepsFile image.input.now w w' → PrintsNothing r q → PrintsTextOf image w' q r' → PrintsTextOf image w r r'
prints_first image w w' P read begun r q r' unpacks only keeps quiet printed =
    let path = image.input.now in
    let here : w'.at path ≡ Some unpacks.from = only.leads path unpacks.from unpacks.there in
    let one : printed.file ≡ unpacks.from = same_number _ _ (sym printed.there ∙ here) in
    let holds : w'.holds printed.file ≡ w.holds unpacks.from =
    ap w'.holds one ∙ keeps unpacks.from unpacks.there in
    let told : q.out.log.state.bytes ≡ r.out.log.state.bytes = ap (λ (k : Report). k.out.log.state.bytes) quiet in
    let text = printed.prints in
    record {
      file = unpacks.from;
      there = unpacks.there;
      prints = subst (λ z. PrintsText image z r r') holds (record {
        header = text.header;
        has = text.has;
        printed = text.printed ∙ ap (λ (b : List ℕ). b
            ++ aosp_text (text_wanted image.text) image.folder.now (w'.holds printed.file) text.header) told;
      });
    }

-- they are stored, the links are made, and this is how the text ends
pub ends_at_last : (image : UnpackImage) (a b y u z : Stored) (r q s t r' : Report) (j k m n : ℕ) → StepStays a r b q j
    → j ≡ 0 → PartsEnd image b y m → m ≡ 0 → PrintsNothing q s → NothingFails b y → StepStays y s u t k → k ≡ 0
    → TextStep image u t z r' n → UnpackEnds image a r z r' n
ends_at_last image a b y u z r q s t r' j k m n before made parts none quiet clean links linked text =
    let behind = kept_then y u z links.kept text.kept in
    let all : PartsEnd image a z m = parts_within image a b y z m before.kept parts behind in
    let told = quiet_then r s t (quiet_then r q s (before.quiet made) quiet) (links.quiet linked) in
    record {
      done = λ done. all.parts.done none;
      printed = λ done. prints_first image a.world z.world _ _ _ r t r' (all.parts.done none) all.parts.only
          all.parts.keeps told
          (subst (λ (x : World). PrintsTextOf image x t r') (sym text.kept.same) (text.printed done));
      clean = λ done. clean_then a b z (before.clean made) (clean_then b y z clean
          (clean_then y u z (links.clean linked) (text.clean done)));
      status_is = text.status_is;
      ends = inr (begun_behind image a b y z r r' m n before.kept parts none behind (λ refused.
          why_behind image a b y u z r t r' m before.kept parts none links.kept told (text.refused refused)));
    }
