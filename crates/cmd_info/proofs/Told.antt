-- What a check finds, and which faults are reported.
use Rattle.std.proofs.Common.{◌≡◌, ◌<◌, ◌+◌, ◌-◌, ◌⊎◌, inl, inr, ℕ, List, Bool, true, false, IsTrue}
use Rattle.std.proofs.Common.{◌&&◌}
use Rattle.std.proofs.Common.{take, flat_map, Option, option_map, option_to_list}
use Rattle.std.proofs.Common.{refl, sym, ◌∙◌, ap, subst, arith}
use Rattle.std.proofs.lemmas.Bool.{true≢false}
use Rattle.sys_disk.specs.Counts.{Cause, Counts, call, call_of, calls, of_reading, reading, reads}
use Rattle.sys_disk.specs.Counts.{writing}
use Rattle.sys_disk.specs.World.{World, OpenFiles, OpensFile, HasFailed, HasNotFailed, counting}
use Rattle.sys_disk.proofs.Failings.{counts_one}
use Rattle.abt_headers.proofs.Fields.{IsBytes}
use Rattle.sys_report.specs.Shows.{CannotPrint, ShowsHere}
use Rattle.sys_report.specs.declared.report.Report.{Report}
use Rattle.sys_refusals.specs.declared.refusal.HostFault.{HostFault}
use Rattle.abt_sections.proofs.Canonical.{canonical_iff}
use Rattle.abt_sections.specs.Check.{IsVerdict}
use Rattle.abt_sections.specs.declared.checking.Verdict.{Verdict}
use Rattle.abt_sections.specs.declared.fault.SectionFault.{SectionFault}
use Rattle.abt_sections.specs.declared.fault.SectionFault.TheVariants as sections
use Rattle.abt_sections.specs.declared.image.Image.{Image}
use Rattle.abt_sections.specs.Header.{Header, view_of}
use Rattle.abt_sections.specs.Open.{HasImage, IsOpened}
use Rattle.cmd_common_findings.specs.Finding.{first_unpadded}
use Rattle.cmd_common_findings.specs.LeftOut.{end_of}
use Rattle.cmd_common_findings.specs.ReasonLines.{lines_of, printed}
use Rattle.cmd_common_findings.specs.Reasons.{ReasonCause, ReasonsAre}
use Rattle.cmd_common_findings.specs.declared.reason_lines.Finding.{Finding}
use Rattle.cmd_common_findings.specs.declared.reasons.Findings.{Findings}
use Rattle.cmd_common_findings.specs.declared.reasons.Reason.TheVariants.{Byte}
use Rattle.cmd_common_boot.specs.declared.fault.BootCommandFault.{BootCommandFault}
use Rattle.cmd_common_boot.specs.declared.fault.BootCommandFault.TheVariants as faults
use Rattle.cmd_common_texts.specs.Info.{InfoCause, Reports, SectionWriteTold}
use Rattle.cmd_common_texts.specs.declared.info_lines.Notation.{Notation}
use Rattle.cmd_info.specs.Informing.{IsCheckRefusal, IsFailedHost, IsFlawedImage, IsInfoFault, IsInfoRefusal}
use Rattle.cmd_info.specs.Informing.{IsSoundImage}
use Rattle.cmd_info.specs.Informing.{RefusesInfo, TellsFile, TellsFindings, TellsImage, is_good}

-- ---- the verdict

good_all : (a b c d : Bool) → (a && b && c && d) ≡ true → (a ≡ true) × (b ≡ true) × (c ≡ true) × (d ≡ true)
good_all true true true true good = (refl, refl, refl, refl)
good_all true true true false good = absurd (true≢false (sym good))
good_all true true false d good = absurd (true≢false (sym good))
good_all true false c d good = absurd (true≢false (sym good))
good_all false b c d good = absurd (true≢false (sym good))

all_good : (a b c d : Bool) → a ≡ true → b ≡ true → c ≡ true → d ≡ true → (a && b && c && d) ≡ true
all_good true true true true p q r s = refl
all_good false b c d p q r s = p
all_good true false c d p q r s = q
all_good true true false d p q r s = r
all_good true true true false p q r s = s

pub sound : (x : List ℕ) (h : Header) (v : Verdict) → IsBytes x → HasImage x h → IsVerdict x h v → is_good v ≡ true
    → IsSoundImage x
sound x h v bytes image right good =
    let all = good_all v.canonical v.padding v.id v.offset good in (
      h,
      image,
      record {
        packed = (canonical_iff x h bytes image).0 (right.canonical.0 all.0);
        padding = sym right.padding ∙ all.1;
        id = right.id.0 all.2;
        offset = sym right.offset ∙ all.3;
      },
    )

pub flawed : (x : List ℕ) (h : Header) (v : Verdict) → IsBytes x → HasImage x h → IsVerdict x h v → is_good v ≡ false
    → IsFlawedImage x
flawed x h v bytes image right bad = (
  h,
  image,
  λ holds.
      true≢false (sym (all_good v.canonical v.padding v.id v.offset
      (right.canonical.1 ((canonical_iff x h bytes image).1 holds.packed)) (right.padding ∙ holds.padding)
      (right.id.1 holds.id) (right.offset ∙ holds.offset)) ∙ bad),
)

-- ---- faults

-- of printing the text
pub informed : (f : SectionFault) (x : List ℕ) (r r' : ℕ) (nothing : Type 0) (old new : Report)
    → InfoCause f x r r' nothing → SectionWriteTold f old.out.faults.number new.out.faults.number
    → IsInfoFault x (r < r') old new f
informed (sections.Read f) x r r' nothing old new cause writes = cause
informed (sections.Write f) x r r' nothing old new cause writes = writes
informed sections.SourceChanged x r r' nothing old new cause writes = absurd cause
informed (sections.Header f) x r r' nothing old new cause writes = cause.0
informed (sections.Entry i) x r r' nothing old new cause writes = cause.0
informed sections.Name x r r' nothing old new cause writes = absurd cause
informed sections.CommandLine x r r' nothing old new cause writes = absurd cause
informed (sections.SectionTruncated s) x r r' nothing old new cause writes = cause.0
informed (sections.SectionTooLarge s) x r r' nothing old new cause writes = absurd cause

pub info_told : (x : List ℕ) (o : Notation) (with_check : Bool) (failed : Type 0) (old new : Report)
    (fault : BootCommandFault) (f : SectionFault) → fault ≡ faults.Section f
    → IsInfoFault x failed old new f → IsInfoRefusal x o with_check failed old new fault
info_told x o with_check failed old new fault f same own =
    subst (λ g. IsInfoRefusal x o with_check failed old new g) (sym same) own

-- of finding the reasons
reasons_fail : (f : SectionFault) (v : Verdict) (r r' : ℕ) (changed unprinted : Type 0) → ReasonCause f r r' changed
    → IsCheckRefusal v (r < r') changed unprinted (faults.Section f)
reasons_fail (sections.Read f) v r r' changed unprinted cause = cause
reasons_fail (sections.Write f) v r r' changed unprinted cause = absurd (omega (arith, cause))
reasons_fail sections.SourceChanged v r r' changed unprinted cause = cause
reasons_fail (sections.Header f) v r r' changed unprinted cause = absurd cause
reasons_fail (sections.Entry i) v r r' changed unprinted cause = absurd cause
reasons_fail sections.Name v r r' changed unprinted cause = absurd cause
reasons_fail sections.CommandLine v r r' changed unprinted cause = absurd cause
reasons_fail (sections.SectionTruncated s) v r r' changed unprinted cause = absurd cause
reasons_fail (sections.SectionTooLarge s) v r r' changed unprinted cause = absurd cause

pub reasons_told : (f : SectionFault) (v : Verdict) (r r' : ℕ) (changed unprinted : Type 0) (fault : BootCommandFault)
    → fault ≡ faults.Section f → ReasonCause f r r' changed → IsCheckRefusal v (r < r') changed unprinted fault
reasons_told f v r r' changed unprinted fault same cause =
    subst (λ g. IsCheckRefusal v (r < r') changed unprinted g) (sym same)
    (reasons_fail f v r r' changed unprinted cause)

-- what could not be printed after a text that was
pub cannot_behind : (old between new : Report) → between.out.faults.number ≡ old.out.faults.number
    → between.err.faults.number ≡ old.err.faults.number → between.unshown.number ≡ old.unshown.number
    → CannotPrint between new → CannotPrint old new
cannot_behind old between new out err unshown cannot = omega (arith, out, err, unshown, cannot)

-- of the check, after the text
pub checked : (x : List ℕ) (o : Notation) (with_check : Bool) (v : Verdict) (r q r' : ℕ) (old between new : Report)
    (C U : Type 0) (fault : BootCommandFault) → IsTrue with_check → between ≡ record old { out = between.out } → q ≡ r
    → Reports o x old.out.log.state.bytes between.out.log.state.bytes
    → (is_good v ≡ false → IsFlawedImage x) → (fault ≡ faults.CheckFailed → TellsFindings x between new)
    → (C → ⊥) → (U → CannotPrint old new) → IsCheckRefusal v (q < r') C U fault
    → IsInfoRefusal x o with_check (r < r') old new fault
checked x o with_check v r q r' old between new C U (faults.Host f) wanted alone same text flaw lines never up told =
    (told.0, wanted, record { between = between; alone = alone; text = text }, up told.1)
checked x o with_check v r q r' old between new C U (faults.Section
    (sections.Read f)) wanted alone same text flaw lines never up told = omega (arith, same, told)
checked x o with_check v r q r' old between new C U (faults.Section
    sections.SourceChanged) wanted alone same text flaw lines never up told = absurd (never told)
checked x o with_check v r q r' old between new C U (faults.Section
    (sections.Write f)) wanted alone same text flaw lines never up told = absurd told
checked x o with_check v r q r' old between new C U (faults.Section
    (sections.Header f)) wanted alone same text flaw lines never up told = absurd told
checked x o with_check v r q r' old between new C U (faults.Section
    (sections.Entry i)) wanted alone same text flaw lines never up told = absurd told
checked x o with_check v r q r' old between new C U (faults.Section
    sections.Name) wanted alone same text flaw lines never up told = absurd told
checked x o with_check v r q r' old between new C U (faults.Section
    sections.CommandLine) wanted alone same text flaw lines never up told = absurd told
checked x o with_check v r q r' old between new C U (faults.Section
    (sections.SectionTruncated s)) wanted alone same text flaw lines never up told = absurd told
checked x o with_check v r q r' old between new C U (faults.Section
    (sections.SectionTooLarge s)) wanted alone same text flaw lines never up told = absurd told
checked x o with_check v r q r' old between new C U (faults.OptionNotCarried
    name) wanted alone same text flaw lines never up told = absurd told
checked x o with_check v r q r' old between new C U (faults.BadFragment
    word) wanted alone same text flaw lines never up told = absurd told
checked x o with_check v r q r' old between new C U (faults.BadNumber
    word) wanted alone same text flaw lines never up told = absurd told
checked x o with_check v r q r' old between new C U (faults.BadBoardId
    word) wanted alone same text flaw lines never up told = absurd told
checked x o with_check v r q r' old between new C U faults.CheckFailed wanted alone same text flaw lines never up
    told = (
      wanted,
      record {
        told = record { between = between; alone = alone; text = text };
        checked = lines refl;
        flawed = flaw told;
      },
    )

-- ---- of the file

fault_more : (x : List ℕ) (P Q : Type 0) (old new : Report) (f : SectionFault) → (P → Q)
    → IsInfoFault x P old new f → IsInfoFault x Q old new f
fault_more x P Q old new (sections.Read f) more fault = more fault
fault_more x P Q old new (sections.Write f) more fault = fault
fault_more x P Q old new sections.SourceChanged more fault = fault
fault_more x P Q old new (sections.Header f) more fault = fault
fault_more x P Q old new (sections.Entry i) more fault = fault
fault_more x P Q old new sections.Name more fault = absurd fault
fault_more x P Q old new sections.CommandLine more fault = absurd fault
fault_more x P Q old new (sections.SectionTruncated s) more fault = fault
fault_more x P Q old new (sections.SectionTooLarge s) more fault = absurd fault

refusal_more : (x : List ℕ) (o : Notation) (with_check : Bool) (P Q : Type 0) (old new : Report)
    (fault : BootCommandFault) → (P → Q) → IsInfoRefusal x o with_check P old new fault
    → IsInfoRefusal x o with_check Q old new fault
refusal_more x o with_check P Q old new (faults.Host f) more refuses = refuses
refusal_more x o with_check P Q old new (faults.Section f) more refuses =
    fault_more x P Q old new f more refuses
refusal_more x o with_check P Q old new (faults.OptionNotCarried name) more refuses = absurd refuses
refusal_more x o with_check P Q old new (faults.BadFragment word) more refuses = absurd refuses
refusal_more x o with_check P Q old new (faults.BadNumber word) more refuses = absurd refuses
refusal_more x o with_check P Q old new (faults.BadBoardId word) more refuses = absurd refuses
refusal_more x o with_check P Q old new faults.CheckFailed more refuses = refuses

pub refuses : (path x : List ℕ) (o : Notation) (with_check : Bool) (world : World) (h h' k : OpenFiles) (n r r' : ℕ)
    (old new : Report) (fault : BootCommandFault) → OpensFile world path x h h' → r ≡ 0 → k ≡ counting (reads n r') h'
    → IsInfoRefusal x o with_check (r < r') old new fault
    → RefusesInfo path o with_check world (λ cause. HasFailed cause h k) old new fault
refuses path x o with_check world h h' k n r r' old new fault opens none let_go told =
    let e : h'.counts.failed reading ≡ h.counts.failed reading = ap (λ q. q.counts.failed reading) opens.taken in
    let d : k.counts.failed reading ≡ h'.counts.failed reading + r' = ap (λ q. q.counts.failed reading) let_go in
    inr (
      opens.file,
      opens.there,
      subst (λ z. IsInfoRefusal z o with_check (HasFailed reading h k) old new fault) opens.held
          (refusal_more x o with_check (r < r') (HasFailed reading h k) old new fault (λ failed. omega (
            arith,
            e,
            d,
            failed,
          )) told),
    )

pub refuses_host : (other : Type 0) (h k : OpenFiles) (fault : BootCommandFault) (host : HostFault)
    → fault ≡ faults.Host host → k ≡ counting (call_of host) h
    → IsFailedHost (λ cause. HasFailed cause h k) fault ⊎ other
refuses_host other h k fault host same failed =
    let one = counts_one host in
    let d : k.counts.failed (call host) ≡ h.counts.failed (call host) + calls host (call host) =
    ap (λ q. q.counts.failed (call host)) failed in
    inl (host, same, omega (arith, d, one))

-- a source that has not failed
no_reads : (cause : Cause) → of_reading 0 cause ≡ 0
no_reads (call f) = refl
no_reads reading = refl
no_reads writing = refl

pub tells_file : (path x : List ℕ) (o : Notation) (with_check : Bool) (world : World) (h h' : OpenFiles)
    (old new : Report)
    → OpensFile world path x h h' → TellsImage o with_check x old new → TellsFile path o with_check world old new
tells_file path x o with_check world h h' old new opens told = record {
  file = opens.file;
  there = opens.there;
  told = subst (λ z. TellsImage o with_check z old new) opens.held told;
}

pub none_failed : (path x : List ℕ) (world : World) (h h' k : OpenFiles) (n r r' : ℕ) → OpensFile world path x h h'
    → r ≡ 0 → r' ≡ r → k ≡ counting (reads n r') h' → HasNotFailed h k
none_failed path x world h h' k n r r' opens none same let_go = λ cause.
    let e : h'.counts.failed cause ≡ h.counts.failed cause = ap (λ q. q.counts.failed cause) opens.taken in
    let d : k.counts.failed cause ≡ h'.counts.failed cause + of_reading r' cause =
    ap (λ q. q.counts.failed cause) let_go in
    let z : of_reading r' cause ≡ 0 = ap (λ j. of_reading j cause) (same ∙ none) ∙ no_reads cause in
    omega (arith, e, d, z)

pub begun_same : (path x : List ℕ) (world : World) (h h' k : OpenFiles) (n : Counts) → OpensFile world path x h h'
    → k ≡ counting n h' → k.begun ≡ h.begun
begun_same path x world h h' k n opens let_go = ap (λ q. q.begun) let_go ∙ ap (λ q. q.begun) opens.taken

-- ---- what was printed

pub as_told : (o o' : Notation) (x a b : List ℕ) → o' ≡ o → Reports o' x a b → Reports o x a b
as_told o o' x a b same text = subst (λ n. Reports n x a b) same text

pub text_alone : (o : Notation) (with_check : Bool) (x : List ℕ) (old new : Report) → with_check ≡ false
    → new ≡ record old { out = new.out } → Reports o x old.out.log.state.bytes new.out.log.state.bytes
    → TellsImage o with_check x old new
text_alone o true x old new off alone text = absurd (true≢false off)
text_alone o false x old new off alone text = record {
  told = record { between = new; alone = alone; text = text };
  alone = λ none. refl;
  checked = λ on. absurd (true≢false (sym on));
  good = λ on. absurd (true≢false (sym on));
}

pub text_checked : (o : Notation) (with_check : Bool) (x : List ℕ) (old between new : Report) → with_check ≡ true
    → between ≡ record old { out = between.out } → Reports o x old.out.log.state.bytes between.out.log.state.bytes
    → TellsFindings x between new
    → IsSoundImage x → TellsImage o with_check x old new
text_checked o true x old between new on alone text lines good = record {
  told = record { between = between; alone = alone; text = text };
  alone = λ off. absurd (true≢false off);
  checked = λ wanted. lines;
  good = λ wanted. good;
}
text_checked o false x old between new on alone text lines good = absurd (true≢false (sym on))

-- ---- the lines of the check

-- what was found of x, with the lines that went out
pub tells_findings : (x : List ℕ) (image : Image) (v : Verdict) (found : Findings) (old new : Report)
    → IsOpened x image → IsVerdict x (view_of image.header) v → ReasonsAre found v
    → found.padding ≡ option_map (λ n. Byte n) (first_unpadded x (view_of image.header))
    → found.trailing ≡ image.length - end_of (view_of image.header)
    → ShowsHere old new (printed (lines_of found)) → TellsFindings x old new
tells_findings x image v found old new opened right reasons padding trailing shown = record {
  found = found;
  is_found = record {
    header = view_of image.header;
    image = opened.has;
    verdict = v;
    right = right;
    reasons = reasons;
    padding = padding;
    trailing = trailing ∙ ap (λ n. n - end_of (view_of image.header)) opened.length;
  };
  shown = shown;
}

-- the lines of the first i
abbrev pub upto : List (Option Finding) → ℕ → List ℕ
upto lines i = printed (flat_map (λ line. option_to_list line) (take i lines))
