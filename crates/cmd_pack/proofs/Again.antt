-- An image that is packed again: all that it is written from, and what is left of files.
use Rattle.std.proofs.Common.{◌≡◌, ◌<◌, ◌≤◌, ◌+◌, ◌⊎◌, inl, inr, ℕ, List, [], ◌∷◌, ◌++◌, Option}
use Rattle.std.proofs.Common.{Bor, length, map, refl, sym, ap, ◌∙◌, subst, arith}
use Rattle.std.specs.Prelude.{Bool, Contains, IfErr, IsTrue, OnOk, Result, Ok, Err, if◌then◌else◌}
use Rattle.std.proofs.lemmas.List.Elements.{Contains-append_left}
use Rattle.sys_refusals.specs.Paths.{output_path}
use Rattle.sys_disk.specs.World.{World, OpenFiles, HasFailed, OnlyAt, untouched, in_output, Spares}
use Rattle.sys_disk.specs.World.{SparesInUse, counting}
use Rattle.sys_disk.specs.Counts.{Cause, call, call_of, no_counts, reading}
use Rattle.sys_refusals.specs.declared.refusal.HostFault.{HostFault}
use Rattle.sys_refusals.specs.declared.refusal.HostFault.TheVariants as hosts
use Rattle.abt_sections.specs.Fields.{BootFields, cmd_common_fields}
use Rattle.abt_sections.specs.Header.{Header}
use Rattle.abt_sections.specs.declared.fault.SectionFault.{SectionFault}
use Rattle.abt_sections.specs.declared.spec.FragmentSpec.{FragmentSpec}
use Rattle.cmd_common_fields.specs.Kind.{kind_of}
use Rattle.cmd_common_fields.specs.declared.image_kind.ImageKind.{ImageKind}
use Rattle.cmd_common_boot.specs.Boards.{AreSet}
use Rattle.cmd_common_boot.specs.Given.{AreGiven}
use Rattle.cmd_common_boot.specs.ImageFaults.{SomeFailed}
use Rattle.cmd_common_boot.specs.NotJudged.{fault_of, refusals_of}
use Rattle.cmd_common_boot.specs.Parts.{part_sections}
use Rattle.cmd_common_boot.specs.Wrong.{IsUntaken, IsWrong}
use Rattle.cmd_common_boot.specs.declared.fault.BootCommandFault.{BootCommandFault}
use Rattle.cmd_common_boot.specs.declared.fault.BootCommandFault.TheVariants as faults
use Rattle.cmd_common_boot.specs.declared.not_judged.NotJudged.{NotJudged}
use Rattle.cmd_common_boot.specs.declared.not_judged.NotJudged.TheVariants as not_judged
use Rattle.cmd_common_boot.specs.declared.pack_command.PackCommand.{PackCommand}
use Rattle.cmd_common_boot.specs.declared.pack_texts.FragmentText.{FragmentText}
use Rattle.cmd_common_boot.specs.declared.pack_texts.OptionText.{OptionText}
use Rattle.cmd_common_boot.specs.declared.pack_texts.PackTexts.{PackTexts}
use Rattle.cmd_pack_outputs.specs.Contents.{Packing, image_from, refusal_from}
use Rattle.cmd_pack.specs.Filling.{loaded_at}
use Rattle.cmd_pack_outputs.specs.Lines.{counted_in_u64, image_line}
use Rattle.cmd_pack_inputs.specs.Opening.{OpensMore, StopsOpening, failed, no_memory, no_text}
use Rattle.cmd_pack_inputs.specs.Own.{StandsIn, kept_behind, no_path, own_fields}
use Rattle.cmd_pack.specs.Packing.{board_id_words}
use Rattle.cmd_pack_inputs.specs.Parts.{ArePartsOf, IsFragmentInput, IsGivenPath, IsPartInput, of_fragment}
use Rattle.cmd_pack_inputs.specs.Parts.{of_part}
use Rattle.cmd_pack_inputs.specs.BadBoards.{IsBadBoard}
use Rattle.cmd_pack.specs.RefusingAgain as again
use Rattle.cmd_pack.specs.RefusingAgain.{RefusesAgain, StopsFillingAgain}
use Rattle.cmd_pack_inputs.specs.Judging as judging
use Rattle.cmd_pack_inputs.specs.Judging.{StopsJudging}
use Rattle.cmd_pack.specs.Repacking.{AreAskedAgain, AreFieldsAgain, AreFragmentsAgain, IsPackedAgain}
use Rattle.cmd_pack.specs.Repacking.{KeepsGivenAgain}
use Rattle.cmd_pack.specs.Repacking.{PacksAgain}
use Rattle.cmd_pack_outputs.specs.Writing.{HoldsNoPartOf, LaysImage, LeavesOut, StopsWriting}
use Rattle.cmd_common_boot.specs.Fault.{IsCauseOf}
use Rattle.cmd_pack_outputs.specs.Writing as writing
use Rattle.cmd_pack.proofs.Left.{on_ok_by}
use Rattle.cmd_pack_inputs.proofs.Openings.{failed_then, opens_none, opens_then, stops_more, stops_then}
use Rattle.cmd_common_boot.proofs.Calls.{same_counting}
use Rattle.cmd_common_boot.proofs.Causes.{source_failed}
use Rattle.cmd_pack_outputs.proofs.Closes.{call_fails, failure_more}

-- ---- ramdisk fragments

contains_none : (fs : List FragmentText) (text : FragmentText) → fs ≡ [] → Contains fs text → ⊥
contains_none fs text none is = let e : Contains [] text = subst (λ l. Contains l text) none is in omega (arith, e.1)

pub no_fragments : (fs : List FragmentText) → fs ≡ [] → (path : List ℕ) → IsFragmentInput fs path → ⊥
no_fragments fs none path is = contains_none fs is.text none is.is_one

pub opened_none : {X E : Type 0} (r : Result X E) (fs : List FragmentText) (w : World) (h h' : OpenFiles) → fs ≡ []
    → OnOk r (h' ≡ h) → OnOk r (OpensMore (IsFragmentInput fs) w h h')
opened_none (Ok x) fs w h h' none same = opens_none (IsFragmentInput fs) w h h' same (no_fragments fs none)
opened_none (Err e) fs w h h' none same = tt

-- where no path is named, no call failed because of one
pub none_stops : {X E : Type 0} (r : Result X E) (fault : E → HostFault) (B : List ℕ → Type 0) (h h' : OpenFiles)
    → IfErr r (λ e. StopsOpening no_path h h' (fault e)) → IfErr r (λ e. StopsOpening B h h' (fault e))
none_stops (Ok x) fault B h h' stops = tt
none_stops (Err e) fault B h h' stops = stops_more no_path B h h' (fault e) stops (λ p is. absurd is)

-- ---- all that it is written from

pub asked_again : (command : PackCommand) (w w' : World) (x : List ℕ) (h : Header) (kind : ImageKind)
    (given : BootFields)
    (p : Packing) (parts : List (List ℕ)) (ramdisks : List (List ℕ)) (said : List FragmentSpec)
    → kind ≡ kind_of h → w' ≡ w
    → ArePartsOf w' command.texts.options.items (StandsIn x h) (part_sections kind) parts → p.parts ≡ parts
    → AreFragmentsAgain w command.texts.fragments.items x h said ramdisks → p.ramdisks ≡ ramdisks
    → AreSet (board_id_words command) said p.specs
    → cmd_common_fields p.fields ≡ loaded_at kind command.texts.options.items parts given
    → p.fields.is_front_ended ≡ command.texts.is_front_ended
    → AreAskedAgain command w x h given p
asked_again command w w' x h kind given p parts ramdisks said is same of_parts ps of_all rs boards loaded end = record {
  parts = subst (λ k. ArePartsOf w command.texts.options.items (StandsIn x h) (part_sections k) p.parts) is
      (subst (λ v. ArePartsOf v command.texts.options.items (StandsIn x h) (part_sections kind) p.parts) same
      (subst (λ l. ArePartsOf w' command.texts.options.items (StandsIn x h) (part_sections kind) l) (sym ps) of_parts));
  said = said;
  fragments = subst (λ l. AreFragmentsAgain w command.texts.fragments.items x h said l) (sym rs) of_all;
  boards = boards;
  loaded = loaded ∙ ap (λ k. loaded_at k command.texts.options.items parts given) is
      ∙ ap (λ l. loaded_at (kind_of h) command.texts.options.items l given) (sym ps);
  front = end;
}

pub each_path : (texts : PackTexts) (kind : ImageKind) (path : List ℕ) → IsGivenPath texts kind path
    → IsFragmentInput texts.fragments.items path ⊎ IsPartInput texts.options.items (part_sections kind) path
each_path texts kind path (of_part is) = inr is
each_path texts kind path (of_fragment is) = inl is

-- the files of the fragments, and then those of the parts
pub opens_given : (texts : PackTexts) (kind : ImageKind) (w w' : World) (h h' h'' h3 : OpenFiles) → w' ≡ w
    → OpensMore (IsFragmentInput texts.fragments.items) w h h'
    → OpensMore (IsPartInput texts.options.items (part_sections kind)) w' h' h'' → h3 ≡ counting no_counts h''
    → OpensMore (IsGivenPath texts kind) w h h3
opens_given texts kind w w' h h' h'' h3 same a b last = subst (OpensMore (IsGivenPath texts kind) w h)
    (sym (last ∙ same_counting h''))
    (opens_then (IsFragmentInput texts.fragments.items) (IsPartInput texts.options.items (part_sections kind))
    (IsGivenPath texts kind) w w' h h' h'' same a b (each_path texts kind))

pub none_unread : (a b c d : ℕ) → a ≡ 0 → b ≡ 0 → c ≡ 0 → d ≡ 0 → a + b + c + d ≡ 0
none_unread a b c d e f g h = omega (arith, e, f, g, h)

-- ---- why the data is incomplete

pub filling_stops : (command : PackCommand) (w : World) (x : List ℕ) (h : Header) (A : List ℕ → Type 0)
    (k k' : OpenFiles)
    (f : HostFault) (fault : BootCommandFault)
    → ((path : List ℕ) → A path → IsGivenPath command.texts (kind_of h) path) → StopsOpening A k k' f
    → fault ≡ faults.Host f → StopsFillingAgain command w x h (λ cause. HasFailed cause k k') fault
filling_stops command w x h A k k' f fault wider (failed more) same =
    again.unopened (call_fails fault f (λ cause. HasFailed cause k k') same more)
filling_stops command w x h A k k' f fault wider (no_text path is bad told) same =
    again.not_text path (wider path is) bad (same ∙ ap (λ q. faults.Host q) told)
filling_stops command w x h A k k' f fault wider (no_memory told more) same =
    again.no_space (record { told = same ∙ ap (λ q. faults.Host q) told; counted = more })

pub parts_stop : (command : PackCommand) (w : World) (x : List ℕ) (h : Header) (kind : ImageKind) (k k' k'' : OpenFiles)
    (f : HostFault) (fault : BootCommandFault) → kind ≡ kind_of h
    → OpensMore (IsFragmentInput command.texts.fragments.items) w k k'
    → StopsOpening (IsPartInput command.texts.options.items (part_sections kind)) k' k'' f → fault ≡ faults.Host f
    → StopsFillingAgain command w x h (λ cause. HasFailed cause k k'') fault
parts_stop command w x h kind k k' k'' f fault is opened stop same =
    filling_stops command w x h (IsGivenPath command.texts (kind_of h)) k k'' f fault (λ path given. given)
    (stops_then (IsFragmentInput command.texts.fragments.items)
    (IsPartInput command.texts.options.items (part_sections kind)) (IsGivenPath command.texts (kind_of h)) w k k' k'' f
    opened stop (λ path p. subst (λ q. IsGivenPath command.texts q path) is (of_part p))) same

pub board_stops : (command : PackCommand) (w : World) (x : List ℕ) (h : Header) (P : Cause → Type 0)
    (said : List FragmentSpec) (ramdisks : List (List ℕ)) (words : List (Bor (List ℕ))) (fault : BootCommandFault)
    → AreFragmentsAgain w command.texts.fragments.items x h said ramdisks → words ≡ command.board_ids.items
    → IsBadBoard (map (λ word. word.now) words) (length said) fault → StopsFillingAgain command w x h P fault
board_stops command w x h P said ramdisks words fault are same bad =
    again.bad_board (record {
      said = said;
      ramdisks = ramdisks;
      fragments = are;
      bad = subst (λ l. IsBadBoard (map (λ word. word.now) l) (length said) fault) same bad;
    })

pub boards_set : (command : PackCommand) (words : List (Bor (List ℕ))) (said set all : List FragmentSpec)
    → words ≡ command.board_ids.items → AreSet (map (λ word. word.now) words) said set → all ≡ set
    → AreSet (board_id_words command) said all
boards_set command words said set all same are told = subst (AreSet (board_id_words command) said) (sym told)
    (subst (λ l. AreSet (map (λ word. word.now) l) said set) same are)

pub behind_stops : (command : PackCommand) (w : World) (x : List ℕ) (h : Header) (kind : ImageKind)
    (k k' k'' k3 : OpenFiles)
    (v : World) (f : HostFault) (fault : BootCommandFault)
    → OpensMore (IsFragmentInput command.texts.fragments.items) w k k'
    → OpensMore (IsPartInput command.texts.options.items (part_sections kind)) v k' k'' → k3 ≡ counting (call_of f) k''
    → fault ≡ faults.Host f → StopsFillingAgain command w x h (λ cause. HasFailed cause k k3) fault
behind_stops command w x h kind k k' k'' k3 v f fault a b more same =
    again.unopened (call_fails fault f (λ cause. HasFailed cause k k3) same
    (failed_then (IsFragmentInput command.texts.fragments.items) w k k' k3 (call f) a
    (failed_then (IsPartInput command.texts.options.items (part_sections kind)) v k' k'' k3 (call f) b
    (source_failed k'' k3 f more))))

-- ---- the image is written

-- the data is complete: what packing is given, the bytes that it writes of it, and its fault
pub record Ready (command : PackCommand) (x : List ℕ) (h : Header) (w w' : World) (k k' : OpenFiles) (bytes : List ℕ)
    (refusal : Option SectionFault) : Type 0 where
  pub same : w' ≡ w
  pub opened : OpensMore (IsGivenPath command.texts (kind_of h)) w k k'
  pub given : BootFields
  pub are_given : AreFieldsAgain command h given
  pub packing : Packing
  pub asked : AreAskedAgain command w x h given packing
  pub is : bytes ≡ image_from (kind_of h) packing ++ kept_behind command.keeps_trailing x h
  pub refuses : refusal ≡ refusal_from (kind_of h) packing

fields_again : (command : PackCommand) (h : Header) (kind : ImageKind) (own given : BootFields) → kind ≡ kind_of h
    → own ≡ own_fields h → AreGiven own kind command.page command.texts.options.items given
    → AreFieldsAgain command h given
fields_again command h kind own given is same are =
    subst (λ q. AreGiven q (kind_of h) command.page command.texts.options.items given) same
    (subst (λ q. AreGiven own q command.page command.texts.options.items given) is are)

pub ready : (command : PackCommand) (x : List ℕ) (h : Header) (w w' : World) (k k' : OpenFiles) (kind kind' : ImageKind)
    (own given : BootFields) (p : Packing) (behind : List ℕ) → kind ≡ kind_of h → kind' ≡ kind → w' ≡ w
    → OpensMore (IsGivenPath command.texts kind) w k k' → own ≡ own_fields h
    → AreGiven own kind command.page command.texts.options.items given → AreAskedAgain command w x h given p
    → behind ≡ kept_behind command.keeps_trailing x h
    → Ready command x h w w' k k' (image_from kind' p ++ behind) (refusal_from kind' p)
ready command x h w w' k k' kind kind' own given p behind is is' same opened own_is are asked behind_is = record {
  same = same;
  opened = subst (λ q. OpensMore (IsGivenPath command.texts q) w k k') is opened;
  given = given;
  are_given = fields_again command h kind own given is own_is are;
  packing = p;
  asked = asked;
  is = ap (λ q. image_from q p ++ behind) (is' ∙ is) ∙ ap (λ b. image_from (kind_of h) p ++ b) behind_is;
  refuses = ap (λ q. refusal_from q p) (is' ∙ is);
}

module _ (command : PackCommand) (x : List ℕ) (h : Header) (w w' : World) (k k' : OpenFiles) (bytes : List ℕ)
    (refusal : Option SectionFault) (r : Ready command x h w w' k k' bytes refusal) where
  all_read : k'.read ≡ k.read ++ r.opened.files
  all_read = ap (λ q. q.read) r.opened.taken

  fewer_read : (file : ℕ) → ¬ Contains k'.read file → ¬ Contains k.read file
  fewer_read file free is = free (subst (λ q. Contains q file) (sym all_read)
      (Contains-append_left k.read r.opened.files file is))

  packed_again : (y : List ℕ) → y ≡ bytes → IsPackedAgain command x h w y
  packed_again y same = record {
    given = r.given;
    are_given = r.are_given;
    packing = r.packing;
    asked = r.asked;
    is = same ∙ r.is;
  }

  spares_old : (w'' : World) (file : ℕ) → Spares file w' w'' → Spares file w w''
  spares_old w'' file s = subst (λ v. Spares file v w'') r.same s

  pub packs_again : (w'' : World) (path : List ℕ) (shows : List ℕ → Type 0) → path ≡ output_path command.output.now
      → LaysImage path k'.read bytes w' w'' shows → PacksAgain command x h k.read w w'' shows
  packs_again w'' path shows named lays = record {
    onto = lays.onto;
    here = ap w''.at (sym named) ∙ lays.here;
    free = fewer_read lays.onto lays.free;
    apart = λ p given there. lays.free (r.opened.listed p lays.onto given there);
    image = packed_again (w''.holds lays.onto) lays.holds;
    spares = spares_old w'' lays.onto lays.spares;
    shown = subst (λ n. shows (image_line (counted_in_u64 n) ++ (10 ∷ []))) (sym (ap length lays.holds)) lays.shown;
  }

  only_again : (w'' : World) (path : List ℕ) → path ≡ output_path command.output.now → OnlyAt k'.read path w' w''
      → OnlyAt k.read (output_path command.output.now) w w''
  only_again w'' path named (untouched same) = untouched (same ∙ r.same)
  only_again w'' path named (in_output file there free s) =
      in_output file (ap w''.at (sym named) ∙ there) (fewer_read file free) (spares_old w'' file s)

  guarded_again : (w'' : World) (path : List ℕ) → path ≡ output_path command.output.now → SparesInUse path k' w' w''
      → SparesInUse (output_path command.output.now) k w w''
  guarded_again w'' path named spared used refused =
      subst (λ (q : OpenFiles). SparesInUse path q w' w'') r.opened.taken spared
      (subst (λ p. IsTrue (k.in_use p)) (sym named) used) refused ∙ r.same

  pub keeps_again : (w'' : World) (path : List ℕ) → OnlyAt k'.read path w' w'' → KeepsGivenAgain command h w w''
  keeps_again w'' path (untouched same) p given file there = ap (λ v. v.holds file) (same ∙ r.same)
  keeps_again w'' path (in_output onto here free s) p given file there =
      s.files file (λ one. free (subst (Contains k'.read) one (r.opened.listed p file given there)))
      ∙ ap (λ v. v.holds file) r.same

  whole_again : (w'' : World) (path : List ℕ) → path ≡ output_path command.output.now
      → HoldsNoPartOf path (λ y. y ≡ bytes) w' w''
      → HoldsNoPartOf (output_path command.output.now) (IsPackedAgain command x h w) w w''
  whole_again w'' path named whole file there = elim (whole file (ap w''.at named ∙ there)) [
    | inl kept ↦ inl (kept ∙ ap (λ v. v.holds file) r.same)
    | inr more ↦ inr (elim more [
      | inl none ↦ inl none
      | inr all ↦ inr (packed_again (w''.holds file) all)
    ])
  ]

  synced_again : (k'' : OpenFiles) → k''.syncs ≡ k'.syncs + (if k'.is_synced then 1 else 0)
      → k''.syncs ≡ k.syncs + (if k.is_synced then 1 else 0)
  synced_again k'' s = s ∙ ap (λ (q : OpenFiles). q.syncs + (if q.is_synced then 1 else 0)) r.opened.taken

  same_failed : (cause : Cause) → k'.counts.failed cause ≡ k.counts.failed cause
  same_failed cause = ap (λ q. q.counts.failed cause) r.opened.taken

  pub left_again : {X F : Type 0} (q : Result X F) (w'' : World) (k'' : OpenFiles) (path : List ℕ)
      (over : List ℕ → Bool)
      → path ≡ output_path command.output.now → LeavesOut q path (over path) (λ y. y ≡ bytes) k' k'' w' w''
      → LeavesOut q (output_path command.output.now) (over (output_path command.output.now))
      (IsPackedAgain command x h w) k k'' w w''
  left_again q w'' k'' path over named left = record {
    others = only_again w'' path named left.others;
    guarded = guarded_again w'' path named left.guarded;
    closed = left.closed;
    whole = λ o. whole_again w'' path named (left.whole (subst (λ p. IsTrue (over p)) (sym named) o));
    clean = on_ok_by q (λ e cause. e cause ∙ same_failed cause) left.clean;
    synced = on_ok_by q (synced_again k'') left.synced;
  }

  failed_again : (k'' : OpenFiles) (cause : Cause) → HasFailed cause k' k'' → HasFailed cause k k''
  failed_again k'' cause more = failed_then (IsGivenPath command.texts (kind_of h)) w k k' k'' cause r.opened more

  pub writing_stops : (w'' : World) (k'' : OpenFiles) (path : List ℕ) (shows : List ℕ → Type 0)
      (fault : BootCommandFault)
      → path ≡ output_path command.output.now
      → StopsWriting refusal k' k'' w' w'' (LaysImage path k'.read bytes w' w'' shows) fault
      → RefusesAgain command x h w w'' (λ cause. HasFailed cause k k'') (PacksAgain command x h k.read w w'' shows)
      fault
  writing_stops w'' k'' path shows fault named (writing.refused f same why held kept) = again.not_packed f same
      (record {
        given = r.given;
        are_given = r.are_given;
        packing = r.packing;
        asked = r.asked;
        refused = sym r.refuses ∙ why;
      }) (kept ∙ r.same)
  writing_stops w'' k'' path shows fault named (writing.no_memory lacks kept) =
      again.no_memory (record { told = lacks.told; counted = failed_again k'' (call hosts.Memory) lacks.counted })
      (kept ∙ r.same)
  writing_stops w'' k'' path shows fault named (writing.failed failure) =
      again.failed (failure_more fault (λ cause. HasFailed cause k' k'') (λ cause. HasFailed cause k k'') failure
      (failed_again k''))
  writing_stops w'' k'' path shows fault named (writing.untold same done) =
      again.untold same (packs_again w'' path shows named done)

-- ---- before it is written

pub stays_kept : (command : PackCommand) (h : Header) (w w' : World) → w' ≡ w → KeepsGivenAgain command h w w'
stays_kept command h w w' same path given file there = ap (λ v. v.holds file) same

pub filling_refuses : (command : PackCommand) (x : List ℕ) (h : Header) (w w' : World) (P : Cause → Type 0)
    (Q : Type 0) (fault : BootCommandFault) → w' ≡ w → StopsFillingAgain command w x h P fault
    → RefusesAgain command x h w w' P Q fault
filling_refuses command x h w w' P Q fault same (again.unopened failure) = again.failed failure
filling_refuses command x h w w' P Q fault same (again.not_text path is bad told) = again.no_text path is bad told same
filling_refuses command x h w w' P Q fault same (again.no_space told) = again.no_memory told same
filling_refuses command x h w w' P Q fault same (again.bad_board bad) = again.wrong_board bad same

pub words_refuse : (command : PackCommand) (x : List ℕ) (h : Header) (w w' : World) (P : Cause → Type 0) (Q : Type 0)
    (kind : ImageKind) (own : BootFields) (f fault : BootCommandFault) → w' ≡ w → kind ≡ kind_of h
    → own ≡ own_fields h → fault ≡ f
    → IsWrong own kind command.texts.options.items command.texts.fragments.items f
    → RefusesAgain command x h w w' P Q fault
words_refuse command x h w w' P Q kind own f fault same is own_is told wrong = again.wrong_words
    (subst (λ q. IsWrong (own_fields h) (kind_of h) command.texts.options.items command.texts.fragments.items q)
    (sym told)
    (subst (λ q. IsWrong q (kind_of h) command.texts.options.items command.texts.fragments.items f) own_is
    (subst (λ q. IsWrong own q command.texts.options.items command.texts.fragments.items f) is wrong))) same

-- ---- the words and the image are judged

pub untaken_wrong : (own : BootFields) (kind : ImageKind) (options : List OptionText) (fragments : List FragmentText)
    (fault : BootCommandFault) → IsUntaken kind options fragments fault → IsWrong own kind options fragments fault
untaken_wrong own kind options fragments (faults.OptionNotCarried name) u = u
untaken_wrong own kind options fragments (faults.BadFragment word) u = u
untaken_wrong own kind options fragments (faults.BadNumber word) u = absurd u
untaken_wrong own kind options fragments (faults.Section fault) u = absurd u
untaken_wrong own kind options fragments (faults.Host fault) u = absurd u
untaken_wrong own kind options fragments (faults.BadBoardId word) u = absurd u
untaken_wrong own kind options fragments faults.CheckFailed u = absurd u

pub judging_refuses : (command : PackCommand) (x : List ℕ) (h : Header) (w w' : World) (k k' : OpenFiles)
    (r r' : ℕ) (Q : Type 0) (kind : ImageKind) (why : NotJudged) (fault : BootCommandFault) → w' ≡ w
    → kind ≡ kind_of h → fault ≡ fault_of why → k' ≡ counting (refusals_of why) k → r ≤ r'
    → StopsJudging command kind (r < r') why → RefusesAgain command x h w w' (SomeFailed k r k' r') Q fault
judging_refuses command x h w w' k k' r r' Q kind why fault same is told held grown (judging.untaken f why_is u) =
    words_refuse command x h w w' (SomeFailed k r k' r') Q kind (own_fields h) f fault same is refl
    (told ∙ ap fault_of why_is)
    (untaken_wrong (own_fields h) kind command.texts.options.items command.texts.fragments.items f u)
judging_refuses command x h w w' k k' r r' Q kind (not_judged.Fault f) fault same is told held grown
    (judging.not_read unread) =
    again.failed (record {
      cause = reading;
      is_cause = subst (λ q. IsCauseOf q reading) (sym told) unread.0;
      failed = let e : k'.counts.failed reading ≡ k.counts.failed reading + 0
          = ap (λ q. q.counts.failed reading) held in
          record { rises = omega (arith, unread.1, e) };
    })
judging_refuses command x h w w' k k' r r' Q kind (not_judged.Memory m) fault same is told held grown
    (judging.not_read unread) =
    again.no_memory (record {
      told = told;
      counted = let more : k.counts.failed (call hosts.Memory) < k'.counts.failed (call hosts.Memory)
          = source_failed k k' hosts.Memory held in
          record { rises = omega (arith, more) };
    }) same

pub again_more : (command : PackCommand) (x : List ℕ) (h : Header) (w w' : World) (P P' : Cause → Type 0)
    (Q Q' : Type 0) (fault : BootCommandFault) → RefusesAgain command x h w w' P Q fault
    → ((cause : Cause) → P cause → P' cause) → (Q → Q')
    → RefusesAgain command x h w w' P' Q' fault
again_more command x h w w' P P' Q Q' fault (again.wrong_words wrong same) p q = again.wrong_words wrong same
again_more command x h w w' P P' Q Q' fault (again.wrong_board bad same) p q = again.wrong_board bad same
again_more command x h w w' P P' Q Q' fault (again.not_packed f told why same) p q = again.not_packed f told why same
again_more command x h w w' P P' Q Q' fault (again.no_text path is bad told same) p q =
    again.no_text path is bad told same
again_more command x h w w' P P' Q Q' fault (again.no_memory lacks same) p q =
    again.no_memory (record { told = lacks.told; counted = p (call hosts.Memory) lacks.counted }) same
again_more command x h w w' P P' Q Q' fault (again.failed failure) p q =
    again.failed (failure_more fault P P' failure p)
again_more command x h w w' P P' Q Q' fault (again.untold told done) p q = again.untold told (q done)

-- the image holds what it held before it was read
pub content_done : (command : PackCommand) (x y : List ℕ) (h : Header) (read : List ℕ) (w w' : World)
    (shows : List ℕ → Type 0) → x ≡ y → PacksAgain command x h read w w' shows → PacksAgain command y h read w w' shows
content_done command x y h read w w' shows same done = subst (λ z. PacksAgain command z h read w w' shows) same done

pub content_left : {X F : Type 0} (r : Result X F) (command : PackCommand) (x y : List ℕ) (h : Header) (v : World)
    (path : List ℕ) (over : Bool) (k k' : OpenFiles) (w w' : World) → x ≡ y
    → LeavesOut r path over (IsPackedAgain command x h v) k k' w w'
    → LeavesOut r path over (IsPackedAgain command y h v) k k' w w'
content_left r command x y h v path over k k' w w' same left =
    subst (λ z. LeavesOut r path over (IsPackedAgain command z h v) k k' w w') same left

pub content_refused : (command : PackCommand) (x y : List ℕ) (h : Header) (w w' : World) (P P' : Cause → Type 0)
    (read : List ℕ) (shows : List ℕ → Type 0) (fault : BootCommandFault) → x ≡ y
    → RefusesAgain command x h w w' P (PacksAgain command x h read w w' shows) fault
    → ((cause : Cause) → P cause → P' cause)
    → RefusesAgain command y h w w' P' (PacksAgain command y h read w w' shows) fault
content_refused command x y h w w' P P' read shows fault same why more =
    again_more command y h w w' P P' (PacksAgain command y h read w w' shows) (PacksAgain command y h read w w' shows)
    fault (subst (λ z. RefusesAgain command z h w w' P (PacksAgain command z h read w w' shows) fault) same why) more
    (λ done. done)
