-- The file that an image is written to.
use Rattle.std.proofs.Common.{inl, inr, ◌⊎◌, ◌≡◌, ℕ, List, [], ◌∷◌, ◌++◌, Option, Some}
use Rattle.std.proofs.Common.{Bool, true, sym, ◌∙◌, ap, subst, length}
use Rattle.std.proofs.lemmas.Bool.{false≢true}
use Rattle.std.specs.Prelude.{unwrap_or, IfOk, OnOk, MatchResult, Result, Ok, Err}
use Rattle.std.specs.Prelude.{is_ok}
use Rattle.std.specs.Prelude.{IsTrue}
use Rattle.sys_disk.specs.Images.{OfImage}
use Rattle.sys_disk.specs.declared.image_to.ImageTo.{ImageTo}
use Rattle.sys_disk.specs.declared.image_to.ImageTo.TheVariants.{File, Stream}
use Rattle.sys_disk.specs.Counts.{Counts}
use Rattle.sys_disk.specs.World.{ClosesOutput, Creates, Ends, OpenFiles, Spares, SparesInUse, SparesRest, World}
use Rattle.sys_disk.specs.World.{counting}
use Rattle.abt_sections.specs.declared.fault.SectionFault.{SectionFault}
use Rattle.cmd_common_boot.specs.NotJudged.{IsOfPacking, OfFault, fault_of, refusals_of}
use Rattle.cmd_common_boot.specs.declared.fault.BootCommandFault.{BootCommandFault}
use Rattle.cmd_common_boot.specs.declared.fault.BootCommandFault.TheVariants as faults
use Rattle.cmd_common_boot.specs.declared.not_judged.NotJudged.{NotJudged}
use Rattle.cmd_common_boot.specs.declared.not_judged.NotJudged.TheVariants as not_judged
use Rattle.sys_refusals.specs.declared.refusal.HostFault.TheVariants as hosts
use Rattle.cmd_pack_outputs.specs.Contents.{faults_in}
use Rattle.cmd_pack_outputs.specs.declared.contents.ImageContents.{ImageContents}
use Rattle.cmd_pack_outputs.specs.Lines.{counted_in_u64, image_line}
use Rattle.cmd_pack_outputs.specs.Magic.{HoldsNone}
use Rattle.cmd_pack_outputs.specs.Writing.{HoldsNoPartOf, IsAccepted, IsReady, LaysImage, LeavesNoneOrAll}
use Rattle.cmd_pack_outputs.specs.Writing.{LeavesOut}
use Rattle.cmd_pack_outputs.specs.Writing.{StopsWriting}
use Rattle.cmd_pack_outputs.specs.Writing.{no_memory, refused}
use Rattle.sys_disk.proofs.Worlds.{only_written, spared_if_may}
use Rattle.sys_report.specs.Shows.{ShowsBeside}
use Rattle.sys_report.specs.declared.report.Report.{Report}
use Rattle.cmd_pack_outputs.proofs.Closes.{clean_created, closed_created, synced_created}
use Rattle.cmd_common_boot.proofs.Calls.{on_ok, same_counting}
use Rattle.cmd_common_boot.proofs.Causes.{source_failed}
use Rattle.cmd_pack_outputs.proofs.Magics.{empty_none}

one : (o : Option ℕ) (f g : ℕ) → o ≡ Some f → o ≡ Some g → f ≡ g
one o f g a b = ap (λ p. unwrap_or p 0) (sym a ∙ b)

-- ---- the data is complete

pub ready_image : {F S P : Type 0} {models : Bool} {size : P → ℕ} (faults : P → ℕ) {c : ImageContents P}
    (image : ImageTo F S)
    (file_written : F → List ℕ) (file_faults : F → ℕ) (stream_written : S → List ℕ) (stream_faults : S → ℕ)
    → IsAccepted size c → (IsTrue models → faults_in faults c ≡ 0)
    → OfImage (λ f. file_written f ≡ []) (λ s. stream_written s ≡ []) image
    → (IsTrue models → OfImage (λ f. file_faults f ≡ 0) (λ s. stream_faults s ≡ 0) image)
    → OfImage (λ f. IsReady models size faults c (file_written f) (file_faults f))
    (λ s. IsReady models size faults c (stream_written s) (stream_faults s)) image
ready_image faults (File f) a b d e sources unread empty clean =
    record { sources = sources; unread = unread; empty = empty; clean = clean }
ready_image faults (Stream s) a b d e sources unread empty clean =
    record { sources = sources; unread = unread; empty = empty; clean = clean }

-- ---- what OUT holds

-- it could not be opened
pub part_emptied : (x y : List ℕ) (A : Type 0) → (y ≡ x) ⊎ (y ≡ []) → (y ≡ x) ⊎ (HoldsNone y ⊎ A)
part_emptied x y A (inl kept) = inl kept
part_emptied x y A (inr none) = inr (inl (empty_none y none))

-- it was begun, and could not be brought to its end
pub part_left : (output bytes : List ℕ) (h h' : OpenFiles) (a b c : World) → Creates output h h' a b
    → SparesRest h'.output b c → LeavesNoneOrAll h'.output bytes c → HoldsNoPartOf output (λ x. x ≡ bytes) a c
part_left output bytes h h' a b c made rest left = λ file at.
    let t : Spares made.file b c = subst (λ (k : OpenFiles). SparesRest k.output b c) made.begins rest in
    let is : made.file ≡ file = one (c.at output) made.file file (t.paths output made.file made.there) at in
    let it : LeavesNoneOrAll (Some made.file) bytes c
    = subst (λ (k : OpenFiles). LeavesNoneOrAll k.output bytes c) made.begins left in
    inr (subst (λ f. LeavesNoneOrAll (Some f) bytes c) is it)

-- it was brought to its end
pub part_whole : (output bytes : List ℕ) (h h' : OpenFiles) (a b c : World) → Creates output h h' a b
    → Ends h'.output bytes b c → HoldsNoPartOf output (λ x. x ≡ bytes) a c
part_whole output bytes h h' a b c made ends = λ file at.
    let it : Ends (Some made.file) bytes b c = subst (λ (k : OpenFiles). Ends k.output bytes b c) made.begins ends in
    let is : made.file ≡ file = one (c.at output) made.file file (it.1.paths output made.file made.there) at in
    inr (inr (ap (λ f. c.holds f) (sym is) ∙ it.0))

-- it is no file that is in use, or such files may be written
pub spared_made : (output : List ℕ) (h h' : OpenFiles) (a b c : World) → Creates output h h' a b
    → SparesInUse output h a c
spared_made output h h' a b c made = spared_if_may output h a c made.allowed

-- whatever was printed of it then
pub left_done : {X F : Type 0} (r : Result X F) (output bytes : List ℕ) (over : Bool) (h h' h'' : OpenFiles)
    (a b c : World)
    → Creates output h h' a b → SparesRest h'.output b c → Ends h'.output bytes b c
    → ClosesOutput true h' h'' → LeavesOut r output over (λ x. x ≡ bytes) h h'' a c
left_done r output bytes over h h' h'' a b c made rest ends closes = record {
  others = only_written output h h' a b c made rest;
  guarded = spared_made output h h' a b c made;
  closed = closed_created true h' h'' closes;
  whole = λ o. part_whole output bytes h h' a b c made ends;
  clean = on_ok r _ (clean_created output h h' h'' a b made closes);
  synced = on_ok r _ (synced_created output h h' h'' a b made closes);
}

spares_then : (f : ℕ) (a b c : World) → Spares f a b → Spares f b c → Spares f a c
spares_then f a b c s t = record {
  paths = λ p g h. t.paths p g (s.paths p g h);
  files = λ g n. t.files g n ∙ s.files g n;
}

-- and all is done
pub lays : (output bytes : List ℕ) (n : ℕ) (h h' : OpenFiles) (a b c : World) (shows : List ℕ → Type 0)
    → Creates output h h' a b → Ends h'.output bytes b c → n ≡ counted_in_u64 (length bytes)
    → shows (image_line n ++ (10 ∷ [])) → LaysImage output h.read bytes a c shows
lays output bytes n h h' a b c shows made ends counts shown =
    let it : Ends (Some made.file) bytes b c = subst (λ (k : OpenFiles). Ends k.output bytes b c) made.begins ends in
    record {
      onto = made.file;
      here = it.1.paths output made.file made.there;
      free = made.free;
      holds = it.0;
      spares = spares_then made.file a b c made.spares it.1;
      shown = subst (λ k. shows (image_line k ++ (10 ∷ []))) counts shown;
    }

-- what was shown of it beside its output, which is there alike
pub beside_as : (b b' : Bool) (a c : Report) (line : List ℕ) → b ≡ b' → ShowsBeside b a c line → ShowsBeside b' a c line
beside_as b b' a c line same beside = subst (λ is. ShowsBeside is a c line) same beside

-- ---- why it fails

pub judged_stops : (o : Option SectionFault) (h h' : OpenFiles) (a b : World) (Done : Type 0) (why : NotJudged)
    (g : BootCommandFault) → OfFault (IsOfPacking o) why → g ≡ fault_of why → h' ≡ counting (refusals_of why) h → b ≡ a
    → StopsWriting o h h' a b Done g
judged_stops o h h' a b Done (not_judged.Memory m) g judged told held same =
    no_memory (record { told = told; counted = source_failed h h' hosts.Memory held }) same
judged_stops o h h' a b Done (not_judged.Fault (faults.Section f)) g judged told held same =
    refused f told judged (held ∙ same_counting h) same
judged_stops o h h' a b Done (not_judged.Fault (faults.Host f)) g judged told held same = absurd judged
judged_stops o h h' a b Done (not_judged.Fault (faults.OptionNotCarried n)) g judged told held same = absurd judged
judged_stops o h h' a b Done (not_judged.Fault (faults.BadFragment w)) g judged told held same = absurd judged
judged_stops o h h' a b Done (not_judged.Fault (faults.BadNumber w)) g judged told held same = absurd judged
judged_stops o h h' a b Done (not_judged.Fault (faults.BadBoardId w)) g judged told held same = absurd judged
judged_stops o h h' a b Done (not_judged.Fault faults.CheckFailed) g judged told held same = absurd judged

-- ---- the result of a call that wrote bytes, as one of a command

-- what is so of the one is so of the other
pub told_done : {X F G : Type 0} (a : Result X F) (b : Result X G) (to : F → G) (A : Type 0)
    → MatchResult a (λ n. b ≡ Ok n) (λ f. b ≡ Err (to f)) → OnOk a A → OnOk b A
told_done {X} {F} {G} (Ok n) b to A told is = subst (λ (k : Result X G). OnOk k A) (sym told) is
told_done {X} {F} {G} (Err f) b to A told is = subst (λ (k : Result X G). OnOk k A) (sym told) tt

-- where the output was completed, the call returned
abbrev the : {G : Type 0} → Result ℕ G → ℕ
the (Ok n) = n
the (Err f) = 0

pub counts_end : {F G R : Type 0} (a : Result ℕ F) (b : Result ℕ G) (r : Result (ℕ × Bool) R) (to : F → G) (k : ℕ)
    → MatchResult a (λ n. b ≡ Ok n) (λ f. b ≡ Err (to f)) → IfOk r (λ end. b ≡ Ok end.0) → IfOk a (λ n. n ≡ k)
    → IfOk r (λ end. end.0 ≡ k)
counts_end (Ok n) b (Ok end) to k told done is = ap the (sym done ∙ told) ∙ is
counts_end (Err f) b (Ok end) to k told done is = absurd (false≢true (ap is_ok (sym told ∙ done)))
counts_end a b (Err x) to k told done is = tt

pub ends_end : {F G R : Type 0} (a : Result ℕ F) (b : Result ℕ G) (r : Result (ℕ × Bool) R) (to : F → G)
    (x w bytes : List ℕ) (n : Counts) (h h' : OpenFiles) (u v c : World)
    → MatchResult a (λ n. b ≡ Ok n) (λ f. b ≡ Err (to f))
    → IfOk r (λ end. b ≡ Ok end.0) → w ≡ [] → h' ≡ counting n h → v ≡ u → OnOk a (x ≡ w ++ bytes)
    → OnOk r (Ends h'.output x v c) → OnOk r (Ends h.output bytes u c)
ends_end (Ok m) b (Ok end) to x w bytes n h h' u v c told done none held same is ends =
    let o : h'.output ≡ h.output = ap (λ (k : OpenFiles). k.output) held in
    let y : x ≡ bytes = is ∙ ap (λ l. l ++ bytes) none in
    subst (λ o. Ends o bytes u c) o (subst (λ l. Ends h'.output l u c) y (subst (λ k. Ends h'.output x k c) same ends))
ends_end (Err f) b (Ok end) to x w bytes n h h' u v c told done none held same is ends =
    absurd (false≢true (ap is_ok (sym told ∙ done)))
ends_end a b (Err y) to x w bytes n h h' u v c told done none held same is ends = tt

-- ---- after what was read is closed

pub ends_behind : (x bytes : List ℕ) (n : Counts) (h h' : OpenFiles) (u v c : World) → h' ≡ counting n h → v ≡ u
    → x ≡ bytes
    → Ends h'.output x v c → Ends h.output bytes u c
ends_behind x bytes n h h' u v c held same is ends =
    let o : h'.output ≡ h.output = ap (λ (k : OpenFiles). k.output) held in
    subst (λ o. Ends o bytes u c) o (subst (λ l. Ends h'.output l u c) is (subst (λ k. Ends h'.output x k c) same ends))

pub part_behind : (bytes : List ℕ) (n : Counts) (h h' : OpenFiles) (c : World) → h' ≡ counting n h
    → LeavesNoneOrAll h'.output bytes c
    → LeavesNoneOrAll h.output bytes c
part_behind bytes n h h' c held left =
    let o : h'.output ≡ h.output = ap (λ (k : OpenFiles). k.output) held in subst (λ o. LeavesNoneOrAll o bytes c) o
    left

pub rest_behind : (n : Counts) (h h' : OpenFiles) (u v c : World) → h' ≡ counting n h → v ≡ u → SparesRest h'.output v c
    → SparesRest h.output u c
rest_behind n h h' u v c held same rest = subst (λ w. SparesRest h.output w c) same
    (subst (λ o. SparesRest o v c) (ap (λ (k : OpenFiles). k.output) held) rest)
