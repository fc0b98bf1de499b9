-- What `pack` leaves, put together of its steps.
use Rattle.std.proofs.Common.{inl, inr, arith, ◌⊎◌, ◌+◌, ◌≡◌, ℕ, List, [], ◌∷◌, ◌++◌, Option}
use Rattle.std.proofs.Common.{refl, sym, ◌∙◌, ap, subst, length}
use Rattle.std.proofs.lemmas.List.{append-nil}
use Rattle.std.proofs.lemmas.List.Elements.{Contains-append_left}
use Rattle.std.specs.Prelude.{Bool, Contains, IsTrue, Result, map, if◌then◌else◌}
use Rattle.sys_refusals.specs.Paths.{output_path}
use Rattle.sys_disk.specs.Counts.{call}
use Rattle.sys_disk.specs.World.{World, OpenFiles, HasFailed, Spares, SparesInUse, OnlyAt, in_output, untouched}
use Rattle.sys_refusals.specs.declared.refusal.HostFault.{HostFault}
use Rattle.sys_refusals.specs.declared.refusal.HostFault.TheVariants as hosts
use Rattle.sys_report.specs.Shows.{ShowsBeside}
use Rattle.sys_report.specs.declared.report.Report.{Report}
use Rattle.abt_sections.specs.Cause.{total}
use Rattle.abt_sections.specs.Fields.{BootFields, cmd_common_fields}
use Rattle.abt_sections.specs.declared.spec.FragmentSpec.{FragmentSpec}
use Rattle.cmd_common_fields.specs.Kind.{is_version}
use Rattle.cmd_common_fields.specs.declared.image_kind.ImageKind.{ImageKind}
use Rattle.cmd_common_boot.specs.Boards.{AreSet}
use Rattle.cmd_common_boot.specs.Given.{AreGiven, no_fields}
use Rattle.cmd_common_boot.specs.Parts.{part_sections}
use Rattle.cmd_common_boot.specs.Wrong.{IsWrong}
use Rattle.cmd_common_boot.specs.declared.fault.BootCommandFault.{BootCommandFault}
use Rattle.cmd_common_boot.specs.declared.fault.BootCommandFault.TheVariants as faults
use Rattle.cmd_common_boot.specs.declared.pack_command.PackCommand.{PackCommand}
use Rattle.cmd_common_boot.specs.declared.pack_texts.FragmentText.{FragmentText}
use Rattle.cmd_common_boot.specs.declared.pack_texts.OptionText.{OptionText}
use Rattle.cmd_common_boot.specs.declared.pack_texts.PackTexts.{PackTexts}
use Rattle.cmd_pack_outputs.specs.Contents.{faults_in, image_from, packed_image, packing_of, refusal_from}
use Rattle.cmd_pack.specs.Filling.{loaded_at}
use Rattle.cmd_pack_outputs.specs.Lines.{counted_in_u64, image_line}
use Rattle.cmd_pack_inputs.specs.Opening.{OpensMore, StopsOpening}
use Rattle.cmd_pack_inputs.specs.Opening as opening
use Rattle.cmd_pack.specs.Packing.{AreAskedFor, IsPackedBy, KeepsGiven, PacksFile, board_id_words, asked_kind}
use Rattle.cmd_pack.specs.Packing.{nothing}
use Rattle.cmd_pack_inputs.specs.Parts.{AreFragmentsOf, ArePartsOf, IsFragmentInput, IsGivenPath, IsPartInput}
use Rattle.cmd_pack_inputs.specs.Parts.{of_fragment, of_part}
use Rattle.cmd_pack_inputs.specs.BadBoards.{IsBadBoard}
use Rattle.cmd_pack.specs.Refusing.{RefusesPack, StopsFilling}
use Rattle.cmd_pack.specs.Refusing as refusing
use Rattle.cmd_pack_outputs.specs.Writing.{HoldsNoPartOf, LaysImage, LeavesOut, StopsWriting}
use Rattle.cmd_pack_outputs.specs.Writing as writing
use Rattle.cmd_pack_outputs.specs.declared.contents.ImageContents.{ImageContents}
use Rattle.cmd_pack_inputs.proofs.Openings.{failed_still, failed_then, opens_then, stops_then}
use Rattle.cmd_pack_outputs.proofs.Closes.{call_fails, failure_more}
use Rattle.cmd_pack.proofs.Left.{on_ok_by}

-- ---- what is opened

given_split : (texts : PackTexts) (kind : ImageKind) (p : List ℕ) → IsGivenPath texts kind p
    → IsPartInput texts.options.items (part_sections kind) p ⊎ IsFragmentInput texts.fragments.items p
given_split texts kind p (of_part is) = inl is
given_split texts kind p (of_fragment is) = inr is

pub both_open : (texts : PackTexts) (kind : ImageKind) (w w' : World) (h h' h'' : OpenFiles) → w' ≡ w
    → OpensMore (IsPartInput texts.options.items (part_sections kind)) w h h'
    → OpensMore (IsFragmentInput texts.fragments.items) w' h' h'' → OpensMore (IsGivenPath texts kind) w h h''
both_open texts kind w w' h h' h'' same parts fragments =
    opens_then (IsPartInput texts.options.items (part_sections kind)) (IsFragmentInput texts.fragments.items)
    (IsGivenPath texts kind) w w' h h' h'' same parts fragments (given_split texts kind)

pub filling_stops : (A B : List ℕ → Type 0) (words : List (List ℕ)) (count : ℕ) (h h' : OpenFiles) (k : HostFault)
    (f : BootCommandFault) → StopsOpening A h h' k → f ≡ faults.Host k → ((p : List ℕ) → A p → B p)
    → StopsFilling B words count h h' f
filling_stops A B words count h h' k f (opening.failed more) told wider =
    refusing.unopened (call_fails f k (λ cause. HasFailed cause h h') told more)
filling_stops A B words count h h' k f (opening.no_text path is bad why) told wider =
    refusing.no_text path (wider path is) bad (told ∙ ap faults.Host why)
filling_stops A B words count h h' k f (opening.no_memory why more) told wider =
    refusing.no_memory (record { told = told ∙ ap faults.Host why; counted = more })

pub board_stops : (A : List ℕ → Type 0) (words words' : List (List ℕ)) (m n : ℕ) (h h' : OpenFiles)
    (f : BootCommandFault)
    → IsBadBoard words m f → words ≡ words' → m ≡ n → StopsFilling A words' n h h' f
board_stops A words words' m n h h' f bad named same =
    refusing.wrong_board (subst (λ k. IsBadBoard words' k f) same (subst (λ ws. IsBadBoard ws m f) named bad))

-- the files of fragments, after those of parts
pub fragments_stop : (texts : PackTexts) (kind : ImageKind) (words : List (List ℕ)) (count : ℕ) (w : World)
    (h h' h'' : OpenFiles) (k : HostFault) (f : BootCommandFault)
    → OpensMore (IsPartInput texts.options.items (part_sections kind)) w h h'
    → StopsOpening (IsFragmentInput texts.fragments.items) h' h'' k → f ≡ faults.Host k
    → StopsFilling (IsGivenPath texts kind) words count h h'' f
fragments_stop texts kind words count w h h' h'' k f parts stops told =
    filling_stops (IsGivenPath texts kind) (IsGivenPath texts kind) words count h h'' k f
    (stops_then (IsPartInput texts.options.items (part_sections kind)) (IsFragmentInput texts.fragments.items)
    (IsGivenPath texts kind) w h h' h'' k parts stops (λ p is. of_fragment is)) told (λ p is. is)

-- there are as many as are given
pub fragments_counted : (w : World) (texts : List FragmentText) (specs : List FragmentSpec) (ramdisks : List (List ℕ))
    → AreFragmentsOf w texts specs ramdisks → length specs ≡ length texts
fragments_counted w [] [] [] are = refl
fragments_counted w (text ∷ texts) (spec ∷ specs) (ramdisk ∷ ramdisks) are =
    let rest : length specs ≡ length texts = fragments_counted w texts specs ramdisks are.1 in omega (arith, rest)
fragments_counted w [] [] (ramdisk ∷ ramdisks) are = absurd are
fragments_counted w [] (spec ∷ specs) [] are = absurd are
fragments_counted w [] (spec ∷ specs) (ramdisk ∷ ramdisks) are = absurd are
fragments_counted w (text ∷ texts) [] [] are = absurd are
fragments_counted w (text ∷ texts) [] (ramdisk ∷ ramdisks) are = absurd are
fragments_counted w (text ∷ texts) (spec ∷ specs) [] are = absurd are

-- ---- what was printed beside OUT, by another name of its path

pub lays_beside : (on_output : List ℕ → Bool) (path path' read bytes : List ℕ) (a b : World) (old new : Report)
    → path ≡ path' → LaysImage path read bytes a b (ShowsBeside (on_output path) old new)
    → LaysImage path read bytes a b (ShowsBeside (on_output path') old new)
lays_beside on_output path path' read bytes a b old new same lays =
    subst (λ p. LaysImage path read bytes a b (ShowsBeside (on_output p) old new)) same lays

-- ---- what is asked for

pub asks : {P : Type 0} (content : P → List ℕ) (command : PackCommand) (w w' : World) (kind : ImageKind)
    (given : BootFields) (c : ImageContents P) (parts sources : List P) (said specs : List FragmentSpec)
    (words : List (List ℕ)) → words ≡ board_id_words command → kind ≡ asked_kind command → w' ≡ w → c.parts.items ≡
    parts
    → c.sources.items ≡ sources → c.specs.items ≡ specs
    → ArePartsOf w command.texts.options.items nothing (part_sections kind) (map content parts)
    → AreFragmentsOf w' command.texts.fragments.items said (map content sources) → AreSet words said specs
    → cmd_common_fields c.fields ≡ loaded_at kind command.texts.options.items (map content parts) given
    → c.fields.is_front_ended ≡ command.texts.is_front_ended
    → AreAskedFor command w given (packing_of content c)
asks content command w w' kind given c parts sources said specs words named is same p s f p_are s_are set loaded front =
    record {
      parts = subst (λ k. ArePartsOf w command.texts.options.items nothing (part_sections k)
          (map content c.parts.items)) is
          (subst (λ l. ArePartsOf w command.texts.options.items nothing (part_sections kind) (map content l))
          (sym p) p_are);
      said = said;
      fragments = subst (λ l. AreFragmentsOf w command.texts.fragments.items said (map content l)) (sym s)
          (subst (λ v. AreFragmentsOf v command.texts.fragments.items said (map content sources)) same s_are);
      boards = subst (λ l. AreSet (board_id_words command) said l) (sym f)
          (subst (λ ws. AreSet ws said specs) named set);
      loaded = loaded ∙ ap (λ l. loaded_at kind command.texts.options.items (map content l) given) (sym p)
          ∙ ap (λ k. loaded_at k command.texts.options.items (map content c.parts.items) given) is;
      front = front;
    }

pub unread : {P : Type 0} (F : P → ℕ) (c : ImageContents P) (parts sources : List P) (t : P) → c.parts.items ≡ parts
    → c.sources.items ≡ sources → c.trailing ≡ t → total F parts ≡ 0 → total F sources ≡ 0 → F c.nothing ≡ 0 → F t ≡ 0
    → faults_in F c ≡ 0
unread F c parts sources t p s e none_p none_s none_n none_t =
    let a : total F c.parts.items ≡ 0 = ap (total F) p ∙ none_p in
    let b : total F c.sources.items ≡ 0 = ap (total F) s ∙ none_s in
    let d : F c.trailing ≡ 0 = ap F e ∙ none_t in
    let z : total F c.parts.items + total F c.sources.items + F c.nothing + F c.trailing ≡ 0
    = omega (arith, a, b, none_n, d) in z

-- ---- what it leaves

pub packed_by : {P : Type 0} (content : P → List ℕ) (command : PackCommand) (w : World) (given : BootFields)
    (c : ImageContents P) (x : List ℕ) → IsTrue (is_version command.is_vendor command.version)
    → AreGiven no_fields (asked_kind command) command.page command.texts.options.items given → c.kind ≡ asked_kind
    command
    → AreAskedFor command w given (packing_of content c) → content c.trailing ≡ [] → x ≡ packed_image content c
    → IsPackedBy command w x
packed_by content command w given c x known are_given kind asked alone is = record {
  known = known;
  given = given;
  are_given = are_given;
  packing = packing_of content c;
  asked = asked;
  is = is ∙ ap (λ y. image_from c.kind (packing_of content c) ++ y) alone
      ∙ append-nil (image_from c.kind (packing_of content c)) ∙ ap (λ k. image_from k (packing_of content c)) kind;
}

pub packs : (command : PackCommand) (path bytes : List ℕ) (w w' v : World) (h h' : OpenFiles) (shows : List ℕ → Type 0)
    → path ≡ output_path command.output.now → w' ≡ w → OpensMore (IsGivenPath command.texts (asked_kind command)) w h h'
    → IsPackedBy command w bytes → LaysImage path h'.read bytes w' v shows → PacksFile command w v shows
packs command path bytes w w' v h h' shows named same opens packed l = record {
  onto = l.onto;
  here = ap v.at (sym named) ∙ l.here;
  apart = λ p is at. l.free (opens.listed p l.onto is at);
  image = subst (IsPackedBy command w) (sym l.holds) packed;
  spares = subst (λ u. Spares l.onto u v) same l.spares;
  shown = subst (λ y. shows (image_line (counted_in_u64 (length y)) ++ (10 ∷ []))) (sym l.holds) l.shown;
}

only_before : (A : List ℕ → Type 0) (q path : List ℕ) (w w' v : World) (h h' : OpenFiles) → q ≡ path → w' ≡ w
    → OpensMore A w h h' → OnlyAt h'.read q w' v → OnlyAt h.read path w v
only_before A q path w w' v h h' named same opens (untouched is) = untouched (is ∙ same)
only_before A q path w w' v h h' named same opens (in_output file at free spares) =
    in_output file (ap v.at (sym named) ∙ at)
    (λ c. free (subst (λ (k : OpenFiles). Contains k.read file) (sym opens.taken)
    (Contains-append_left h.read opens.files file c)))
    (subst (λ u. Spares file u v) same spares)

guarded_before : (A : List ℕ → Type 0) (q path : List ℕ) (w w' v : World) (h h' : OpenFiles) → q ≡ path → w' ≡ w
    → OpensMore A w h h' → SparesInUse q h' w' v → SparesInUse path h w v
guarded_before A q path w w' v h h' named same opens spared used refused =
    subst (λ (k : OpenFiles). SparesInUse q k w' v) opens.taken spared
    (subst (λ p. IsTrue (h.in_use p)) (sym named) used) refused ∙ same

pub keeps_given : (command : PackCommand) (q : List ℕ) (w w' v : World) (h h' : OpenFiles) → w' ≡ w
    → OpensMore (IsGivenPath command.texts (asked_kind command)) w h h' → OnlyAt h'.read q w' v → KeepsGiven command w v
keeps_given command q w w' v h h' same opens (untouched is) = λ path given f there. ap (λ u. u.holds f) (is ∙ same)
keeps_given command q w w' v h h' same opens (in_output file at free spares) = λ path given f there.
    spares.files f (λ e. free (subst (Contains h'.read) e (opens.listed path f given there))) ∙ ap (λ u. u.holds f) same

whole_as : (W : List ℕ → Type 0) (q path bytes : List ℕ) (w w' v : World) → q ≡ path → w' ≡ w
    → ((x : List ℕ) → x ≡ bytes → W x) → HoldsNoPartOf q (λ x. x ≡ bytes) w' v → HoldsNoPartOf path W w v
whole_as W q path bytes w w' v named same to part = λ f at. elim (part f (ap v.at named ∙ at)) [
  | inl kept ↦ inl (kept ∙ ap (λ u. u.holds f) same)
  | inr rest ↦ inr (elim rest [ inl none ↦ inl none | inr e ↦ inr (to (v.holds f) e) ])
]

synced_behind : (A : List ℕ → Type 0) (w : World) (h h' h'' : OpenFiles) → OpensMore A w h h'
    → h''.syncs ≡ h'.syncs + (if h'.is_synced then 1 else 0) → h''.syncs ≡ h.syncs + (if h.is_synced then 1 else 0)
synced_behind A w h h' h'' opens synced = synced ∙ ap (λ k. k.syncs + (if k.is_synced then 1 else 0)) opens.taken

-- the image was written after the opening of its parts
pub left_behind : {X F : Type 0} (r : Result X F) (A : List ℕ → Type 0) (q path : List ℕ) (over : List ℕ → Bool)
    (W : List ℕ → Type 0) (bytes : List ℕ) (w w' v : World) (h h' h'' : OpenFiles) → q ≡ path → w' ≡ w
    → OpensMore A w h h'
    → ((x : List ℕ) → x ≡ bytes → W x) → LeavesOut r q (over q) (λ x. x ≡ bytes) h' h'' w' v
    → LeavesOut r path (over path) W h h'' w v
left_behind r A q path over W bytes w w' v h h' h'' named same opens to left = record {
  others = only_before A q path w w' v h h' named same opens left.others;
  guarded = guarded_before A q path w w' v h h' named same opens left.guarded;
  closed = left.closed;
  whole = λ o. whole_as W q path bytes w w' v named same to
      (left.whole (subst (λ p. IsTrue (over p)) (sym named) o));
  clean = on_ok_by r (λ e cause. e cause ∙ failed_still A w h h' cause opens) left.clean;
  synced = on_ok_by r (synced_behind A w h h' h'' opens) left.synced;
}

-- ---- of another name of the kind

pub opens_kind : (texts : PackTexts) (k k' : ImageKind) (w : World) (h h' : OpenFiles) → k ≡ k'
    → OpensMore (IsGivenPath texts k) w h h' → OpensMore (IsGivenPath texts k') w h h'
opens_kind texts k k' w h h' same opens = subst (λ q. OpensMore (IsGivenPath texts q) w h h') same opens

pub stops_kind : (texts : PackTexts) (k k' : ImageKind) (words : List (List ℕ)) (count : ℕ) (h h' : OpenFiles)
    (f : BootCommandFault) → k ≡ k' → StopsFilling (IsGivenPath texts k) words count h h' f
    → StopsFilling (IsGivenPath texts k') words count h h' f
stops_kind texts k k' words count h h' f same stops =
    subst (λ q. StopsFilling (IsGivenPath texts q) words count h h' f) same stops

pub given_kind : (k k' : ImageKind) (page : Option ℕ) (options : List OptionText) (given : BootFields) → k ≡ k'
    → AreGiven no_fields k page options given → AreGiven no_fields k' page options given
given_kind k k' page options given same are = subst (λ q. AreGiven no_fields q page options given) same are

-- ---- why it fails

pub refuses_words : (command : PackCommand) (w : World) (h : OpenFiles) (Done : Type 0) (f g : BootCommandFault)
    → IsWrong no_fields (asked_kind command) command.texts.options.items command.texts.fragments.items f → g ≡ f
    → RefusesPack command w w h h Done g
refuses_words command w h Done f g wrong told =
    subst (RefusesPack command w w h h Done) (sym told) (refusing.wrong_words wrong refl refl)

pub refuses_filling : (command : PackCommand) (w v : World) (h h' : OpenFiles) (Done : Type 0) (f : BootCommandFault)
    → v ≡ w
    → StopsFilling (IsGivenPath command.texts (asked_kind command)) (board_id_words command)
    (length command.texts.fragments.items) h h' f → RefusesPack command w v h h' Done f
refuses_filling command w v h h' Done f same (refusing.unopened failure) = refusing.failed failure
refuses_filling command w v h h' Done f same (refusing.no_text path is bad told) =
    refusing.no_path path is bad told same
refuses_filling command w v h h' Done f same (refusing.no_memory told) = refusing.too_little told same
refuses_filling command w v h h' Done f same (refusing.wrong_board bad) = refusing.bad_board bad same

pub refuses_writing : {P : Type 0} (content : P → List ℕ) (command : PackCommand) (w w' v : World)
    (h h' h'' : OpenFiles)
    (given : BootFields) (c : ImageContents P) (Laid Done : Type 0) (f : BootCommandFault) → w' ≡ w
    → OpensMore (IsGivenPath command.texts (asked_kind command)) w h h'
    → AreGiven no_fields (asked_kind command) command.page command.texts.options.items given → c.kind ≡ asked_kind
    command
    → AreAskedFor command w given (packing_of content c) → (Laid → Done)
    → StopsWriting (refusal_from c.kind (packing_of content c)) h' h'' w' v Laid f
    → RefusesPack command w v h h'' Done f
refuses_writing content command w w' v h h' h'' given c Laid Done f same opens are_given kind asked done
    (writing.refused g told is held here) =
    refusing.not_packed g told (record {
      given = given;
      are_given = are_given;
      packing = packing_of content c;
      asked = asked;
      refused = ap (λ k. refusal_from k (packing_of content c)) (sym kind) ∙ is;
    }) (here ∙ same)
refuses_writing content command w w' v h h' h'' given c Laid Done f same opens are_given kind asked done
    (writing.no_memory lacks here) =
    refusing.too_little (record {
      told = lacks.told;
      counted = failed_then (IsGivenPath command.texts (asked_kind command)) w h h' h'' (call hosts.Memory) opens
          lacks.counted;
    }) (here ∙ same)
refuses_writing content command w w' v h h' h'' given c Laid Done f same opens are_given kind asked done
    (writing.failed failure) =
    refusing.failed (failure_more f (λ cause. HasFailed cause h' h'') (λ cause. HasFailed cause h h'') failure
    (λ cause more. failed_then (IsGivenPath command.texts (asked_kind command)) w h h' h'' cause opens more))
refuses_writing content command w w' v h h' h'' given c Laid Done f same opens are_given kind asked done
    (writing.untold told laid) =
    refusing.untold told (done laid)
