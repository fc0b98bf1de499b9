-- An image that was unpacked with its words is packed again by them.
use Rattle.std.proofs.Common.{◌≡◌, ℕ, ◌<◌, ◌||◌, Bool, true, false, List, [], ◌∷◌, map, Option, Some, None, codes}
use Rattle.std.proofs.Common.{length, slice_index_or, refl, sym, ap, subst, ◌∙◌}
use Rattle.std.specs.List.{AllByRecursion, AllZip}
use Rattle.std.specs.Prelude.{is_some}
use Rattle.abt_headers.specs.declared.boot.BootHeader.{BootHeader}
use Rattle.abt_headers.specs.declared.boot.BootHeader.TheVariants.{V0, V1, V2, V3, V4}
use Rattle.abt_headers.specs.declared.sections.SectionPlace.{SectionPlace}
use Rattle.abt_headers.specs.declared.sections.Section.TheVariants.{Dtb}
use Rattle.abt_headers.specs.declared.vendor.VendorFront.{VendorFront}
use Rattle.abt_headers.specs.Vendor.{Tail, Vendor}
use Rattle.abt_io.specs.Bytes.{AreBytes}
use Rattle.abt_sections.specs.BootCanon.{boot_canon, boot_image_with}
use Rattle.abt_sections.specs.Canonical.{StartsWith}
use Rattle.abt_sections.specs.Check.{IsCanonical}
use Rattle.abt_sections.specs.Fields.{BootFields, VendorFields, cmd_common_fields}
use Rattle.abt_sections.specs.Header.{Header, OfBoot, OfVendor, fragment_count, fragment_of, places_of}
use Rattle.abt_sections.specs.Layout.{part_of}
use Rattle.abt_sections.specs.Open.{HasImage}
use Rattle.abt_sections.specs.Refusal.{boot_names}
use Rattle.abt_sections.specs.VendorCanon.{vendor_canon, vendor_parts}
use Rattle.abt_sections.specs.declared.spec.FragmentSpec.{FragmentSpec}
use Rattle.sys_disk.specs.World.{World}
use Rattle.words_values.specs.WordFile.{words_of}
use Rattle.sys_disk.specs.Among.{FileHolds}
use Rattle.cmd_unpack.specs.Unpacking.{path_of_part, section_part}
use Rattle.cmd_common_fields.specs.Kind.{kind_for}
use Rattle.cmd_common_fields.specs.declared.image_kind.ImageKind.{ImageKind}
use Rattle.cmd_common_fields.specs.declared.image_kind.ImageKind.TheVariants as kinds
use Rattle.cmd_common_boot.specs.Given.{AreGiven, found, has_offset, no_fields}
use Rattle.cmd_common_boot.specs.Refused as rules
use Rattle.cmd_common_boot.specs.declared.pack_command.PackCommand.{PackCommand}
use Rattle.cmd_common_boot.specs.Boards.{AreSet}
use Rattle.cmd_common_boot.specs.declared.pack_texts.OptionText.{OptionText}
use Rattle.cmd_common_boot.specs.declared.part_names.ImagePart.TheVariants as files
use Rattle.law_boot.specs.Said.{IsHeld, SaysFiles, boot_fields_of, is_said, value_of, values_of, vendor_fields_of}
use Rattle.law_boot.specs.Said.{without_board}
use Rattle.law_boot.specs.WayBack.{PacksFromParts, PacksBoot, PacksVendor, SaysImage, boot_parts_of, ramdisks_of}
use Rattle.law_boot.specs.WayBack.{specs_of}
use Rattle.law_boot.specs.WayBack.{vendor_part, vendor_parts_of}
use Rattle.cmd_common_texts.specs.Words.{image_words, words_text}
use Rattle.cmd_pack_outputs.specs.Contents.{Packing, image_from}
use Rattle.cmd_pack.specs.Packing.{ArePacked, IsPackedBy, PacksFile, board_id_words, asked_kind, nothing}
use Rattle.cmd_pack_inputs.specs.Parts.{AreFragmentsOf, ArePartsOf}
use Rattle.law_pack.specs.Said.{GivesNumber, GivesText, IsGivenBy, IsFragmentBy, SaysCommand, number_options}
use Rattle.law_pack.specs.Said.{text_options}
use Rattle.law_pack.specs.WayBack.{UnpackedPacksAgain}
use Rattle.law_pack.proofs.Boards.{boards_set}
use Rattle.law_pack.proofs.Fields.{boot_given, loaded_same, vendor_given, vendor_of}
use Rattle.law_pack.proofs.Fragments.{hold_each, ramdisks_are, said_are, same_count, texts_are}
use Rattle.law_pack.proofs.Options.{Orders, none_given, number_of}
use Rattle.law_pack.proofs.Lines.{words_again}
use Rattle.law_pack.proofs.Parts.{IsListed, each_place, parts_are, same_bytes}
use Rattle.law_pack.proofs.Unsaid.{SaysNoSum, says_no_sum}

-- ---- what is at hand: the words say the image, and the folder has its parts

record Ready (folder x : List ℕ) (h : Header) (command : PackCommand) (world : World) : Type 0 where
  says : SaysImage (image_words folder x h) folder x h
  said : SaysCommand (image_words folder x h) command
  sections : AllByRecursion (λ p. FileHolds world (path_of_part folder (section_part p)) (part_of x p)) (places_of h)
  fragments : (i : ℕ) → i < fragment_count h
      → FileHolds world (path_of_part folder (files.Fragment i)) (fragment_of x h i)

none_of_five : (a b c d e : Option OptionText) → a ≡ None → b ≡ None → c ≡ None → d ≡ None → e ≡ None
    → (is_some a || (is_some b || (is_some c || (is_some d || (is_some e || false))))) ≡ false
none_of_five a b c d e f g h i j = rw (f, g, h, i, j) refl

module _ (folder x : List ℕ) (h : Header) (command : PackCommand) (world : World) (r : Ready folder x h command world)
  where
    orders : Orders (image_words folder x h) command.texts.options.items
    orders =
        let words = image_words folder x h in
        let options = command.texts.options.items in
        let none = says_no_sum folder x h in
        let n = r.said.numbers in
        let unsaid : (name : List ℕ) → IsGivenBy GivesNumber (value_of name words) (found options name)
        → value_of name words ≡ None → found options name ≡ None =
        λ name g e. none_given GivesNumber (value_of name words) (found options name) g e in
        let kernel = unsaid (codes "kernel-offset") n.1.1.1.1.1.0 none.kernel in
        let ramdisk = unsaid (codes "ramdisk-offset") n.1.1.1.1.1.1.0 none.ramdisk in
        let second = unsaid (codes "second-offset") n.1.1.1.1.1.1.1.0 none.second in
        let tags = unsaid (codes "tags-offset") n.1.1.1.1.1.1.1.1.0 none.tags in
        let dtb = unsaid (codes "dtb-offset") n.1.1.1.1.1.1.1.1.1.0 none.dtb in
        record {
          numbers = n;
          texts = subst (λ (t : Bool). AllByRecursion
              (λ name. IsGivenBy (GivesText t) (value_of name words) (found options name)) text_options)
              r.says.escaped r.said.texts;
          base = unsaid (codes "base") n.1.1.1.1.1.1.1.1.1.1.0 none.base;
          no_offset = none_of_five (found options (codes "kernel-offset")) (found options (codes "ramdisk-offset"))
              (found options (codes "second-offset"))
              (found options (codes "tags-offset")) (found options (codes "dtb-offset")) kernel ramdisk second tags dtb;
        }

    parts_ready : (table : Bool) (places : List SectionPlace) (parts : List (List ℕ))
        → AllByRecursion (IsListed table) places
        → SaysFiles (image_words folder x h) folder table places
        → AllByRecursion (λ p. FileHolds world (path_of_part folder (section_part p)) (part_of x p)) places
        → ArePartsOf world command.texts.options.items nothing (map (λ p. p.kind) places) parts
        → parts ≡ map (part_of x) places
    parts_ready table places parts l s f a = parts_are (image_words folder x h)
        command.texts.options.items orders world folder x table places parts l s f a

-- what an order asks for, where its kind and its page are known
abbrev Asked : PackCommand → World → ImageKind → BootFields → Packing → Type 0
Asked command world kind given p = ArePacked world command.texts (board_id_words command) nothing
    (AreFragmentsOf world command.texts.fragments.items) kind given p

-- ---- boot images

boot_parts : (folder x : List ℕ) (h : BootHeader) (command : PackCommand) (world : World)
    → Ready folder x (OfBoot h) command world → (parts : List (List ℕ))
    → ArePartsOf world command.texts.options.items nothing (boot_names (boot_fields_of h).version) parts
    → parts ≡ boot_parts_of x h
boot_parts folder x (V0 f) command world r parts a =
    parts_ready folder x (OfBoot (V0 f)) command world r false (places_of (OfBoot (V0 f))) parts
    ((tt, refl), ((tt, refl), ((tt, refl), tt))) r.says.files r.sections a
boot_parts folder x (V1 f d) command world r parts a =
    parts_ready folder x (OfBoot (V1 f d)) command world r false (places_of (OfBoot (V1 f d))) parts
    ((tt, refl), ((tt, refl), ((tt, refl), ((tt, refl), tt)))) r.says.files r.sections a
boot_parts folder x (V2 f d t) command world r parts a =
    parts_ready folder x (OfBoot (V2 f d t)) command world r false (places_of (OfBoot (V2 f d t))) parts
    ((tt, refl), ((tt, refl), ((tt, refl), ((tt, refl), ((tt, refl), tt))))) r.says.files r.sections a
boot_parts folder x (V3 f) command world r parts a =
    parts_ready folder x (OfBoot (V3 f)) command world r false (places_of (OfBoot (V3 f))) parts
    ((tt, refl), ((tt, refl), tt)) r.says.files r.sections a
boot_parts folder x (V4 f s) command world r parts a =
    parts_ready folder x (OfBoot (V4 f s)) command world r false (places_of (OfBoot (V4 f s))) parts
    ((tt, refl), ((tt, refl), ((tt, refl), tt))) r.says.files r.sections a

module _ (folder x : List ℕ) (h : BootHeader) (command : PackCommand) (world : World)
    (r : Ready folder x (OfBoot h) command world) where
  boot_kind : asked_kind command ≡ kinds.Boot (boot_fields_of h).version
  boot_kind = ap (λ (t : Bool). kind_for t command.version) (r.said.vendor ∙ r.says.vendor) ∙ ap kinds.Boot
      (r.said.version (boot_fields_of h).version r.says.fields.version)

  boot_is : (bytes : List ℕ) → IsPackedBy command world bytes
      → bytes ≡ boot_canon (boot_fields_of h) (boot_parts_of x h)
  boot_is bytes p =
      let s = boot_fields_of h in
      let options = command.texts.options.items in
      let given : AreGiven no_fields (kinds.Boot s.version) (Some s.page) options p.given =
      subst (λ (k : ImageKind). AreGiven no_fields k (Some s.page) options p.given) boot_kind
      (subst (λ (o : Option ℕ). AreGiven no_fields (asked_kind command) o options p.given)
      (r.said.page s.page r.says.fields.page) p.are_given) in
      let asked : Asked command world (kinds.Boot s.version) p.given p.packing = subst
      (λ (k : ImageKind). Asked command world k p.given p.packing) boot_kind p.asked in
      let o = orders folder x (OfBoot h) command world r in
      let words = image_words folder x (OfBoot h) in
      let fields : cmd_common_fields p.packing.fields ≡ s = asked.loaded
      ∙ loaded_same words options o s.version p.packing.parts p.given
      ∙ boot_given words options o s p.given r.says.fields given in
      let parts = boot_parts folder x h command world r p.packing.parts asked.parts in
      p.is ∙ ap (λ (k : ImageKind). image_from k p.packing) boot_kind
      ∙ ap (λ (e : Bool). boot_image_with e (cmd_common_fields p.packing.fields) p.packing.parts)
      (asked.front ∙ r.said.front)
      ∙ ap (λ (t : BootFields). boot_canon t p.packing.parts) fields ∙ ap (boot_canon s) parts

-- ---- vendor boot images

module _ (folder x : List ℕ) (v : Vendor) (command : PackCommand) (world : World)
    (r : Ready folder x (OfVendor v) command world) (bytes : List ℕ) (p : IsPackedBy command world bytes) where
  vendor_kind : asked_kind command ≡ kinds.Vendor (vendor_fields_of v).version
  vendor_kind = ap (λ (t : Bool). kind_for t command.version) (r.said.vendor ∙ r.says.vendor) ∙ ap kinds.Vendor
      (r.said.version (vendor_fields_of v).version r.says.fields.version)

  vendor_asked : Asked command world (kinds.Vendor (vendor_fields_of v).version) p.given p.packing
  vendor_asked = subst (λ (k : ImageKind). Asked command world k p.given p.packing) vendor_kind p.asked

  vendor_fields_are : rules.vendor_fields_asked p.packing.fields ≡ vendor_fields_of v
  vendor_fields_are =
      let s = vendor_fields_of v in
      let options = command.texts.options.items in
      let given : AreGiven no_fields (kinds.Vendor s.version) (Some s.page) options p.given =
      subst (λ (k : ImageKind). AreGiven no_fields k (Some s.page) options p.given) vendor_kind
      (subst (λ (o : Option ℕ). AreGiven no_fields (asked_kind command) o options p.given)
      (r.said.page s.page r.says.fields.page) p.are_given) in
      ap vendor_of vendor_asked.loaded ∙ vendor_given (image_words folder x (OfVendor v)) options
      (orders folder x (OfVendor v) command world r) s p.given r.says.fields given

  abbrev canon_of : VendorFields → List (List ℕ) → List FragmentSpec → List (List ℕ) → List ℕ
  canon_of s parts specs ramdisks = vendor_canon s (rules.vendor_parts_asked s.version parts specs ramdisks)

  vendor_image_is : bytes ≡ canon_of (vendor_fields_of v) p.packing.parts p.packing.specs p.packing.ramdisks
  vendor_image_is =
      p.is ∙ ap (λ (k : ImageKind). image_from k p.packing) vendor_kind
      ∙ ap (λ (s : VendorFields). canon_of s p.packing.parts p.packing.specs p.packing.ramdisks) vendor_fields_are

vendor_three : (folder x : List ℕ) (f : VendorFront) (command : PackCommand) (world : World)
    → (let v : Vendor = record { front = f; tail = None } in Ready folder x (OfVendor v) command world
    → (bytes : List ℕ) → IsPackedBy command world bytes
    → bytes ≡ vendor_canon (vendor_fields_of v) (vendor_parts_of x v))
vendor_three folder x f command world r bytes p =
    let v : Vendor = record { front = f; tail = None } in
    let asked = vendor_asked folder x v command world r bytes p in
    let parts : p.packing.parts ≡ vendor_part x v 0 ∷ vendor_part x v 1 ∷ [] =
    parts_ready folder x (OfVendor v) command world r false (places_of (OfVendor v)) p.packing.parts
    ((tt, refl), ((tt, refl), tt)) r.says.files r.sections asked.parts in
    vendor_image_is folder x v command world r bytes p
    ∙ ap (λ (qs : List (List ℕ)). canon_of folder x v command world r bytes p (vendor_fields_of v)
    qs p.packing.specs p.packing.ramdisks) parts

module _ (folder x : List ℕ) (f : VendorFront) (t : Tail) (command : PackCommand) (world : World) where
  abbrev four : Vendor
  four = record { front = f; tail = Some t }

  vendor_four : Ready folder x (OfVendor four) command world
      → PacksVendor x (vendor_fields_of four) (vendor_parts_of x four) → (bytes : List ℕ)
      → IsPackedBy command world bytes
      → bytes ≡ vendor_canon (vendor_fields_of four) (vendor_parts_of x four)
  vendor_four r packs bytes p =
      let h : Header = OfVendor four in
      let words = image_words folder x h in
      let items = command.texts.fragments.items in
      let asked = vendor_asked folder x four command world r bytes p in
      let ps = places_of h in
      let none : SectionPlace = record { kind = Dtb; at = 0; size = 0 } in
      let s = r.sections in
      let said = r.says.files in
      let parts : p.packing.parts ≡ vendor_part x four 1 ∷ vendor_part x four 3 ∷ [] =
      parts_ready folder x h command world r true (slice_index_or ps 1 none ∷ slice_index_or ps 3 none ∷ [])
      p.packing.parts ((tt, refl), ((tt, refl), tt))
      (said.1.0, (said.1.1.1.0, tt)) (s.1.0, (s.1.1.1.0, tt)) asked.parts in
      let fs = specs_of x h t.entry_num in
      let rs = ramdisks_of x h t.entry_num in
      let given = values_of (codes "fragment") words in
      let boards = values_of (codes "board-id") words in
      let values : AllZip (IsFragmentBy true) given items = subst (λ (e : Bool). AllZip (IsFragmentBy e) given items)
      r.says.escaped r.said.fragments in
      let texts = texts_are folder given items 0 fs values r.says.fragments.each in
      let bare = said_are world folder 0 items fs asked.said p.packing.ramdisks texts asked.fragments in
      let ramdisks = ramdisks_are world folder 0 items fs asked.said p.packing.ramdisks rs texts asked.fragments
      (hold_each world folder x h t.entry_num r.fragments) (same_count x h t.entry_num) in
      let set : AreSet boards (map without_board fs) p.packing.specs =
      subst (λ (ws : List (List ℕ)). AreSet ws (map without_board fs) p.packing.specs) r.said.board_ids
      (subst (λ (l : List FragmentSpec). AreSet (board_id_words command) l p.packing.specs) bare asked.boards) in
      let specs = boards_set fs boards r.says.fragments.boards p.packing.specs packs.taken.fragments
      r.says.fragments.are_boards r.says.fragments.board_ids set in
      let at = canon_of folder x four command world r bytes p (vendor_fields_of four) in
      vendor_image_is folder x four command world r bytes p
      ∙ ap (λ (qs : List (List ℕ)). at qs p.packing.specs p.packing.ramdisks) parts
      ∙ ap (λ (l : List FragmentSpec). at (vendor_part x four 1 ∷ vendor_part x four 3 ∷ []) l p.packing.ramdisks) specs
      ∙ ap (λ (l : List (List ℕ)). at (vendor_part x four 1 ∷ vendor_part x four 3 ∷ []) fs l) ramdisks

-- ---- both

vendor_again : (folder x : List ℕ) (f : VendorFront) (o : Option Tail) (command : PackCommand) (world : World)
    → (let v : Vendor = record { front = f; tail = o } in Ready folder x (OfVendor v) command world
    → PacksVendor x (vendor_fields_of v) (vendor_parts_of x v)
    → (bytes : List ℕ) → IsPackedBy command world bytes → StartsWith x bytes)
vendor_again folder x f None command world r packs bytes p = subst (StartsWith x)
    (sym (vendor_three folder x f command world r bytes p)) packs.again
vendor_again folder x f (Some t) command world r packs bytes p = subst (StartsWith x)
    (sym (vendor_four folder x f t command world r packs bytes p)) packs.again

again : (folder x : List ℕ) (h : Header) (command : PackCommand) (world : World) → Ready folder x h command world
    → PacksFromParts x h → (bytes : List ℕ) → IsPackedBy command world bytes → StartsWith x bytes
again folder x (OfBoot h) command world r packs bytes p = subst (StartsWith x)
    (sym (boot_is folder x h command world r bytes p)) packs.again
again folder x (OfVendor v) command world r packs bytes p =
    vendor_again folder x v.front v.tail command world r packs bytes p

-- what the laws of boot images say
abbrev pub Packs : Type 0
Packs = (x : List ℕ) (h : Header) → AreBytes x → HasImage x h → IsCanonical x h → PacksFromParts x h

abbrev pub Says : Type 0
Says = (folder x : List ℕ) (h : Header) → AreBytes folder → AreBytes x → HasImage x h → IsCanonical x h
    → SaysImage (image_words folder x h) folder x h

abbrev pub Holds : Type 0
Holds = (x : List ℕ) (h : Header) → AreBytes x → HasImage x h → IsHeld h

pub unpacked_again : Packs → Says → Holds → UnpackedPacksAgain
unpacked_again packs says holds input folder command a b c bytes u said packed =
    let x = a.holds u.done.from in
    let h = u.done.header in
    let text = same_bytes b (path_of_part folder files.Words) said.text (words_text (image_words folder x h))
    said.holds (u.done.words refl) in
    let words : words_of said.text ≡ image_words folder x h = ap words_of text ∙ words_again folder x h bytes u.bytes
    (holds x h u.bytes u.done.image) in
    let ready : Ready folder x h command b = record {
      says = says folder x h bytes u.bytes u.done.image u.canonical;
      said = subst (λ (ws : List (List ℕ)). SaysCommand ws command) words said.says;
      sections = each_place (λ p. FileHolds b (path_of_part folder (section_part p)) (part_of x p)) (places_of h)
          u.done.sections;
      fragments = u.done.fragments;
    } in
    again folder x h command b ready (packs x h u.bytes u.done.image u.canonical) (c.holds packed.onto) packed.image
