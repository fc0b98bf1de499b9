-- An image that was unpacked by its words is packed again by the words of their file.
use Rattle.std.proofs.Common.{◌≡◌, ℕ, Bool, true, List, [], ◌∷◌, ◌++◌, codes, refl, sym, ap, subst, ◌∙◌}
use Rattle.std.proofs.lemmas.Bool.{and_parts}
use Rattle.abt_io.specs.Bytes.{AreBytes}
use Rattle.abt_sections.specs.Check.{IsCanonical}
use Rattle.abt_sections.specs.Header.{Header, OfBoot, OfVendor}
use Rattle.abt_sections.specs.Open.{HasImage}
use Rattle.sys_refusals.specs.Paths.{output_path}
use Rattle.sys_disk.specs.World.{World, OpenFiles}
use Rattle.sys_report.specs.declared.report.Report.{Report}
use Rattle.words_values.specs.WordFile.{words_of}
use Rattle.words_orders.specs.Asked.{IsOrderOf}
use Rattle.words_sayings.specs.Words.{is_plain}
use Rattle.words_orders.specs.declared.order.BootTask.{BootTask}
use Rattle.words_orders.specs.declared.order.BootTask.TheVariants as boot
use Rattle.words_orders.specs.declared.order.PackOrder.{PackOrder}
use Rattle.cmd_unpack.specs.Lines.{ToldPart}
use Rattle.cmd_unpack.specs.Unpacking.{Unpacks, path_of_part}
use Rattle.cmd_common_boot.specs.declared.part_names.ImagePart.TheVariants as parts
use Rattle.cmd_common_boot.specs.declared.pack_command.PackCommand.{PackCommand}
use Rattle.cmd_common_texts.specs.Words.{image_words, words_text}
use Rattle.cmd_pack.specs.Packing.{PacksFile}
use Rattle.cmd_boot_dispatch.specs.Commands.{DoesKind, IsKindOf}
use Rattle.cmd_boot_dispatch.specs.Ordered.{IsCommandOf}
use Rattle.cmd_boot_dispatch.specs.declared.command.BootCommandKind.{BootCommandKind}
use Rattle.cmd_boot_dispatch.specs.declared.command.BootCommandKind.TheVariants as kinds
use Rattle.law_boot.specs.Said.{IsHeld, is_said}
use Rattle.law_pack.specs.Said.{SaysCommand}
use Rattle.law_pack.specs.WayBack.{FileSaysCommand, UnpackedPacksAgain, UnpacksCanonical}
use Rattle.law_pack.proofs.Lines.{words_again}
use Rattle.law_pack.proofs.Options.{same_number}
use Rattle.law_pack.proofs.Parts.{same_bytes}
use Rattle.law_words.specs.WordsBack.{WordsPackAgain, is_own, is_path, unpack_words}
use Rattle.law_words.proofs.Command.{says_command}
use Rattle.law_words.proofs.Expanded.{pack_expands, unpack_expands}
use Rattle.law_words.proofs.Ordered.{AsksUnpackOf, named_task, pack_asked, unpack_asked}
use Rattle.law_words.proofs.PackWords.{image_are}

-- ---- what is done

-- any lines
unpacks_of : (input folder : List ℕ) (t : Bool) (a b : World) (shows : List ToldPart → Type 0)
    → Unpacks input folder t a b shows → Unpacks input folder t a b (λ lines. Unit {0})
unpacks_of input folder t a b shows u = record {
  from = u.from;
  there = u.there;
  header = u.header;
  image = u.image;
  sections = u.sections;
  fragments = u.fragments;
  words = u.words;
  shown = tt;
}

packs_of : (command : PackCommand) (a b : World) (shows : List ℕ → Type 0) → PacksFile command a b shows
    → PacksFile command a b (λ line. Unit {0})
packs_of command a b shows p =
    record { onto = p.onto; here = p.here; apart = p.apart; image = p.image; spares = p.spares; shown = tt }

module _ (on_output : List ℕ → Bool) (a b : World) (held held' : OpenFiles) (before after : Report) where
  abbrev Does : BootCommandKind → Type 0
  Does kind = DoesKind on_output kind a held before b held' after

  unpack_done : (input folder : List ℕ) (task : BootTask) (kind : BootCommandKind) → AsksUnpackOf input folder task
      → IsKindOf task kind → Does kind → Unpacks input folder true a b (λ lines. Unit {0})
  unpack_done input folder (boot.Pack order) kind asks is does = absurd asks
  unpack_done input folder (boot.Repack own order) kind asks is does = absurd asks
  unpack_done input folder (boot.Info own c h) kind asks is does = absurd asks
  unpack_done input folder (boot.Unpack own onto w) (kinds.Pack command) asks is does = absurd is
  unpack_done input folder (boot.Unpack own onto w) (kinds.Repack from command) asks is does = absurd is
  unpack_done input folder (boot.Unpack own onto w) (kinds.Info from c h) asks is does = absurd is
  unpack_done input folder (boot.Unpack own onto w) (kinds.Unpack from to wanted) asks is does =
      subst (λ p. Unpacks p folder true a b (λ lines. Unit {0})) (is.0 ∙ asks.0)
      (subst (λ p. Unpacks from.now p true a b (λ lines. Unit {0})) (is.1 ∙ asks.1)
      (subst (λ t. Unpacks from.now to.now t a b (λ lines. Unit {0})) (is.2 ∙ asks.2)
      (unpacks_of from.now to.now wanted a b _ does.0)))

  record PackDone (order : PackOrder) : Type 0 where
    command : PackCommand
    is : IsCommandOf order command
    packs : PacksFile command a b (λ line. Unit {0})

  pack_done : (order : PackOrder) (kind : BootCommandKind) → IsKindOf (boot.Pack order) kind → Does kind
      → PackDone order
  pack_done order (kinds.Pack command) is does =
      record { command = command; is = is; packs = packs_of command a b _ does.0 }
  pack_done order (kinds.Repack from command) is does = absurd is
  pack_done order (kinds.Unpack from to wanted) is does = absurd is
  pack_done order (kinds.Info from c h) is does = absurd is

-- ---- the way back

escaped_said : (folder x : List ℕ) (h : Header) → is_said (codes "escaped") (image_words folder x h) ≡ true
escaped_said folder x (OfBoot h) = refl
escaped_said folder x (OfVendor v) = refl

path_parts : (word : List ℕ) → is_path word ≡ true → (is_own word ≡ true) × (is_plain word ≡ true)
path_parts word h = let p = and_parts (is_own word) (is_plain word) h in (p.0, p.1)

-- the laws that are used
abbrev pub Holds : Type 0
Holds = (x : List ℕ) (h : Header) → AreBytes x → HasImage x h → IsHeld h

pub packs_again_by_words : UnpackedPacksAgain → Holds → WordsPackAgain
packs_again_by_words law holds program input folder output a b c own i f o bytes image first second =
    let in_parts = path_parts input i in
    let folder_parts = path_parts folder f in
    let out_parts = path_parts output o in
    -- the first run
    let unpack_order : IsOrderOf (unpack_words program input folder) first.order =
    subst (λ ws. IsOrderOf ws first.order)
    (unpack_expands program input folder first.texts own in_parts.0 folder_parts.0) first.asked in
    let unpack_named = named_task (unpack_words program input folder) first.order first.task (codes "unpack")
    (codes "--words" ∷ input ∷ folder ∷ []) unpack_order first.is_task refl refl in
    let done = unpack_done first.on_output a b first.begun first.ended first.before first.after input folder first.task
    first.kind (unpack_asked input folder first.task in_parts.1 folder_parts.1 unpack_named) first.is_kind first.done in
    let same : image.file ≡ done.from = same_number image.file done.from (sym image.there ∙ done.there) in
    let image_bytes : AreBytes (a.holds done.from) = subst (λ n. AreBytes (a.holds n)) same image.bytes in
    let unpacked : UnpacksCanonical input folder a b = record {
      done = done;
      bytes = image_bytes;
      canonical = subst (λ n. (h : Header) → HasImage (a.holds n) h → IsCanonical (a.holds n) h) same image.canonical
          done.header done.image;
    } in
    -- the file of words
    let x = a.holds done.from in
    let words = image_words folder x done.header in
    let e = pack_expands program folder output second.texts b second.held second.read own folder_parts.0 out_parts.0
    second.reads in
    let text = same_bytes b (path_of_part folder parts.Words) e.text (words_text words) e.holds (done.words refl) in
    let lines : words_of e.text ≡ words = ap words_of text ∙ words_again folder x done.header bytes image_bytes
    (holds x done.header image_bytes done.image) in
    let all_words = program ∷ codes "pack" ∷ (words ++ (output ∷ [])) in
    -- the second run
    let pack_order : IsOrderOf all_words second.order = subst (λ ws. IsOrderOf ws second.order)
    (e.are ∙ ap (λ ws. program ∷ codes "pack" ∷ (ws ++ (output ∷ []))) lines) second.asked in
    let pack_named = named_task all_words second.order second.task (codes "pack") (words ++ (output ∷ [])) pack_order
    second.is_task refl refl in
    let asked = pack_asked words output second.task (image_are folder x done.header)
    (escaped_said folder x done.header) out_parts.1 pack_named in
    let packed = pack_done second.on_output b c second.begun second.ended second.before second.after asked.order
    second.kind (subst (λ t. IsKindOf t second.kind) asked.is second.is_kind) second.done in
    let says : SaysCommand (words_of e.text) packed.command = subst (λ ws. SaysCommand ws packed.command) (sym lines)
    (says_command words asked.all asked.order packed.command asked.say asked.asks packed.is) in
    let file : FileSaysCommand (path_of_part folder parts.Words) packed.command b =
    record { text = e.text; holds = e.holds; says = says } in
    record {
      from = done.from;
      there = done.there;
      onto = packed.packs.onto;
      here = ap (λ w. c.at (output_path w)) (sym (packed.is.output ∙ asked.asks.output ∙ asked.output))
          ∙ packed.packs.here;
      again = law input folder packed.command a b c bytes unpacked file packed.packs;
    }
