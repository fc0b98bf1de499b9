-- What a whole run leaves, after the image that it opened.
use Rattle.std.proofs.Common.{◌≡◌, ℕ, ◌+◌, Bool, IsTrue, List, [], length, refl, sym, ◌∙◌, ap, subst, arith}
use Rattle.std.specs.Prelude.{Option, unwrap_or}
use std.Path.{fun_ext}
use Rattle.sys_disk.specs.Counts.{Cause, Counts, added}
use Rattle.sys_disk.specs.World.{World, OpenFiles, OpensFile, KeepsFile, counting}
use Rattle.abt_sections.specs.Header.{Header, view_of, places_of, fragment_count, fragment_of}
use Rattle.abt_sections.specs.declared.image.Image.{Image}
use Rattle.abt_sections.specs.Layout.{part_of}
use Rattle.abt_sections.specs.Open.{HasImage, IsOpened}
use Rattle.sys_refusals.specs.declared.place.FileArg.{FileArg}
use Rattle.cmd_common_boot.specs.declared.fault.BootCommandFault.{BootCommandFault}
use Rattle.cmd_common_boot.specs.declared.part_names.ImagePart.TheVariants as parts
use Rattle.cmd_common_texts.specs.Words.{image_words, words_text}
use Rattle.sys_disk.specs.Among.{GoesAmong, OnlyAmong, FileHolds}
use Rattle.cmd_unpack.specs.Unpacking.{FragmentsDone, SectionsDone, WordsDone, path_of_part, section_part}
use Rattle.cmd_unpack.specs.Unpacking.{IsPartOf, IsPartPath, PartsBegun, PartsStand, SyncsMore, SyncsParts, Unpacks}
use Rattle.cmd_unpack.specs.Unpacking.{part_total}
use Rattle.cmd_unpack.specs.Unpacking.{LeavesParts, PartsLeft, TellsOfPart, first_parts}
use Rattle.cmd_unpack.specs.Lines.{ToldPart, told_parts}
use Rattle.sys_disk.proofs.Amongs.{among_behind, goes_more, goes_none, goes_then, kept_beside, stands}
use Rattle.cmd_unpack.specs.Writing.{KeepsInUse}
use Rattle.cmd_unpack.proofs.Loops.{left_later}
use Rattle.cmd_unpack.proofs.UnpackSteps.{Allowed, allowed_as, allowed_more, guards_counted, guards_then}

pub unpacks : (path folder x : List ℕ) (with_words : Bool) (header : Header) (h h' h'' : OpenFiles) (a c : World)
    (shows : List ToldPart → Type 0) → OpensFile a path x h h' → HasImage x header
    → SectionsDone folder header x (length (places_of header)) h'' c
    → FragmentsDone folder header x (fragment_count header) h'' c
    → (IsTrue with_words → WordsDone folder header x h'' c)
    → shows (told_parts x header with_words (words_text (image_words folder x header)))
    → Unpacks path folder with_words a c shows
unpacks path folder x with_words header h h' h'' a c shows opens image sections fragments words shown = record {
  from = opens.file;
  there = opens.there;
  header = header;
  image = subst (λ z. HasImage z header) opens.held image;
  sections = λ i p below found. subst (λ z. FileHolds c (path_of_part folder (section_part p)) (part_of z p)) opens.held
      (stands h'' c _ _ (sections i below p found));
  fragments = λ i below.
      subst (λ z. FileHolds c (path_of_part folder (parts.Fragment i)) (fragment_of z header i)) opens.held
      (stands h'' c _ _ (fragments i below));
  words = λ wanted.
      subst (λ z. FileHolds c (path_of_part folder parts.Words) (words_text (image_words folder z header))) opens.held
      (stands h'' c _ _ (words wanted));
  shown = subst (λ z. shows (told_parts z header with_words (words_text (image_words folder z header)))) opens.held
      shown;
}

pub syncs_parts : (path x : List ℕ) (with_words : Bool) (header : Header) (h h' h'' : OpenFiles) (a : World)
    → OpensFile a path x h h' → HasImage x header → SyncsMore (part_total with_words header) h h''
    → SyncsParts path with_words a h h''
syncs_parts path x with_words header h h' h'' a opens image syncs = record {
  from = opens.file;
  there = opens.there;
  header = header;
  image = subst (λ z. HasImage z header) opens.held image;
  syncs = syncs;
}

pub parts_stand : (path folder x : List ℕ) (with_words : Bool) (header : Header) (h h' h'' : OpenFiles) (a c : World)
    → OpensFile a path x h h' → HasImage x header → PartsBegun folder with_words header x h'' c
    → PartsStand path folder with_words a h'' c
parts_stand path folder x with_words header h h' h'' a c opens image begun = record {
  from = opens.file;
  there = opens.there;
  header = header;
  image = subst (λ z. HasImage z header) opens.held image;
  begun = subst (λ z. PartsBegun folder with_words header z h'' c) opens.held begun;
}

part_of_opened : (path folder x : List ℕ) (with_words : Bool) (header : Header) (h h' : OpenFiles) (a : World)
    → OpensFile a path x h h' → HasImage x header → (p : List ℕ) → IsPartPath folder with_words header p
    → IsPartOf path folder with_words a p
part_of_opened path folder x with_words header h h' a opens image p named = record {
  from = opens.file;
  there = opens.there;
  header = header;
  image = subst (λ z. HasImage z header) opens.held image;
  is_part = named;
}

goes_part : (path folder x : List ℕ) (with_words : Bool) (header : Header) (h h' h'' : OpenFiles) (a b c : World)
    → OpensFile a path x h h' → HasImage x header → GoesAmong (IsPartPath folder with_words header) h' h'' b c
    → GoesAmong (IsPartOf path folder with_words a) h' h'' b c
goes_part path folder x with_words header h h' h'' a b c opens image goes =
    goes_more _ _ h' h'' b c (part_of_opened path folder x with_words header h h' a opens image) goes

pub only_parts : (path folder x : List ℕ) (with_words : Bool) (header : Header) (h h' h'' : OpenFiles) (a b c : World)
    → h.begun ≡ [] → OpensFile a path x h h' → b ≡ a → HasImage x header
    → GoesAmong (IsPartPath folder with_words header) h' h'' b c
    → OnlyAmong (IsPartOf path folder with_words a) h.read h''.begun a c
only_parts path folder x with_words header h h' h'' a b c none opens same image goes =
    among_behind _ path x h h' h'' a b c none opens same
    (goes_part path folder x with_words header h h' h'' a b c opens image goes)

pub only_opened : (P : List ℕ → Type 0) (path x : List ℕ) (h h' h'' : OpenFiles) (a b : World) (n : Counts)
    → h.begun ≡ [] → OpensFile a path x h h' → b ≡ a → h'' ≡ counting n h' → OnlyAmong P h.read h''.begun a b
only_opened P path x h h' h'' a b n none opens same let_go =
    among_behind P path x h h' h'' a b b none opens same (goes_none P h' h'' b b n let_go refl)

pub keeps_opened : (P : List ℕ → Type 0) (path bytes : List ℕ) (h h' h'' : OpenFiles) (a b c : World)
    → OpensFile a path bytes h h' → b ≡ a → GoesAmong P h' h'' b c → KeepsFile path a c
keeps_opened P path bytes h h' h'' a b c opens same goes = λ f there.
    let same_file : opens.file ≡ f = ap (λ o. unwrap_or o 0) (sym opens.there ∙ there) in
    subst (λ g. c.holds g ≡ a.holds g) same_file (kept_beside P path bytes h h' h'' a b c opens same goes)

pub keeps_same : (path : List ℕ) (a b : World) → b ≡ a → KeepsFile path a b
keeps_same path a b same = λ f there. ap (λ w. w.holds f) same

pub has_as : (x y : List ℕ) (image : Image) → y ≡ x → IsOpened x image → HasImage y (view_of image.header)
has_as x y image same opened = subst (λ z. HasImage z (view_of image.header)) (sym same) opened.has

-- what is counted twice is one sum
pub twice : (h h' h'' : OpenFiles) (m n : Counts) → h' ≡ counting m h → h'' ≡ counting n h'
    → h'' ≡ counting (added m n) h
twice h h' h'' m n first next =
    let failed : (cause : Cause) → h.counts.failed cause + m.failed cause + n.failed cause
    ≡ h.counts.failed cause + (m.failed cause + n.failed cause) = λ cause. omega arith in
    let given : h.counts.given + m.given + n.given ≡ h.counts.given + (m.given + n.given) = omega arith in
    next ∙ ap (λ k. counting n k) first
    ∙ ap (λ f. record h { counts = record { failed = f; given = h.counts.given + m.given + n.given } }) (fun_ext failed)
    ∙ ap (λ b. record h { counts = record { failed = (added h.counts (added m n)).failed; given = b } }) given

-- whatever was done after a file was opened, before it was closed
within : (P : List ℕ → Type 0) (h' g h'' k : OpenFiles) (b c d : World) (m n : Counts) → g ≡ counting m h'
    → GoesAmong P g h'' b c
    → k ≡ counting n h'' → d ≡ c → GoesAmong P h' k b d
within P h' g h'' k b c d m n taken goes let_go same =
    goes_then P h' h'' k b c d (goes_then P h' g h'' b b c (goes_none P h' g b b m taken refl) goes)
    (goes_none P h'' k c d n let_go same)

pub only_let_go : (path folder x : List ℕ) (with_words : Bool) (header : Header) (h h' g h'' k : OpenFiles)
    (a b c d : World)
    (m n : Counts) → h.begun ≡ [] → OpensFile a path x h h' → b ≡ a → HasImage x header → g ≡ counting m h'
    → GoesAmong (IsPartPath folder with_words header) g h'' b c → k ≡ counting n h'' → d ≡ c
    → OnlyAmong (IsPartOf path folder with_words a) h.read k.begun a d
only_let_go path folder x with_words header h h' g h'' k a b c d m n none opens same image taken goes let_go still =
    only_parts path folder x with_words header h h' k a b d none opens same image
    (within _ h' g h'' k b c d m n taken goes let_go still)

-- and only where it may be written
pub allowed_let_go : (path folder x : List ℕ) (with_words : Bool) (header : Header) (h h' g h'' k : OpenFiles)
    (a b c d : World) (m n : Counts) → h.begun ≡ [] → OpensFile a path x h h' → b ≡ a → HasImage x header
    → g ≡ counting m h' → GoesAmong (Allowed (IsPartPath folder with_words header) g) g h'' b c → k ≡ counting n h''
    → d ≡ c → OnlyAmong (Allowed (IsPartOf path folder with_words a) h) h.read k.begun a d
allowed_let_go path folder x with_words header h h' g h'' k a b c d m n none opens same image taken goes let_go still =
    let P = IsPartPath folder with_words header in
    let Q = IsPartOf path folder with_words a in
    let opened : KeepsInUse h h' = record {
      in_use = ap (λ q. q.in_use) opens.taken;
      allows = ap (λ q. q.allows_mounted) opens.taken;
    } in
    let guards = guards_then h h' g opened (guards_counted h' g m taken) in
    among_behind (Allowed Q h) path x h h' k a b d none opens same
    (within (Allowed Q h) h' g h'' k b c d m n taken
    (allowed_more P Q h g h'' b c (part_of_opened path folder x with_words header h h' a opens image)
    (allowed_as P h g h'' b c guards goes)) let_go still)

pub keeps_let_go : (P : List ℕ → Type 0) (path x : List ℕ) (h h' g h'' k : OpenFiles) (a b c d : World) (m n : Counts)
    → OpensFile a path x h h' → b ≡ a → g ≡ counting m h' → GoesAmong P g h'' b c → k ≡ counting n h'' → d ≡ c
    → KeepsFile path a d
keeps_let_go P path x h h' g h'' k a b c d m n opens same taken goes let_go still =
    keeps_opened P path x h h' k a b d opens same (within P h' g h'' k b c d m n taken goes let_go still)

pub leaves_parts : (path folder x : List ℕ) (fault : BootCommandFault) (place : Option FileArg) (header : Header)
    (h h' g h'' k : OpenFiles) (a b c d : World) (m n : Counts)
    → h.begun ≡ [] → OpensFile a path x h h' → b ≡ a → HasImage x header → g ≡ counting m h'
    → PartsLeft folder header x (TellsOfPart fault place folder) h'' c (λ named. GoesAmong named g h'' b c)
    → k ≡ counting n h'' → d ≡ c → LeavesParts path folder fault place h k a d
leaves_parts path folder x fault place header h h' g h'' k a b c d m n none opens same image taken left let_go still =
    first_parts opens.file opens.there header (subst (λ z. HasImage z header) opens.held image)
    (subst (λ z. PartsLeft folder header z (TellsOfPart fault place folder) k d
    (λ named. OnlyAmong named h.read k.begun a d)) opens.held
    (left_later folder header x (TellsOfPart fault place folder) h'' k n c d (λ named. GoesAmong named g h'' b c)
    (λ named. OnlyAmong named h.read k.begun a d)
    (λ P goes. among_behind P path x h h' k a b d none opens same
    (within P h' g h'' k b c d m n taken goes let_go still))
    let_go still left))
