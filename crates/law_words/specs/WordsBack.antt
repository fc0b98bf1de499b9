-- The way back by the words of two runs: `unpack --words IN DIR`, and then `pack @DIR/pack.words OUT`.
use Rattle.std.specs.Prelude.{◌≡◌, ◌==◌, ◌&&◌, not, ℕ, Bool, true, List, [], ◌∷◌, Some, IsTrue, codes}
use Rattle.abt_io.specs.Bytes.{AreBytes}
use Rattle.abt_sections.specs.Canonical.{StartsWith}
use Rattle.abt_sections.specs.Check.{IsCanonical}
use Rattle.abt_sections.specs.Header.{Header}
use Rattle.abt_sections.specs.Open.{HasImage}
use Rattle.sys_refusals.specs.Paths.{output_path}
use Rattle.sys_disk.specs.World.{World, OpenFiles}
use Rattle.sys_report.specs.declared.report.Report.{Report}
use Rattle.words_values.specs.WordFile.{expansion}
use Rattle.words_orders.specs.Asked.{IsOrderOf}
use Rattle.words_sayings.specs.Words.{is_plain}
use Rattle.words_orders.specs.declared.order.BootTask.{BootTask}
use Rattle.words_orders.specs.declared.order.Order.{Order}
use Rattle.words_orders.specs.declared.order.Task.TheVariants as tasks
use Rattle.words_program.specs.WordFiles.{ReadsWordFiles}
use Rattle.cmd_unpack.specs.Unpacking.{path_of_part}
use Rattle.cmd_common_boot.specs.declared.part_names.ImagePart.TheVariants as parts
use Rattle.cmd_boot_dispatch.specs.Commands.{DoesKind, IsKindOf}
use Rattle.cmd_boot_dispatch.specs.declared.command.BootCommandKind.{BootCommandKind}

-- ---- the words

-- `unpack --words IN DIR`, of a program of this name
abbrev pub unpack_words : List ℕ → List ℕ → List ℕ → List (List ℕ)
unpack_words program input folder = program ∷ codes "unpack" ∷ codes "--words" ∷ input ∷ folder ∷ []

-- and `pack @DIR/pack.words OUT`
abbrev pub pack_words : List ℕ → List ℕ → List ℕ → List (List ℕ)
pack_words program folder output = program ∷ codes "pack" ∷ (64 ∷ path_of_part folder parts.Words) ∷ output ∷ []

-- a word does not begin with `@`, so no file stands for it, and it stands for itself
abbrev pub is_own : List ℕ → Bool
is_own [] = true
is_own (first ∷ rest) = not (first == 64)

-- the word of a path: besides, it is `-` or does not begin with a hyphen, so it is no option
abbrev pub is_path : List ℕ → Bool
is_path word = is_own word && is_plain word

-- ---- the runs

-- A run with these words: the files that they name were read. With the lines of each in its place they ask for an order
-- over boot images, and its command was done.
pub record RunDone (words : List (List ℕ)) (old new : World) : Type 0 where
  pub texts : List (List ℕ)
  pub held : OpenFiles
  pub read : OpenFiles
  pub reads : ReadsWordFiles words texts old held read
  pub order : Order
  pub asked : IsOrderOf (expansion words texts) order
  pub task : BootTask
  pub is_task : order.task ≡ tasks.Boot task
  pub kind : BootCommandKind
  pub is_kind : IsKindOf task kind
  pub on_output : List ℕ → Bool
  pub begun : OpenFiles
  pub ended : OpenFiles
  pub before : Report
  pub after : Report
  pub done : DoesKind on_output kind old begun before new ended after

-- ---- the files

-- IN's file begins with a canonical image
pub record HoldsCanonical (input : List ℕ) (world : World) : Type 0 where
  pub file : ℕ
  pub there : world.at input ≡ Some file
  pub bytes : AreBytes (world.holds file)
  pub canonical : (header : Header) → HasImage (world.holds file) header → IsCanonical (world.holds file) header

-- OUT's file holds an image that IN's file begins with
pub record HoldsAgain (input output : List ℕ) (old new : World) : Type 0 where
  pub from : ℕ
  pub there : old.at input ≡ Some from
  pub onto : ℕ
  pub here : new.at (output_path output) ≡ Some onto
  pub again : StartsWith (old.holds from) (new.holds onto)

-- A canonical image is unpacked with its words to a folder, and packed by the file of these words. Then OUT holds an
-- image that IN begins with. The words of paths do not begin with a hyphen, except `-` alone. None of them begins with
-- `@`, nor does the program's name.
abbrev pub WordsPackAgain : Type 0
WordsPackAgain = (program input folder output : List ℕ) (a b c : World) → IsTrue (is_own program)
    → IsTrue (is_path input) → IsTrue (is_path folder) → IsTrue (is_path output) → AreBytes folder
    → HoldsCanonical input a → RunDone (unpack_words program input folder) a b
    → RunDone (pack_words program folder output) b c → HoldsAgain input output a c
