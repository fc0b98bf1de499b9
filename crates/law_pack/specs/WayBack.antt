-- The way back by the commands alone: an image is unpacked with its words, and packed again by them.
use Rattle.std.specs.Prelude.{◌≡◌, ℕ, List, true}
use Rattle.abt_io.specs.Bytes.{AreBytes}
use Rattle.abt_sections.specs.Canonical.{StartsWith}
use Rattle.abt_sections.specs.Check.{IsCanonical}
use Rattle.sys_disk.specs.World.{World}
use Rattle.words_values.specs.WordFile.{words_of}
use Rattle.sys_disk.specs.Among.{FileHolds}
use Rattle.cmd_unpack.specs.Unpacking.{Unpacks, path_of_part}
use Rattle.cmd_common_boot.specs.declared.part_names.ImagePart.TheVariants as parts
use Rattle.cmd_common_boot.specs.declared.pack_command.PackCommand.{PackCommand}
use Rattle.cmd_pack.specs.Packing.{PacksFile}
use Rattle.law_pack.specs.Said.{SaysCommand}

-- `unpack --words` of a canonical image to a folder was done
pub record UnpacksCanonical (input folder : List ℕ) (old new : World) : Type 0 where
  pub done : Unpacks input folder true old new (λ lines. Unit {0})
  pub bytes : AreBytes (old.holds done.from)
  pub canonical : IsCanonical (old.holds done.from) done.header

-- the order is what the words of a file say, one a line
pub record FileSaysCommand (path : List ℕ) (command : PackCommand) (world : World) : Type 0 where
  pub text : List ℕ
  pub holds : FileHolds world path text
  pub says : SaysCommand (words_of text) command

-- A canonical image is unpacked with its words to a folder, and packed by what the file of the words says. Then OUT
-- holds an image that the first begins with.
abbrev pub UnpackedPacksAgain : Type 0
UnpackedPacksAgain = (input folder : List ℕ) (command : PackCommand) (a b c : World) → AreBytes folder
    → (unpacked : UnpacksCanonical input folder a b)
    → FileSaysCommand (path_of_part folder parts.Words) command b
    → (packed : PacksFile command b c (λ line. Unit {0}))
    → StartsWith (a.holds unpacked.done.from) (c.holds packed.onto)
