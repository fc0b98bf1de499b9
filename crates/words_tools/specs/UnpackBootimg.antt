-- What the answers to unpack_bootimg's rows ask for.
use Rattle.std.specs.Prelude.{◌≡◌, ℕ, List, [], ◌∷◌, None, codes, bytes_eq, if◌then◌else◌}
use Rattle.words_values.specs.declared.rows.WordPlace.TheVariants as places
use Rattle.words_values.specs.declared.rows.Value.TheVariants as values
use Rattle.words_orders.specs.declared.answers.Answer.{Answer}
use Rattle.words_orders.specs.Asked.{flag_named, word_named}
use Rattle.words_orders.specs.Table.{choice, part, required, row, usual}
use Rattle.words_sayings.specs.Rows.{Shape}
use Rattle.words_tools.specs.declared.unpack_bootimg.UnpackImage.{UnpackImage}
use Rattle.words_tools.specs.declared.unpack_bootimg.UnpackText.{UnpackText}
use Rattle.words_tools.specs.declared.unpack_bootimg.UnpackText.TheVariants as kinds

-- ---- the table

abbrev pub unpack_rows : List Shape
unpack_rows =
    required (part (codes "boot_img")) ∷ usual (codes "out") (part (codes "out"))
    ∷ choice (codes "info" ∷ codes "mkbootimg" ∷ []) (usual (codes "info") (part (codes "format")))
    ∷ row (places.ShortFlag 48) values.IsGiven (codes "null") ∷ []

-- ---- what is asked for

-- the words of mkbootimg if `--format mkbootimg` is given, each followed by a zero byte if `-0` is; else what the
-- header says
abbrev pub text_asked : List Answer → UnpackText
text_asked all =
    if bytes_eq (word_named (codes "format") all) (codes "mkbootimg")
    then (if flag_named (codes "null") all then kinds.ZeroWords else kinds.Words) else kinds.Info

pub record AsksUnpack (all : List Answer) (image : UnpackImage) : Type 0 where
  pub input : image.input.now ≡ word_named (codes "boot_img") all
  pub folder : image.folder.now ≡ word_named (codes "out") all
  pub text : image.text ≡ text_asked all
