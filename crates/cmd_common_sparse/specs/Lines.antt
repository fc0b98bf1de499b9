-- The line that a command prints after its work.
use Rattle.std.specs.Prelude.{ℕ, List, [], ◌∷◌, ◌++◌, Some, codes, decimal}
use Rattle.sys_text.specs.Shown.{as_shown}
use Rattle.sys_refusals.specs.Paths.{numbered}
use Rattle.cmd_common_sparse.specs.declared.lines.Line.{Line}
use Rattle.cmd_common_sparse.specs.declared.lines.Line.TheVariants as lines

abbrev pub line_text : Line → List ℕ
line_text (lines.Expanded blocks bytes) = codes "blocks " ++ (decimal blocks ++ (codes " bytes " ++ decimal bytes))
line_text (lines.Sparse blocks chunks bytes) = codes "blocks " ++ (decimal blocks ++ (codes " chunks "
    ++ (decimal chunks ++ (codes " bytes " ++ decimal bytes))))
line_text (lines.Piece number first past bytes) = codes "piece " ++ (decimal number ++ (codes " blocks "
    ++ (decimal first ++ (codes " " ++ (decimal past ++ (codes " bytes " ++ decimal bytes))))))
line_text (lines.Pieces count) = codes "pieces " ++ decimal count
line_text (lines.Blocks count) = codes "blocks " ++ decimal count

-- of a file that is left of an older cut
abbrev pub left_over_text : List ℕ → List ℕ
left_over_text place = codes "abootimg: left over " ++ place

-- the whole line of the piece file with this number, as a terminal can show its name
abbrev pub left_over_line : List ℕ → ℕ → List ℕ
left_over_line prefix n = left_over_text (numbered (as_shown prefix) (Some n)) ++ (10 ∷ [])
