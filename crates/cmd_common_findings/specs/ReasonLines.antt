-- The lines that a check prints after the text of an image.
use Rattle.std.specs.Prelude.{ℕ, zero, List, [], ◌∷◌, ◌++◌, Option, Some, None, codes, decimal}
use Rattle.std.specs.List.{flat_map}
use Rattle.cmd_common_findings.specs.declared.reasons.CheckAnswer.{CheckAnswer}
use Rattle.cmd_common_findings.specs.declared.reasons.CheckAnswer.TheVariants as answers
use Rattle.cmd_common_findings.specs.declared.reasons.Findings.{Findings}
use Rattle.cmd_common_findings.specs.declared.reasons.Reason.{Reason}
use Rattle.cmd_common_findings.specs.declared.reasons.Reason.TheVariants as reasons
use Rattle.cmd_common_findings.specs.declared.reasons.Unended.{Unended}
use Rattle.cmd_common_findings.specs.declared.reasons.Unended.TheVariants as fields
use Rattle.cmd_common_findings.specs.declared.reason_lines.Finding.{Finding}
use Rattle.cmd_common_findings.specs.declared.reason_lines.Finding.TheVariants as findings

abbrev pub answer_name : CheckAnswer → List ℕ
answer_name answers.Canonical = codes "canonical"
answer_name answers.Padding = codes "padding"
answer_name answers.Id = codes "id"
answer_name answers.Offset = codes "offset"

abbrev pub unended_name : Unended → List ℕ
unended_name fields.Name = codes "name"
unended_name fields.Cmdline = codes "cmdline"
unended_name fields.Reserved = codes "reserved"

abbrev pub reason_text : Reason → List ℕ
reason_text (reasons.Size found packed) =
    codes "header_size " ++ (decimal found ++ (codes ", packed " ++ decimal packed))
reason_text (reasons.Offset found packed) =
    codes "recovery_dtbo_offset " ++ (decimal found ++ (codes ", packed " ++ decimal packed))
reason_text (reasons.Byte place) = codes "byte " ++ decimal place
reason_text (reasons.Text field) = unended_name field
reason_text reasons.Fragments = codes "fragments"

abbrev pub finding_text : Finding → List ℕ
finding_text (findings.No answer reason) = answer_name answer ++ (codes " no: " ++ reason_text reason)
finding_text (findings.Trailing bytes) = codes "trailing " ++ (decimal bytes ++ codes " bytes")

-- the line of an answer that is no
abbrev pub line_of : CheckAnswer → Option Reason → List Finding
line_of answer None = []
line_of answer (Some reason) = findings.No answer reason ∷ []

-- the line of bytes that follow the image, if there are any
abbrev pub trailing_line : ℕ → List Finding
trailing_line zero = []
trailing_line n = findings.Trailing n ∷ []

-- all lines, in their order
abbrev pub lines_of : Findings → List Finding
lines_of f = line_of answers.Canonical f.canonical ++ (line_of answers.Padding f.padding
    ++ (line_of answers.Id f.id ++ (line_of answers.Offset f.offset ++ trailing_line f.trailing)))

-- what they print, each with its end
abbrev pub printed : List Finding → List ℕ
printed lines = flat_map (λ line. finding_text line ++ (10 ∷ [])) lines
