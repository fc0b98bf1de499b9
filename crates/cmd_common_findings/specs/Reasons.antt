-- The reasons of the answers of a check.
use Rattle.std.specs.Prelude.{◌≡◌, ℕ, Bool, Option, is_none}
use Rattle.abt_sections.specs.declared.fault.SectionFault.{SectionFault}
use Rattle.abt_sections.specs.Cause.{ReadCause}
use Rattle.abt_sections.specs.declared.checking.Verdict.{Verdict}
use Rattle.cmd_common_findings.specs.declared.reasons.Findings.{Findings}

-- each answer that is no has a reason, and each that is yes has none
pub record ReasonsAre (found : Findings) (verdict : Verdict) : Type 0 where
  pub canonical : is_none found.canonical ≡ verdict.canonical
  pub padding : is_none found.padding ≡ verdict.padding
  pub id : is_none found.id ≡ verdict.id
  pub offset : is_none found.offset ≡ verdict.offset

-- a read failed; or what was found does not agree with the answers: `changed`
abbrev pub ReasonCause : SectionFault → ℕ → ℕ → Type 0 → Type 0
ReasonCause f r r' changed = ReadCause f r r' changed
