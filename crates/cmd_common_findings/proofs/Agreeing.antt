-- What is found agrees with the answers of a check.
use Rattle.std.proofs.Common.{◌≡◌, ℕ, List, Option, is_none, option_map, sym, ap, ◌∙◌}
use Rattle.abt_sections.specs.Check.{IsVerdict, offset_holds}
use Rattle.abt_sections.specs.Header.{Header}
use Rattle.abt_sections.specs.declared.checking.Verdict.{Verdict}
use Rattle.cmd_common_findings.specs.Finding.{first_unpadded}
use Rattle.cmd_common_findings.specs.Reasons.{ReasonsAre}
use Rattle.cmd_common_findings.specs.declared.reasons.Findings.{Findings}
use Rattle.cmd_common_findings.specs.declared.reasons.Reason.{Reason}
use Rattle.cmd_common_findings.specs.declared.reasons.Reason.TheVariants.{Byte}
use Rattle.cmd_common_findings.proofs.LeadingZeros.{none_mapped, none_unpadded}

pub agrees : (x : List ℕ) (h : Header) (v : Verdict) (found : Findings) (place : Option ℕ) → IsVerdict x h v
    → is_none found.canonical ≡ v.canonical → found.padding ≡ option_map (λ n. Byte n) place
    → place ≡ first_unpadded x h → is_none found.id ≡ v.id → is_none found.offset ≡ offset_holds h
    → ReasonsAre found v
agrees x h v found place right canonical padding first id offset = record {
  canonical = canonical;
  padding = ap is_none padding ∙ none_mapped (λ n. Byte n) place ∙ ap is_none first ∙ none_unpadded x h
      ∙ sym right.padding;
  id = id;
  offset = offset ∙ sym right.offset;
}
