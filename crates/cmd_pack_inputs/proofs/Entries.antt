-- What is read of an image that is packed again, and why it is not.
use Rattle.std.proofs.Common.{◌≡◌, ◌<◌, ℕ}
use Rattle.std.proofs.Common.{arith, refl}
use Rattle.abt_sections.specs.Cause.{ReadCause}
use Rattle.abt_sections.specs.declared.fault.SectionFault.{SectionFault}
use Rattle.abt_sections.specs.declared.fault.SectionFault.TheVariants as sections
use Rattle.cmd_common_boot.specs.declared.fault.BootCommandFault.TheVariants as faults
use Rattle.cmd_common_boot.specs.declared.not_judged.NotJudged.TheVariants as not_judged
use Rattle.cmd_pack_inputs.specs.Judging.{IsUnread}

-- a read failed, since the image is what it was
pub read_unread : (f : SectionFault) (r s r' : ℕ) (changed : Type 0) → s ≡ r → ReadCause f s r' changed
    → (changed → ⊥) → IsUnread (r < r') (not_judged.Fault (faults.Section f))
read_unread (sections.Read f) r s r' changed same cause stays = (refl, omega (arith, same, cause))
read_unread (sections.Write f) r s r' changed same cause stays = absurd (let z : 0 < 0 = cause in omega (arith, z))
read_unread sections.SourceChanged r s r' changed same cause stays = absurd (stays cause)
read_unread (sections.Header f) r s r' changed same cause stays = absurd cause
read_unread (sections.Entry i) r s r' changed same cause stays = absurd cause
read_unread sections.Name r s r' changed same cause stays = absurd cause
read_unread sections.CommandLine r s r' changed same cause stays = absurd cause
read_unread (sections.SectionTruncated s') r s r' changed same cause stays = absurd cause
read_unread (sections.SectionTooLarge s') r s r' changed same cause stays = absurd cause
