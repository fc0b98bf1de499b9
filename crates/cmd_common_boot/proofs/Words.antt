-- Why an OS version that arguments give fails.
use Rattle.std.proofs.Common.{◌≡◌, ◌≤◌, ◌^◌, ℕ, List, Some, None, refl, sym, subst}
use Rattle.std.specs.Prelude.{Result, Ok, Err, IfErr, OnErr, codes}
use Rattle.abt_headers.specs.declared.os.OsVersion.{OsVersion}
use Rattle.cmd_common_boot.specs.Fault.{of_os_word}
use Rattle.cmd_common_boot.specs.Given.{OsWordSays, found}
use Rattle.cmd_common_boot.specs.Wrong.{IsWrongOs}
use Rattle.cmd_common_boot.specs.declared.fault.BootCommandFault.{BootCommandFault}
use Rattle.cmd_common_boot.specs.declared.fault.BootCommandFault.TheVariants as faults
use Rattle.cmd_common_boot.specs.declared.pack_texts.OptionText.{OptionText}

pub number_wrong : (r : Result OsVersion BootCommandFault) (options : List OptionText) (option : OptionText)
    → found options (codes "os-number") ≡ Some option → OnErr r (2 ^ 32 ≤ option.number)
    → IfErr r (λ fault. fault ≡ faults.BadNumber option.word) → IfErr r (IsWrongOs options)
number_wrong (Ok os) options option is wrong told = tt
number_wrong (Err fault) options option is wrong told =
    subst (IsWrongOs options) (sym told) (record { option = option; is = is; no_room = wrong; told = refl })

pub word_wrong : (r : Result OsVersion BootCommandFault) (options : List OptionText) (option : OptionText)
    → found options (codes "os-number") ≡ None → found options (codes "os") ≡ Some option
    → OnErr r ((os : ℕ) → OsWordSays option.word.now os → ⊥)
    → IfErr r (λ fault. fault ≡ of_os_word) → IfErr r (IsWrongOs options)
word_wrong (Ok os) options option alone is none told = tt
word_wrong (Err fault) options option alone is none told =
    subst (IsWrongOs options) (sym told)
    (record { option = option; no_number = alone; is = is; says_none = none }, refl)
