-- Why the arguments of `pack` and `repack` fail: each fault has its cause.
use Rattle.std.specs.Prelude.{◌≡◌, ◌≤◌, ◌^◌, ◌⊎◌, ℕ, Bool, true, false, List, [], Contains, Option, Some}
use Rattle.std.specs.Prelude.{None, codes, Result, IfOk, IfErr}
use Rattle.abt_headers.specs.declared.fault.HeaderFault.{HeaderFault}
use Rattle.abt_headers.specs.declared.fault.HeaderFault.TheVariants as headers
use Rattle.abt_sections.specs.Fields.{BootFields}
use Rattle.abt_sections.specs.declared.fault.SectionFault.{SectionFault}
use Rattle.abt_sections.specs.declared.fault.SectionFault.TheVariants as sections
use Rattle.cmd_common_fields.specs.Kind.{is_version, version_of}
use Rattle.cmd_common_fields.specs.Options.{address_option, offset_option}
use Rattle.cmd_common_fields.specs.declared.fields.Address.{Address}
use Rattle.cmd_common_fields.specs.declared.image_kind.ImageKind.{ImageKind}
use Rattle.cmd_common_fields.specs.declared.image_kind.ImageKind.TheVariants.{Boot, Vendor}
use Rattle.cmd_common_boot.specs.Carried.{IsCarried, IsTaken}
use Rattle.cmd_common_boot.specs.Given.{OsWordSays, address_for, address_in, found}
use Rattle.cmd_common_boot.specs.declared.fault.BootCommandFault.{BootCommandFault}
use Rattle.cmd_common_boot.specs.declared.fault.BootCommandFault.TheVariants as faults
use Rattle.cmd_common_boot.specs.declared.pack_texts.FragmentText.{FragmentText}
use Rattle.cmd_common_boot.specs.declared.pack_texts.OptionText.{OptionText}

-- an option of this name was given, which an image of this kind doesn't have
pub record IsNotCarried (kind : ImageKind) (options : List OptionText) (name : List ℕ) : Type 0 where
  pub option : OptionText
  pub is_one : Contains options option
  pub named : option.name.now ≡ name
  pub not_carried : IsCarried kind option → ⊥

-- a fragment of this argument was given, which an image of this kind doesn't take
pub record IsBadFragment (kind : ImageKind) (fragments : List FragmentText) (word : List ℕ) : Type 0 where
  pub fragment : FragmentText
  pub is_one : Contains fragments fragment
  pub written : fragment.word.now ≡ word
  pub not_taken : IsTaken kind fragment → ⊥

-- why the options and the fragments fail, by the kind alone
abbrev pub IsUntaken : ImageKind → List OptionText → List FragmentText → BootCommandFault → Type 0
IsUntaken kind options fragments (faults.OptionNotCarried name) = IsNotCarried kind options name.now
IsUntaken kind options fragments (faults.BadFragment word) = IsBadFragment kind fragments word.now
IsUntaken kind options fragments (faults.BadNumber word) = ⊥
IsUntaken kind options fragments (faults.Section fault) = ⊥
IsUntaken kind options fragments (faults.Host fault) = ⊥
IsUntaken kind options fragments (faults.BadBoardId word) = ⊥
IsUntaken kind options fragments faults.CheckFailed = ⊥

abbrev pub word_or : Option OptionText → List ℕ → List ℕ
word_or (Some option) word = option.word.now
word_or None word = word

-- the argument from which an address comes: its own, or else that of its offset, or else that of the base
abbrev pub told_word : List OptionText → Address → List ℕ
told_word options which = word_or (found options (address_option which))
    (word_or (found options (offset_option which)) (word_or (found options (codes "base")) []))

-- The result is an address that the arguments set, or else the image's own; or the argument that exceeds its field.
pub record SaysAddress {E : Type 0} (r : Result ℕ E) (word : E → List ℕ) (options : List OptionText) (which : Address)
    (own : ℕ) : Type 0 where
  pub given : IfOk r (λ address. address_for options which own ≡ Some address)
  pub no_room : IfErr r (λ e. address_for options which own ≡ None)
  pub told : IfErr r (λ e. word e ≡ told_word options which)

-- an address from this argument exceeds its field of the header
pub record IsBadAddress (own : BootFields) (options : List OptionText) (word : List ℕ) : Type 0 where
  pub which : Address
  pub no_room : address_for options which (address_in own which) ≡ None
  pub told : word ≡ told_word options which

-- the number of `--os-number`, which is this argument, has more than 32 bits
pub record IsBadOsNumber (options : List OptionText) (word : List ℕ) : Type 0 where
  pub option : OptionText
  pub is : found options (codes "os-number") ≡ Some option
  pub no_room : 2 ^ 32 ≤ option.number
  pub told : word ≡ option.word.now

-- the argument of `--os` is used, and encodes no OS version
pub record IsBadOs (options : List OptionText) : Type 0 where
  pub option : OptionText
  pub no_number : found options (codes "os-number") ≡ None
  pub is : found options (codes "os") ≡ Some option
  pub says_none : (os : ℕ) → OsWordSays option.word.now os → ⊥

-- why the given OS version fails
abbrev pub IsWrongOs : List OptionText → BootCommandFault → Type 0
IsWrongOs options (faults.BadNumber word) = IsBadOsNumber options word.now
IsWrongOs options (faults.Section fault) = IsBadOs options × (fault ≡ sections.Header headers.Os)
IsWrongOs options (faults.OptionNotCarried name) = ⊥
IsWrongOs options (faults.BadFragment word) = ⊥
IsWrongOs options (faults.Host fault) = ⊥
IsWrongOs options (faults.BadBoardId word) = ⊥
IsWrongOs options faults.CheckFailed = ⊥

-- there is such a header
abbrev pub is_known : ImageKind → Bool
is_known (Boot n) = is_version false n
is_known (Vendor n) = is_version true n

-- what is wrong of the header's fields
abbrev pub IsWrongHeader : ImageKind → List OptionText → HeaderFault → Type 0
IsWrongHeader kind options headers.Os = IsBadOs options
IsWrongHeader kind options (headers.Version n) = (n ≡ version_of kind) × (is_known kind ≡ false)
IsWrongHeader kind options headers.Magic = ⊥
IsWrongHeader kind options (headers.PageSize n) = ⊥
IsWrongHeader kind options headers.Table = ⊥
IsWrongHeader kind options (headers.Short n) = ⊥

abbrev pub IsWrongSection : ImageKind → List OptionText → SectionFault → Type 0
IsWrongSection kind options (sections.Header f) = IsWrongHeader kind options f
IsWrongSection kind options (sections.Read f) = ⊥
IsWrongSection kind options (sections.Write f) = ⊥
IsWrongSection kind options sections.SourceChanged = ⊥
IsWrongSection kind options (sections.Entry i) = ⊥
IsWrongSection kind options sections.Name = ⊥
IsWrongSection kind options sections.CommandLine = ⊥
IsWrongSection kind options (sections.SectionTruncated s) = ⊥
IsWrongSection kind options (sections.SectionTooLarge s) = ⊥

-- the arguments fail, and the fault's cause holds
abbrev pub IsWrong : BootFields → ImageKind → List OptionText → List FragmentText → BootCommandFault → Type 0
IsWrong own kind options fragments (faults.OptionNotCarried name) = IsNotCarried kind options name.now
IsWrong own kind options fragments (faults.BadFragment word) = IsBadFragment kind fragments word.now
IsWrong own kind options fragments (faults.BadNumber word) =
    IsBadAddress own options word.now ⊎ IsBadOsNumber options word.now
IsWrong own kind options fragments (faults.Section fault) = IsWrongSection kind options fault
IsWrong own kind options fragments (faults.Host fault) = ⊥
IsWrong own kind options fragments (faults.BadBoardId word) = ⊥
IsWrong own kind options fragments faults.CheckFailed = ⊥
