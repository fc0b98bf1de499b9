-- The fields that an order gives are those that its words say.
use Rattle.std.proofs.Common.{inl, inr, ◌≡◌, ℕ, ◌==◌, Bool, true, false, List, [], ◌∷◌, Option, Some, None, codes}
use Rattle.std.proofs.Common.{length, refl, sym, ap, subst, ◌∙◌}
use Rattle.abt_headers.specs.declared.os.OsVersion.{OsVersion}
use Rattle.abt_headers.specs.Os.{os_raw}
use Rattle.abt_sections.specs.Fields.{BootFields, VendorFields}
use Rattle.cmd_common_fields.specs.Loading.{is_sum}
use Rattle.cmd_common_fields.specs.OsWord.{IsOsWord}
use Rattle.cmd_common_fields.specs.declared.fields.Address.TheVariants.{Kernel, Ramdisk, Second, Tags, Dtb}
use Rattle.cmd_common_fields.specs.declared.image_kind.ImageKind.TheVariants.{Boot, Vendor}
use Rattle.cmd_common_boot.specs.Given.{AreGiven, IsOsOf, found, no_fields, number_in, words_for}
use Rattle.cmd_common_boot.specs.declared.pack_texts.OptionText.{OptionText}
use Rattle.law_boot.specs.Said.{SaysBoot, SaysOs, SaysOsWord, SaysVendor, value_of}
use Rattle.cmd_pack.specs.Filling.{address_where, loaded_at, ramdisk_in, second_in}
use Rattle.law_pack.specs.Said.{GivesText}
use Rattle.law_pack.proofs.PackedCuts.{os_once}
use Rattle.law_pack.proofs.Options.{Gives, Orders, address_or_0, no_sum, one_given, said_address, said_number}
use Rattle.law_pack.proofs.Options.{said_or_none, said_text, unsaid_number}

-- ---- the OS version and patch level

module _ (words : List (List ℕ)) (options : List OptionText) (orders : Orders words options) (os : ℕ) where
  os_word : (n : ℕ) → SaysOsWord words n → IsOsOf None (found options (codes "os")) 0 os → os ≡ n
  os_word n s is =
      let g = one_given (GivesText true) (value_of (codes "os") words) (found options (codes "os"))
      s.value orders.texts.1.1.1.1.1.1.1.0 s.said in
      let given = subst (λ (o : Option OptionText). IsOsOf None o 0 os) g.is is in
      let same = os_once g.option.word.now given.parts s.os given.shape
      (subst (λ (w : List ℕ). IsOsWord w s.os) (sym g.has.word) s.word) in
      given.is ∙ ap os_raw same ∙ sym s.number

  pub os_said : (n : ℕ) → SaysOs words n
      → IsOsOf (number_in options (codes "os-number")) (found options (codes "os")) 0 os → os ≡ n
  os_said n (inl s) is =
      let number = said_number words options (codes "os-number") n orders.numbers.1.1.1.1.1.1.1.1.1.1.1.0 s in
      subst (λ (o : Option ℕ). IsOsOf o (found options (codes "os")) 0 os) number is
  os_said n (inr s) is =
      let none = unsaid_number words options (codes "os-number") orders.numbers.1.1.1.1.1.1.1.1.1.1.1.0 s.0 in
      os_word n s.1 (subst (λ (o : Option ℕ). IsOsOf o (found options (codes "os")) 0 os) none is)

-- ---- boot images

os_same : (a b : OsVersion) → a.number ≡ b.number → a ≡ b
os_same a b e = ap (λ (n : ℕ). let v : OsVersion = record { number = n } in v) e

fields_same : (f : ℕ → ℕ → ℕ → ℕ → ℕ → ℕ → ℕ → OsVersion → List ℕ → List ℕ → BootFields) (s t : BootFields)
    → s.version ≡ t.version → s.page ≡ t.page → s.kernel_addr ≡ t.kernel_addr → s.ramdisk_addr ≡ t.ramdisk_addr
    → s.second_addr ≡ t.second_addr → s.tags_addr ≡ t.tags_addr → s.dtb_addr ≡ t.dtb_addr → s.os ≡ t.os
    → s.name ≡ t.name → s.cmdline ≡ t.cmdline
    → f s.version s.page s.kernel_addr s.ramdisk_addr s.second_addr s.tags_addr s.dtb_addr s.os s.name s.cmdline
    ≡ f t.version t.page t.kernel_addr t.ramdisk_addr t.second_addr t.tags_addr t.dtb_addr t.os t.name t.cmdline
fields_same f s t a b c d e g h i j k = cc

abbrev made : ℕ → ℕ → ℕ → ℕ → ℕ → ℕ → ℕ → OsVersion → List ℕ → List ℕ → BootFields
made version page kernel ramdisk second tags dtb os name cmdline = record {
  version = version;
  page = page;
  kernel_addr = kernel;
  ramdisk_addr = ramdisk;
  second_addr = second;
  tags_addr = tags;
  dtb_addr = dtb;
  os = os;
  name = name;
  cmdline = cmdline;
}

pub boot_given : (words : List (List ℕ)) (options : List OptionText) → Orders words options → (s given : BootFields)
    → SaysBoot words s
    → AreGiven no_fields (Boot s.version) (Some s.page) options given → given ≡ s
boot_given words options orders s given says are =
    let n = orders.numbers in
    let t = orders.texts in
    fields_same made given s are.version are.page_size
    (address_or_0 words options orders Kernel n.0 given.kernel_addr (are.addresses Kernel)
    s.kernel_addr says.kernel_addr)
    (address_or_0 words options orders Ramdisk n.1.0 given.ramdisk_addr (are.addresses Ramdisk)
    s.ramdisk_addr says.ramdisk_addr)
    (address_or_0 words options orders Second n.1.1.0 given.second_addr (are.addresses Second)
    s.second_addr says.second_addr)
    (address_or_0 words options orders Tags n.1.1.1.0 given.tags_addr (are.addresses Tags) s.tags_addr says.tags_addr)
    (address_or_0 words options orders Dtb n.1.1.1.1.0 given.dtb_addr (are.addresses Dtb) s.dtb_addr says.dtb_addr)
    (os_same given.os s.os (os_said words options orders given.os.number s.os.number says.os are.os))
    (are.name ∙ said_or_none words options (codes "name") s.name t.1.1.1.1.1.1.1.1.0 says.name)
    (are.cmdline ∙ said_text words options (codes "cmdline") s.cmdline t.1.1.1.1.1.1.1.1.1.0 says.cmdline)

-- no address becomes 0
pub loaded_same : (words : List (List ℕ)) (options : List OptionText) → Orders words options
    → (n : ℕ) (parts : List (List ℕ)) (s : BootFields) → loaded_at (Boot n) options parts s ≡ s
loaded_same words options orders n parts s =
    let ramdisk = no_sum words options orders Ramdisk in
    let second = no_sum words options orders Second in
    let at : Bool → Bool → BootFields = λ r c. record s {
      ramdisk_addr = address_where r (length (ramdisk_in parts) == 0) s.ramdisk_addr;
      second_addr = address_where c (length (second_in n parts) == 0) s.second_addr;
    } in
    ap (λ (r : Bool). at r (is_sum (words_for options Second))) ramdisk ∙ ap (at false) second

-- ---- vendor boot images

abbrev pub vendor_of : BootFields → VendorFields
vendor_of s = record {
  version = s.version;
  page = s.page;
  kernel_addr = s.kernel_addr;
  ramdisk_addr = s.ramdisk_addr;
  tags_addr = s.tags_addr;
  dtb_addr = s.dtb_addr;
  name = s.name;
  cmdline = s.cmdline;
}

vendor_same : (f : ℕ → ℕ → ℕ → ℕ → ℕ → ℕ → List ℕ → List ℕ → VendorFields) (s t : VendorFields)
    → s.version ≡ t.version → s.page ≡ t.page → s.kernel_addr ≡ t.kernel_addr → s.ramdisk_addr ≡ t.ramdisk_addr
    → s.tags_addr ≡ t.tags_addr → s.dtb_addr ≡ t.dtb_addr → s.name ≡ t.name → s.cmdline ≡ t.cmdline
    → f s.version s.page s.kernel_addr s.ramdisk_addr s.tags_addr s.dtb_addr s.name s.cmdline
    ≡ f t.version t.page t.kernel_addr t.ramdisk_addr t.tags_addr t.dtb_addr t.name t.cmdline
vendor_same f s t a b c d e g h i = cc

abbrev vendor_made : ℕ → ℕ → ℕ → ℕ → ℕ → ℕ → List ℕ → List ℕ → VendorFields
vendor_made version page kernel ramdisk tags dtb name cmdline = record {
  version = version;
  page = page;
  kernel_addr = kernel;
  ramdisk_addr = ramdisk;
  tags_addr = tags;
  dtb_addr = dtb;
  name = name;
  cmdline = cmdline;
}

pub vendor_given : (words : List (List ℕ)) (options : List OptionText) → Orders words options
    → (s : VendorFields) (given : BootFields) → SaysVendor words s
    → AreGiven no_fields (Vendor s.version) (Some s.page) options given → vendor_of given ≡ s
vendor_given words options orders s given says are =
    let n = orders.numbers in
    let t = orders.texts in
    vendor_same vendor_made (vendor_of given) s are.version are.page_size
    (said_address words options orders Kernel n.0 given.kernel_addr (are.addresses Kernel)
    s.kernel_addr says.kernel_addr)
    (said_address words options orders Ramdisk n.1.0 given.ramdisk_addr (are.addresses Ramdisk)
    s.ramdisk_addr says.ramdisk_addr)
    (said_address words options orders Tags n.1.1.1.0 given.tags_addr (are.addresses Tags) s.tags_addr says.tags_addr)
    (said_address words options orders Dtb n.1.1.1.1.0 given.dtb_addr (are.addresses Dtb) s.dtb_addr says.dtb_addr)
    (are.name ∙ said_text words options (codes "name") s.name t.1.1.1.1.1.1.1.1.0 says.name)
    (are.cmdline ∙ said_text words options (codes "cmdline") s.cmdline t.1.1.1.1.1.1.1.1.1.0 says.cmdline)
