-- A fault of packing that comes before it writes is no fault of moving bytes.
use Rattle.std.proofs.Common.{◌≡◌, ℕ, Bool, true, false, List, [], ◌∷◌, Option, Some, None, Result, Ok, Err, refl, sym}
use Rattle.std.proofs.Common.{subst, ap}
use Rattle.std.specs.Prelude.{◌&&◌, ◌||◌, nat_lt, not, if◌then◌else◌, is_some, IfErr, OnOk}
use Rattle.abt_headers.specs.declared.fault.HeaderFault.TheVariants as header
use Rattle.abt_headers.specs.Page.{page_from}
use Rattle.abt_headers.specs.declared.sections.Section.{Section}
use Rattle.abt_sections.specs.Fields.{BootFields, VendorFields, cmd_common_fields, is_text}
use Rattle.abt_sections.specs.Refusal.{IfRefused, boot_names, boot_refusal, or_else, size_refusal, vendor_names}
use Rattle.abt_sections.specs.Refusal.{vendor_refusal}
use Rattle.abt_sections.specs.declared.fault.SectionFault.{SectionFault}
use Rattle.abt_sections.specs.declared.fault.SectionFault.TheVariants as faults
use Rattle.abt_sections.specs.declared.spec.BootSpec.{BootSpec}
use Rattle.cmd_common_boot.specs.Refused.{refusal_of, IsOfMoving, IsRefusalOrMove, vendor_fields_asked, vendor_sizes}
use Rattle.cmd_common_fields.specs.declared.image_kind.ImageKind.{ImageKind}
use Rattle.cmd_common_fields.specs.declared.image_kind.ImageKind.TheVariants.{Boot, Vendor}

abbrev IsFixed : SectionFault → Type 0
IsFixed f = IsOfMoving f → ⊥

abbrev pub NoMoving : Option SectionFault → Type 0
NoMoving None = Unit {0}
NoMoving (Some f) = IsFixed f

four : (a b c d : Bool) (f g h k : SectionFault) → IsFixed f → IsFixed g → IsFixed h → IsFixed k
    → NoMoving (if a then Some f else if b then Some g else if c then Some h else if d then Some k else None)
four true b c d f g h k p q r s = p
four false true c d f g h k p q r s = q
four false false true d f g h k p q r s = r
four false false false true f g h k p q r s = s
four false false false false f g h k p q r s = tt

choice : (b : Bool) (f : SectionFault) (o : Option SectionFault) → IsFixed f → NoMoving o → NoMoving
    (if b then Some f else o)
choice true f o p q = p
choice false f o p q = q

either : (o p : Option SectionFault) → NoMoving o → NoMoving p → NoMoving (or_else o p)
either None p a b = b
either (Some f) p a b = a

of_sizes : (names : List Section) (sizes : List ℕ) → NoMoving (size_refusal names sizes)
unfolding size_refusal
of_sizes names [] = tt
of_sizes [] (n ∷ sizes) = tt
of_sizes (name ∷ names) (n ∷ sizes) = choice (nat_lt 4294967295 n) (faults.SectionTooLarge name)
    (size_refusal names sizes) (λ p. p) (of_sizes names sizes)

of_boot : (s : BootFields) → NoMoving (boot_refusal s)
unfolding boot_refusal
of_boot s = four (nat_lt 4 s.version) (nat_lt s.version 3 && not (is_some (page_from s.page)))
    (nat_lt s.version 3 && not (is_text 15 s.name)) (not (is_text 1535 s.cmdline))
    (faults.Header (header.Version s.version)) (faults.Header (header.PageSize s.page)) faults.Name faults.CommandLine
    (λ p. p) (λ p. p) (λ p. p) (λ p. p)

of_vendor : (s : VendorFields) → NoMoving (vendor_refusal s)
unfolding vendor_refusal
of_vendor s = four (nat_lt s.version 3 || nat_lt 4 s.version) (not (is_some (page_from s.page)))
    (not (is_text 15 s.name)) (not (is_text 2047 s.cmdline)) (faults.Header (header.Version s.version))
    (faults.Header (header.PageSize s.page)) faults.Name faults.CommandLine (λ p. p) (λ p. p) (λ p. p) (λ p. p)

pub refusal_fixed : (kind : ImageKind) (s : BootSpec) (parts ramdisks : List ℕ) → NoMoving
    (refusal_of kind s parts ramdisks)
refusal_fixed (Boot n) s parts ramdisks =
    either (boot_refusal (cmd_common_fields s)) (size_refusal (boot_names s.version) parts)
    (of_boot (cmd_common_fields s))
    (of_sizes (boot_names s.version) parts)
refusal_fixed (Vendor n) s parts ramdisks =
    let sizes = vendor_sizes s.version parts ramdisks in
    either (vendor_refusal (vendor_fields_asked s)) (size_refusal vendor_names sizes)
    (of_vendor (vendor_fields_asked s)) (of_sizes vendor_names sizes)

-- ---- what the packer returned without room

-- the fields and sizes have no fault
pub no_refusal : {X Y : Type 0} (r : Result X SectionFault) (q : Result Y SectionFault) (o : Option SectionFault)
    → NoMoving o
    → IfRefused o (λ f. r ≡ Err f) → OnOk q (IfErr r IsOfMoving) → OnOk q (o ≡ None)
no_refusal r (Err f) o sound is moved = tt
no_refusal r (Ok y) None sound is moved = refl
no_refusal (Ok x) (Ok y) (Some f) sound is moved = absurd (cc)
no_refusal (Err e) (Ok y) (Some f) sound is moved =
    let same : e ≡ f = cc in
    absurd (sound (subst IsOfMoving same moved))

fixed_is : (o : Option SectionFault) (f : SectionFault) → (IsOfMoving f → ⊥) → IsRefusalOrMove o f → o ≡ Some f
fixed_is None f fixed is = absurd (fixed is)
fixed_is (Some g) f fixed is = ap (λ k. Some k) (sym is)

-- they have this fault
pub a_refusal : {X Y : Type 0} (r : Result X SectionFault) (q : Result Y SectionFault) (o : Option SectionFault)
    → IfErr r (IsRefusalOrMove o) → IfErr q (λ f. r ≡ Err f) → IfErr q (λ f. IsOfMoving f → ⊥) → IfErr q
    (λ f. o ≡ Some f)
a_refusal r (Ok y) o only same fixed = tt
a_refusal r (Err f) o only same fixed =
    fixed_is o f fixed (subst (λ k. IfErr k (IsRefusalOrMove o)) same only)
