-- The first place of a section.
use Rattle.std.proofs.Common.{◌≡◌, ◌<◌, ◌≤◌, ◌+◌, ℕ, suc, Bool, true, false, cond, List, [], Option, Some, None, length}
use Rattle.std.proofs.Common.{get_or, drop, find, refl}
use Rattle.std.proofs.Common.{sym, ap, ◌∙◌, arith, bytes_eq, codes, if◌then◌else◌}
use Rattle.std.proofs.Math.Seq.{drop-cons}
use Rattle.std.proofs.lemmas.List.{drop_all}
use Rattle.std.proofs.lemmas.Bool.{cond-true, cond-false}
use Rattle.std.proofs.lemmas.Slice.Eq.{bytes_eq-Decides}
use Rattle.abt_headers.specs.declared.sections.Section.{Section}
use Rattle.abt_headers.specs.declared.sections.Section.TheVariants.{Kernel, Ramdisk, Second, RecoveryDtbo, Dtb}
use Rattle.abt_headers.specs.declared.sections.Section.TheVariants.{Signature, VendorRamdisk, Table, Bootconfig}
use Rattle.abt_headers.specs.Places.{section_name}

module _ {X : Type 0} (p : X → Bool) where
  find_on : (xs : List X) (i : ℕ) (x : X) → i < length xs → x ≡ get_or xs i x
      → find p (drop i xs) ≡ cond (p x) (Some x) (find p (drop (suc i) xs))
  find_on xs i x below is = ap (λ l. find p l) (drop-cons xs i x below)
      ∙ ap (λ y. cond (p y) (Some y) (find p (drop (suc i) xs))) (sym is)

  -- the first of those that are left is found
  pub find_here : (xs : List X) (i : ℕ) (x : X) → i < length xs → x ≡ get_or xs i x → p x ≡ true
      → find p (drop i xs) ≡ Some x
  find_here xs i x below is passes = find_on xs i x below is ∙ cond-true _ _ _ passes

  -- it isn't, and one less is left
  pub find_behind : (xs : List X) (i : ℕ) (x : X) → i < length xs → x ≡ get_or xs i x → p x ≡ false
      → find p (drop i xs) ≡ find p (drop (i + 1) xs)
  find_behind xs i x below is fails =
      let next : suc i ≡ i + 1 = omega arith in
      find_on xs i x below is ∙ cond-false _ _ _ fails ∙ ap (λ k. find p (drop k xs)) next

  -- none is left
  pub find_nowhere : (xs : List X) (i : ℕ) → length xs ≤ i → find p (drop i xs) ≡ None
  find_nowhere xs i out = ap (λ l. find p l) (drop_all i xs out)

-- the section of a name
abbrev named : List ℕ → Section
named x =
    if bytes_eq x (codes "kernel") then Kernel
    else if bytes_eq x (codes "ramdisk") then Ramdisk
    else if bytes_eq x (codes "second") then Second
    else if bytes_eq x (codes "recovery_dtbo") then RecoveryDtbo
    else if bytes_eq x (codes "dtb") then Dtb
    else if bytes_eq x (codes "signature") then Signature
    else if bytes_eq x (codes "vendor_ramdisk") then VendorRamdisk
    else if bytes_eq x (codes "table") then Table
    else Bootconfig

named_by : (s : Section) → named (section_name s) ≡ s
named_by Kernel = refl
named_by Ramdisk = refl
named_by Second = refl
named_by RecoveryDtbo = refl
named_by Dtb = refl
named_by Signature = refl
named_by VendorRamdisk = refl
named_by Table = refl
named_by Bootconfig = refl

-- sections of one name are one
pub same_section : (s t : Section) → bytes_eq (section_name s) (section_name t) ≡ true → s ≡ t
same_section s t same = sym (named_by s)
    ∙ ap named ((bytes_eq-Decides (section_name s) (section_name t)).0 same) ∙ named_by t

-- and a section has one name
pub same_name : (s t : Section) → s ≡ t → bytes_eq (section_name s) (section_name t) ≡ true
same_name s t same = (bytes_eq-Decides (section_name s) (section_name t)).1 (ap section_name same)
