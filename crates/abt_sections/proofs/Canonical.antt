-- An image is canonical exactly where it begins with one that the packer writes.
use Rattle.std.proofs.Common.{◌≡◌, ℕ, inl, inr, List, sym, subst, ◌∙◌, Result, Ok, Err}
use Rattle.std.specs.Prelude.{◌↔◌, IsTrue, IfOk}
use Rattle.abt_headers.proofs.Fields.{IsBytes}
use Rattle.abt_sections.specs.declared.checking.Verdict.{Verdict}
use Rattle.abt_sections.specs.declared.fault.SectionFault.{SectionFault}
use Rattle.abt_sections.specs.Header.{Header, OfBoot, OfVendor, image_header_at}
use Rattle.abt_sections.specs.Open.{HasImage}
use Rattle.abt_sections.specs.Check.{IsCanonical, IsVerdict}
use Rattle.abt_sections.specs.Canonical.{StartsAsPacked}
use Rattle.abt_sections.proofs.BootCanonical.{boot_found, boot_starts}
use Rattle.abt_sections.proofs.Wholes.{IsPacked, ok_same, within_from}
use Rattle.abt_sections.proofs.VendorCanonical.{vendor_found, vendor_starts}

packed_from : (x : List ℕ) (h : Header) → IsBytes x → HasImage x h → IsCanonical x h → StartsAsPacked x
packed_from x (OfBoot h) k has e = inl (boot_found x h k has e)
packed_from x (OfVendor v) k has e = inr (vendor_found x v k has e)

of_header : (x : List ℕ) (g h : Header) → image_header_at x ≡ Ok g → image_header_at x ≡ Ok h → IsCanonical x g
    → IsCanonical x h
of_header x g h a b e = subst (λ (f : Header). IsCanonical x f) (ok_same g h (sym a ∙ b)) e

packed_to : (x : List ℕ) (h : Header) → image_header_at x ≡ Ok h → StartsAsPacked x → IsCanonical x h
packed_to x h e (inl b) = let r = boot_starts x b in of_header x (OfBoot r.0) h r.1.header e r.1.canonical
packed_to x h e (inr b) = let r = vendor_starts x b in of_header x (OfVendor r.0) h r.1.header e r.1.canonical

pub canonical_iff : (x : List ℕ) (h : Header) → IsBytes x → HasImage x h → (IsCanonical x h ↔ StartsAsPacked x)
canonical_iff x h k has = (packed_from x h k has, packed_to x h has.header)

-- and what the packer writes is opened
opened : (x : List ℕ) (h : Header) → IsPacked x h → HasImage x h × IsCanonical x h
opened x h p = (
  record { header = p.header; there = p.there; within = within_from x h p.canonical.fragments },
  p.canonical,
)

pub packed_opens : (x : List ℕ) → StartsAsPacked x → (h : Header) × HasImage x h × IsCanonical x h
packed_opens x (inl b) = let r = boot_starts x b in let o = opened x (OfBoot r.0) r.1 in (OfBoot r.0, o.0, o.1)
packed_opens x (inr b) = let r = vendor_starts x b in let o = opened x (OfVendor r.0) r.1 in (OfVendor r.0, o.0, o.1)

-- what a verdict says of an opened image
pub verdict_packed : (x : List ℕ) (h : Header) (r : Result Verdict SectionFault) → IsBytes x → HasImage x h
    → IfOk r (IsVerdict x h) → IfOk r (λ v. IsTrue v.canonical ↔ StartsAsPacked x)
verdict_packed x h (Ok v) k has e =
    let i = canonical_iff x h k has in (λ t. i.0 (e.canonical.0 t), λ p. e.canonical.1 (i.1 p))
verdict_packed x h (Err f) k has e = tt
