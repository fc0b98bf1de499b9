-- What the packer takes: fields and sizes that it doesn't refuse.
use Rattle.std.proofs.Common.{◌≡◌, ℕ, zero, suc, ◌+◌, ◌*◌, ◌≤◌, ◌<◌, ◌^◌, Bool, true, false, cond, not, ◌&&◌, ◌||◌}
use Rattle.std.proofs.Common.{nat_lt, List, [], ◌∷◌, length, replicate, refl, ap, ◌∙◌, arith, length-append, Option}
use Rattle.std.proofs.Common.{Some, None}
use Rattle.std.specs.Prelude.{is_some}
use Rattle.std.proofs.Math.Nat.{mul-add}
use Rattle.std.proofs.lemmas.Bool.{and_parts, and_right, not_from_true, le-ltb, lt-ltb, ltb-false, leb-true, or_parts}
use Rattle.std.proofs.lemmas.Bool.{or_from}
use Rattle.sha1.specs.Sha1.{sha1, digest_bytes}
use Rattle.abt_headers.specs.declared.fault.HeaderFault.TheVariants as header
use Rattle.abt_headers.specs.declared.sections.Section.{Section}
use Rattle.abt_headers.specs.declared.page.PageSize.{PageSize}
use Rattle.abt_headers.specs.declared.page.PageSize.TheVariants.{Of2048, Of4096, Of8192, Of16384, Of32768, Of65536}
use Rattle.abt_headers.specs.declared.page.PageSize.TheVariants.{Of131072}
use Rattle.abt_headers.specs.Page.{page_bytes, page_from, pages}
use Rattle.abt_headers.proofs.Places.{least_pages}
use Rattle.abt_sections.specs.declared.fault.SectionFault.{SectionFault}
use Rattle.abt_sections.specs.declared.fault.SectionFault.TheVariants as faults
use Rattle.abt_sections.specs.Fields.{BootFields, VendorFields, no_zero, is_text}
use Rattle.abt_sections.specs.Id.{id_of, sized_parts}
use Rattle.abt_sections.specs.Refusal.{boot_refusal, vendor_refusal, size_refusal, or_else}
use Rattle.abt_sections.specs.BootCanon.{dtbo_offset}
use Rattle.abt_sections.proofs.Laying.{page_some}

-- ---- refusals

pub passed : (b : Bool) (f : SectionFault) (o : Option SectionFault) → cond b (Some f) o ≡ None
    → (b ≡ false) × (o ≡ None)
passed true f o e = absurd cc
passed false f o e = (refl, e)

pub neither : (o p : Option SectionFault) → or_else o p ≡ None → (o ≡ None) × (p ≡ None)
neither (Some f) p e = absurd cc
neither None p e = (refl, e)

pub none_of : (o p : Option SectionFault) → o ≡ None → p ≡ None → or_else o p ≡ None
none_of o p a b = ap (λ (q : Option SectionFault). or_else q p) a ∙ b

pub pass : (b : Bool) (f : SectionFault) (o : Option SectionFault) → b ≡ false → o ≡ None → cond b (Some f) o ≡ None
pass b f o e h = ap (λ (c : Bool). cond c (Some f) o) e ∙ h

-- a test that is made where t holds
tested : (t b : Bool) → (t && not b) ≡ false → t ≡ true → b ≡ true
tested true true e h = refl
tested true false e h = absurd cc
tested false b e h = absurd cc

holds : (b : Bool) → not b ≡ false → b ≡ true
holds true e = refl
holds false e = absurd cc

-- ---- fields

pub record BootAccepted (s : BootFields) : Type 0 where
  pub version : s.version ≤ 4
  pub name : s.version < 3 → is_text 15 s.name ≡ true
  pub cmdline : is_text 1535 s.cmdline ≡ true

pub boot_accepted : (s : BootFields) → boot_refusal s ≡ None → BootAccepted s
unfolding boot_refusal
boot_accepted s e =
    let a = passed (nat_lt 4 s.version) (faults.Header (header.Version s.version)) _ e in
    let b = passed (nat_lt s.version 3 && not (is_some (page_from s.page)))
    (faults.Header (header.PageSize s.page)) _ a.1 in
    let c = passed (nat_lt s.version 3 && not (is_text 15 s.name)) faults.Name _ b.1 in
    let d = passed (not (is_text 1535 s.cmdline)) faults.CommandLine None c.1 in
    record {
      version = ltb-false 4 s.version a.0;
      name = λ low. tested (nat_lt s.version 3) (is_text 15 s.name) c.0 (lt-ltb s.version 3 low);
      cmdline = holds (is_text 1535 s.cmdline) d.0;
    }

pub boot_passes : (s : BootFields) → s.version ≤ 4 → is_some (page_from s.page) ≡ true → is_text 15 s.name ≡ true
    → is_text 1535 s.cmdline ≡ true → boot_refusal s ≡ None
unfolding boot_refusal
boot_passes s version page name cmdline =
    pass (nat_lt 4 s.version) (faults.Header (header.Version s.version)) _ (le-ltb 4 s.version version)
    (pass (nat_lt s.version 3 && not (is_some (page_from s.page))) (faults.Header (header.PageSize s.page)) _
    (and_right (nat_lt s.version 3) _ (not_from_true _ page))
    (pass (nat_lt s.version 3 && not (is_text 15 s.name)) faults.Name _
    (and_right (nat_lt s.version 3) _ (not_from_true _ name))
    (pass (not (is_text 1535 s.cmdline)) faults.CommandLine None (not_from_true _ cmdline) refl)))

pub record VendorAccepted (s : VendorFields) : Type 0 where
  pub low : 3 ≤ s.version
  pub high : s.version ≤ 4
  pub name : is_text 15 s.name ≡ true
  pub cmdline : is_text 2047 s.cmdline ≡ true

pub vendor_accepted : (s : VendorFields) → vendor_refusal s ≡ None → VendorAccepted s
unfolding vendor_refusal
vendor_accepted s e =
    let a = passed (nat_lt s.version 3 || nat_lt 4 s.version) (faults.Header (header.Version s.version)) _ e in
    let b = passed (not (is_some (page_from s.page))) (faults.Header (header.PageSize s.page)) _ a.1 in
    let c = passed (not (is_text 15 s.name)) faults.Name _ b.1 in
    let d = passed (not (is_text 2047 s.cmdline)) faults.CommandLine None c.1 in
    let v = or_parts (nat_lt s.version 3) (nat_lt 4 s.version) a.0 in
    record {
      low = ltb-false s.version 3 v.0;
      high = ltb-false 4 s.version v.1;
      name = holds (is_text 15 s.name) c.0;
      cmdline = holds (is_text 2047 s.cmdline) d.0;
    }

pub vendor_passes : (s : VendorFields) → 3 ≤ s.version → s.version ≤ 4 → is_some (page_from s.page) ≡ true
    → is_text 15 s.name ≡ true → is_text 2047 s.cmdline ≡ true → vendor_refusal s ≡ None
unfolding vendor_refusal
vendor_passes s low high page name cmdline =
    pass (nat_lt s.version 3 || nat_lt 4 s.version) (faults.Header (header.Version s.version)) _
    (or_from _ _ (le-ltb s.version 3 low) (le-ltb 4 s.version high))
    (pass (not (is_some (page_from s.page))) (faults.Header (header.PageSize s.page)) _ (not_from_true _ page)
    (pass (not (is_text 15 s.name)) faults.Name _ (not_from_true _ name)
    (pass (not (is_text 2047 s.cmdline)) faults.CommandLine None (not_from_true _ cmdline) refl)))

-- a text by its length and its bytes
pub text_parts : (n : ℕ) (t : List ℕ) → is_text n t ≡ true → (length t ≤ n) × (no_zero t ≡ true)
text_parts n t e = let p = and_parts _ (no_zero t) e in (leb-true (length t) n p.0, p.1)

-- ---- pages

pub page_again : (p : PageSize) → page_from (page_bytes p) ≡ Some p
page_again Of2048 = refl
page_again Of4096 = refl
page_again Of8192 = refl
page_again Of16384 = refl
page_again Of32768 = refl
page_again Of65536 = refl
page_again Of131072 = refl

pub page_is_some : (p : PageSize) → is_some (page_from (page_bytes p)) ≡ true
page_is_some p = ap (λ (o : Option PageSize). is_some o) (page_again p)

page_high : (p : PageSize) → page_bytes p ≤ 131072
page_high Of2048 = omega arith
page_high Of4096 = omega arith
page_high Of8192 = omega arith
page_high Of16384 = omega arith
page_high Of32768 = omega arith
page_high Of65536 = omega arith
page_high Of131072 = omega arith

-- ---- sizes

abbrev pub AllSmall : List ℕ → Type 0
AllSmall [] = Unit {0}
AllSmall (n ∷ ns) = (n ≤ 4294967295) × AllSmall ns

pub none_large : (names : List Section) (sizes : List ℕ) → AllSmall sizes → size_refusal names sizes ≡ None
unfolding size_refusal
none_large [] [] h = refl
none_large (a ∷ names) [] h = refl
none_large [] (n ∷ ns) h = refl
none_large (a ∷ names) (n ∷ ns) h = pass (nat_lt 4294967295 n) (faults.SectionTooLarge a) (size_refusal names ns)
    (le-ltb _ _ h.0) (none_large names ns h.1)

pub all_small : (names : List Section) (sizes : List ℕ) → length sizes ≤ length names
    → size_refusal names sizes ≡ None → AllSmall sizes
unfolding size_refusal
all_small [] [] l e = tt
all_small (a ∷ names) [] l e = tt
all_small [] (n ∷ ns) l e = absurd (omega arith)
all_small (a ∷ names) (n ∷ ns) l e = let c =
    passed (nat_lt 4294967295 n) (faults.SectionTooLarge a) (size_refusal names ns) e in
    (ltb-false _ _ c.0, all_small names ns (omega arith) c.1)

-- ---- the offset of the recovery dtbo, and the id

offset_case : (t : Bool) (n : ℕ) → n < 2 ^ 64 → cond t 0 n < 2 ^ 64
offset_case true n h = omega arith
offset_case false n h = h

low_pages : (n p : ℕ) → 0 < p → p ≤ 131072 → n ≤ 4294967295 → pages n p * p ≤ 4295098366
low_pages n p some high h = let l = least_pages n p some in omega arith

pub offset_fits : (page : PageSize) (k r s d : ℕ) → k ≤ 4294967295 → r ≤ 4294967295 → s ≤ 4294967295
    → dtbo_offset (page_bytes page) k r s d < 2 ^ 64
offset_fits page k r s d a b c =
    let p = page_bytes page in
    let some = page_some page in
    let high = page_high page in
    let kp = pages k p in
    let rp = pages r p in
    let sp = pages s p in
    let e : p * (1 + kp + rp + sp) ≡ p * 1 + p * kp + p * rp + p * sp = mul-add p (1 + kp + rp) sp
    ∙ ap (λ (n : ℕ). n + p * sp) (mul-add p (1 + kp) rp) ∙ ap (λ (n : ℕ). n + p * rp + p * sp) (mul-add p 1 kp) in
    let ka : pages k p * p ≤ 4295098366 = low_pages k p some high a in
    let ra : pages r p * p ≤ 4295098366 = low_pages r p some high b in
    let sa : pages s p * p ≤ 4295098366 = low_pages s p some high c in
    offset_case _ (p * (1 + kp + rp + sp)) (omega (arith, e, ka, ra, sa, high))

digest_long : (h : List ℕ) (n : ℕ) → length (digest_bytes h n) ≡ 4 * n
unfolding digest_bytes
digest_long h zero = refl
digest_long h (suc n) = let r = digest_long h n in length-append (digest_bytes h n) _ ∙ omega (arith, r)

sha1_long : (m : List ℕ) → length (sha1 m) ≡ 20
unfolding sha1
sha1_long m = digest_long _ 5

pub id_long : (parts : List (List ℕ)) → length (id_of parts) ≡ 32
unfolding id_of
id_long parts = length-append (sha1 (sized_parts parts)) (replicate 12 0)
    ∙ ap (λ (n : ℕ). n + 12) (sha1_long (sized_parts parts))
