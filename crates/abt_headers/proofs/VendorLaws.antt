-- A vendor header that is written is read, and what is read is encoded so.
use Rattle.std.proofs.Common.{◌≡◌, ℕ, ◌+◌, ◌*◌, ◌<◌, ◌≤◌, ◌^◌, List, ◌++◌, length, drop, refl, sym, ap, subst, ◌∙◌}
use Rattle.std.proofs.Common.{arith, lit<, lit≤, inl, inr, Bool, true, false, cond, Result, Ok, Err, IfOk, IfErr}
use Rattle.std.proofs.Common.{MatchResult, Option, Some, None, not, ◌==◌, ◌||◌, length-append}
use Rattle.std.proofs.lemmas.Bool.{eq-eqb, eqb-true}
use Rattle.abt_headers.specs.declared.fault.HeaderFault.{HeaderFault}
use Rattle.abt_headers.specs.declared.fault.HeaderFault.TheVariants as faults
use Rattle.abt_headers.specs.declared.page.PageSize.{PageSize}
use Rattle.abt_headers.specs.declared.vendor.VendorFront.{VendorFront}
use Rattle.abt_headers.specs.declared.vendor.VendorHeader.{VendorHeader}
use Rattle.abt_headers.specs.Field.{number_at, joined_fields}
use Rattle.abt_headers.specs.Fault.{needing, mapped, both, header_fault_number}
use Rattle.abt_headers.specs.Page.{page_bytes, page_at}
use Rattle.abt_headers.specs.Vendor.{Tail, Vendor, vendor_view, vendor_field_list, tail_fields, all_fields}
use Rattle.abt_headers.specs.Vendor.{vendor_record, vendor_size, vendor_front_at, tail_at, tail_checked, tail_or_fault}
use Rattle.abt_headers.specs.Vendor.{vendor_of, vendor_at}
use Rattle.abt_headers.specs.VendorFits.{VendorFrontFits, TailFits, VendorFits}
use Rattle.abt_headers.proofs.Fields.{IsBytes, next, next_number, part_here, number_here, part_field, field, field_is}
use Rattle.abt_headers.proofs.Fields.{joined_to, joined_rest, joined-append}
use Rattle.abt_headers.proofs.PageLaws.{page_fits, needing-is, needing-from, guard, page_is, page_was, Reads, reads-if}
use Rattle.abt_headers.proofs.PageLaws.{reads-needing, reads-mapped, reads-both, reads-page}
use Rattle.abt_headers.proofs.BootLaws.{mapped-from, either, not-false'}

-- ---- what was written is read

pub record FrontRead (v : ℕ) (f : VendorFront) (x rest : List ℕ) : Type 0 where
  pub magic : number_at 0 8 x ≡ 0x544f4f4252444e56
  pub version : number_at 8 4 x ≡ v
  pub page : number_at 12 4 x ≡ page_bytes f.page_size
  pub front : vendor_front_at f.page_size x ≡ f
  pub behind : drop 2112 x ≡ rest

front_again : (v : ℕ) (f : VendorFront) (x rest : List ℕ) → v < 2 ^ 32 → VendorFrontFits f
    → x ≡ joined_to (vendor_field_list v f) rest → FrontRead v f x rest
unfolding vendor_front_at
front_again v f x rest small fits e0 =
    let f0 = number_here 0 8 0x544f4f4252444e56 x _ e0 (lit< tt) in
    let e8 = next_number 0 8 0x544f4f4252444e56 x _ e0 in
    let f8 = number_here 8 4 v x _ e8 small in
    let e12 = next_number 8 4 v x _ e8 in
    let f12 = number_here 12 4 (page_bytes f.page_size) x _ e12 (page_fits f.page_size) in
    let e16 = next_number 12 4 (page_bytes f.page_size) x _ e12 in
    let f16 = number_here 16 4 f.kernel_addr x _ e16 fits.kernel_addr in
    let e20 = next_number 16 4 f.kernel_addr x _ e16 in
    let f20 = number_here 20 4 f.ramdisk_addr x _ e20 fits.ramdisk_addr in
    let e24 = next_number 20 4 f.ramdisk_addr x _ e20 in
    let f24 = number_here 24 4 f.vendor_ramdisk_size x _ e24 fits.vendor_ramdisk_size in
    let e28 = next_number 24 4 f.vendor_ramdisk_size x _ e24 in
    let f28 = part_here 28 2048 x f.cmdline _ e28 fits.cmdline in
    let e2076 = next 28 2048 x f.cmdline _ e28 fits.cmdline in
    let f2076 = number_here 2076 4 f.tags_addr x _ e2076 fits.tags_addr in
    let e2080 = next_number 2076 4 f.tags_addr x _ e2076 in
    let f2080 = part_here 2080 16 x f.name _ e2080 fits.name in
    let e2096 = next 2080 16 x f.name _ e2080 fits.name in
    let f2096 = number_here 2096 4 f.header_size x _ e2096 fits.header_size in
    let e2100 = next_number 2096 4 f.header_size x _ e2096 in
    let f2100 = number_here 2100 4 f.dtb_size x _ e2100 fits.dtb_size in
    let e2104 = next_number 2100 4 f.dtb_size x _ e2100 in
    let f2104 = number_here 2104 8 f.dtb_addr x _ e2104 fits.dtb_addr in
    let e2112 = next_number 2104 8 f.dtb_addr x _ e2104 in
    record {
      magic = f0;
      version = f8;
      page = f12;
      behind = e2112;
      front = rw (
        f16,
        f20,
        f24,
        f28,
        f2076,
        f2080,
        f2096,
        f2100,
        f2104,
      ) refl;
    }

tail_again : (t : Tail) (x rest : List ℕ) → TailFits t → drop 2112 x ≡ joined_to (tail_fields t) rest → tail_at x ≡ t
unfolding tail_at
tail_again t x rest fits e2112 =
    let f2112 = number_here 2112 4 t.table_size x _ e2112 fits.table_size in
    let e2116 = next_number 2112 4 t.table_size x _ e2112 in
    let f2116 = number_here 2116 4 t.entry_num x _ e2116 fits.entry_num in
    let e2120 = next_number 2116 4 t.entry_num x _ e2116 in
    let f2120 = number_here 2120 4 t.entry_size x _ e2120 fits.entry_size in
    let e2124 = next_number 2120 4 t.entry_size x _ e2120 in
    let f2124 = number_here 2124 4 t.bootconfig_size x _ e2124 fits.bootconfig_size in
    rw (f2112, f2116, f2120, f2124) refl

front_back : (v : ℕ) (p : PageSize) (x rest : List ℕ) → 2112 ≤ length x → IsBytes x
    → number_at 0 8 x ≡ 0x544f4f4252444e56 → number_at 8 4 x ≡ v → number_at 12 4 x ≡ page_bytes p → rest ≡ drop 2112 x
    → joined_to (vendor_field_list v (vendor_front_at p x)) rest ≡ x
unfolding vendor_front_at
front_back v p x rest h k is0 is8 is12 e =
    let e2104 = field 2104 8 x _ (omega arith) k e in
    let e2100 = field 2100 4 x _ (omega arith) k e2104 in
    let e2096 = field 2096 4 x _ (omega arith) k e2100 in
    let e2080 = part_field 2080 16 x _ e2096 in
    let e2076 = field 2076 4 x _ (omega arith) k e2080 in
    let e28 = part_field 28 2048 x _ e2076 in
    let e24 = field 24 4 x _ (omega arith) k e28 in
    let e20 = field 20 4 x _ (omega arith) k e24 in
    let e16 = field 16 4 x _ (omega arith) k e20 in
    let e12 = field_is 12 4 _ x _ (omega arith) k is12 e16 in
    let e8 = field_is 8 4 _ x _ (omega arith) k is8 e12 in
    let e0 = field_is 0 8 _ x _ (omega arith) k is0 e8 in
    e0

tail_back : (x rest : List ℕ) → 2128 ≤ length x → IsBytes x → rest ≡ drop 2128 x
    → joined_to (tail_fields (tail_at x)) rest ≡ drop 2112 x
unfolding tail_at
tail_back x rest h k e =
    let e2124 = field 2124 4 x _ (omega arith) k e in
    let e2120 = field 2120 4 x _ (omega arith) k e2124 in
    let e2116 = field 2116 4 x _ (omega arith) k e2120 in
    let e2112 = field 2112 4 x _ (omega arith) k e2116 in
    e2112

begun : (x : List ℕ) (v : ℕ) (r : Result Vendor HeaderFault) → 12 ≤ length x → number_at 0 8 x ≡ 0x544f4f4252444e56
    → number_at 8 4 x ≡ v → vendor_of v x ≡ r → vendor_at x ≡ r
unfolding vendor_at
begun x v r h magic version e =
    let m : (number_at 0 8 x == 0x544f4f4252444e56) ≡ true = eq-eqb _ _ magic in
    needing-is 8 x _ (omega arith)
    ∙ ap (λ (b : Bool). cond (not b) (Err faults.Magic) (needing 12 x (vendor_of (number_at 8 4 x) x))) m
    ∙ needing-is 12 x _ h
    ∙ ap (λ (k : ℕ). vendor_of k x) version ∙ e

pub tail_is : (t : Tail) → t.entry_size ≡ 108 → t.table_size ≡ 108 * t.entry_num → tail_checked t ≡ Ok t
tail_is t e w =
    let a : (t.entry_size == 108) ≡ true = eq-eqb _ _ e in
    let b : (t.table_size == 108 * t.entry_num) ≡ true = eq-eqb _ _ w in
    rw (a, b) refl

abbrev page_ok : PageSize → Result PageSize HeaderFault
page_ok p = Ok p

abbrev pub whole : List ℕ → PageSize × Tail → Vendor
whole x p = record { front = vendor_front_at p.0 x; tail = Some p.1 }

both_are : (x : List ℕ) (f : VendorFront) (t : Tail) → 2128 ≤ length x → number_at 12 4 x ≡ page_bytes f.page_size
    → tail_at x ≡ t → TailFits t → both (needing 2128 x (page_at 12 x)) (tail_or_fault x) ≡ Ok (f.page_size, t)
both_are x f t h page same fits =
    ap (λ (r : Result PageSize HeaderFault). both r (tail_or_fault x)) (page_is 2128 12 x f.page_size h page)
    ∙ ap (λ (s : Tail). both (page_ok f.page_size) (tail_checked s)) same
    ∙ ap (λ (r : Result Tail HeaderFault). both (page_ok f.page_size) r) (tail_is t fits.entries fits.whole)

again_of : (f : VendorFront) (o : Option Tail) (x rest : List ℕ) → VendorFits (record { front = f; tail = o })
    → vendor_size (record { front = f; tail = o }) ≤ length x → x ≡ joined_to (all_fields f o) rest
    → vendor_at x ≡ Ok (record { front = f; tail = o })
unfolding vendor_of
again_of f None x rest fits size e =
    let a = front_again 3 f x rest (lit< tt) fits.0 e in
    begun x 3 _ (omega arith) a.magic a.version
    (ap (λ (r : Result PageSize HeaderFault). mapped r (λ p. record { front = vendor_front_at p x; tail = None }))
    (page_is 2112 12 x f.page_size size a.page) ∙ rw a.front refl)
again_of f (Some t) x rest fits size e =
    let a = front_again 4 f x (joined_to (tail_fields t) rest) (lit< tt) fits.0 e in
    let b = tail_again t x rest fits.1 a.behind in
    begun x 4 _ (omega arith) a.magic a.version (ap (λ (r : Result (PageSize × Tail) HeaderFault). mapped r (whole x))
    (both_are x f t size a.page b fits.1) ∙ rw a.front refl)

front_length : (v : ℕ) (f : VendorFront) → VendorFrontFits f → length (joined_fields (vendor_field_list v f)) ≡ 2112
front_length v f fits = simp length-append (omega arith)

length_of : (f : VendorFront) (o : Option Tail) → VendorFrontFits f
    → length (joined_fields (all_fields f o)) ≡ vendor_size (record { front = f; tail = o })
length_of f None fits = front_length 3 f fits
length_of f (Some t) fits = ap length (joined-append (vendor_field_list 4 f) (tail_fields t))
    ∙ length-append (joined_fields (vendor_field_list 4 f)) (joined_fields (tail_fields t))
    ∙ ap (λ (n : ℕ). n + 16) (front_length 4 f fits)

pub record_length : (h : Vendor) → VendorFits h → length (vendor_record h) ≡ vendor_size h
unfolding vendor_record
record_length h fits = length_of h.front h.tail fits.0

pub record_again : (h : Vendor) (rest : List ℕ) → VendorFits h → vendor_at (vendor_record h ++ rest) ≡ Ok h
unfolding vendor_record
record_again h rest fits =
    again_of h.front h.tail (joined_fields (all_fields h.front h.tail) ++ rest) rest fits
    (omega (arith, length_of h.front h.tail fits.0, length-append (joined_fields (all_fields h.front h.tail)) rest))
    (joined_rest (all_fields h.front h.tail) rest)

-- ---- and back

abbrev ok_of : Tail → Result Tail HeaderFault
ok_of t = Ok t

same_tail : (t u : Tail) → ok_of t ≡ ok_of u → t ≡ u
same_tail t u e = cc

tail_from : (t u : Tail) → tail_checked t ≡ Ok u → t ≡ u
tail_from t u e = let g = guard (not (t.entry_size == 108) || not (t.table_size == 108 * t.entry_num)) faults.Table
    (Ok t) u e in same_tail t u g.1

both-from : (r : Result PageSize HeaderFault) (s : Result Tail HeaderFault) (q : PageSize × Tail) → both r s ≡ Ok q
    → (r ≡ Ok q.0) × (s ≡ Ok q.1)
both-from (Ok p) (Ok t) q e = let same : (p, t) ≡ q = cc in
    (ap (λ (w : PageSize × Tail). page_ok w.0) same, ap (λ (w : PageSize × Tail). ok_of w.1) same)
both-from (Ok p) (Err c) q e = absurd cc
both-from (Err d) s q e = absurd cc

pub record Stands (h : Vendor) (x : List ℕ) : Type 0 where
  pub size : vendor_size h ≤ length x
  pub bytes : joined_to (all_fields h.front h.tail) (drop (vendor_size h) x) ≡ x

module _ (x : List ℕ) (k : IsBytes x) (magic : number_at 0 8 x ≡ 0x544f4f4252444e56) where
  back_3 : (h : Vendor) → number_at 8 4 x ≡ 3
      → mapped (needing 2112 x (page_at 12 x)) (λ p. record { front = vendor_front_at p x; tail = None }) ≡ Ok h
      → Stands h x
  back_3 h v e =
      let m = mapped-from _ _ h e in
      let p = page_was 2112 12 x m.0 m.1 in
      subst (λ (g : Vendor). Stands g x) m.2 record { size = p.0; bytes = front_back 3 m.0 x _ p.0 k magic v p.1 refl }

  back_4 : (h : Vendor) → number_at 8 4 x ≡ 4
      → mapped (both (needing 2128 x (page_at 12 x)) (tail_or_fault x)) (whole x) ≡ Ok h → Stands h x
  back_4 h v e =
      let m = mapped-from _ _ h e in
      let b = both-from _ _ m.0 m.1 in
      let p = page_was 2128 12 x m.0.0 b.0 in
      let t : tail_at x ≡ m.0.1 = tail_from (tail_at x) m.0.1 b.1 in
      subst (λ (g : Vendor). Stands g x) (ap (λ (s : Tail). whole x (m.0.0, s)) t ∙ m.2) record {
        size = p.0;
        bytes = front_back 4 m.0.0 x _ (omega arith) k magic v p.1 (tail_back x _ p.0 k refl);
      }

  by_version : (v : ℕ) (h : Vendor) → number_at 8 4 x ≡ v → vendor_of v x ≡ Ok h → Stands h x
  unfolding vendor_of
  by_version v h is e =
      elim (either (v == 3) _ _ h e) [
        | inl a ↦ back_3 h (is ∙ eqb-true _ _ a.0) a.1
        | inr e1 ↦ elim (either (v == 4) _ _ h e1) [
          | inl a ↦ back_4 h (is ∙ eqb-true _ _ a.0) a.1
          | inr e2 ↦ absurd cc
        ]
      ]

pub vendor_back : (x : List ℕ) (h : Vendor) → IsBytes x → vendor_at x ≡ Ok h → Stands h x
unfolding vendor_at
vendor_back x h k e =
    let s = needing-from 8 x _ h e in
    let m = guard (not (number_at 0 8 x == 0x544f4f4252444e56)) faults.Magic _ h s.1 in
    let t = needing-from 12 x _ h m.1 in
    by_version x k (eqb-true _ _ (not-false' _ m.0)) (number_at 8 4 x) h refl t.1

pub vendor_backs : (x : List ℕ) (r : Result VendorHeader HeaderFault) → IsBytes x
    → MatchResult r (λ h. vendor_at x ≡ Ok (vendor_view h)) (λ f. vendor_at x ≡ Err f)
    → IfOk r (λ h. vendor_record (vendor_view h) ++ drop (vendor_size (vendor_view h)) x ≡ x)
unfolding vendor_record
vendor_backs x (Ok h) k e = let s = vendor_back x (vendor_view h) k e in
    joined_rest (all_fields (vendor_view h).front (vendor_view h).tail) (drop (vendor_size (vendor_view h)) x) ∙ s.bytes
vendor_backs x (Err f) k e = tt

pub vendor_sizes : (x : List ℕ) (r : Result VendorHeader HeaderFault) → IsBytes x
    → MatchResult r (λ h. vendor_at x ≡ Ok (vendor_view h)) (λ f. vendor_at x ≡ Err f)
    → IfOk r (λ h. vendor_size (vendor_view h) ≤ length x)
vendor_sizes x (Ok h) k e = let s = vendor_back x (vendor_view h) k e in s.size
vendor_sizes x (Err f) k e = tt

-- ---- by versions, from the parts

fields_are : (x : List ℕ) (a b c d : ℕ) → a ≡ number_at 2112 4 x → b ≡ number_at 2116 4 x → c ≡ number_at 2120 4 x
    → d ≡ number_at 2124 4 x → tail_at x ≡ record { table_size = a; entry_num = b; entry_size = c; bootconfig_size = d }
unfolding tail_at
fields_are x a b c d e f g h = rw (e, f, g, h) refl

pub tail_right : (x : List ℕ) (a b c d : ℕ) → a ≡ number_at 2112 4 x → b ≡ number_at 2116 4 x → c ≡ number_at 2120 4 x
    → d ≡ number_at 2124 4 x → c ≡ 108 → a ≡ 108 * b
    → tail_or_fault x ≡ Ok (record { table_size = a; entry_num = b; entry_size = c; bootconfig_size = d })
tail_right x a b c d e f g h i j = ap (λ (t : Tail). tail_checked t) (fields_are x a b c d e f g h)
    ∙ tail_is (record { table_size = a; entry_num = b; entry_size = c; bootconfig_size = d }) i j

abbrev err_of : Tail → Result Tail HeaderFault
err_of t = Err faults.Table

refused : (s t : Bool) (k : Tail) → ((s ≡ true) → (t ≡ true) → ⊥)
    → cond (not s || not t) (err_of k) (ok_of k) ≡ err_of k
refused true true k h = absurd (h refl refl)
refused true false k h = refl
refused false t k h = refl

pub tail_wrong : (x : List ℕ) (a b c d : ℕ) → a ≡ number_at 2112 4 x → b ≡ number_at 2116 4 x → c ≡ number_at 2120 4 x
    → d ≡ number_at 2124 4 x → (c ≡ 108 → a ≡ 108 * b → ⊥)
    → tail_or_fault x ≡ Err faults.Table
tail_wrong x a b c d e f g h i =
    ap (λ (t : Tail). tail_checked t) (fields_are x a b c d e f g h)
    ∙ refused (c == 108) (a == 108 * b) (record {
      table_size = a;
      entry_num = b;
      entry_size = c;
      bootconfig_size = d;
    }) (λ s t. i (eqb-true _ _ s) (eqb-true _ _ t))

abbrev vendor_ok : Vendor → Result Vendor HeaderFault
vendor_ok v = Ok v

same_vendor : (v w : Vendor) → vendor_ok v ≡ vendor_ok w → v ≡ w
same_vendor v w e = cc

-- what a header at the beginning decodes to
pub vendor_found : (x : List ℕ) (r : Result VendorHeader HeaderFault)
    → MatchResult r (λ h. vendor_at x ≡ Ok (vendor_view h)) (λ f. vendor_at x ≡ Err f) → (v : Vendor) (rest : List ℕ)
    → VendorFits v → x ≡ vendor_record v ++ rest → MatchResult r (λ h. vendor_view h ≡ v) (λ _. ⊥)
vendor_found x (Ok h) e v rest fits is = let same : vendor_at x ≡ Ok v = ap vendor_at is ∙ record_again v rest fits in
    same_vendor (vendor_view h) v (sym e ∙ same)
vendor_found x (Err f) e v rest fits is = let same : vendor_at x ≡ Ok v =
    ap vendor_at is ∙ record_again v rest fits in absurd cc

-- the faults that reading has
of_reads : (v : ℕ) (x : List ℕ) → Reads (vendor_of v x)
unfolding vendor_of
of_reads v x =
    reads-if (v == 3) _ _ (reads-mapped _ _ (reads-page 2112 12 x))
    (reads-if (v == 4) _ _
    (reads-mapped _ _ (reads-both (needing 2128 x (page_at 12 x)) (tail_or_fault x) (reads-page 2128 12 x)
    (reads-if _ (Err faults.Table) (Ok (tail_at x)) (lit≤ tt) tt))) (lit≤ tt))

at_reads : (x : List ℕ) → Reads (vendor_at x)
unfolding vendor_at
at_reads x = reads-needing 8 x _ (reads-if (not (number_at 0 8 x == 0x544f4f4252444e56)) (Err faults.Magic) _
    (lit≤ tt) (reads-needing 12 x _ (of_reads (number_at 8 4 x) x)))

pub vendor_reads : (x : List ℕ) (r : Result VendorHeader HeaderFault)
    → MatchResult r (λ h. vendor_at x ≡ Ok (vendor_view h)) (λ f. vendor_at x ≡ Err f)
    → IfErr r (λ f. header_fault_number f ≤ 25)
vendor_reads x (Ok h) e = tt
vendor_reads x (Err f) e = subst (λ (r : Result Vendor HeaderFault). Reads r) e (at_reads x)
