-- A boot header that is written is read, and what is read is encoded so.
use Rattle.std.proofs.Common.{◌≡◌, ℕ, ◌+◌, ◌≤◌, List, [], ◌∷◌, ◌++◌, length, drop, refl, sym, ap, subst, ◌∙◌, arith}
use Rattle.std.proofs.Common.{lit<, lit≤, inl, inr, ◌⊎◌, Bool, true, false, cond, Result, Ok, Err, IfOk, not, ◌==◌}
use Rattle.std.proofs.Common.{length-append}
use Rattle.std.proofs.lemmas.Bool.{eq-eqb, eqb-true}
use Rattle.byteorder.specs.Endian.{little_bytes}
use Rattle.abt_headers.specs.declared.fault.HeaderFault.{HeaderFault}
use Rattle.abt_headers.specs.declared.fault.HeaderFault.TheVariants as faults
use Rattle.abt_headers.specs.declared.page.PageSize.{PageSize}
use Rattle.abt_headers.specs.declared.boot.BootFront.{BootFront}
use Rattle.abt_headers.specs.declared.boot.ShortFront.{ShortFront}
use Rattle.abt_headers.specs.declared.boot.BootHeader.{BootHeader}
use Rattle.abt_headers.specs.declared.boot.BootHeader.TheVariants.{V0, V1, V2, V3, V4}
use Rattle.abt_headers.specs.Field.{number_at, joined_fields}
use Rattle.abt_headers.specs.Fault.{needing, mapped}
use Rattle.abt_headers.specs.Page.{page_at}
use Rattle.abt_headers.specs.Boot.{front_fields, dtbo_fields, dtb_fields, short_fields, boot_field_list, boot_record}
use Rattle.abt_headers.specs.Boot.{boot_size, front_at, dtbo_at, dtb_at, short_at, boot_of, boot_at}
use Rattle.abt_headers.specs.Fits.{FrontFits, ShortFits, BootFits}
use Rattle.abt_headers.proofs.Fields.{IsBytes, joined_to, joined_rest, joined-append, number_here, field}
use Rattle.abt_headers.proofs.PageLaws.{needing-is, needing-from, guard, page_is, page_was, Reads, reads-if}
use Rattle.abt_headers.proofs.PageLaws.{reads-needing, reads-mapped, reads-page}
use Rattle.abt_headers.proofs.BootParts.{front_again, dtbo_again, dtb_again, short_again, front_back, dtbo_back}
use Rattle.abt_headers.proofs.BootParts.{dtb_back, short_back}

-- the two first checks
begun : (x : List ℕ) (v : ℕ) (r : Result BootHeader HeaderFault) → 44 ≤ length x
    → number_at 0 8 x ≡ 0x2144494f52444e41 → number_at 40 4 x ≡ v → boot_of v x ≡ r → boot_at x ≡ r
unfolding boot_at
begun x v r h magic version e =
    let m : (number_at 0 8 x == 0x2144494f52444e41) ≡ true = eq-eqb _ _ magic in
    needing-is 8 x _ (omega arith)
    ∙ ap (λ (b : Bool). cond (not b) (Err faults.Magic) (needing 44 x (boot_of (number_at 40 4 x) x))) m
    ∙ needing-is 44 x _ h
    ∙ ap (λ (k : ℕ). boot_of k x) version ∙ e

pub boot_again : (h : BootHeader) (x rest : List ℕ) → BootFits h → boot_size h ≤ length x
    → x ≡ joined_to (boot_field_list h) rest → boot_at x ≡ Ok h
unfolding boot_of
boot_again (V0 f) x rest fits size e =
    let a = front_again 0 f x rest (lit< tt) fits e in
    begun x 0 _ (omega arith) a.magic a.version
    (ap (λ (r : Result PageSize HeaderFault). mapped r (λ p. V0 (front_at p x)))
    (page_is 1632 36 x f.page_size size a.page) ∙ rw a.front refl)
boot_again (V1 f d) x rest fits size e =
    let a = front_again 1 f x (joined_to (dtbo_fields d) rest) (lit< tt) fits.0 e in
    let b = dtbo_again d x rest fits.1 a.behind in
    begun x 1 _ (omega arith) a.magic a.version
    (ap (λ (r : Result PageSize HeaderFault). mapped r (λ p. V1 (front_at p x) (dtbo_at x)))
    (page_is 1648 36 x f.page_size size a.page) ∙ rw (a.front, b.0) refl)
boot_again (V2 f d t) x rest fits size e =
    let a = front_again 2 f x (joined_to (dtbo_fields d) (joined_to (dtb_fields t) rest)) (lit< tt) fits.0 e in
    let b = dtbo_again d x (joined_to (dtb_fields t) rest) fits.1 a.behind in
    let c = dtb_again t x rest fits.2 b.1 in
    begun x 2 _ (omega arith) a.magic a.version
    (ap (λ (r : Result PageSize HeaderFault). mapped r (λ p. V2 (front_at p x) (dtbo_at x) (dtb_at x)))
    (page_is 1660 36 x f.page_size size a.page) ∙ rw (a.front, b.0, c.0) refl)
boot_again (V3 f) x rest fits size e =
    let a = short_again 3 f x rest (lit< tt) fits e in
    begun x 3 _ (omega arith) a.magic a.version (needing-is 1580 x _ size ∙ rw a.front refl)
boot_again (V4 f s) x rest fits size e =
    let a = short_again 4 f x (joined_to (little_bytes 4 s ∷ []) rest) (lit< tt) fits.0 e in
    let b = number_here 1580 4 s x rest a.behind fits.1 in
    begun x 4 _ (omega arith) a.magic a.version (needing-is 1584 x _ size ∙ rw (a.front, b) refl)

-- ---- and back

pub mapped-from : {A B : Type 0} (r : Result A HeaderFault) (f : A → B) (y : B) → mapped r f ≡ Ok y
    → (a : A) × (r ≡ Ok a) × (f a ≡ y)
mapped-from (Ok a) f y e = (a, refl, cc)
mapped-from (Err d) f y e = absurd cc

pub either : {A : Type 0} (t : Bool) (r s : Result A HeaderFault) (y : A) → cond t r s ≡ Ok y
    → ((t ≡ true) × (r ≡ Ok y)) ⊎ (s ≡ Ok y)
either true r s y e = inl (refl, e)
either false r s y e = inr e

abbrev ok_of : BootHeader → Result BootHeader HeaderFault
ok_of h = Ok h

ok_same : (g h : BootHeader) → ok_of g ≡ ok_of h → g ≡ h
ok_same g h e = cc

pub not-false' : (t : Bool) → not t ≡ false → t ≡ true
not-false' true e = refl
not-false' false e = absurd cc

-- what is stored of a header in x
pub record Stands (h : BootHeader) (x : List ℕ) : Type 0 where
  pub size : boot_size h ≤ length x
  pub bytes : joined_to (boot_field_list h) (drop (boot_size h) x) ≡ x

module _ (x : List ℕ) (k : IsBytes x) (magic : number_at 0 8 x ≡ 0x2144494f52444e41) where
  back_0 : (h : BootHeader) → number_at 40 4 x ≡ 0
      → mapped (needing 1632 x (page_at 36 x)) (λ p. V0 (front_at p x)) ≡ Ok h → Stands h x
  back_0 h v e =
      let m = mapped-from _ _ h e in
      let p = page_was 1632 36 x m.0 m.1 in
      subst (λ (g : BootHeader). Stands g x) m.2 record {
        size = p.0;
        bytes = front_back 0 m.0 x _ p.0 k magic p.1 v refl;
      }

  back_1 : (h : BootHeader) → number_at 40 4 x ≡ 1
      → mapped (needing 1648 x (page_at 36 x)) (λ p. V1 (front_at p x) (dtbo_at x)) ≡ Ok h → Stands h x
  back_1 h v e =
      let m = mapped-from _ _ h e in
      let p = page_was 1648 36 x m.0 m.1 in
      let d = dtbo_back x _ p.0 k refl in
      subst (λ (g : BootHeader). Stands g x) m.2 record {
        size = p.0;
        bytes = front_back 1 m.0 x _ (omega arith) k magic p.1 v d;
      }

  back_2 : (h : BootHeader) → number_at 40 4 x ≡ 2
      → mapped (needing 1660 x (page_at 36 x)) (λ p. V2 (front_at p x) (dtbo_at x) (dtb_at x)) ≡ Ok h → Stands h x
  back_2 h v e =
      let m = mapped-from _ _ h e in
      let p = page_was 1660 36 x m.0 m.1 in
      let d = dtbo_back x _ (omega arith) k (dtb_back x _ p.0 k refl) in
      subst (λ (g : BootHeader). Stands g x) m.2 record {
        size = p.0;
        bytes = front_back 2 m.0 x _ (omega arith) k magic p.1 v d;
      }

  back_3 : (h : BootHeader) → number_at 40 4 x ≡ 3 → needing 1580 x (Ok (V3 (short_at x))) ≡ Ok h → Stands h x
  back_3 h v e =
      let s = needing-from 1580 x (Ok (V3 (short_at x))) h e in
      subst (λ (g : BootHeader). Stands g x) (ok_same _ h s.1) record {
        size = s.0;
        bytes = short_back 3 x _ s.0 k magic v refl;
      }

  back_4 : (h : BootHeader) → number_at 40 4 x ≡ 4 → needing 1584 x (Ok (V4 (short_at x) (number_at 1580 4 x))) ≡ Ok h
      → Stands h x
  back_4 h v e =
      let s = needing-from 1584 x (Ok (V4 (short_at x) (number_at 1580 4 x))) h e in
      let t = field 1580 4 x _ s.0 k refl in
      subst (λ (g : BootHeader). Stands g x) (ok_same _ h s.1) record {
        size = s.0;
        bytes = short_back 4 x _ (omega arith) k magic v t;
      }

  by_version : (v : ℕ) (h : BootHeader) → number_at 40 4 x ≡ v → boot_of v x ≡ Ok h → Stands h x
  unfolding boot_of
  by_version v h is e =
      elim (either (v == 0) _ _ h e) [
        | inl a ↦ back_0 h (is ∙ eqb-true _ _ a.0) a.1
        | inr e1 ↦ elim (either (v == 1) _ _ h e1) [
          | inl a ↦ back_1 h (is ∙ eqb-true _ _ a.0) a.1
          | inr e2 ↦ elim (either (v == 2) _ _ h e2) [
            | inl a ↦ back_2 h (is ∙ eqb-true _ _ a.0) a.1
            | inr e3 ↦ elim (either (v == 3) _ _ h e3) [
              | inl a ↦ back_3 h (is ∙ eqb-true _ _ a.0) a.1
              | inr e4 ↦ elim (either (v == 4) _ _ h e4) [
                | inl a ↦ back_4 h (is ∙ eqb-true _ _ a.0) a.1
                | inr e5 ↦ absurd cc
              ]
            ]
          ]
        ]
      ]

pub boot_back : (x : List ℕ) (h : BootHeader) → IsBytes x → boot_at x ≡ Ok h → Stands h x
unfolding boot_at
boot_back x h k e =
    let s = needing-from 8 x _ h e in
    let m = guard (not (number_at 0 8 x == 0x2144494f52444e41)) faults.Magic _ h s.1 in
    let t = needing-from 44 x _ h m.1 in
    by_version x k (eqb-true _ _ (not-false' _ m.0)) (number_at 40 4 x) h refl t.1

-- what a decoded header ensures
pub boot_backs : (x : List ℕ) (r : Result BootHeader HeaderFault) → IsBytes x → r ≡ boot_at x
    → IfOk r (λ h. boot_record h ++ drop (boot_size h) x ≡ x)
unfolding boot_record
boot_backs x (Ok h) k e = let s = boot_back x h k (sym e) in joined_rest (boot_field_list h) (drop (boot_size h) x)
    ∙ s.bytes
boot_backs x (Err f) k e = tt

pub boot_sizes : (x : List ℕ) (r : Result BootHeader HeaderFault) → IsBytes x → r ≡ boot_at x
    → IfOk r (λ h. boot_size h ≤ length x)
boot_sizes x (Ok h) k e = let s = boot_back x h k (sym e) in s.size
boot_sizes x (Err f) k e = tt

front_length : (v : ℕ) (f : BootFront) → FrontFits f → length (joined_fields (front_fields v f)) ≡ 1632
front_length v f fits = simp length-append (omega arith)

short_length : (v : ℕ) (f : ShortFront) → ShortFits f → length (joined_fields (short_fields v f)) ≡ 1580
short_length v f fits = simp length-append (omega arith)

pub record_length : (h : BootHeader) → BootFits h → length (boot_record h) ≡ boot_size h
unfolding boot_record
record_length (V0 f) fits = front_length 0 f fits
record_length (V1 f d) fits = ap length (joined-append (front_fields 1 f) (dtbo_fields d))
    ∙ length-append (joined_fields (front_fields 1 f)) (joined_fields (dtbo_fields d))
    ∙ ap (λ (n : ℕ). n + 16) (front_length 1 f fits.0)
record_length (V2 f d t) fits =
    ap length (joined-append (front_fields 2 f) (dtbo_fields d ++ dtb_fields t))
    ∙ length-append (joined_fields (front_fields 2 f)) (joined_fields (dtbo_fields d ++ dtb_fields t))
    ∙ ap (λ (n : ℕ). n + 28) (front_length 2 f fits.0)
record_length (V3 f) fits = short_length 3 f fits
record_length (V4 f s) fits = ap length (joined-append (short_fields 4 f) (little_bytes 4 s ∷ []))
    ∙ length-append (joined_fields (short_fields 4 f)) (joined_fields (little_bytes 4 s ∷ []))
    ∙ ap (λ (n : ℕ). n + 4) (short_length 4 f fits.0)

pub record_again : (h : BootHeader) (rest : List ℕ) → BootFits h → boot_at (boot_record h ++ rest) ≡ Ok h
unfolding boot_record
record_again h rest fits =
    boot_again h (joined_fields (boot_field_list h) ++ rest) rest fits
    (omega (arith, record_length h fits, length-append (joined_fields (boot_field_list h)) rest))
    (joined_rest (boot_field_list h) rest)

-- what a header at the beginning decodes to
pub boot_found : (x : List ℕ) (r : Result BootHeader HeaderFault) → r ≡ boot_at x → (h : BootHeader) (rest : List ℕ)
    → BootFits h → x ≡ boot_record h ++ rest → r ≡ Ok h
boot_found x r e h rest fits is = e ∙ ap boot_at is ∙ record_again h rest fits

-- the faults that reading has
of_reads : (v : ℕ) (x : List ℕ) → Reads (boot_of v x)
unfolding boot_of
of_reads v x =
    reads-if (v == 0) _ _ (reads-mapped _ _ (reads-page 1632 36 x))
    (reads-if (v == 1) _ _ (reads-mapped _ _ (reads-page 1648 36 x))
    (reads-if (v == 2) _ _ (reads-mapped _ _ (reads-page 1660 36 x))
    (reads-if (v == 3) _ _ (reads-needing 1580 x (Ok (V3 (short_at x))) tt)
    (reads-if (v == 4) _ _ (reads-needing 1584 x (Ok (V4 (short_at x) (number_at 1580 4 x))) tt) (lit≤ tt)))))

pub boot_reads : (x : List ℕ) → Reads (boot_at x)
unfolding boot_at
boot_reads x = reads-needing 8 x _ (reads-if (not (number_at 0 8 x == 0x2144494f52444e41)) (Err faults.Magic) _
    (lit≤ tt) (reads-needing 44 x _ (of_reads (number_at 40 4 x) x)))
