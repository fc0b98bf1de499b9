-- Faults and page sizes of what is read.
use Rattle.std.proofs.Common.{◌≡◌, ℕ, ◌<◌, ◌≤◌, ◌^◌, List, length, refl, sym, ap, ◌∙◌, lit<, lit≤, inl, inr, ◌⊎◌, Bool}
use Rattle.std.proofs.Common.{true, false, cond, Result, Ok, Err, IfErr, Option, Some, None, nat_lt, ◌==◌}
use Rattle.std.proofs.lemmas.Bool.{le-ltb, ltb-false, eqb-true}
use Rattle.abt_headers.specs.declared.fault.HeaderFault.{HeaderFault}
use Rattle.abt_headers.specs.declared.fault.HeaderFault.TheVariants as faults
use Rattle.abt_headers.specs.declared.page.PageSize.{PageSize}
use Rattle.abt_headers.specs.declared.page.PageSize.TheVariants.{Of2048, Of4096, Of8192, Of16384, Of32768, Of65536}
use Rattle.abt_headers.specs.declared.page.PageSize.TheVariants.{Of131072}
use Rattle.abt_headers.specs.Fault.{needing, mapped, both, header_fault_number}
use Rattle.abt_headers.specs.Field.{number_at}
use Rattle.abt_headers.specs.Page.{page_bytes, page_from, page_or_fault, page_at}

pub page_fits : (p : PageSize) → page_bytes p < 2 ^ 32
page_fits Of2048 = lit< tt
page_fits Of4096 = lit< tt
page_fits Of8192 = lit< tt
page_fits Of16384 = lit< tt
page_fits Of32768 = lit< tt
page_fits Of65536 = lit< tt
page_fits Of131072 = lit< tt

page_again : (p : PageSize) → page_from (page_bytes p) ≡ Some p
page_again Of2048 = refl
page_again Of4096 = refl
page_again Of8192 = refl
page_again Of16384 = refl
page_again Of32768 = refl
page_again Of65536 = refl
page_again Of131072 = refl

pub needing-is : {A : Type 0} (n : ℕ) (x : List ℕ) (r : Result A HeaderFault) → n ≤ length x → needing n x r ≡ r
needing-is n x r h = let e : nat_lt (length x) n ≡ false = le-ltb _ _ h in rw e refl

-- a page size that was written is read
pub page_is : (n place : ℕ) (x : List ℕ) (p : PageSize) → n ≤ length x → number_at place 4 x ≡ page_bytes p
    → needing n x (page_at place x) ≡ Ok p
page_is n place x p h e = needing-is n x _ h ∙ ap (λ (k : ℕ). page_or_fault k (page_from k)) e
    ∙ ap (λ (o : Option PageSize). page_or_fault (page_bytes p) o) (page_again p)

-- ---- and back

-- no fault came before
pub guard : {A : Type 0} (t : Bool) (f : HeaderFault) (r : Result A HeaderFault) (y : A) → cond t (Err f) r ≡ Ok y
    → (t ≡ false) × (r ≡ Ok y)
guard true f r y e = absurd cc
guard false f r y e = (refl, e)

pub needing-from : {A : Type 0} (n : ℕ) (x : List ℕ) (r : Result A HeaderFault) (y : A) → needing n x r ≡ Ok y
    → (n ≤ length x) × (r ≡ Ok y)
needing-from n x r y e = let g = guard (nat_lt (length x) n) (faults.Short n) r y e in (ltb-false _ _ g.0, g.1)

page_case : (t : Bool) (n m : ℕ) (q p : PageSize) (o : Option PageSize) → page_bytes q ≡ m → (t ≡ true → n ≡ m)
    → cond t (Some q) o ≡ Some p → (n ≡ page_bytes p) ⊎ (o ≡ Some p)
page_case true n m q p o is h e = let same : q ≡ p = cc in inl (h refl ∙ sym is ∙ ap page_bytes same)
page_case false n m q p o is h e = inr e

page_step : (n m : ℕ) (q p : PageSize) (o : Option PageSize) → page_bytes q ≡ m → cond (n == m) (Some q) o ≡ Some p
    → (n ≡ page_bytes p) ⊎ (o ≡ Some p)
page_step n m q p o is e = page_case (n == m) n m q p o is (λ t. eqb-true n m t) e

page_back : (n : ℕ) (p : PageSize) → page_from n ≡ Some p → n ≡ page_bytes p
page_back n p e =
    elim (page_step n 2048 Of2048 p _ refl e) [
      | inl r ↦ r
      | inr e1 ↦ elim (page_step n 4096 Of4096 p _ refl e1) [
        | inl r ↦ r
        | inr e2 ↦ elim (page_step n 8192 Of8192 p _ refl e2) [
          | inl r ↦ r
          | inr e3 ↦ elim (page_step n 16384 Of16384 p _ refl e3) [
            | inl r ↦ r
            | inr e4 ↦ elim (page_step n 32768 Of32768 p _ refl e4) [
              | inl r ↦ r
              | inr e5 ↦ elim (page_step n 65536 Of65536 p _ refl e5) [
                | inl r ↦ r
                | inr e6 ↦ elim (page_step n 131072 Of131072 p _ refl e6) [
                  | inl r ↦ r
                  | inr e7 ↦ absurd cc
                ]
              ]
            ]
          ]
        ]
      ]
    ]

page_some : (n : ℕ) (o : Option PageSize) (p : PageSize) → page_or_fault n o ≡ Ok p → o ≡ Some p
page_some n None p e = absurd cc
page_some n (Some q) p e = cc

-- a page size that is read is encoded so
pub page_was : (n place : ℕ) (x : List ℕ) (p : PageSize) → needing n x (page_at place x) ≡ Ok p → (n ≤ length x)
    × (number_at place 4 x ≡ page_bytes p)
page_was n place x p e =
    let s = needing-from n x _ p e in
    (s.0, page_back _ p (page_some _ _ p s.1))

-- ---- no fault of reading is that of an OS version

abbrev pub Reads : {A : Type 0} → Result A HeaderFault → Type 0
Reads r = IfErr r (λ f. header_fault_number f ≤ 25)

pub reads-if : {A : Type 0} (t : Bool) (r s : Result A HeaderFault) → Reads r → Reads s → Reads (cond t r s)
reads-if true r s h k = h
reads-if false r s h k = k

pub reads-needing : {A : Type 0} (n : ℕ) (x : List ℕ) (r : Result A HeaderFault) → Reads r → Reads (needing n x r)
reads-needing n x r h = reads-if (nat_lt (length x) n) (Err (faults.Short n)) r (lit≤ tt) h

pub reads-mapped : {A B : Type 0} (r : Result A HeaderFault) (f : A → B) → Reads r → Reads (mapped r f)
reads-mapped (Ok a) f h = tt
reads-mapped (Err e) f h = h

pub reads-both : {A B : Type 0} (r : Result A HeaderFault) (s : Result B HeaderFault) → Reads r → Reads s
    → Reads (both r s)
reads-both (Ok a) (Ok b) h k = tt
reads-both (Ok a) (Err e) h k = k
reads-both (Err e) s h k = h

page_reads : (n : ℕ) (o : Option PageSize) → Reads (page_or_fault n o)
page_reads n None = lit≤ tt
page_reads n (Some p) = tt

pub reads-page : (n place : ℕ) (x : List ℕ) → Reads (needing n x (page_at place x))
reads-page n place x = reads-needing n x (page_at place x) (page_reads _ _)
