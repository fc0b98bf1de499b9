-- Who failed, and what a text that went to its output tells.
use Rattle.std.proofs.Common.{◌≡◌, ◌<◌, ◌≤◌, ◌-◌, ℕ, Result, Ok, Err, IfErr, IsNone, IsSome, List, [], ◌++◌, length}
use Rattle.std.proofs.Common.{take, refl, sym, ap, subst, ◌∙◌, arith, append-nil, true≢false}
use Rattle.abt_sections.specs.declared.fault.SectionFault.{SectionFault}
use Rattle.abt_sections.specs.declared.fault.SectionFault.TheVariants as faults
use Rattle.abt_sections.specs.Cause.{OpenCause, ReadCause}
use Rattle.abt_sections.specs.Grown.{AppendsFront}
use Rattle.abt_sections.specs.Header.{Header}
use Rattle.abt_sections.specs.Open.{HasImage, RefusedAs}
use Rattle.sys_text.specs.declared.text_output.Text.{Text}
use Rattle.sys_text.specs.Shown.{text_in}
use Rattle.sys_text.specs.Printed.{Prints}
use Rattle.sys_text.proofs.Printing.{both_printed, printed_as, text_whole, whole_before}
use Rattle.cmd_common_texts.specs.declared.info_lines.Notation.{Notation}
use Rattle.abt_sections.specs.Check.{IsVerdict}
use Rattle.cmd_common_texts.specs.Info.{Checked, InfoCause, IsSectionWrite, PrintCause, SectionReadTold, Reports}
use Rattle.cmd_common_texts.specs.Info.{SectionWriteTold, info_text}

-- ---- a read that failed

-- more reads had failed before
pub read_refuses : (f : SectionFault) (a b c : ℕ) (P : Type 0) → a ≤ b → ReadCause f b c P → (P → ⊥) → PrintCause f a c
read_refuses (faults.Read d) a b c P rises cause same = omega (arith, rises, cause)
read_refuses (faults.Write d) a b c P rises cause same = absurd (omega (arith, cause))
read_refuses faults.SourceChanged a b c P rises cause same = same cause
read_refuses f a b c P rises cause same = absurd cause

-- ---- an image that does not open

pub opening_caused : (f : SectionFault) (x : List ℕ) (a b : ℕ) (P N : Type 0) → OpenCause f a b P → (P → ⊥)
    → RefusedAs x f → N → InfoCause f x a b N
opening_caused (faults.Read d) x a b P N cause same refused nothing = cause
opening_caused (faults.Header e) x a b P N cause same refused nothing = (refused, nothing)
opening_caused (faults.Entry i) x a b P N cause same refused nothing = (refused, nothing)
opening_caused (faults.SectionTruncated s) x a b P N cause same refused nothing = (refused, nothing)
opening_caused f x a b P N cause same refused nothing = absurd refused

pub opening_writes : (f : SectionFault) (a b w : ℕ) (P : Type 0) → OpenCause f a b P → SectionWriteTold f w w
opening_writes (faults.Write d) a b w P cause = absurd cause
opening_writes f a b w P cause = refl

pub begins_none : (a x : List ℕ) → AppendsFront a a x
begins_none a x =
    let none : length a - length a ≡ 0 = omega arith in
    sym (ap (λ (n : ℕ). a ++ take n x) none ∙ append-nil a)

-- ---- an image whose lines were not all printed

print_info : (f : SectionFault) (x : List ℕ) (a o b : ℕ) (N : Type 0) → o ≡ a → PrintCause f o b → InfoCause f x a b N
print_info (faults.Read d) x a o b N same cause = omega (arith, same, cause)
print_info (faults.Write d) x a o b N same cause = tt
print_info f x a o b N same cause = absurd cause

pub told_caused : {X : Type 0} (r : Result X SectionFault) (f : SectionFault) (x : List ℕ) (a o b : ℕ) (N : Type 0)
    → r ≡ Err f → o ≡ a → IfErr r (λ e. PrintCause e o b) → InfoCause f x a b N
told_caused r f x a o b N is same cause = print_info f x a o b N same (rw is at cause)

read_info : (f : SectionFault) (a o b : ℕ) → o ≡ a → SectionReadTold {X = ℕ} (Err f) o b
    → SectionReadTold {X = ℕ} (Err f) a b
read_info (faults.Read d) a o b same told = omega (arith, same, told)
read_info f a o b same told = omega (arith, same, told)

pub told_reads : {X : Type 0} (r : Result X SectionFault) (f : SectionFault) (a o b : ℕ) → r ≡ Err f → o ≡ a
    → SectionReadTold r o b → SectionReadTold {X = ℕ} (Err f) a b
told_reads r f a o b is same told = read_info f a o b same (rw is at told)

write_told : (f : SectionFault) (w v : ℕ) → (IsSectionWrite f → ⊥) → v ≡ w → SectionWriteTold f w v
write_told (faults.Write d) w v not same = absurd (not tt)
write_told f w v not same = same

module _ {O : Type 0} (written : O → List ℕ) (faults : O → ℕ) where
  pub told_writes : {X : Type 0} (r : Result X SectionFault) (f : SectionFault) (s t u : Text O) (a : List ℕ)
      (old new : ℕ) → r ≡ Err f → IfErr r (λ e. IsSectionWrite e → IsSome t.fault)
      → Prints written faults s t a → Prints written faults t u [] → IsNone u.fault
      → faults s.output.now ≡ old → faults u.output.now ≡ new → SectionWriteTold f old new
  told_writes r f s t u a old new is told p q none from to =
      let whole = whole_before written faults t u [] q none in
      let here : IsSectionWrite f → IsSome t.fault = rw is at told in
      write_told f old new (λ w. true≢false (sym (here w) ∙ whole)) (sym to ∙ q.clean none ∙ p.clean whole ∙ from)

  -- what of the text does not reach its output
  pub writes_fail : (s t u : Text O) (a : List ℕ) (old new : ℕ) → IsNone s.fault → Prints written faults s t a
      → Prints written faults t u [] → IsSome u.fault
      → faults s.output.now ≡ old → faults u.output.now ≡ new → old < new
  writes_fail s t u a old new none p q some from to =
      omega (arith, (both_printed written faults s t u a [] p q).cause none some, from, to)

  pub writes_clean : (s t u : Text O) (a : List ℕ) (old new : ℕ) → Prints written faults s t a
      → Prints written faults t u [] → IsNone u.fault
      → faults s.output.now ≡ old → faults u.output.now ≡ new → new ≡ old
  writes_clean s t u a old new p q none from to =
      sym to ∙ (both_printed written faults s t u a [] p q).clean none ∙ from

  -- whatever was printed, what was written before stays in front
  pub writes_more : (s t u : Text O) (a : List ℕ) (old new : List ℕ) → Prints written faults s t a
      → Prints written faults t u [] → written s.output.now ≡ old → written u.output.now ≡ new
      → (more : List ℕ) × (new ≡ old ++ more)
  writes_more s t u a old new p q from to =
      let grown = (both_printed written faults s t u a [] p q).grown in
      (grown.0, sym to ∙ grown.1 ∙ ap (λ x. x ++ grown.0) from)

  -- all of it does
  pub reports_all : (o : Notation) (x y : List ℕ) (h : Header) (s t u : Text O) (old new : List ℕ) → y ≡ x
      → HasImage x h
      → Checked o y h (Prints written faults s t) → Prints written faults t u [] → IsNone u.fault
      → text_in u.held.bytes u.held.used ≡ [] → text_in s.held.bytes s.held.used ≡ []
      → written s.output.now ≡ old → written u.output.now ≡ new → Reports o x old new
  reports_all o x y h s t u old new same image k q none sent held from to =
      let v = k.verdict in
      let text = append-nil (info_text o y h v) ∙ ap (λ z. info_text o z h v) same in
      let all = printed_as written faults s u (info_text o y h v ++ []) (info_text o x h v) text
      (both_printed written faults s t u (info_text o y h v) [] k.holds q) in
      let r : Result ℕ ℕ = Ok 0 in
      record {
        header = h;
        image = image;
        printed = record {
          verdict = v;
          checked = subst (λ z. IsVerdict z h v) same k.checked;
          holds = text_whole written faults r s u old new (info_text o x h v) all none sent held from to;
        };
      }
