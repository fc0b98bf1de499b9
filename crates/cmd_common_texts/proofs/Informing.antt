-- The text of `info`, behind what was printed.
use Rattle.std.proofs.Common.{◌≡◌, ◌↔◌, ◌+◌, ◌-◌, ◌≤◌, ℕ, zero, suc, Bool, true, false, Result, Ok, Err, IsTrue, List}
use Rattle.std.proofs.Common.{[], ◌++◌, flat_map, refl, sym, ap, subst, ◌∙◌, arith, append_assoc, append-nil}
use Rattle.abt_sections.specs.declared.checking.Verdict.{Verdict}
use Rattle.abt_headers.specs.declared.fault.HeaderFault.{HeaderFault}
use Rattle.abt_sections.specs.declared.fault.SectionFault.{SectionFault}
use Rattle.abt_sections.specs.declared.fault.SectionFault.TheVariants as faults
use Rattle.abt_sections.specs.Cause.{OpenCause, ReadCause}
use Rattle.abt_sections.specs.Grown.{AppendsFront}
use Rattle.abt_sections.specs.Open.{HasImage}
use Rattle.abt_sections.specs.Header.{Header, entry_of, places_of, fragment_count}
use Rattle.sys_text.specs.declared.text_output.Text.{Text}
use Rattle.cmd_common_texts.specs.declared.info_lines.Notation.{Notation}
use Rattle.abt_sections.specs.Check.{IsVerdict}
use Rattle.cmd_common_texts.specs.Info.{SectionReadTold, check_text, fragment_lines, fragment_text, header_lines}
use Rattle.cmd_common_texts.specs.Info.{info_text, image_kind_text, line, section_line}
use Rattle.sys_text.specs.Shown.{text_in}
use Rattle.sys_text.specs.Printed.{Prints, PrintsFront}
use Rattle.sys_text.proofs.Printing.{◌▸◌, front_begins, front_behind, front_before, front_whole}

module _ {O : Type 0} {written : O → List ℕ} {faults : O → ℕ} {s k p : Text O} (o : Notation) (x : List ℕ)
    (h : Header) (v : Verdict)
    (kind : Prints written faults s k (line (image_kind_text o h)))
    (sections : Prints written faults k p (flat_map (section_line o) (places_of h))) where
  pub all_printed : {f t u : Text O} → Prints written faults p f (fragment_lines o x h (fragment_count h))
      → Prints written faults f t (header_lines o h)
      → Prints written faults t u (line (check_text v)) → Prints written faults s u (info_text o x h v)
  unfolding info_text
  all_printed fragments header last = kind ▸ sections ▸ fragments ▸ header ▸ last

  pub as_far_as_fragments : {f : Text O} → PrintsFront written faults p f (fragment_lines o x h (fragment_count h))
      → PrintsFront written faults s f (info_text o x h v)
  unfolding info_text
  as_far_as_fragments fragments =
      front_behind _ _ _ _ _ _ _ kind (front_behind _ _ _ _ _ _ _ sections (front_before _ _ _ _ _ _ fragments))

  pub as_far_as_fields : {f t : Text O} → Prints written faults p f (fragment_lines o x h (fragment_count h))
      → Prints written faults f t (header_lines o h)
      → PrintsFront written faults s t (info_text o x h v)
  unfolding info_text
  as_far_as_fields fragments header =
      front_behind _ _ _ _ _ _ _ kind
      (front_behind _ _ _ _ _ _ _ sections (front_behind _ _ _ _ _ _ _ fragments (front_whole _ _ _ _ _ _ header)))

-- ---- a verdict is the only one

same_answer : (a b : Bool) {P : Type 0} → (IsTrue a ↔ P) → (IsTrue b ↔ P) → a ≡ b
same_answer true true p q = refl
same_answer false false p q = refl
same_answer true false p q = sym (q.1 (p.0 refl))
same_answer false true p q = p.1 (q.0 refl)

pub same_verdict : (x : List ℕ) (h : Header) (v w : Verdict) → IsVerdict x h v → IsVerdict x h w → v ≡ w
same_verdict x h v w p q =
    let canonical = same_answer v.canonical w.canonical p.canonical q.canonical in
    let padding = p.padding ∙ sym q.padding in
    let id = same_answer v.id w.id p.id q.id in
    let offset = p.offset ∙ sym q.offset in
    ap (λ b. record v { canonical = b }) canonical
    ∙ ap (λ b. record w { padding = b; id = v.id; offset = v.offset }) padding
    ∙ ap (λ b. record w { id = b; offset = v.offset }) id ∙ ap (λ b. record w { offset = b }) offset

-- ---- the fragments as far as one of them

pub more_fragments : (o : Notation) (x : List ℕ) (h : Header) (i k : ℕ) → (rest : List ℕ)
    × (fragment_lines o x h (i + k) ≡ fragment_lines o x h i ++ rest)
more_fragments o x h i zero =
    let same : i + 0 ≡ i = omega arith in
    ([], ap (fragment_lines o x h) same ∙ sym (append-nil (fragment_lines o x h i)))
more_fragments o x h i (suc k) =
    let next : i + suc k ≡ suc (i + k) = omega arith in
    let before = more_fragments o x h i k in
    let this = line (fragment_text o (i + k) (entry_of x h (i + k))) in (
      before.0 ++ this,
      ap (fragment_lines o x h) next ∙ ap (λ (l : List ℕ). l ++ this) before.1
          ∙ append_assoc (fragment_lines o x h i) before.0 this,
    )

pub front_of_fragments : {O : Type 0} {written : O → List ℕ} {faults : O → ℕ} {s t : Text O} (o : Notation)
    (x : List ℕ) (h : Header) (i n : ℕ) → i ≤ n
    → Prints written faults s t (fragment_lines o x h i) → PrintsFront written faults s t (fragment_lines o x h n)
front_of_fragments o x h i n within p =
    let rest = more_fragments o x h i (n - i) in
    let all : i + (n - i) ≡ n = omega arith in
    record {
      done = fragment_lines o x h i;
      rest = rest.0;
      whole = ap (fragment_lines o x h) (sym all) ∙ rest.1;
      prints = p;
    }

-- ---- what an output holds

header_or : Header → Result Header HeaderFault → Header
header_or h (Ok k) = k
header_or h (Err e) = h

same_header : (x : List ℕ) (h k : Header) → HasImage x h → HasImage x k → h ≡ k
unfolding header_or
same_header x h k p q = ap (header_or h) (sym p.header ∙ q.header)

pub info_begins : {O : Type 0} (o : Notation) (written : O → List ℕ) (faults : O
    → ℕ) (s t u : Text O) (old new x y : List ℕ) (h k : Header) (v : Verdict)
    → y ≡ x → HasImage x h → HasImage x k → IsVerdict x h v
    → ((w : Verdict) → IsVerdict y k w → PrintsFront written faults s t (info_text o y k w))
    → Prints written faults t u []
    → text_in s.held.bytes s.held.used ≡ [] → written s.output.now ≡ old → written u.output.now ≡ new
    → AppendsFront old new (info_text o x h v)
info_begins o written faults s t u old new x y h k v same image opened verdict begun rest held from to =
    let header = same_header x h k image opened in
    let right : IsVerdict y k v =
    subst (λ z. IsVerdict z k v) (sym same) (subst (λ j. IsVerdict x j v) header verdict) in
    let text : info_text o y k v ≡ info_text o x h v = ap (λ z. info_text o z k v) same
    ∙ ap (λ j. info_text o x j v) (sym header) in
    front_begins written faults s t u old new (info_text o x h v) (subst (PrintsFront written faults s t) text
    (begun v right)) rest held from to

-- ---- who failed

pub opening_told : (f : SectionFault) (a b : ℕ) (P : Type 0) → OpenCause f a b P → a ≤ b
    → SectionReadTold {X = ℕ} (Err f) a b
opening_told (faults.Read d) a b P cause rises = cause
opening_told f a b P cause rises = rises

pub reading_told : (f : SectionFault) (a b c : ℕ) (P : Type 0) → b ≡ a → ReadCause f b c P → b ≤ c
    → SectionReadTold {X = ℕ} (Err f) a c
reading_told (faults.Read d) a b c P e cause rises = omega (arith, e, cause)
reading_told f a b c P e cause rises = omega (arith, e, rises)

pub reads_rise : {X : Type 0} (r : Result X SectionFault) (a b : ℕ) → SectionReadTold r a b → a ≤ b
reads_rise (Ok x) a b told = omega (arith, told)
reads_rise (Err (faults.Read d)) a b told = omega (arith, told)
reads_rise (Err f) a b told = told
