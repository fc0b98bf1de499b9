use Rattle.std.proofs.Common.{◌≡◌, ◌<◌, ◌≤◌, ◌+◌, ℕ, List, Option, Some, None, length, drop, get_or, refl, sym, ap, ◌∙◌}
use Rattle.std.proofs.Common.{arith}
use Rattle.std.proofs.lemmas.List.{drop_all, drop_more}
use Rattle.abt_headers.specs.declared.sections.SectionPlace.{SectionPlace}
use Rattle.abt_io.proofs.Lent.{reads_ok, reads_then}
use Rattle.abt_sections.proofs.Refusals.{reads_on}
use Rattle.abt_sections.specs.Header.{Header, page_of, places_of, size_of, view_of}
use Rattle.abt_sections.specs.Layout.{padding}
use Rattle.cmd_common_findings.specs.Finding.{first_behind, first_set_in, or_first}
use Rattle.cmd_common_findings.proofs.reasons.first_unpadded.Goals as goal

-- what is found after the header
in_header : (x : List ℕ) (h : Header) (n page : ℕ) (found : Option ℕ) → n ≡ size_of h → page ≡ page_of h
    → found ≡ first_set_in x (0 + n) (padding n page)
    → found ≡ first_set_in x (size_of h) (padding (size_of h) (page_of h))
in_header x h n page found size_is page_is seen =
    let front : 0 + n ≡ n = omega arith in
    seen ∙ ap (λ (k : ℕ). first_set_in x k (padding n page)) front
    ∙ ap (λ (k : ℕ). first_set_in x k (padding k page)) size_is
    ∙ ap (λ (p : ℕ). first_set_in x (size_of h) (padding (size_of h) p)) page_is

-- what is found after section i
in_section : (x : List ℕ) (page i : ℕ) (ps : List SectionPlace) (p : SectionPlace) (found : Option ℕ) → i < length ps
    → p ≡ get_or ps i p → found ≡ first_set_in x (p.at + p.size) (padding p.size page)
    → first_behind x page (drop i ps) ≡ or_first found (first_behind x page (drop (i + 1) ps))
in_section x page i ps p found within is seen =
    let rest = first_behind x page (drop (i + 1) ps) in
    ap (first_behind x page) (drop_more ps i p within)
    ∙ ap (λ (q : SectionPlace). or_first (first_set_in x (q.at + q.size) (padding q.size page)) rest) (sym is)
    ∙ ap (λ (o : Option ℕ). or_first o rest) (sym seen)

pub loop-i-init : goal.loop-i-init
loop-i-init g c =
    let x = g.S.Source.content c.args.source.now in
    let h = view_of c.args.image.now.header in
    let e = rw c.in-Ok-None.field-0-is at c.in-Ok-None.ensures.finds in
    record {
      reads = reads_ok tt e.reads.only;
      value = λ models.
          let none = in_header x h c.size.result c.page_size-page.result None c.size.ensures.value
          c.page_size-page.ensures.value (e.value models) in
          ap (λ (o : Option ℕ). or_first o (first_behind x (page_of h) (places_of h))) (sym none);
    }

pub loop-i-preserved : goal.loop-i-preserved
loop-i-preserved g c =
    let x = g.S.Source.content c.args.source.now in
    let h = view_of c.args.image.now.header in
    let before = c.loop-i.invariant in
    let e = rw c.in-Ok-None-first_behind.field-0-is at c.in-Ok-None-first_behind.ensures.finds in
    let place = c.section-place in
    let within : c.loop-i.i < length (places_of h) = omega (arith, c.loop-i-test.true, c.sections-i-end.ensures.value)
    in
    record {
      reads = reads_ok tt (reads_then before.reads e.reads.only);
      value = λ models.
          before.value models
          ∙ in_section x (page_of h) c.loop-i.i (places_of h) place.result None within place.ensures.value
          (rw (before.reads.content models, c.page_size-page.ensures.value) at (e.value models));
    }

pub returns-in-Ok-Some : goal.returns-in-Ok-Some
returns-in-Ok-Some g c =
    let x = g.S.Source.content c.args.source.now in
    let h = view_of c.args.image.now.header in
    let e = rw c.in-Ok-Some.field-0-is at c.in-Ok-Some.ensures.finds in
    record {
      finds = record {
        reads = e.reads;
        value = λ models.
            let some = in_header x h c.size.result c.page_size-page.result (Some c.in-Ok-Some.place)
            c.size.ensures.value c.page_size-page.ensures.value (e.value models) in
            ap (λ (o : Option ℕ). or_first o (first_behind x (page_of h) (places_of h))) some;
      };
    }

pub returns-in-Err : goal.returns-in-Err
returns-in-Err g c = record { finds = record { reads = c.in-Err.ensures.finds.reads; value = λ models. tt } }

pub returns-in-Ok-Some-first_behind : goal.returns-in-Ok-Some-first_behind
returns-in-Ok-Some-first_behind g c =
    let x = g.S.Source.content c.args.source.now in
    let h = view_of c.args.image.now.header in
    let before = c.loop-i.invariant in
    let e = rw c.in-Ok-Some-first_behind.field-0-is at c.in-Ok-Some-first_behind.ensures.finds in
    let place = c.section-place in
    let within : c.loop-i.i < length (places_of h) = omega (arith, c.loop-i-test.true, c.sections-i-end.ensures.value)
    in
    record {
      finds = record {
        reads = record { only = reads_then before.reads e.reads.only; cause = tt; failed = refl };
        value = λ models.
            sym (before.value models
            ∙ in_section x (page_of h) c.loop-i.i (places_of h) place.result (Some c.in-Ok-Some-first_behind.place)
            within place.ensures.value
            (rw (before.reads.content models, c.page_size-page.ensures.value) at (e.value models)));
      };
    }

pub returns-in-Err-first_behind : goal.returns-in-Err-first_behind
returns-in-Err-first_behind g c = record {
  finds = record {
    reads = reads_on c.loop-i.invariant.reads c.in-Err-first_behind.ensures.finds.reads (λ z. z);
    value = λ models. tt;
  };
}

pub returns : goal.returns
returns g c =
    let x = g.S.Source.content c.args.source.now in
    let h = view_of c.args.image.now.header in
    let before = c.loop-i.invariant in
    let end : length (places_of h) ≤ c.loop-i.i = omega (arith, c.loop-i-test.false, c.sections-i-end.ensures.value) in
    record {
      finds = record {
        reads = record { only = reads_ok None before.reads; cause = tt; failed = refl };
        value = λ models.
            sym (before.value models ∙ ap (first_behind x (page_of h)) (drop_all c.loop-i.i (places_of h) end));
      };
    }
