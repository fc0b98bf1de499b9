use Rattle.std.proofs.Common.{◌≡◌, ◌<◌, ◌≤◌, ◌+◌, ℕ, length, drop, refl, sym, ap, ◌∙◌, arith}
use Rattle.std.proofs.lemmas.List.{drop_all}
use Rattle.abt_io.proofs.Lent.{reads_ok, reads_then}
use Rattle.abt_sections.specs.Header.{page_of, places_of, size_of, view_of}
use Rattle.abt_sections.proofs.Refusals.{reads_on}
use Rattle.cmd_common_findings.specs.LeftOut.{behind_places, set_in_padding}
use Rattle.cmd_common_findings.proofs.Paddings.{padding_on}
use Rattle.cmd_common_findings.proofs.left_out.padding_left.Goals as goal

pub loop-i-preserved : goal.loop-i-preserved
loop-i-preserved g c =
    let h = view_of c.args.image.now.header in
    let before = c.loop-i.invariant in
    let seen = c.in-Ok-set_behind.ensures in
    let place = c.section-place in
    let within : c.loop-i.i < length (places_of h) = omega (arith, c.loop-i-test.true, c.sections-i-end.ensures.value)
    in
    record {
      reads = reads_ok tt (reads_then before.reads seen.finds.reads.only);
      few = omega (arith, before.few, seen.few, c.page_size-page.ensures.high);
      value = λ models.
          padding_on (g.S.Source.content c.args.source.now) (page_of h) c.loop-i.i (places_of h) place.result
          c.loop-i.count c.in-Ok-set_behind.more _ within place.ensures.value
          (rw (before.reads.content models, c.page_size-page.ensures.value) at (seen.finds.value models))
          (before.value models);
    }

pub loop-i-init : goal.loop-i-init
loop-i-init g c =
    let x = g.S.Source.content c.args.source.now in
    let h = view_of c.args.image.now.header in
    let e = c.in-Ok.ensures in
    record {
      reads = reads_ok tt e.finds.reads.only;
      few = omega (arith, e.few, c.page_size-page.ensures.high);
      value = λ models.
          let seen : c.in-Ok.count ≡ set_in_padding x (page_of h) (size_of h)
          = rw (← c.page_size-page.ensures.value, ← c.size.ensures.value) (e.finds.value models) in
          ap (λ (k : ℕ). k + behind_places x (page_of h) (places_of h)) seen;
    }

pub returns-in-Err : goal.returns-in-Err
returns-in-Err g c = record { reads = c.in-Err.ensures.finds.reads; value = λ models. tt }

pub returns-in-Err-set_behind : goal.returns-in-Err-set_behind
returns-in-Err-set_behind g c = record {
  reads = reads_on c.loop-i.invariant.reads c.in-Err-set_behind.ensures.finds.reads (λ z. z);
  value = λ models. tt;
}

pub returns : goal.returns
returns g c =
    let x = g.S.Source.content c.args.source.now in
    let h = view_of c.args.image.now.header in
    let before = c.loop-i.invariant in
    let n = c.loop-i.count in
    let end : length (places_of h) ≤ c.loop-i.i = omega (arith, c.loop-i-test.false, c.sections-i-end.ensures.value) in
    let rest : behind_places x (page_of h) (drop c.loop-i.i (places_of h)) ≡ 0
    = ap (behind_places x (page_of h)) (drop_all c.loop-i.i (places_of h) end) in
    let all : n ≡ n + 0 = omega arith in
    record {
      reads = record { only = reads_ok n before.reads; cause = tt; failed = refl };
      value = λ models. all ∙ ap (λ (k : ℕ). n + k) (sym rest) ∙ before.value models;
    }
