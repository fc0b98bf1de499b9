use Rattle.std.proofs.Common.{◌*◌, ℕ, arith, ap}
use Rattle.std.proofs.lemmas.List.Sums.{sum_by_more}
use Rattle.abt_headers.specs.Page.{pages}
use Rattle.abt_sections.proofs.sizes.image_bytes.Goals as goal

pub loop-i-preserved : goal.loop-i-preserved
loop-i-preserved c =
    let page = c.args.page in
    let p : ℕ → ℕ = λ n. pages n page * page in
    record {
      value = omega (
        arith,
        sum_by_more p c.args.sizes.now c.loop-i.i 0 (omega arith),
        c.loop-i.invariant.value,
        ap (λ (q : ℕ). q * page) c.pages-in-loop-i.ensures.value,
      );
      low = omega (arith, c.loop-i.invariant.low, c.pages-in-loop-i.ensures.least);
    }
