-- A call that moves a part of what it was asked for.
use Rattle.std.proofs.Common.{◌≡◌, ℕ, ◌+◌, ◌-◌, ◌≤◌, List, length, take, drop, Result, Ok, Err, true, refl, sym, ap}
use Rattle.std.proofs.Common.{◌∙◌, ◌++◌, arith, length-append}
use Rattle.std.proofs.lemmas.List.{drop-drop, drop_at, length-take-le}
use Rattle.std.proofs.Math.ListN.{length-take}
use Rattle.abt_io.specs.Moment.{put_at}
use Rattle.sys_file.proofs.Fronts.{long_put, put_changes}
use Rattle.sys_file.specs.File.{MarredIn, WritesAt}

front : (x b : List ℕ) (at : ℕ) → at ≤ length x → length (take at x ++ b) ≡ at + length b
front x b at le = omega (arith, length-append (take at x) b, length-take-le at x le)

pub part_within : (n : ℕ) (l : List ℕ) → length (take n l) ≤ length l
part_within n l = omega (arith, length-take n l)

drop_more : (x y : List ℕ) (k n : ℕ) → k ≤ n → drop k x ≡ drop k y → drop n x ≡ drop n y
drop_more x y k n le e =
    let sum : k + (n - k) ≡ n = omega arith in
    ap (λ (j : ℕ). drop j x) (sym sum) ∙ sym (drop-drop (n - k) k x) ∙ ap (drop (n - k)) e ∙ drop-drop (n - k) k y
    ∙ ap (λ (j : ℕ). drop j y) sum

marred_more : (old new : List ℕ) (at k n : ℕ) → k ≤ n → MarredIn old new at k → MarredIn old new at n
marred_more old new at k n le m = record {
  before = m.before;
  behind = drop_more new old (at + k) (at + n) (omega arith) m.behind;
  least = m.least;
  long = omega (arith, m.long);
}

-- a write of a part that failed is one of the whole that failed
pub fails_more : {E : Type 0} (old new : List ℕ) (e : E) (at : ℕ) (part bytes : List ℕ) → length part ≤ length bytes
    → WritesAt true old new (Err e) at part → WritesAt true old new (Err e) at bytes
fails_more old new e at part bytes le w = record {
  within = omega arith;
  written = λ t. tt;
  marred = λ t. marred_more old new at (length part) (length bytes) le (w.marred t);
}

-- the same of one that has written a part and failed
pub tears : {E F : Type 0} (old new : List ℕ) (e : E) (r : Result ℕ F) (at : ℕ) (part bytes : List ℕ)
    → at ≤ length old → length part ≤ length bytes → WritesAt true old new r at part
    → WritesAt true old new (Err e) at bytes
tears old new e (Ok k) at part bytes stands le w =
    let x = take k part in
    let is : new ≡ put_at old at x = w.written refl in
    let short : length x ≤ length bytes = omega (arith, length-take k part) in
    record {
      within = omega arith;
      written = λ t. tt;
      marred = λ t. record {
        before = (put_changes old new x at stands is).before;
        behind = drop_more new old (at + length x) (at + length bytes) (omega arith)
            (ap (drop (at + length x)) is ∙ drop_at (take at old ++ x) _ (at + length x) (front old x at stands));
        least = omega (arith, ap length is, long_put old x at stands);
        long = omega (arith, ap length is, long_put old x at stands);
      };
    }
tears old new e (Err f) at part bytes stands le w = record {
  within = omega arith;
  written = λ t. tt;
  marred = λ t. marred_more old new at (length part) (length bytes) le (w.marred t);
}
