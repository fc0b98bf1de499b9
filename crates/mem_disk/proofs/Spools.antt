-- A spool over memory that is written over.
use Rattle.std.proofs.Common.{◌≡◌, ℕ, ◌+◌, ◌-◌, ◌≤◌, List, length, drop, sym, ◌∙◌, ap, arith, length-drop}
use Rattle.std.proofs.lemmas.List.{take_all}
use Rattle.abt_io.specs.Moment.{put_at}
use Rattle.abt_io.proofs.Overs.{since_put, length_put}

fits_over : (now all x : List ℕ) (cut at : ℕ) → now ≡ drop cut all → cut ≤ at → at + length x ≤ length all
    → at - cut + length x ≤ length now
fits_over now all x cut at e le fits = omega (arith, le, fits, ap length e, length-drop cut all)

pub long_over : (now new all x : List ℕ) (cut at : ℕ) → now ≡ drop cut all → new ≡ put_at now (at - cut) x → cut ≤ at
    → at + length x ≤ length all → length new ≡ length now
long_over now new all x cut at e d le fits =
    ap length d ∙ length_put now (at - cut) x (fits_over now all x cut at e le fits)

-- it still holds what was written since the last clear
pub since_over : (now new all x : List ℕ) (cut at : ℕ) → now ≡ drop cut all → new ≡ put_at now (at - cut) x → cut ≤ at
    → at + length x ≤ length all → new ≡ drop cut (put_at all at x)
since_over now new all x cut at e d le fits =
    let n : length new ≡ length now = long_over now new all x cut at e d le fits in
    sym (take_all (length now) new (omega (arith, n)))
    ∙ since_put now new all x (length now) cut at (take_all (length now) now (omega arith) ∙ e) d le fits
