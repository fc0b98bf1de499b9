-- Bytes that overwrite the beginning of others, one part after another.
use Rattle.std.proofs.Common.{◌≡◌, ℕ, ◌+◌, ◌-◌, ◌≤◌, List, ◌++◌, length, take, drop, sym, ◌∙◌, ap, arith}
use Rattle.std.proofs.Common.{replicate}
use Rattle.std.proofs.lemmas.List.{length-take-le}
use Rattle.abt_io.specs.Moment.{put_at}
use Rattle.abt_io.proofs.Moments.{put_then}
use Rattle.abt_io.proofs.Parts.{take_plus}
use Rattle.abt_sparse.specs.Block.{filled_to}

-- a part after the first one
put_behind : (p x y : List ℕ) (at : ℕ) → at ≡ length x → length x ≤ length p
    → put_at (put_at p 0 x) at y ≡ put_at p 0 (x ++ y)
put_behind p x y at long room =
    ap (λ (k : ℕ). put_at (put_at p 0 x) k y) (let z : at ≡ 0 + length x = omega (arith, long) in z)
    ∙ put_then p x y 0 (omega (arith, room))

-- this many bytes more of x
pub laid_more : (p q r x : List ℕ) (at n more : ℕ) → q ≡ put_at p 0 (take at x) → r ≡ put_at q at (take n (drop at x))
    → at ≤ length x → length x ≤ length p → more ≡ at + n → r ≡ put_at p 0 (take more x)
laid_more p q r x at n more before now within room is =
    let long : length (take at x) ≡ at = length-take-le at x within in
    now ∙ ap (λ (l : List ℕ). put_at l at (take n (drop at x))) before
    ∙ put_behind p (take at x) (take n (drop at x)) at (sym long) (omega (arith, long, within, room))
    ∙ ap (put_at p 0) (take_plus at n x ∙ ap (λ (k : ℕ). take k x) (sym is))

-- all of x, and zeros after it
pub laid_filled : (p q r x zeros : List ℕ) (held need : ℕ) → q ≡ put_at p 0 x → r ≡ put_at q held zeros
    → held ≡ length x
    → length x ≤ length p → zeros ≡ replicate (need - held) 0 → r ≡ put_at p 0 (filled_to need x)
laid_filled p q r x zeros held need before now long room are =
    now ∙ ap (λ (l : List ℕ). put_at l held zeros) before ∙ put_behind p x zeros held long room
    ∙ ap (λ (l : List ℕ). put_at p 0 (x ++ l)) (are ∙ ap (λ (k : ℕ). replicate (need - k) 0) long)
