-- Writes at the end of what a file holds, or from there on, and over what is held behind it.
use Rattle.std.proofs.Common.{◌≡◌, ℕ, ◌+◌, ◌-◌, ◌≤◌, List, ◌++◌, length, take, drop, sym, ◌∙◌, ap, arith, append_assoc}
use Rattle.std.proofs.Common.{append-nil, length-append, length-drop}
use Rattle.std.proofs.lemmas.List.{length-take-le, take_all, take_at, drop-drop}
use Rattle.std.proofs.Math.Seq.{drop-append-add, take-append-add}
use Rattle.std.proofs.Math.ListN.{drop_of_length-le}
use Rattle.abt_io.proofs.Parts.{take_plus}
use Rattle.abt_io.specs.Moment.{put_at}

-- a write that goes on where the last one ended
pub put_then : (c x y : List ℕ) (at : ℕ) → at ≤ length c → put_at (put_at c at x) (at + length x) y
    ≡ put_at c at (x ++ y)
put_then c x y at le =
    let a = take at c ++ x in
    let r = drop (at + length x) c in
    let long : length a ≡ at + length x = omega (arith, length-append (take at c) x, length-take-le at c le) in
    let front : take (at + length x) (a ++ r) ≡ a = take_at a r (at + length x) long in
    let back : drop (at + length x + length y) (a ++ r) ≡ drop (at + length (x ++ y)) c =
    ap (λ (k : ℕ). drop (k + length y) (a ++ r)) (sym long) ∙ drop-append-add a r (length y)
    ∙ drop-drop (length y) (at + length x) c
    ∙ ap (λ (k : ℕ). drop k c) (omega (arith, length-append x y)) in
    ap (λ (l : List ℕ). l ++ y ++ drop (at + length x + length y) (a ++ r)) front
    ∙ ap (λ (l : List ℕ). a ++ y ++ l) back
    ∙ ap (λ (l : List ℕ). l ++ drop (at + length (x ++ y)) c) (append_assoc (take at c) x y)

-- one write more of `bytes`, from `&bytes[d..]`
pub put_on : (c now new bytes : List ℕ) (at d n : ℕ) → d ≤ length bytes → at ≤ length c
    → now ≡ put_at c at (take d bytes) → new ≡ put_at now (at + d) (take n (take (length bytes - d) (drop d bytes)))
    → new ≡ put_at c at (take (d + n) bytes)
put_on c now new bytes at d n le there before e =
    let long = length-take-le d bytes le in
    let rest = take n (drop d bytes) in
    let whole : take (length bytes - d) (drop d bytes) ≡ drop d bytes =
    take_all (length bytes - d) (drop d bytes) (omega (arith, length-drop d bytes)) in
    e ∙ ap (λ (l : List ℕ). put_at now (at + d) (take n l)) whole
    ∙ ap (λ (l : List ℕ). put_at l (at + d) rest) before
    ∙ ap (λ (k : ℕ). put_at (put_at c at (take d bytes)) (at + k) rest) (sym long)
    ∙ put_then c (take d bytes) rest at there
    ∙ ap (put_at c at) (take_plus d n bytes)

-- a header that is laid over what is held
pub laid_held : (c held x : List ℕ) (sent from : ℕ) → sent ≤ length c → from + length x ≤ length held
    → take sent c ++ put_at held from x ≡ put_at (take sent c ++ held) (sent + from) x
laid_held c held x sent from there fits =
    let f = take sent c in
    let t : length f ≡ sent = length-take-le sent c there in
    let front : take (sent + from) (f ++ held) ≡ f ++ take from held =
    ap (λ (k : ℕ). take (k + from) (f ++ held)) (sym t) ∙ take-append-add f held from in
    let back : drop (sent + from + length x) (f ++ held) ≡ drop (from + length x) held =
    ap (λ (k : ℕ). drop k (f ++ held)) (let e : sent + from + length x
    ≡ length f + (from + length x) = omega (arith, t) in e)
    ∙ drop-append-add f held (from + length x) in
    sym (ap (λ (l : List ℕ). l ++ x ++ drop (sent + from + length x) (f ++ held)) front
    ∙ ap (λ (l : List ℕ). (f ++ take from held) ++ x ++ l) back
    ∙ ap (λ (l : List ℕ). l ++ drop (from + length x) held) (append_assoc f (take from held) x)
    ∙ append_assoc f (take from held ++ x) (drop (from + length x) held))

-- what a list has once as many items were written back to it
pub written_back : (old new : List ℕ) (n : ℕ) → length new ≡ n → length old ≡ n
    → take n (new ++ drop (length new) old) ≡ new
written_back old new n e f =
    ap (λ (l : List ℕ). take n (new ++ l)) (drop_of_length-le old {i = length new} (omega (arith, e, f)))
    ∙ ap (take n) (append-nil new) ∙ take_all n new (omega (arith, e))
