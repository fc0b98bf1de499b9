-- What stands at the front of a file, and what is written behind it or over it.
use Rattle.std.proofs.Common.{◌≡◌, ℕ, zero, suc, ◌+◌, ◌-◌, ◌≤◌, List, [], ◌∷◌, ◌++◌, length, take, drop}
use Rattle.std.proofs.Common.{max, refl, sym, ◌∙◌, ap, arith, append_assoc, length-append, length-drop}
use Rattle.std.proofs.lemmas.List.{length-take-le, take_all, take_at, take-take}
use Rattle.std.proofs.Math.ListN.{length-take}
use Rattle.abt_io.proofs.Overs.{slice_put, length_put}
use Rattle.abt_io.specs.Moment.{put_at}
use Rattle.sys_file.specs.File.{Begins, ChangesFrom}

-- what stands at the front is no longer than all
pub front_within : (s c : List ℕ) → Begins s c → length s ≤ length c
front_within s c h = omega (arith, ap length h, length-take (length s) c)

pub begins_self : (s : List ℕ) → Begins s s
begins_self s = take_all (length s) s (omega arith)

pub begins_then : (a b c : List ℕ) → Begins a b → Begins b c → Begins a c
begins_then a b c h k =
    let le : length a ≤ length b = front_within a b h in
    sym (take-take (length a) (length b) c le) ∙ ap (take (length a)) k ∙ h

-- a front of a front
pub begins_take : (n : ℕ) (c : List ℕ) → Begins (take n c) c
begins_take zero c = refl
begins_take (suc n) [] = refl
begins_take (suc n) (x ∷ c) = ap (λ (l : List ℕ). x ∷ l) (begins_take n c)

-- what stands at the front stays where the file changes behind it
pub front_stays : (s c c' : List ℕ) (at : ℕ) → Begins s c → length s ≤ at → Begins (take at c) c' → Begins s c'
front_stays s c c' at h le k =
    begins_then s (take at c) c' (take-take (length s) at c le ∙ h) k

pub front_over : (s c c' x : List ℕ) (at : ℕ) → Begins s c → c' ≡ put_at c at x → at + length x ≤ length s
    → Begins (put_at s at x) c'
front_over s c c' x at h e fits =
    let n = length s in
    let long : length (put_at s at x) ≡ n = length_put s at x fits in
    ap (λ (k : ℕ). take k c') long
    ∙ slice_put c x c' at n e (omega (arith, fits, ap length h))
    ∙ ap (λ (l : List ℕ). put_at l at (take (length x) x)) h
    ∙ ap (put_at s at) (take_all (length x) x (omega arith))

-- how long a file is that was written
pub long_put : (c x : List ℕ) (at : ℕ) → at ≤ length c → length (put_at c at x) ≡ max (length c) (at + length x)
long_put c x at le =
    let a = length-append (take at c ++ x) (drop (at + length x) c) in
    let b = length-append (take at c) x in
    let t = length-take-le at c le in
    let d = length-drop (at + length x) c in
    omega (arith, a, b, t, d)

-- a write changes nothing before its place
pub put_changes : (c c' x : List ℕ) (at : ℕ) → at ≤ length c → c' ≡ put_at c at x
    → ChangesFrom c c' at (at + length x)
put_changes c c' x at le e = record {
  before = ap (take (length (take at c))) (e ∙ append_assoc (take at c) x (drop (at + length x) c))
      ∙ take_at (take at c) (x ++ drop (at + length x) c) (length (take at c)) refl;
  long = omega (arith, ap length e, long_put c x at le);
}

-- one change after the other
pub changes_then : (a b c : List ℕ) (p q e f m : ℕ) → ChangesFrom a b p e → ChangesFrom b c q f → p ≤ q → e ≤ m
    → f ≤ m → ChangesFrom a c p m
changes_then a b c p q e f m h k le first last = record {
  before = front_stays (take p a) b c q h.before (omega (arith, le, length-take p a)) k.before;
  long = omega (arith, h.long, k.long, first, last);
}
