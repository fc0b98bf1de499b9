-- What an output was given, write after write.
use Rattle.std.proofs.Common.{◌≡◌, ℕ, ◌+◌, ◌-◌, ◌≤◌, List, ◌++◌, length, take, refl, sym, ap, ◌∙◌, append_assoc, arith}
use Rattle.std.proofs.Common.{length-append, length-take, drop, take-append-drop}
use Rattle.std.proofs.lemmas.List.{take-append-le, take_all, take_at, drop_at}
use Rattle.std.proofs.Math.Seq.{take-append-add}
use Rattle.abt_io.proofs.Parts.{take_plus}
use Rattle.abt_sections.specs.Grown.{AppendsFront, Grows}

-- more could have come
pub begins_stop : (a b x y : List ℕ) → AppendsFront a b x → AppendsFront a b (x ++ y)
begins_stop a b x y e =
    let k = length b - length a in
    let short : k ≤ length x = omega (arith, ap length e, length-append a (take k x), length-take k x) in
    e ∙ ap (λ (l : List ℕ). a ++ l) (sym (take-append-le k x y short))

-- all of x, and then a beginning of y
pub begins_then : (a b c x y : List ℕ) → b ≡ a ++ x → AppendsFront b c y → length b ≤ length c
    → AppendsFront a c (x ++ y)
begins_then a b c x y all e le =
    let j = length c - length b in
    let k : length c - length a ≡ length x + j = omega (arith, ap length all, length-append a x) in
    e ∙ ap (λ (l : List ℕ). l ++ take j y) all
    ∙ append_assoc a x (take j y)
    ∙ ap (λ (l : List ℕ). a ++ l) (sym (take-append-add x y j))
    ∙ ap (λ (n : ℕ). a ++ take n (x ++ y)) (sym k)

pub begins_is : (a b x y : List ℕ) → x ≡ y → AppendsFront a b x → AppendsFront a b y
begins_is a b x y same e = e ∙ ap (λ (l : List ℕ). a ++ take (length b - length a) l) same

pub then_all : (a b c x y : List ℕ) → b ≡ a ++ x → c ≡ b ++ y → c ≡ a ++ (x ++ y)
then_all a b c x y e h = h ∙ ap (λ (l : List ℕ). l ++ y) e ∙ append_assoc a x y

-- what was written in the middle still is there
pub still_stands : (a t z now : List ℕ) (n : ℕ) → length t ≡ n → take (length (a ++ (t ++ z))) now ≡ a ++ (t ++ z)
    → take n (drop (length a) now) ≡ t
still_stands a t z now n e same =
    let front = a ++ (t ++ z) in
    let rest = drop (length front) now in
    let whole : now ≡ a ++ (t ++ (z ++ rest)) = sym (take-append-drop (length front) now)
    ∙ ap (λ (l : List ℕ). l ++ rest) same ∙ append_assoc a (t ++ z) rest
    ∙ ap (λ (l : List ℕ). a ++ l) (append_assoc t z rest) in
    ap (λ (l : List ℕ). take n (drop (length a) l)) whole
    ∙ ap (take n) (drop_at a (t ++ (z ++ rest)) (length a) refl)
    ∙ take_at t (z ++ rest) n e

-- more, and then more
pub grows_on : (a b c : List ℕ) → Grows a b → Grows b c → length a ≤ length b → Grows a c
grows_on a b c first then le =
    ap (take (length a)) (sym (take-append-drop (length b) c))
    ∙ ap (λ (l : List ℕ). take (length a) (l ++ drop (length b) c)) then
    ∙ take-append-le (length a) b (drop (length b) c) le
    ∙ first

-- all of x came
pub begins_all : (a b x : List ℕ) → b ≡ a ++ x → AppendsFront a b x
begins_all a b x e = e ∙ ap (λ (l : List ℕ). a ++ l)
    (sym (take_all (length b - length a) x (omega (arith, ap length e, length-append a x))))

pub grows_by : (a b x : List ℕ) → b ≡ a ++ x → Grows a b
grows_by a b x e = ap (take (length a)) e ∙ take_at a x (length a) refl

-- one part more of what a source has
pub written_next : (a b c s s' : List ℕ) (at n : ℕ) → s' ≡ s → b ≡ a ++ take at s → c ≡ b ++ take n (drop at s')
    → c ≡ a ++ take (at + n) s
written_next a b c s s' at n same first then =
    then_all a b c (take at s) (take n (drop at s')) first then
    ∙ ap (λ (l : List ℕ). a ++ (take at s ++ take n (drop at l))) same
    ∙ ap (λ (l : List ℕ). a ++ l) (take_plus at n s)
