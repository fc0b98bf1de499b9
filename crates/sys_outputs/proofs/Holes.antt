-- What a file was given that may have holes, and what stands in it.
use Rattle.std.proofs.Common.{◌≡◌, ℕ, ◌+◌, ◌-◌, ◌<◌, List, [], ◌∷◌, ◌++◌, length, take, drop, replicate}
use Rattle.std.proofs.Common.{Result, Ok, Err, OnOk, is_err, false, refl, sym, ◌∙◌, ap, arith, true≢false}
use Rattle.std.specs.Int.Bits.{bit_or}
use Rattle.std.proofs.lemmas.Nat.{le_or_l, le_or_r}
use Rattle.std.proofs.lemmas.List.{take_all, take_at, take_more, replicate-append-replicate}
use Rattle.std.proofs.Math.ListN.{get_or}
use Rattle.abt_io.specs.Moment.{put_at}
use Rattle.sys_file.specs.File.{Begins}

-- all bits of two bytes are zero where those of both are
pub no_bits_left : (a b : ℕ) → bit_or a b ≡ 0 → a ≡ 0
no_bits_left a b e = let l = le_or_l a b in omega (arith, l, e)

pub no_bits_right : (a b : ℕ) → bit_or a b ≡ 0 → b ≡ 0
no_bits_right a b e = let r = le_or_r a b in omega (arith, r, e)

-- one zero more
pub zeros_more : (c : List ℕ) (i : ℕ) → i < length c → take i c ≡ replicate i 0 → get_or c i 0 ≡ 0
    → take (i + 1) c ≡ replicate (i + 1) 0
zeros_more c i le before e =
    take_more c i 0 le ∙ ap (λ (l : List ℕ). l ++ (get_or c i 0 ∷ [])) before
    ∙ ap (λ (b : ℕ). replicate i 0 ++ (b ∷ [])) e
    ∙ replicate-append-replicate i 1 0

-- what holds of a call that did not fail
pub unless_err : {T E P : Type 0} (r : Result T E) → is_err r ≡ false → OnOk r P → P
unless_err (Ok x) e p = p
unless_err (Err x) e p = absurd (true≢false e)

-- bytes that are written behind what stands at the front
pub begins_put : (s c new x : List ℕ) (at : ℕ) → Begins s c → length s ≡ at → new ≡ put_at c at x
    → Begins (s ++ x) new
begins_put s c new x at h long written =
    let front : take at c ≡ s = ap (λ (k : ℕ). take k c) (sym long) ∙ h in
    ap (take (length (s ++ x))) (written ∙ ap (λ (l : List ℕ). (l ++ x) ++ drop (at + length x) c) front)
    ∙ take_at (s ++ x) (drop (at + length x) c) (length (s ++ x)) refl

-- a file of which nothing else is known gets zeros
pub grown : (s c new : List ℕ) (used n : ℕ) → Begins s c → length s ≡ used → length c ≡ used
    → new ≡ take (used + n) c ++ replicate (used + n - length c) 0 → new ≡ s ++ replicate n 0
grown s c new used n h long all set =
    let same : c ≡ s = sym (take_all (length s) c (omega (arith, long, all))) ∙ h in
    let zeros : used + n - length c ≡ n = omega (arith, all) in
    let whole : take (used + n) c ≡ s = take_all (used + n) c (omega (arith, all)) ∙ same in
    set ∙ ap (λ (l : List ℕ). l ++ replicate (used + n - length c) 0) whole
    ∙ ap (λ (k : ℕ). s ++ replicate k 0) zeros
