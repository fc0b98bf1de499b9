-- How many bytes in front are zero, part by part; and the first byte that makes a padding wrong.
use Rattle.std.proofs.Common.{◌≡◌, ℕ, zero, suc, ◌+◌, ◌-◌, ◌≤◌, ◌<◌, ◌==◌, ◌&&◌, Bool, true, false, inl, inr, List, []}
use Rattle.std.proofs.Common.{◌∷◌, length, take, drop, min, Option, Some, None, is_none, refl, sym, ap, ◌∙◌, arith}
use Rattle.std.proofs.Common.{drop-drop}
use Rattle.std.proofs.Common.{if◌then◌else◌, option_map}
use Rattle.std.proofs.lemmas.Bool.{and_parts, cases_Bool, cond-true, cond-false, ne_eqb, true≢false}
use Rattle.std.proofs.lemmas.List.{length-drop, length-take, take_min}
use Rattle.abt_headers.specs.declared.sections.SectionPlace.{SectionPlace}
use Rattle.abt_sections.specs.Check.{all_zero, padded_places, padding_holds, zeros_there}
use Rattle.abt_sections.specs.Header.{Header, page_of, places_of, size_of}
use Rattle.abt_sections.specs.Layout.{padding}
use Rattle.cmd_common_findings.specs.Finding.{first_behind, first_set_in, first_unpadded, leading_zeros, or_first}

zero_on : (b : ℕ) (x : List ℕ) → (b == 0) ≡ true → leading_zeros (b ∷ x) ≡ suc (leading_zeros x)
zero_on b x e = cond-true _ _ _ e

zero_ends : (b : ℕ) (x : List ℕ) → (b == 0) ≡ false → leading_zeros (b ∷ x) ≡ 0
zero_ends b x e = cond-false _ _ _ e

-- bytes are all zero just where as many zeros are in front as there are bytes
zeros_all : (x : List ℕ) → all_zero x ≡ true → leading_zeros x ≡ length x
zeros_all [] e = refl
zeros_all (b ∷ x) e =
    let parts = and_parts (b == 0) (all_zero x) e in
    zero_on b x parts.0 ∙ ap suc (zeros_all x parts.1)

zeros_not : (x : List ℕ) → all_zero x ≡ false → leading_zeros x < length x
zeros_not [] e = absurd (true≢false e)
zeros_not (b ∷ x) e = elim (cases_Bool (b == 0)) [
  | inl z ↦
      let rest : all_zero x ≡ false = sym (ap (λ (t : Bool). t && all_zero x) z) ∙ e in
      let is = zero_on b x z in
      let h = zeros_not x rest in
      omega (arith, is, h)
  | inr z ↦ let is = zero_ends b x z in omega (arith, is)
]

and_right : (a b : Bool) → b ≡ true → a ≡ (a && b)
and_right true b e = sym e
and_right false b e = refl

and_none : (a b : Bool) → b ≡ false → (a && b) ≡ false
and_none true b e = e
and_none false b e = refl

is_all : (l : List ℕ) (n : ℕ) → length l ≤ n → (leading_zeros l == n) ≡ ((length l == n) && all_zero l)
is_all l n within = elim (cases_Bool (all_zero l)) [
  | inl e ↦ ap (λ (k : ℕ). k == n) (zeros_all l e) ∙ and_right (length l == n) (all_zero l) e
  | inr e ↦
      let few = zeros_not l e in
      ne_eqb (leading_zeros l) n (λ same. let q : leading_zeros l ≡ n = same in omega (arith, few, within, q))
      ∙ sym (and_none (length l == n) (all_zero l) e)
]

none_if : (b : Bool) (n : ℕ) → is_none (if b then None else Some n) ≡ b
none_if true n = refl
none_if false n = refl

-- none of the n bytes makes it wrong just where all are there and zero
pub none_set : (x : List ℕ) (at n : ℕ) → is_none (first_set_in x at n) ≡ zeros_there x at n
none_set x at n =
    let l = take n (drop at x) in
    let long = length-take n (drop at x) in
    none_if (leading_zeros l == n) (at + leading_zeros l) ∙ is_all l n (omega (arith, long))

none_first : (a b : Option ℕ) → is_none (or_first a b) ≡ (is_none a && is_none b)
none_first None b = refl
none_first (Some n) b = refl

none_behind : (x : List ℕ) (page : ℕ) (ps : List SectionPlace)
    → is_none (first_behind x page ps) ≡ padded_places x page ps
none_behind x page [] = refl
none_behind x page (p ∷ ps) =
    none_first (first_set_in x (p.at + p.size) (padding p.size page)) (first_behind x page ps)
    ∙ ap (λ (t : Bool). t && is_none (first_behind x page ps)) (none_set x (p.at + p.size) (padding p.size page))
    ∙ ap (λ (t : Bool). zeros_there x (p.at + p.size) (padding p.size page) && t) (none_behind x page ps)

-- no byte makes the padding wrong just where the padding holds
pub none_unpadded : (x : List ℕ) (h : Header) → is_none (first_unpadded x h) ≡ padding_holds x h
none_unpadded x h =
    let n = padding (size_of h) (page_of h) in
    none_first (first_set_in x (size_of h) n) (first_behind x (page_of h) (places_of h))
    ∙ ap (λ (t : Bool). t && is_none (first_behind x (page_of h) (places_of h))) (none_set x (size_of h) n)
    ∙ ap (λ (t : Bool). zeros_there x (size_of h) n && t) (none_behind x (page_of h) (places_of h))

pub none_mapped : {X Y : Type 0} (f : X → Y) (a : Option X) → is_none (option_map f a) ≡ is_none a
none_mapped f None = refl
none_mapped f (Some x) = refl

-- ---- part by part

-- k zeros, and then those behind them
zeros_on : (k n : ℕ) (l : List ℕ) → k ≤ n → leading_zeros (take k l) ≡ k
    → leading_zeros (take n l) ≡ k + leading_zeros (take (n - k) (drop k l))
zeros_on zero n l le e =
    let same : n - 0 ≡ n = omega arith in
    let none : leading_zeros (take (n - 0) l) ≡ 0 + leading_zeros (take (n - 0) l) = omega arith in
    ap (λ (j : ℕ). leading_zeros (take j l)) (sym same) ∙ none
zeros_on (suc k) zero l le e = absurd (omega (arith, le))
zeros_on (suc k) (suc n) [] le e = absurd (let q : 0 ≡ suc k = e in omega (arith, q))
zeros_on (suc k) (suc n) (b ∷ l) le e = elim (cases_Bool (b == 0)) [
  | inl z ↦
      let first = zero_on b (take k l) z in
      let so_far : leading_zeros (take k l) ≡ k = omega (arith, first, e) in
      let all = zero_on b (take n l) z in
      let rest = zeros_on k n l (omega (arith, le)) so_far in
      let less : n - k ≡ suc n - suc k = omega arith in
      let here = ap (λ (j : ℕ). leading_zeros (take j (drop k l))) less in
      omega (arith, all, rest, here)
  | inr z ↦ let none = zero_ends b (take k l) z in absurd (let q : leading_zeros (b ∷ take k l) ≡ suc k = e in
      omega (arith, none, q))
]

-- fewer than k zeros of k bytes: so it is of more bytes
zeros_stop : (k n : ℕ) (l : List ℕ) → k ≤ n → leading_zeros (take k l) < k
    → leading_zeros (take n l) ≡ leading_zeros (take k l)
zeros_stop zero n l le few = absurd (omega (arith, few))
zeros_stop (suc k) zero l le few = absurd (omega (arith, le))
zeros_stop (suc k) (suc n) [] le few = refl
zeros_stop (suc k) (suc n) (b ∷ l) le few = elim (cases_Bool (b == 0)) [
  | inl z ↦
      let short = zero_on b (take k l) z in
      let long = zero_on b (take n l) z in
      let less : leading_zeros (b ∷ take k l) < suc k = few in
      let rest = zeros_stop k n l (omega (arith, le)) (omega (arith, short, less)) in
      long ∙ ap suc rest ∙ sym short
  | inr z ↦ zero_ends b (take n l) z ∙ sym (zero_ends b (take k l) z)
]

-- what was read of an ask
asked : (s s' : List ℕ) (at ask : ℕ) → s' ≡ s
    → leading_zeros (take (min ask (length s' - at)) (drop at s')) ≡ leading_zeros (take ask (drop at s))
asked s s' at ask same =
    let long : length s' - at ≡ length (drop at s') = sym (length-drop at s') in
    ap (λ (k : ℕ). leading_zeros (take (min ask k) (drop at s'))) long
    ∙ ap leading_zeros (take_min ask (drop at s')) ∙ ap (λ (l : List ℕ). leading_zeros (take ask (drop at l))) same

behind : (s : List ℕ) (at done n : ℕ) → done ≤ n → leading_zeros (take done (drop at s)) ≡ done
    → leading_zeros (take n (drop at s)) ≡ done + leading_zeros (take (n - done) (drop (at + done) s))
behind s at done n le so_far =
    zeros_on done n (drop at s) le so_far
    ∙ ap (λ (l : List ℕ). done + leading_zeros (take (n - done) l)) (drop-drop done at s)

pub goes_on : (s s' : List ℕ) (at done ask zeros : ℕ) → s' ≡ s → leading_zeros (take done (drop at s)) ≡ done
    → zeros ≡ leading_zeros (take (min ask (length s' - (at + done))) (drop (at + done) s')) → zeros ≡ ask
    → leading_zeros (take (done + ask) (drop at s)) ≡ done + ask
goes_on s s' at done ask zeros same so_far seen all =
    let more = behind s at done (done + ask) (omega arith) so_far in
    let less : done + ask - done ≡ ask = omega arith in
    let here = ap (λ (k : ℕ). leading_zeros (take k (drop (at + done) s))) less in
    let read = asked s s' (at + done) ask same in
    omega (arith, more, here, read, seen, all)

pub stops : (s s' : List ℕ) (at done ask n zeros : ℕ) → s' ≡ s → done + ask ≤ n
    → leading_zeros (take done (drop at s)) ≡ done
    → zeros ≡ leading_zeros (take (min ask (length s' - (at + done))) (drop (at + done) s')) → zeros < ask
    → Some (at + done + zeros) ≡ first_set_in s at n
stops s s' at done ask n zeros same le so_far seen few =
    let read = asked s s' (at + done) ask same in
    let more = behind s at done n (omega (arith, le)) so_far in
    let rest = zeros_stop ask (n - done) (drop (at + done) s) (omega (arith, le)) (omega (arith, read, seen, few)) in
    let all : leading_zeros (take n (drop at s)) ≡ done + zeros = omega (arith, more, rest, read, seen) in
    let place : at + done + zeros ≡ at + leading_zeros (take n (drop at s)) = omega (arith, all) in
    ap Some place ∙ sym (cond-false _ _ _ (ne_eqb (leading_zeros (take n (drop at s))) n
    (λ is. let q : leading_zeros (take n (drop at s)) ≡ n = is in omega (arith, all, q, few, le))))

-- ---- place by place
