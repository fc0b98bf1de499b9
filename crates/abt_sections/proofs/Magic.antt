-- Bytes with a zero among the first eight are no header: no magic has a zero byte.
use Rattle.std.proofs.Common.{◌≡◌, ℕ, zero, suc, ◌+◌, ◌*◌, ◌<◌, ◌==◌, ◌&&◌, Bool, true, false, List, [], ◌∷◌, ◌++◌}
use Rattle.std.proofs.Common.{length, get_or, refl, ap, ◌∙◌, arith, inl, inr, Ok, nat_lt, nat_le, ◌-◌}
use Rattle.std.proofs.lemmas.Bool.{cases_Bool, ne_eqb, ltb-true, ltb-false}
use Rattle.std.proofs.lemmas.List.{get_or_append_left, get_or-append_right}
use Rattle.abt_io.specs.Bytes.{AreBytes}
use Rattle.abt_headers.specs.Field.{number_at}
use Rattle.abt_headers.specs.Boot.{boot_at}
use Rattle.abt_sections.specs.Header.{Header, is_vendor, image_header_at}
use Rattle.abt_sections.specs.Broken.{HasNoMagic, OpensAsNothing}

abbrev eight : ℕ → ℕ → ℕ → ℕ → ℕ → ℕ → ℕ → ℕ → ℕ
eight a b c d e f g h = a + 256 * (b + 256 * (c + 256 * (d + 256 * (e + 256 * (f + 256 * (g + 256 * (h + 256 * 0)))))))

not_boot : (i a b c d e f g h : ℕ) → i < 8 → a < 256 → b < 256 → c < 256 → d < 256 → e < 256 → f < 256 → g < 256
    → h < 256 → get_or (a ∷ b ∷ c ∷ d ∷ e ∷ f ∷ g ∷ h ∷ []) i 0 ≡ 0 → eight a b c d e f g h ≡ 0x2144494f52444e41 → ⊥
not_boot zero a b c d e f g h i pa pb pc pd pe pf pg ph z n = omega arith
not_boot (suc zero) a b c d e f g h i pa pb pc pd pe pf pg ph z n = omega arith
not_boot (suc (suc zero)) a b c d e f g h i pa pb pc pd pe pf pg ph z n = omega arith
not_boot (suc (suc (suc zero))) a b c d e f g h i pa pb pc pd pe pf pg ph z n = omega arith
not_boot (suc (suc (suc (suc zero)))) a b c d e f g h i pa pb pc pd pe pf pg ph z n = omega arith
not_boot (suc (suc (suc (suc (suc zero))))) a b c d e f g h i pa pb pc pd pe pf pg ph z n = omega arith
not_boot (suc (suc (suc (suc (suc (suc zero)))))) a b c d e f g h i pa pb pc pd pe pf pg ph z n = omega arith
not_boot (suc (suc (suc (suc (suc (suc (suc zero))))))) a b c d e f g h i pa pb pc pd pe pf pg ph z n = omega arith
not_boot (suc (suc (suc (suc (suc (suc (suc (suc k)))))))) a b c d e f g h i pa pb pc pd pe pf pg ph z n =
    absurd (omega (arith, i))

not_vendor : (i a b c d e f g h : ℕ) → i < 8 → a < 256 → b < 256 → c < 256 → d < 256 → e < 256 → f < 256 → g < 256
    → h < 256 → get_or (a ∷ b ∷ c ∷ d ∷ e ∷ f ∷ g ∷ h ∷ []) i 0 ≡ 0 → eight a b c d e f g h ≡ 0x544f4f4252444e56 → ⊥
not_vendor zero a b c d e f g h i pa pb pc pd pe pf pg ph z n = omega arith
not_vendor (suc zero) a b c d e f g h i pa pb pc pd pe pf pg ph z n = omega arith
not_vendor (suc (suc zero)) a b c d e f g h i pa pb pc pd pe pf pg ph z n = omega arith
not_vendor (suc (suc (suc zero))) a b c d e f g h i pa pb pc pd pe pf pg ph z n = omega arith
not_vendor (suc (suc (suc (suc zero)))) a b c d e f g h i pa pb pc pd pe pf pg ph z n = omega arith
not_vendor (suc (suc (suc (suc (suc zero))))) a b c d e f g h i pa pb pc pd pe pf pg ph z n = omega arith
not_vendor (suc (suc (suc (suc (suc (suc zero)))))) a b c d e f g h i pa pb pc pd pe pf pg ph z n = omega arith
not_vendor (suc (suc (suc (suc (suc (suc (suc zero))))))) a b c d e f g h i pa pb pc pd pe pf pg ph z n = omega arith
not_vendor (suc (suc (suc (suc (suc (suc (suc (suc k)))))))) a b c d e f g h i pa pb pc pd pe pf pg ph z n =
    absurd (omega (arith, i))

-- the item of the first eight at i
of_eight : (x : List ℕ) (i : ℕ) → i < 8 → get_or (get_or x 0 0 ∷ get_or x 1 0 ∷ get_or x 2 0 ∷ get_or x 3 0
    ∷ get_or x 4 0 ∷ get_or x 5 0 ∷ get_or x 6 0 ∷ get_or x 7 0 ∷ []) i 0 ≡ get_or x i 0
of_eight x zero h = refl
of_eight x (suc zero) h = refl
of_eight x (suc (suc zero)) h = refl
of_eight x (suc (suc (suc zero))) h = refl
of_eight x (suc (suc (suc (suc zero)))) h = refl
of_eight x (suc (suc (suc (suc (suc zero))))) h = refl
of_eight x (suc (suc (suc (suc (suc (suc zero)))))) h = refl
of_eight x (suc (suc (suc (suc (suc (suc (suc zero))))))) h = refl
of_eight x (suc (suc (suc (suc (suc (suc (suc (suc k)))))))) h = absurd (omega (arith, h))

and_false : (a : Bool) → (a && false) ≡ false
and_false true = refl
and_false false = refl

-- the two magics, as numbers, are not the one that is there
refused : (x : List ℕ) (h : Header) → (number_at 0 8 x == 0x2144494f52444e41) ≡ false
    → (number_at 0 8 x == 0x544f4f4252444e56) ≡ false → image_header_at x ≡ Ok h → ⊥
unfolding boot_at
refused x h boot vendor is =
    let v : is_vendor x ≡ false = ap (λ (t : Bool). nat_le 8 (length x) && t) vendor
    ∙ and_false (nat_le 8 (length x)) in
    elim (cases_Bool (nat_lt (length x) 8)) [
      | inl short ↦ (let e = rw (v, short) at is in
          cc)
      | inr long ↦ (let e = rw (v, long, boot) at is in cc)
    ]

pub no_header : (x : List ℕ) (i : ℕ) → i < 8 → get_or x i 0 ≡ 0 → ((j : ℕ) → j < 8 → get_or x j 0 < 256)
    → (h : Header) → image_header_at x ≡ Ok h → ⊥
no_header x i lt z bytes h is =
    let p0 = bytes 0 (omega arith) in
    let p1 = bytes 1 (omega arith) in
    let p2 = bytes 2 (omega arith) in
    let p3 = bytes 3 (omega arith) in
    let p4 = bytes 4 (omega arith) in
    let p5 = bytes 5 (omega arith) in
    let p6 = bytes 6 (omega arith) in
    let p7 = bytes 7 (omega arith) in
    refused x h
    (ne_eqb _ _ (λ n. not_boot i _ _ _ _ _ _ _ _ lt p0 p1 p2 p3 p4 p5 p6 p7 (of_eight x i lt ∙ z) n))
    (ne_eqb _ _ (λ n. not_vendor i _ _ _ _ _ _ _ _ lt p0 p1 p2 p3 p4 p5 p6 p7 (of_eight x i lt ∙ z) n))
    is

-- the byte at j, of x or of what follows it
byte_at : (x rest : List ℕ) (j : ℕ) → get_or x j 0 < 256 → AreBytes rest → get_or (x ++ rest) j 0 < 256
byte_at x rest j here more =
    elim (cases_Bool (nat_lt j (length x))) [
      | inl t ↦ (let e = get_or_append_left x rest 0 j (ltb-true _ _ t) in omega (arith, e, here))
      | inr t ↦ (let e = get_or-append_right x rest (length x) j 0 refl (ltb-false _ _ t) in
          let b = more (j - length x) in omega (arith, e, b))
    ]

pub opens_as_nothing : (x : List ℕ) → HasNoMagic x → OpensAsNothing x
opens_as_nothing x none = λ rest h bytes image.
    no_header (x ++ rest) none.at none.front (get_or_append_left x rest 0 none.at none.there ∙ none.zero)
    (λ j lt. byte_at x rest j (none.bytes j lt) bytes) h image.header
