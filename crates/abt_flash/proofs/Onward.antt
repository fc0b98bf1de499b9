-- A delivery from piece to piece, in numbers.
use Rattle.std.proofs.Common.{◌-◌, ◌≡◌, ℕ, ◌+◌, ◌*◌, ◌≤◌, ◌<◌, ◌⊎◌, max, nat_lt, true, false, refl, sym, ap, ◌∙◌, arith}
use Rattle.std.proofs.Common.{inl, inr}
use Rattle.std.proofs.lemmas.Bool.{cases_Bool, ltb-true, ltb-false}
use Rattle.abt_pieces.specs.Cutter.{Passed, has_more, piece_words}
use Rattle.abt_pieces.specs.declared.stage.CutterStage.{CutterStage}
use Rattle.abt_pieces.specs.declared.stage.CutterStage.TheVariants.{Between, Done}
use Rattle.abt_flash.specs.Going.{IsBehindPiece, Unbroken, words_so_far}

pub unbroken_first : (n made e : ℕ) (st : CutterStage) → st ≡ Between → (0 < made → e < n) → Unbroken n made e st
unbroken_first n made e st is inside =
    record { stands = inl is; between = λ d some. inside some; done = λ d. absurd (let z = sym is ∙ d in cc) }

pub unbroken_more : (n made e : ℕ) (st : CutterStage) → IsBehindPiece n e st → Unbroken n (made + 1) e st
unbroken_more n made e st at = elim (cases_Bool (nat_lt e n)) [
  | inl t ↦ let lt = ltb-true e n t in let is = at.between lt in
      record { stands = inl is; between = λ d some. lt; done = λ d. absurd (let z = sym is ∙ d in cc) }
  | inr t ↦ let le = ltb-false e n t in let is = at.done le in
      record { stands = inr is; between = λ d some. absurd (let z = sym is ∙ d in cc); done = λ d. (omega arith, le) }
]

pub still_between : (n made e : ℕ) (st : CutterStage) → Unbroken n made e st → has_more st ≡ true → st ≡ Between
still_between n made e st u more =
    elim u.stands [ inl is ↦ is | inr is ↦ absurd (let z : has_more Done ≡ true = rw is at more in cc) ]

pub now_done : (n made e : ℕ) (st : CutterStage) → Unbroken n made e st → has_more st ≡ false → st ≡ Done
now_done n made e st u none =
    elim u.stands [ inr is ↦ is | inl is ↦ absurd (let z : has_more Between ≡ false = rw is at none in cc) ]

pub few_more : (n made e : ℕ) → made ≤ e → (0 < made → e < n) → made + 1 ≤ max 1 n
few_more n made e le inside = elim (cases_Bool (nat_lt 0 made)) [
  | inl t ↦ let lt = inside (ltb-true 0 made t) in omega (arith, lt, le)
  | inr t ↦ let z = ltb-false 0 made t in omega (arith, z)
]

-- each piece leaves fewer of them
pub fewer_then : (n made e then : ℕ) → made ≤ e → (0 < made → e < n) → then ≡ made + 1 → (n + 1) - then < (n + 1) - made
fewer_then n made e then le inside next = let few = few_more n made e le inside in omega (arith, few, next)

-- words that were compared without being read
words_between : (one n s : ℕ) → words_so_far one n s Between ≤ one
words_between one n s = elim (cases_Bool (nat_lt (s + 1) n)) [ inl t ↦ rw t (omega arith) | inr t ↦ rw t (omega arith) ]

words_none : (one n s : ℕ) → s + 1 < n → words_so_far one n s Between ≡ 0
words_none one n s lt =
    elim (cases_Bool (nat_lt (s + 1) n)) [
      | inl t ↦ rw t refl
      | inr t ↦ absurd (let z = ltb-false (s + 1) n t in
          omega (arith, z, lt))
    ]

pub words_more : (one n s e : ℕ) (st : CutterStage) → (e < n → s < e) → IsBehindPiece n e st
    → words_so_far one n s Between + piece_words one n e ≤ words_so_far one n e st
words_more one n s e st moves at = elim (cases_Bool (nat_lt (e + 1) n)) [
  | inl t ↦
      let lt = ltb-true (e + 1) n t in
      let less : e < n = omega (arith, lt) in
      let up = moves less in
      let none = words_none one n s (omega (arith, up, lt)) in
      rw (t, at.between less, t) (omega (arith, none))
  | inr t ↦ elim (cases_Bool (nat_lt e n)) [
    | inl u ↦
        let less = ltb-true e n u in
        let far = ltb-false (e + 1) n t in
        let up = moves less in
        let none = words_none one n s (omega (arith, up, less)) in
        rw (t, u, at.between less, t) (omega (arith, none))
    | inr u ↦ let le = ltb-false e n u in let most = words_between one n s in
        rw (t, u, at.done le) (omega (arith, most))
  ]
]

pub words_most : (one n s : ℕ) (st : CutterStage) → (st ≡ Between) ⊎ (st ≡ Done) → words_so_far one n s st ≤ 4 * one
words_most one n s st (inl is) = let z = words_between one n s in rw is (omega (arith, z))
words_most one n s st (inr is) = rw is (omega arith)

pub words_one : (one n s : ℕ) (st : CutterStage) → st ≡ Between → words_so_far one n s st ≤ one
words_one one n s st is = let z = words_between one n s in rw is z

pub passed_stands : (n s e : ℕ) (st : CutterStage) → Passed n s e st → IsBehindPiece n e st
passed_stands n s e st h = record { between = h.between; done = h.done }

-- ---- what is read of the source

one_more_times : (m k : ℕ) → (m + 1) * k ≡ m * k + k
one_more_times m k = omega arith

pub charged_more : (g0 g g' c0 c c' made made' one : ℕ) → made' ≡ made + 1 → g' + c ≤ g + c' + 48 + one
    → g + c0 ≤ g0 + c + made * (48 + one) → g' + c0 ≤ g0 + c' + made' * (48 + one)
charged_more g0 g g' c0 c c' made made' one e h k = let z : made' * (48 + one) ≡ made * (48 + one) + (48 + one) =
    ap (λ (m : ℕ). m * (48 + one)) e ∙ one_more_times made (48 + one) in omega (arith, z, h, k)

pub spent_more : (g0 g g' p0 p p' made0 made made' each : ℕ) → made' ≡ made + 1 → g' + p ≤ g + p' + each
    → g + p0 + made0 * each ≤ g0 + p + made * each → g' + p0 + made0 * each ≤ g0 + p' + made' * each
spent_more g0 g g' p0 p p' made0 made made' each e h k = let z : made' * each ≡ made * each + each =
    ap (λ (m : ℕ). m * each) e ∙ one_more_times made each in omega (arith, z, h, k)

pub spent_last : (g0 g g' p0 p p' made0 made made' each last : ℕ) → made' ≡ made + 1 → g' + p ≤ g + p' + last
    → g + p0 + made0 * each ≤ g0 + p + made * each → g' + p0 + made0 * each + each ≤ g0 + p' + made' * each + last
spent_last g0 g g' p0 p p' made0 made made' each last e h k = let z : made' * each ≡ made * each + each =
    ap (λ (m : ℕ). m * each) e ∙ one_more_times made each in omega (arith, z, h, k)

pub spent_whole : (g0 g p0 p made0 made d each all last : ℕ) → made ≡ made0 + d → p ≤ all
    → g + p0 + made0 * each + each ≤ g0 + p + made * each + last → g + p0 + each ≤ g0 + all + last + d * each
spent_whole g0 g p0 p made0 made d each all last e h k =
    let z : made * each ≡ (made0 + d) * each = ap (λ (m : ℕ). m * each) e in
    let y : (made0 + d) * each ≡ made0 * each + d * each = omega arith in
    omega (arith, z, y, h, k)

-- what one piece more costs
pub calls_on : (x0 x x' y0 y y' k0 k k' : ℕ) → x' + 8 * y ≤ x + 8 * y' + 373
    → x + 8 * y0 + 374 * k0 ≤ x0 + 8 * y + 374 * k → k' ≡ k + 1 → x' + 8 * y0 + 374 * k0 ≤ x0 + 8 * y' + 374 * k'
calls_on x0 x x' y0 y y' k0 k k' h i e = omega (arith, h, i, e)

pub turns_on : (t0 t t1 t' y0 y y' k0 k k' w w' p : ℕ) → t1 ≡ t + 1 → t' + 8 * y ≤ t1 + 8 * y' + 364 + p → w + p ≤ w'
    → t + 8 * y0 + 374 * k0 ≤ t0 + 8 * y + w + 374 * k → k' ≡ k + 1
    → t' + 8 * y0 + 374 * k0 ≤ t0 + 8 * y' + w' + 374 * k'
turns_on t0 t t1 t' y0 y y' k0 k k' w w' p tick h words i e = omega (arith, tick, h, words, i, e)

-- ---- and what else one piece more moves

pub up_on : (x0 x x' : ℕ) → x0 ≤ x → x ≤ x' → x0 ≤ x'
up_on x0 x x' i h = omega (arith, i, h)

pub order_on : (k0 k k' : ℕ) → k0 ≤ k → k' ≡ k + 1 → k0 ≤ k'
order_on k0 k k' i e = omega (arith, i, e)

pub some_on : (k0 k k' : ℕ) → k0 ≤ k → k' ≡ k + 1 → k0 < k'
some_on k0 k k' i e = omega (arith, i, e)

pub steps_on : (x0 x x' s0 s s1 s' : ℕ) → x' + 65580 * s1 ≤ x + 65580 * s' → x + 65580 * s0 ≤ x0 + 65580 * s → s1 ≡ s
    → x' + 65580 * s0 ≤ x0 + 65580 * s'
steps_on x0 x x' s0 s s1 s' h i e = omega (arith, h, i, e)

pub greatest_on : (g0 g g1 g' : ℕ) → g' ≤ max g1 65580 → g ≤ max g0 65580 → g1 ≡ g → g' ≤ max g0 65580
greatest_on g0 g g1 g' h i e = omega (arith, h, i, e)

pub synced_on : (s0 s s' k0 k k' : ℕ) → s + k0 ≡ s0 + k → s' ≡ s + 1 → k' ≡ k + 1 → s' + k0 ≡ s0 + k'
synced_on s0 s s' k0 k k' i h e = omega (arith, i, h, e)

pub unsynced_on : (u0 u u' s0 s s' : ℕ) → u + s0 ≡ u0 + s → u' + s ≡ u + s' + 0 → u' + s0 ≡ u0 + s'
unsynced_on u0 u u' s0 s s' i h = omega (arith, i, h)

pub long_on : (x0 x x' t0 t t' k0 k k' : ℕ) → x' + t ≤ x + t' + 80 → x + t0 + 80 * k0 ≤ x0 + t + 80 * k → k' ≡ k + 1
    → x' + t0 + 80 * k0 ≤ x0 + t' + 80 * k'
long_on x0 x x' t0 t t' k0 k k' h i e = omega (arith, h, i, e)

pub back_on : (b0 b b' w0 w w' : ℕ) → b' + w ≡ b + w' → b + w0 ≡ b0 + w → b' + w0 ≡ b0 + w'
back_on b0 b b' w0 w w' h i = omega (arith, h, i)

pub blocks_on : (b t0 t t' w f w' : ℕ) → t' ≡ t + b * f → w ≡ f + w' → t + b * w ≡ t0 → t' + b * w' ≡ t0
blocks_on b t0 t t' w f w' h e i = let sum : b * w ≡ b * (f + w') = ap (λ (k : ℕ). b * k) e in omega (arith, h, sum, i)
