-- The blocks of a segment, as the source models them.
use Rattle.std.proofs.Common.{◌≡◌, ℕ, zero, suc, ◌+◌, ◌-◌, ◌*◌, ◌^◌, ◌<◌, ◌≤◌, Bool, true, false, IsTrue, length-drop}
use Rattle.std.proofs.Common.{List, ◌∷◌, ◌++◌, length, take, drop, replicate, min, refl, sym, ap, subst, ◌∙◌, arith}
use Rattle.std.proofs.Common.{mul-le-mul_right}
use Rattle.std.specs.Prelude.{slice_range}
use Rattle.std.proofs.lemmas.List.{drop-drop, drop-take}
use Rattle.abt_sparse.specs.Block.{Block}
use Rattle.abt_runs.specs.RawLaws.{raw_count}
use Rattle.abt_runs.specs.Tail.{raw_list, classed_count}
use Rattle.abt_runs.specs.TailLaws.{list_long}
use Rattle.abt_runs.proofs.Tailed.{list_read}
use Rattle.abt_pieces.specs.Plan.{between}
use Rattle.abt_pieces.proofs.Planning.{between_more}
use Rattle.abt_placed.specs.Placed.{classes}
use Rattle.abt_placed.specs.Whole.{taken}
use Rattle.abt_placed.specs.Segment.{LaidSegment, ToldSegment, EndedSegment, OneMoreExceeds}
use Rattle.abt_placed.specs.declared.segment.Segment.{Segment}
use Rattle.abt_placed.proofs.Laying.{classes_part}

-- what was read to the window's beginning, from block i on
pub record Loaded (b len i want room : ℕ) (x w : List ℕ) : Type 0 where
  pub long : len ≡ length x
  pub there : i * b ≤ len
  pub asked : want ≡ min (len - i * b) room
  pub bytes : slice_range w 0 room ≡ take want (drop (i * b) x) ++ replicate (room - want) 0

pub window_blocks : (t : Bool) (b len n i a j want room p : ℕ) (x w : List ℕ) → 4 ≤ b → len ≤ n * b → n * b < len + b
    → i + a ≤ n → j ≤ a → room ≡ a * b → p ≡ classed_count t b len n - i → Loaded b len i want room x w
    → classes b p j w ≡ take j (drop i (raw_list t b x))
window_blocks t b len n i a j want room p x w some covers last within few wide ahead h =
    let c = raw_count len n b x some covers last h.long in
    let m : j * b ≤ a * b = mul-le-mul_right b few in
    let part : take j (drop i (raw_list t b x)) ≡ classes b p j
    (take want (drop (i * b) x) ++ replicate (a * b - want) 0) =
    rw ahead (list_read t b i j a n want len x c h.long within few (omega (arith, h.long, h.there))
    (omega (arith, h.long, covers)) (omega (arith, h.long, h.asked, wide))) in
    sym (classes_part b p j 0 room w (omega (arith, wide, m)))
    ∙ ap (classes b p j) (h.bytes ∙ ap (λ (k : ℕ). take want (drop (i * b) x) ++ replicate (k - want) 0) wide)
    ∙ sym part

more_told : (t : Bool) (x : List ℕ) (b len n a j want room p : ℕ) (w : List ℕ) (g : List Block) (s s' : Segment)
    → 4 ≤ b → len ≤ n * b → n * b < len + b → taken s.placer + a ≤ n → j ≤ a → taken s'.placer ≡ taken s.placer + j
    → s'.first ≡ s.first → s.first ≤ taken s.placer → room ≡ a * b → p ≡ classed_count t b len n - taken s.placer
    → g ≡ between (raw_list t b x) s.first (taken s.placer) → Loaded b len (taken s.placer) want room x w → g
    ++ classes b p j w ≡ between (raw_list t b x) s'.first (taken s'.placer)
more_told t x b len n a j want room p w g s s' some covers last within few passed same order wide ahead told read =
    let i = taken s.placer in
    let l = raw_list t b x in
    ap (λ (f : List Block). f ++ classes b p j w) told ∙ ap (λ (f : List Block). between l s.first i ++ f)
    (window_blocks t b len n i a j want room p x w some covers last within few wide ahead read)
    ∙ sym (between_more l s.first i j order) ∙ ap (λ (m : ℕ). between l m (i + j)) (sym same)
    ∙ ap (λ (m : ℕ). between l s'.first m) (sym passed)

-- with the next blocks
pub told_on : (models t : Bool) (x : List ℕ) (b len n a j want room p : ℕ) (now now' w : List ℕ) (s s' : Segment)
    → 4 ≤ b → len ≤ n * b → n * b < len + b → taken s.placer + a ≤ n → j ≤ a → taken s'.placer ≡ taken s.placer + j
    → s'.first ≡ s.first → s.first ≤ taken s.placer → room ≡ a * b → p ≡ classed_count t b len n - taken s.placer
    → (q : ToldSegment models t x b now s) → LaidSegment b (q.blocks ++ classes b p j w) now' s'
    → (IsTrue models → Loaded b len (taken s.placer) want room x w) → ToldSegment models t x b now' s'
told_on models t x b len n a j want room p now now' w s s' some covers last within few passed same order wide ahead q
    laid read = record {
      blocks = q.blocks ++ classes b p j w;
      laid = laid;
      told = λ y. more_told t x b len n a j want room p w q.blocks s s' some covers last within few passed same order
          wide ahead (q.told y) (read y);
    }

first_of_more : (k : ℕ) (y : Block) (more : List Block) → 0 < k → take k (y ∷ more) ≡ y ∷ take (k - 1) more
first_of_more zero y more some = absurd (omega (arith, some))
first_of_more (suc k) y more some = ap (λ (m : ℕ). y ∷ take m more) (let z : k ≡ suc k - 1 = omega arith in z)

-- the block that has no room is the source's next
pub over_on : (t : Bool) (b len n limit i a j want room p : ℕ) (x w : List ℕ) (g : List Block) → 4 ≤ b → len ≤ n * b
    → n * b < len + b → i + a ≤ n → j < a → room ≡ a * b → p ≡ classed_count t b len n - i
    → Loaded b len i want room x w
    → OneMoreExceeds limit b g (drop j (classes b p a w)) → OneMoreExceeds limit b g (drop (i + j) (raw_list t b x))
over_on t b len n limit i a j want room p x w g some covers last within few wide ahead h o y more e =
    let l = raw_list t b x in
    let there : drop j (drop i l) ≡ y ∷ more = drop-drop j i l ∙ ap (λ (m : ℕ). drop m l) (omega arith) ∙ e in
    let mine : drop j (classes b p a w) ≡ y ∷ take (a - j - 1) more =
    ap (drop j) (window_blocks t b len n i a a want room p x w some covers last within (omega arith) wide ahead h)
    ∙ ap (λ (m : ℕ). drop j (take m (drop i l))) (let z : a ≡ j + (a - j) = omega (arith, few) in z)
    ∙ drop-take j (a - j) (drop i l) ∙ ap (take (a - j)) there ∙ first_of_more (a - j) y more (omega (arith, few)) in
    o y (take (a - j - 1) more) mine

pub no_more_than : (d : Bool) (x y a : ℕ) → (d ≡ false → y ≡ x + a) → (d ≡ true → y < x + a) → y ≤ x + a
no_more_than true x y a all short = let z = short refl in omega (arith, z)
no_more_than false x y a all short = let z = all refl in omega (arith, z)

-- the segment ends before a block that has no room
pub ended_on : (models t : Bool) (x : List ℕ) (b len n a j want room p : ℕ) (now now' w : List ℕ) (s s' : Segment)
    → 4 ≤ b → len ≤ n * b → n * b < len + b → taken s.placer + a ≤ n → j < a → taken s'.placer ≡ taken s.placer + j
    → s'.first ≡ s.first → s'.limit ≡ s.limit → s.first ≤ taken s.placer → s.first < taken s'.placer
    → s.limit < 2 ^ 49 → room ≡ a * b → p ≡ classed_count t b len n - taken s.placer
    → (f : ToldSegment models t x b now s) → LaidSegment b (f.blocks ++ classes b p j w) now' s'
    → (IsTrue models → Loaded b len (taken s.placer) want room x w)
    → OneMoreExceeds s.limit b (f.blocks ++ classes b p j w) (drop j (classes b p a w))
    → EndedSegment models t x b n s'
ended_on models t x b len n a j want room p now now' w s s' some covers last within few passed same cap order more
    reached wide ahead f laid read o = record {
      moves = λ _. rw same more;
      reached = λ _. rw cap reached;
      over = λ y.
          let g = f.blocks ++ classes b p j w in
          let l = raw_list t b x in
          let e : g ≡ between l s'.first (taken s'.placer) = more_told t x b len n a j want room p w f.blocks s s' some
          covers last within (omega (arith, few)) passed same order wide ahead (f.told y) (read y) in
          let d : OneMoreExceeds s.limit b g (drop (taken s.placer + j) l) = over_on t b len n s.limit (taken s.placer)
          a j want room p x w g some covers last within few wide ahead (read y) o in
          let q : OneMoreExceeds s.limit b g (drop (taken s'.placer) l) = rw passed d in
          let r : OneMoreExceeds s'.limit b g (drop (taken s'.placer) l) = rw cap q in
          rw e at r;
    }

-- where no block is left
pub none_over : (models t : Bool) (x : List ℕ) (b len n : ℕ) (s : Segment) → 4 ≤ b → len ≤ n * b → n * b < len + b
    → (IsTrue models → len ≡ length x) → taken s.placer ≡ n → EndedSegment models t x b n s
none_over models t x b len n s some covers last known all = record {
  moves = λ less. absurd (omega (arith, less, all));
  reached = λ less. absurd (omega (arith, less, all));
  over = λ told y more e. absurd (let l = list_long t len n b x some covers last (known told) in
      let z : length (drop (taken s.placer) (raw_list t b x)) ≡ suc (length more) = ap length e in
      omega (arith, z, l, all, length-drop (taken s.placer) (raw_list t b x)));
}

-- a source that models the same
pub same_told : (models t : Bool) (x x' : List ℕ) (b : ℕ) (now : List ℕ) (s : Segment) → (IsTrue models → x ≡ x')
    → ToldSegment models t x b now s → ToldSegment models t x' b now s
same_told models t x x' b now s e h = record {
  blocks = h.blocks;
  laid = h.laid;
  told = λ told. h.told told ∙ ap (λ (y : List ℕ). between (raw_list t b y) s.first (taken s.placer)) (e told);
}

pub same_ended : (models t : Bool) (x x' : List ℕ) (b n : ℕ) (s : Segment) → (IsTrue models → x ≡ x')
    → EndedSegment models t x b n s → EndedSegment models t x' b n s
same_ended models t x x' b n s e h = record {
  moves = h.moves;
  reached = h.reached;
  over = λ told. subst (λ (y : List ℕ). OneMoreExceeds s.limit b (between (raw_list t b y) s.first (taken s.placer))
      (drop (taken s.placer) (raw_list t b y))) (e told) (h.over told);
}
