-- What a planner's numbers are of the blocks that it has passed.
use Rattle.std.proofs.Common.{◌≡◌, ℕ, zero, suc, ◌+◌, ◌-◌, ◌*◌, ◌/◌, ◌%◌, ◌<◌, ◌≤◌, nat_lt, nat_le, Bool, false, List}
use Rattle.std.proofs.Common.{[], ◌∷◌, ◌++◌, length, take, drop, replicate, refl, sym, ap, ◌∙◌, append_assoc}
use Rattle.std.proofs.Common.{append-nil, arith, inl, inr, bytes_eq, length-drop, mul-le-mul_left, le-leb, leb-true}
use Rattle.std.proofs.Common.{ltb-false}
use Rattle.std.specs.List.{AllByRecursion}
use Rattle.std.proofs.lemmas.Bool.{cases_Bool, lt-leb, ltb-true, ltb-false}
use Rattle.std.proofs.lemmas.List.{drop-drop, length-take-le, length-replicate}
use Rattle.std.proofs.Math.Seq.{take-add}
use Rattle.abt_sparse.specs.Block.{Block, Raw, Fill, Skip, AreBlocks}
use Rattle.abt_sparse.specs.Runs.{runs, framed, weight, tail_parts}
use Rattle.abt_sparse.specs.Gains.{Behind, Fresh, After, moved, gain, gains, behind_all}
use Rattle.abt_sparse.proofs.Gains.{gains-append, weight_gains}
use Rattle.abt_sparse.proofs.RunLaws.{bytes_same}
use Rattle.abt_sparse.proofs.Greedy.{cut_at}
use Rattle.abt_sparse.proofs.Weights.{weight_back, one_fits}
use Rattle.abt_runs.specs.Part.{IsRaw, AllOf, PartOf, Capped, is_end}
use Rattle.abt_runs.specs.declared.part.Cursor.{Cursor}
use Rattle.abt_runs.specs.declared.part.Run.{Run}
use Rattle.abt_pieces.specs.declared.plan.Planner.{Planner}
use Rattle.abt_runs.specs.declared.part.RunKind.{RunKind}
use Rattle.abt_runs.specs.declared.part.RunKind.TheVariants as kinds
use Rattle.abt_pieces.specs.declared.contents.PieceContents.{PieceContents}
use Rattle.abt_runs.specs.Whole.{alike_kinds}
use Rattle.abt_runs.proofs.Alike.{not_end_some}
use Rattle.abt_pieces.specs.Contents.{opens, opens_len, copy_len, held, with_blocks, contents_before, last_of}
use Rattle.abt_pieces.specs.Contents.{written_in, IsContents}
use Rattle.abt_pieces.proofs.Counting.{contents_on, skips_contents, skips_last, skips_all, runs_count, length_is}
use Rattle.abt_pieces.proofs.Writing.{blocks_take, blocks_drop, blocks_append, blocks_skips}
use Rattle.abt_sparse.specs.Chunk.{piece}
use Rattle.abt_pieces.specs.Plan.{last_kind, front, Slim, Even, head_of, fill_gain_of, skip_tail, cap_of, gain_of}
use Rattle.abt_pieces.specs.Plan.{tail_after, tail_of, between, FirstPiece, Planned, PlanEnds, rested}
use Rattle.abt_pieces.specs.declared.segment_tail.Tail.{Tail}
use Rattle.abt_pieces.specs.declared.segment_tail.Tail.TheVariants as tails

-- ---- one block

raw_one : (b : ℕ) (s : Behind) (x : List ℕ) → gain b s (Raw x) ≡ head_of (tail_of s) + b
raw_one b Fresh x = refl
raw_one b (After Skip) x = omega arith
raw_one b (After (Raw y)) x = omega arith
raw_one b (After (Fill y)) x = refl

fill_one : (b : ℕ) (s : Behind) (w : List ℕ) → gain b s (Fill w) ≡ fill_gain_of (tail_of s) w
fill_one b Fresh w = refl
fill_one b (After Skip) w = refl
fill_one b (After (Raw y)) w = refl
fill_one b (After (Fill y)) w = refl

moved_raw : (s : Behind) (x : List ℕ) → moved s (Raw x) ≡ After (Raw x)
moved_raw Fresh x = refl
moved_raw (After y) x = refl

moved_fill : (s : Behind) (w : List ℕ) → moved s (Fill w) ≡ After (Fill w)
moved_fill Fresh w = refl
moved_fill (After y) w = refl

moved_skip : (s : Behind) → tail_of (moved s Skip) ≡ skip_tail (tail_of s)
moved_skip Fresh = refl
moved_skip (After Skip) = refl
moved_skip (After (Raw y)) = refl
moved_skip (After (Fill y)) = refl

-- ---- blocks of one class

raws_on : (b : ℕ) (y : List ℕ) (xs : List Block) → AllByRecursion IsRaw xs →
    (gains b (After (Raw y)) xs ≡ length xs * b) × (tail_of (behind_all (After (Raw y)) xs) ≡ tails.Raw)
raws_on b y [] h = (omega arith, refl)
raws_on b y (Raw x ∷ xs) h = let t = raws_on b x xs h.1 in (omega arith, t.1)
raws_on b y (Fill x ∷ xs) h = absurd h.0
raws_on b y (Skip ∷ xs) h = absurd h.0

fill_again : (b : ℕ) (w : List ℕ) → gain b (After (Fill w)) (Fill w) ≡ 0
fill_again b w = rw (bytes_same w) refl

fills_on : (b n : ℕ) (w : List ℕ) → (gains b (After (Fill w)) (replicate n (Fill w)) ≡ 0) ×
    (tail_of (behind_all (After (Fill w)) (replicate n (Fill w))) ≡ tails.Fill w)
fills_on b zero w = (refl, refl)
fills_on b (suc n) w = let t = fills_on b n w in (omega (arith, fill_again b w, t.0), t.1)

skip_twice : (t : Tail) → skip_tail (skip_tail t) ≡ skip_tail t
skip_twice tails.Fresh = refl
skip_twice tails.Skip = refl
skip_twice tails.Raw = refl
skip_twice (tails.Fill w) = refl

skips_on : (b n : ℕ) (s : Behind) → (gains b s (replicate (suc n) Skip) ≡ 0) ×
    (tail_of (behind_all s (replicate (suc n) Skip)) ≡ skip_tail (tail_of s))
skips_on b zero s = (refl, moved_skip s)
skips_on b (suc n) s = let t = skips_on b n (moved s Skip) in
    (omega (arith, t.0), t.1 ∙ ap skip_tail (moved_skip s) ∙ skip_twice (tail_of s))

pub part_gains : (b : ℕ) (s : Behind) (k : RunKind) (xs : List Block) → AllOf k xs → 0 < length xs →
    (gains b s xs ≡ gain_of (tail_of s) k (length xs) b) × (tail_of (behind_all s xs) ≡ tail_after (tail_of s) k)
part_gains b s k [] h some = absurd (omega arith)
part_gains b s kinds.Raw (Raw x ∷ xs) h some =
    let t = raws_on b x xs h.1 in
    rw (moved_raw s x) (omega (arith, raw_one b s x, t.0), t.1)
part_gains b s kinds.Raw (Fill x ∷ xs) h some = absurd h.0
part_gains b s kinds.Raw (Skip ∷ xs) h some = absurd h.0
part_gains b s (kinds.Fill w) (x ∷ xs) h some =
    let t = fills_on b (length xs) w in
    let e : gains b s (replicate (suc (length xs)) (Fill w)) ≡ fill_gain_of (tail_of s) w = rw (moved_fill s w)
    (omega (arith, fill_one b s w, t.0)) in
    let f : tail_of (behind_all s (replicate (suc (length xs)) (Fill w))) ≡ tails.Fill w = ap
    (λ (r : Behind). tail_of (behind_all r (replicate (length xs) (Fill w)))) (moved_fill s w) ∙ t.1 in
    (ap (λ (l : List Block). gains b s l) h ∙ e, ap (λ (l : List Block). tail_of (behind_all s l)) h ∙ f)
part_gains b s kinds.Skip (x ∷ xs) h some =
    let t = skips_on b (length xs) s in
    (ap (λ (l : List Block). gains b s l) h ∙ t.0, ap (λ (l : List Block). tail_of (behind_all s l)) h ∙ t.1)
part_gains b s kinds.End (x ∷ xs) h some = absurd cc

-- the first of them alone
pub first_gain : (b : ℕ) (s : Behind) (k : RunKind) (x : Block) (xs : List Block) → AllOf k (x ∷ xs) → gain b s x ≡
    gain_of (tail_of s) k 1 b
first_gain b s kinds.Raw (Raw x) xs h = omega (arith, raw_one b s x)
first_gain b s kinds.Raw (Fill x) xs h = absurd h.0
first_gain b s kinds.Raw Skip xs h = absurd h.0
first_gain b s (kinds.Fill w) x xs h = let e : x ≡ Fill w = cc in rw e (fill_one b s w)
first_gain b s kinds.Skip x xs h = let e : x ≡ Skip = cc in rw e refl
first_gain b s kinds.End x xs h = absurd cc

-- ---- a segment that grows

behind-append : (s : Behind) (l m : List Block) → behind_all s (l ++ m) ≡ behind_all (behind_all s l) m
behind-append s [] m = refl
behind-append s (x ∷ l) m = behind-append (moved s x) l m

pub between_more : (l : List Block) (s e q : ℕ) → s ≤ e → between l s (e + q) ≡ between l s e ++ take q (drop e l)
between_more l s e q le =
    ap (λ (n : ℕ). take n (drop s l)) (omega arith) ∙ take-add (e - s) q (drop s l)
    ∙ ap (λ (r : List Block). between l s e ++ take q r)
    (drop-drop (e - s) s l ∙ ap (λ (n : ℕ). drop n l) (omega arith))

pub record Grown (b : ℕ) (l : List Block) (s e q : ℕ) (k : RunKind) (t : Tail) : Type 0 where
  pub weight : weight b (between l s (e + q)) ≡ weight b (between l s e) + gain_of t k q b
  pub tail : tail_of (behind_all Fresh (between l s (e + q))) ≡ tail_after t k

pub grown : (b : ℕ) (l : List Block) (s e q : ℕ) (k : RunKind) (t : Tail) → s ≤ e → e + q ≤ length l → 0 < q → t ≡
    tail_of (behind_all Fresh (between l s e)) → AllOf k (take q (drop e l)) → Grown b l s e q k t
grown b l s e q k t order within some tail all =
    let part = take q (drop e l) in
    let front = between l s e in
    let long : length part ≡ q = length-take-le q (drop e l) (omega (arith, length-drop {A = Block})) in
    let g = part_gains b (behind_all Fresh front) k part all (omega arith) in
    let more = between_more l s e q order in
    let same : gain_of (tail_of (behind_all Fresh front)) k (length part) b ≡ gain_of t k q b = cc in
    let heavy : weight b (front ++ part) ≡ weight b front + gain_of t k q b = omega
    (arith, weight_gains b (front ++ part), weight_gains b front, gains-append b Fresh front part, g.0, same) in
    record {
      weight = ap (λ (p : List Block). weight b p) more ∙ heavy;
      tail = ap (λ (p : List Block). tail_of (behind_all Fresh p)) more ∙ ap tail_of (behind-append Fresh front part) ∙
          g.1 ∙ ap (λ (u : Tail). tail_after u k) (sym tail);
    }

-- ---- the end of a segment

cap_fits : (t : Tail) (room b q : ℕ) → 0 < b → q ≤ cap_of t room b → 0 < q → room < head_of t + q * b → room < head_of t
    + b
cap_fits t room b q some capped one over = elim (cases_Bool (nat_lt (room - head_of t) b)) [
  | inl e ↦ let c : q ≤ 1 = rw e at capped in let o : q ≡ 1 = omega arith in let v : room < head_of t + 1 * b = rw o at
      over in omega arith
  | inr e ↦
      let c : q ≤ (room - head_of t) / b = rw e at capped in
      let m : b * q ≤ b * ((room - head_of t) / b) = mul-le-mul_left b c in
      let d : b * ((room - head_of t) / b) + (room - head_of t) % b ≡ room - head_of t = omega arith in
      let f : b ≤ room - head_of t = ltb-false (room - head_of t) b e in
      absurd (omega arith)
]

one_over : (k : RunKind) (t : Tail) (room b q : ℕ) → 0 < b → 0 < q → (k ≡ kinds.Raw → q ≤ cap_of t room b) → room <
    gain_of t k q b → room < gain_of t k 1 b
one_over kinds.Raw t room b q some one capped above = let c = cap_fits t room b q some (capped refl) one above in omega
    arith
one_over (kinds.Fill w) t room b q some one capped above = above
one_over kinds.Skip t room b q some one capped above = above
one_over kinds.End t room b q some one capped above = above

over_one : (b : ℕ) (front part rest : List Block) (q : ℕ) (k : RunKind) (t : Tail) (limit w : ℕ) → 0 < b → 0 < q → t ≡
    tail_of (behind_all Fresh front) → AllOf k (take q rest)
    → w ≡ weight b front → w ≤ limit → (k ≡ kinds.Raw → q ≤ cap_of t (limit - w) b) → limit - w < gain_of t k q b
    → (x : Block) (more : List Block) → rest ≡ x ∷ more → limit < weight b (front ++ x ∷ [])
over_one b front part rest zero k t limit w some one tail all same fits capped above x more d = absurd (omega arith)
over_one b front part rest (suc q) k t limit w some one tail all same fits capped above x more d =
    let these : AllOf k (x ∷ take q more) = rw d at all in
    let f = first_gain b (behind_all Fresh front) k x (take q more) these in
    let g : gain b (behind_all Fresh front) x ≡ gain_of t k 1 b = f ∙ ap (λ (u : Tail). gain_of u k 1 b) (sym tail) in
    let o = one_over k t (limit - w) b (suc q) some one capped above in
    omega (arith, weight_gains b (front ++ x ∷ []), weight_gains b front, gains-append b Fresh front (x ∷ []), g, o)

pub over : (b : ℕ) (l : List Block) (s e q : ℕ) (k : RunKind) (t : Tail) (limit w : ℕ) → 0 < b → 0 < q → t ≡ tail_of
    (behind_all Fresh (between l s e)) → AllOf k (take q (drop e l))
    → w ≡ weight b (between l s e) → w ≤ limit → (k ≡ kinds.Raw → q ≤ cap_of t (limit - w) b) → limit - w < gain_of t k
    q b
    → (x : Block) (more : List Block) → drop e l ≡ x ∷ more → limit < weight b (between l s e ++ x ∷ [])
over b l s e q k t limit w some one tail all same fits capped above x more d =
    over_one b (between l s e) [] (drop e l) q k t limit w some one tail all same fits capped above x more d

-- ---- the whole segment

pub first_piece : (b limit : ℕ) (l : List Block) (s e : ℕ) → 4 ≤ b → 64 + b ≤ limit → s ≤ e → e ≤ length l → weight b
    (between l s e) ≤ limit
    → ((x : Block) (more : List Block) → drop e l ≡ x ∷ more → limit < weight b (between l s e ++ x ∷ [])) → FirstPiece
    b l limit s e
first_piece b limit l s e four room order within fits ends =
    let test : List Block → Bool = λ part. nat_le (weight b part) limit in
    let there : drop (e - s) (drop s l) ≡ drop e l = drop-drop (e - s) s l ∙ ap (λ (n : ℕ). drop n l) (omega arith) in
    let cut = cut_at test (λ p c h. le-leb _ _ (omega (arith, leb-true _ _ h, weight_back b c p)))
    (λ x. one_fits limit b x four room) (drop s l) (e - s) []
    (le-leb _ _ fits) (λ x more d. lt-leb _ _ (ends x more (sym there ∙ d))) in
    record {
      order = order;
      within = within;
      fits = fits;
      cut = cut ∙ ap
          (λ (r : List Block). between l s e ∷ tail_parts test r) there;
    }

-- ---- the planner

-- a part more of the piece's own blocks
front_more : (l : List Block) (s e q : ℕ) → s ≤ e → front l s (e + q) ≡ front l s e ++ take q (drop e l)
front_more l s e q le = ap (λ (r : List Block). replicate s Skip ++ r) (between_more l s e q le) ∙ sym
    (append_assoc (replicate s Skip) (between l s e) (take q (drop e l)))

not_first : (n : ℕ) → 0 < n → last_kind tails.Fresh n ≡ kinds.Skip
not_first zero some = absurd (omega arith)
not_first (suc n) some = refl

-- the class of the last block is that of the last part
last_after : (t : Tail) (k : RunKind) (at q : ℕ) → 0 < q → is_end k ≡ false → last_kind (tail_after t k) (at + q) ≡ k
last_after t kinds.Raw at q some e = refl
last_after t (kinds.Fill w) at q some e = refl
last_after tails.Fresh kinds.Skip at q some e = not_first (at + q) (omega arith)
last_after tails.Skip kinds.Skip at q some e = refl
last_after tails.Raw kinds.Skip at q some e = refl
last_after (tails.Fill w) kinds.Skip at q some e = refl
last_after t kinds.End at q some e = absurd cc

pub planned_on : (b : ℕ) (l : List Block) (p : Planner) (r : Run) (more : ℕ) (t : Tail) (j : RunKind)
    (c : PieceContents) →
    Planned b l p → PartOf l p.at.block r → 0 < r.blocks → more ≡ gain_of p.tail r.kind r.blocks b → t ≡ tail_after
    p.tail r.kind
    → j ≡ last_kind p.tail p.at.block → c ≡ with_blocks p.contents j r.kind r.blocks b
    → Planned b l (record { first = p.first; at = r.next; tail = t; weight = p.weight + more; contents = c })
planned_on b l p r more t j c plan part some gains ends behind grows =
    let g = grown b l p.first p.at.block r.blocks r.kind p.tail plan.order part.within some plan.tail part.all in
    let long : length (take r.blocks (drop p.at.block l)) ≡ r.blocks = length-take-le r.blocks (drop p.at.block l)
    (omega (arith, part.within, length-drop p.at.block l)) in
    let held = contents_on b (front l p.first p.at.block) (take r.blocks (drop p.at.block l)) p.contents j r.kind
    r.blocks plan.contents (behind ∙ plan.last) part.all some long in
    let on = front_more l p.first p.at.block r.blocks plan.order in
    let going = not_end_some r.kind (take r.blocks (drop p.at.block l)) part.all (omega arith) in
    record {
      order = omega (arith, part.next, plan.order);
      within = omega (arith, part.next, part.within);
      weight = rw part.next (omega (arith, plan.weight, gains, g.weight));
      tail = rw part.next (ends ∙ sym g.tail);
      last = rw part.next (ap (λ (u : Tail). last_kind u (p.at.block + r.blocks)) ends ∙ last_after p.tail r.kind
          p.at.block r.blocks some going ∙ sym (ap (λ (xs : List Block). last_of kinds.End xs) on ∙ held.1));
      contents = rw part.next (rw on (rw grows held.0));
    }

-- ---- the numbers, whatever the source gave

pub even_on : (p : Planner) (r : Run) (more : ℕ) (t : Tail) (j : RunKind) (c : PieceContents) (b : ℕ) → Even p
    → r.next.block
    ≡ p.at.block + r.blocks → 0 < r.blocks → is_end r.kind ≡ false → more ≡ gain_of p.tail r.kind r.blocks b → t ≡
    tail_after p.tail r.kind
    → j ≡ last_kind p.tail p.at.block → c ≡ with_blocks p.contents j r.kind r.blocks b
    → Even (record { first = p.first; at = r.next; tail = t; weight = p.weight + more; contents = c })
even_on p r more t j c b even next some going gains ends behind grows = record {
  order = omega (arith, even.order);
  chunks = let z = ap (λ (x : PieceContents). x.chunks) grows in omega (arith, z, even.chunks, opens_le j r.kind);
  written = let z = ap (λ (x : PieceContents). x.written) grows in omega
      (arith, z, even.written, held_le r.kind r.blocks);
  least = let z : c.bytes ≡ p.contents.bytes + (opens_len j r.kind + copy_len r.kind r.blocks b) = ap
      (λ (x : PieceContents). x.bytes) grows in omega (arith, z, even.least);
  slim = let z : c.bytes ≡ p.contents.bytes + (opens_len j r.kind + copy_len r.kind r.blocks b) = ap
      (λ (x : PieceContents). x.bytes) grows in rw (next, z, ends, gains, behind)
      (slim_on p.tail r.kind p.at.block r.blocks b p.contents.bytes p.weight some going even.slim);
}
  where
    opens_le : (j k : RunKind) → opens j k ≤ 1
    opens_le j k = elim (cases_Bool (alike_kinds j k)) [ inl e ↦ rw e (omega arith) | inr e ↦ rw e (omega arith) ]

    held_le : (k : RunKind) (q : ℕ) → held k q ≤ q
    held_le kinds.Raw q = omega arith
    held_le (kinds.Fill w) q = omega arith
    held_le kinds.Skip q = omega arith
    held_le kinds.End q = omega arith

    slim_on : (t : Tail) (k : RunKind) (at q b bytes weight : ℕ) → 0 < q → is_end k ≡ false → Slim t at bytes weight →
        Slim (tail_after t k) (at + q) (bytes + (opens_len (last_kind t at) k + copy_len k q b))
        (weight + gain_of t k q b)
    slim_on tails.Fresh kinds.Raw zero q b bytes weight some e s = omega (arith, s.0, s.2 refl)
    slim_on tails.Fresh kinds.Raw (suc at) q b bytes weight some e s = omega (arith, s.0, s.1)
    slim_on tails.Skip kinds.Raw at q b bytes weight some e s = omega (arith, s)
    slim_on tails.Raw kinds.Raw at q b bytes weight some e s = omega (arith, s)
    slim_on (tails.Fill w) kinds.Raw at q b bytes weight some e s = omega (arith, s)
    slim_on tails.Fresh (kinds.Fill w) zero q b bytes weight some e s = omega (arith, s.0, s.2 refl)
    slim_on tails.Fresh (kinds.Fill w) (suc at) q b bytes weight some e s = omega (arith, s.0, s.1)
    slim_on tails.Skip (kinds.Fill w) at q b bytes weight some e s = omega (arith, s)
    slim_on tails.Raw (kinds.Fill w) at q b bytes weight some e s = omega (arith, s)
    slim_on (tails.Fill v) (kinds.Fill w) at q b bytes weight some e s = elim (cases_Bool (bytes_eq v w))
        [ inl f ↦ rw f (omega (arith, s)) | inr f ↦ rw f (omega (arith, s)) ]
    slim_on tails.Fresh kinds.Skip zero q b bytes weight some e s =
        (omega (arith, s.0), omega (arith, s.2 refl), λ z. absurd (omega arith))
    slim_on tails.Fresh kinds.Skip (suc at) q b bytes weight some e s =
        (omega (arith, s.0), omega (arith, s.1), λ z. absurd (omega arith))
    slim_on tails.Skip kinds.Skip at q b bytes weight some e s = omega (arith, s)
    slim_on tails.Raw kinds.Skip at q b bytes weight some e s = omega (arith, s)
    slim_on (tails.Fill w) kinds.Skip at q b bytes weight some e s = omega (arith, s)
    slim_on t kinds.End at q b bytes weight some e s = absurd cc

-- a piece that begins has nothing but what is skipped before it
pub planned_begin : (b : ℕ) (l : List Block) (from : Cursor) → from.block ≤ length l → Planned b l
    (record { first = from.block; at = from; tail = tails.Fresh; weight = 52; contents = contents_before from.block })
planned_begin b l from within =
    let none : between l from.block from.block ≡ [] = ap (λ (n : ℕ). take n (drop from.block l))
    (let z : from.block - from.block ≡ 0 = omega arith in z) in
    let only : front l from.block from.block ≡ replicate from.block Skip = ap
    (λ (r : List Block). replicate from.block Skip ++ r) none ∙ append-nil (replicate from.block Skip) in
    record {
      order = omega arith;
      within = within;
      weight = rw none refl;
      tail = rw none refl;
      last = rw only (sym (skips_last from.block));
      contents = rw only (skips_contents b from.block);
    }

pub ends_here : (b limit : ℕ) (l : List Block) (p : Planner) (r : Run) (more : ℕ) → 0 < b → Planned b l p → PartOf l
    p.at.block r → 0 < r.blocks → p.weight ≤ limit → Capped (cap_of p.tail (limit - p.weight) b) r
    → more ≡ gain_of p.tail r.kind r.blocks b → limit - p.weight < more → PlanEnds b l limit p
ends_here b limit l p r more some plan part one fits capped gains above =
    record {
      over = over b l p.first p.at.block r.blocks r.kind p.tail limit p.weight some one plan.tail part.all
          plan.weight fits capped.raw (omega (arith, gains, above));
    }

-- ---- what is read in vain at the end of a piece

fill_gain_le : (t : Tail) (w : List ℕ) → fill_gain_of t w ≤ head_of t + 16
fill_gain_le tails.Fresh w = omega arith
fill_gain_le tails.Skip w = omega arith
fill_gain_le tails.Raw w = omega arith
fill_gain_le (tails.Fill v) w = elim (cases_Bool (bytes_eq v w))
    [ inl e ↦ rw e (omega arith) | inr e ↦ rw e (omega arith) ]

pub last_ask : (t : Tail) (k : RunKind) (q size one room : ℕ) → 0 < size → one ≤ size →
    (k ≡ kinds.Raw → q ≤ cap_of t room size) → room < gain_of t k q size → cap_of t room size * one ≤ one + 16
last_ask t k q size one room some le capped above = elim (cases_Bool (nat_lt (room - head_of t) size)) [
  | inl e ↦ rw e (omega arith)
  | inr e ↦
      let cap = (room - head_of t) / size in
      let f : size ≤ room - head_of t = ltb-false (room - head_of t) size e in
      let d : size * cap + (room - head_of t) % size ≡ room - head_of t = omega arith in
      let m : cap * one ≤ cap * size = mul-le-mul_left cap le in
      rw e (kinds_of k cap (rw e at capped) above f d m)
]
  where
    kinds_of : (k : RunKind) (cap : ℕ) → (k ≡ kinds.Raw → q ≤ cap) → room < gain_of t k q size → size ≤ room - head_of t
        → size * cap + (room - head_of t) % size ≡ room - head_of t → cap * one ≤ cap * size → cap * one ≤ one + 16
    kinds_of kinds.Raw cap capped above f d m = let n : size * q ≤ size * cap = mul-le-mul_left size (capped refl) in
        absurd (omega arith)
    kinds_of (kinds.Fill w) cap capped above f d m = let g = fill_gain_le t w in omega arith
    kinds_of kinds.Skip cap capped above f d m = absurd (omega arith)
    kinds_of kinds.End cap capped above f d m = absurd (omega arith)

-- ---- a part that goes on within a raw chunk

pub cap_some : (t : Tail) (room b : ℕ) → 0 < b → 0 < cap_of t room b
cap_some t room b some = elim (cases_Bool (nat_lt (room - head_of t) b)) [
  | inl e ↦ rw e (omega arith)
  | inr e ↦
      let f : b ≤ room - head_of t = ltb-false (room - head_of t) b e in
      let d : b * ((room - head_of t) / b) + (room - head_of t) % b ≡ room - head_of t = omega arith in
      let low : (room - head_of t) % b < b = omega arith in
      rw e (not_zero ((room - head_of t) / b) (λ z. let y = rw z at d in omega (arith, y, f, low)))
]
  where
    not_zero : (n : ℕ) → (n ≡ 0 → ⊥) → 0 < n
    not_zero zero f = absurd (f refl)
    not_zero (suc n) f = omega arith

-- it has taken all the room that there was
pub fills_up : (t : Tail) (k : RunKind) (q b room : ℕ) → 0 < b → k ≡ kinds.Raw → q ≡ cap_of t room b → gain_of t k q b ≤
    room → (tail_after t k ≡ tails.Raw) × (room - gain_of t k q b < b)
fills_up t k q b room some is all fits = rw is (
  refl,
  elim (cases_Bool (nat_lt (room - head_of t) b)) [
    | inl e ↦
        let low = ltb-true (room - head_of t) b e in
        let one : q ≡ 1 = rw e at all in
        let f : head_of t + q * b ≤ room = rw is at fits in
        absurd (let g = rw one at f in omega (arith, g, low))
    | inr e ↦
        let some' = some in
        let whole : q ≡ (room - head_of t) / b = rw e at all in
        let d : b * ((room - head_of t) / b) + (room - head_of t) % b ≡ room - head_of t = omega arith in
        let low : (room - head_of t) % b < b = omega arith in
        let f : head_of t + q * b ≤ room = rw is at fits in
        let g = rw (sym whole) at d in
        omega (arith, g, low, f)
  ],
)

pub no_room : (t : Tail) (k : RunKind) (q b room : ℕ) → 0 < q → k ≡ kinds.Raw → t ≡ tails.Raw → room < b → gain_of t k q
    b ≤ room → ⊥
no_room t k q b room some raw behind little fits =
    let f : 0 + q * b ≤ room = rw (raw, behind) at fits in
    let m : b * 1 ≤ b * q = mul-le-mul_left b (let y : 1 ≤ q = omega arith in y) in
    omega (arith, f, m, little)

-- ---- a piece that is planned

-- the numbers with what is skipped after the segment
pub outlined : (b : ℕ) (l : List Block) (p : Planner) → AreBlocks b l → Planned b l p → (c : PieceContents) →
    (p.at.block < length l → c ≡ with_blocks p.contents (last_kind p.tail p.at.block) kinds.Skip (length l - p.at.block)
    b) → (length l ≤ p.at.block → c ≡ p.contents)
    → (c.chunks ≡ length (runs (framed p.first (between l p.first p.at.block) (length l - p.at.block)))) ×
    (c.written ≡ written_in (framed p.first (between l p.first p.at.block) (length l - p.at.block))) ×
    (c.bytes ≡ length (piece b (framed p.first (between l p.first p.at.block) (length l - p.at.block))))
outlined b l p good plan c more none = elim (cases_Bool (nat_lt p.at.block (length l))) [
  | inl e ↦
      let rest = replicate (length l - p.at.block) Skip in
      let low = ltb-true p.at.block (length l) e in
      let long : length rest ≡ length l - p.at.block = length-replicate {A = Block} (length l - p.at.block) Skip in
      let h = contents_on b (front l p.first p.at.block) rest p.contents (last_kind p.tail p.at.block) kinds.Skip
      (length l - p.at.block) plan.contents plan.last (skips_all (length l - p.at.block)) (omega (arith, low)) long
      in
      let held : IsContents b (framed p.first (between l p.first p.at.block) (length l - p.at.block)) c = rw (more low)
      h.0 in
      same held
  | inr e ↦
      let over = ltb-false p.at.block (length l) e in
      let zero_left : length l - p.at.block ≡ 0 = omega (arith, over) in
      let all : framed p.first (between l p.first p.at.block) (length l - p.at.block) ≡ front l p.first p.at.block = ap
      (λ (n : ℕ). front l p.first p.at.block ++ replicate n Skip) zero_left ∙ append-nil
      (front l p.first p.at.block) in
      let held : IsContents b (framed p.first (between l p.first p.at.block) (length l - p.at.block)) c = rw
      (none over, all) plan.contents in
      same held
]
  where
    good_frame : AreBlocks b (framed p.first (between l p.first p.at.block) (length l - p.at.block))
    good_frame = blocks_append b (front l p.first p.at.block) (replicate (length l - p.at.block) Skip)
        (blocks_append b (replicate p.first Skip) (between l p.first p.at.block) (blocks_skips b p.first)
        (blocks_take b (p.at.block - p.first) (drop p.first l) (blocks_drop b p.first l good)))
        (blocks_skips b (length l - p.at.block))

    same : IsContents b (framed p.first (between l p.first p.at.block) (length l - p.at.block)) c →
        (c.chunks ≡ length (runs (framed p.first (between l p.first p.at.block) (length l - p.at.block)))) ×
        (c.written ≡ written_in (framed p.first (between l p.first p.at.block) (length l - p.at.block))) ×
        (c.bytes ≡ length (piece b (framed p.first (between l p.first p.at.block) (length l - p.at.block))))
    same h =
        let f = framed p.first (between l p.first p.at.block) (length l - p.at.block) in
        (h.chunks ∙ sym (runs_count f), h.written, h.bytes ∙ sym (length_is b f good_frame))

-- no block follows after the last one
pub ends_last : (b limit : ℕ) (l : List Block) (p : Planner) → p.at.block ≡ length l → PlanEnds b l limit p
ends_last b limit l p e = record {
  over = λ x more is. absurd
      (let z : length (drop p.at.block l) ≡ suc (length more) = ap length is in omega
      (arith, z, e, length-drop p.at.block l));
}

-- ---- a planner that goes no further

pub planned_rests : (b : ℕ) (l : List Block) (p : Planner) → Planned b l p → Planned b l (rested p)
planned_rests b l p h = record {
  order = h.order;
  within = h.within;
  weight = h.weight;
  tail = h.tail;
  last = h.last;
  contents = h.contents;
}

pub even_rests : (p : Planner) → Even p → Even (rested p)
even_rests p h = record { order = h.order; chunks = h.chunks; written = h.written; least = h.least; slim = h.slim }

-- ---- a planner whose place moves on without a block

pub planned_still : (b : ℕ) (l : List Block) (p : Planner) (next : Cursor) → next.block ≡ p.at.block → Planned b l p →
    Planned b l (record { first = p.first; at = next; tail = p.tail; weight = p.weight; contents = p.contents })
planned_still b l p next e h = record {
  order = rw e h.order;
  within = rw e h.within;
  weight = rw e h.weight;
  tail = rw
      e h.tail;
  last = rw e h.last;
  contents = rw e h.contents;
}

pub even_still : (p : Planner) (next : Cursor) → next.block ≡ p.at.block → Even p → Even
    (record { first = p.first; at = next; tail = p.tail; weight = p.weight; contents = p.contents })
even_still p next e h = record {
  order = rw e h.order;
  chunks = rw e h.chunks;
  written = rw e h.written;
  least =
      h.least;
  slim = rw e h.slim;
}

pub ends_rests : (b : ℕ) (l : List Block) (limit : ℕ) (p : Planner) → PlanEnds b l limit p → PlanEnds b l limit
    (rested p)
ends_rests b l limit p h = record { over = h.over }
