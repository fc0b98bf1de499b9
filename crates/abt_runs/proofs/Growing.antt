-- Runs that grow by parts.
use Rattle.std.proofs.Common.{◌≡◌, ◌↔◌, ℕ, zero, suc, ◌+◌, ◌-◌, ◌<◌, ◌≤◌, ◌==◌, true, false, List, [], ◌∷◌, ◌++◌}
use Rattle.std.proofs.Common.{length, take, drop, min, refl, sym, ap, subst, ◌∙◌, arith, inl, inr, Some, None}
use Rattle.std.proofs.Common.{if◌then◌else◌, eqb-true, length-drop, length-append}
use Rattle.std.proofs.lemmas.Bool.{cases_Bool}
use Rattle.std.proofs.lemmas.List.{drop-drop, length-take-le, take-append-drop}
use Rattle.std.proofs.Math.Seq.{take-add}
use Rattle.abt_sparse.specs.Block.{Block}
use Rattle.abt_sparse.specs.Runs.{runs}
use Rattle.abt_runs.specs.Part.{AllOf, PartOf, is_end, entry}
use Rattle.abt_runs.specs.Whole.{alike_kinds, blocks_of_first, first_run, cut_at, RunOf, and_part, room_in}
use Rattle.abt_runs.proofs.Alike.{kind_of, kind_is, Ended, runs_apart, runs_front, alike_same, all_append, not_end_some}
use Rattle.abt_runs.specs.declared.part.Cursor.{Cursor}
use Rattle.abt_runs.specs.declared.part.Run.{Run}
use Rattle.abt_runs.specs.declared.part.RunKind.{RunKind}
use Rattle.abt_runs.specs.declared.part.RunKind.TheVariants as kinds

-- the parts of r are blocks of its class from block i on, and it is of a class as soon as it has a block
pub record SoFar (l : List Block) (i : ℕ) (r : Run) : Type 0 where
  pub within : i + r.blocks ≤ length l
  pub next : r.next.block ≡ i + r.blocks
  pub all : AllOf r.kind (take r.blocks (drop i l))

-- ---- one part more, case by case

pub data Joins (r p : Run) : Run → Type 0 where
  moves : is_end p.kind ≡ false → p.blocks ≡ 0 → r.blocks ≡ 0
      → Joins r p (record { kind = r.kind; blocks = r.blocks; here = p.next; next = p.next })
  stays : is_end p.kind ≡ false → p.blocks ≡ 0 → 0 < r.blocks
      → Joins r p (record { kind = r.kind; blocks = r.blocks; here = r.here; next = p.next })
  begins : is_end p.kind ≡ false → 0 < p.blocks → r.blocks ≡ 0 → Joins r p p
  grows : is_end p.kind ≡ false → 0 < p.blocks → 0 < r.blocks → alike_kinds r.kind p.kind ≡ true
      → Joins r p (record { kind = r.kind; blocks = r.blocks + p.blocks; here = r.here; next = p.next })

pub data Rests (r p : Run) : Type 0 where
  ends : is_end p.kind ≡ true → Rests r p
  differs : 0 < p.blocks → 0 < r.blocks → alike_kinds r.kind p.kind ≡ false → Rests r p

not_zero : (n : ℕ) → (n == 0) ≡ false → 0 < n
not_zero zero h = absurd cc
not_zero (suc n) h = omega arith

pub joins : (r p s : Run) → and_part r p ≡ Some s → Joins r p s
joins r p s e = elim (cases_Bool (is_end p.kind)) [
  | inl h ↦ absurd (let f : None ≡ Some s = rw h at e in cc)
  | inr h ↦ elim (cases_Bool (p.blocks == 0)) [
    | inl z ↦ elim (cases_Bool (r.blocks == 0)) [
      | inl n ↦ let f : Some (record { kind = r.kind; blocks = r.blocks; here = p.next; next = p.next }) ≡ Some s =
          rw (h, z, n) at e in
          subst (λ (t : Run). Joins r p t)
          (let g : record { kind = r.kind; blocks = r.blocks; here = p.next; next = p.next } ≡ s = cc in g)
          (moves h (eqb-true p.blocks 0 z) (eqb-true r.blocks 0 n))
      | inr n ↦ let f : Some (record { kind = r.kind; blocks = r.blocks; here = r.here; next = p.next }) ≡ Some s =
          rw (h, z, n) at e in
          subst (λ (t : Run). Joins r p t)
          (let g : record { kind = r.kind; blocks = r.blocks; here = r.here; next = p.next } ≡ s = cc in g)
          (stays h (eqb-true p.blocks 0 z) (not_zero r.blocks n))
    ]
    | inr z ↦ elim (cases_Bool (r.blocks == 0)) [
      | inl n ↦ let f : Some p ≡ Some s = rw (h, z, n) at e in
          subst (λ (t : Run). Joins r p t) (let g : p ≡ s = cc in g)
          (begins h (not_zero p.blocks z) (eqb-true r.blocks 0 n))
      | inr n ↦ elim (cases_Bool (alike_kinds r.kind p.kind)) [
        | inl k ↦ let f : Some (record { kind = r.kind; blocks = r.blocks + p.blocks; here = r.here; next = p.next })
            ≡ Some s = rw (h, z, n, k) at e in
            subst (λ (t : Run). Joins r p t)
            (let g : record { kind = r.kind; blocks = r.blocks + p.blocks; here = r.here; next = p.next } ≡ s = cc in g)
            (grows h (not_zero p.blocks z) (not_zero r.blocks n) k)
        | inr k ↦ absurd (let f : None ≡ Some s = rw (h, z, n, k) at e in cc)
      ]
    ]
  ]
]

pub rests : (r p : Run) → and_part r p ≡ None → Rests r p
rests r p e = elim (cases_Bool (is_end p.kind)) [
  | inl h ↦ ends h
  | inr h ↦ elim (cases_Bool (p.blocks == 0)) [
    | inl z ↦ absurd (let f : Some
        (record { kind = r.kind; blocks = r.blocks; here = (if r.blocks == 0 then p.next else r.here); next = p.next })
        ≡ None = rw (h, z) at e in cc)
    | inr z ↦ elim (cases_Bool (r.blocks == 0)) [
      | inl n ↦ absurd (let f : Some p ≡ None = rw (h, z, n) at e in cc)
      | inr n ↦ elim (cases_Bool (alike_kinds r.kind p.kind)) [
        | inl k ↦ absurd (let f : Some
            (record { kind = r.kind; blocks = r.blocks + p.blocks; here = r.here; next = p.next }) ≡ None =
            rw (h, z, n, k) at e in cc)
        | inr k ↦ differs (not_zero p.blocks z) (not_zero r.blocks n) k
      ]
    ]
  ]
]

-- ---- the blocks

front : (l : List Block) (i n m : ℕ) → take (n + m) (drop i l) ≡ take n (drop i l) ++ take m (drop (i + n) l)
front l i n m = take-add n m (drop i l) ∙ ap (λ (r : List Block). take n (drop i l) ++ take m r) (drop-drop n i l)

pub so_far : (l : List Block) (i : ℕ) (r p s : Run) → Joins r p s → SoFar l i r → PartOf l r.next.block p → SoFar l i s
so_far l i r p _ (moves h z n) g part =
    record { within = g.within; next = omega (arith, part.next, g.next); all = g.all }
so_far l i r p _ (stays h z n) g part =
    record { within = g.within; next = omega (arith, part.next, g.next); all = g.all }
so_far l i r p _ (begins h z n) g part =
    let at : r.next.block ≡ i = omega (arith, g.next) in
    record {
      within = omega (arith, part.within);
      next = omega (arith, part.next);
      all = subst (λ (j : ℕ). AllOf p.kind (take p.blocks (drop j l))) at part.all;
    }
so_far l i r p _ (grows h z n k) g part =
    let same = alike_same r.kind p.kind k in
    let behind : AllOf r.kind (take p.blocks (drop (i + r.blocks) l)) =
    subst (λ (j : RunKind). AllOf j (take p.blocks (drop (i + r.blocks) l))) (sym same)
    (subst (λ (j : ℕ). AllOf p.kind (take p.blocks (drop j l))) g.next part.all) in
    record {
      within = omega (arith, part.within, g.next);
      next = omega (arith, part.next, g.next);
      all = subst (λ (xs : List Block). AllOf r.kind xs) (sym (front l i r.blocks p.blocks))
          (all_append r.kind _ _ g.all behind);
    }

cut_same : (k : RunKind) (cap n : ℕ) → (k ≡ kinds.Raw → n ≤ cap) → n ≡ cut_at k cap n
cut_same kinds.Raw cap n h = let le = h refl in omega arith
cut_same (kinds.Fill w) cap n h = refl
cut_same kinds.Skip cap n h = refl
cut_same kinds.End cap n h = refl

long_front : (l : List Block) (i n : ℕ) → i + n ≤ length l → length (take n (drop i l)) ≡ n
long_front l i n le = length-take-le n (drop i l) (omega (arith, length-drop i l))

apart : (l : List Block) (i n : ℕ) → drop i l ≡ take n (drop i l) ++ drop (i + n) l
apart l i n = sym (take-append-drop n (drop i l)) ∙ ap (λ (r : List Block). take n (drop i l) ++ r) (drop-drop n i l)

whole_run : (cap : ℕ) (l : List Block) (i : ℕ) (r : Run) → SoFar l i r → 0 < r.blocks
    → (r.kind ≡ kinds.Raw → r.blocks ≤ cap) → Ended r.kind (drop (i + r.blocks) l) → RunOf cap l i r
whole_run cap l i r g some few e =
    let long = long_front l i r.blocks g.within in
    let first : runs (drop i l) ≡ take r.blocks (drop i l) ∷ runs (drop (i + r.blocks) l) = ap runs (apart l i r.blocks)
    ∙ runs_apart r.kind (take r.blocks (drop i l)) (drop (i + r.blocks) l) g.all (omega (arith, long)) e in
    record {
      within = g.within;
      next = g.next;
      all = g.all;
      whole = cut_same r.kind cap r.blocks few
          ∙ ap (λ (n : ℕ). cut_at r.kind cap n)
          (sym long ∙ ap (λ (gs : List (List Block)). length (blocks_of_first gs)) (sym first));
      ended = λ h. absurd (let f = not_end_some r.kind (take r.blocks (drop i l)) g.all (omega (arith, long)) in
          let t : is_end r.kind ≡ true = h in cc);
      none = λ z. absurd (omega arith);
    }

nothing_left : (l : List Block) (i : ℕ) → length l ≤ i → drop i l ≡ []
nothing_left [] zero le = refl
nothing_left [] (suc i) le = refl
nothing_left (x ∷ l) zero le = absurd (omega arith)
nothing_left (x ∷ l) (suc i) le = nothing_left l i (omega arith)

no_run : (cap : ℕ) (l : List Block) (i : ℕ) (r : Run) → SoFar l i r → r.blocks ≡ 0 → r.kind ≡ kinds.End → i ≡ length l
    → RunOf cap l i r
no_run cap l i r g none kind end =
    let empty = nothing_left l i (omega arith) in
    record {
      within = g.within;
      next = g.next;
      all = g.all;
      whole = none ∙ sym (ap (λ (k : RunKind). cut_at k cap (length (first_run (drop i l)))) kind
          ∙ ap (λ (xs : List Block). length (first_run xs)) empty);
      ended = λ h. end;
      none = λ z. ap is_end kind;
    }

ended_by : (k j : RunKind) (l : List Block) (i q : ℕ) → alike_kinds k j ≡ false → AllOf j (take q (drop i l)) → 0 < q
    → i + q ≤ length l → Ended k (drop i l)
ended_by k j l i q other all some le = parts (drop i l) refl
  where
    parts : (rest : List Block) → drop i l ≡ rest → Ended k rest
    parts [] e = tt
    parts (y ∷ rest) e = first q some all e
      where
        first : (n : ℕ) → 0 < n → AllOf j (take n (drop i l)) → drop i l ≡ y ∷ rest → alike_kinds k (kind_of y) ≡ false
        first zero s a e = absurd (omega arith)
        first (suc n) s a e =
            let these : AllOf j (y ∷ take n rest) = rw e at a in
            ap (λ (x : RunKind). alike_kinds k x) (kind_is j y (take n rest) these) ∙ other

-- ---- it is whole

pub stops : (cap : ℕ) (l : List Block) (i : ℕ) (r p : Run) → Rests r p → SoFar l i r → PartOf l r.next.block p
    → (r.blocks ≡ 0 → r.kind ≡ kinds.End) → (r.kind ≡ kinds.Raw → r.blocks ≤ cap) → RunOf cap l i r
stops cap l i r p (ends h) g part none few = elim (cases_Bool (r.blocks == 0)) [
  | inl z ↦ let n = eqb-true r.blocks 0 z in
      no_run cap l i r g n (none n) (let e = part.ended h in omega (arith, e, g.next))
  | inr z ↦ whole_run cap l i r g (not_zero r.blocks z) few (let e = part.ended h in
      subst (λ (xs : List Block). Ended r.kind xs) (sym (nothing_left l (i + r.blocks) (omega (arith, e, g.next)))) tt)
]
stops cap l i r p (differs z n k) g part none few =
    whole_run cap l i r g n few
    (subst (λ (j : ℕ). Ended r.kind (drop j l)) g.next
    (ended_by r.kind p.kind l r.next.block p.blocks k part.all z part.within))

pub is_full : (cap : ℕ) (l : List Block) (i : ℕ) (r : Run) → SoFar l i r → r.kind ≡ kinds.Raw → r.blocks ≡ cap → 0 < cap
    → RunOf cap l i r
is_full cap l i r g kind full some =
    let long = long_front l i r.blocks g.within in
    let v = runs_front r.kind (take r.blocks (drop i l)) (drop (i + r.blocks) l) g.all (omega (arith, long)) in
    let first : runs (drop i l) ≡ (take r.blocks (drop i l) ++ v.0) ∷ v.1 = ap runs (apart l i r.blocks) ∙ v.2 in
    let most : length (first_run (drop i l)) ≡ length (take r.blocks (drop i l)) + length v.0 =
    ap (λ (gs : List (List Block)). length (blocks_of_first gs)) first
    ∙ length-append (take r.blocks (drop i l)) v.0 in
    record {
      within = g.within;
      next = g.next;
      all = g.all;
      whole = (let z : r.blocks ≡ min cap (length (first_run (drop i l))) = omega (arith, most, long) in z)
          ∙ ap (λ (k : RunKind). cut_at k cap (length (first_run (drop i l)))) (sym kind);
      ended = λ h. absurd (let f : is_end r.kind ≡ false = ap is_end kind in let t : is_end r.kind ≡ true = h in cc);
      none = λ z. absurd (omega arith);
    }

-- ---- the numbers

pub next_is : (r p s : Run) → Joins r p s → s.next ≡ p.next
next_is r p _ (moves h z n) = refl
next_is r p _ (stays h z n) = refl
next_is r p _ (begins h z n) = refl
next_is r p _ (grows h z n k) = refl

pub blocks_are : (r p s : Run) → Joins r p s → s.blocks ≡ r.blocks + p.blocks
blocks_are r p _ (moves h z n) = omega arith
blocks_are r p _ (stays h z n) = omega arith
blocks_are r p _ (begins h z n) = omega arith
blocks_are r p _ (grows h z n k) = refl

pub here_is : (P : Cursor → Type 0) (r p s : Run) → Joins r p s → P r.here → (r.blocks ≡ 0 → P p.here)
    → (r.blocks ≡ 0 → p.blocks ≡ 0 → P p.next) → P s.here
here_is P r p _ (moves h z n) a b c = c n z
here_is P r p _ (stays h z n) a b c = a
here_is P r p _ (begins h z n) a b c = b n
here_is P r p _ (grows h z n k) a b c = a

pub none_is : (r p s : Run) → Joins r p s → (r.blocks ≡ 0 → r.kind ≡ kinds.End) → s.blocks ≡ 0 → s.kind ≡ kinds.End
none_is r p _ (moves h z n) none e = none n
none_is r p _ (stays h z n) none e = absurd (omega arith)
none_is r p _ (begins h z n) none e = absurd (omega arith)
none_is r p _ (grows h z n k) none e = absurd (omega arith)

-- a run that is none has no block
pub end_is : (r p s : Run) → Joins r p s → (is_end r.kind ≡ true → r.blocks ≡ 0) → is_end s.kind ≡ true → s.blocks ≡ 0
end_is r p _ (moves h z n) ended e = n
end_is r p _ (stays h z n) ended e = ended e
end_is r p _ (begins h z n) ended e = absurd cc
end_is r p _ (grows h z n k) ended e = absurd (let f = ended e in omega (arith, f))

-- it is none exactly where no block is left
pub none_left : (r : Run) (from next count : ℕ) → (r.blocks ≡ 0 → r.kind ≡ kinds.End)
    → (is_end r.kind ≡ true → r.blocks ≡ 0) → next ≡ from + r.blocks → next ≤ count → (r.blocks ≡ 0 → next ≡ count)
    → is_end r.kind ≡ true ↔ from ≡ count
none_left r from next count none ended at within left =
    (λ e. let n = ended e in omega (arith, n, left n, at), λ e. ap is_end (none (omega (arith, e, at, within))))

-- the part after a run without a block is the end
pub rests_at : (r p : Run) → Rests r p → r.blocks ≡ 0 → is_end p.kind ≡ true
rests_at r p (ends h) n = h
rests_at r p (differs z s k) n = absurd (omega arith)

pub raw_is : (P : Cursor → Type 0) (r p s : Run) → Joins r p s → (r.blocks ≡ 0 → r.kind ≡ kinds.End)
    → (r.kind ≡ kinds.Raw → P r.here) → (p.kind ≡ kinds.Raw → 0 < p.blocks → P p.here) → s.kind ≡ kinds.Raw → P s.here
raw_is P r p _ (moves h z n) none a b k = absurd (let f : r.kind ≡ kinds.End = none n in cc)
raw_is P r p _ (stays h z n) none a b k = a k
raw_is P r p _ (begins h z n) none a b k = b k z
raw_is P r p _ (grows h z n e) none a b k = a k

pub nowhere_is : (r p s : Run) → Joins r p s → (r.blocks ≡ 0 → r.here ≡ r.next) → s.blocks ≡ 0 → s.here ≡ s.next
nowhere_is r p _ (moves h z n) nowhere e = refl
nowhere_is r p _ (stays h z n) nowhere e = absurd (omega arith)
nowhere_is r p _ (begins h z n) nowhere e = absurd (omega arith)
nowhere_is r p _ (grows h z n k) nowhere e = absurd (omega arith)

raw_room : (cap n : ℕ) (k : RunKind) → k ≡ kinds.Raw → room_in k n cap ≡ cap - n
raw_room cap n k e = ap (λ (j : RunKind). room_in j n cap) e

pub few_are : (cap : ℕ) (r p s : Run) → Joins r p s → (r.blocks ≡ 0 → r.kind ≡ kinds.End)
    → (r.kind ≡ kinds.Raw → r.blocks ≤ cap) → (p.kind ≡ kinds.Raw → p.blocks ≤ room_in r.kind r.blocks cap)
    → s.kind ≡ kinds.Raw → s.blocks ≤ cap
few_are cap r p _ (moves h z n) none few more k = few k
few_are cap r p _ (stays h z n) none few more k = few k
few_are cap r p _ (begins h z n) none few more k = let m = more k in let e : room_in r.kind r.blocks cap ≡ cap =
    ap (λ (j : RunKind). room_in j r.blocks cap) (none n) in omega (arith, m, e)
few_are cap r p _ (grows h z n e) none few more k =
    let f = few k in
    let m = more (sym (alike_same r.kind p.kind e) ∙ k) in
    omega (arith, m, f, raw_room cap r.blocks r.kind k)

-- a run that has grown by as much as it had room for has none
pub room_after : (cap : ℕ) (r p s : Run) → Joins r p s → (r.blocks ≡ 0 → r.kind ≡ kinds.End)
    → 0 < room_in r.kind r.blocks cap → p.kind ≡ kinds.Raw → p.blocks ≡ room_in r.kind r.blocks cap
    → room_in s.kind s.blocks cap ≡ 0
room_after cap r p _ (moves h z n) none some raw e = absurd (omega arith)
room_after cap r p _ (stays h z n) none some raw e = absurd (omega arith)
room_after cap r p _ (begins h z n) none some raw e = let all : room_in r.kind r.blocks cap ≡ cap =
    ap (λ (j : RunKind). room_in j r.blocks cap) (none n) in omega (arith, e, all, raw_room cap p.blocks p.kind raw)
room_after cap r p _ (grows h z n k) none some raw e =
    let mine : r.kind ≡ kinds.Raw = alike_same r.kind p.kind k ∙ raw in
    omega (arith, e, raw_room cap r.blocks r.kind mine, raw_room cap (r.blocks + p.blocks) r.kind mine)

pub room_most : (cap n : ℕ) (k : RunKind) → room_in k n cap ≤ cap
room_most cap n kinds.Raw = omega arith
room_most cap n (kinds.Fill w) = omega arith
room_most cap n kinds.Skip = omega arith
room_most cap n kinds.End = omega arith

-- so where it goes on, it does at a chunk's beginning
pub entry_after : (cap : ℕ) (r p s : Run) → Joins r p s → (r.blocks ≡ 0 → r.kind ≡ kinds.End)
    → 0 < room_in r.kind r.blocks cap
    → (0 < p.next.used → (p.kind ≡ kinds.Raw) × (p.blocks ≡ room_in r.kind r.blocks cap))
    → 0 < room_in s.kind s.blocks cap → entry p.next ≡ 0
entry_after cap r p s j none some stops more = elim (cases_Bool (p.next.used == 0)) [
  | inl z ↦ rw z refl
  | inr z ↦ absurd (let f = stops (not_zero p.next.used z) in omega (arith, room_after cap r p s j none some f.0 f.1))
]

pub no_room : (cap n : ℕ) (k : RunKind) → 0 < cap → room_in k n cap ≡ 0 → (k ≡ kinds.Raw) × (cap ≤ n)
no_room cap n kinds.Raw some e = (refl, omega arith)
no_room cap n (kinds.Fill w) some e = absurd (omega arith)
no_room cap n kinds.Skip some e = absurd (omega arith)
no_room cap n kinds.End some e = absurd (omega arith)
