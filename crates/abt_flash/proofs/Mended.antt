-- What a stop leaves between two pieces and within one is mendable.
use Rattle.std.proofs.Common.{◌≡◌, ℕ, ◌+◌, ◌-◌, ◌*◌, ◌%◌, ◌≤◌, ◌<◌, ◌⊎◌, false, List, [], ◌∷◌, ◌++◌, length, get_or}
use Rattle.std.proofs.Common.{take, drop, Option, Some, None, refl, sym, ap, ◌∙◌, arith, inl, inr, nat_lt, nat_le}
use Rattle.std.proofs.Common.{ltb-true, ltb-false, take-append-drop, length-drop, set}
use Rattle.std.specs.Prelude.{unwrap_or, slice_get, is_some}
use Rattle.std.proofs.lemmas.Bool.{cases_Bool}
use Rattle.std.proofs.Math.Nat.{mul-le-mul_right}
use Rattle.std.proofs.Math.ListN.{get_or-append}
use Rattle.std.proofs.lemmas.List.{ext_get_or, get_or-append_right, length-replicate, length-take-le, get_or_past}
use Rattle.std.proofs.lemmas.List.{drop-drop, length-set, get_or-set_same, get_or-set_other}
use Rattle.std.proofs.lemmas.Option.{unwrap_or-slice_get, slice_get-get_or, slice_get_past}
use Rattle.abt_io.specs.Moment.{Moment, MayLeave, Keeps, is_pending}
use Rattle.abt_sparse.specs.Block.{Block, IsBlockSize, AreBlocks, cells, over}
use Rattle.abt_sparse.specs.Runs.{framed, weight, greedy}
use Rattle.abt_sparse.specs.Runs.{joined as runs_joined}
use Rattle.abt_sparse.specs.Mending.{Mendable}
use Rattle.abt_sparse.proofs.AreAll.{AreBlocks-parts}
use Rattle.abt_sparse.proofs.Bytewise.{none_there}
use Rattle.abt_sparse.proofs.Greedy.{joined-greedy}
use Rattle.abt_sparse.proofs.Lay.{nones, length-cells, cells-append, cells-framed}
use Rattle.abt_sparse.proofs.MendLaws.{mendable_touched, mendable_moved}
use Rattle.abt_pieces.specs.Gather.{frame}
use Rattle.abt_pieces.specs.Outline.{segment_at, first_part}
use Rattle.abt_pieces.specs.Plan.{between}
use Rattle.abt_flash.specs.Laying.{writes}
use Rattle.abt_flash.specs.Going.{blocks_at, MendableAt}

-- ---- what a crash may leave, and the bytes that must last

same_get : (x y : List ℕ) (i : ℕ) → slice_get x i ≡ slice_get y i → get_or x i 0 ≡ get_or y i 0
same_get x y i e = sym (unwrap_or-slice_get x i 0) ∙ ap (λ (o : Option ℕ). unwrap_or o 0) e ∙ unwrap_or-slice_get y i 0

-- whatever a crash may leave is mendable
pub leaves_mendable : (b : ℕ) (l : List Block) (p q : List ℕ) (done : ℕ) (m : Moment) → MendableAt b l p done m
    → MayLeave m q → Mendable b l p q done
leaves_mendable b l p q done m h may = mendable_touched b l p m.content q done h.content may.size same
  where
    same : (i : ℕ) → (i < done * b) ⊎ (get_or (cells b l) i None ≡ None) → get_or q i 0 ≡ get_or m.content i 0
    same i lasts = elim (cases_Bool (nat_lt i (length p))) [
      | inl t ↦ same_get q m.content i (may.kept i (h.settled i (ltb-true _ _ t) lasts))
      | inr t ↦ let le = ltb-false _ _ t in let long = h.content.long in let size = may.size in
          get_or_past q i 0 (omega (arith, le, long, size)) ∙ sym (get_or_past m.content i 0 (omega (arith, le, long)))
    ]

-- ---- the next piece touches none of these bytes

behind_none : (n i : ℕ) (cs : List (Option ℕ)) → i < n → get_or (nones n ++ cs) i None ≡ None
behind_none n i cs lt = get_or-append (nones n) cs None i (omega (arith, lt, length-replicate {A = Option ℕ} n None))
    ∙ none_there n i

behind_some : (n i : ℕ) (cs : List (Option ℕ)) → n ≤ i → get_or (nones n ++ cs) i None ≡ get_or cs (i - n) None
behind_some n i cs le = get_or-append_right (nones n) cs n i None (length-replicate n None) le

-- the cells of a piece are those of the image or none
piece_cells : (b : ℕ) (front s rest : List Block) (after i : ℕ) → b % 4 ≡ 0 → AreBlocks b (front ++ (s ++ rest))
    → ((get_or (cells b (framed (length front) s after)) i None ≡ get_or (cells b (front ++ (s ++ rest))) i None)
    × (length front * b ≤ i))
    ⊎ (get_or (cells b (framed (length front) s after)) i None ≡ None)
piece_cells b front s rest after i four h =
    let f = length front * b in
    let n = length s * b in
    let parts = AreBlocks-parts b front (s ++ rest) h in
    let more = AreBlocks-parts b s rest parts.1 in
    let long_f : length (cells b front) ≡ f = length-cells b front four parts.0 in
    let long_s : length (cells b s) ≡ n = length-cells b s four more.0 in
    let framed_is : cells b (framed (length front) s after) ≡ nones f ++ (cells b s ++ nones (after * b)) =
    cells-framed b (length front) s after in
    let whole_is : cells b (front ++ (s ++ rest)) ≡ cells b front ++ (cells b s ++ cells b rest) =
    cells-append b front (s ++ rest) ∙ ap (λ (cs : List (Option ℕ)). cells b front ++ cs) (cells-append b s rest) in
    elim (cases_Bool (nat_lt i f)) [
      | inl t ↦ let near : i < f = ltb-true _ _ t in inr (ap (λ (ds : List (Option ℕ)). get_or ds i None) framed_is
          ∙ behind_none f i (cells b s ++ nones (after * b)) near)
      | inr t ↦
          let far : f ≤ i = ltb-false _ _ t in
          let inside : get_or (cells b (framed (length front) s after)) i None ≡ get_or (cells b s
          ++ nones (after * b)) (i - f) None = ap (λ (ds : List (Option ℕ)). get_or ds i None) framed_is
          ∙ behind_some f i (cells b s ++ nones (after * b)) far in
          let within : get_or (cells b (front ++ (s ++ rest))) i None ≡ get_or (cells b s ++ cells b rest)
          (i - f) None = ap (λ (ds : List (Option ℕ)). get_or ds i None) whole_is
          ∙ get_or-append_right (cells b front) (cells b s ++ cells b rest) f i None long_f far in
          elim (cases_Bool (nat_lt (i - f) n)) [
            | inl u ↦
                let lt : i - f < length (cells b s) = omega (arith, ltb-true _ _ u, long_s) in
                inl (
                  inside ∙ get_or-append (cells b s) (nones (after * b)) None (i - f) lt
                      ∙ sym (within ∙ get_or-append (cells b s) (cells b rest) None (i - f) lt),
                  far,
                )
            | inr u ↦
                let le : n ≤ i - f = ltb-false _ _ u in
                inr (inside ∙ get_or-append_right (cells b s) (nones (after * b)) n (i - f) None long_s le
                ∙ none_there (after * b) (i - f - n))
          ]
    ]

-- an image before a block, the segment of the next piece, and what follows it
record Split (limit b : ℕ) (l : List Block) (s : ℕ) : Type 0 where
  rest : List Block
  joined : take s l ++ (segment_at b limit l s ++ rest) ≡ l
  front : length (take s l) ≡ s

split_at : (limit b : ℕ) (l : List Block) (s : ℕ) → s ≤ length l → Split limit b l s
split_at limit b l s le =
    let v = go (greedy (λ part. nat_le (weight b part) limit) [] (drop s l)) refl in
    record {
      rest = v.0;
      joined = ap (λ (x : List Block). take s l ++ x) v.1 ∙ take-append-drop s l;
      front = length-take-le s l le;
    }
  where
    go : (gs : List (List Block)) → greedy (λ part. nat_le (weight b part) limit) [] (drop s l) ≡ gs
        → (rest : List Block) × (segment_at b limit l s ++ rest ≡ drop s l)
    go [] e = (
      [],
      ap (λ (x : List Block). x ++ []) (ap first_part e) ∙ ap runs_joined (sym e)
          ∙ joined-greedy (λ part. nat_le (weight b part) limit) (drop s l) [],
    )
    go (g ∷ gs) e = (
      runs_joined gs,
      ap (λ (x : List Block). x ++ runs_joined gs) (ap first_part e)
          ∙ ap runs_joined (sym e) ∙ joined-greedy (λ part. nat_le (weight b part) limit) (drop s l) [],
    )

untouched : (limit b : ℕ) (l : List Block) (s i : ℕ) → b % 4 ≡ 0 → AreBlocks b l → s ≤ length l
    → (i < s * b) ⊎ (get_or (cells b l) i None ≡ None) → writes (cells b (blocks_at limit b l s)) i ≡ false
untouched limit b l s i four good le lasts =
    let sp = split_at limit b l s le in
    let seg = segment_at b limit l s in
    let after = length l - (s + length seg) in
    let pc = rw (sp.front, sp.joined) at (piece_cells b (take s l) seg sp.rest after i four (rw (sp.joined) good)) in
    elim pc [
      | inl t ↦ elim lasts [
        | inl near ↦ absurd (let far = t.1 in omega (arith, near, far))
        | inr none ↦ ap is_some
            (t.0 ∙ none)
      ]
      | inr e ↦ ap is_some e
    ]

-- while a piece is flashed over a mendable partition it stays so
pub mendable_within : (limit b : ℕ) (l : List Block) (p : List ℕ) (s : ℕ) (m n : Moment) → b % 4 ≡ 0 → AreBlocks b l
    → s ≤ length l → Keeps (writes (cells b (blocks_at limit b l s))) m n → MendableAt b l p s m → MendableAt b l p s n
mendable_within limit b l p s m n four good le keeps h = record {
  content = mendable_touched b l p m.content n.content s h.content keeps.size
      (λ i lasts. same_get n.content m.content i (keeps.bytes i (untouched limit b l s i four good le lasts)));
  settled = λ i lt lasts. keeps.pending i (untouched limit b l s i four good le lasts) (h.settled i lt lasts);
}

-- once it is flashed and synced, its blocks are whole too
pub mendable_behind : (b : ℕ) (l : List Block) (p : List ℕ) (s e : ℕ) (m n : Moment) → IsBlockSize b → AreBlocks b l
    → s ≤ e → e ≤ length l → n.content ≡ over m.content (cells b (frame l s e)) → n.pending ≡ []
    → MendableAt b l p s m → MendableAt b l p e n
mendable_behind b l p s e m n size good order within laid none h =
    let front : length (take s l) ≡ s = length-take-le s l (omega (arith, order, within)) in
    let rest : drop (e - s) (drop s l) ≡ drop e l = drop-drop (e - s) s l
    ∙ ap (λ (k : ℕ). drop k l) (let z : s + (e - s) ≡ e = omega (arith, order) in z) in
    let inner : between l s e ++ drop e l ≡ drop s l = ap (λ (x : List Block). between l s e ++ x) (sym rest)
    ∙ take-append-drop (e - s) (drop s l) in
    let parts : take s l ++ (between l s e ++ drop e l) ≡ l = ap (λ (x : List Block). take s l ++ x) inner
    ∙ take-append-drop s l in
    let long : length (between l s e) ≡ e - s =
    length-take-le (e - s) (drop s l) (omega (arith, within, length-drop s l)) in
    let end : s + (e - s) ≡ e = omega (arith, order) in
    let before : Mendable b (take s l ++ (between l s e ++ drop e l)) p m.content (length (take s l)) =
    rw (parts, front) (h.content) in
    let moved = mendable_moved b (take s l) (between l s e) (drop e l) (length l - e) p m.content size
    (rw parts good) before in
    let done : Mendable b l p (over m.content (cells b (frame l s e))) e = rw (parts, front, long, end) at moved in
    record { content = rw laid done; settled = λ i lt lasts. rw none refl }

-- with fewer blocks whole it is mendable too
pub mendable_before : (b : ℕ) (l : List Block) (p : List ℕ) (done less : ℕ) (m : Moment) → less ≤ done
    → MendableAt b l p done m → MendableAt b l p less m
mendable_before b l p done less m le h =
    let mono : less * b ≤ done * b = mul-le-mul_right b le in
    record {
      content = record {
        long = h.content.long;
        outside = h.content.outside;
        before = λ i lt e. h.content.before i lt
            (omega (arith, e, mono));
      };
      settled = λ i lt lasts. h.settled i lt (elim lasts [ inl e ↦ inl (omega (arith, e, mono)) | inr e ↦ inr e ]);
    }

-- where whatever a crash leaves is mendable, so is the state
pub mendable_now : (b : ℕ) (l : List Block) (p : List ℕ) (done : ℕ) (m : Moment)
    → ((q : List ℕ) → MayLeave m q → Mendable b l p q done) → MendableAt b l p done m
mendable_now b l p done m h = record { content = content; settled = settled }
  where
    content : Mendable b l p m.content done
    content = h m.content (record { size = refl; kept = λ i e. refl })

    -- with another byte at one place
    other_byte : (i j : ℕ) → (j ≡ i → ⊥)
        → slice_get (set m.content i (get_or m.content i 0 + 1)) j ≡ slice_get m.content j
    other_byte i j ne =
        let x = get_or m.content i 0 + 1 in
        let long = length-set m.content i x in
        elim (cases_Bool (nat_lt j (length m.content))) [
          | inl t ↦ let lt = ltb-true _ _ t in slice_get-get_or (set m.content i x) j 0 (omega (arith, lt, long))
              ∙ ap (λ (v : ℕ). Some v) (get_or-set_other m.content i j x 0 ne) ∙ sym (slice_get-get_or m.content j 0 lt)
          | inr t ↦ let le = ltb-false _ _ t in slice_get_past (set m.content i x) j (omega (arith, le, long))
              ∙ sym (slice_get_past m.content j le)
        ]

    settled : (i : ℕ) → i < length p → (i < done * b) ⊎ (get_or (cells b l) i None ≡ None)
        → is_pending m.pending i ≡ false
    settled i lt lasts = elim (cases_Bool (is_pending m.pending i)) [
      | inr f ↦ f
      | inl t ↦ absurd (
          let x = get_or m.content i 0 + 1 in
          let q = set m.content i x in
          let inside : i < length m.content = let long = content.long in omega (arith, lt, long) in
          let here : Mendable b l p q done =
          h q (record {
            size = length-set m.content i x;
            kept = λ j free.
                other_byte i j (λ e. let both : is_pending m.pending i ≡ false = rw e at free in cc);
          }) in
          let same : get_or q i 0 ≡ get_or m.content i 0 =
          elim lasts [
            | inl e ↦ here.before i lt e ∙ sym (content.before i lt e)
            | inr e ↦ here.outside i lt e
                ∙ sym (content.outside i lt e)
          ] in
          let changed = get_or-set_same m.content i x 0 inside in
          omega (arith, same, changed))
    ]

-- where nothing is pending a crash leaves what is there
pub leaves_same : (m : Moment) (q : List ℕ) → m.pending ≡ [] → MayLeave m q → q ≡ m.content
leaves_same m q none may =
    ext_get_or 0 q m.content may.size (λ i lt. same_get q m.content i (may.kept i (rw none refl)))
