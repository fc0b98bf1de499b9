-- What a hasher holds: parts one after another, each with its size.
use Rattle.std.proofs.Common.{◌≡◌, ℕ, zero, suc, ◌+◌, ◌≤◌, ◌<◌, List, [], ◌∷◌, ◌++◌, length, take, drop, map, replicate}
use Rattle.std.proofs.Common.{get_or, refl, sym, ap, subst, ◌∙◌, append_assoc, append-nil, arith, length-drop}
use Rattle.std.proofs.Common.{drop-drop, Bool, true, false, cond, nat_lt}
use Rattle.std.proofs.lemmas.List.{length-map, length-take-le, take_all}
use Rattle.std.proofs.lemmas.Bool.{false≢true}
use Rattle.byteorder.specs.Endian.{little_bytes}
use Rattle.sha1.specs.declared.Sha1.{Sha1}
use Rattle.sha1.specs.Sha1.{Holds, sha1}
use Rattle.abt_io.proofs.Parts.{take_plus}
use Rattle.abt_headers.specs.declared.sections.SectionPlace.{SectionPlace}
use Rattle.std.specs.Prelude.{IsTrue}
use Rattle.abt_sections.specs.BootCanon.{id_for}
use Rattle.abt_sections.specs.Id.{sized_parts, id_of}
use Rattle.abt_sections.specs.Layout.{part_of, parts_of}
use Rattle.abt_sections.proofs.Growing.{written_next}
use Rattle.abt_sections.proofs.Parts.{next_part}

-- one ask more
pub hashed_next : (h : Sha1) (s s' t : List ℕ) (from at n : ℕ) → s' ≡ s
    → Holds h ((t ++ take at (drop from s)) ++ take n (drop (from + at) s'))
    → Holds h (t ++ take (at + n) (drop from s))
hashed_next h s s' t from at n same held =
    let x = drop from s in
    let e : (t ++ take at x) ++ take n (drop (from + at) s') ≡ t ++ take (at + n) x =
    ap (λ (l : List ℕ). (t ++ take at x) ++ take n (drop (from + at) l)) same
    ∙ append_assoc t (take at x) (take n (drop (from + at) s))
    ∙ ap (λ (l : List ℕ). t ++ (take at x ++ take n l)) (sym (drop-drop at from s))
    ∙ ap (λ (l : List ℕ). t ++ l) (take_plus at n x) in
    subst (λ (l : List ℕ). Holds h l) e held

-- one ask more of a whole source
pub hashed_front : (h : Sha1) (s s' t : List ℕ) (at n : ℕ) → s' ≡ s
    → Holds h ((t ++ take at s) ++ take n (drop at s')) → Holds h (t ++ take (at + n) s)
hashed_front h s s' t at n same held =
    subst (λ (l : List ℕ). Holds h l) (written_next t (t ++ take at s) ((t ++ take at s)
    ++ take n (drop at s')) s s' at n same refl refl) held

sized-append : (xs : List (List ℕ)) (b : List ℕ) → sized_parts (xs ++ (b ∷ [])) ≡ (sized_parts xs ++ b)
    ++ little_bytes 4 (length b)
sized-append [] b = append-nil (b ++ little_bytes 4 (length b))
sized-append (x ∷ xs) b =
    ap (λ (l : List ℕ). (x ++ little_bytes 4 (length x)) ++ l) (sized-append xs b)
    ∙ sym (append_assoc (x ++ little_bytes 4 (length x)) (sized_parts xs ++ b) (little_bytes 4 (length b)))
    ∙ ap (λ (l : List ℕ). l ++ little_bytes 4 (length b))
    (sym (append_assoc (x ++ little_bytes 4 (length x)) (sized_parts xs) b))

-- one part more, all of whose n bytes were hashed
pub hash_more : (h : Sha1) (xs : List (List ℕ)) (b : List ℕ) (n : ℕ) → n ≡ length b
    → Holds h ((sized_parts xs ++ take n b) ++ little_bytes 4 n) → Holds h (sized_parts (xs ++ (b ∷ [])))
hash_more h xs b n long held =
    let front : take n b ≡ b = take_all n b (omega arith) in
    let e : (sized_parts xs ++ take n b) ++ little_bytes 4 n ≡ sized_parts (xs ++ (b ∷ [])) =
    ap (λ (l : List ℕ). (sized_parts xs ++ l) ++ little_bytes 4 n) front
    ∙ ap (λ (k : ℕ). (sized_parts xs ++ b) ++ little_bytes 4 k) long
    ∙ sym (sized-append xs b) in
    subst (λ (l : List ℕ). Holds h l) e held

pub hash_next : (h : Sha1) (xs ys : List (List ℕ)) → ys ≡ xs → Holds h (sized_parts xs) → Holds h (sized_parts ys)
hash_next h xs ys e held = subst (λ (l : List (List ℕ)). Holds h (sized_parts l)) (sym e) held

pub id_is : {S : Type 0} (f : S → List ℕ) (ps : List S) (i : ℕ) (digest id : List ℕ) → length ps ≤ i
    → digest ≡ sha1 (sized_parts (take i (map f ps))) → id ≡ digest ++ replicate 12 0 → id ≡ id_of (map f ps)
unfolding id_of
id_is f ps i digest id h e field =
    field ∙ ap (λ (l : List ℕ). l ++ replicate 12 0) e
    ∙ ap (λ (l : List (List ℕ)). sha1 (sized_parts l) ++ replicate 12 0)
    (take_all i (map f ps) (omega (arith, length-map ps f)))

pub there_length : (x : List ℕ) (at n : ℕ) → (0 < n → at + n ≤ length x) → length (take n (drop at x)) ≡ n
there_length x at zero h = refl
there_length x at (suc n) h = let k = h (omega arith) in
    length-take-le (suc n) (drop at x) (omega (arith, length-drop at x, k))

-- what is stored at one place more
pub hash_stored : (h : Sha1) (x x' : List ℕ) (ps : List SectionPlace) (i : ℕ) (p : SectionPlace) → x' ≡ x
    → i < length ps → p ≡ get_or ps i p → (0 < p.size → p.at + p.size ≤ length x')
    → Holds h ((sized_parts (take i (parts_of x ps)) ++ take p.size (drop p.at x')) ++ little_bytes 4 p.size)
    → Holds h (sized_parts (take (i + 1) (parts_of x ps)))
hash_stored h x x' ps i p same lt is there held =
    let f = part_of x in
    let b = part_of x p in
    let long : length b ≡ p.size = there_length x p.at p.size (λ k. omega (arith, there k, ap length same)) in
    let next : take (i + 1) (parts_of x ps) ≡ take i (parts_of x ps) ++ (b ∷ []) = next_part f ps ps i p refl lt
    ∙ ap (λ (q : SectionPlace). take i (parts_of x ps) ++ (f q ∷ [])) (sym is) in
    let all : take p.size b ≡ b = take_all p.size b (omega (arith, long)) in
    let e : (sized_parts (take i (parts_of x ps)) ++ take p.size (drop p.at x'))
    ++ little_bytes 4 p.size ≡ (sized_parts (take i (parts_of x ps)) ++ take p.size b) ++ little_bytes 4 p.size =
    ap (λ (l : List ℕ). (sized_parts (take i (parts_of x ps)) ++ take p.size (drop p.at l))
    ++ little_bytes 4 p.size) same
    ∙ ap (λ (l : List ℕ). (sized_parts (take i (parts_of x ps)) ++ l) ++ little_bytes 4 p.size) (sym all) in
    hash_next h (take i (parts_of x ps) ++ (b ∷ [])) (take (i + 1) (parts_of x ps)) next
    (hash_more h (take i (parts_of x ps)) b p.size (sym long) (subst (λ (l : List ℕ). Holds h l) e held))

-- the id of the versions that have one, of what was hashed; else zeros
pub wanted_id : (version : ℕ) (id : Bool) (h : Sha1) (d : List ℕ) (parts : List (List ℕ)) → id ≡ nat_lt version 3
    → (IsTrue id → Holds h (sized_parts parts))
    → (IsTrue id → (t : List ℕ) → Holds h t → d ≡ sha1 t ++ replicate 12 0) → ((IsTrue id → ⊥) → d ≡ replicate 32 0)
    → d ≡ id_for version parts
unfolding id_of
wanted_id version true h d parts is held wanted unwanted = wanted refl (sized_parts parts) (held refl)
    ∙ ap (λ (t : Bool). cond t (sha1 (sized_parts parts) ++ replicate 12 0) (replicate 32 0)) is
wanted_id version false h d parts is held wanted unwanted = unwanted false≢true
    ∙ ap (λ (t : Bool). cond t (sha1 (sized_parts parts) ++ replicate 12 0) (replicate 32 0)) is
