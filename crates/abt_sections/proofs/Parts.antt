-- Devices that are borrowed one after another, out of a slice.
use Rattle.std.proofs.Common.{◌≡◌, ℕ, zero, suc, ◌+◌, ◌<◌, ◌≤◌, List, [], ◌∷◌, ◌++◌, length, take, map, get_or, set}
use Rattle.std.proofs.Common.{refl, sym, ap, ◌∙◌, arith, replicate, ◌-◌, Result, Ok}
use Rattle.std.proofs.lemmas.List.{length-map, map-set, set-get_or, take_all, take_more, take_more_set, get_or_default}
use Rattle.std.proofs.lemmas.List.{get_or_append_left}
use Rattle.std.proofs.lemmas.List.Sums.{sum_by-set}
use Rattle.abt_io.specs.Lent.{OnlyReads, OnlyReadsAll}
use Rattle.abt_io.specs.declared.device.Source as sources
use Rattle.abt_sections.proofs.Causes.{on_ok_then}
use Rattle.abt_sections.specs.Fields.{filled}

pub get_map : {S T : Type 0} (f : S → T) (ps : List S) (i : ℕ) (d : S) → get_or (map f ps) i (f d) ≡ f (get_or ps i d)
get_map f [] i d = refl
get_map f (p ∷ ps) zero d = refl
get_map f (p ∷ ps) (suc i) d = get_map f ps i d

-- what one that was borrowed keeps, all keep
pub kept : {S T : Type 0} (f : S → T) (ps : List S) (i : ℕ) (d s' : S) → f s' ≡ f (get_or ps i d)
    → map f (set ps i s') ≡ map f ps
kept {S} {T} f ps i d s' same =
    map-set f ps i s'
    ∙ ap (λ (b : T). set (map f ps) i b) (same ∙ sym (get_map f ps i d))
    ∙ set-get_or (map f ps) i (f d)

-- the next of the parts
pub next_part : {S T : Type 0} (f : S → T) (ps ps0 : List S) (i : ℕ) (d : S) → map f ps ≡ map f ps0 → i < length ps
    → take (i + 1) (map f ps0) ≡ take i (map f ps0) ++ (f (get_or ps i d) ∷ [])
next_part {S} {T} f ps ps0 i d same h =
    ap (λ (l : List T). take (i + 1) l) (sym same)
    ∙ take_more (map f ps) i (f d) (omega (arith, length-map ps f))
    ∙ ap (λ (b : T). take i (map f ps) ++ (b ∷ [])) (get_map f ps i d)
    ∙ ap (λ (l : List T). take i l ++ (f (get_or ps i d) ∷ [])) same

-- where the sizes are those of the parts, the next part's is the next of them
pub part_size : {S : Type 0} (f : S → ℕ) (ps ps0 : List S) (i : ℕ) (d : S) (sizes : List ℕ) → map f ps ≡ map f ps0
    → sizes ≡ filled 5 (map f ps0) → i < length ps → f (get_or ps i d) ≡ get_or sizes i 0
part_size f ps ps0 i d sizes same is h =
    let k : i < length (map f ps) = omega (arith, length-map ps f) in
    sym (get_map f ps i d)
    ∙ get_or_default (map f ps) i (f d) 0 k
    ∙ sym (get_or_append_left (map f ps) (replicate (5 - length (map f ps)) 0) 0 i k)
    ∙ ap (λ (l : List ℕ). get_or (filled 5 l) i 0) same
    ∙ ap (λ (l : List ℕ). get_or l i 0) (sym is)

-- what all keep, the next of them keeps
pub part_same : {S T : Type 0} (f : S → T) (ps ps0 : List S) (i : ℕ) (d : S) → map f ps ≡ map f ps0
    → f (get_or ps i d) ≡ f (get_or ps0 i d)
part_same {S} {T} f ps ps0 i d same = sym (get_map f ps i d) ∙ ap (λ (l : List T). get_or l i (f d)) same
    ∙ get_map f ps0 i d

-- the sizes of those that were borrowed so far, with one more
pub sizes_next : {S : Type 0} (f : S → ℕ) (ps : List S) (i : ℕ) (s' : S) (sizes : List ℕ) → i < length ps
    → i < length sizes → take i (map f ps) ≡ take i sizes → f s' ≡ get_or sizes i 0
    → take (i + 1) (map f (set ps i s')) ≡ take (i + 1) sizes
sizes_next f ps i s' sizes h k before here =
    ap (take (i + 1)) (map-set f ps i s')
    ∙ take_more_set (map f ps) i (f s') (omega (arith, h, length-map ps f))
    ∙ ap (λ (l : List ℕ). l ++ (f s' ∷ [])) before
    ∙ ap (λ (n : ℕ). take i sizes ++ (n ∷ [])) here
    ∙ sym (take_more sizes i 0 k)

-- and of all
pub sizes_all : {S : Type 0} (f : S → ℕ) (ps : List S) (sizes : List ℕ) (i n : ℕ) → length ps ≤ i → i ≡ n
    → take i (map f ps) ≡ take i sizes → map f ps ≡ take n sizes
sizes_all f ps sizes i n over is before =
    sym (take_all i (map f ps) (omega (arith, over, length-map ps f))) ∙ before ∙ ap (λ (k : ℕ). take k sizes) is

-- one of them was read, after all of them were
pub all_part : {X Y E F : Type 0} {y : Y} {r : Result X E} {A : Type 0} (s : sources.Ghosts A) (ps0 ps : List A)
    (i : ℕ) (d a : A) → i < length ps → OnlyReadsAll {E = F} (Ok y) s ps0 ps → OnlyReads r s (get_or ps i d) a
    → OnlyReadsAll r s ps0 (set ps i a)
all_part {r = r} s ps0 ps i d a within k e =
    let risen = sum_by-set s.read_faults ps i a d within in
    record {
      content = λ models. kept s.content ps i d a (e.content models) ∙ k.content models;
      size = λ models. kept s.size ps i d a (e.size models) ∙ k.size models;
      frame = kept s.read_frame ps i d a e.frame ∙ k.frame;
      faults = omega (arith, k.faults, risen, e.faults);
      clean = on_ok_then r (λ same. omega (arith, k.clean, risen, same)) e.clean;
    }
