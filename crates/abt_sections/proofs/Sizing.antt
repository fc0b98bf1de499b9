-- The sizes of parts.
use Rattle.std.proofs.Common.{◌≡◌, ℕ, suc, ◌+◌, ◌-◌, ◌≤◌, ◌<◌, Bool, true, false, cond, List, [], ◌∷◌, ◌++◌, length}
use Rattle.std.proofs.Common.{take, drop, map, replicate, get_or, set, refl, sym, ap, ◌∙◌, append_assoc, arith}
use Rattle.std.proofs.Common.{length-append, Some, None, nat_lt, ◌==◌, sum}
use Rattle.std.proofs.lemmas.Bool.{le-ltb, lt-ltb}
use Rattle.std.proofs.lemmas.List.{length-map, length-take-le, take_more, drop_more, drop_all, set_at, get_or_default}
use Rattle.std.proofs.lemmas.List.{take_at}
use Rattle.std.proofs.lemmas.List.Sums.{sum-map}
use Rattle.abt_sections.specs.Cause.{total}
use Rattle.abt_headers.specs.declared.sections.Section.{Section}
use Rattle.abt_sections.specs.declared.fault.SectionFault.TheVariants.{SectionTooLarge}
use Rattle.abt_headers.specs.declared.sections.Section.TheVariants.{Kernel, Ramdisk, Second, RecoveryDtbo, Dtb}
use Rattle.abt_headers.specs.declared.sections.Section.TheVariants.{Signature}
use Rattle.abt_sections.specs.Fields.{filled}
use Rattle.abt_sections.specs.Refusal.{size_refusal, boot_names}
use Rattle.abt_sections.proofs.Parts.{get_map}

pub passes : (names : List Section) (sizes : List ℕ) (i : ℕ) (d : Section) → i < length names → i < length sizes
    → get_or sizes i 0 ≤ 4294967295 → size_refusal (drop (i + 1) names) (drop (i + 1) sizes) ≡ size_refusal
    (drop i names) (drop i sizes)
unfolding size_refusal
passes names sizes i d h k le =
    let a = drop_more names i d h in
    let b = drop_more sizes i 0 k in
    let t : nat_lt 4294967295 (get_or sizes i 0) ≡ false = le-ltb _ _ le in
    sym (
    ap (λ (l : List Section). size_refusal l (drop i sizes)) a
    ∙ ap (λ (l : List ℕ). size_refusal (get_or names i d ∷ drop (i + 1) names) l) b
    ∙ ap (λ (t : Bool). cond t (Some (SectionTooLarge (get_or names i d)))
    (size_refusal (drop (i + 1) names) (drop (i + 1) sizes))) t
    )

pub stops : (names : List Section) (sizes : List ℕ) (i : ℕ) (d : Section) → i < length names → i < length sizes
    → 4294967295 < get_or sizes i 0
    → size_refusal (drop i names) (drop i sizes) ≡ Some (SectionTooLarge (get_or names i d))
unfolding size_refusal
stops names sizes i d h k lt =
    let a = drop_more names i d h in
    let b = drop_more sizes i 0 k in
    let t : nat_lt 4294967295 (get_or sizes i 0) ≡ true = lt-ltb _ _ lt in
    ap (λ (l : List Section). size_refusal l (drop i sizes)) a
    ∙ ap (λ (l : List ℕ). size_refusal (get_or names i d ∷ drop (i + 1) names) l) b
    ∙ ap (λ (t : Bool). cond t (Some (SectionTooLarge (get_or names i d)))
    (size_refusal (drop (i + 1) names) (drop (i + 1) sizes))) t

none_of : (names : List Section) → size_refusal names [] ≡ None
unfolding size_refusal
none_of [] = refl
none_of (n ∷ names) = refl

pub none_left : (names : List Section) (sizes : List ℕ) (i : ℕ) → length sizes ≤ i
    → size_refusal (drop i names) (drop i sizes) ≡ None
unfolding size_refusal
none_left names sizes i h = ap (λ (l : List ℕ). size_refusal (drop i names) l) (drop_all i sizes h)
    ∙ none_of (drop i names)

pub fill_more : (size i n : ℕ) (all now : List ℕ) → i < length all → i < size → n ≡ get_or all i 0
    → now ≡ filled size (take i all) → set now i n ≡ filled size (take (i + 1) all)
fill_more size i n all now h k e before =
    let front : length (take i all) ≡ i = length-take-le i all (omega arith) in
    let left : size - length (take i all) ≡ suc (size - (i + 1)) = omega arith in
    let next : take (i + 1) all ≡ take i all ++ (n ∷ []) = take_more all i 0 h
    ∙ ap (λ (m : ℕ). take i all ++ (m ∷ [])) (sym e) in
    let long : size - length (take i all ++ (n ∷ [])) ≡ size - (i + 1) =
    omega (arith, length-append (take i all) (n ∷ [])) in
    ap (λ (l : List ℕ). set l i n) (before ∙ ap (λ (m : ℕ). take i all ++ replicate m 0) left)
    ∙ set_at (take i all) 0 (replicate (size - (i + 1)) 0) n i front
    ∙ sym (append_assoc (take i all) (n ∷ []) (replicate (size - (i + 1)) 0))
    ∙ ap (λ (m : ℕ). (take i all ++ (n ∷ [])) ++ replicate m 0) (sym long)
    ∙ ap (λ (l : List ℕ). filled size l) (sym next)

pub sizes_are : {S : Type 0} (size : S → ℕ) (content : S → List ℕ) (ps : List S)
    → ((s : S) → size s ≡ length (content s)) → map size ps ≡ map length (map content ps)
sizes_are size content [] h = refl
sizes_are size content (p ∷ ps) h = let e = h p in let r = sizes_are size content ps h in rw (e, r) refl

pub size_at : {S : Type 0} (f : S → ℕ) (ps : List S) (i n : ℕ) (d : S) → i < length ps → n ≡ f d → d ≡ get_or ps i d
    → n ≡ get_or (map f ps) i 0
size_at f ps i n d h e is =
    e ∙ ap f is ∙ sym (get_map f ps i d) ∙ get_or_default (map f ps) i (f d) 0 (omega (arith, length-map ps f))

few_of : (a b c d : Bool)
    → length (cond a (Kernel ∷ Ramdisk ∷ Second ∷ []) (cond b (Kernel ∷ Ramdisk ∷ Second ∷ RecoveryDtbo
    ∷ []) (cond c (Kernel ∷ Ramdisk ∷ Second ∷ RecoveryDtbo ∷ Dtb ∷ []) (cond d (Kernel ∷ Ramdisk ∷ []) (Kernel
    ∷ Ramdisk ∷ Signature ∷ []))))) ≤ 5
few_of true b c d = omega arith
few_of false true c d = omega arith
few_of false false true d = omega arith
few_of false false false true = omega arith
few_of false false false false = omega arith

pub few : (version : ℕ) → length (boot_names version) ≤ 5
few version = few_of (version == 0) (version == 1) (version == 2) (version == 3)

-- what parts have in all
pub sum_of_sizes : {S : Type 0} (f : S → ℕ) (ps : List S) (sizes : List ℕ) (n : ℕ) → sizes ≡ filled 5 (map f ps)
    → n ≡ length ps → sum (take n sizes) ≡ total f ps
sum_of_sizes f ps sizes n is long =
    ap (λ (l : List ℕ). sum (take n l)) is
    ∙ ap sum (take_at (map f ps) (replicate (5 - length (map f ps)) 0) n (omega (arith, long, length-map ps f)))
    ∙ sum-map f ps
