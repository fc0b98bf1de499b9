-- A prefix of blocks of one class.
use Rattle.std.proofs.Common.{◌≡◌, ℕ, zero, suc, List, [], ◌∷◌, length, take, drop, replicate, refl, ap, ◌∙◌, arith}
use Rattle.std.specs.List.{AllByRecursion}
use Rattle.std.proofs.lemmas.List.{take_all}
use Rattle.abt_sparse.specs.Block.{Block, Fill, Skip}
use Rattle.abt_runs.specs.Part.{IsRaw, AllOf}
use Rattle.abt_runs.specs.declared.part.RunKind.{RunKind}
use Rattle.abt_runs.specs.declared.part.RunKind.TheVariants as kinds

raws_take : (q : ℕ) (xs : List Block) → AllByRecursion IsRaw xs → AllByRecursion IsRaw (take q xs)
raws_take zero xs h = tt
raws_take (suc q) [] h = tt
raws_take (suc q) (x ∷ xs) h = (h.0, raws_take q xs h.1)

same_take : (q : ℕ) (x : Block) (xs : List Block) → xs ≡ replicate (length xs) x
    → take q xs ≡ replicate (length (take q xs)) x
same_take zero x xs h = refl
same_take (suc q) x [] h = refl
same_take (suc q) x (y ∷ xs) h =
    let e : y ≡ x = cc in
    let t : xs ≡ replicate (length xs) x = cc in
    let r = same_take q x xs t in
    cc

pub all_drop : (q : ℕ) (x : Block) (xs : List Block) → xs ≡ replicate (length xs) x
    → drop q xs ≡ replicate (length (drop q xs)) x
all_drop zero x xs h = h
all_drop (suc q) x [] h = refl
all_drop (suc q) x (y ∷ xs) h = all_drop q x xs (let t : xs ≡ replicate (length xs) x = cc in t)

pub all_take : (k : RunKind) (q : ℕ) (xs : List Block) → AllOf k xs → AllOf k (take q xs)
all_take kinds.Raw q xs h = raws_take q xs h
all_take (kinds.Fill w) q xs h = same_take q (Fill w) xs h
all_take kinds.Skip q xs h = same_take q Skip xs h
all_take kinds.End q xs h = ap (λ (l : List Block). take q l) h ∙ take_all q [] (omega arith)
