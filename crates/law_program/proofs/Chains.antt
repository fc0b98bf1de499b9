-- Files that are flashed to a partition in turn.
use Rattle.std.proofs.Common.{◌≡◌, ◌≢◌, ℕ, List, [], ◌∷◌, map, Some, refl, sym, ◌∙◌, ap, subst}
use Rattle.std.specs.Prelude.{unwrap_or}
use Rattle.std.specs.List.{AllByRecursion}
use Rattle.abt_sparse.specs.Pieces.{flashed, flashed_in_turn}
use Rattle.sys_disk.specs.World.{World, Spares}
use Rattle.cmd_flash.specs.Files.{Between}
use Rattle.cmd_flash.specs.Flashing.{IsFlashed}
use Rattle.law_program.specs.InTurn.{FlashesEach, none, next}

pub same_file : (x y : ℕ) → Some x ≡ Some y → x ≡ y
same_file x y e = ap (λ o. unwrap_or o 0) e

-- each path leads to its file
abbrev pub LeadEach : World → List (List ℕ) → List ℕ → Type 0
LeadEach w [] [] = Unit {0}
LeadEach w [] (f ∷ fs) = ⊥
LeadEach w (p ∷ ps) [] = ⊥
LeadEach w (p ∷ ps) (f ∷ fs) = (w.at p ≡ Some f) × LeadEach w ps fs

-- they lead there still
lead_on : (onto : ℕ) (a b : World) → Spares onto a b → (ps : List (List ℕ)) (fs : List ℕ) → LeadEach a ps fs
    → LeadEach b ps fs
lead_on onto a b s [] [] l = tt
lead_on onto a b s [] (f ∷ fs) l = l
lead_on onto a b s (p ∷ ps) [] l = l
lead_on onto a b s (p ∷ ps) (f ∷ fs) l = (s.paths p f l.0, lead_on onto a b s ps fs l.1)

-- and hold what they held, where none of them is the one that is written
holds_on : (onto : ℕ) (a b : World) → Spares onto a b → (fs : List ℕ) → AllByRecursion (λ f. f ≢ onto) fs
    → map b.holds fs ≡ map a.holds fs
holds_on onto a b s [] others = refl
holds_on onto a b s (f ∷ fs) others = ap (λ x. x ∷ map b.holds fs) (s.files f others.0)
    ∙ ap (λ l. a.holds f ∷ l) (holds_on onto a b s fs others.1)

-- no file that is flashed to the partition is the partition's
apart_each : (partition : List ℕ) (onto : ℕ) (paths : List (List ℕ)) (fs : List ℕ) (a c : World)
    → a.at partition ≡ Some onto
    → LeadEach a paths fs → FlashesEach partition paths a c → AllByRecursion (λ f. f ≢ onto) fs
apart_each partition onto _ [] a c at lead (none _) = tt
apart_each partition onto _ (f ∷ fs) a c at lead (none _) = absurd lead
apart_each partition onto _ [] a c at lead (next path paths _ b _ n flash rest) = tt
apart_each partition onto _ (f ∷ fs) a c at lead (next path paths _ b _ n flash rest) =
    let onto_is : flash.onto ≡ onto = same_file _ _ (sym flash.here ∙ at) in
    let from_is : flash.from ≡ f = same_file _ _ (sym flash.there ∙ lead.0) in (
      λ same. flash.apart (from_is ∙ same ∙ sym onto_is),
      apart_each partition onto paths fs b c (flash.spares.paths partition onto at) (lead_on flash.onto a b flash.spares
          paths fs lead.1) rest,
    )

-- what the partition holds in the end
pub flashed_each : (partition : List ℕ) (onto : ℕ) (paths : List (List ℕ)) (fs : List ℕ) (a c : World)
    → a.at partition ≡ Some onto
    → LeadEach a paths fs → FlashesEach partition paths a c → c.holds onto ≡ flashed_in_turn (a.holds onto) (map
    a.holds fs)
flashed_each partition onto _ [] a _ at lead (none _) = refl
flashed_each partition onto _ (f ∷ fs) a _ at lead (none _) = absurd lead
flashed_each partition onto _ [] a c at lead (next path paths _ b _ n flash rest) = absurd lead
flashed_each partition onto _ (f ∷ fs) a c at lead (next path paths _ b _ n flash rest) =
    let onto_is : flash.onto ≡ onto = same_file _ _ (sym flash.here ∙ at) in
    let from_is : flash.from ≡ f = same_file _ _ (sym flash.there ∙ lead.0) in
    let here : b.at partition ≡ Some onto = flash.spares.paths partition onto at in
    let leads : LeadEach b paths fs = lead_on flash.onto a b flash.spares paths fs lead.1 in
    let others : AllByRecursion (λ g. g ≢ flash.onto) fs = subst (λ k. AllByRecursion (λ g. g ≢ k) fs) (sym onto_is)
    (apart_each partition onto paths fs b c here leads rest) in
    let one : b.holds onto ≡ flashed (a.holds onto) (a.holds f) = ap b.holds (sym onto_is) ∙ flash.so.holds
    ∙ ap (λ k. flashed (a.holds k) (a.holds flash.from)) onto_is
    ∙ ap (λ k. flashed (a.holds onto) (a.holds k)) from_is in
    flashed_each partition onto paths fs b c here leads rest
    ∙ ap (λ p. flashed_in_turn p (map b.holds fs)) one
    ∙ ap (λ l. flashed_in_turn (flashed (a.holds onto) (a.holds f)) l) (holds_on flash.onto a b flash.spares fs others)
