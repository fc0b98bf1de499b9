-- Lists of files that are read, each at its path.
use Rattle.std.proofs.Common.{arith, ◌≡◌, ℕ, suc, ◌+◌, ◌<◌, ◌≤◌, List, [], ◌∷◌, ◌++◌, length, take, drop, map, get_or}
use Rattle.std.proofs.Common.{Option, Some, sym, ◌∙◌, ap, subst}
use Rattle.std.specs.Prelude.{Contains, unwrap_or}
use Rattle.std.specs.List.{AllByRecursion}
use Rattle.std.proofs.lemmas.List.{map-append, take-append-drop, append_assoc, length-map, length-take-le}
use Rattle.std.proofs.lemmas.List.Elements.{Contains-append_left, Contains-append_right, Contains-push}
use Rattle.std.proofs.Math.Seq.{take-suc}
use Rattle.sys_disk.specs.World.{World, OnlyAt, untouched, in_output, KeepsFile}
use Rattle.cmd_expand.specs.Overlaying.{LeadTo}

-- ---- what is so of each

pub all_push : {X : Type 0} (P : X → Type 0) (xs : List X) (y : X) → AllByRecursion P xs → P y
    → AllByRecursion P (xs ++ (y ∷ []))
all_push P [] y all is = (is, tt)
all_push P (x ∷ xs) y all is = (all.0, all_push P xs y all.1 is)

-- ---- one element more

pub take_next : {X : Type 0} (xs : List X) (i : ℕ) (d : X) → i < length xs
    → take (suc i) xs ≡ take i xs ++ (get_or xs i d ∷ [])
take_next xs i d below = take-suc xs i d below

pub around : {X : Type 0} (xs : List X) (i : ℕ) (d : X) → i < length xs
    → xs ≡ take i xs ++ (get_or xs i d ∷ drop (suc i) xs)
around xs i d below =
    sym (take-append-drop (suc i) xs) ∙ ap (λ l. l ++ drop (suc i) xs) (take_next xs i d below)
    ∙ append_assoc (take i xs) (get_or xs i d ∷ []) (drop (suc i) xs)

pub paths_more : {X : Type 0} (f : X → List ℕ) (xs : List X) (i : ℕ) (d : X) → i < length xs
    → map f (take i xs) ++ (f (get_or xs i d) ∷ []) ≡ map f (take (i + 1) xs)
paths_more f xs i d below =
    let next : suc i ≡ i + 1 = omega arith in
    sym (map-append f (take i xs) (get_or xs i d ∷ [])) ∙ ap (map f) (sym (take_next xs i d below))
    ∙ ap (λ k. map f (take k xs)) next

pub paths_around : {X : Type 0} (f : X → List ℕ) (xs : List X) (i : ℕ) (d : X) → i < length xs
    → map f xs ≡ map f (take i xs) ++ (f (get_or xs i d) ∷ map f (drop (suc i) xs))
paths_around f xs i d below =
    ap (map f) (around xs i d below) ∙ map-append f (take i xs) (get_or xs i d ∷ drop (suc i) xs)

pub paths_long : {X : Type 0} (f : X → List ℕ) (xs : List X) (i : ℕ) → i ≤ length xs → length (map f (take i xs)) ≡ i
paths_long f xs i below = length-map (take i xs) f ∙ length-take-le i xs below

-- ---- paths and files

pub lead_more : (world : World) (paths : List (List ℕ)) (files : List ℕ) (path : List ℕ) (file : ℕ)
    → LeadTo world paths files → world.at path ≡ Some file → LeadTo world (paths ++ (path ∷ [])) (files ++ (file ∷ []))
lead_more world paths files path file lead at =
    map-append world.at paths (path ∷ []) ∙ ap (λ l. l ++ (world.at path ∷ [])) lead
    ∙ ap (λ o. map (λ f. Some f) files ++ (o ∷ [])) at ∙ sym (map-append (λ f. Some f) files (file ∷ []))

pub as_many : (world : World) (paths : List (List ℕ)) (files : List ℕ) → LeadTo world paths files
    → length files ≡ length paths
as_many world paths files lead =
    let some : ℕ → Option ℕ = λ f. Some f in
    let files_long : length (map some files) ≡ length files = length-map files some in
    let paths_long : length (map world.at paths) ≡ length paths = length-map paths world.at in
    sym files_long ∙ sym (ap length lead) ∙ paths_long

head_of : (a b : Option ℕ) (xs ys : List (Option ℕ)) → a ∷ xs ≡ b ∷ ys → a ≡ b
head_of a b xs ys same = ap (λ (l : List (Option ℕ)). get_or l 0 a) same

tail_of : (a b : Option ℕ) (xs ys : List (Option ℕ)) → a ∷ xs ≡ b ∷ ys → xs ≡ ys
tail_of a b xs ys same = ap (λ (l : List (Option ℕ)). drop 1 l) same

-- ---- files that are read

pub each_read : (read files : List ℕ) → AllByRecursion (λ f. Contains (read ++ files) f) files
each_read read [] = tt
each_read read (f ∷ fs) =
    let here : Contains ((read ++ (f ∷ [])) ++ fs) f
    = Contains-append_left (read ++ (f ∷ [])) fs f (Contains-push read f) in (
      subst (λ l. Contains l f) (append_assoc read (f ∷ []) fs) here,
      subst (λ l. AllByRecursion (λ g. Contains l g) fs) (append_assoc read (f ∷ []) fs)
          (each_read (read ++ (f ∷ [])) fs),
    )

keeps_one : (read path output : List ℕ) (file : ℕ) (old new : World) → old.at path ≡ Some file → Contains read file
    → OnlyAt read output old new → KeepsFile path old new
keeps_one read path output file old new at is (untouched same) = λ g _. ap (λ w. w.holds g) same
keeps_one read path output file old new at is (in_output onto here free spares) =
    λ g h. spares.files g (λ same. free (subst (λ f. Contains read f)
    (ap (λ o. unwrap_or o 0) (sym at ∙ h) ∙ same) is))

pub keeps_read : (read output : List ℕ) (paths : List (List ℕ)) (files : List ℕ) (old new : World)
    → LeadTo old paths files → AllByRecursion (λ f. Contains read f) files → OnlyAt read output old new
    → AllByRecursion (λ path. KeepsFile path old new) paths
keeps_read read output [] files old new lead all only = tt
keeps_read read output (p ∷ ps) [] old new lead all only =
    absurd (let e : suc (length (map old.at ps)) ≡ 0 = ap length lead in omega (arith, e))
keeps_read read output (p ∷ ps) (f ∷ fs) old new lead all only =
    let here = head_of (old.at p) (Some f) (map old.at ps) (map (λ g. Some g) fs) lead in
    let rest = tail_of (old.at p) (Some f) (map old.at ps) (map (λ g. Some g) fs) lead in
    let first = keeps_one read p output f old new here all.0 only in
    (first, keeps_read read output ps fs old new rest all.1 only)

pub keeps_all_same : (paths : List (List ℕ)) (old new : World) → new ≡ old
    → AllByRecursion (λ path. KeepsFile path old new) paths
keeps_all_same [] old new same = tt
keeps_all_same (p ∷ ps) old new same = (λ f _. ap (λ w. w.holds f) same, keeps_all_same ps old new same)

-- what is among fewer files that are read
pub fewer_read : (read files output : List ℕ) (old new : World) → OnlyAt (read ++ files) output old new
    → OnlyAt read output old new
fewer_read read files output old new (untouched same) = untouched same
fewer_read read files output old new (in_output onto here free spares) =
    in_output onto here (λ is. free (Contains-append_left read files onto is)) spares

pub not_among : (read files : List ℕ) (file : ℕ) → ¬ Contains (read ++ files) file → ¬ Contains files file
not_among read files file free is = free (Contains-append_right read files file is)
