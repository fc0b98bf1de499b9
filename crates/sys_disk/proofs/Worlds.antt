-- What opening, creating and ending leave together, for who proves a command over any disk.
use Rattle.std.proofs.Common.{arith, ◌≡◌, ◌≢◌, ℕ, ◌+◌, List, [], ◌∷◌, ◌++◌, Option, Some, None, sym, ◌∙◌, ap, subst}
use Rattle.std.specs.Prelude.{Contains, unwrap_or, true, if◌then◌else◌, length, take}
use Rattle.std.proofs.lemmas.Bool.{true≢false}
use Rattle.std.proofs.lemmas.List.Elements.{Contains-append_left, Contains-push}
use Rattle.sys_disk.specs.Counts.{Counts}
use Rattle.sys_disk.specs.World.{World, OpenFiles, Spares, OpensFile, Creates, OnlyAt, untouched, in_output, Ends}
use Rattle.sys_disk.specs.World.{HoldsMost, MayWrite, SparesInUse, SparesRest, KeepsFile, ended}

pub spares_trans : (f : ℕ) (a b c : World) → Spares f a b → Spares f b c → Spares f a c
spares_trans f a b c s t = record {
  paths = λ p g h. t.paths p g (s.paths p g h);
  files = λ g n. t.files g n ∙ s.files g n;
}

-- an output that holds all of these bytes holds most of them
pub most_of_all : (o : Option ℕ) (bytes : List ℕ) (a b : World) → Ends o bytes a b → HoldsMost o bytes b
most_of_all None bytes a b ends = tt
most_of_all (Some file) bytes a b ends = record {
  kept = length bytes;
  few = omega arith;
  front = ap (take (length bytes)) ends.0;
}

-- what is not among the files that were read when the output was created, was not among fewer
pub fewer : (read read' : List ℕ) (f : ℕ) (path : List ℕ) (old new : World) → read' ≡ read ++ (f ∷ [])
    → OnlyAt read' path old new → OnlyAt read path old new
fewer read read' f path old new e (untouched same) = untouched same
fewer read read' f path old new e (in_output file at free spares) =
    in_output file at (λ c. free (subst (λ r. Contains r file) (sym e) (Contains-append_left read (f ∷ []) file c)))
    spares

-- a file that is read is none that was written
pub apart : (read read' : List ℕ) (f file : ℕ) → read' ≡ read ++ (f ∷ []) → ¬ Contains read' file → f ≢ file
apart read read' f file e free same =
    free (subst (λ g. Contains read' g) same (subst (λ r. Contains r f) (sym e) (Contains-push read f)))

keeps_beside : (input path : List ℕ) (read read' : List ℕ) (f : ℕ) (old new : World) → old.at input ≡ Some f
    → read' ≡ read ++ (f ∷ []) → OnlyAt read' path old new → KeepsFile input old new
keeps_beside input path read read' f old new at e (untouched same) = λ g _. ap (λ w. w.holds g) same
keeps_beside input path read read' f old new at e (in_output file here free spares) =
    λ g h. spares.files g (λ same. apart read read' f file e free (ap (λ o. unwrap_or o 0) (sym at ∙ h) ∙ same))

-- an output that was created, and then brought to its end or let go
pub only_written : (path : List ℕ) (h h' : OpenFiles) (a b c : World) → Creates path h h' a b → SparesRest h'.output b c
    → OnlyAt h.read path a c
only_written path h h' a b c made rest =
    let after : Spares made.file b c = subst (λ k. SparesRest k.output b c) made.begins rest in
    in_output made.file (after.paths path made.file made.there) made.free
    (spares_trans made.file a b c made.spares after)

-- behind an input that was opened, the output alone was touched
pub only_behind : (path input bytes : List ℕ) (h h' : OpenFiles) (a b c : World) → OpensFile a input bytes h h' → b ≡ a
    → OnlyAt h'.read path b c → OnlyAt h.read path a c
only_behind path input bytes h h' a b c opened same only =
    fewer h.read h'.read opened.file path a c (ap (λ k. k.read) opened.taken)
    (subst (λ w. OnlyAt h'.read path w c) same only)

-- and the input holds what it held
pub kept_behind : (path input bytes : List ℕ) (h h' : OpenFiles) (a b c : World) → OpensFile a input bytes h h' → b ≡ a
    → OnlyAt h'.read path b c → KeepsFile input a c
kept_behind path input bytes h h' a b c opened same only =
    keeps_beside input path h.read h'.read opened.file a c opened.there (ap (λ k. k.read) opened.taken)
    (subst (λ w. OnlyAt h'.read path w c) same only)

-- an input and an output were opened, and the output brought to its end: it was synced if outputs are
pub synced_behind : (path input bytes : List ℕ) (h h' h'' new : OpenFiles) (w a b : World)
    → OpensFile w input bytes h h'
    → Creates path h' h'' a b → (n : Counts) → new ≡ ended true n h''
    → new.syncs ≡ h.syncs + (if h.is_synced then 1 else 0)
synced_behind path input bytes h h' h'' new w a b opened made n done =
    ap (λ k. k.syncs) done ∙ ap (λ k. k.syncs + (if k.is_synced then 1 else 0)) made.begins
    ∙ ap (λ k. k.syncs + (if k.is_synced then 1 else 0)) opened.taken

-- ---- a device that is in use

-- a path that may be written is no such device
pub spared_if_may : (path : List ℕ) (h : OpenFiles) (a c : World) → MayWrite path h → SparesInUse path h a c
spared_if_may path h a c may used refused = absurd (true≢false (sym (may used) ∙ refused))

-- behind an input that was opened
pub may_behind : (path input bytes : List ℕ) (h h' : OpenFiles) (a : World) → OpensFile a input bytes h h'
    → MayWrite path h' → MayWrite path h
may_behind path input bytes h h' a opened may = subst (λ k. MayWrite path k) opened.taken may

pub spared_behind : (path input bytes : List ℕ) (h h' : OpenFiles) (a b c : World) → OpensFile a input bytes h h'
    → b ≡ a → SparesInUse path h' b c → SparesInUse path h a c
spared_behind path input bytes h h' a b c opened same spared used refused =
    subst (λ k. SparesInUse path k b c) opened.taken spared used refused ∙ same
