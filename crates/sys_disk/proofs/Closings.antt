-- A file that was opened, written in place, and closed.
use Rattle.std.proofs.Common.{◌≡◌, ◌≢◌, ℕ, ◌+◌, List, [], ◌∷◌, ◌++◌, Some, refl, sym, ◌∙◌, ap, subst}
use Rattle.std.specs.Prelude.{Contains, unwrap_or}
use Rattle.std.proofs.lemmas.List.Elements.{Contains-push}
use Rattle.sys_disk.specs.InPlace.{OpensPart, SparesOthers, in_place}
use Rattle.sys_disk.specs.World.{World, OpenFiles, Spares, OpensFile, Ends, KeepsFile, reading}

-- what it holds then, and that all others are as they were
pub ends_in : (path x y : List ℕ) (a c : World) (h h' : OpenFiles) (o : OpensPart a path x h h') → Ends h'.part y a c
    → (c.holds o.file ≡ y) × Spares o.file a c
ends_in path x y a c h h' o ends = subst (λ (g : OpenFiles). Ends g.part y a c) o.taken ends

pub others_spared : (path x y : List ℕ) (a c : World) (h h' : OpenFiles) → OpensPart a path x h h' → Ends h'.part y a c
    → c.at ≡ a.at → SparesOthers path a c
others_spared path x y a c h h' o ends paths = record {
  paths = paths;
  files = λ f other. (ends_in path x y a c h h' o ends).1.files f
      (λ same. other (subst (λ g. a.at path ≡ Some g) (sym same) o.there));
}

-- a file that is read is not the one that is written in place
pub apart_from : (input path x y : List ℕ) (a : World) (h0 h h' : OpenFiles) (r : OpensFile a input x h0 h)
    (o : OpensPart a path y h h')
    → r.file ≢ o.file
apart_from input path x y a h0 h h' r o same =
    o.free (subst (λ f. Contains h.read f) same
    (subst (λ (g : OpenFiles). Contains g.read r.file) (sym r.taken) (Contains-push h0.read r.file)))

pub keeps_read : (input path x y z : List ℕ) (a c : World) (h0 h h' : OpenFiles) → OpensFile a input x h0 h
    → OpensPart a path y h h'
    → Ends h'.part z a c → KeepsFile input a c
keeps_read input path x y z a c h0 h h' r o ends = λ f there.
    (ends_in path y z a c h h' o ends).1.files f (λ same. apart_from input path x y a h0 h h' r o
    (ap (λ q. unwrap_or q 0) (sym r.there ∙ there) ∙ same))
