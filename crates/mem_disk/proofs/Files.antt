-- What paths lead to and files hold after one of them was written, or made.
use Rattle.std.proofs.Common.{zero, suc, ◌+◌, ◌≡◌, ℕ, ◌<◌, List, [], ◌∷◌, ◌++◌, Option, Some, None, Err, refl, sym, ◌∙◌}
use Rattle.std.proofs.Common.{ap, arith, subst}
use Rattle.std.specs.Prelude.{Contains, get_or, set, length, string_bytes, true, false}
use Rattle.std.proofs.lemmas.List.{length-append, length-set, map-append}
use Rattle.mem_disk.specs.Memory.{world_of_files, world_of, held_of, Untouched, RefusesAt, CountsMore}
use Rattle.mem_files.specs.Stored.{contents, leads}
use Rattle.mem_files.proofs.Paths.{leads_more, leads_new, holds_other, holds_new}
use Rattle.sys_disk.specs.DiskCalls.{CreatesOutput, LetsGo}
use Rattle.sys_disk.specs.Images.{HoldsSame}
use Rattle.sys_disk.specs.World.{World, MayWrite, Spares, SparesInUse, Ends, SparesRest, OnlyAt, untouched, in_output}
use Rattle.sys_disk.specs.World.{OpenFiles, HoldsMost, KeepsBegun, ended, counting}
use Rattle.sys_disk.specs.Counts.{Counts, call_of, no_counts}
use Rattle.sys_disk.proofs.Worlds.{most_of_all, spared_if_may}
use Rattle.sys_refusals.specs.declared.refusal.HostRefusal.{HostRefusal}
use Rattle.mem_disk.proofs.Sums.{swapped}
use Rattle.mem_disk.specs.declared.disk.MemoryDisk.{MemoryDisk}
use Rattle.mem_files.specs.declared.stored.MemoryFile.{MemoryFile}
use Rattle.mem_files.specs.declared.stored.MemoryPath.{MemoryPath}

-- one file is written
pub spares_set : (ps : List MemoryPath) (fs : List MemoryFile) (i : ℕ) (x : MemoryFile)
    → Spares i (world_of_files ps fs) (world_of_files ps (set fs i x))
spares_set ps fs i x = record { paths = λ p f h. h; files = λ f n. holds_other fs i x f n }

at_end : (xs : List (List ℕ)) (f : ℕ) → get_or (xs ++ ([] ∷ [])) f [] ≡ get_or xs f []
at_end [] zero = refl
at_end [] (suc f) = refl
at_end (x ∷ xs) zero = refl
at_end (x ∷ xs) (suc f) = at_end xs f

-- an empty file more holds what no file did
pub holds_more : (fs : List MemoryFile) (x : MemoryFile) → x.bytes.items ≡ [] → (f : ℕ)
    → get_or (contents (fs ++ (x ∷ []))) f [] ≡ get_or (contents fs) f []
holds_more fs x empty f = ap (λ l. get_or l f []) (map-append (λ y. y.bytes.items) fs (x ∷ []))
    ∙ ap (λ b. get_or (contents fs ++ (b ∷ [])) f []) empty ∙ at_end (contents fs) f

-- a path more, and maybe an empty file
pub spares_path : (ps : List MemoryPath) (q : MemoryPath) (fs : List MemoryFile) (file : ℕ)
    → Spares file (world_of_files ps fs) (world_of_files (ps ++ (q ∷ [])) fs)
spares_path ps q fs file = record { paths = λ p f h. leads_more ps q p f h; files = λ f n. refl }

pub spares_made : (ps : List MemoryPath) (q : MemoryPath) (fs : List MemoryFile) (x : MemoryFile) → x.bytes.items ≡ []
    → (file : ℕ) → Spares file (world_of_files ps fs) (world_of_files (ps ++ (q ∷ [])) (fs ++ (x ∷ [])))
spares_made ps q fs x empty file = record {
  paths = λ p f h. leads_more ps q p f h;
  files = λ f n. holds_more fs x empty f;
}

-- a file that exists still does after one was written, or made
pub there_set : (fs : List MemoryFile) (i : ℕ) (x : MemoryFile) (file : ℕ) → file < length fs
    → file < length (set fs i x)
there_set fs i x file below = let same = length-set fs i x in omega (arith, same, below)

pub there_more : (fs : List MemoryFile) (x : MemoryFile) (file : ℕ) → file < length fs
    → file < length (fs ++ (x ∷ []))
there_more fs x file below = let more = length-append fs (x ∷ []) in omega (arith, more, below)

-- the output that is open holds what was put into it
pub ends_put : (o : Option ℕ) (file : ℕ) (ps : List MemoryPath) (fs : List MemoryFile) (x : MemoryFile) → o ≡ Some file
    → file < length fs → Ends o x.bytes.items (world_of_files ps fs) (world_of_files ps (set fs file x))
ends_put o file ps fs x e below =
    subst (λ o. Ends o x.bytes.items (world_of_files ps fs) (world_of_files ps (set fs file x))) (sym e)
    (holds_new fs file x below, spares_set ps fs file x)

pub rest_put : (o : Option ℕ) (file : ℕ) (ps : List MemoryPath) (fs : List MemoryFile) (x : MemoryFile) → o ≡ Some file
    → SparesRest o (world_of_files ps fs) (world_of_files ps (set fs file x))
rest_put o file ps fs x e =
    subst (λ o. SparesRest o (world_of_files ps fs) (world_of_files ps (set fs file x))) (sym e)
    (spares_set ps fs file x)

-- a path and a file were made
pub leads_created : (ps ps' : List MemoryPath) (q : MemoryPath) (path : List ℕ) → ps' ≡ ps ++ (q ∷ [])
    → leads ps path ≡ None → string_bytes q.name ≡ path → leads ps' path ≡ Some q.file
leads_created ps ps' q path e none named = ap (λ l. leads l path) e ∙ leads_new ps q path none named

pub spares_created : (ps ps' : List MemoryPath) (q : MemoryPath) (fs fs' : List MemoryFile) (x : MemoryFile) (file : ℕ)
    → ps' ≡ ps ++ (q ∷ []) → fs' ≡ fs ++ (x ∷ []) → x.bytes.items ≡ []
    → Spares file (world_of_files ps fs) (world_of_files ps' fs')
spares_created ps ps' q fs fs' x file e d empty =
    subst (λ l. Spares file (world_of_files ps fs) (world_of_files l fs')) (sym e)
    (subst (λ l. Spares file (world_of_files ps fs) (world_of_files (ps ++ (q ∷ [])) l)) (sym d)
    (spares_made ps q fs x empty file))

-- a path was made alone
pub only_path : (read path : List ℕ) (ps ps' : List MemoryPath) (q : MemoryPath) (fs fs' : List MemoryFile)
    → ps' ≡ ps ++ (q ∷ []) → fs' ≡ fs → leads ps path ≡ None → string_bytes q.name ≡ path → ¬ Contains read q.file
    → OnlyAt read path (world_of_files ps fs) (world_of_files ps' fs')
only_path read path ps ps' q fs fs' e d none named free =
    in_output q.file (leads_created ps ps' q path e none named) free
    (subst (λ l. Spares q.file (world_of_files ps fs) (world_of_files l fs')) (sym e)
    (subst (λ l. Spares q.file (world_of_files ps fs) (world_of_files (ps ++ (q ∷ [])) l)) (sym d)
    (spares_path ps q fs q.file)))

-- nothing is changed after that
pub only_then : (read path : List ℕ) (a b c : World) → c ≡ b → OnlyAt read path a b → OnlyAt read path a c
only_then read path a b c e only = subst (λ w. OnlyAt read path a w) (sym e) only

-- nothing was done
pub refuses_untouched : (path : List ℕ) (a b : MemoryDisk) → Untouched a b → RefusesAt path a b
refuses_untouched path a b same = record {
  guarded = λ used refused. same.world;
  kept = same.held;
  only = untouched same.world;
  same = λ f. ap (λ w. w.holds f) same.world;
}

-- it was made, and could not be begun
pub refuses_created : (path : List ℕ) (file : ℕ) (a b c : MemoryDisk) → held_of b ≡ held_of a
    → HoldsSame (world_of a) (world_of b) → (world_of b).at path ≡ Some file → Spares file (world_of a) (world_of b)
    → ¬ Contains a.read.items file → Untouched b c → MayWrite path (held_of a) → RefusesAt path a c
refuses_created path file a b c held holds there made free same may = record {
  guarded = spared_if_may path (held_of a) (world_of a) (world_of c) may;
  kept = same.held ∙ held;
  only = only_then a.read.items path (world_of a) (world_of b) (world_of c) same.world (in_output file there free made);
  same = λ f. ap (λ w. w.holds f) same.world ∙ holds f;
}

-- it is so of a disk before that does not differ in what is modelled
pub refuses_at : (path path' : List ℕ) (old old' new : MemoryDisk) → held_of old' ≡ held_of old
    → world_of old' ≡ world_of old → path ≡ path' → RefusesAt path old new → RefusesAt path' old' new
refuses_at path path' old old' new held same e refused = record {
  guarded = subst (λ p. SparesInUse p (held_of old') (world_of old') (world_of new)) e
      (subst (λ w. SparesInUse path (held_of old') w (world_of new)) (sym same)
      (subst (λ (h : OpenFiles). SparesInUse path h (world_of old) (world_of new)) (sym held) refused.guarded));
  kept = refused.kept ∙ sym held;
  only = subst (λ p. OnlyAt old'.read.items p (world_of old') (world_of new)) e
      (subst (λ w. OnlyAt old'.read.items path w (world_of new)) (sym same)
      (subst (λ (h : OpenFiles). OnlyAt h.read path (world_of old) (world_of new)) (sym held) refused.only));
  same = λ f. refused.same f ∙ ap (λ w. w.holds f) (sym same);
}

-- no file that was begun has changed then
pub begun_then : (begun : List ℕ) (a b c : World) → c ≡ b → HoldsSame a b → KeepsBegun begun a c
begun_then begun a b c e same = λ f _. ap (λ w. w.holds f) e ∙ same f

-- no file has changed then, where the path may not be written
pub guarded_then : (path : List ℕ) (a b : MemoryDisk) (c : World) → c ≡ world_of b → RefusesAt path a b
    → SparesInUse path (held_of a) (world_of a) c
guarded_then path a b c e at used refused = e ∙ at.guarded used refused

-- and the refusal is counted
pub creates_path : {A : Type 0} (e : HostRefusal) (path : List ℕ) (written : A → List ℕ) (file faults : A → ℕ)
    (a b c : MemoryDisk) → RefusesAt path a b → CountsMore (call_of e.fault) b c
    → CreatesOutput true (Err e) path written file faults (held_of a) (held_of c) (world_of a) (world_of c)
creates_path e path written file faults a b c refused counted = record {
  empty = tt;
  clean = λ _. tt;
  this = λ _. tt;
  created = λ _. tt;
  kept = λ _. counted.held ∙ ap (counting (call_of e.fault)) refused.kept;
  only = λ _. only_then a.read.items path (world_of a) (world_of b) (world_of c) counted.world refused.only;
  begun = λ _. begun_then a.begun.items (world_of a) (world_of b) (world_of c) counted.world refused.same;
  guarded = λ _. guarded_then path a b (world_of c) counted.world refused;
}

-- an output that is open holds most of what was put into it, also where the call is refused then
pub most_put : (n : Counts) (bytes : List ℕ) (h h' : OpenFiles) (b c d : World) → h' ≡ counting n h → d ≡ c
    → Ends h'.output bytes b c → HoldsMost h.output bytes d
most_put n bytes h h' b c d counted after ends =
    subst (HoldsMost h.output bytes) (sym after)
    (subst (λ (k : OpenFiles). HoldsMost k.output bytes c) counted (most_of_all h'.output bytes b c ends))

-- ---- an output that is given up

abbrev with_counts : OpenFiles → Counts → OpenFiles
with_counts h n = record h { output = None; syncs = h.syncs + 0; counts = n }

pub lets_go_put : (n : Counts) (bytes : List ℕ) (h h' h'' : OpenFiles) (a b c : World) → h' ≡ counting n h → b ≡ a
    → h'' ≡ ended false no_counts h' → SparesRest h'.output b c → Ends h'.output bytes b c → LetsGo bytes n h h'' a c
lets_go_put n bytes h h' h'' a b c counted same closed rest ends = record {
  more = no_counts;
  unread = refl;
  closed = closed ∙ ap (ended false no_counts) counted ∙ ap (with_counts h) (swapped h.counts n no_counts);
  rest = subst (λ w. SparesRest h.output w c) same (subst (λ (k : OpenFiles). SparesRest k.output b c) counted rest);
  left = λ none. all;
  most = most_of_all h.output bytes a c all;
}
  where
    all : Ends h.output bytes a c
    all = subst (λ w. Ends h.output bytes w c) same (subst (λ (k : OpenFiles). Ends k.output bytes b c) counted ends)
