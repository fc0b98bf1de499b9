-- What an image leaves in its file.
use Rattle.std.proofs.Common.{inl, ◌≡◌, ℕ, ◌<◌, List, Option, Some, sym, subst}
use Rattle.std.specs.Prelude.{set, length}
use Rattle.sys_disk.specs.Images.{Leaves, EmptiesAt}
use Rattle.mem_disk.specs.Memory.{world_of_files}
use Rattle.sys_disk.specs.World.{World}
use Rattle.mem_files.specs.declared.stored.MemoryFile.{MemoryFile}
use Rattle.mem_files.specs.declared.stored.MemoryPath.{MemoryPath}
use Rattle.mem_files.proofs.Paths.{holds_new}

-- the output that is open holds what was put into it
pub left_put : (o : Option ℕ) (file : ℕ) (ps : List MemoryPath) (fs : List MemoryFile) (x : MemoryFile) → o ≡ Some file
    → file < length fs → Leaves o x.bytes.items (world_of_files ps (set fs file x))
left_put o file ps fs x e below =
    subst (λ o. Leaves o x.bytes.items (world_of_files ps (set fs file x))) (sym e) (inl (holds_new fs file x below))

pub empties_then : (path : List ℕ) (a b c : World) → c ≡ b → EmptiesAt path a b → EmptiesAt path a c
empties_then path a b c e h = subst (λ w. EmptiesAt path a w) (sym e) h
