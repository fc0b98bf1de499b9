-- What a system returns for a file that it opens, and how its calls change which file a path leads to.
use Rattle.std.specs.Prelude.{◌≡◌, ◌≢◌, ◌↔◌, ℕ, List, Bool, IsTrue, true, false, length, Option, Some, None}
use Rattle.std.specs.Prelude.{Result, IfOk, OnErr, codes, pos}
use Rattle.abt_io.specs.Moment.{Past, no_past}
use Rattle.sys_file.specs.declared.stat.Kind.{Kind}
use Rattle.sys_file.specs.declared.stat.Kind.TheVariants as kinds
use Rattle.sys_file.specs.declared.stat.Stat.{Stat}

-- the call returns whether the file is regular, and the length of a regular file
pub record StatsFile (is_file : Bool) (content : List ℕ) (stat : Stat) : Type 0 where
  pub kind : (stat.kind ≡ kinds.File) ↔ IsTrue is_file
  pub long : IsTrue is_file → stat.length ≡ length content

-- the file was just opened: its position is 0, and nothing was written to it
pub record IsJustOpened {F : Type 0} (models : Bool) (place : F → ℕ) (past : F → Past) (f : F) : Type 0 where
  pub front : IsTrue models → place f ≡ 0
  pub unwritten : IsTrue models → past f ≡ no_past

-- a block device is identified by its own number, any other file by its device and its number there
abbrev pub key_as : Kind → Stat → Option ℕ × ℕ
key_as kinds.Block stat = (None, stat.device)
key_as kinds.File stat = (Some stat.on, stat.number)
key_as kinds.Pipe stat = (Some stat.on, stat.number)
key_as kinds.Socket stat = (Some stat.on, stat.number)
key_as kinds.Folder stat = (Some stat.on, stat.number)
key_as kinds.Other stat = (Some stat.on, stat.number)

-- the number of the file that is described, where `number` has the number of each file
abbrev pub described : (Option ℕ → ℕ → ℕ) → Stat → ℕ
described number stat = number (key_as stat.kind stat).0 (key_as stat.kind stat).1

-- a file is described as it always is, except for its length and its times
abbrev pub Identifies : (Option ℕ → ℕ → ℕ) → (ℕ → Stat) → Stat → Type 0
Identifies number known stat = stat ≡ record (known (described number stat)) {
  length = stat.length;
  second = stat.second;
  nanosecond = stat.nanosecond;
}

-- the file at a path is described, or there is none
pub record LooksAt {E : Type 0} (number : Option ℕ → ℕ → ℕ) (known : ℕ → Stat) (file : Option ℕ) (r : Result Stat E)
    : Type 0 where
  pub none : OnErr r (file ≡ None)
  pub there : IfOk r (λ stat. file ≡ Some (described number stat))
  pub same : IfOk r (Identifies number known)

-- the file of this number is described, or the call fails
pub record Describes {E : Type 0} (number : Option ℕ → ℕ → ℕ) (known : ℕ → Stat) (file : ℕ) (r : Result Stat E)
    : Type 0 where
  pub this : IfOk r (λ stat. described number stat ≡ file)
  pub same : IfOk r (Identifies number known)

-- The file at a path is opened, and is created if there was none and that is asked for. No other path leads elsewhere,
-- and no file holds anything else. If the call fails, nothing has changed.
pub record OpensAt {E F : Type 0} (is_created : Bool) (path : List ℕ) (r : Result F E) (which : F → ℕ)
    (stands : F → List ℕ) (at at' : List ℕ → Option ℕ) (holds holds' : ℕ → List ℕ) : Type 0 where
  pub there : IfOk r (λ f. at' path ≡ Some (which f))
  pub content : IfOk r (λ f. stands f ≡ holds (which f))
  pub leads : (p : List ℕ) (f : ℕ) → at p ≡ Some f → at' p ≡ Some f
  pub same : is_created ≡ false → at' ≡ at
  pub failed : OnErr r (at' ≡ at)
  pub kept : holds' ≡ holds

-- the file of this number holds these bytes, and all others hold what they held
pub record ClosesFile (file : ℕ) (bytes : List ℕ) (at at' : List ℕ → Option ℕ) (holds holds' : ℕ → List ℕ)
    : Type 0 where
  pub paths : at' ≡ at
  pub this : holds' file ≡ bytes
  pub others : (f : ℕ) → f ≢ file → holds' f ≡ holds f

-- nothing has changed
pub record KeepsFiles {S : Type 0} (at : S → List ℕ → Option ℕ) (holds : S → ℕ → List ℕ) (old new : S) : Type 0 where
  pub paths : at new ≡ at old
  pub kept : holds new ≡ holds old

-- the paths of standard input and standard output lead to these files
pub record HasStreams (stdin stdout : ℕ) (at : List ℕ → Option ℕ) : Type 0 where
  pub input : at (codes "/dev/stdin") ≡ Some stdin
  pub output : at (codes "/dev/stdout") ≡ Some stdout

-- what a system that models nothing knows of a file
abbrev pub nothing_known : Stat
nothing_known = record {
  kind = kinds.Other;
  on = 0;
  number = 0;
  device = 0;
  length = 0;
  second = pos 0;
  nanosecond = pos 0;
}
