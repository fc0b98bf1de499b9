-- Which paths lead into a folder.
use Rattle.std.specs.Prelude.{◌≡◌, ◌≢◌, ◌⊎◌, ◌<◌, ◌++◌, ◌∷◌, [], ℕ, List, length, get_or}
use Rattle.std.specs.Prelude.{Option, None, Contains, codes}

-- a name of a file in its folder: it is not empty, has no slash, and is neither `.` nor `..`
pub record IsName (name : List ℕ) : Type 0 where
  pub some : name ≢ []
  pub without_slash : (i : ℕ) → i < length name → get_or name i 0 ≢ 47
  pub not_here : name ≢ codes "."
  pub not_above : name ≢ codes ".."

-- The path of a name in a folder is the folder, a slash and the name. A name alone is in the folder `.`, and a slash
-- and a name are in the folder `/`.
abbrev pub IsIn : List ℕ → List ℕ → List ℕ → Type 0
IsIn folder name path = (path ≡ folder ++ (47 ∷ name)) ⊎ ((folder ≡ codes ".") × (path ≡ name))
    ⊎ ((folder ≡ codes "/") × (path ≡ 47 ∷ name))

-- each name of a folder whose path leads to a file is one of these
abbrev pub ListsFolder : (List ℕ → Option ℕ) → List ℕ → List (List ℕ) → Type 0
ListsFolder at folder names = (name path : List ℕ) → IsName name → IsIn folder name path → at path ≢ None
    → Contains names name

-- no path into a folder leads to a file
abbrev pub HasNone : (List ℕ → Option ℕ) → List ℕ → Type 0
HasNone at folder = (name path : List ℕ) → IsName name → IsIn folder name path → at path ≡ None
