-- The path of a file that the words name, as the system takes it.
use Rattle.std.specs.Prelude.{ℕ, List, ◌∷◌, ◌++◌, Option, Some, None, is_none, option_map, Bool, ◌&&◌, if◌then◌else◌}
use Rattle.std.specs.Prelude.{codes, decimal, bytes_eq}
use Rattle.sys_text.specs.Shown.{as_shown}
use Rattle.sys_refusals.specs.declared.place.FileArg.{FileArg}

-- with its folder before it
abbrev pub in_folder : Option (List ℕ) → List ℕ → List ℕ
in_folder None name = name
in_folder (Some folder) name = folder ++ (47 ∷ name)

-- with its number after it
abbrev pub numbered : List ℕ → Option ℕ → List ℕ
numbered name None = name
numbered name (Some number) = name ++ (46 ∷ decimal number)

abbrev pub path_of : FileArg → List ℕ
path_of p = in_folder (option_map (λ s. s.now) p.folder) (numbered p.name.now p.number)

-- the same as a terminal can show it
abbrev pub shown_place : FileArg → List ℕ
shown_place p = in_folder (option_map (λ s. as_shown s.now) p.folder) (numbered (as_shown p.name.now) p.number)

-- the word that means standard input or standard output
abbrev pub is_standard : FileArg → Bool
is_standard p = bytes_eq p.name.now (codes "-") && (is_none p.folder && is_none p.number)

-- the path that is read, and the one that is written
abbrev pub path_in : FileArg → List ℕ
path_in p = if is_standard p then codes "/dev/stdin" else path_of p

abbrev pub path_out : FileArg → List ℕ
path_out p = if is_standard p then codes "/dev/stdout" else path_of p

-- the path that a word for an output leads to
abbrev pub output_path : List ℕ → List ℕ
output_path word = if bytes_eq word (codes "-") then codes "/dev/stdout" else word
