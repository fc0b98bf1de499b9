-- Words that name a file of words, `@FILE`, and what replaces them.
use Rattle.std.specs.Prelude.{◌≡◌, ◌≢◌, ◌==◌, ◌&&◌, not, ℕ, Bool, false, List, [], ◌∷◌, ◌++◌, length, if◌then◌else◌}
use Rattle.std.specs.List.{filter}
use Rattle.std.specs.Str.Lines.{lines}

-- a path that may follow the `@`: not empty, and not beginning with a second `@`
abbrev pub IsNamed : List ℕ → Type 0
IsNamed [] = ⊥
IsNamed (letter ∷ rest) = letter ≢ 64

-- whether a word names a file
abbrev pub names_file : List ℕ → Bool
names_file [] = false
names_file (at ∷ []) = false
names_file (at ∷ (letter ∷ rest)) = (at == 64) && not (letter == 64)

-- a word that names none: of two `@` at its beginning the first is left out
abbrev pub own : List ℕ → List ℕ
own [] = []
own (at ∷ []) = at ∷ []
own (at ∷ (letter ∷ rest)) = if (at == 64) && (letter == 64) then letter ∷ rest else at ∷ (letter ∷ rest)

-- the lines of a text that are words: those that aren't empty
abbrev pub words_of : List ℕ → List (List ℕ)
words_of text = filter (λ line. not (length line == 0)) (lines text)

-- what replaces a word, where these are the texts of the files that are named from it on
abbrev pub stands_for : List ℕ → List (List ℕ) → List (List ℕ)
stands_for word [] = if names_file word then [] else own word ∷ []
stands_for word (text ∷ texts) = if names_file word then words_of text else own word ∷ []

-- the texts of those that are named after it
abbrev pub texts_behind : List ℕ → List (List ℕ) → List (List ℕ)
texts_behind word [] = []
texts_behind word (text ∷ texts) = if names_file word then texts else text ∷ texts

-- what replaces all words
abbrev pub expansion : List (List ℕ) → List (List ℕ) → List (List ℕ)
expansion [] texts = []
expansion (word ∷ words) texts = stands_for word texts ++ expansion words (texts_behind word texts)
