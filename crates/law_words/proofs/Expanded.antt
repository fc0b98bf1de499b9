-- What the words of the two runs become where the file of words is read.
use Rattle.std.proofs.Common.{arith, length, get_or, ◌≡◌, ℕ, ◌==◌, ◌&&◌, not, Bool, true, false, cond, List, [], ◌∷◌}
use Rattle.std.proofs.Common.{◌++◌, map, Some, None, codes, bytes_eq, drop, refl, sym, ap, ◌∙◌}
use Rattle.std.specs.List.{filter}
use Rattle.std.proofs.lemmas.Bool.{true≢false}
use Rattle.sys_disk.specs.World.{World, OpenFiles}
use Rattle.sys_disk.specs.Among.{FileHolds}
use Rattle.words_values.specs.WordFile.{expansion, names_file, own, words_of}
use Rattle.words_program.specs.WordFiles.{ReadsWordFiles, paths_named}
use Rattle.cmd_common_sparse.specs.ImagePath.{image_path}
use Rattle.cmd_unpack.specs.Unpacking.{path_of_part}
use Rattle.cmd_common_boot.specs.declared.part_names.ImagePart.TheVariants as parts
use Rattle.law_words.specs.WordsBack.{is_own, pack_words, unpack_words}

-- ---- a word that stands for itself

-- it names no file, and nothing is left out of it
pub record StandsAlone (word : List ℕ) : Type 0 where
  pub names : names_file word ≡ false
  pub own_is : own word ≡ word

pub stands_alone : (word : List ℕ) → is_own word ≡ true → StandsAlone word
stands_alone [] h = record { names = refl; own_is = refl }
stands_alone (at ∷ []) h = record { names = refl; own_is = refl }
stands_alone (at ∷ (letter ∷ rest)) h =
    let other : (at == 64) ≡ false = not_true (at == 64) h in
    record {
      names = ap (λ t. t && not (letter == 64)) other;
      own_is = ap (λ t. cond (t && (letter == 64)) (letter ∷ rest) (at ∷ (letter ∷ rest))) other;
    }
  where
    not_true : (t : Bool) → not t ≡ true → t ≡ false
    not_true true e = absurd (true≢false (sym e))
    not_true false e = refl

by_itself : {word : List ℕ} → names_file word ≡ false → own word ≡ word → StandsAlone word
by_itself names own_is = record { names = names; own_is = own_is }

-- ---- the files that words name

named_none : (word : List ℕ) (words : List (List ℕ)) → names_file word ≡ false
    → paths_named (word ∷ words) ≡ paths_named words
named_none word words e = ap
    (λ t. map (λ w. image_path (drop 1 w)) (cond t (word ∷ filter names_file words) (filter names_file words))) e

named_one : (word : List ℕ) (words : List (List ℕ)) → names_file word ≡ true
    → paths_named (word ∷ words) ≡ image_path (drop 1 word) ∷ paths_named words
named_one word words e = ap
    (λ t. map (λ w. image_path (drop 1 w)) (cond t (word ∷ filter names_file words) (filter names_file words))) e

-- what replaces a word that names none, and one that does
alone_expands : (word : List ℕ) (words texts : List (List ℕ)) → StandsAlone word
    → expansion (word ∷ words) texts ≡ word ∷ expansion words texts
alone_expands word words [] s =
    ap (λ t. cond t [] (own word ∷ []) ++ expansion words []) s.names
    ∙ ap (λ w. w ∷ expansion words []) s.own_is
alone_expands word words (text ∷ texts) s =
    ap (λ t. cond t (words_of text) (own word ∷ []) ++ expansion words (cond t texts (text ∷ texts))) s.names
    ∙ ap (λ w. w ∷ expansion words (text ∷ texts)) s.own_is

file_expands : (word text : List ℕ) (words texts : List (List ℕ)) → names_file word ≡ true
    → expansion (word ∷ words) (text ∷ texts) ≡ words_of text ++ expansion words texts
file_expands word text words texts e =
    ap (λ t. cond t (words_of text) (own word ∷ []) ++ expansion words (cond t texts (text ∷ texts))) e

-- ---- the first run

pub unpack_expands : (program input folder : List ℕ) (texts : List (List ℕ)) → is_own program ≡ true
    → is_own input ≡ true → is_own folder ≡ true
    → expansion (unpack_words program input folder) texts ≡ unpack_words program input folder
unpack_expands program input folder texts p i f =
    alone_expands program (codes "unpack" ∷ codes "--words" ∷ input ∷ folder ∷ []) texts (stands_alone program p)
    ∙ ap (λ l. program ∷ l) (
    alone_expands (codes "unpack") (codes "--words" ∷ input ∷ folder ∷ []) texts (by_itself refl refl)
    ∙ ap (λ l. codes "unpack" ∷ l) (
    alone_expands (codes "--words") (input ∷ folder ∷ []) texts (by_itself refl refl)
    ∙ ap (λ l. codes "--words" ∷ l) (
    alone_expands input (folder ∷ []) texts (stands_alone input i)
    ∙ ap (λ l. input ∷ l) (alone_expands folder [] texts (stands_alone folder f)))))

-- ---- the second run

-- the word of the file names it
words_named : (folder : List ℕ) → is_own folder ≡ true → names_file (64 ∷ path_of_part folder parts.Words) ≡ true
words_named [] h = refl
words_named (first ∷ rest) h = h

no_hyphen : (folder : List ℕ) → bytes_eq (path_of_part folder parts.Words) (codes "-") ≡ false
no_hyphen [] = refl
no_hyphen (first ∷ []) = by_test (first == 45)
  where
    by_test : (t : Bool) → (t && false) ≡ false
    by_test true = refl
    by_test false = refl
no_hyphen (first ∷ (second ∷ rest)) = by_test (first == 45)
  where
    by_test : (t : Bool) → (t && false) ≡ false
    by_test true = refl
    by_test false = refl

path_is : (folder : List ℕ) → image_path (path_of_part folder parts.Words) ≡ path_of_part folder parts.Words
path_is folder =
    ap (λ t. cond t (codes "/dev/stdin") (path_of_part folder parts.Words)) (no_hyphen folder)

pub paths_of_pack : (program folder output : List ℕ) → is_own program ≡ true → is_own folder ≡ true
    → is_own output ≡ true → paths_named (pack_words program folder output) ≡ path_of_part folder parts.Words ∷ []
paths_of_pack program folder output p f o =
    let word = 64 ∷ path_of_part folder parts.Words in
    named_none program (codes "pack" ∷ word ∷ output ∷ []) (stands_alone program p).names
    ∙ named_none (codes "pack") (word ∷ output ∷ []) refl
    ∙ named_one word (output ∷ []) (words_named folder f)
    ∙ ap (λ l. image_path (path_of_part folder parts.Words) ∷ l) (named_none output [] (stands_alone output o).names)
    ∙ ap (λ w. w ∷ []) (path_is folder)

no_more : (files : List ℕ) → [] ≡ map (λ n. Some n) files → files ≡ []
no_more [] e = refl
no_more (file ∷ files) e =
    let none : 0 ≡ length (map (λ n. Some n) (file ∷ files)) = ap length e in
    absurd (omega (arith, none))

-- the file of words has a text, and with its words in its place these are all words
pub record PackExpands (program folder output : List ℕ) (texts : List (List ℕ)) (world : World) : Type 0 where
  pub text : List ℕ
  pub holds : FileHolds world (path_of_part folder parts.Words) text
  pub are : expansion (pack_words program folder output) texts
      ≡ program ∷ codes "pack" ∷ (words_of text ++ (output ∷ []))

pub pack_expands : (program folder output : List ℕ) (texts : List (List ℕ)) (world : World) (held read : OpenFiles)
    → is_own program ≡ true → is_own folder ≡ true → is_own output ≡ true
    → ReadsWordFiles (pack_words program folder output) texts world held read
    → PackExpands program folder output texts world
pack_expands program folder output texts world held read p f o reads =
    by_files reads.files (sym (ap (map world.at) (paths_of_pack program folder output p f o)) ∙ reads.there) reads.holds
  where
    by_files : (files : List ℕ) → world.at (path_of_part folder parts.Words) ∷ [] ≡ map (λ n. Some n) files
        → texts ≡ map world.holds files → PackExpands program folder output texts world
    by_files [] there holds = let none : 1 ≡ 0 = ap length there in absurd (omega (arith, none))
    by_files (file ∷ files) there holds =
        let word = 64 ∷ path_of_part folder parts.Words in
        let none : files ≡ [] = no_more files (ap (drop 1) there) in
        let text = world.holds file in
        let one : texts ≡ text ∷ [] = holds ∙ ap (λ l. text ∷ map world.holds l) none in
        record {
          text = text;
          holds = record { file = file; there = ap (λ l. get_or l 0 None) there; holds = refl };
          are = ap (expansion (pack_words program folder output)) one
              ∙ alone_expands program (codes "pack" ∷ word ∷ output ∷ []) (text ∷ []) (stands_alone program p)
              ∙ ap (λ l. program ∷ l) (
              alone_expands (codes "pack") (word ∷ output ∷ []) (text ∷ []) (by_itself refl refl)
              ∙ ap (λ l. codes "pack" ∷ l) (
              file_expands word text (output ∷ []) [] (words_named folder f)
              ∙ ap (λ l. words_of text ++ l) (alone_expands output [] [] (stands_alone output o))));
        }
