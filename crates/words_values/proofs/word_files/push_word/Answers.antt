use Rattle.std.proofs.Common.{rules, ◌≡◌, ◌∙◌, ◌++◌, ◌∷◌, [], ap, sym, false, map}
use Rattle.std.specs.Prelude.{string_bytes}
use Rattle.words_values.specs.WordFile.{names_file}
use Rattle.std.proofs.lemmas.List.{map-append}
use Rattle.words_values.proofs.WordFiles.{unnamed, is_none_none, stands_unnamed, behind_unnamed}
use Rattle.words_values.proofs.word_files.push_word.Goals as goal

pub returns-then-is_none-clause-words : goal.returns-then-is_none-clause-words
returns-then-is_none-clause-words c =
    let none = is_none_none c.file_of.result c.is_none.result c.is_none.ensures c.if-is_none.true in
    let f : names_file c.args.word.now ≡ false = unnamed c.args.word.now (c.file_of.ensures.none none) in
    let s = stands_unnamed c.args.word.now (map string_bytes c.args.texts.now) f in
    search (rules, s, c.in_ok-push.ensures.items, c.own_word.ensures, map-append)

pub returns-then-is_none-clause-left : goal.returns-then-is_none-clause-left
returns-then-is_none-clause-left c =
    let none = is_none_none c.file_of.result c.is_none.result c.is_none.ensures c.if-is_none.true in
    let f : names_file c.args.word.now ≡ false = unnamed c.args.word.now (c.file_of.ensures.none none) in
    sym (behind_unnamed c.args.word.now (map string_bytes c.args.texts.now) f)
