use Rattle.std.proofs.Common.{[], ◌∷◌, ◌++◌, flat_map}
use Rattle.abt_sections.specs.Header.{places_of, view_of}
use Rattle.cmd_common_texts.specs.Words.{address_words, cmdline_word, has_table, kind_words, name_words, os_words}
use Rattle.cmd_common_texts.specs.Words.{section_words}
use Rattle.cmd_common_texts.proofs.WordLists.{more_words}
use Rattle.cmd_common_texts.proofs.packing_words.header_words.Goals as goal

pub returns : goal.returns
returns g c =
    let h = view_of c.args.image.now.header in
    let sections = flat_map (section_words c.args.folder.now (has_table h)) (places_of h) in
    let last = cmdline_word h ∷ os_words h in
    more_words (kind_words h) (sections ++ (address_words h ++ (name_words h ++ last))) c.kind_words.ensures
    (more_words sections (address_words h ++ (name_words h ++ last)) c.section_words.ensures
    (more_words (address_words h) (name_words h ++ last) c.address_words.ensures
    (more_words (name_words h) last c.name_words.ensures
    (more_words (cmdline_word h ∷ []) (os_words h) c.cmdline_word.ensures c.os_words.ensures))))
