use Rattle.std.proofs.Common.{[], ◌∷◌, ap}
use Rattle.sys_text.proofs.Printing.{as_text}
use Rattle.cmd_common_texts.specs.Words.{board_words, fragment_option, name_bytes, words_text}
use Rattle.cmd_common_texts.proofs.WordLists.{more_words}
use Rattle.cmd_common_texts.proofs.packing_words.entry_words.Goals as goal

pub returns : goal.returns
returns g c =
    let e = c.args.entry.now in
    let i = c.args.index in
    let folder = c.args.folder.now in
    more_words (fragment_option i e.ramdisk_type (name_bytes e.name) folder ∷ []) (board_words i 0 e.board_id)
    (as_text (ap (λ n. words_text (fragment_option i e.ramdisk_type n folder ∷ [])) c.name_bytes-name.ensures)
    c.put_fragment_word.ensures) c.board_words.ensures
