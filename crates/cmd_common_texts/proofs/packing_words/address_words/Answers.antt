use Rattle.std.proofs.Common.{◌++◌}
use Rattle.abt_sections.specs.Header.{view_of}
use Rattle.cmd_common_fields.specs.declared.fields.Address.TheVariants as addresses
use Rattle.cmd_common_texts.specs.Words.{address_word}
use Rattle.cmd_common_texts.proofs.WordLists.{more_words}
use Rattle.cmd_common_texts.proofs.packing_words.address_words.Goals as goal

pub returns : goal.returns
returns g c =
    let h = view_of c.args.header.now in
    let w1 = address_word h addresses.Kernel in
    let w2 = address_word h addresses.Ramdisk in
    let w3 = address_word h addresses.Second in
    let w4 = address_word h addresses.Tags in
    let w5 = address_word h addresses.Dtb in
    more_words w1 (w2 ++ (w3 ++ (w4 ++ w5))) c.address_word.ensures
    (more_words w2 (w3 ++ (w4 ++ w5)) c.address_word-2.ensures
    (more_words w3 (w4 ++ w5) c.address_word-3.ensures
    (more_words w4 w5 c.address_word-4.ensures c.address_word-5.ensures)))
