use Rattle.cmd_common_boot.proofs.Words.{number_wrong, word_wrong}
use Rattle.cmd_common_boot.proofs.pack_fields.os_of.Goals as goal

pub returns-in-Some-clause-wrong : goal.returns-in-Some-clause-wrong
returns-in-Some-clause-wrong c =
    number_wrong c.of_number.result c.args.texts.now.options.items c.in-Some.option.now c.in-Some.ensures
    c.of_number.ensures.wrong c.of_number.ensures.told

pub returns-in-Some-find-clause-wrong : goal.returns-in-Some-find-clause-wrong
returns-in-Some-find-clause-wrong c =
    word_wrong c.of_word.result c.args.texts.now.options.items c.in-Some-find.option.now c.in_default.ensures
    c.in-Some-find.ensures c.of_word.ensures.none c.of_word.ensures.told
