use Rattle.std.proofs.Common.{ap, ◌∙◌, ◌++◌}
use Rattle.cmd_common_fields.specs.Fields.{text_of}
use Rattle.sys_text.proofs.Printing.{◌▸◌, as_text}
use Rattle.cmd_unpack_aosp_texts.specs.Words.{text_value}
use Rattle.cmd_unpack_aosp_texts.proofs.options.put_fields_option.Goals as goal

pub returns : goal.returns
returns g c =
    let both = c.of_two-word.ensures ∙ ap (λ x. x ++ c.front_text-2.result.now) c.front_text.ensures
    ∙ ap (λ y. text_of c.args.front.now ++ y) c.front_text-2.ensures in
    c.put_name.ensures ▸ as_text (ap (text_value c.args.ending) both) c.put_value.ensures
