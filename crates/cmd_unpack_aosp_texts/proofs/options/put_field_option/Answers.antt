use Rattle.std.proofs.Common.{ap, ◌∙◌}
use Rattle.sys_text.proofs.Printing.{◌▸◌, as_text}
use Rattle.cmd_unpack_aosp_texts.specs.Words.{text_value}
use Rattle.cmd_unpack_aosp_texts.proofs.options.put_field_option.Goals as goal

pub returns : goal.returns
returns g c =
    c.put_name.ensures ▸ as_text (ap (text_value c.args.ending) (c.new.ensures
    ∙ c.front_text.ensures)) c.put_value.ensures
