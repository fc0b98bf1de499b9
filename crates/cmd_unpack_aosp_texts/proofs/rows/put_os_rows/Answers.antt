use Rattle.std.proofs.Common.{ap}
use Rattle.sys_text.proofs.Printing.{◌▸◌, as_text}
use Rattle.cmd_unpack_aosp_texts.specs.Info.{level_or_none, version_or_none}
use Rattle.cmd_unpack_aosp_texts.proofs.rows.put_os_rows.Goals as goal

pub returns : goal.returns
returns g c =
    c.word.ensures ▸ as_text (ap version_or_none c.parts-parts.ensures.value) c.put_version_or_none.ensures
    ▸ c.word-2.ensures
    ▸ as_text (ap level_or_none c.parts-parts.ensures.value) c.put_level_or_none.ensures ▸ c.end_line.ensures
