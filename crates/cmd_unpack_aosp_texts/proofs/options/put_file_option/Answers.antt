use Rattle.std.proofs.Common.{ap, append-nil}
use Rattle.sys_text.proofs.Printing.{◌▸◌, as_text}
use Rattle.cmd_unpack_aosp_texts.specs.Words.{file_option}
use Rattle.cmd_unpack_aosp_texts.proofs.options.put_file_option.Goals as goal

pub returns : goal.returns
returns g c =
    as_text (ap (file_option c.args.ending c.args.folder.now c.args.name.now) (append-nil c.args.file.now))
    c.put_path_option.ensures
