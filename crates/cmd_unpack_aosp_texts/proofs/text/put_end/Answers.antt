use Rattle.std.proofs.Common.{◌∙◌, ap, sym}
use Rattle.sys_text.proofs.Printing.{as_text, printed_none}
use Rattle.abt_sections.specs.Header.{view_of}
use Rattle.cmd_unpack_aosp_texts.specs.Texts.{end_text}
use Rattle.cmd_unpack_aosp_texts.specs.declared.text.AospText.TheVariants as kinds
use Rattle.cmd_unpack_aosp_texts.proofs.text.put_end.Goals as goal

pub returns-in-Info-Boot : goal.returns-in-Info-Boot
returns-in-Info-Boot g c =
    as_text (sym (ap (λ w. end_text w (view_of c.args.header.now)) c.in-Info-Boot.is-0
    ∙ ap (λ h. end_text kinds.Info (view_of h)) c.in-Info-Boot.is-1)) (printed_none _ _ _)
