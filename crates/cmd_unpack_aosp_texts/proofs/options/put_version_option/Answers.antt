use Rattle.std.proofs.Common.{◌∙◌, ◌++◌, [], ap, codes, sym}
use Rattle.std.specs.Prelude.{if◌then◌else◌}
use Rattle.abt_headers.specs.Os.{os_parts}
use Rattle.sys_text.proofs.Printing.{◌▸◌, as_text, printed_none}
use Rattle.cmd_unpack_aosp_texts.specs.Info.{is_no_version, version_text}
use Rattle.cmd_unpack_aosp_texts.specs.Words.{plain_word}
use Rattle.cmd_unpack_aosp_texts.proofs.options.put_version_option.Goals as goal

pub returns-then-is_no_version : goal.returns-then-is_no_version
returns-then-is_no_version g c =
    let e = c.args.ending in
    let p = os_parts c.args.os.number in
    let none = ap is_no_version (sym c.parts-parts.ensures.value) ∙ sym c.is_no_version.ensures
    ∙ c.if-is_no_version.true in
    as_text (sym (ap (λ b. if b then [] else plain_word e (codes "--os_version") ++ plain_word e
    (version_text p)) none))
    (printed_none _ _ _)

pub returns : goal.returns
returns g c =
    let e = c.args.ending in
    let p = os_parts c.args.os.number in
    let some = ap is_no_version (sym c.parts-parts.ensures.value) ∙ sym c.is_no_version.ensures
    ∙ c.if-is_no_version.false in
    as_text (sym (ap (λ b. if b then [] else plain_word e (codes "--os_version") ++ plain_word e
    (version_text p)) some))
    (c.put_name.ensures ▸ c.begin_word.ensures
    ▸ as_text (ap version_text c.parts-parts.ensures.value) c.put_version.ensures ▸ c.end_word.ensures)
