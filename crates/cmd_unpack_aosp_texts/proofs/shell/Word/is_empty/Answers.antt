use Rattle.std.proofs.Common.{◌∙◌, ◌&&◌, ap, sym}
use Rattle.cmd_unpack_aosp_texts.proofs.Quoting.{word_nothing}
use Rattle.cmd_unpack_aosp_texts.specs.Shell.{is_blank}
use Rattle.cmd_unpack_aosp_texts.proofs.shell.Word.is_empty.Goals as goal

pub returns : goal.returns
returns c =
    let w = c.args.self.now in
    let end = c.both-back.ensures ∙ ap (λ t. t && c.is_blank-2.result) c.is_blank.ensures
    ∙ ap (λ t. is_blank w.back.now && t) c.is_blank-2.ensures in
    let middle = c.both.ensures ∙ ap (λ t. t && c.both-back.result) c.is_blank-4.ensures
    ∙ ap (λ t. is_blank w.middle.now && t) end in
    c.both-2.ensures ∙ ap (λ t. t && c.both.result) c.is_blank-3.ensures ∙ ap (λ t. is_blank w.front.now && t) middle
    ∙ sym (word_nothing w.front.now w.middle.now w.back.now w.end.now)
