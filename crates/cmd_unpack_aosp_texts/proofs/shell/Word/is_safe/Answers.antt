use Rattle.std.proofs.Common.{◌∙◌, ◌&&◌, ap, sym}
use Rattle.cmd_unpack_aosp_texts.proofs.Quoting.{word_safe}
use Rattle.cmd_unpack_aosp_texts.specs.Shell.{are_safe}
use Rattle.cmd_unpack_aosp_texts.proofs.shell.Word.is_safe.Goals as goal

pub returns : goal.returns
returns c =
    let w = c.args.self.now in
    let end = c.both-back.ensures ∙ ap (λ t. t && c.are_safe-2.result) c.are_safe.ensures
    ∙ ap (λ t. are_safe w.back.now && t) c.are_safe-2.ensures in
    let middle = c.both.ensures ∙ ap (λ t. t && c.both-back.result) c.are_safe-4.ensures
    ∙ ap (λ t. are_safe w.middle.now && t) end in
    c.both-2.ensures ∙ ap (λ t. t && c.both.result) c.are_safe-3.ensures ∙ ap (λ t. are_safe w.front.now && t) middle
    ∙ sym (word_safe w.front.now w.middle.now w.back.now w.end.now)
