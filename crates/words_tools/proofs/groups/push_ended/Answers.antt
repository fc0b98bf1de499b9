use Rattle.std.proofs.Common.{◌∙◌, sym}
use Rattle.words_tools.specs.Fragments.{IsFragmentText, fragment_said, group_of, is_file_word}
use Rattle.words_tools.proofs.Grouping.{told_one}
use Rattle.words_tools.proofs.groups.push_ended.Goals as goal

pub returns : goal.returns
returns c = λ done so_far is.
    told_one (λ f text. IsFragmentText f text.now) (is_file_word c.args.said.now) done
    (fragment_said (group_of c.args.group) c.args.said.now.word.now) c.args.all.now.items _ c.in-Some.text
    (sym c.is_file_word.ensures ∙ c.if-not-is_file_word.false) c.in-Some.ensures c.in_ok-push.ensures.items so_far
