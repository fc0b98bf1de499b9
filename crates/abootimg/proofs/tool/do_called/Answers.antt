use Rattle.std.proofs.Common.{map, refl}
use Rattle.std.specs.Prelude.{Err}
use Rattle.words_tools.specs.Rejected.{parts}
use Rattle.abootimg.proofs.Called.{called_from}
use Rattle.abootimg.proofs.tool.do_called.Goals as goal

pub returns-in-Err : goal.returns-in-Err
returns-in-Err g c = λ t. record {
  found = Err c.in-Err.fault;
  asked = tt;
  none = λ two. parts (c.in-Err.ensures.refused (c.wrong_words.ensures.wrong two));
  ends = (refl, (c.wrong_words.ensures.mistake, c.wrong_words.ensures.wrong));
}

pub returns-in-Ok : goal.returns-in-Ok
returns-in-Ok g c = λ t.
    let rest = map (λ word. word.now) c.in-Ok.parted.others.items in
    called_from _ _ c.args.tool _ rest c.in-Ok.parted.said.items _ _ _ _ _ c.in-Ok.ensures.parted
    (rw (c.as_slice-words.ensures.value, c.as_slice-said.ensures.value) at (c.do_parted.ensures t))
