use Rattle.std.proofs.Common.{refl}
use Rattle.std.specs.Prelude.{Err}
use Rattle.abootimg.proofs.tool.do_parted.Goals as goal

pub returns-in-Err : goal.returns-in-Err
returns-in-Err g c = λ t. record {
  found = Err c.in-Err.fault;
  asked = tt;
  none = λ two. absurd (c.in-Err.ensures (c.wrong_words.ensures.wrong two));
  ends = (refl, (c.wrong_words.ensures.mistake, c.wrong_words.ensures.wrong));
}
