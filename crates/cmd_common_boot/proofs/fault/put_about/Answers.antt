use Rattle.std.proofs.Common.{◌≡◌, ℕ, List, ◌++◌, OnOk, Result, Ok, Err, ap}
use Rattle.sys_text.proofs.Printing.{◌▸◌}
use Rattle.cmd_common_boot.proofs.fault.put_about.Goals as goal

-- the word behind what is wrong
behind : {A E : Type 0} (r : Result A E) (wrong shown word : List ℕ) → OnOk r (shown ≡ word)
    → OnOk r (wrong ++ shown ≡ wrong ++ word)
behind (Ok x) wrong shown word is = ap (λ l. wrong ++ l) is
behind (Err e) wrong shown word is = tt

pub returns : goal.returns
returns g c = (
  _,
  c.word.ensures ▸ c.short.ensures.1,
  behind c.short.result c.args.wrong.now c.short.ensures.0 _ c.short.ensures.2,
)
