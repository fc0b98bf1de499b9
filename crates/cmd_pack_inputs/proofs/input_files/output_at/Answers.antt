use Rattle.std.proofs.Common.{◌≡◌, Bool, true, false, refl, ap}
use Rattle.std.specs.Prelude.{◌&&◌, codes, if◌then◌else◌}
use Rattle.std.specs.Str.{bytes_eq}
use Rattle.cmd_pack_inputs.proofs.input_files.output_at.Goals as goal

and_true : (b : Bool) → (b && true) ≡ b
and_true true = refl
and_true false = refl

pub returns : goal.returns
returns c = ap (λ b. if b then codes "/dev/stdout" else c.args.word.now)
    (and_true (bytes_eq c.args.word.now (codes "-")))
