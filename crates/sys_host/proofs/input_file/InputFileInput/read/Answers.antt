use Rattle.std.proofs.Common.{sym}
use Rattle.sys_host.proofs.Forward.{told_still, bytes_still}
use Rattle.sys_host.proofs.input_file.InputFileInput.read.Goals as goal

pub invariant_of-self-in-Ok : goal.invariant_of-self-in-Ok
invariant_of-self-in-Ok g c =
    let same = (c.take_held.ensures.kept c.if-take_held.false).1 in
    record {
      told = λ t. told_still _ _ _ c.in-Ok.ensures.bytes.0 (rw (sym same) at (c.args.self.now.told t));
      bytes = λ t. bytes_still _ _ _ c.in-Ok.ensures.bytes.0 (rw (sym same) at (c.args.self.now.told t))
          (rw (sym same) at (c.args.self.now.bytes t));
    }
