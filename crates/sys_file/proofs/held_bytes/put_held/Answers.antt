use Rattle.std.proofs.Common.{sym, ap, ◌∙◌, length}
use Rattle.abt_io.proofs.Overs.{length_put}
use Rattle.sys_file.proofs.Puts.{written_back}
use Rattle.sys_file.proofs.held_bytes.put_held.Goals as goal

pub returns : goal.returns
returns c =
    let e = c.as_mut_slice.ensures in
    let w = rw e.value at c.put_part.ensures.value in
    let long = ap length (sym e.value) ∙ e.len in
    written_back c.args.held.now.items c.put_part.new.into c.args.held.now.len
    (ap length w ∙ length_put c.args.held.now.items c.args.from c.args.bytes.now c.requires ∙ long) long
    ∙ w
