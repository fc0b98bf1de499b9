use Rattle.std.proofs.Common.{◌≤◌, ◌∷◌, [], take, refl, arith}
use Rattle.abt_io.proofs.Fronts.{front_zeros, long_zeros}
use Rattle.cmd_cut.proofs.Fronts.{one_zero, within_zero}
use Rattle.cmd_cut.proofs.zero_first.ZeroFirst.hold_back.Goals as goal

pub invariant_of-self : goal.invariant_of-self
invariant_of-self g c =
    let most : c.min-n.result ≤ 1 = omega arith in
    let taken : c.in-Ok.taken ≤ c.min-n.result = within_zero _ _ most c.in-Ok.ensures.wrote.within in
    let all = one_zero (g.O.Output.written c.args.self.now.output) (g.O.Output.written c.write.new.self)
    (take c.min-n.result (0 ∷ [])) c.args.self.now.held c.in-Ok.taken c.min-n.result c.args.self.now.zeros
    (c.args.self.now.next c.requires.room) c.in-Ok.ensures.wrote.written refl taken most in
    record {
      room = omega (arith, c.requires.room, taken, most);
      stand = omega (arith, long_zeros _ _ all);
      zeros = front_zeros _ _ all;
      next = λ _. long_zeros _ _ all;
    }
