use Rattle.std.proofs.Common.{◌≤◌, ◌∷◌, [], take, refl, arith}
use Rattle.abt_io.proofs.Fronts.{more_zeros, front_zeros, long_zeros, within_zeros}
use Rattle.abt_io.proofs.front_last.FrontLast.keep_back.Goals as goal

pub invariant_of-self : goal.invariant_of-self
invariant_of-self g c =
    let most : c.min-n.result ≤ 8 = omega arith in
    let taken : c.in-Ok.taken ≤ c.min-n.result = within_zeros _ _ most c.in-Ok.ensures.wrote.within in
    let all = more_zeros (g.O.Output.written c.args.self.now.output) (g.O.Output.written c.write.new.self)
    (take c.min-n.result (0 ∷ 0 ∷ 0 ∷ 0 ∷ 0 ∷ 0 ∷ 0 ∷ 0 ∷ []))
    c.args.self.now.kept c.in-Ok.taken c.min-n.result
    c.args.self.now.zeros (c.args.self.now.next c.requires.open c.requires.room) c.in-Ok.ensures.wrote.written refl
    taken most in
    record {
      room = omega (arith, taken, most);
      stand = omega (arith, long_zeros _ _ all);
      zeros = front_zeros _ _ all;
      next = λ _ _. long_zeros _ _ all;
    }
