-- The final value of a failing device, where the device in it is borrowed.
use Rattle.std.specs.Borrow.{Lends, MutBor, Fml, RattleType}
use Rattle.mem_devices.specs.declared.faulty.Faulty.{Faulty}
use Rattle.mem_devices.specs.contracts.faulty.Faulty.{the_row}

-- once the borrow r ends, the device in f is the one last written through r
abbrev pub LendsInner : (D : RattleType) → MutBor (Faulty D.Denot) → MutBor D.Denot → Fml
LendsInner D f r = Lends (the_row D) D f r (λ d. record f.now { device = d })
