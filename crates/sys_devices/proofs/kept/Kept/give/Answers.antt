use Rattle.std.proofs.Common.{◌≡◌, ◌+◌, arith}
use Rattle.std.proofs.lemmas.List.{length-take-le}
use Rattle.sys_devices.proofs.Places.{more_stand}
use Rattle.sys_devices.proofs.kept.Kept.give.Goals as goal

pub returns-clause-given : goal.returns-clause-given
returns-clause-given g c = λ models.
    let n = c.give_some-n.result in
    let m = c.give_behind.result in
    let first = c.give_some-n.ensures in
    let more = c.give_behind.ensures in
    let looked = c.look.ensures _ (c.requires.holds models) in
    let s = first.given _ looked in
    let t = more.given _ (c.go_on.ensures models looked) in
    let long = length-take-le n c.give_some-n.new.out first.within in
    let next : c.saturating_add-next.result ≡ c.args.at + n
    = omega (arith, c.saturating_add-next.ensures, s.present, long, c.requires.told models, c.ranges.at.fits) in
    more_stand _ _ c.give_behind.new.out c.args.at _ n m s more.first next t more.within
