use Rattle.std.proofs.Common.{map}
use Rattle.words_orders.proofs.reading.order_in.Goals as goal

pub returns-in-Some-clause-none : goal.returns-in-Some-clause-none
returns-in-Some-clause-none g c = λ found.
    c.read_parts.ensures.none found (map g.S.AsStr.text c.args.words.now) c.in-Some.ensures.some
