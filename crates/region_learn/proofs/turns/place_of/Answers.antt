use Rattle.std.proofs.Common.{arith}
use Rattle.region_learn.proofs.BookPlaces.{some_place}
use Rattle.region_learn.proofs.turns.place_of.Goals as goal

pub returns : goal.returns
returns c = absurd (some_place c.args.book.now c.args.number c.requires
    (λ place none below. c.loop-place.invariant.before place none (omega arith)))
