use Rattle.enclosure_regions.specs.Breaks.{has_changed}
use Rattle.region_learn.specs.Private.Marks.{has_bit}
use Rattle.region_learn.proofs.Counting.{below_more}
use Rattle.region_learn.proofs.notes.with_changed.Goals as goal

pub loop-register-preserved : goal.loop-register-preserved
loop-register-preserved c = λ register.
    below_more (has_changed c.args.before.now c.args.after.now) (has_bit c.args.word register)
    (has_bit c.with_difference-changed.result register) (has_bit c.loop-register.changed register) register c.loop-register.register
    (c.loop-register.invariant register) (c.with_difference-changed.ensures register)
