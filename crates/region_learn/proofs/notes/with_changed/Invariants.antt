use Rattle.std.proofs.Common.{◌≡◌, ◌&&◌, ◌||◌, ℕ, nat_lt}
use Rattle.enclosure_regions.specs.Breaks.{has_changed}
use Rattle.region_learn.specs.Private.Marks.{has_bit}
use Rattle.region_learn.proofs.notes.with_changed.Given as goal

abbrev pub invariant-loop-register : goal.invariant-loop-register
invariant-loop-register l = (register : ℕ) →
    has_bit l.changed register
    ≡ (has_bit l.word register || (nat_lt register l.register && has_changed l.before l.after register))
