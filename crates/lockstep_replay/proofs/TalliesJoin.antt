-- One passing on the real side: bits that are tallied and then others are tallied as one string.
use Rattle.std.proofs.Common.{◌+◌, ◌≤◌, ◌<◌, List, ◌++◌, length, Bool, ◌∙◌, ap, arith, append_assoc, length-append}
use Rattle.flow_base.specs.declared.points.Point.{Point}
use Rattle.rv32im_machine.specs.State.{State}
use Rattle.rv32im_machine.specs.Playing.{Played, Finished, Halted}
use Rattle.replay_machine.specs.Runs.{Masks}
use Rattle.lockstep_replay.specs.Tapes.{Tally, Tallies, Crosses}

-- bits that cross, and then others
pub tallies_more : (a b c : Tally) (s t : List Bool) → a.budget < 4294967295 → Tallies a s b → Tallies b t c →
    Tallies a (s ++ t) c
tallies_more a b c s t small h k = record {
  budget = k.budget ∙ h.budget;
  needed = omega (arith, h.needed, k.needed, length-append s t);
  kept = λ fits.
      let more : a.needed + length s ≤ a.budget = omega (arith, fits, length-append s t) in
      let then : b.needed + length t ≤ b.budget = omega (arith, fits, h.needed, h.budget, length-append s t) in
      k.kept then ∙ ap (λ u. u ++ t) (h.kept more) ∙ append_assoc a.stream.bits s t;
  taken = k.taken ∙ h.taken;
}

pub crosses_more : {Stop : Type 0} (a b : Tally) (masks : Masks) (past : List Point) (s t : List Bool) (state : State)
    (out : Played Stop Tally) →
    a.budget < 4294967295 → Tallies a s b → Crosses b masks past t state out → Crosses a masks past (s ++ t) state out
crosses_more a b masks past s t state (Finished reached c) small h k =
    (k.0, (k.1.0, tallies_more a b c s t small h k.1.1))
crosses_more a b masks past s t state (Halted stop) small h k = k
