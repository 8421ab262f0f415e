-- What the two sides of a common turn come to.
use Rattle.std.proofs.Common.{◌≡◌, ℕ, ◌+◌, ◌≤◌, ◌<◌, List, ◌++◌, length, Bool, refl, arith, Result, Ok, Err, Option}
use Rattle.std.proofs.Common.{Some}
use Rattle.std.proofs.lemmas.Bool.{le-ltb, lt-ltb}
use Rattle.std.proofs.Math.Seq.{drop-append_seam}
use Rattle.flow_base.specs.declared.points.Point.{Point}
use Rattle.crossing_bits.specs.Strings.{left_of}
use Rattle.rv32im_machine.specs.declared.stepping.Stepped.{Stepped}
use Rattle.rv32im_machine.specs.declared.stepping.Stepped.TheVariants.{Ran, Exited, Stopped}
use Rattle.rv32im_machine.specs.State.{State}
use Rattle.rv32im_machine.specs.Playing.{outcome}
use Rattle.replay_machine.specs.Runs.{Masks}
use Rattle.replay_machine.specs.Visits.{IsAhead}
use Rattle.lockstep_replay.specs.declared.verdicts.Why.{Why}
use Rattle.lockstep_replay.specs.declared.verdicts.Why.TheVariants.{BudgetOverrun}
use Rattle.lockstep_replay.specs.Tapes.{Tally, Tallies, Crosses}
use Rattle.lockstep_replay.specs.Verdicts.{counted_bits, why_mode}
use Rattle.lockstep_replay.proofs.Conditions.{NotStopped}

-- the real side always comes to its end
pub crosses_outcome : {Stop : Type 0} (before : Tally) (masks : Masks) (past : List Point) (bits : List Bool)
    (state reached : State) (r : Result (Unit {0}) Stop) (after : Tally) →
    Crosses before masks past bits state (outcome r reached after) →
    (state ≡ reached) × (IsAhead after.ahead masks past × Tallies before bits after)
crosses_outcome before masks past bits state reached (Ok done) after h = h
crosses_outcome before masks past bits state reached (Err stop) after h = absurd h

-- ---- within the budget

-- what the tally says where the budget holds
pub record Within (a : Tally) (s : List Bool) (b : Tally) : Type 0 where
  pub fits : a.needed + length s ≤ a.budget
  pub needed : b.needed ≡ a.needed + length s
  pub bits : b.stream.bits ≡ a.stream.bits ++ s
  pub left : left_of b.stream ≡ s

pub within_of : (a b : Tally) (s : List Bool) → Tallies a s b → a.budget < 4294967295 → b.needed ≤ a.budget →
    a.stream.taken ≡ length a.stream.bits → Within a s b
within_of a b s h small within used =
    let fits : a.needed + length s ≤ a.budget = omega (arith, h.needed) in
    record {
      fits = fits;
      needed = omega (arith, h.needed);
      bits = h.kept fits;
      left = rw (h.kept fits, h.taken, used) (drop-append_seam a.stream.bits s);
    }

pub why_within : (mode : Stepped) (budget needed : ℕ) (later : Option Why) → NotStopped mode → needed ≤ budget →
    why_mode mode budget needed later ≡ later
why_within Ran budget needed later running within = rw (le-ltb budget needed within) refl
why_within (Exited status) budget needed later running within = rw (le-ltb budget needed within) refl
why_within (Stopped fault) budget needed later running within = absurd (running fault refl)

pub why_over : (mode : Stepped) (budget needed count : ℕ) (later : Option Why) → NotStopped mode → budget < count →
    count ≡ counted_bits needed → Some (BudgetOverrun budget count) ≡ why_mode mode budget needed later
why_over Ran budget needed count later running over is =
    let more : budget < needed = omega (arith, over, is) in rw (lt-ltb budget needed more, is) refl
why_over (Exited status) budget needed count later running over is =
    let more : budget < needed = omega (arith, over, is) in rw (lt-ltb budget needed more, is) refl
why_over (Stopped fault) budget needed count later running over is = absurd (running fault refl)
