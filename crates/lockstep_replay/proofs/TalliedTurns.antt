-- What a turn of the real run leaves of its tally: nothing new, where the turn is inside a skipped region.
use Rattle.std.proofs.Common.{◌≡◌, List, [], Bool, true, false, refl, sym, ap, subst, ◌∙◌, None}
use Rattle.flow_base.specs.declared.points.Point.{Point}
use Rattle.cut_file.specs.Masks.{MaskAt}
use Rattle.rv32im_machine.specs.State.{State}
use Rattle.rv32im_machine.specs.Language.{Walk}
use Rattle.rv32im_machine.specs.Folds.{real_end}
use Rattle.rv32im_machine.specs.Rows.{walk_of}
use Rattle.rv32im_machine.specs.Playing.{Played, Finished}
use Rattle.region_machine.specs.declared.real_turns.RealTurn.{RealTurn}
use Rattle.region_machine.specs.Breaking.{Breaks, kind_break}
use Rattle.region_machine.specs.Enclosures.{Enclosures, Steps, is_enclosed, is_enclosed_kind, kind_of}
use Rattle.region_machine.specs.Guests.{guest_walk, kind_walk}
use Rattle.region_machine.specs.Runs.{passed, visited}
use Rattle.replay_machine.specs.Runs.{Masks}
use Rattle.replay_machine.specs.Visits.{IsAhead}
use Rattle.replay_machine.proofs.MasksAhead.{ahead_self}
use Rattle.lockstep_replay.specs.declared.tallies.Tallying.{Tallying}
use Rattle.lockstep_replay.specs.Crossing.{crossing, crossing_unless}
use Rattle.lockstep_replay.specs.Ends.{tallies_none}
use Rattle.lockstep_replay.specs.Sides.{tally_of}
use Rattle.lockstep_replay.specs.Tapes.{Tally, Tallies, Crosses}
use Rattle.lockstep_replay.specs.Private.Turning.{MakesReal}

-- what the tally says of a turn that is told to it
abbrev pub Told : {Stop : Type 0} → Tallying → Walk → Played Stop Tally → Type 0
Told tally walk out =
    (masks : Masks) (past : List Point) → IsAhead tally.masks masks past →
    Crosses (tally_of tally) masks (passed past walk) (crossing masks past walk) (real_end walk) out

-- what a turn leaves of the tally
record Leaves (enclosed : Bool) (walk : Walk) (tally after : Tallying) : Type 0 where
  pub budget : after.budget ≡ tally.budget
  pub tallies :
      (masks : Masks) (past : List Point) → IsAhead tally.masks masks past →
      Tallies (tally_of tally) (crossing_unless enclosed masks past walk) (tally_of after)
  pub ahead :
      (masks : Masks) (past : List Point) → IsAhead tally.masks masks past →
      IsAhead after.masks masks (visited enclosed past walk)

leaves_of : (Stop : Type 0) (enclosed : Bool) (walk : Walk) (tally after : Tallying) (reached : State) →
    (enclosed ≡ true → after ≡ tally) →
    (enclosed ≡ false → Told {Stop = Stop} tally walk (Finished reached (tally_of after))) →
    Leaves enclosed walk tally after
leaves_of Stop true walk tally after reached untold told = record {
  budget = ap (λ (t : Tallying). t.budget) (untold refl);
  tallies = λ masks past ahead.
      subst (λ (t : Tallying). Tallies (tally_of tally) [] (tally_of t)) (sym (untold refl))
      (tallies_none (tally_of tally) tally.word);
  ahead = λ masks past ahead.
      subst (λ (t : Tallying). IsAhead t.masks masks past) (sym (untold refl)) ahead;
}
leaves_of Stop false walk tally after reached untold told = record {
  budget = (told refl (MaskAt tally.masks) [] (ahead_self tally.masks)).1.1.budget;
  tallies = λ masks past ahead. (told refl masks past ahead).1.1;
  ahead = λ masks past ahead. (told refl masks past ahead).1.0;
}

pub makes_turn : (Stop : Type 0) (enclosures : Enclosures) (before : State) (tally : Tallying) (reached : State)
    (after : Tallying) (turn : RealTurn) →
    reached ≡ real_end (guest_walk enclosures.regions before) →
    turn.enclosed ≡ is_enclosed enclosures before.control →
    turn.broken ≡ Breaks enclosures.regions before →
    (is_enclosed enclosures before.control ≡ true → after ≡ tally) →
    (is_enclosed enclosures before.control ≡ false →
    Told {Stop = Stop} tally (guest_walk enclosures.regions before) (Finished reached (tally_of after))) →
    MakesReal enclosures (kind_of enclosures.regions before.control) before tally reached after turn
makes_turn Stop enclosures before tally reached after turn state enclosed broken untold told =
    let leaves : Leaves (is_enclosed enclosures before.control) (guest_walk enclosures.regions before) tally after =
    leaves_of Stop (is_enclosed enclosures before.control) (guest_walk enclosures.regions before) tally after reached untold
    told in record {
      state = state;
      enclosed = enclosed;
      broken = broken;
      budget = leaves.budget;
      tallies = leaves.tallies;
      ahead = leaves.ahead;
    }

-- a step outside of regions
pub makes_step : (Stop : Type 0) (enclosures : Enclosures) (before : State) (tally : Tallying) (reached : State)
    (after : Tallying) →
    Told {Stop = Stop} tally (walk_of before) (Finished reached (tally_of after)) →
    kind_of enclosures.regions before.control ≡ Steps None →
    MakesReal enclosures (kind_of enclosures.regions before.control) before tally reached after
    (record { enclosed = false; broken = None })
makes_step Stop enclosures before tally reached after told outside =
    let walk : guest_walk enclosures.regions before ≡ walk_of before = ap (λ kind. kind_walk kind before) outside in
    let exposed : is_enclosed enclosures before.control ≡ false = ap (λ kind. is_enclosed_kind enclosures kind) outside in
    makes_turn Stop enclosures before tally reached after (record { enclosed = false; broken = None })
    (sym (ap (λ w. real_end w) walk ∙ (told (MaskAt tally.masks) [] (ahead_self tally.masks)).0))
    (sym exposed)
    (sym (ap (λ kind. kind_break kind before) outside))
    (λ enclosed. absurd (cc))
    (λ same. subst (λ w. Told {Stop = Stop} tally w (Finished reached (tally_of after))) (sym walk) told)
