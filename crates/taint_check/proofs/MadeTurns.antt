-- What a turn that is made leaves: the turn of a run, and a check that is ready for the next one.
use Rattle.std.proofs.Common.{◌≡◌, ◌<◌, ℕ, List, Bool, true, false, Option, None, refl, ap, sym, ◌∙◌, subst}
use Rattle.flow_base.specs.declared.points.Point.{Point}
use Rattle.enclosure_regions.specs.declared.break_kinds.Break.{Break}
use Rattle.enclosure_regions.specs.declared.region_parts.Region.{Region}
use Rattle.enclosure_regions.specs.Regions.{are_regions}
use Rattle.rv32im_machine.specs.Folds.{real_end}
use Rattle.rv32im_machine.specs.Language.{Walk}
use Rattle.rv32im_machine.specs.Rows.{walk_of}
use Rattle.rv32im_machine.specs.State.{Setting, State}
use Rattle.region_machine.specs.Breaking.{Breaks, kind_break}
use Rattle.region_machine.specs.Enclosures.{Enclosures, Steps, kind_of}
use Rattle.region_machine.specs.Guests.{guest_walk, kind_walk}
use Rattle.region_machine.specs.Within.{may_leave}
use Rattle.region_machine.proofs.RangesStayInside.{guest_keeps}
use Rattle.replay_machine.specs.Runs.{Masks}
use Rattle.run_labels.specs.Runs.{entered_number}
use Rattle.run_labels.specs.TurnLabels.{TurnLabels, at_start}
use Rattle.tracked_run.specs.Labels.{map_of}
use Rattle.lockstep_replay.specs.Tasks.{Task, Limits}
use Rattle.taint_check.specs.Cleared.{MaskedRun, is_hidden, leaves_skipped}
use Rattle.taint_check.specs.Reasons.{unclear_of}
use Rattle.taint_check.specs.Private.Tapes.{Tape, EndsCleared}
use Rattle.taint_check.specs.Private.Turns.{IsReady, Stands, MakesMasked}
use Rattle.taint_check.proofs.MaskedTurns.{told_makes, untold_makes}
use Rattle.taint_check.proofs.ReasonsCounted.{fine_of}

-- a step outside of regions
pub step_makes : (task : Task) (limits : Limits) (run : MaskedRun) (cross : List Bool) (machine : State)
    (before : Tape) (enclosures : Enclosures) → task.enclosures ≡ enclosures →
    Stands task limits run cross machine before → before.look ≡ None → before.left ≡ None →
    before.tally.budget < 4294967295 → (reached : State) (after : Tape) →
    kind_of enclosures.regions machine.control ≡ Steps None →
    EndsCleared 0 (record { masks = task.masks; skipped = false }) run.place.past (at_start (map_of before.shades)) before
    (walk_of machine) reached after →
    MakesMasked before.table task limits run cross reached after
    (unclear_of after.look None reached.control.mode after.tally.budget after.tally.needed after.left)
step_makes task limits run cross machine before enclosures e stands unlooked undecided small reached after outside told =
    told_makes task limits run cross machine before enclosures e stands unlooked undecided small reached after None
    (ap (λ k. is_hidden enclosures k) outside)
    (sym (ap (λ k. kind_break k machine) outside))
    (subst (λ k. EndsCleared (entered_number k) (record { masks = task.masks; skipped = leaves_skipped enclosures k })
    run.place.past (at_start (map_of before.shades)) before (kind_walk k machine) reached after) (sym outside) told)

pub ready_after : (regions : List Region) (machine reached : State) (before after : Tape) (broken : Option Break) →
    are_regions regions ≡ true → IsReady regions machine before → after.shades.base ≡ before.shades.base →
    reached.setting ≡ machine.setting → reached ≡ real_end (guest_walk regions machine) →
    broken ≡ Breaks regions machine →
    unclear_of after.look broken reached.control.mode after.tally.budget after.tally.needed after.left ≡ None →
    IsReady regions reached after
ready_after regions machine reached before after broken rules ready base setting ends breaks none =
    let fine = fine_of after.look broken reached.control.mode after.tally.budget after.tally.needed after.left none in
    record {
      base = base ∙ (ready.base ∙ sym (ap (λ (s : Setting). s.base) setting));
      leaves = subst (λ (s : State). may_leave regions s ≡ true) (sym ends)
          (guest_keeps regions machine rules ready.leaves (sym breaks ∙ fine.unbroken));
      look = fine.unlooked;
      left = fine.undecided;
    }

-- what a walk is told with equal things is told with these
pub told_same : (region number : ℕ) (masks : Masks) (skipped other : Bool) (past : List Point) (labels first : TurnLabels)
    (before : Tape) (walk : Walk) (reached : State) (after : Tape) → number ≡ region → other ≡ skipped → first ≡ labels →
    EndsCleared number (record { masks = masks; skipped = other }) past first before walk reached after →
    EndsCleared region (record { masks = masks; skipped = skipped }) past labels before walk reached after
told_same region number masks skipped other past labels first before walk reached after n o f told =
    subst (λ r. EndsCleared r (record { masks = masks; skipped = skipped }) past labels before walk reached after) n
    (subst (λ s. EndsCleared number (record { masks = masks; skipped = s }) past labels before walk reached after) o
    (subst (λ l. EndsCleared number (record { masks = masks; skipped = other }) past l before walk reached after) f told))

-- a turn of any kind, which is told where it is not hidden
pub region_makes : (task : Task) (limits : Limits) (run : MaskedRun) (cross : List Bool) (machine : State)
    (before : Tape) (enclosures : Enclosures) → task.enclosures ≡ enclosures →
    Stands task limits run cross machine before → before.look ≡ None → before.left ≡ None →
    before.tally.budget < 4294967295 → (reached : State) (after : Tape) (broken : Option Break) →
    broken ≡ Breaks enclosures.regions machine → reached ≡ real_end (guest_walk enclosures.regions machine) →
    (is_hidden enclosures (kind_of enclosures.regions machine.control) ≡ true → before ≡ after) →
    (is_hidden enclosures (kind_of enclosures.regions machine.control) ≡ false →
    EndsCleared (entered_number (kind_of enclosures.regions machine.control))
    (record { masks = task.masks; skipped = leaves_skipped enclosures (kind_of enclosures.regions machine.control) })
    run.place.past (at_start (map_of before.shades)) before (guest_walk enclosures.regions machine) reached after) →
    MakesMasked before.table task limits run cross reached after
    (unclear_of after.look broken reached.control.mode after.tally.budget after.tally.needed after.left)
region_makes task limits run cross machine before enclosures e stands unlooked undecided small reached after broken breaks
    ends untold told = pick (is_hidden enclosures (kind_of enclosures.regions machine.control)) refl
  where
    pick : (t : Bool) → is_hidden enclosures (kind_of enclosures.regions machine.control) ≡ t →
        MakesMasked before.table task limits run cross reached after
        (unclear_of after.look broken reached.control.mode after.tally.budget after.tally.needed after.left)
    pick true hidden =
        subst (λ (tape : Tape). MakesMasked before.table task limits run cross reached tape
        (unclear_of tape.look broken reached.control.mode tape.tally.budget tape.tally.needed tape.left)) (untold hidden)
        (untold_makes task limits run cross machine before enclosures e stands unlooked undecided reached broken hidden
        breaks ends)
    pick false shown =
        told_makes task limits run cross machine before enclosures e stands unlooked undecided small reached after broken
        shown breaks (told shown)
