-- A turn of which masks are kept, for a run that stands where it begins.
use Rattle.std.proofs.Common.{◌≡◌, ◌+◌, ◌<◌, ◌≤◌, ℕ, List, [], ◌++◌, length, Bool, true, false, Option, Some, None}
use Rattle.std.proofs.Common.{refl, ap, sym, ◌∙◌, subst, arith, length-append, append-nil}
use Rattle.std.specs.Prelude.{nat_lt}
use Rattle.std.proofs.lemmas.Bool.{ltb-false}
use Rattle.flow_base.specs.declared.points.Point.{Point}
use Rattle.enclosure_regions.specs.declared.break_kinds.Break.{Break}
use Rattle.rv32im_machine.specs.Folds.{real_end}
use Rattle.rv32im_machine.specs.Language.{none_held, Walk}
use Rattle.rv32im_machine.specs.State.{State}
use Rattle.region_machine.specs.Breaking.{Breaks}
use Rattle.region_machine.specs.Enclosures.{Enclosures, Kind, Enters, Leaves, Steps, is_skipped, is_enclosed_kind, kind_of}
use Rattle.region_machine.specs.Guests.{guest_walk, kind_walk}
use Rattle.region_machine.specs.Runs.{passed, visited}
use Rattle.replay_machine.specs.Runs.{Masks}
use Rattle.replay_machine.specs.Visits.{IsAhead}
use Rattle.run_labels.specs.Runs.{entered_number}
use Rattle.run_labels.specs.TurnLabels.{at_start}
use Rattle.shadow_masks.specs.Shades.{Shades}
use Rattle.tracked_run.specs.Labels.{map_of}
use Rattle.acceptance_law.proofs.Entering.{entry_crossing, entry_passed}
use Rattle.lockstep_replay.specs.Crossing.{crossing, crossing_unless}
use Rattle.lockstep_replay.specs.Tasks.{Task, Limits}
use Rattle.lockstep_replay.specs.Verdicts.{counted_bits}
use Rattle.masked_turns.specs.Clearing.{Cutting}
use Rattle.masked_turns.specs.Deciding.{first_left, left_in}
use Rattle.masked_turns.specs.Looking.{first_look, looked_in}
use Rattle.taint_check.specs.declared.whys.TaintWhy.{TaintWhy}
use Rattle.taint_check.specs.Cleared.{MaskedRun, AnswersUnless, is_hidden, leaves_skipped, next_masked, labels_unless}
use Rattle.taint_check.specs.Reasons.{unclear_of, look_unless, left_unless}
use Rattle.taint_check.specs.Private.Tapes.{Tape, EndsCleared}
use Rattle.taint_check.specs.Private.Turns.{Stands, MakesMasked, crossed_after}
use Rattle.taint_check.proofs.ReasonsCounted.{fine_of, why_counted}

-- ---- what is shown of a turn, and what is hidden

-- nothing passes at an entry, so that it may be told of also where the region is skipped
module _ (enclosures : Enclosures) (masks : Masks) (past : List Point) (state : State) where
  pub shown-crossing : (kind : Kind) → is_hidden enclosures kind ≡ false →
      crossing_unless (is_enclosed_kind enclosures kind) masks past (kind_walk kind state)
      ≡ crossing masks past (kind_walk kind state)
  shown-crossing (Enters region) e = pick (is_skipped enclosures region)
    where
      pick : (t : Bool) → crossing_unless t masks past (kind_walk (Enters region) state)
          ≡ crossing masks past (kind_walk (Enters region) state)
      pick true = sym (entry_crossing state.setting state.secret state.store none_held region state.control masks past)
      pick false = refl
  shown-crossing (Leaves region) e = refl
  shown-crossing (Steps None) e = refl
  shown-crossing (Steps (Some region)) e =
      ap (λ t. crossing_unless t masks past (kind_walk (Steps (Some region)) state)) e

  pub shown-past : (kind : Kind) → is_hidden enclosures kind ≡ false →
      visited (is_enclosed_kind enclosures kind) past (kind_walk kind state) ≡ passed past (kind_walk kind state)
  shown-past (Enters region) e = pick (is_skipped enclosures region)
    where
      pick : (t : Bool) → visited t past (kind_walk (Enters region) state) ≡ passed past (kind_walk (Enters region) state)
      pick true = sym (entry_passed state.setting state.secret state.store none_held region state.control past)
      pick false = refl
  shown-past (Leaves region) e = refl
  shown-past (Steps None) e = refl
  shown-past (Steps (Some region)) e = ap (λ t. visited t past (kind_walk (Steps (Some region)) state)) e

-- a hidden turn is one inside a skipped region
pub hidden_enclosed : (enclosures : Enclosures) (kind : Kind) → is_hidden enclosures kind ≡ true →
    is_enclosed_kind enclosures kind ≡ true
hidden_enclosed enclosures (Enters region) e = absurd (cc)
hidden_enclosed enclosures (Leaves region) e = absurd (cc)
hidden_enclosed enclosures (Steps None) e = absurd (cc)
hidden_enclosed enclosures (Steps (Some region)) e = e

-- ---- a run, by the machine and the masks

abbrev run_of : State → List Point → Shades → MaskedRun
run_of machine past shades =
    record { place = record { state = machine; past = past; broken = None }; labels = map_of shades }

run_same : (task : Task) (limits : Limits) (run : MaskedRun) (cross : List Bool) (machine : State) (tape : Tape) →
    Stands task limits run cross machine tape → run_of machine run.place.past tape.shades ≡ run
run_same task limits run cross machine tape s =
    let unbroken : None ≡ run.place.broken = sym s.unbroken in
    λ i. record {
      place = record { state = s.state i; past = run.place.past; broken = unbroken i };
      labels = s.labels i;
    }

few : (budget needed total : ℕ) → budget < 4294967295 → needed ≡ counted_bits total → nat_lt budget needed ≡ false →
    (total ≤ budget) × (needed ≡ total)
few budget needed total small c e =
    let less = ltb-false budget needed e in (omega (arith, small, c, less), omega (arith, small, c, less))

module _ (task : Task) (limits : Limits) (cross : List Bool) (machine : State) (past : List Point) (before : Tape)
    (stands : Stands task limits (run_of machine past before.shades) cross machine before)
    (unlooked : before.look ≡ None) (undecided : before.left ≡ None) (small : before.tally.budget < 4294967295)
    (reached : State) (after : Tape) (broken : Option Break) where
  abbrev the_kind : Kind
  the_kind = kind_of task.enclosures.regions machine.control

  abbrev the_walk : Walk
  the_walk = guest_walk task.enclosures.regions machine

  abbrev the_run : MaskedRun
  the_run = run_of machine past before.shades

  abbrev the_cutting : Cutting
  the_cutting = record { masks = task.masks; skipped = leaves_skipped task.enclosures the_kind }

  abbrev the_bits : List Bool
  the_bits = crossing task.masks past the_walk

  abbrev the_why : Option TaintWhy
  the_why = unclear_of after.look broken reached.control.mode after.tally.budget after.tally.needed after.left

  module _ (shown : is_hidden task.enclosures the_kind ≡ false) (breaks : broken ≡ Breaks task.enclosures.regions machine)
      (told : EndsCleared (entered_number the_kind) the_cutting past (at_start (map_of before.shades)) before the_walk
      reached after) where
    crossed : crossed_after task the_run cross ≡ cross ++ the_bits
    crossed = ap (λ bits. cross ++ bits) (shown-crossing task.enclosures task.masks past machine the_kind shown)

    total : ℕ
    total = length (crossed_after task the_run cross)

    counted : after.tally.needed ≡ counted_bits (length (crossed_after task the_run cross))
    counted =
        let sum : before.tally.needed + length the_bits ≡ length (cross ++ the_bits) =
        ap (λ n. n + length the_bits) stands.needed ∙ sym (length-append cross the_bits) in
        told.tallies.needed ∙ ap (λ n. counted_bits n) (sum ∙ ap length (sym crossed))

    is-why : the_why
        ≡ unclear_of (look_unless (is_hidden task.enclosures the_kind) task told.answers the_run)
        (Breaks task.enclosures.regions machine) (real_end the_walk).control.mode limits.budget
        (length (crossed_after task the_run cross))
        (left_unless (is_hidden task.enclosures the_kind) task told.answers the_run)
    is-why =
        let look = looked_in (entered_number the_kind) the_cutting past (at_start (map_of before.shades)) told.answers
        the_walk in
        let left = left_in the_cutting past (at_start (map_of before.shades)) told.answers the_walk in
        let looked : after.look ≡ look_unless (is_hidden task.enclosures the_kind) task told.answers the_run =
        told.look ∙ (ap (λ l. first_look l look) unlooked
        ∙ sym (ap (λ t. look_unless t task told.answers the_run) shown)) in
        let decided : after.left ≡ left_unless (is_hidden task.enclosures the_kind) task told.answers the_run =
        told.left ∙ (ap (λ l. first_left l left) undecided
        ∙ sym (ap (λ t. left_unless t task told.answers the_run) shown)) in
        let mode : reached.control.mode ≡ (real_end the_walk).control.mode =
        ap (λ (s : State). s.control.mode) told.ends in
        let budget : after.tally.budget ≡ limits.budget = told.tallies.budget ∙ stands.budget in
        why_counted after.look broken reached.control.mode after.tally.budget
        (length (crossed_after task the_run cross)) after.tally.needed after.left
        (subst (λ b. b < 4294967295) (sym told.tallies.budget) small) counted
        ∙ ap (λ l. unclear_of l broken reached.control.mode after.tally.budget
        (length (crossed_after task the_run cross)) after.left) looked
        ∙ ap (λ b. unclear_of (look_unless (is_hidden task.enclosures the_kind) task told.answers the_run) b
        reached.control.mode after.tally.budget (length (crossed_after task the_run cross)) after.left) breaks
        ∙ ap (λ m. unclear_of (look_unless (is_hidden task.enclosures the_kind) task told.answers the_run)
        (Breaks task.enclosures.regions machine) m after.tally.budget (length (crossed_after task the_run cross))
        after.left) mode
        ∙ ap (λ n. unclear_of (look_unless (is_hidden task.enclosures the_kind) task told.answers the_run)
        (Breaks task.enclosures.regions machine) (real_end the_walk).control.mode n
        (length (crossed_after task the_run cross)) after.left) budget
        ∙ ap (λ l. unclear_of (look_unless (is_hidden task.enclosures the_kind) task told.answers the_run)
        (Breaks task.enclosures.regions machine) (real_end the_walk).control.mode limits.budget
        (length (crossed_after task the_run cross)) l) decided

    stands-next : the_why ≡ None →
        Stands task limits (next_masked task told.answers the_run) (crossed_after task the_run cross) reached after
    stands-next e =
        let fine = fine_of after.look broken reached.control.mode after.tally.budget after.tally.needed after.left e in
        let small_after = subst (λ b. b < 4294967295) (sym told.tallies.budget) small in
        let bound = few after.tally.budget after.tally.needed (length (crossed_after task the_run cross)) small_after
        counted fine.within in
        let fits : before.tally.needed + length the_bits ≤ before.tally.budget =
        omega (arith, bound.0, ap length crossed, length-append cross the_bits, stands.needed, told.tallies.budget) in
        record {
          state = told.ends;
          unbroken = sym breaks ∙ fine.unbroken;
          labels = told.labelled ∙ sym (ap (λ t. labels_unless t task told.answers the_run) shown);
          ahead = subst (λ p. IsAhead after.tally.ahead task.masks p)
              (sym (shown-past task.enclosures task.masks past machine the_kind shown)) told.ahead;
          budget = told.tallies.budget ∙ stands.budget;
          bits = told.tallies.kept fits ∙ (ap (λ bits. bits ++ the_bits) stands.bits ∙ sym crossed);
          needed = bound.1;
          within = subst (λ b. length (crossed_after task the_run cross) ≤ b) (told.tallies.budget ∙ stands.budget) bound.0;
        }

    pub makes-shown : MakesMasked before.table task limits the_run cross reached after the_why
    makes-shown = record {
      answers = told.answers;
      are_answers = subst (λ t. AnswersUnless t before.table task told.answers the_run) (sym shown) told.are_answers;
      why_is = is-why;
      state = told.ends;
      next = stands-next;
    }

-- a hidden turn changes no mask, and nothing crosses in it
module _ (task : Task) (limits : Limits) (cross : List Bool) (machine : State) (past : List Point) (before : Tape)
    (stands : Stands task limits (run_of machine past before.shades) cross machine before)
    (unlooked : before.look ≡ None) (undecided : before.left ≡ None)
    (reached : State) (broken : Option Break)
    (hidden : is_hidden task.enclosures (kind_of task.enclosures.regions machine.control) ≡ true)
    (breaks : broken ≡ Breaks task.enclosures.regions machine)
    (ends : reached ≡ real_end (guest_walk task.enclosures.regions machine)) where
  abbrev same_run : MaskedRun
  same_run = run_of machine past before.shades

  enclosed : is_enclosed_kind task.enclosures (kind_of task.enclosures.regions machine.control) ≡ true
  enclosed = hidden_enclosed task.enclosures (kind_of task.enclosures.regions machine.control) hidden

  uncrossing : crossed_after task same_run cross ≡ cross
  uncrossing =
      ap (λ t. cross ++ crossing_unless t task.masks past (guest_walk task.enclosures.regions machine)) enclosed
      ∙ append-nil cross

  hidden-why : unclear_of before.look broken reached.control.mode before.tally.budget before.tally.needed before.left
      ≡ unclear_of (look_unless (is_hidden task.enclosures (kind_of task.enclosures.regions machine.control)) task [] same_run)
      (Breaks task.enclosures.regions machine) (real_end (guest_walk task.enclosures.regions machine)).control.mode
      limits.budget (length (crossed_after task same_run cross))
      (left_unless (is_hidden task.enclosures (kind_of task.enclosures.regions machine.control)) task [] same_run)
  hidden-why =
      let look : before.look
      ≡ look_unless (is_hidden task.enclosures (kind_of task.enclosures.regions machine.control)) task [] same_run =
      unlooked ∙ sym (ap (λ t. look_unless t task [] same_run) hidden) in
      let left : before.left
      ≡ left_unless (is_hidden task.enclosures (kind_of task.enclosures.regions machine.control)) task [] same_run =
      undecided ∙ sym (ap (λ t. left_unless t task [] same_run) hidden) in
      let mode : reached.control.mode ≡ (real_end (guest_walk task.enclosures.regions machine)).control.mode =
      ap (λ (s : State). s.control.mode) ends in
      let needed : before.tally.needed ≡ length (crossed_after task same_run cross) =
      stands.needed ∙ sym (ap length uncrossing) in
      ap (λ l. unclear_of l broken reached.control.mode before.tally.budget before.tally.needed before.left) look
      ∙ ap (λ b. unclear_of (look_unless (is_hidden task.enclosures (kind_of task.enclosures.regions machine.control)) task []
      same_run) b reached.control.mode before.tally.budget before.tally.needed before.left) breaks
      ∙ ap (λ m. unclear_of (look_unless (is_hidden task.enclosures (kind_of task.enclosures.regions machine.control)) task []
      same_run) (Breaks task.enclosures.regions machine) m before.tally.budget before.tally.needed before.left) mode
      ∙ ap (λ n. unclear_of (look_unless (is_hidden task.enclosures (kind_of task.enclosures.regions machine.control)) task []
      same_run) (Breaks task.enclosures.regions machine)
      (real_end (guest_walk task.enclosures.regions machine)).control.mode n before.tally.needed before.left) stands.budget
      ∙ ap (λ n. unclear_of (look_unless (is_hidden task.enclosures (kind_of task.enclosures.regions machine.control)) task []
      same_run) (Breaks task.enclosures.regions machine)
      (real_end (guest_walk task.enclosures.regions machine)).control.mode limits.budget n before.left) needed
      ∙ ap (λ l. unclear_of (look_unless (is_hidden task.enclosures (kind_of task.enclosures.regions machine.control)) task []
      same_run) (Breaks task.enclosures.regions machine)
      (real_end (guest_walk task.enclosures.regions machine)).control.mode limits.budget
      (length (crossed_after task same_run cross)) l) left

  hidden-next : unclear_of before.look broken reached.control.mode before.tally.budget before.tally.needed before.left ≡ None →
      Stands task limits (next_masked task [] same_run) (crossed_after task same_run cross) reached before
  hidden-next e =
      let fine = fine_of before.look broken reached.control.mode before.tally.budget before.tally.needed before.left e in
      record {
        state = ends;
        unbroken = sym breaks ∙ fine.unbroken;
        labels = sym (ap (λ t. labels_unless t task [] same_run) hidden);
        ahead = subst (λ t. IsAhead before.tally.ahead task.masks
            (visited t past (guest_walk task.enclosures.regions machine))) (sym enclosed) stands.ahead;
        budget = stands.budget;
        bits = stands.bits ∙ sym uncrossing;
        needed = stands.needed ∙ sym (ap length uncrossing);
        within = subst (λ bits. length bits ≤ limits.budget) (sym uncrossing) stands.within;
      }

  pub makes-hidden : MakesMasked before.table task limits same_run cross reached before
      (unclear_of before.look broken reached.control.mode before.tally.budget before.tally.needed before.left)
  makes-hidden = record {
    answers = [];
    are_answers = subst (λ t. AnswersUnless t before.table task [] same_run) (sym hidden) tt;
    why_is = hidden-why;
    state = ends;
    next = hidden-next;
  }

-- ---- the same for the run itself, under the regions that are checked

pub told_makes : (task : Task) (limits : Limits) (run : MaskedRun) (cross : List Bool) (machine : State)
    (before : Tape) (enclosures : Enclosures) → task.enclosures ≡ enclosures →
    Stands task limits run cross machine before → before.look ≡ None → before.left ≡ None →
    before.tally.budget < 4294967295 → (reached : State) (after : Tape) (broken : Option Break) →
    is_hidden enclosures (kind_of enclosures.regions machine.control) ≡ false → broken ≡ Breaks enclosures.regions machine →
    EndsCleared (entered_number (kind_of enclosures.regions machine.control))
    (record { masks = task.masks; skipped = leaves_skipped enclosures (kind_of enclosures.regions machine.control) })
    run.place.past (at_start (map_of before.shades)) before (guest_walk enclosures.regions machine) reached after →
    MakesMasked before.table task limits run cross reached after
    (unclear_of after.look broken reached.control.mode after.tally.budget after.tally.needed after.left)
told_makes task limits run cross machine before enclosures e stands unlooked undecided small reached after broken shown
    breaks told =
    let back : enclosures ≡ task.enclosures = sym e in
    let same = run_same task limits run cross machine before stands in
    subst (λ r. MakesMasked before.table task limits r cross reached after
    (unclear_of after.look broken reached.control.mode after.tally.budget after.tally.needed after.left)) same
    (makes-shown task limits cross machine run.place.past before
    (subst (λ r. Stands task limits r cross machine before) (sym same) stands) unlooked undecided small reached after broken
    (subst (λ (n : Enclosures). is_hidden n (kind_of n.regions machine.control) ≡ false) back shown)
    (subst (λ (n : Enclosures). broken ≡ Breaks n.regions machine) back breaks)
    (subst (λ (n : Enclosures). EndsCleared (entered_number (kind_of n.regions machine.control))
    (record { masks = task.masks; skipped = leaves_skipped n (kind_of n.regions machine.control) }) run.place.past
    (at_start (map_of before.shades)) before (guest_walk n.regions machine) reached after) back told))

pub untold_makes : (task : Task) (limits : Limits) (run : MaskedRun) (cross : List Bool) (machine : State)
    (before : Tape) (enclosures : Enclosures) → task.enclosures ≡ enclosures →
    Stands task limits run cross machine before → before.look ≡ None → before.left ≡ None →
    (reached : State) (broken : Option Break) →
    is_hidden enclosures (kind_of enclosures.regions machine.control) ≡ true → broken ≡ Breaks enclosures.regions machine →
    reached ≡ real_end (guest_walk enclosures.regions machine) →
    MakesMasked before.table task limits run cross reached before
    (unclear_of before.look broken reached.control.mode before.tally.budget before.tally.needed before.left)
untold_makes task limits run cross machine before enclosures e stands unlooked undecided reached broken hidden breaks ends =
    let back : enclosures ≡ task.enclosures = sym e in
    let same = run_same task limits run cross machine before stands in
    subst (λ r. MakesMasked before.table task limits r cross reached before
    (unclear_of before.look broken reached.control.mode before.tally.budget before.tally.needed before.left)) same
    (makes-hidden task limits cross machine run.place.past before
    (subst (λ r. Stands task limits r cross machine before) (sym same) stands) unlooked undecided reached broken
    (subst (λ (n : Enclosures). is_hidden n (kind_of n.regions machine.control) ≡ true) back hidden)
    (subst (λ (n : Enclosures). broken ≡ Breaks n.regions machine) back breaks)
    (subst (λ (n : Enclosures). reached ≡ real_end (guest_walk n.regions machine)) back ends))
