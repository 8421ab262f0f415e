-- A walk turn by turn is that of the definition.
use Rattle.std.proofs.Common.{◌≡◌, ℕ, suc, ◌≤◌, ◌++◌, List, Bool, true, false, Option, Some, None, refl, sym}
use Rattle.std.proofs.Common.{ap, ◌∙◌, subst, drop, length, replicate, arith, nat_lt}
use Rattle.std.proofs.lemmas.List.{drop-append-le}
use Rattle.crossing_bits.specs.Askers.{Asker, Fed', Over, feed}
use Rattle.crossing_bits.specs.Strings.{Stream, left_of}
use Rattle.crossing_bits.proofs.Feeding.{feed_more, feed_then}
use Rattle.flow_base.specs.declared.points.Point.{Point}
use Rattle.rv32im_machine.specs.declared.stepping.Stepped.{Stepped}
use Rattle.rv32im_machine.specs.declared.stepping.Stepped.TheVariants.{Ran, Exited, Stopped}
use Rattle.rv32im_machine.specs.State.{State}
use Rattle.replay_machine.specs.declared.outsides.Outside.{Outside}
use Rattle.replay_machine.specs.Runs.{Masks}
use Rattle.lockstep_replay.specs.Tasks.{Limits, Task}
use Rattle.every_secret.specs.declared.endings.Ending.{Ending}
use Rattle.every_secret.specs.declared.endings.Ending.TheVariants as ending
use Rattle.every_secret.specs.declared.stops.PathStop.TheVariants.{Guest, RangeOutside, Turns}
use Rattle.every_secret.specs.declared.whys.UnclearWhy.{UnclearWhy}
use Rattle.every_secret.specs.declared.whys.UnclearWhy.TheVariants.{Budget}
use Rattle.every_secret.specs.Private.Walking.{lengthens_none}
use Rattle.every_secret.specs.Masked.{MaskedPlace, Reached, Goes, Meets, Halts}
use Rattle.every_secret.specs.declared.path_ends.PathEnd.{PathEnd}
use Rattle.every_secret.specs.declared.path_ends.PathEnd.TheVariants.{Exits}
use Rattle.every_secret.specs.Replays.{ended_or, pattern_of, unless_ended, unless_over, walked_on}
use Rattle.every_secret.specs.Rules.{Rules}
use Rattle.every_secret.specs.Private.Tapes.{HoldsPlace, Lengthens, Tape}
use Rattle.every_secret.specs.Private.Turning.{HoldsTurn, MakesFed}
use Rattle.every_secret.specs.Turns.{masked_turn}
use Rattle.every_secret.specs.Private.Walks.{end_of, ending_after, ending_met, ending_mode, ending_within}
use Rattle.every_secret.proofs.MadeTurns.{placed, place_is}
use Rattle.every_secret.proofs.Strings.{lengthens_more}

-- ---- how a turn ends a walk

module _ (budget : ℕ) (state : State) (past : List Point) (after : Tape) (later : Asker PathEnd) where
  abbrev here : MaskedPlace
  here = placed state past after

  -- no end, by how the machine stands and whether the budget is exceeded
  within-none : (over : Bool) → ending_within over budget after.crossed None ≡ None →
      unless_over over budget here later ≡ later
  within-none true e = absurd (cc)
  within-none false e = refl

  mode-none : (mode : Stepped) → state.control.mode ≡ mode → ending_mode mode budget after.crossed ≡ None →
      unless_ended mode budget here later ≡ later
  mode-none Ran is e = within-none (nat_lt budget after.crossed) e
  mode-none (Exited status) is e = exited (nat_lt budget after.crossed) e
    where
      exited : (over : Bool) → ending_within over budget after.crossed (Some (ending.Exited status)) ≡ None →
          unless_over over budget here (Over (Exits (pattern_of here status))) ≡ later
      exited true e = absurd (cc)
      exited false e = absurd (cc)
  mode-none (Stopped fault) is e = absurd (cc)

  -- this end
  mode-some : (mode : Stepped) → state.control.mode ≡ mode → (ends : Ending) →
      ending_mode mode budget after.crossed ≡ Some ends →
      unless_ended mode budget here later ≡ Over (end_of ends state after)
  mode-some Ran is ends e = ran (nat_lt budget after.crossed) e
    where
      ran : (over : Bool) → ending_within over budget after.crossed None ≡ Some ends →
          unless_over over budget here later ≡ Over (end_of ends state after)
      ran true e =
          let same : ending.Unclear (Budget budget after.crossed) ≡ ends = cc in
          ap (λ x. Over (end_of x state after)) same
      ran false e = absurd (cc)
  mode-some (Exited status) is ends e = exited (nat_lt budget after.crossed) e
    where
      exited : (over : Bool) → ending_within over budget after.crossed (Some (ending.Exited status)) ≡ Some ends →
          unless_over over budget here (Over (Exits (pattern_of here status))) ≡ Over (end_of ends state after)
      exited true e =
          let same : ending.Unclear (Budget budget after.crossed) ≡ ends = cc in
          ap (λ x. Over (end_of x state after)) same
      exited false e =
          let same : ending.Exited status ≡ ends = cc in
          ap (λ x. Over (end_of x state after)) same
  mode-some (Stopped fault) is ends e =
      let same : ending.Stopped (Guest fault) ≡ ends = cc in ap (λ x. Over (end_of x state after)) same

-- after a turn without an end the walk goes on from where it has come to
pub record GoesOn (masks : Masks) (budget : ℕ) (reached : Reached) (state : State) (after : Tape) : Type 0 where
  pub next : MaskedPlace
  pub holds : HoldsPlace masks next state after
  pub on : (later : MaskedPlace → Asker PathEnd) → ended_or budget reached later ≡ later next

module _ (masks : Masks) (budget : ℕ) (outside : Option Outside) (state : State) (after : Tape) where
  abbrev Ending' : Option Ending
  Ending' = ending_after outside after.unclear state.control.mode budget after.crossed

  pub turn-none : (reached : Reached) → HoldsTurn masks reached outside state after → Ending' ≡ None →
      GoesOn masks budget reached state after
  turn-none (Goes place) h e = record {
    next = place;
    holds = h.0;
    on = λ later.
        let ends : ending_mode state.control.mode budget after.crossed ≡ None =
        subst (λ o. ending_after o None state.control.mode budget after.crossed ≡ None) h.1
        (subst (λ u. ending_after outside u state.control.mode budget after.crossed ≡ None) h.0.clear e) in
        subst (λ p. ended_or budget (Goes p) later ≡ later p) (place_is masks place state after h.0)
        (mode-none budget state place.past after (later (placed state place.past after)) state.control.mode refl ends);
  }
  turn-none (Meets why) h e =
      let ends : ending_met (Some why) state.control.mode budget after.crossed ≡ None =
      subst (λ o. ending_after o (Some why) state.control.mode budget after.crossed ≡ None) h.1
      (subst (λ u. ending_after outside u state.control.mode budget after.crossed ≡ None) h.0 e) in
      absurd (cc)
  turn-none (Halts range) h e =
      let ends : ending_after (Some range) after.unclear state.control.mode budget after.crossed ≡ None =
      subst (λ o. ending_after o after.unclear state.control.mode budget after.crossed ≡ None) h.1 e in
      absurd (cc)

  pub turn-some : (reached : Reached) (ends : Ending) (later : MaskedPlace → Asker PathEnd) →
      HoldsTurn masks reached outside state after → Ending' ≡ Some ends →
      ended_or budget reached later ≡ Over (end_of ends state after)
  turn-some (Goes place) ends later h e =
      let is : ending_mode state.control.mode budget after.crossed ≡ Some ends =
      subst (λ o. ending_after o None state.control.mode budget after.crossed ≡ Some ends) h.1
      (subst (λ u. ending_after outside u state.control.mode budget after.crossed ≡ Some ends) h.0.clear e) in
      subst (λ p. ended_or budget (Goes p) later ≡ Over (end_of ends state after))
      (place_is masks place state after h.0)
      (mode-some budget state place.past after (later (placed state place.past after)) state.control.mode refl ends is)
  turn-some (Meets why) ends later h e =
      let is : Some (ending.Unclear why) ≡ Some ends =
      subst (λ o. ending_after o (Some why) state.control.mode budget after.crossed ≡ Some ends) h.1
      (subst (λ u. ending_after outside u state.control.mode budget after.crossed ≡ Some ends) h.0 e) in
      let same : ending.Unclear why ≡ ends = cc in
      ap (λ x. Over (end_of x state after)) same
  turn-some (Halts range) ends later h e =
      let is : Some (ending.Stopped (RangeOutside range)) ≡ Some ends =
      subst (λ o. ending_after o after.unclear state.control.mode budget after.crossed ≡ Some ends) h.1 e in
      let same : ending.Stopped (RangeOutside range) ≡ ends = cc in
      ap (λ x. Over (end_of x state after)) same

-- after a turn without an end no range is told of, and nothing is met
pub none_after : (outside : Option Outside) (met : Option UnclearWhy) (mode : Stepped) (budget crossed : ℕ) →
    ending_after outside met mode budget crossed ≡ None → (outside ≡ None) × (met ≡ None)
none_after None None mode budget crossed e = (refl, refl)
none_after None (Some why) mode budget crossed e = absurd (cc)
none_after (Some range) met mode budget crossed e = absurd (cc)

-- ---- turn after turn

-- what is fed of a string leaves what is left of a string that has grown
pub feed_grown : {A : Type 0} (asker : Asker A) (x : A) (before after later : Stream) →
    before.taken ≤ length after.bits → after.taken ≤ length after.bits → Lengthens after later →
    feed asker (drop before.taken after.bits) ≡ Fed' x (left_of after) →
    feed asker (drop before.taken later.bits) ≡ Fed' x (drop after.taken later.bits)
feed_grown asker x before after later first second longer fed =
    let zeros = replicate longer.count false in
    let one : drop before.taken later.bits ≡ drop before.taken after.bits ++ zeros =
    ap (λ s. drop before.taken s) longer.bits ∙ drop-append-le before.taken after.bits zeros first in
    let two : drop after.taken later.bits ≡ drop after.taken after.bits ++ zeros =
    ap (λ s. drop after.taken s) longer.bits ∙ drop-append-le after.taken after.bits zeros second in
    ap (λ s. feed asker s) one
    ∙ (feed_more asker (drop before.taken after.bits) zeros x (left_of after) fed
    ∙ ap (λ s. Fed' x s) (sym two))

-- after some turns of a walk: it stands at a place, and what is left of it is the walk from there, on any string that the
-- string becomes
pub record IsOn (rules : Rules) (task : Task) (limits : Limits) (place : MaskedPlace) (first : Stream) (left : ℕ)
    (state : State) (tape : Tape) : Type 0 where
  pub next : MaskedPlace
  pub holds : HoldsPlace task.masks next state tape
  pub on : (later : Stream) → Lengthens tape.stream later →
      feed (walked_on rules task limits limits.turns place) (drop first.taken later.bits)
      ≡ feed (walked_on rules task limits left next) (drop tape.stream.taken later.bits)

module _ (rules : Rules) (task : Task) (limits : Limits) (place : MaskedPlace) (first : Stream) (left : ℕ) (state : State)
    (tape : Tape) (on : IsOn rules task limits place first (suc left) state tape) (outside : Option Outside)
    (new : State) (after : Tape) (within : tape.stream.taken ≤ length tape.stream.bits)
    (longer : Lengthens tape.stream after.stream)
    (makes : MakesFed task.masks (masked_turn rules task on.next) tape.stream outside new after) where
  -- the walk after one turn more
  turned : (later : Stream) → Lengthens after.stream later →
      feed (walked_on rules task limits limits.turns place) (drop first.taken later.bits)
      ≡ feed (ended_or limits.budget makes.reached (λ next. walked_on rules task limits left next))
      (drop after.stream.taken later.bits)
  unfolding walked_on
  turned later grown =
      let second = longer.within within in
      let taken = longer.taken in
      let start : tape.stream.taken ≤ length after.stream.bits = omega (arith, taken, second) in
      on.on later (lengthens_more tape.stream after.stream later longer grown)
      ∙ feed_then (masked_turn rules task on.next)
      (λ reached. ended_or limits.budget reached (λ next. walked_on rules task limits left next))
      (drop tape.stream.taken later.bits) makes.reached (drop after.stream.taken later.bits)
      (feed_grown (masked_turn rules task on.next) makes.reached tape.stream after.stream later start second grown
      makes.feeds)

  pub goes_on_so : ending_after outside after.unclear new.control.mode limits.budget after.crossed ≡ None →
      IsOn rules task limits place first left new after
  goes_on_so e =
      let goes = turn-none task.masks limits.budget outside new after makes.reached makes.held e in record {
        next = goes.next;
        holds = goes.holds;
        on = λ later grown. turned later grown
            ∙ ap (λ asker. feed asker (drop after.stream.taken later.bits))
            (goes.on (λ next. walked_on rules task limits left next));
      }

  pub ends_here : (ends : Ending) →
      ending_after outside after.unclear new.control.mode limits.budget after.crossed ≡ Some ends →
      feed (walked_on rules task limits limits.turns place) (drop first.taken after.stream.bits)
      ≡ Fed' (end_of ends new after) (left_of after.stream)
  ends_here ends e =
      turned after.stream (lengthens_none after.stream)
      ∙ ap (λ asker. feed asker (drop after.stream.taken after.stream.bits))
      (turn-some task.masks limits.budget outside new after makes.reached ends
      (λ next. walked_on rules task limits left next) makes.held e)

-- no turn is left
pub ends_late : (rules : Rules) (task : Task) (limits : Limits) (place : MaskedPlace) (first : Stream) (state : State)
    (tape : Tape) → IsOn rules task limits place first 0 state tape →
    feed (walked_on rules task limits limits.turns place) (drop first.taken tape.stream.bits)
    ≡ Fed' (end_of (ending.Stopped (Turns limits.turns)) state tape) (left_of tape.stream)
unfolding walked_on
ends_late rules task limits place first state tape on = on.on tape.stream (lengthens_none tape.stream)

-- the first turn is ahead
pub begins_on : (rules : Rules) (task : Task) (limits : Limits) (place : MaskedPlace) (state : State) (tape : Tape) →
    HoldsPlace task.masks place state tape → IsOn rules task limits place tape.stream limits.turns state tape
begins_on rules task limits place state tape holds = record { next = place; holds = holds; on = λ later grown. refl }
