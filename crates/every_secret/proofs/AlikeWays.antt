-- A way from one place has its like from another place with the same state, where it has as many turns left and as many
-- bits of the budget.
use Rattle.std.proofs.Common.{◌≡◌, ℕ, zero, suc, ◌+◌, ◌-◌, ◌≤◌, ◌<◌, [], List, Bool, refl, sym, ap, ◌∙◌, subst}
use Rattle.std.proofs.Common.{arith}
use Rattle.crossing_bits.specs.Askers.{Fed', feed}
use Rattle.rv32im_machine.specs.declared.stepping.Stepped.{Stepped}
use Rattle.rv32im_machine.specs.declared.stepping.Stepped.TheVariants.{Ran, Exited, Stopped}
use Rattle.rv32im_machine.specs.State.{State}
use Rattle.replay_machine.specs.Runs.{Masks}
use Rattle.lockstep_replay.specs.Tasks.{Limits, Task}
use Rattle.every_secret.specs.declared.path_ends.PathEnd.{PathEnd}
use Rattle.every_secret.specs.declared.path_ends.PathEnd.TheVariants.{Exits, Stops}
use Rattle.every_secret.specs.declared.stops.PathStop.TheVariants.{RangeOutside}
use Rattle.every_secret.specs.Masked.{Goes, Halts, MaskedPlace, Meets, Reached}
use Rattle.every_secret.specs.Replays.{pattern_of}
use Rattle.every_secret.specs.Rules.{Rules}
use Rattle.every_secret.specs.States.{SameState}
use Rattle.every_secret.specs.Turns.{masked_turn}
use Rattle.every_secret.specs.Ways.{EndsAfter, EndsIn, EndsOn, Leads}
use Rattle.every_secret.proofs.AlikeMasks.{Grows}
use Rattle.every_secret.proofs.AlikeTurns.{AlikeReached, GoAlike, alike_turn}

pub same_self : (masks : Masks) (place : MaskedPlace) → SameState masks place place
same_self masks place = record {
  state = refl;
  visits = λ point visit first. refl;
  registers = λ register. refl;
  kept = λ register. refl;
  bytes = λ address. refl;
  byte_masks = refl;
  status_mask = refl;
}

module _ (rules : Rules) (task : Task) where
  -- the like of a turn that comes to a place
  pub record TurnAlike (first second : MaskedPlace) (bits : List Bool) (next : MaskedPlace) (rest : List Bool) : Type 0
    where
      pub place : MaskedPlace
      pub turn : feed (masked_turn rules task second) bits ≡ Fed' (Goes place) rest
      pub alike : GoAlike task.masks first.crossed second.crossed next place

  pub turn_alike : (first second : MaskedPlace) → SameState task.masks first second → (bits : List Bool)
      (next : MaskedPlace) (rest : List Bool) → feed (masked_turn rules task first) bits ≡ Fed' (Goes next) rest →
      TurnAlike first second bits next rest
  turn_alike first second same bits next rest turn =
      let found = alike_turn rules task first second same bits (Goes next) rest turn in
      by found.value found.feeds found.same
    where
      by : (other : Reached) → feed (masked_turn rules task second) bits ≡ Fed' other rest →
          AlikeReached task.masks first.crossed second.crossed (Goes next) other →
          TurnAlike first second bits next rest
      by (Goes place) fed alike = record { place = place; turn = fed; alike = alike }
      by (Meets why) fed alike = absurd alike
      by (Halts outside) fed alike = absurd alike

  -- how many bits more have crossed after a turn
  pub record TurnGrows (crossed after : ℕ) : Type 0 where
    pub more : ℕ
    pub grows : Grows crossed more after

  pub turn_grows : (first next : MaskedPlace) (bits rest : List Bool) →
      feed (masked_turn rules task first) bits ≡ Fed' (Goes next) rest → TurnGrows first.crossed next.crossed
  turn_grows first next bits rest turn =
      let found = turn_alike first first (same_self task.masks first) bits next rest turn in
      record { more = found.alike.more; grows = found.alike.grows }

  module _ (limits : Limits) (small : limits.budget < 4294967295) where
    -- along a way no fewer bits have crossed
    pub leads_grows : (made : ℕ) (first last : MaskedPlace) (bits : List Bool) →
        Leads rules task limits made first bits last → first.crossed ≤ last.crossed
    unfolding Leads
    leads_grows zero first last bits leads =
        let same = ap (λ (place : MaskedPlace). place.crossed) leads.1 in omega (arith, same)
    leads_grows (suc made) first last bits leads =
        let once = turn_grows first leads.next leads.taken [] leads.turn in
        let more = once.more in
        let exact = once.grows.exact in
        let within = leads.goes.within in
        let later = leads_grows made leads.next last leads.rest leads.later in
        omega (arith, exact, within, later, small)

    -- and no more than the budget
    pub leads_within : (made : ℕ) (first last : MaskedPlace) (bits : List Bool) →
        Leads rules task limits made first bits last → first.crossed ≤ limits.budget → last.crossed ≤ limits.budget
    unfolding Leads
    leads_within zero first last bits leads begins =
        let same = ap (λ (place : MaskedPlace). place.crossed) leads.1 in omega (arith, same, begins)
    leads_within (suc made) first last bits leads begins =
        leads_within made leads.next last leads.rest leads.later leads.goes.within

    -- ---- many turns

    pub record LeadsAlike (made : ℕ) (second : MaskedPlace) (bits : List Bool) (last : MaskedPlace) (crossed : ℕ) :
        Type 0 where
      pub place : MaskedPlace
      pub leads : Leads rules task limits made second bits place
      pub same : SameState task.masks last place
      pub crossed_is : place.crossed ≡ crossed

    -- where so many bits more have crossed along the way
    leads_by : (made : ℕ) (first second last : MaskedPlace) (bits : List Bool) (grown : ℕ) →
        SameState task.masks first second → Leads rules task limits made first bits last →
        last.crossed ≡ first.crossed + grown → second.crossed + grown ≤ limits.budget → last.crossed ≤ limits.budget →
        LeadsAlike made second bits last (second.crossed + grown)
    unfolding Leads
    leads_by zero first second last bits grown same leads more fits within =
        let here = ap (λ (place : MaskedPlace). place.crossed) leads.1 in record {
          place = second;
          leads = (leads.0, refl);
          same = subst (λ place. SameState task.masks place second) leads.1 same;
          crossed_is = omega (arith, here, more);
        }
    leads_by (suc made) first second last bits grown same leads more fits within =
        let found = turn_alike first second same leads.taken leads.next [] leads.turn in
        let next = leads.next in
        let crossing = found.alike.more in
        let exact = found.alike.grows.exact in
        let other = found.alike.other_grows.within in
        let next_within = leads.goes.within in
        let later = leads_grows made leads.next last leads.rest leads.later in
        let grows : next.crossed ≡ first.crossed + crossing = omega (arith, exact, next_within, small) in
        let fewer : crossing ≤ grown = omega (arith, grows, later, more) in
        let other_grows : found.place.crossed ≡ second.crossed + crossing =
        omega (arith, other, fewer, fits, small) in
        let inner = leads_by made leads.next found.place last leads.rest (grown - crossing) found.alike.same leads.later
        (omega (arith, grows, fewer, more)) (omega (arith, other_grows, fewer, fits)) within in
        let inner_crossed = inner.crossed_is in record {
          place = inner.place;
          leads = record {
            taken = leads.taken;
            rest = leads.rest;
            splits = leads.splits;
            next = found.place;
            turn = found.turn;
            goes = record {
              runs = ap (λ (state : State). state.control.mode) (sym found.alike.same.state) ∙ leads.goes.runs;
              within = omega (arith, other_grows, fewer, fits);
            };
            later = inner.leads;
          };
          same = inner.same;
          crossed_is = omega (arith, inner_crossed, other_grows, fewer);
        }

    pub alike_leads : (made : ℕ) (first second last : MaskedPlace) (bits : List Bool) →
        SameState task.masks first second → Leads rules task limits made first bits last →
        second.crossed + (last.crossed - first.crossed) ≤ limits.budget → last.crossed ≤ limits.budget →
        LeadsAlike made second bits last (second.crossed + (last.crossed - first.crossed))
    alike_leads made first second last bits same leads fits within =
        let grows = leads_grows made first last bits leads in
        leads_by made first second last bits (last.crossed - first.crossed) same leads (omega (arith, grows)) fits within

    -- ---- to the end of a path

    -- the end is the same, where as many bits more have crossed, or both are counted no further
    record EndsAlike (last : MaskedPlace) (reached : Reached) (ends : PathEnd) (crossed most : ℕ) : Type 0 where
      other_crossed : ℕ
      is_end : EndsAfter limits last reached ends other_crossed
      few : crossed < 4294967295 → other_crossed ≤ most

    pub record EndsOnAlike (left : ℕ) (second : MaskedPlace) (bits : List Bool) (ends : PathEnd)
        (turns crossed most : ℕ) : Type 0 where
      pub after : ℕ
      pub other_crossed : ℕ
      pub ends_on : EndsOn rules task limits left second bits ends after other_crossed
      pub soon : left ≤ turns + after
      pub few : crossed < 4294967295 → other_crossed ≤ most

    module _ (last second : MaskedPlace) (ends : PathEnd) (crossed grown more : ℕ)
        (within : last.crossed ≤ limits.budget) (fits : second.crossed + grown ≤ limits.budget)
        (few : crossed ≤ last.crossed + grown) where
      -- a turn goes to a place where the walk ends
      goes_alike : (next place : MaskedPlace) → GoAlike task.masks last.crossed second.crossed next place →
          EndsAfter limits last (Goes next) ends crossed →
          EndsAlike second (Goes place) ends crossed (second.crossed + grown)
      goes_alike next place alike h =
          let same = alike.same in
          let there : EndsIn next.state.control.mode limits place ends = by next.state.control.mode h.1 in record {
            other_crossed = place.crossed;
            is_end = (refl, subst (λ (state : State). EndsIn state.control.mode limits place ends) same.state there);
            few = λ counted. fewer counted;
          }
        where
          fewer : crossed < 4294967295 → place.crossed ≤ second.crossed + grown
          fewer counted =
              let is = h.0 in
              let crossing = alike.more in
              let exact = alike.grows.exact in
              let other = alike.other_grows.within in
              let next_is : next.crossed ≡ last.crossed + crossing = omega (arith, exact, is, counted) in
              let less : crossing ≤ grown = omega (arith, next_is, is, few) in
              omega (arith, other, less, fits, small)

          exit_same : (status : ℕ) → pattern_of next status ≡ pattern_of place status
          exit_same status = λ i. record {
            bytes = (alike.same.state i).control.output;
            status = status;
            byte_masks = alike.same.byte_masks i;
            status_mask = alike.same.status_mask i;
          }

          by : (mode : Stepped) → EndsIn mode limits next ends → EndsIn mode limits place ends
          by Ran in_mode = in_mode
          by (Exited status) in_mode =
              let is = h.0 in
              let next_within = in_mode.0 in
              let low : crossed < 4294967295 = omega (arith, is, next_within, small) in
              let less = fewer low in
              (omega (arith, less, fits), in_mode.1 ∙ ap (λ pattern. Exits pattern) (exit_same status))
          by (Stopped fault) in_mode = in_mode

      reached_alike : (reached other : Reached) → AlikeReached task.masks last.crossed second.crossed reached other →
          EndsAfter limits last reached ends crossed → EndsAlike second other ends crossed (second.crossed + grown)
      reached_alike (Goes next) (Goes place) alike h = goes_alike next place alike h
      reached_alike (Goes next) (Meets why) alike h = absurd alike
      reached_alike (Goes next) (Halts outside) alike h = absurd alike
      reached_alike (Meets why) other alike h = absurd h
      reached_alike (Halts outside) (Goes place) alike h = absurd alike
      reached_alike (Halts outside) (Meets why) alike h = absurd alike
      reached_alike (Halts outside) (Halts beyond) alike h = record {
        other_crossed = second.crossed;
        is_end = (refl, h.1 ∙ ap (λ range. Stops (RangeOutside range)) alike);
        few = λ counted. omega arith;
      }

    -- what crosses up to the last turn is within what crosses up to the end
    ends_grows : (last : MaskedPlace) (bits : List Bool) (reached : Reached) (ends : PathEnd) (crossed : ℕ) →
        last.crossed ≤ limits.budget → feed (masked_turn rules task last) bits ≡ Fed' reached [] →
        EndsAfter limits last reached ends crossed → last.crossed ≤ crossed
    ends_grows last bits (Goes next) ends crossed within turn h =
        let once = turn_grows last next bits [] turn in
        let more = once.more in
        let counted = once.grows.counted in
        let is = h.0 in
        omega (arith, counted, within, is, small)
    ends_grows last bits (Meets why) ends crossed within turn h = absurd h
    ends_grows last bits (Halts outside) ends crossed within turn h = let is = h.0 in omega (arith, is)

    pub alike_ends : (first second : MaskedPlace) (left other_left turns more : ℕ) (bits : List Bool) (ends : PathEnd)
        (after crossed : ℕ) → SameState task.masks first second →
        EndsOn rules task limits left first bits ends after crossed → left ≤ turns + after →
        crossed ≤ first.crossed + more → turns ≤ other_left → first.crossed ≤ limits.budget →
        second.crossed + more ≤ limits.budget →
        EndsOnAlike other_left second bits ends turns crossed (second.crossed + more)
    alike_ends first second left other_left turns more bits ends after crossed same way soon few enough begins fits =
        let last = way.last in
        let grows = leads_grows way.made first way.last way.before way.leads in
        let within = leads_within way.made first way.last way.before way.leads begins in
        let most = ends_grows way.last way.taken way.reached ends crossed within way.turn way.is_end in
        let fewer : last.crossed - first.crossed ≤ more = omega (arith, grows, most, few) in
        let there = alike_leads way.made first second way.last way.before same way.leads (omega (arith, fewer, fits))
        within in
        let there_crossed = there.crossed_is in
        let found = alike_turn rules task way.last there.place there.same way.taken way.reached [] way.turn in
        let grown = more - (last.crossed - first.crossed) in
        let all : there.place.crossed + grown ≡ second.crossed + more = omega (arith, there_crossed, fewer) in
        let end = reached_alike way.last there.place ends crossed grown more within (omega (arith, all, fits))
        (omega (arith, few, grows, fewer)) way.reached found.value found.same way.is_end in
        let made = way.made in
        let turn_count = way.turns in record {
          after = other_left - suc made;
          other_crossed = end.other_crossed;
          ends_on = record {
            made = made;
            turns = omega (arith, turn_count, soon, enough);
            before = way.before;
            taken = way.taken;
            splits = way.splits;
            last = there.place;
            leads = there.leads;
            reached = found.value;
            turn = found.feeds;
            is_end = end.is_end;
          };
          soon = omega (arith, turn_count, soon, enough);
          few = λ counted. subst (λ n. end.other_crossed ≤ n) all (end.few counted);
        }
