-- The way of a masked replay: what the walk is along it, and one way after another.
use Rattle.std.proofs.Common.{◌≡◌, ℕ, zero, suc, ◌+◌, ◌++◌, [], List, Bool, refl, sym, ap, ◌∙◌}
use Rattle.std.proofs.Common.{subst, append_assoc, append-nil, arith}
use Rattle.std.proofs.lemmas.Bool.{le-ltb}
use Rattle.crossing_bits.specs.Askers.{Asker, Fed', Over, feed}
use Rattle.crossing_bits.proofs.Feeding.{feed_after, feed_then}
use Rattle.rv32im_machine.specs.declared.stepping.Stepped.{Stepped}
use Rattle.rv32im_machine.specs.declared.stepping.Stepped.TheVariants.{Ran, Exited, Stopped}
use Rattle.lockstep_replay.specs.Tasks.{Limits, Task}
use Rattle.every_secret.specs.declared.path_ends.PathEnd.{PathEnd}
use Rattle.every_secret.specs.declared.path_ends.PathEnd.TheVariants.{Exits}
use Rattle.every_secret.specs.Masked.{Goes, Halts, MaskedPlace, Meets, Reached}
use Rattle.every_secret.specs.Replays.{ended_or, pattern_of, unless_ended, unless_over, walked_on}
use Rattle.every_secret.specs.Rules.{Rules}
use Rattle.every_secret.specs.Turns.{masked_turn}
use Rattle.every_secret.specs.Ways.{EndsAfter, EndsIn, EndsOn, GoesOn, Leads}

-- ---- how a turn ends a walk

-- it does not
goes_on_is : (limits : Limits) (next : MaskedPlace) (later : MaskedPlace → Asker PathEnd) → GoesOn limits next →
    ended_or limits.budget (Goes next) later ≡ later next
goes_on_is limits next later goes =
    ap (λ mode. unless_ended mode limits.budget next (later next)) goes.runs
    ∙ ap (λ test. unless_over test limits.budget next (later next)) (le-ltb limits.budget next.crossed goes.within)

ends_is : (limits : Limits) (last : MaskedPlace) (reached : Reached) (later : MaskedPlace → Asker PathEnd)
    (ends : PathEnd) (crossed : ℕ) → EndsAfter limits last reached ends crossed →
    feed (ended_or limits.budget reached later) [] ≡ Fed' ends []
ends_is limits last (Goes next) later ends crossed h = by next.state.control.mode h.1
  where
    by : (mode : Stepped) → EndsIn mode limits next ends →
        feed (unless_ended mode limits.budget next (later next)) [] ≡ Fed' ends []
    by Ran in_mode = absurd in_mode
    by (Exited status) in_mode =
        ap (λ test. feed (unless_over test limits.budget next (Over (Exits (pattern_of next status)))) [])
        (le-ltb limits.budget next.crossed in_mode.0)
        ∙ ap (λ e. Fed' e []) (sym in_mode.1)
    by (Stopped fault) in_mode = ap (λ e. Fed' e []) (sym in_mode)
ends_is limits last (Meets why) later ends crossed h = absurd h
ends_is limits last (Halts outside) later ends crossed h = ap (λ e. Fed' e []) (sym h.1)

module _ (rules : Rules) (task : Task) (limits : Limits) where
  -- the walk from a place with so many turns left
  abbrev from : ℕ → MaskedPlace → Asker PathEnd
  from left place = walked_on rules task limits left place

  -- ---- the walk along a way

  pub walks_along : (made left total : ℕ) → total ≡ made + left → (first last : MaskedPlace) (bits rest : List Bool) →
      Leads rules task limits made first bits last →
      feed (walked_on rules task limits total first) (bits ++ rest) ≡ feed (walked_on rules task limits left last) rest
  unfolding walked_on Leads
  walks_along zero left total e first last bits rest leads =
      let same : total ≡ left = omega (arith, e) in
      ap (λ n. feed (from n first) (bits ++ rest)) same
      ∙ (ap (λ place. feed (from left place) (bits ++ rest)) leads.1
      ∙ ap (λ string. feed (from left last) (string ++ rest)) leads.0)
  walks_along (suc made) left zero e first last bits rest leads = absurd (omega (arith, e))
  walks_along (suc made) left (suc total) e first last bits rest leads =
      let more : total ≡ made + left = omega (arith, e) in
      ap (λ string. feed (from (suc total) first) (string ++ rest)) leads.splits
      ∙ (ap (λ string. feed (from (suc total) first) string) (append_assoc leads.taken leads.rest rest)
      ∙ (feed_after (masked_turn rules task first) (λ reached. ended_or limits.budget reached (λ next. from total next))
      leads.taken (leads.rest ++ rest) (Goes leads.next) leads.turn
      ∙ (ap (λ asker. feed asker (leads.rest ++ rest))
      (goes_on_is limits leads.next (λ next. from total next) leads.goes)
      ∙ walks_along made left total more leads.next last leads.rest rest leads.later)))

  -- what is left of a walk after the turns of a way
  pub walks_on : (made left : ℕ) (first last : MaskedPlace) (bits : List Bool) →
      Leads rules task limits made first bits last → (rest : List Bool) →
      feed (walked_on rules task limits (made + left) first) (bits ++ rest)
      ≡ feed (walked_on rules task limits left last) rest
  walks_on made left first last bits leads rest = walks_along made left (made + left) refl first last bits rest leads

  -- the walk to the end of a path
  pub walks_to_end : (left : ℕ) (first : MaskedPlace) (bits : List Bool) (ends : PathEnd) (after crossed : ℕ) →
      EndsOn rules task limits left first bits ends after crossed →
      feed (walked_on rules task limits left first) bits ≡ Fed' ends []
  unfolding walked_on
  walks_to_end left first bits ends after crossed way =
      let turns = way.turns in
      let total : left ≡ way.made + suc after = omega (arith, turns) in
      ap (λ string. feed (from left first) string) way.splits
      ∙ (walks_along way.made (suc after) left total first way.last way.before way.taken way.leads
      ∙ (feed_then (masked_turn rules task way.last) (λ reached. ended_or limits.budget reached (λ next. from after next))
      way.taken way.reached [] way.turn
      ∙ ends_is limits way.last way.reached (λ next. from after next) ends crossed way.is_end))

  -- ---- one way after another

  pub leads_then : (made more total : ℕ) → total ≡ made + more → (first middle last : MaskedPlace)
      (bits later : List Bool) → Leads rules task limits made first bits middle →
      Leads rules task limits more middle later last → Leads rules task limits total first (bits ++ later) last
  unfolding Leads
  leads_then zero more total e first middle last bits later one two =
      let same : more ≡ total = omega (arith, e) in
      subst (λ n. Leads rules task limits n first (bits ++ later) last) same
      (subst (λ place. Leads rules task limits more place (bits ++ later) last) (sym one.1)
      (subst (λ string. Leads rules task limits more middle (string ++ later) last) (sym one.0) two))
  leads_then (suc made) more zero e first middle last bits later one two = absurd (omega (arith, e))
  leads_then (suc made) more (suc total) e first middle last bits later one two =
      let rest : total ≡ made + more = omega (arith, e) in record {
        taken = one.taken;
        rest = one.rest ++ later;
        splits = ap (λ string. string ++ later) one.splits ∙ append_assoc one.taken one.rest later;
        next = one.next;
        turn = one.turn;
        goes = one.goes;
        later = leads_then made more total rest one.next middle last one.rest later one.later two;
      }

  pub leads_none : (place : MaskedPlace) → Leads rules task limits 0 place [] place
  unfolding Leads
  leads_none place = (refl, refl)

  leads_once : (place next : MaskedPlace) (taken : List Bool) →
      feed (masked_turn rules task place) taken ≡ Fed' (Goes next) [] → GoesOn limits next →
      Leads rules task limits (suc zero) place taken next
  unfolding Leads
  leads_once place next taken turn goes = record {
    taken = taken;
    rest = [];
    splits = sym (append-nil taken);
    next = next;
    turn = turn;
    goes = goes;
    later = (refl, refl);
  }

  -- one turn more at the end of a way
  pub leads_more : (made : ℕ) (first middle next : MaskedPlace) (bits taken : List Bool) →
      Leads rules task limits made first bits middle →
      feed (masked_turn rules task middle) taken ≡ Fed' (Goes next) [] → GoesOn limits next →
      Leads rules task limits (suc made) first (bits ++ taken) next
  leads_more made first middle next bits taken leads turn goes =
      leads_then made (suc zero) (suc made) (omega arith) first middle next bits taken leads
      (leads_once middle next taken turn goes)

  -- a way to the end of a path after another way
  pub leads_to_end : (made left : ℕ) (first middle : MaskedPlace) (bits later : List Bool) (ends : PathEnd)
      (after crossed : ℕ) → Leads rules task limits made first bits middle →
      EndsOn rules task limits left middle later ends after crossed →
      EndsOn rules task limits (made + left) first (bits ++ later) ends after crossed
  leads_to_end made left first middle bits later ends after crossed leads way =
      let turns = way.turns in record {
        made = made + way.made;
        turns = omega (arith, turns);
        before = bits ++ way.before;
        taken = way.taken;
        splits = ap (λ string. bits ++ string) way.splits ∙ sym (append_assoc bits way.before way.taken);
        last = way.last;
        leads = leads_then made way.made (made + way.made) refl first middle way.last bits way.before leads way.leads;
        reached = way.reached;
        turn = way.turn;
        is_end = way.is_end;
      }
