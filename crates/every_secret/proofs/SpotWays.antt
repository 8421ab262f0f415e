-- How the places on the way of a search lead on while a walk takes bits of a string that grows.
use Rattle.std.proofs.Common.{◌≡◌, ◌≤◌, ◌<◌, ◌+◌, ℕ, zero, suc, List, [], ◌∷◌, ◌++◌, length, drop, take, replicate, false, Bool}
use Rattle.std.proofs.Common.{refl, sym, ap, ap₂, ◌∙◌, arith, subst, append_assoc, inl, inr, true}
use Rattle.std.proofs.lemmas.List.{append_cancel_right, length-append, length-take, take-append-drop, take-append-le}
use Rattle.crossing_bits.specs.Askers.{Asker, Asks, Fed', Over, feed}
use Rattle.crossing_bits.proofs.Feeding.{feed_enough, feed_few, le_or_lt}
use Rattle.crossing_bits.specs.Strings.{Stream, left_of}
use Rattle.replay_machine.specs.Runs.{Masks}
use Rattle.rv32im_machine.specs.declared.stepping.Stepped.{Stepped}
use Rattle.rv32im_machine.specs.declared.stepping.Stepped.TheVariants.{Ran, Exited, Stopped}
use Rattle.rv32im_machine.specs.State.{State}
use Rattle.every_secret.specs.declared.path_ends.PathEnd.{PathEnd}
use Rattle.every_secret.specs.declared.path_ends.PathEnd.TheVariants.{Exits, Stops}
use Rattle.every_secret.specs.declared.stops.PathStop.TheVariants.{RangeOutside}
use Rattle.every_secret.specs.Masked.{MaskedPlace, Reached, Goes, Halts, Meets}
use Rattle.every_secret.specs.Paths.{Fork, Leaf, Opens, Tree}
use Rattle.every_secret.specs.Replays.{pattern_of, walked_on}
use Rattle.every_secret.specs.States.{SameState}
use Rattle.every_secret.specs.Turns.{masked_turn}
use Rattle.every_secret.specs.Ways.{EndsAfter, EndsIn, EndsOn, GoesOn, Leads}
use Rattle.every_secret.specs.Private.Orders.{under}
use Rattle.every_secret.specs.Private.Spots.{Basis, LeadsTo, Spot, below_in}
use Rattle.every_secret.specs.Private.Tapes.{Lengthens}
use Rattle.every_secret.proofs.AlikeTurns.{AlikeReached, GoAlike, alike_turn}
use Rattle.every_secret.proofs.AlikeWays.{alike_leads, leads_grows, leads_within, turn_alike}
use Rattle.every_secret.proofs.EarlierPaths.{leads_to}
use Rattle.every_secret.proofs.SameTrees.{same_below}
use Rattle.every_secret.proofs.WayWalks.{leads_more, leads_none, leads_to_end, walks_on}

-- ---- the bits that an asker uses up of a string

pub record UsesUp {A : Type 0} (asker : Asker A) (bits : List Bool) (x : A) (rest : List Bool) : Type 0 where
  pub used : List Bool
  pub splits : bits ≡ used ++ rest
  pub feeds : feed asker used ≡ Fed' x []

pub uses_up : {A : Type 0} (asker : Asker A) (bits rest : List Bool) (x : A) → feed asker bits ≡ Fed' x rest →
    UsesUp asker bits x rest
uses_up (Over y) bits rest x h =
    let same : y ≡ x = cc in
    let left : bits ≡ rest = cc in
    record { used = []; splits = left; feeds = ap (λ z. Fed' z []) same }
uses_up (Asks count go) bits rest x h = elim (le_or_lt count (length bits)) [
  | inl enough ↦
      let inner = uses_up (go (take count bits)) (drop count bits) rest x (sym (feed_enough count go bits enough) ∙ h) in
      let long : length (take count bits) ≡ count = exact_length count bits enough in
      record {
        used = take count bits ++ inner.used;
        splits = sym (take-append-drop count bits)
            ∙ (ap (λ s. take count bits ++ s) inner.splits
            ∙ sym (append_assoc (take count bits) inner.used rest));
        feeds = feed_enough count go (take count bits ++ inner.used) (at_least count (take count bits) inner.used long)
            ∙ (ap₂ (λ a b. feed (go a) b) (front count (take count bits) inner.used long)
            (behind_front count (take count bits) inner.used long)
            ∙ inner.feeds);
      }
  | inr few ↦ let short = feed_few count go bits few in absurd (cc)
]
  where
    exact_length : (n : ℕ) (s : List Bool) → n ≤ length s → length (take n s) ≡ n
    exact_length n s h = grind (arith, length-take)

    at_least : (n : ℕ) (s t : List Bool) → length s ≡ n → n ≤ length (s ++ t)
    at_least n s t e = let both = length-append s t in omega (arith, e, both)

    front : (n : ℕ) (s t : List Bool) → length s ≡ n → take n (s ++ t) ≡ s
    front zero [] t e = refl
    front zero (x ∷ s) t e = absurd (omega (arith, e))
    front (suc n) [] t e = absurd (omega (arith, e))
    front (suc n) (x ∷ s) t e = ap (λ r. x ∷ r) (front n s t (omega (arith, e)))

    behind_front : (n : ℕ) (s t : List Bool) → length s ≡ n → drop n (s ++ t) ≡ t
    behind_front zero [] t e = refl
    behind_front zero (x ∷ s) t e = absurd (omega (arith, e))
    behind_front (suc n) [] t e = absurd (omega (arith, e))
    behind_front (suc n) (x ∷ s) t e = behind_front n s t (omega (arith, e))

-- a string between two places
pub between : (from to : ℕ) (s : List Bool) → from ≤ to → drop from s ≡ drop from (take to s) ++ drop to s
between zero to s h = sym (take-append-drop to s)
between (suc from) zero s h = absurd (omega (arith, h))
between (suc from) (suc to) [] h = refl
between (suc from) (suc to) (x ∷ s) h = between from to s (omega (arith, h))

pub taken_between : (depth from to : ℕ) (s : List Bool) → depth ≤ from → from ≤ to →
    drop depth (take to s) ≡ drop depth (take from s) ++ drop from (take to s)
taken_between zero zero to s h le = refl
taken_between zero (suc from) zero s h le = absurd (omega (arith, le))
taken_between zero (suc from) (suc to) [] h le = refl
taken_between zero (suc from) (suc to) (x ∷ s) h le = ap (λ r. x ∷ r) (taken_between zero from to s (omega arith) (omega (arith, le)))
taken_between (suc depth) zero to s h le = absurd (omega (arith, h))
taken_between (suc depth) (suc from) zero s h le = absurd (omega (arith, le))
taken_between (suc depth) (suc from) (suc to) [] h le = refl
taken_between (suc depth) (suc from) (suc to) (x ∷ s) h le =
    taken_between depth from to s (omega (arith, h)) (omega (arith, le))

pub taken_grown : (n count : ℕ) (s grown : List Bool) → grown ≡ s ++ replicate count false → n ≤ length s →
    take n grown ≡ take n s
taken_grown n count s grown is h = ap (λ r. take n r) is ∙ take-append-le n s (replicate count false) h

-- what a turn uses up
pub used_between : {A : Type 0} (asker : Asker A) (from to : ℕ) (s : List Bool) (x : A) → from ≤ to →
    feed asker (drop from s) ≡ Fed' x (drop to s) → feed asker (drop from (take to s)) ≡ Fed' x []
used_between asker from to s x h fed =
    let found = uses_up asker (drop from s) (drop to s) x fed in
    let same : found.used ≡ drop from (take to s) =
    append_cancel_right found.used (drop from (take to s)) (drop to s) (sym found.splits ∙ between from to s h) in
    ap (λ r. feed asker r) (sym same) ∙ found.feeds

-- ---- a string after a string, in a tree

pub under_after : (tree : Tree) (first second : List Bool) → Opens tree first →
    under tree (first ++ second) ≡ under (under tree first) second
under_after (Leaf e) [] second opens = refl
under_after (Leaf e) (bit ∷ first) second opens = absurd opens
under_after (Fork left right) [] second opens = refl
under_after (Fork left right) (false ∷ first) second opens = under_after left first second opens
under_after (Fork left right) (true ∷ first) second opens = under_after right first second opens

pub opens_after : (tree : Tree) (first second : List Bool) → Opens tree first → Opens (under tree first) second →
    Opens tree (first ++ second)
opens_after (Leaf e) [] second opens more = more
opens_after (Leaf e) (bit ∷ first) second opens more = absurd opens
opens_after (Fork left right) [] second opens more = more
opens_after (Fork left right) (false ∷ first) second opens more = opens_after left first second opens more
opens_after (Fork left right) (true ∷ first) second opens more = opens_after right first second opens more

-- ---- places with the same state

pub same_back : (masks : Masks) {first second : MaskedPlace} → SameState masks first second →
    SameState masks second first
same_back masks same = record {
  state = sym same.state;
  visits = λ point visit first. sym (same.visits point visit first);
  registers = λ register. sym (same.registers register);
  kept = λ register. sym (same.kept register);
  bytes = λ address. sym (same.bytes address);
  byte_masks = sym same.byte_masks;
  status_mask = sym same.status_mask;
}

pub same_then : (masks : Masks) {first second third : MaskedPlace} → SameState masks first second →
    SameState masks second third → SameState masks first third
same_then masks one two = record {
  state = one.state ∙ two.state;
  visits = λ point visit first. one.visits point visit first ∙ two.visits point visit first;
  registers = λ register. one.registers register ∙ two.registers register;
  kept = λ register. one.kept register ∙ two.kept register;
  bytes = λ address. one.bytes address ∙ two.bytes address;
  byte_masks = one.byte_masks ∙ two.byte_masks;
  status_mask = one.status_mask ∙ two.status_mask;
}

-- ---- spots

none_taken : (depth : ℕ) (s : List Bool) → drop depth (take depth s) ≡ []
none_taken zero s = refl
none_taken (suc depth) [] = refl
none_taken (suc depth) (x ∷ s) = none_taken depth s

abbrev pub spot : ℕ → ℕ → MaskedPlace → Spot
spot depth left place = record { depth = depth; left = left; place = place }

module _ (basis : Basis) (small : basis.limits.budget < 4294967295) where
  -- one turn more
  pub leads_turn : (before after : Stream) (first : Spot) (left : ℕ) (now next : MaskedPlace) →
      before.taken ≤ length before.bits → Lengthens before after →
      LeadsTo basis before.bits first (spot before.taken (suc left) now) →
      feed (masked_turn basis.rules basis.task now) (drop before.taken after.bits) ≡ Fed' (Goes next) (left_of after) →
      GoesOn basis.limits next → LeadsTo basis after.bits first (spot after.taken left next)
  leads_turn before after first left now next within longer leads fed goes =
      let used = used_between (masked_turn basis.rules basis.task now) before.taken after.taken after.bits (Goes next)
      longer.taken fed in
      let found = turn_alike basis.rules basis.task now leads.near (same_back basis.task.masks leads.same)
      (drop before.taken (take after.taken after.bits)) next [] used in
      let turns = leads.turns in
      let depth = leads.deeper in
      let taken = longer.taken in
      let crossed : found.place.crossed ≡ next.crossed = sym (found.alike.equal (sym leads.crossed)) in
      let string : drop first.depth (take before.taken before.bits) ++ drop before.taken (take after.taken after.bits)
      ≡ drop first.depth (take after.taken after.bits) =
      ap (λ s. drop first.depth s ++ drop before.taken (take after.taken after.bits))
      (sym (taken_grown before.taken longer.count before.bits after.bits longer.bits within))
      ∙ sym (taken_between first.depth before.taken after.taken after.bits depth taken) in
      let within_budget = goes.within in record {
        made = suc leads.made;
        near = found.place;
        leads = subst (λ s. Leads basis.rules basis.task basis.limits (suc leads.made) first.place s found.place) string
            (leads_more basis.rules basis.task basis.limits leads.made first.place leads.near found.place
            (drop first.depth (take before.taken before.bits)) (drop before.taken (take after.taken after.bits))
            leads.leads found.turn (record {
              runs = ap (λ (s : State). s.control.mode) (sym found.alike.same.state)
                  ∙ goes.runs;
              within = omega (arith, crossed, within_budget);
            }));
        same = same_back basis.task.masks found.alike.same;
        crossed = crossed;
        turns = omega (arith, turns);
        deeper = omega (arith, depth, taken);
      }

  -- what is below the place to which it leads
  pub leads_tree : (bits : List Bool) (first last : Spot) → LeadsTo basis bits first last →
      Opens (below_in basis first.left first.place) (drop first.depth (take last.depth bits))
      × (under (below_in basis first.left first.place) (drop first.depth (take last.depth bits))
      ≡ below_in basis last.left last.place)
  leads_tree bits first last leads =
      let total : leads.made + last.left ≡ first.left = sym leads.turns in
      let found = leads_to (walked_on basis.rules basis.task basis.limits first.left first.place)
      (walked_on basis.rules basis.task basis.limits last.left leads.near) (drop first.depth (take last.depth bits))
      (λ rest. subst (λ n. feed (walked_on basis.rules basis.task basis.limits n first.place)
      (drop first.depth (take last.depth bits) ++ rest)
      ≡ feed (walked_on basis.rules basis.task basis.limits last.left leads.near) rest) total
      (walks_on basis.rules basis.task basis.limits leads.made last.left first.place leads.near
      (drop first.depth (take last.depth bits)) leads.leads rest)) in (
        found.0,
        found.1 ∙ same_below basis.rules basis.task basis.limits last.left leads.near last.place leads.same
            leads.crossed,
      )

  -- a place that is near the last one will do
  pub leads_near : (bits : List Bool) (first last : Spot) (now : MaskedPlace) → LeadsTo basis bits first last →
      SameState basis.task.masks last.place now → last.place.crossed ≡ now.crossed →
      LeadsTo basis bits first (spot last.depth last.left now)
  leads_near bits first last now leads same crossed = record {
    made = leads.made;
    near = leads.near;
    leads = leads.leads;
    same = same_then basis.task.masks leads.same same;
    crossed = leads.crossed ∙ crossed;
    turns = leads.turns;
    deeper = leads.deeper;
  }

  -- a place leads to itself, and to one that is near
  pub leads_here : (bits : List Bool) (depth left : ℕ) (place now : MaskedPlace) → SameState basis.task.masks place now →
      place.crossed ≡ now.crossed → LeadsTo basis bits (spot depth left place) (spot depth left now)
  leads_here bits depth left place now same crossed = record {
    made = 0;
    near = place;
    leads = subst (λ s. Leads basis.rules basis.task basis.limits 0 place s place) (sym (none_taken depth bits))
        (leads_none basis.rules basis.task basis.limits place);
    same = same;
    crossed = crossed;
    turns = omega arith;
    deeper = omega arith;
  }

  -- ---- a path from there is one from here

  -- an end after a turn from a place that is near
  module _ (last place : MaskedPlace) (ends : PathEnd) (crossed : ℕ) (equal : last.crossed ≡ place.crossed) where
    goes_near : (next other : MaskedPlace) → GoAlike basis.task.masks last.crossed place.crossed next other →
        EndsAfter basis.limits last (Goes next) ends crossed → EndsAfter basis.limits place (Goes other) ends crossed
    goes_near next other alike h =
        let same_crossed : next.crossed ≡ other.crossed = alike.equal equal in (
          sym same_crossed ∙ h.0,
          subst (λ (s : State). EndsIn s.control.mode basis.limits other ends) alike.same.state
              (by next.state.control.mode same_crossed h.1),
        )
      where
        exit_same : (status : ℕ) → pattern_of next status ≡ pattern_of other status
        exit_same status = λ i. record {
          bytes = (alike.same.state i).control.output;
          status = status;
          byte_masks = alike.same.byte_masks i;
          status_mask = alike.same.status_mask i;
        }

        by : (mode : Stepped) → next.crossed ≡ other.crossed → EndsIn mode basis.limits next ends →
            EndsIn mode basis.limits other ends
        by Ran e in_mode = in_mode
        by (Exited status) e in_mode =
            let within = in_mode.0 in
            (omega (arith, e, within), in_mode.1 ∙ ap (λ pattern. Exits pattern) (exit_same status))
        by (Stopped fault) e in_mode = in_mode

    after_near : (reached other : Reached) → AlikeReached basis.task.masks last.crossed place.crossed reached other →
        EndsAfter basis.limits last reached ends crossed → EndsAfter basis.limits place other ends crossed
    after_near (Goes next) (Goes other) alike h = goes_near next other alike h
    after_near (Goes next) (Meets why) alike h = absurd alike
    after_near (Goes next) (Halts outside) alike h = absurd alike
    after_near (Meets why) other alike h = absurd h
    after_near (Halts outside) (Goes other) alike h = absurd alike
    after_near (Halts outside) (Meets why) alike h = absurd alike
    after_near (Halts outside) (Halts beyond) alike h =
        (sym equal ∙ h.0, h.1 ∙ ap (λ range. Stops (RangeOutside range)) alike)

  near_ends : (left : ℕ) (first second : MaskedPlace) (bits : List Bool) (ends : PathEnd) (after crossed : ℕ) →
      SameState basis.task.masks first second → first.crossed ≡ second.crossed → first.crossed ≤ basis.limits.budget →
      EndsOn basis.rules basis.task basis.limits left first bits ends after crossed →
      EndsOn basis.rules basis.task basis.limits left second bits ends after crossed
  near_ends left first second bits ends after crossed same equal begins way =
      let last = way.last in
      let grows = leads_grows basis.rules basis.task basis.limits small way.made first way.last way.before way.leads in
      let within = leads_within basis.rules basis.task basis.limits small way.made first way.last way.before way.leads
      begins in
      let there = alike_leads basis.rules basis.task basis.limits small way.made first second way.last way.before same
      way.leads (omega (arith, equal, grows, within)) within in
      let there_crossed = there.crossed_is in
      let as_many : last.crossed ≡ there.place.crossed = omega (arith, equal, grows, there_crossed) in
      let found = alike_turn basis.rules basis.task way.last there.place there.same way.taken way.reached [] way.turn in
      record {
        made = way.made;
        turns = way.turns;
        before = way.before;
        taken = way.taken;
        splits = way.splits;
        last = there.place;
        leads = there.leads;
        reached = found.value;
        turn = found.feeds;
        is_end = after_near way.last there.place ends crossed as_many way.reached found.value found.same way.is_end;
      }

  pub leads_end : (bits : List Bool) (first last : Spot) (later : List Bool) (ends : PathEnd) (after crossed : ℕ) →
      LeadsTo basis bits first last → last.place.crossed ≤ basis.limits.budget →
      EndsOn basis.rules basis.task basis.limits last.left last.place later ends after crossed →
      EndsOn basis.rules basis.task basis.limits first.left first.place
      (drop first.depth (take last.depth bits) ++ later) ends after crossed
  leads_end bits first last later ends after crossed leads begins way =
      let equal = leads.crossed in
      let there = near_ends last.left last.place leads.near later ends after crossed
      (same_back basis.task.masks leads.same) (sym equal) begins way in
      subst (λ n. EndsOn basis.rules basis.task basis.limits n first.place
      (drop first.depth (take last.depth bits) ++ later) ends after crossed) (sym leads.turns)
      (leads_to_end basis.rules basis.task basis.limits leads.made last.left first.place leads.near
      (drop first.depth (take last.depth bits)) later ends after crossed leads.leads there)
