-- What a turn of a search leaves of it: a walk that goes on, or one that has come to an end.
use Rattle.std.proofs.Common.{◌≡◌, ◌≤◌, ◌<◌, ◌+◌, ℕ, zero, suc, List, [], ◌∷◌, ◌++◌, length, drop, take, replicate, Bool, true, false}
use Rattle.std.proofs.Common.{refl, sym, ap, ◌∙◌, arith, subst, append-nil, ⊎_elim, Option, Some, None}
use Rattle.std.specs.Prelude.{option_map, nat_lt}
use Rattle.std.specs.List.{AllByRecursion}
use Rattle.std.proofs.lemmas.Bool.{cases_lt, ltb-false}
use Rattle.std.proofs.lemmas.List.{drop-append-le, length-append, take-append-drop}
use Rattle.crossing_bits.specs.Askers.{Asker, Fed', feed}
use Rattle.crossing_bits.specs.Strings.{Stream, left_of}
use Rattle.crossing_bits.proofs.Feeding.{feed_then}
use Rattle.flow_base.specs.declared.points.Point.{Point}
use Rattle.kept_states.specs.declared.kept_states.KeptState.{KeptState}
use Rattle.lockstep_replay.specs.Tasks.{Limits}
use Rattle.replay_machine.specs.Runs.{Masks}
use Rattle.replay_machine.specs.declared.outsides.Outside.{Outside}
use Rattle.rv32im_machine.specs.State.{State}
use Rattle.rv32im_machine.specs.declared.stepping.Stepped.{Stepped}
use Rattle.rv32im_machine.specs.declared.stepping.Stepped.TheVariants.{Ran, Exited, Stopped}
use Rattle.every_secret.specs.declared.closed_states.Closed.{Closed}
use Rattle.every_secret.specs.declared.endings.Ending.{Ending}
use Rattle.every_secret.specs.declared.endings.Ending.TheVariants as ending
use Rattle.every_secret.specs.declared.open_places.OpenPlace.{OpenPlace}
use Rattle.every_secret.specs.declared.path_ends.PathEnd.{PathEnd}
use Rattle.every_secret.specs.declared.path_ends.PathEnd.TheVariants.{Stops}
use Rattle.every_secret.specs.declared.patterns.Pattern.{Pattern}
use Rattle.every_secret.specs.declared.searching.Came.TheVariants.{Ended}
use Rattle.every_secret.specs.declared.searching.Search.{Search}
use Rattle.every_secret.specs.declared.stops.PathStop.TheVariants.{Guest, RangeOutside, Turns}
use Rattle.every_secret.specs.declared.sums.Sum.{Sum}
use Rattle.every_secret.specs.declared.whys.UnclearWhy.TheVariants.{Budget}
use Rattle.every_secret.specs.Bounds.{Found, Halt, halt_of}
use Rattle.every_secret.specs.Masked.{Goes, Halts, MaskedPlace, Meets, Reached}
use Rattle.every_secret.specs.Paths.{Fork, Leaf, Opens, Path, Tree, paths_of, tree_of}
use Rattle.every_secret.specs.Replays.{ended_or, walked_on}
use Rattle.every_secret.specs.Turns.{masked_turn}
use Rattle.every_secret.specs.Ways.{EndsAfter, EndsIn, EndsOn, GoesOn, Leads}
use Rattle.every_secret.specs.Private.Walking.{lengthens_none}
use Rattle.every_secret.specs.Private.Folding.{FoldsTo, stops_in}
use Rattle.every_secret.specs.Private.Orders.{Come, descend, earlier, past, under}
use Rattle.every_secret.specs.Private.Searching.{AllLead, AreClosed, CameTo, CanGoBack, CanReturn, GoesOrEnds, IsCome}
use Rattle.every_secret.specs.Private.Searching.{IsFoundBefore, IsBasis, IsOpen, IsSearched, IsWalking, Stood, Sums, Terms, known_in}
use Rattle.every_secret.specs.Private.Searching.{spot_at, spot_of}
use Rattle.every_secret.specs.Private.Spots.{EndsBy, Basis, LeadsTo, below_in, tree_in}
use Rattle.every_secret.specs.Private.Sums.{sum_of_end}
use Rattle.every_secret.specs.Private.Tapes.{HoldsPlace, Lengthens, Tape}
use Rattle.every_secret.specs.Private.Turning.{HoldsTurn, MakesFed}
use Rattle.every_secret.specs.Private.Walks.{end_of, ending_after, ending_mode, ending_within}
use Rattle.every_secret.proofs.EarlierPaths.{come_of, descend_is, earlier_lengthened, leads_to_end}
use Rattle.every_secret.proofs.Lists.{each_of_both, each_weaker}
use Rattle.every_secret.proofs.MadeTurns.{place_is, placed}
use Rattle.every_secret.proofs.SpotWays.{between, leads_end, leads_tree, leads_turn, opens_after, spot, taken_grown, under_after}
use Rattle.every_secret.proofs.WalkedPaths.{none_after, turn-some}
use Rattle.every_secret.proofs.WayWalks.{leads_none}

-- ---- strings in trees

all_taken : (n : ℕ) (s : List Bool) → length s ≤ n → drop n s ≡ []
all_taken zero [] h = refl
all_taken zero (x ∷ s) h = absurd (omega (arith, h))
all_taken (suc n) [] h = refl
all_taken (suc n) (x ∷ s) h = all_taken n s (omega (arith, h))

opens_under : (tree : Tree) (first second : List Bool) → Opens tree (first ++ second) → Opens (under tree first) second
opens_under (Leaf e) [] second opens = opens
opens_under (Leaf e) (bit ∷ first) second opens = absurd opens
opens_under (Fork left right) [] second opens = opens
opens_under (Fork left right) (false ∷ first) second opens = opens_under left first second opens
opens_under (Fork left right) (true ∷ first) second opens = opens_under right first second opens

-- a string that does not go past the end of a path leaves nothing where it comes to an end
none_left : (tree : Tree) (bits : List Bool) (come : Come) → Opens tree bits → descend tree bits ≡ Some come →
    come.rest ≡ []
none_left (Leaf e) [] come opens is =
    let one : Come = record { ends = e; rest = [] } in
    let at : Some one ≡ Some come = is in
    let same : one ≡ come = cc in
    sym (ap (λ (c : Come). c.rest) same)
none_left (Leaf e) (bit ∷ bits) come opens is = absurd opens
none_left (Fork left right) [] come opens is = absurd (cc)
none_left (Fork left right) (false ∷ bits) come opens is = none_left left bits come opens is
none_left (Fork left right) (true ∷ bits) come opens is = none_left right bits come opens is

used_up : (asker : Asker PathEnd) (bits rest : List Bool) (ends : PathEnd) → Opens (tree_of asker) bits →
    feed asker bits ≡ Fed' ends rest → rest ≡ []
used_up asker bits rest ends opens fed =
    none_left (tree_of asker) bits (record { ends = ends; rest = rest }) opens
    (descend_is asker bits ∙ ap (λ f. come_of f) fed)

-- a string that has not grown
still : (before after : Stream) (longer : Lengthens before after) → longer.count ≤ 0 → after.bits ≡ before.bits
still before after longer none =
    let zero_count : longer.count ≡ 0 = omega (arith, none) in
    longer.bits ∙ (ap (λ n. before.bits ++ replicate n false) zero_count ∙ append-nil before.bits)

one_path : (P : Path → Type 0) (ends : PathEnd) → P (record { bits = []; ends = ends }) →
    AllByRecursion P (paths_of (Leaf ends))
unfolding paths_of
one_path P ends here = (here, tt)

-- ---- a walk that has come to an end, from an open place on

module _ (basis : Basis) (small : basis.limits.budget < 4294967295) (before after : Stream) (total : ℕ)
    (now : MaskedPlace) (sum : Sum) (ends : PathEnd) (longer : Lengthens before after)
    (same : take before.taken after.bits ≡ take before.taken before.bits)
    (opens : before.taken < length before.bits → Opens (tree_in basis) before.bits)
    (fed : feed (walked_on basis.rules basis.task basis.limits total now) (drop before.taken after.bits)
    ≡ Fed' ends (left_of after)) (stood : Stood)
    (tree : under (tree_in basis) (take stood.entry.depth before.bits) ≡ below_in basis stood.entry.left stood.place)
    (leads : LeadsTo basis before.bits (spot_of stood) (spot before.taken total now)) where
  opens_here : Opens (tree_in basis) before.bits → Opens (below_in basis total now) (drop before.taken before.bits)
  opens_here whole =
      let depth = stood.entry.depth in
      let there = leads_tree basis small before.bits (spot_of stood) (spot before.taken total now) leads in
      let one : Opens (tree_in basis) (take depth before.bits ++ drop depth before.bits) =
      subst (λ s. Opens (tree_in basis) s) (sym (take-append-drop depth before.bits)) whole in
      let two : Opens (below_in basis stood.entry.left stood.place) (drop depth before.bits) =
      subst (λ t. Opens t (drop depth before.bits)) tree
      (opens_under (tree_in basis) (take depth before.bits) (drop depth before.bits) one) in
      subst (λ t. Opens t (drop before.taken before.bits)) there.1
      (opens_under (below_in basis stood.entry.left stood.place) (drop depth (take before.taken before.bits))
      (drop before.taken before.bits)
      (subst (λ s. Opens (below_in basis stood.entry.left stood.place) s)
      (between depth before.taken before.bits leads.deeper) two))

  nothing_left : left_of after ≡ []
  nothing_left =
      ⊎_elim
      (λ grown. let whole = longer.whole grown in all_taken after.taken after.bits (omega (arith, whole)))
      (λ none. ⊎_elim
      (λ some. used_up (walked_on basis.rules basis.task basis.limits total now) (drop before.taken after.bits)
      (left_of after) ends
      (subst (λ s. Opens (below_in basis total now) (drop before.taken s)) (sym (still before after longer none))
      (opens_here (opens some))) fed)
      (λ full.
      let as_long : length after.bits ≡ length before.bits = ap (λ s. length s) (still before after longer none) in
      let taken = longer.taken in
      all_taken after.taken after.bits (omega (arith, full, as_long, taken)))
      (cases_lt before.taken (length before.bits)))
      (cases_lt 0 longer.count)

  ends_from : now.crossed ≤ basis.limits.budget →
      EndsOn basis.rules basis.task basis.limits total now (drop before.taken after.bits) ends sum.after sum.crossed →
      EndsBy basis stood.entry.left stood.place sum.after sum.crossed
      (past (drop stood.entry.depth after.bits) (record { bits = []; ends = ends }))
  ends_from begins way =
      let depth = stood.entry.depth in
      let string : drop depth (take before.taken before.bits) ++ drop before.taken after.bits
      ≡ drop depth after.bits ++ [] =
      ap (λ s. drop depth s ++ drop before.taken after.bits) (sym same)
      ∙ (sym (between depth before.taken after.bits leads.deeper) ∙ sym (append-nil (drop depth after.bits))) in
      record {
        after = sum.after;
        crossed = sum.crossed;
        ends_on = subst (λ s. EndsOn basis.rules basis.task basis.limits stood.entry.left stood.place s ends sum.after
            sum.crossed) string
            (leads_end basis small before.bits (spot_of stood) (spot before.taken total now)
            (drop before.taken after.bits) ends sum.after sum.crossed leads begins way);
        soon = omega arith;
        few = omega arith;
      }

  pub has_come : now.crossed ≤ basis.limits.budget →
      (left_of after ≡ [] → sum.repeats ≡ true →
      EndsOn basis.rules basis.task basis.limits total now (drop before.taken after.bits) ends sum.after sum.crossed) →
      CameTo basis after.bits sum (Leaf ends) stood
  has_come begins way =
      let depth = stood.entry.depth in
      let below = below_in basis stood.entry.left stood.place in
      let there = leads_tree basis small before.bits (spot_of stood) (spot before.taken total now) leads in
      let front = drop depth (take before.taken before.bits) in
      let rest = drop before.taken after.bits in
      let last = leads_to_end (walked_on basis.rules basis.task basis.limits total now) rest ends
      (fed ∙ ap (λ s. Fed' ends s) nothing_left) in
      let string : front ++ rest ≡ drop depth after.bits =
      ap (λ s. drop depth s ++ drop before.taken after.bits) (sym same)
      ∙ sym (between depth before.taken after.bits leads.deeper) in
      record {
        opens = subst (λ s. Opens below s) string
            (opens_after below front rest there.0 (subst (λ t. Opens t rest) (sym there.1) last.0));
        under_is = ap (λ s. under below s) (sym string)
            ∙ (under_after below front rest there.0 ∙ (ap (λ t. under t rest) there.1 ∙ last.1));
        ends = λ repeats. one_path
            (λ path. EndsBy basis stood.entry.left stood.place sum.after sum.crossed
            (past (drop stood.entry.depth after.bits) path)) ends (ends_from begins (way nothing_left repeats));
      }

-- ---- no turn is left

late_fed : (basis : Basis) (now : MaskedPlace) (turns : ℕ) (bits : List Bool) → basis.limits.turns ≡ turns →
    feed (walked_on basis.rules basis.task basis.limits 0 now) bits ≡ Fed' (Stops (Turns turns)) bits
unfolding walked_on
late_fed basis now turns bits is = ap (λ n. Fed' (Stops (Turns n)) bits) is

pub comes_late : (terms : Terms) (basis : Basis) (search : Search) (tape : Tape) → IsBasis terms basis →
    IsWalking basis 0 search tape → IsCome basis (Ended (ending.Stopped (Turns terms.turns)) 0) search tape
comes_late terms basis search tape is walking =
    let budget : basis.limits.budget ≡ terms.budget = ap (λ (l : Limits). l.budget) is.limits in
    let small = is.small in
    let sum = sum_of_end (ending.Stopped (Turns terms.turns)) 0 tape.crossed in record {
      searched = walking.searched;
      tree = Leaf (Stops (Turns terms.turns));
      is_tree = refl;
      came_to = each_of_both
          (IsOpen basis search.machine search.pieces (known_in search.findings) tape.stream.bits)
          (λ stood. LeadsTo basis tape.stream.bits (spot_of stood) (spot_at tape.stream.taken 0 walking.now))
          (CameTo basis tape.stream.bits sum (Leaf (Stops (Turns terms.turns))))
          (λ stood opened leads. has_come basis (omega (arith, budget, small)) tape.stream tape.stream 0 walking.now sum
          (Stops (Turns terms.turns)) (lengthens_none tape.stream) refl walking.opens
          (late_fed basis walking.now terms.turns (drop tape.stream.taken tape.stream.bits)
          (ap (λ (l : Limits). l.turns) is.limits)) stood opened.tree leads walking.goes.within
          (λ none repeats. absurd (cc)))
          walking.searched.opens.stood walking.searched.opens.each walking.lead;
    }

-- ---- what a turn leaves of a search

module _ (basis : Basis) (machine other : State) (setting : other.setting ≡ machine.setting)
    (secret : other.secret ≡ machine.secret) (pieces : List ℕ) (found : Found) where
  closed_on : (states : List KeptState) (closed : List Closed) → AreClosed basis machine pieces found states closed →
      AreClosed basis other pieces found states closed
  closed_on states closed all = λ index kept one stands at.
      let is = all index kept one stands at in record {
        left = is.left;
        place = is.place;
        is_kept = is.is_kept;
        counted_bits = is.counted_bits;
        within_budget = is.within_budget;
        setting = is.setting ∙ sym setting;
        secret = is.secret ∙ sym secret;
        within = is.within;
        count = is.count;
        stops = is.stops;
        known = is.known;
      }

  module _ (before after : Stream) (longer : Lengthens before after) where
    open_on : (stood : Stood) → IsOpen basis machine pieces found before.bits stood →
        IsOpen basis other pieces found after.bits stood
    open_on stood opened =
        let within = opened.within in
        let depth = stood.entry.depth in
        let below = below_in basis stood.entry.left stood.place in
        let as_taken : take depth after.bits ≡ take depth before.bits =
        taken_grown depth longer.count before.bits after.bits longer.bits within in
        let as_early : earlier below (drop depth after.bits) ≡ earlier below (drop depth before.bits) =
        ap (λ s. earlier below (drop depth s)) longer.bits
        ∙ (ap (λ s. earlier below s) (drop-append-le depth before.bits (replicate longer.count false) within)
        ∙ earlier_lengthened below (drop depth before.bits) longer.count) in
        let long : length after.bits ≡ length before.bits + length (replicate longer.count false) =
        ap (λ s. length s) longer.bits ∙ length-append before.bits (replicate longer.count false) in
        record {
          kept = opened.kept;
          goes = opened.goes;
          setting = opened.setting ∙ sym setting;
          secret = opened.secret ∙ sym secret;
          crossed = opened.crossed;
          within = omega (arith, within, long);
          tree = ap (λ s. under (tree_in basis) s) as_taken ∙ opened.tree;
          sums = subst (λ ps. Sums basis stood.entry.left stood.place found stood.entry.sum ps) (sym as_early)
              opened.sums;
        }

    lead_on : (first later : Stood) → later.entry.depth ≤ length before.bits →
        LeadsTo basis before.bits (spot_of first) (spot_of later) →
        LeadsTo basis after.bits (spot_of first) (spot_of later)
    lead_on first later within leads = record {
      made = leads.made;
      near = leads.near;
      leads = subst (λ s. Leads basis.rules basis.task basis.limits leads.made first.place
          (drop first.entry.depth s) leads.near)
          (sym (taken_grown later.entry.depth longer.count before.bits after.bits longer.bits within)) leads.leads;
      same = leads.same;
      crossed = leads.crossed;
      turns = leads.turns;
      deeper = leads.deeper;
    }

    all_lead_on : (stood : List Stood) → AllByRecursion (IsOpen basis machine pieces found before.bits) stood →
        AllLead basis before.bits stood → AllLead basis after.bits stood
    all_lead_on [] each lead = tt
    all_lead_on (first ∷ more) (here, each) (lead, leads) = (
      each_of_both (IsOpen basis machine pieces found before.bits)
          (λ later. LeadsTo basis before.bits (spot_of first) (spot_of later))
          (λ later. LeadsTo basis after.bits (spot_of first) (spot_of later))
          (λ later opened one. lead_on first later opened.within one) more each lead,
      all_lead_on more each leads,
    )

found_on : (tree : Tree) (patterns : List Pattern) (first_stop : Option Halt) (before after : Stream) →
    Lengthens before after → IsFoundBefore tree patterns first_stop before.bits →
    IsFoundBefore tree patterns first_stop after.bits
found_on tree patterns first_stop before after longer found =
    let same : earlier tree before.bits ≡ earlier tree after.bits =
    sym (ap (λ s. earlier tree s) longer.bits ∙ earlier_lengthened tree before.bits longer.count) in record {
      folds = subst (λ (ps : List Path). FoldsTo ps (record {
        paths = length ps;
        stopped = stops_in ps;
        patterns = patterns;
        first_stop = first_stop;
      })) same found.folds;
      small = found.small;
    }

-- ---- how a turn ends a walk, or does not

mode_goes : (mode : Stepped) (budget crossed : ℕ) → ending_mode mode budget crossed ≡ None →
    (mode ≡ Ran) × (crossed ≤ budget)
mode_goes Ran budget crossed e = (refl, by (nat_lt budget crossed) refl e)
  where
    by : (over : Bool) → nat_lt budget crossed ≡ over → ending_within over budget crossed None ≡ None →
        crossed ≤ budget
    by true is h = absurd (cc)
    by false is h = ltb-false budget crossed is
mode_goes (Exited status) budget crossed e = absurd (by (nat_lt budget crossed) e)
  where
    by : (over : Bool) → ending_within over budget crossed (Some (ending.Exited status)) ≡ None → ⊥
    by true h = absurd (cc)
    by false h = absurd (cc)
mode_goes (Stopped fault) budget crossed e = absurd (cc)

module _ (limits : Limits) (outside : Option Outside) (machine : State) (after : Tape) where
  abbrev ends_as : Option Ending
  ends_as = ending_after outside after.unclear machine.control.mode limits.budget after.crossed

  pub none_within : ends_as ≡ None → (machine.control.mode ≡ Ran) × (after.crossed ≤ limits.budget)
  none_within e =
      let fine = none_after outside after.unclear machine.control.mode limits.budget after.crossed e in
      mode_goes machine.control.mode limits.budget after.crossed
      (subst (λ o. ending_after o None machine.control.mode limits.budget after.crossed ≡ None) fine.0
      (subst (λ u. ending_after outside u machine.control.mode limits.budget after.crossed ≡ None) fine.1 e))

  record Went (masks : Masks) (reached : Reached) : Type 0 where
    next : MaskedPlace
    is : reached ≡ Goes next
    holds : HoldsPlace masks next machine after
    goes : GoesOn limits next

  went : (masks : Masks) (reached : Reached) → HoldsTurn masks reached outside machine after → ends_as ≡ None →
      Went masks reached
  went masks (Goes place) h e =
      let fine = none_within e in
      let within = fine.1 in
      let crossed = h.0.crossed in record {
        next = place;
        is = refl;
        holds = h.0;
        goes = record {
          runs = ap (λ (s : State). s.control.mode) h.0.state_is ∙ fine.0;
          within = omega (arith, within, crossed);
        };
      }
  went masks (Meets why) h e =
      let fine = none_after outside after.unclear machine.control.mode limits.budget after.crossed e in
      let none = fine.1 in
      let met = h.0 in
      absurd (cc)
  went masks (Halts range) h e =
      let fine = none_after outside after.unclear machine.control.mode limits.budget after.crossed e in
      let none = fine.0 in
      let told = h.1 in
      absurd (cc)

  module _ (left : ℕ) where
    abbrev repeats : Ending → Bool
    repeats ends = (sum_of_end ends left after.crossed).repeats

    -- an end that may differ
    differs : (ends other : Ending) → other ≡ ends → repeats other ≡ false → repeats ends ≡ true → ⊥
    differs ends other same differing repeating =
        let both : repeats other ≡ repeats ends = ap (λ x. repeats x) same in absurd (cc)

    mode_ends : (points : List Point) (mode : Stepped) (ends : Ending) →
        ending_mode mode limits.budget after.crossed ≡ Some ends → repeats ends ≡ true →
        EndsIn mode limits (placed machine points after) (end_of ends machine after)
    mode_ends points Ran ends e repeating = by (nat_lt limits.budget after.crossed) e
      where
        by : (over : Bool) → ending_within over limits.budget after.crossed None ≡ Some ends → ⊥
        by true h =
            let same : ending.Unclear (Budget limits.budget after.crossed) ≡ ends = cc in
            differs ends (ending.Unclear (Budget limits.budget after.crossed)) same refl repeating
        by false h = absurd (cc)
    mode_ends points (Exited status) ends e repeating = by (nat_lt limits.budget after.crossed) refl e
      where
        by : (over : Bool) → nat_lt limits.budget after.crossed ≡ over →
            ending_within over limits.budget after.crossed (Some (ending.Exited status)) ≡ Some ends →
            EndsIn (Exited status) limits (placed machine points after) (end_of ends machine after)
        by true is h =
            let same : ending.Unclear (Budget limits.budget after.crossed) ≡ ends = cc in
            absurd (differs ends (ending.Unclear (Budget limits.budget after.crossed)) same refl repeating)
        by false is h =
            let same : ending.Exited status ≡ ends = cc in
            (ltb-false limits.budget after.crossed is, ap (λ x. end_of x machine after) (sym same))
    mode_ends points (Stopped fault) ends e repeating =
        let same : ending.Stopped (Guest fault) ≡ ends = cc in ap (λ x. end_of x machine after) (sym same)

    ends_after : (masks : Masks) (last : MaskedPlace) (reached : Reached) (ends : Ending) → HoldsTurn masks reached outside machine after →
        ends_as ≡ Some ends → ((range : Outside) → outside ≡ Some range → after.crossed ≡ last.crossed) →
        repeats ends ≡ true → EndsAfter limits last reached (end_of ends machine after) after.crossed
    ends_after masks last (Goes place) ends h e halts repeating =
        let is : ending_mode machine.control.mode limits.budget after.crossed ≡ Some ends =
        subst (λ o. ending_after o None machine.control.mode limits.budget after.crossed ≡ Some ends) h.1
        (subst (λ u. ending_after outside u machine.control.mode limits.budget after.crossed ≡ Some ends) h.0.clear e) in
        subst (λ p. EndsAfter limits last (Goes p) (end_of ends machine after) after.crossed)
        (place_is masks place machine after h.0)
        (refl, mode_ends place.past machine.control.mode ends is repeating)
    ends_after masks last (Meets why) ends h e halts repeating =
        let is : Some (ending.Unclear why) ≡ Some ends =
        subst (λ o. ending_after o (Some why) machine.control.mode limits.budget after.crossed ≡ Some ends) h.1
        (subst (λ u. ending_after outside u machine.control.mode limits.budget after.crossed ≡ Some ends) h.0 e) in
        let same : ending.Unclear why ≡ ends = cc in
        differs ends (ending.Unclear why) same refl repeating
    ends_after masks last (Halts range) ends h e halts repeating =
        let is : Some (ending.Stopped (RangeOutside range)) ≡ Some ends =
        subst (λ o. ending_after o after.unclear machine.control.mode limits.budget after.crossed ≡ Some ends) h.1 e in
        let same : ending.Stopped (RangeOutside range) ≡ ends = cc in
        (sym (halts range h.1), ap (λ x. end_of x machine after) (sym same))

sum_tells : (ends : Ending) (left crossed : ℕ) →
    ((sum_of_end ends left crossed).after ≡ left) × ((sum_of_end ends left crossed).crossed ≡ crossed)
sum_tells (ending.Exited status) left crossed = (refl, refl)
sum_tells (ending.Stopped stop) left crossed = (refl, refl)
sum_tells (ending.Unclear why) left crossed = (refl, refl)

-- ---- a turn of a search

module _ (basis : Basis) (small : basis.limits.budget < 4294967295) (search : Search) (machine : State)
    (before after : Tape) (outside : Option Outside) (setting : machine.setting ≡ search.machine.setting)
    (secret : machine.secret ≡ search.machine.secret) (longer : Lengthens before.stream after.stream)
    (within : before.stream.taken ≤ length before.stream.bits)
    (halts : (range : Outside) → outside ≡ Some range → after.crossed ≡ before.crossed)
    (left : ℕ) (walking : IsWalking basis (suc left) search before)
    (makes : MakesFed basis.task.masks (masked_turn basis.rules basis.task walking.now) before.stream outside machine
    after) where
  abbrev found : Found
  found = known_in search.findings

  abbrev turned : Search
  turned = record search { machine = machine }

  abbrev told : Option Ending
  told = ending_after outside after.unclear machine.control.mode basis.limits.budget after.crossed

  abbrev searched_on : IsSearched basis after.stream.bits turned
  searched_on = record {
    opens = record {
      stood = walking.searched.opens.stood;
      opens_are = walking.searched.opens.opens_are;
      each = each_weaker (IsOpen basis search.machine search.pieces found before.stream.bits)
          (IsOpen basis machine search.pieces found after.stream.bits)
          (open_on basis search.machine machine setting secret search.pieces found before.stream after.stream longer)
          walking.searched.opens.stood walking.searched.opens.each;
      lead = all_lead_on basis search.machine machine setting secret search.pieces found before.stream after.stream
          longer walking.searched.opens.stood walking.searched.opens.each walking.searched.opens.lead;
    };
    closed = closed_on basis search.machine machine setting secret search.pieces found search.closed.states
        search.closed.below.items walking.searched.closed;
    found = found_on (tree_in basis) search.findings.patterns
        (option_map (λ stopped. halt_of stopped) search.findings.first_stop) before.stream after.stream longer
        walking.searched.found;
  }

  goes_on : told ≡ None → IsWalking basis left turned after
  goes_on e =
      let on = went basis.limits outside machine after basis.task.masks makes.reached makes.held e in record {
        searched = searched_on;
        now = on.next;
        holds = on.holds;
        goes = on.goes;
        opens = λ some. ⊎_elim
            (λ grown. let whole = longer.whole grown in absurd (omega (arith, whole, some)))
            (λ none.
            let same = still before.stream after.stream longer none in
            let as_long : length after.stream.bits ≡ length before.stream.bits = ap (λ s. length s) same in
            let taken = longer.taken in
            subst (λ s. Opens (tree_in basis) s) (sym same) (walking.opens (omega (arith, as_long, taken, some))))
            (cases_lt 0 longer.count);
        lead = each_weaker
            (λ stood. LeadsTo basis before.stream.bits (spot_of stood)
            (spot_at before.stream.taken (suc left) walking.now))
            (λ stood. LeadsTo basis after.stream.bits (spot_of stood) (spot_at after.stream.taken left on.next))
            (λ stood leads. leads_turn basis small before.stream after.stream (spot_of stood) left walking.now on.next
            within longer leads (makes.feeds ∙ ap (λ r. Fed' r (left_of after.stream)) on.is) on.goes)
            walking.searched.opens.stood walking.lead;
      }

  fed : (ends : Ending) → told ≡ Some ends →
      feed (walked_on basis.rules basis.task basis.limits (suc left) walking.now)
      (drop before.stream.taken after.stream.bits)
      ≡ Fed' (end_of ends machine after) (left_of after.stream)
  unfolding walked_on
  fed ends e =
      feed_then (masked_turn basis.rules basis.task walking.now)
      (λ reached. ended_or basis.limits.budget reached
      (λ next. walked_on basis.rules basis.task basis.limits left next))
      (drop before.stream.taken after.stream.bits) makes.reached (left_of after.stream) makes.feeds
      ∙ ap (λ asker. feed asker (left_of after.stream))
      (turn-some basis.task.masks basis.limits.budget outside machine after makes.reached ends
      (λ next. walked_on basis.rules basis.task basis.limits left next) makes.held e)

  way : (ends : Ending) → told ≡ Some ends → left_of after.stream ≡ [] →
      (sum_of_end ends left after.crossed).repeats ≡ true →
      EndsOn basis.rules basis.task basis.limits (suc left) walking.now (drop before.stream.taken after.stream.bits)
      (end_of ends machine after) (sum_of_end ends left after.crossed).after (sum_of_end ends left after.crossed).crossed
  way ends e none repeats =
      let sum = sum_tells ends left after.crossed in
      let crossed = walking.holds.crossed in
      subst (λ n. EndsOn basis.rules basis.task basis.limits (suc left) walking.now
      (drop before.stream.taken after.stream.bits) (end_of ends machine after) n
      (sum_of_end ends left after.crossed).crossed) (sym sum.0)
      (subst (λ n. EndsOn basis.rules basis.task basis.limits (suc left) walking.now
      (drop before.stream.taken after.stream.bits) (end_of ends machine after) left n) (sym sum.1) (record {
        made = 0;
        turns = omega arith;
        before = [];
        taken = drop before.stream.taken after.stream.bits;
        splits = refl;
        last = walking.now;
        leads = leads_none basis.rules basis.task basis.limits walking.now;
        reached = makes.reached;
        turn = makes.feeds ∙ ap (λ s. Fed' makes.reached s) none;
        is_end = ends_after basis.limits outside machine after left basis.task.masks walking.now makes.reached ends
            makes.held e (λ range is. halts range is ∙ crossed) repeats;
      }))

  ends_so : (ends : Ending) → told ≡ Some ends → IsCome basis (Ended ends left) turned after
  ends_so ends e =
      let sum = sum_of_end ends left after.crossed in record {
        searched = searched_on;
        tree = Leaf (end_of ends machine after);
        is_tree = refl;
        came_to = each_of_both
            (IsOpen basis search.machine search.pieces found before.stream.bits)
            (λ stood. LeadsTo basis before.stream.bits (spot_of stood)
            (spot_at before.stream.taken (suc left) walking.now))
            (CameTo basis after.stream.bits sum (Leaf (end_of ends machine after)))
            (λ stood opened leads. has_come basis small before.stream after.stream (suc left) walking.now sum
            (end_of ends machine after) longer
            (taken_grown before.stream.taken longer.count before.stream.bits after.stream.bits longer.bits within)
            walking.opens (fed ends e) stood opened.tree leads walking.goes.within (way ends e))
            walking.searched.opens.stood walking.searched.opens.each walking.lead;
      }

  pub goes_or_ends : (ending : Option Ending) → told ≡ ending → GoesOrEnds basis left ending turned after
  goes_or_ends None e = goes_on e
  goes_or_ends (Some ends) e = ends_so ends e

-- ---- whatever the rules are

pub goes_back : (terms : Terms) (search : Search) (machine : State) (before after : Tape) →
    machine.setting ≡ search.machine.setting → machine.secret ≡ search.machine.secret → after.ruling ≡ before.ruling →
    after.shades.base ≡ machine.setting.base → CanGoBack terms search before →
    CanGoBack terms (record search { machine = machine }) after
goes_back terms search machine before after setting secret ruling base back = record {
  opens = each_weaker (CanReturn terms search.pieces search.machine) (CanReturn terms search.pieces machine) again
      search.opens.items back.opens;
  first = back.first;
  others = back.others;
  begins = back.begins;
  at_start = back.at_start;
  same_length = back.same_length;
  ruling = ruling ∙ back.ruling;
  base = base;
}
  where
    again : (entry : OpenPlace) → CanReturn terms search.pieces search.machine entry →
        CanReturn terms search.pieces machine entry
    again entry can = record {
      state = can.state;
      shades = can.shades;
      ahead = can.ahead;
      byte_masks = can.byte_masks;
      status_mask = can.status_mask;
      keeps = can.keeps;
      setting = can.setting ∙ sym setting;
      secret = can.secret ∙ sym secret;
      leaves = can.leaves;
      crossed = can.crossed;
    }
