-- What is below two places with the same state is the same, where what crosses is within the budget, or where as many bits
-- have crossed and as many turns are left.
use Rattle.std.proofs.Common.{◌≡◌, ℕ, zero, suc, ◌+◌, ◌≤◌, ◌<◌, ◌++◌, ◌∷◌, [], List, Bool, true, false, Some, None, refl}
use Rattle.std.proofs.Common.{sym, ap, ap₂, ◌∙◌, subst, map, nat_lt, arith}
use Rattle.std.specs.List.{AllByRecursion}
use Rattle.crossing_bits.specs.Askers.{Asker, Asks, Over, then_ask}
use Rattle.rv32im_machine.specs.declared.stepping.Stepped.{Stepped}
use Rattle.rv32im_machine.specs.declared.stepping.Stepped.TheVariants.{Ran, Exited, Stopped}
use Rattle.rv32im_machine.specs.State.{State}
use Rattle.lockstep_replay.specs.Tasks.{Limits, Task}
use Rattle.every_secret.specs.declared.path_ends.PathEnd.{PathEnd}
use Rattle.every_secret.specs.declared.path_ends.PathEnd.TheVariants.{Exits, Stops, Unclear}
use Rattle.every_secret.specs.declared.stops.PathStop.TheVariants.{RangeOutside}
use Rattle.every_secret.specs.declared.whys.UnclearWhy.TheVariants.{Budget}
use Rattle.every_secret.specs.Masked.{Goes, Halts, MaskedPlace, Meets, Reached}
use Rattle.every_secret.specs.Paths.{Fork, Leaf, Path, Tree, behind, forks, paths_of, tree_of}
use Rattle.every_secret.specs.Private.Orders.{Come, descend, first_from, later}
use Rattle.every_secret.specs.Replays.{ended_or, pattern_of, unless_ended, unless_over, walked_on}
use Rattle.every_secret.specs.Rules.{Rules}
use Rattle.every_secret.specs.States.{AllEndWithin, EndsWithin, SameState, SameTreesLaw, below}
use Rattle.every_secret.specs.Turns.{masked_turn}
use Rattle.every_secret.proofs.AlikeTurns.{AlikeReached, AskAlike, turns_alike}
use Rattle.every_secret.proofs.AlikeWays.{alike_ends}
use Rattle.every_secret.proofs.Trees.{fed_descends, first_later}
use Rattle.every_secret.proofs.WayWalks.{walks_to_end}

-- ---- a tree is known by its paths

module _ (Fact : Path → Type 0) where
  all_behind : (bit : Bool) (paths : List Path) → AllByRecursion Fact (map (behind bit) paths) →
      AllByRecursion (λ path. Fact (behind bit path)) paths
  all_behind bit [] all = tt
  all_behind bit (path ∷ paths) all = (all.0, all_behind bit paths all.1)

  part_all : (first second : List Path) → AllByRecursion Fact (first ++ second) →
      AllByRecursion Fact first × AllByRecursion Fact second
  part_all [] second all = (tt, all)
  part_all (path ∷ first) second all =
      let both = part_all first second all.1 in ((all.0, both.0), both.1)

weaken_all : (Fact Other : Path → Type 0) → ((path : Path) → Fact path → Other path) → (paths : List Path) →
    AllByRecursion Fact paths → AllByRecursion Other paths
weaken_all Fact Other each [] all = tt
weaken_all Fact Other each (path ∷ paths) all = (each path all.0, weaken_all Fact Other each paths all.1)

-- the string of a path comes to its end in a tree
abbrev IsPathOf : Tree → Path → Type 0
IsPathOf tree path = descend tree path.bits ≡ Some (record { ends = path.ends; rest = [] })

by_paths : (tree other : Tree) → AllByRecursion (IsPathOf tree) (paths_of other) → tree ≡ other
unfolding paths_of
by_paths (Leaf x) (Leaf e) all =
    let here : Some (record { ends = x; rest = [] }) ≡ Some (record { ends = e; rest = [] }) = all.0 in
    let same : (record { ends = x; rest = [] }) ≡ (record { ends = e; rest = [] }) = cc in
    ap (λ (come : Come). Leaf come.ends) same
by_paths (Fork first second) (Leaf e) all =
    let one : Come = record { ends = e; rest = [] } in let here : None ≡ Some one = all.0 in absurd (cc)
by_paths (Leaf x) (Fork first second) all =
    let both = part_all (IsPathOf (Leaf x)) (map (behind false) (paths_of first)) (map (behind true) (paths_of second))
    all in
    let left : AllByRecursion (IsPathOf (Leaf x))
    (map (behind false) (first_from first [] ∷ later first (first_from first []).bits)) =
    subst (λ ps. AllByRecursion (IsPathOf (Leaf x)) (map (behind false) ps)) (first_later first) both.0 in
    let one : Come = record { ends = x; rest = false ∷ (first_from first []).bits } in
    let two : Come = record { ends = (first_from first []).ends; rest = [] } in
    let here : Some one ≡ Some two = left.0 in
    let same : one ≡ two = cc in
    let none : false ∷ (first_from first []).bits ≡ [] = ap (λ (come : Come). come.rest) same in
    absurd (cc)
by_paths (Fork first second) (Fork left right) all =
    let both = part_all (IsPathOf (Fork first second)) (map (behind false) (paths_of left))
    (map (behind true) (paths_of right)) all in
    ap₂ (λ one two. Fork one two)
    (by_paths first left (all_behind (IsPathOf (Fork first second)) false (paths_of left) both.0))
    (by_paths second right (all_behind (IsPathOf (Fork first second)) true (paths_of right) both.1))

-- ---- by the ends of all paths

module _ (rules : Rules) (task : Task) (limits : Limits) (first second : MaskedPlace)
    (left other_left turns bits : ℕ) (same : SameState task.masks first second)
    (begins : first.crossed ≤ limits.budget) (small : limits.budget < 4294967295)
    (enough : turns ≤ other_left) (fits : second.crossed + bits ≤ limits.budget) where
  path_below : (path : Path) → EndsWithin rules task limits left first turns bits path →
      IsPathOf (below rules task limits other_left second) path
  path_below path within =
      let found = alike_ends rules task limits small first second left other_left turns bits path.bits path.ends
      within.after within.crossed same within.ends_on within.soon within.few enough begins fits in
      fed_descends (walked_on rules task limits other_left second) path.bits path.ends []
      (walks_to_end rules task limits other_left second path.bits path.ends found.after found.other_crossed
      found.ends_on)

  pub same_trees : AllEndWithin rules task limits left first turns bits →
      below rules task limits other_left second ≡ below rules task limits left first
  same_trees all =
      by_paths (below rules task limits other_left second) (below rules task limits left first)
      (weaken_all (EndsWithin rules task limits left first turns bits)
      (IsPathOf (below rules task limits other_left second)) path_below
      (paths_of (below rules task limits left first)) all)

  path_within : first.crossed + bits < 4294967295 → (path : Path) →
      EndsWithin rules task limits left first turns bits path →
      EndsWithin rules task limits other_left second turns bits path
  path_within counted path within =
      let found = alike_ends rules task limits small first second left other_left turns bits path.bits path.ends
      within.after within.crossed same within.ends_on within.soon within.few enough begins fits in
      let few = within.few in record {
        after = found.after;
        crossed = found.other_crossed;
        ends_on = found.ends_on;
        soon = found.soon;
        few = found.few (omega (arith, few, counted));
      }

  -- and its paths end as soon, and with as few bits more that cross; a stop counts with all of its last turn, up to
  -- 4,294,967,295 bits
  pub same_ends : first.crossed + bits < 4294967295 → AllEndWithin rules task limits left first turns bits →
      AllEndWithin rules task limits other_left second turns bits
  same_ends counted all =
      subst (λ tree. AllByRecursion (EndsWithin rules task limits other_left second turns bits) (paths_of tree))
      (sym (same_trees all))
      (weaken_all (EndsWithin rules task limits left first turns bits)
      (EndsWithin rules task limits other_left second turns bits) (path_within counted)
      (paths_of (below rules task limits left first)) all)

pub same_trees_law : SameTreesLaw
same_trees_law rules task limits first second left other_left turns bits same begins small all enough fits =
    same_trees rules task limits first second left other_left turns bits same begins small enough fits all

-- ---- by as many bits and turns

tree_then : (Same : Reached → Reached → Type 0) (next to : Reached → Asker PathEnd) →
    ((x y : Reached) → Same x y → tree_of (next x) ≡ tree_of (to y)) → (asker other : Asker Reached) →
    AskAlike Same asker other → tree_of (then_ask asker next) ≡ tree_of (then_ask other to)
unfolding tree_of
tree_then Same next to goes (Over x) (Over y) same = goes x y same
tree_then Same next to goes (Over x) (Asks count go) same = absurd same
tree_then Same next to goes (Asks count go) (Over y) same = absurd same
tree_then Same next to goes (Asks count go) (Asks other onward) same = λ i.
    forks (same.0 i) (λ bits. tree_then Same next to goes (go bits) (onward bits) (same.1 bits) i)

module _ (rules : Rules) (task : Task) (limits : Limits) where
  -- after a turn, where what is below the places that it comes to is the same
  module _ (first second : MaskedPlace) (here there : Asker PathEnd) (same : SameState task.masks first second)
      (crossed : first.crossed ≡ second.crossed) (later : tree_of here ≡ tree_of there) where
    exits_same : (status : ℕ) → pattern_of first status ≡ pattern_of second status
    exits_same status = λ i. record {
      bytes = (same.state i).control.output;
      status = status;
      byte_masks = same.byte_masks i;
      status_mask = same.status_mask i;
    }

    over_same : (one other : Asker PathEnd) → tree_of one ≡ tree_of other → (test : Bool) →
        tree_of (unless_over test limits.budget first one) ≡ tree_of (unless_over test limits.budget second other)
    over_same one other equal true = ap (λ n. tree_of (Over (Unclear (Budget limits.budget n)))) crossed
    over_same one other equal false = equal

    within_same : (one other : Asker PathEnd) → tree_of one ≡ tree_of other →
        tree_of (unless_over (nat_lt limits.budget first.crossed) limits.budget first one)
        ≡ tree_of (unless_over (nat_lt limits.budget second.crossed) limits.budget second other)
    within_same one other equal =
        over_same one other equal (nat_lt limits.budget first.crossed)
        ∙ ap (λ n. tree_of (unless_over (nat_lt limits.budget n) limits.budget second other)) crossed

    mode_same : (mode : Stepped) → tree_of (unless_ended mode limits.budget first here)
        ≡ tree_of (unless_ended mode limits.budget second there)
    mode_same Ran = within_same here there later
    mode_same (Exited status) =
        within_same (Over (Exits (pattern_of first status))) (Over (Exits (pattern_of second status)))
        (ap (λ pattern. tree_of (Over (Exits pattern))) (exits_same status))
    mode_same (Stopped fault) = refl

    end_same : tree_of (unless_ended first.state.control.mode limits.budget first here)
        ≡ tree_of (unless_ended second.state.control.mode limits.budget second there)
    end_same =
        mode_same first.state.control.mode
        ∙ ap (λ (state : State). tree_of (unless_ended state.control.mode limits.budget second there)) same.state

  -- what is below two places
  abbrev SameBelow : ℕ → Type 0
  SameBelow left =
      (first second : MaskedPlace) → SameState task.masks first second → first.crossed ≡ second.crossed →
      below rules task limits left first ≡ below rules task limits left second

  reached_same : (left start other : ℕ) → start ≡ other → SameBelow left → (x y : Reached) →
      AlikeReached task.masks start other x y →
      tree_of (ended_or limits.budget x (λ next. walked_on rules task limits left next))
      ≡ tree_of (ended_or limits.budget y (λ next. walked_on rules task limits left next))
  reached_same left start other e more (Goes next) (Goes place) alike =
      end_same next place (walked_on rules task limits left next) (walked_on rules task limits left place) alike.same
      (alike.equal e) (more next place alike.same (alike.equal e))
  reached_same left start other e more (Goes next) (Meets why) alike = absurd alike
  reached_same left start other e more (Goes next) (Halts outside) alike = absurd alike
  reached_same left start other e more (Meets why) (Goes place) alike = absurd alike
  reached_same left start other e more (Meets why) (Meets met) alike = ap (λ w. tree_of (Over (Unclear w))) alike
  reached_same left start other e more (Meets why) (Halts outside) alike = absurd alike
  reached_same left start other e more (Halts outside) (Goes place) alike = absurd alike
  reached_same left start other e more (Halts outside) (Meets why) alike = absurd alike
  reached_same left start other e more (Halts outside) (Halts beyond) alike =
      ap (λ range. tree_of (Over (Stops (RangeOutside range)))) alike

  pub same_below : (left : ℕ) (first second : MaskedPlace) → SameState task.masks first second →
      first.crossed ≡ second.crossed → below rules task limits left first ≡ below rules task limits left second
  unfolding walked_on
  same_below zero first second same crossed = refl
  same_below (suc left) first second same crossed =
      tree_then (AlikeReached task.masks first.crossed second.crossed)
      (λ reached. ended_or limits.budget reached (λ next. walked_on rules task limits left next))
      (λ reached. ended_or limits.budget reached (λ next. walked_on rules task limits left next))
      (reached_same left first.crossed second.crossed crossed
      (λ next place alike equal. same_below left next place alike equal))
      (masked_turn rules task first) (masked_turn rules task second) (turns_alike rules task first second same)
