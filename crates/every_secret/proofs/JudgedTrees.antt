-- What the paths of a tree that a walk has come to add to what is found.
use Rattle.std.proofs.Common.{◌≡◌, ℕ, ◌+◌, List, [], ◌∷◌, ◌++◌, ◌-◌, Bool, true, false, Option, Some, map, length}
use Rattle.std.proofs.Common.{refl, sym, ap, ap₂, ◌∙◌, arith, subst, append_assoc, append-nil}
use Rattle.std.specs.Prelude.{nat_lt, option_map}
use Rattle.std.specs.List.{AllByRecursion}
use Rattle.rv32im_machine.specs.State.{State}
use Rattle.every_secret.specs.declared.closed_states.Closed.{Closed}
use Rattle.every_secret.specs.declared.endings.Ending.TheVariants as ending
use Rattle.every_secret.specs.declared.findings.Findings.{Findings}
use Rattle.every_secret.specs.declared.judging.Judged.TheVariants as made
use Rattle.every_secret.specs.declared.path_ends.PathEnd.{PathEnd}
use Rattle.every_secret.specs.declared.path_ends.PathEnd.TheVariants.{Exits, Stops, Unclear}
use Rattle.every_secret.specs.declared.patterns.Pattern.{Pattern}
use Rattle.every_secret.specs.declared.searching.Came.TheVariants.{Ended, Met}
use Rattle.every_secret.specs.declared.stops.PathStop.{PathStop}
use Rattle.every_secret.specs.declared.sums.Sum.{Sum}
use Rattle.every_secret.specs.declared.verdicts.StoppedPath.{StoppedPath}
use Rattle.every_secret.specs.declared.whys.UnclearWhy.{UnclearWhy}
use Rattle.every_secret.specs.declared.whys.UnclearWhy.TheVariants.{Outputs}
use Rattle.every_secret.specs.Bounds.{Found, Halt, IsUnclear, counted, first_stop_of, found_exit, found_stop, halt_of, judged}
use Rattle.every_secret.specs.Bounds.{nothing_found, pattern_limit, size_of, with_pattern}
use Rattle.every_secret.specs.Paths.{Leaf, Opens, Path, Tree, paths_of}
use Rattle.every_secret.specs.Private.Folding.{FoldsTo, IsKnown, IsKnownEnd, stops_at, stops_in}
use Rattle.every_secret.specs.Private.Orders.{earlier, past, under}
use Rattle.every_secret.specs.Private.Searching.{Adds, IsFoundBefore, IsMet, JudgesSo, found_before, known_in}
use Rattle.every_secret.specs.Private.Spots.{Basis, tree_in}
use Rattle.every_secret.specs.Private.Sums.{stop_repeats, sum_of_came}
use Rattle.every_secret.specs.Private.Tapes.{Tape}
use Rattle.every_secret.specs.Private.Walks.{end_of}
use Rattle.every_secret.proofs.EarlierPaths.{parts_at}
use Rattle.every_secret.proofs.FoldedPaths.{exit_known, folds_exit, folds_known_past, folds_large, folds_stop, folds_unclear}
use Rattle.every_secret.proofs.FoldedPaths.{known_after_exit, known_after_stop, stop_known}

-- ---- the one path of an end

abbrev path_of_end : List Bool → PathEnd → Path
path_of_end bits ends = record { bits = bits; ends = ends }

leaf_path : (bits : List Bool) (ends : PathEnd) → map (past bits) (paths_of (Leaf ends)) ≡ path_of_end bits ends ∷ []
unfolding paths_of
leaf_path bits ends = ap (λ s. path_of_end s ends ∷ []) (append-nil bits)

leaf_length : (ends : PathEnd) → length (paths_of (Leaf ends)) ≡ 1
unfolding paths_of
leaf_length ends = refl

leaf_stops : (ends : PathEnd) → stops_in (paths_of (Leaf ends)) ≡ stops_at ends
unfolding paths_of
leaf_stops ends = omega arith

leaf_all : (Fact : Path → Type 0) (ends : PathEnd) → Fact (path_of_end [] ends) → AllByRecursion Fact (paths_of (Leaf ends))
unfolding paths_of
leaf_all Fact ends fact = (fact, tt)

-- the paths before it and those after it
record Among (tree : Tree) (bits : List Bool) (ends : PathEnd) : Type 0 where
  rest : List Path
  paths_are : paths_of tree ≡ earlier tree bits ++ path_of_end bits ends ∷ rest

is_among : (tree : Tree) (bits : List Bool) (ends : PathEnd) → Opens tree bits → under tree bits ≡ Leaf ends →
    Among tree bits ends
is_among tree bits ends opens is =
    let parts = parts_at tree bits opens in record {
      rest = parts.rest;
      paths_are = parts.paths_are
          ∙ (ap (λ (t : Tree). (earlier tree bits ++ map (past bits) (paths_of t)) ++ parts.rest) is
          ∙ (ap (λ (ps : List Path). (earlier tree bits ++ ps) ++ parts.rest) (leaf_path bits ends)
          ∙ append_assoc (earlier tree bits) (path_of_end bits ends ∷ []) parts.rest));
    }

-- ---- where a string comes to an end

module _ (basis : Basis) (bits : List Bool) (patterns : List Pattern) (first : Option Halt)
    (found : IsFoundBefore (tree_in basis) patterns first bits) (opens : Opens (tree_in basis) bits) where
  abbrev before : List Path
  before = earlier (tree_in basis) bits

  abbrev before_found : Found
  before_found = found_before (tree_in basis) patterns first bits

  -- it is unclear
  pub unclear_end : (why : UnclearWhy) → under (tree_in basis) bits ≡ Leaf (Unclear why) →
      judged nothing_found (paths_of (tree_in basis)) ≡ IsUnclear bits why
  unclear_end why is =
      let among = is_among (tree_in basis) bits (Unclear why) opens is in
      ap (λ ps. judged nothing_found ps) among.paths_are
      ∙ folds_unclear before before_found (path_of_end bits (Unclear why)) why found.folds refl among.rest

  -- too many patterns come of it
  pub large_end : (pattern : Pattern) → under (tree_in basis) bits ≡ Leaf (Exits pattern) →
      nat_lt pattern_limit (size_of (with_pattern pattern patterns)) ≡ true →
      judged nothing_found (paths_of (tree_in basis)) ≡ IsUnclear bits (Outputs pattern_limit)
  large_end pattern is large =
      let among = is_among (tree_in basis) bits (Exits pattern) opens is in
      ap (λ ps. judged nothing_found ps) among.paths_are
      ∙ folds_large before before_found (path_of_end bits (Exits pattern)) pattern found.folds refl large among.rest

  -- ---- what it adds

  abbrev found_with : ℕ → ℕ → List Pattern → Option Halt → Found
  found_with paths stopped more halt =
      record { paths = paths; stopped = stopped; patterns = more; first_stop = halt }

  leaf_adds : (ends : PathEnd) (old new : Findings) (sum : Sum) → sum.paths ≡ counted 1 →
      sum.stopped ≡ counted (stops_at ends) → IsKnown (known_in new) (path_of_end [] ends) →
      ((path : Path) → IsKnown (known_in old) path → IsKnown (known_in new) path) →
      nat_lt pattern_limit (size_of new.patterns) ≡ false →
      FoldsTo (before ++ path_of_end bits ends ∷ [])
      (found_with (length before + 1) (stops_in before + stops_at ends) new.patterns (known_in new).first_stop) →
      Adds basis bits (Leaf ends) old new sum
  leaf_adds ends old new sum paths stopped known keeps small folds = record {
    count = paths ∙ ap (λ n. counted n) (sym (leaf_length ends));
    stops = stopped ∙ ap (λ n. counted n) (sym (leaf_stops ends));
    known = leaf_all (IsKnown (known_in new)) ends known;
    keeps = keeps;
    small = small;
    folds = subst (λ ps. FoldsTo (before ++ ps)
        (found_with (length before + length (paths_of (Leaf ends))) (stops_in before + stops_in (paths_of (Leaf ends)))
        new.patterns (known_in new).first_stop)) (sym (leaf_path bits ends))
        (subst (λ f. FoldsTo (before ++ path_of_end bits ends ∷ []) f)
        (ap₂ (λ m n. found_with (length before + m) (stops_in before + n) new.patterns (known_in new).first_stop)
        (sym (leaf_length ends)) (sym (leaf_stops ends))) folds);
  }

  -- an exit
  pub exit_adds : (pattern : Pattern) (tree : Tree) (old new : Findings) (sum : Sum) → tree ≡ Leaf (Exits pattern) →
      sum.paths ≡ Some 1 → sum.stopped ≡ Some 0 → old.patterns ≡ patterns → (known_in old).first_stop ≡ first →
      new.patterns ≡ with_pattern pattern patterns → (known_in new).first_stop ≡ first →
      nat_lt pattern_limit (size_of new.patterns) ≡ false → Adds basis bits tree old new sum
  exit_adds pattern tree old new sum is paths stopped same_patterns same_first patterns_are first_is small =
      let path : Path = path_of_end [] (Exits pattern) in
      let known : (p : Path) → IsKnown (found_exit pattern before_found) p → IsKnown (known_in new) p =
      λ p. subst (λ (ps : List Pattern). IsKnownEnd (with_pattern pattern patterns) first p.ends →
      IsKnownEnd ps (known_in new).first_stop p.ends) (sym patterns_are)
      (subst (λ (f : Option Halt). IsKnownEnd (with_pattern pattern patterns) first p.ends →
      IsKnownEnd (with_pattern pattern patterns) f p.ends) (sym first_is) (λ h. h)) in
      let was : (p : Path) → IsKnown (known_in old) p → IsKnown before_found p =
      λ p. subst (λ (ps : List Pattern). IsKnownEnd ps (known_in old).first_stop p.ends →
      IsKnownEnd patterns first p.ends) (sym same_patterns)
      (subst (λ (f : Option Halt). IsKnownEnd patterns f p.ends → IsKnownEnd patterns first p.ends)
      (sym same_first) (λ h. h)) in
      subst (λ t. Adds basis bits t old new sum) (sym is)
      (leaf_adds (Exits pattern) old new sum paths stopped (known path (exit_known before_found path pattern refl))
      (λ p h. known p (known_after_exit pattern before_found p (was p h))) small
      (subst (λ f. FoldsTo (before ++ path_of_end bits (Exits pattern) ∷ []) f)
      (ap₂ (λ ps f. found_with (length before + 1) (stops_in before) ps f) (sym patterns_are) (sym first_is)
      ∙ ap (λ n. found_with (length before + 1) n new.patterns (known_in new).first_stop) (more_none (stops_in before)))
      (folds_exit before before_found (path_of_end bits (Exits pattern)) pattern found.folds refl
      (subst (λ (ps : List Pattern). nat_lt pattern_limit (size_of ps) ≡ false) patterns_are small))))
    where
      more_none : (n : ℕ) → n ≡ n + 0
      more_none n = omega arith

  -- a stop
  pub stop_adds : (stop : PathStop) (tree : Tree) (old new : Findings) (sum : Sum) → tree ≡ Leaf (Stops stop) →
      sum.paths ≡ Some 1 → sum.stopped ≡ Some 1 → old.patterns ≡ patterns → (known_in old).first_stop ≡ first →
      new.patterns ≡ patterns → (known_in new).first_stop ≡ first_stop_of first bits stop →
      Adds basis bits tree old new sum
  stop_adds stop tree old new sum is paths stopped same_patterns same_first patterns_are first_is =
      let path : Path = path_of_end [] (Stops stop) in
      let known : (p : Path) → IsKnown (found_stop bits stop before_found) p → IsKnown (known_in new) p =
      λ p. subst (λ (ps : List Pattern). IsKnownEnd patterns (first_stop_of first bits stop) p.ends →
      IsKnownEnd ps (known_in new).first_stop p.ends) (sym patterns_are)
      (subst (λ (f : Option Halt). IsKnownEnd patterns (first_stop_of first bits stop) p.ends →
      IsKnownEnd patterns f p.ends) (sym first_is) (λ h. h)) in
      let was : (p : Path) → IsKnown (known_in old) p → IsKnown before_found p =
      λ p. subst (λ (ps : List Pattern). IsKnownEnd ps (known_in old).first_stop p.ends →
      IsKnownEnd patterns first p.ends) (sym same_patterns)
      (subst (λ (f : Option Halt). IsKnownEnd patterns f p.ends → IsKnownEnd patterns first p.ends)
      (sym same_first) (λ h. h)) in
      subst (λ t. Adds basis bits t old new sum) (sym is)
      (leaf_adds (Stops stop) old new sum paths stopped (known path (stop_known before_found bits path stop refl))
      (λ p h. known p (known_after_stop bits stop before_found p (was p h)))
      (subst (λ (ps : List Pattern). nat_lt pattern_limit (size_of ps) ≡ false) (sym patterns_are) found.small)
      (subst (λ f. FoldsTo (before ++ path_of_end bits (Stops stop) ∷ []) f)
      (ap₂ (λ ps f. found_with (length before + 1) (stops_in before + 1) ps f) (sym patterns_are) (sym first_is))
      (folds_stop before before_found (path_of_end bits (Stops stop)) stop found.folds refl)))

-- the paths below a state that is met
pub met_adds : (basis : Basis) (bits : List Bool) (tree : Tree) (old : Findings) (closed : Closed) (sum : Sum) →
    IsFoundBefore (tree_in basis) old.patterns (known_in old).first_stop bits → IsMet (known_in old) closed tree →
    sum.paths ≡ closed.paths → sum.stopped ≡ closed.stopped → Adds basis bits tree old old sum
met_adds basis bits tree old closed sum found met paths stopped = record {
  count = paths ∙ met.count;
  stops = stopped ∙ met.stops;
  known = met.known;
  keeps = λ path known. known;
  small = found.small;
  folds = folds_known_past (earlier (tree_in basis) bits) (paths_of tree) bits
      (found_before (tree_in basis) old.patterns (known_in old).first_stop bits) found.folds found.small met.known;
}

-- ---- what is made of it

module _ (machine : State) (tape : Tape) (old : Findings) where
  pub unclear_judged : (why : UnclearWhy) (after : ℕ) →
      JudgesSo (Ended (ending.Unclear why) after) machine tape old old (made.Unclear why)
  unclear_judged why after = record {
    sum = tt;
    judges = λ basis tree found is opens below.
        unclear_end basis tape.stream.bits old.patterns (known_in old).first_stop found opens why (below ∙ is);
  }

  pub large_judged : (status after : ℕ) (pattern : Pattern) (new : Findings) →
      Exits pattern ≡ end_of (ending.Exited status) machine tape →
      nat_lt pattern_limit (size_of (with_pattern pattern old.patterns)) ≡ true →
      JudgesSo (Ended (ending.Exited status) after) machine tape old new (made.Unclear (Outputs pattern_limit))
  large_judged status after pattern new ends large = record {
    sum = tt;
    judges = λ basis tree found is opens below.
        large_end basis tape.stream.bits old.patterns (known_in old).first_stop found opens pattern
        (below ∙ (is ∙ ap (λ e. Leaf e) (sym ends))) large;
  }

  pub exit_judged : (status after : ℕ) (pattern : Pattern) (new : Findings) →
      Exits pattern ≡ end_of (ending.Exited status) machine tape →
      new.patterns ≡ with_pattern pattern old.patterns → new.first_stop ≡ old.first_stop →
      nat_lt pattern_limit (size_of new.patterns) ≡ false →
      JudgesSo (Ended (ending.Exited status) after) machine tape old new
      (made.Add (sum_of_came (Ended (ending.Exited status) after) tape.crossed))
  exit_judged status after pattern new ends patterns_are first_is small = record {
    sum = refl;
    judges = λ basis tree found is opens below.
        exit_adds basis tape.stream.bits old.patterns (known_in old).first_stop found opens pattern tree old new
        (sum_of_came (Ended (ending.Exited status) after) tape.crossed) (is ∙ ap (λ e. Leaf e) (sym ends)) refl refl refl refl
        patterns_are (ap (λ (s : Option StoppedPath). option_map (λ stopped. halt_of stopped) s) first_is) small;
  }

  pub stop_judged : (stop : PathStop) (after : ℕ) (repeats : Bool) (new : Findings) → repeats ≡ stop_repeats stop →
      new.patterns ≡ old.patterns →
      (known_in new).first_stop ≡ first_stop_of (known_in old).first_stop tape.stream.bits stop →
      JudgesSo (Ended (ending.Stopped stop) after) machine tape old new (made.Add (record {
        paths = Some 1;
        stopped = Some 1;
        after = after;
        crossed = tape.crossed;
        repeats = repeats;
      }))
  stop_judged stop after repeats new same patterns_are first_is =
      let sum_with : Bool → Sum = λ b. record {
        paths = Some 1;
        stopped = Some 1;
        after = after;
        crossed = tape.crossed;
        repeats = b;
      } in record {
        sum = ap sum_with same;
        judges = λ basis tree found is opens below.
            stop_adds basis tape.stream.bits old.patterns (known_in old).first_stop found opens stop tree old new
            (sum_with repeats) is refl refl refl refl patterns_are first_is;
      }

  pub met_judged : (closed : Closed) (left after : ℕ) → after ≡ left - closed.turns →
      JudgesSo (Met closed left) machine tape old old (made.Add (record {
        paths = closed.paths;
        stopped = closed.stopped;
        after = after;
        crossed = tape.crossed + closed.bits;
        repeats = true;
      }))
  met_judged closed left after same =
      let sum_with : ℕ → Sum = λ n. record {
        paths = closed.paths;
        stopped = closed.stopped;
        after = n;
        crossed = tape.crossed + closed.bits;
        repeats = true;
      } in record {
        sum = ap sum_with same;
        judges = λ basis tree found is opens below.
            met_adds basis tape.stream.bits tree old closed (sum_with after) found is refl refl;
      }
