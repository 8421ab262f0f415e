-- A search between two walks.
use Rattle.std.proofs.Common.{◌≡◌, ◌≤◌, ◌<◌, ◌+◌, ℕ, List, [], ◌∷◌, ◌++◌, Bool, Option, Some, None, map, take, drop, length}
use Rattle.std.proofs.Common.{sym, ap, ap₂, ◌∙◌, arith, subst, length-append}
use Rattle.std.specs.List.{AllByRecursion}
use Rattle.every_secret.specs.declared.open_places.OpenPlace.{OpenPlace}
use Rattle.every_secret.specs.declared.patterns.Pattern.{Pattern}
use Rattle.every_secret.specs.declared.searching.Search.{Search}
use Rattle.every_secret.specs.Bounds.{Found, Halt, counted}
use Rattle.every_secret.specs.Paths.{Opens, Path, Tree, next_string, paths_of}
use Rattle.every_secret.specs.Private.Folding.{FoldsTo, stops_in}
use Rattle.every_secret.specs.Private.Orders.{earlier, past, under}
use Rattle.every_secret.specs.Private.Searching.{CanGoBack, IsAdded, IsAddedTo, IsDeep, IsDone, IsOpen, IsSearched, IsSettled, Settles, Stood}
use Rattle.every_secret.specs.Private.Searching.{Terms, known_in, turned_at}
use Rattle.every_secret.specs.Private.Spots.{Basis, below_in, tree_in}
use Rattle.every_secret.specs.Private.Tapes.{Tape}
use Rattle.every_secret.proofs.EarlierPaths.{paths_to_last, reaches_next, some_path, under_none}
use Rattle.every_secret.proofs.FoldedPaths.{length_past, stops_append, stops_past}
use Rattle.every_secret.proofs.KnownTrees.{earlier_fewer}
use Rattle.every_secret.proofs.Lists.{each_of_both, each_unmapped, each_weaker}
use Rattle.every_secret.proofs.SettledPlaces.{all_turned, is_settled, turned_length}

-- ---- to the next string

-- all open places that are left are no deeper than the place of the turn
pub deep_next : (turn : ℕ) (bits next : List Bool) (opens : List OpenPlace) → turn < length bits →
    next ≡ turned_at turn bits → AllByRecursion (IsDeep turn) opens → AllByRecursion (IsDeep (length next)) opens
deep_next turn bits next opens within is all =
    let long : length next ≡ length (turned_at turn bits) = ap (λ s. length s) is in
    let same = turned_length turn bits within in
    each_weaker (IsDeep turn) (IsDeep (length next)) (λ entry low. omega (arith, low, long, same)) opens all

pub searched_next : (basis : Basis) (turn : ℕ) (search : Search) (tape : Tape) → turn < length tape.stream.bits →
    AllByRecursion (IsDeep turn) search.opens.items → Settles basis turn search tape →
    IsSearched basis (turned_at turn tape.stream.bits) search
searched_next basis turn search tape within low settles =
    let bits : List Bool = tape.stream.bits in
    let before : AllByRecursion (λ (one : Stood). one.entry.depth ≤ turn) settles.stood =
    each_unmapped (IsDeep turn) (λ (one : Stood). one.entry) settles.stood
    (subst (λ s. AllByRecursion (IsDeep turn) s) (sym settles.opens_are) low) in record {
      opens = record {
        stood = settles.stood;
        opens_are = settles.opens_are;
        each = each_of_both
            (IsSettled basis search.machine search.pieces (known_in search.findings) (turned_at turn bits) turn)
            (λ (one : Stood). one.entry.depth ≤ turn)
            (IsOpen basis search.machine search.pieces (known_in search.findings) (turned_at turn bits))
            (λ one settled low. settled.before low) settles.stood settles.settled before;
        lead = all_turned basis bits turn within settles.stood settles.lead before;
      };
      closed = settles.closed;
      found = settles.found;
    }

-- ---- where a walk has come to a tree

-- what the first open place says of the whole tree
pub record IsUnder (tree below here : Tree) (bits rest : List Bool) : Type 0 where
  pub opens : Opens tree bits
  pub under_is : under tree bits ≡ here
  pub earlier_is : earlier below rest ≡ earlier tree bits
  pub rest_is : rest ≡ bits

pub is_under : (tree below here : Tree) (bits : List Bool) (depth : ℕ) → depth ≡ 0 → under tree (take depth bits) ≡ below →
    Opens below (drop depth bits) → under below (drop depth bits) ≡ here →
    IsUnder tree below here bits (drop depth bits)
is_under tree below here bits depth zero is opens under_is =
    let whole : below ≡ tree = sym is ∙ (ap (λ d. under tree (take d bits)) zero ∙ under_none tree) in
    let all : drop depth bits ≡ bits = ap (λ d. drop d bits) zero in record {
      opens = subst (λ s. Opens tree s) all (subst (λ t. Opens t (drop depth bits)) whole opens);
      under_is = sym (ap₂ (λ t s. under t s) whole all) ∙ under_is;
      earlier_is = ap₂ (λ t s. earlier t s) whole all;
      rest_is = all;
    }

-- the whole tree, of whose paths those below a string are added
pub record IsAddedWhole (tree here : Tree) (bits : List Bool) (first : OpenPlace) : Type 0 where
  pub opens : Opens tree bits
  pub under_is : under tree bits ≡ here
  pub count : first.sum.paths ≡ counted (length (earlier tree bits ++ map (past bits) (paths_of here)))
  pub stops : first.sum.stopped ≡ counted (stops_in (earlier tree bits ++ map (past bits) (paths_of here)))

first_added : (basis : Basis) (search : Search) (bits : List Bool) (here : Tree) (stood : List Stood)
    (items others : List OpenPlace) (first : OpenPlace) → map (λ (one : Stood). one.entry) stood ≡ items →
    items ≡ first ∷ others → first.depth ≡ 0 →
    AllByRecursion (IsAddedTo basis search.machine search.pieces (known_in search.findings) bits here) stood →
    IsAddedWhole (tree_in basis) here bits first
first_added basis search bits here [] items others first are begins zero all = absurd (cc)
first_added basis search bits here (one ∷ more) items others first are begins zero (added, all) =
    let same : one.entry ≡ first = cc in
    let below : Tree = below_in basis one.entry.left one.place in
    let rest : List Bool = drop one.entry.depth bits in
    let at = is_under (tree_in basis) below here bits one.entry.depth (ap (λ (e : OpenPlace). e.depth) same ∙ zero)
    added.tree_is added.opens added.under_is in
    let paths_are : earlier below rest ++ map (past rest) (paths_of here)
    ≡ earlier (tree_in basis) bits ++ map (past bits) (paths_of here) =
    ap₂ (λ ps s. ps ++ map (past s) (paths_of here)) at.earlier_is at.rest_is in record {
      opens = at.opens;
      under_is = at.under_is;
      count = ap (λ (e : OpenPlace). e.sum.paths) (sym same)
          ∙ (added.sums.count ∙ ap (λ (ps : List Path). counted (length ps)) paths_are);
      stops = ap (λ (e : OpenPlace). e.sum.stopped) (sym same)
          ∙ (added.sums.stops ∙ ap (λ (ps : List Path). counted (stops_in ps)) paths_are);
    }

pub added_whole : (terms : Terms) (basis : Basis) (search : Search) (tape : Tape) (back : CanGoBack terms search tape)
    (added : IsAdded basis search tape) → IsAddedWhole (tree_in basis) added.tree tape.stream.bits back.first
added_whole terms basis search tape back added =
    first_added basis search tape.stream.bits added.tree added.stood search.opens.items back.others back.first
    added.opens_are back.begins back.at_start added.added

-- ---- how many paths that makes, and what is found of them

abbrev counts_of : ℕ → ℕ → List Pattern → Option Halt → Found
counts_of paths stopped patterns first_stop =
    record { paths = paths; stopped = stopped; patterns = patterns; first_stop = first_stop }

folds_whole : (all before here : List Path) (bits : List Bool) (patterns : List Pattern) (first_stop : Option Halt) →
    all ≡ before ++ map (past bits) here →
    FoldsTo (before ++ map (past bits) here)
    (counts_of (length before + length here) (stops_in before + stops_in here) patterns first_stop) →
    FoldsTo all (counts_of (length all) (stops_in all) patterns first_stop)
folds_whole all before here bits patterns first_stop is folds =
    let long : length all ≡ length (before ++ map (past bits) here) = ap (λ (ps : List Path). length ps) is in
    let both = length-append before (map (past bits) here) in
    let same = length_past bits here in
    let stops : stops_in all ≡ stops_in (before ++ map (past bits) here) = ap (λ (ps : List Path). stops_in ps) is in
    let joined = stops_append before (map (past bits) here) in
    let alike = stops_past bits here in
    let count : length before + length here ≡ length all = omega (arith, long, both, same) in
    let stopped : stops_in before + stops_in here ≡ stops_in all = omega (arith, stops, joined, alike) in
    subst (λ ps. FoldsTo ps (counts_of (length all) (stops_in all) patterns first_stop)) (sym is)
    (subst (λ n. FoldsTo (before ++ map (past bits) here) (counts_of (length all) n patterns first_stop)) stopped
    (subst (λ n. FoldsTo (before ++ map (past bits) here)
    (counts_of n (stops_in before + stops_in here) patterns first_stop)) count folds))

-- no string is next
pub all_done : (basis : Basis) (search : Search) (tape : Tape) (first : OpenPlace) (others : List OpenPlace) →
    search.opens.items ≡ first ∷ others → (added : IsAdded basis search tape) →
    IsAddedWhole (tree_in basis) added.tree tape.stream.bits first → next_string tape.stream.bits ≡ None →
    IsDone basis search
all_done basis search tape first others begins added whole none =
    let bits : List Bool = tape.stream.bits in
    let tree : Tree = tree_in basis in
    let all_is : paths_of tree ≡ earlier tree bits ++ map (past bits) (paths_of added.tree) =
    paths_to_last tree bits whole.opens none
    ∙ ap (λ t. earlier tree bits ++ map (past bits) (paths_of t)) whole.under_is in record {
      folds = folds_whole (paths_of tree) (earlier tree bits) (paths_of added.tree) bits search.findings.patterns
          (known_in search.findings).first_stop all_is added.folds;
      first = first;
      others = others;
      begins = begins;
      count = whole.count ∙ ap (λ (ps : List Path). counted (length ps)) (sym all_is);
      stops = whole.stops ∙ ap (λ (ps : List Path). counted (stops_in ps)) (sym all_is);
    }

-- a string is next
pub record IsNext (tree : Tree) (bits next : List Bool) (here : Tree) : Type 0 where
  pub opens : Opens tree next
  pub earlier_is : earlier tree next ≡ earlier tree bits ++ map (past bits) (paths_of here)
  pub more : length (earlier tree bits) + 1 ≤ length (earlier tree next)
  pub fewer : length (earlier tree bits) + 1 < length (paths_of tree)

pub is_next : (tree here : Tree) (bits next : List Bool) (first : OpenPlace) → IsAddedWhole tree here bits first →
    next_string bits ≡ Some next → IsNext tree bits next here
is_next tree here bits next first whole is =
    let reached = reaches_next tree bits next whole.opens is in
    let earlier_is : earlier tree next ≡ earlier tree bits ++ map (past bits) (paths_of here) =
    reached.earlier_is ∙ ap (λ t. earlier tree bits ++ map (past bits) (paths_of t)) whole.under_is in
    let long : length (earlier tree next) ≡ length (earlier tree bits ++ map (past bits) (paths_of here)) =
    ap (λ (ps : List Path). length ps) earlier_is in
    let both = length-append (earlier tree bits) (map (past bits) (paths_of here)) in
    let same = length_past bits (paths_of here) in
    let some = some_path here in
    let few = earlier_fewer tree next reached.opens in record {
      opens = reached.opens;
      earlier_is = earlier_is;
      more = omega (arith, long, both, same, some);
      fewer = omega (arith, long, both, same, some, few);
    }

pub settles_next : (basis : Basis) (search : Search) (tape : Tape) (turn : ℕ) → turn < length tape.stream.bits →
    next_string tape.stream.bits ≡ Some (turned_at turn tape.stream.bits) → (added : IsAdded basis search tape) →
    IsNext (tree_in basis) tape.stream.bits (turned_at turn tape.stream.bits) added.tree →
    Settles basis turn search tape
settles_next basis search tape turn within is added next =
    let bits : List Bool = tape.stream.bits in
    let tree : Tree = tree_in basis in record {
      stood = added.stood;
      opens_are = added.opens_are;
      settled = each_weaker
          (IsAddedTo basis search.machine search.pieces (known_in search.findings) bits added.tree)
          (IsSettled basis search.machine search.pieces (known_in search.findings) (turned_at turn bits) turn)
          (is_settled basis search.machine search.pieces (known_in search.findings) bits turn within is added.tree)
          added.stood added.added;
      lead = added.lead;
      closed = added.closed;
      found = record {
        folds = folds_whole (earlier tree (turned_at turn bits)) (earlier tree bits) (paths_of added.tree) bits
            search.findings.patterns (known_in search.findings).first_stop next.earlier_is added.folds;
        small = added.small;
      };
    }
