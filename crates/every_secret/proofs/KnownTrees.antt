-- From a string to the next: the paths between, what is known of them, and how many they are.
use Rattle.std.proofs.Common.{◌≡◌, ℕ, ◌+◌, ◌<◌, List, [], ◌∷◌, ◌++◌, Bool, Some, None}
use Rattle.std.proofs.Common.{sym, ap, ◌∙◌, subst, length, map, arith, append_assoc, append-nil, length-append}
use Rattle.std.specs.List.{AllByRecursion}
use Rattle.crossing_bits.specs.Askers.{Asker, Fed', feed}
use Rattle.every_secret.specs.declared.path_ends.PathEnd.{PathEnd}
use Rattle.every_secret.specs.Bounds.{Found}
use Rattle.every_secret.specs.Paths.{Leaf, Opens, Path, Paths, Tree, next_string, paths_of, tree_of}
use Rattle.every_secret.specs.Private.Folding.{IsKnown, stops_in}
use Rattle.every_secret.specs.Private.Orders.{earlier, past, under}
use Rattle.every_secret.proofs.EarlierPaths.{join_all, leads_to, leads_to_end, parts_at, paths_to_last, reaches_next, some_path}
use Rattle.every_secret.proofs.FoldedPaths.{known_past, length_past, stops_append, stops_past}

-- ---- where an asker is led by a string to another

module _ (asker other : Asker PathEnd) (bits : List Bool)
    (leads : (rest : List Bool) → feed asker (bits ++ rest) ≡ feed other rest) where
  pub led_next : (next : List Bool) → next_string bits ≡ Some next →
      (earlier (tree_of asker) next ≡ earlier (tree_of asker) bits ++ map (past bits) (Paths other))
      × Opens (tree_of asker) next
  led_next next is =
      let at = leads_to asker other bits leads in
      let reached = reaches_next (tree_of asker) bits next at.0 is in (
        reached.earlier_is
            ∙ ap (λ tree. earlier (tree_of asker) bits ++ map (past bits) (paths_of tree)) at.1,
        reached.opens,
      )

  pub led_last : next_string bits ≡ None →
      Paths asker ≡ earlier (tree_of asker) bits ++ map (past bits) (Paths other)
  led_last none =
      let at = leads_to asker other bits leads in
      paths_to_last (tree_of asker) bits at.0 none
      ∙ ap (λ tree. earlier (tree_of asker) bits ++ map (past bits) (paths_of tree)) at.1

-- ---- where it uses the string up

abbrev pub path_at : List Bool → PathEnd → Path
path_at bits ends = record { bits = bits; ends = ends }

past_end : (tree : Tree) (bits : List Bool) (ends : PathEnd) → tree ≡ Leaf ends →
    map (past bits) (paths_of tree) ≡ path_at bits ends ∷ []
unfolding paths_of
past_end tree bits ends is =
    ap (λ t. map (past bits) (paths_of t)) is ∙ ap (λ s. path_at s ends ∷ []) (append-nil bits)

module _ (asker : Asker PathEnd) (bits : List Bool) (ends : PathEnd) (uses : feed asker bits ≡ Fed' ends []) where
  pub end_next : (next : List Bool) → next_string bits ≡ Some next →
      (earlier (tree_of asker) next ≡ earlier (tree_of asker) bits ++ path_at bits ends ∷ [])
      × Opens (tree_of asker) next
  end_next next is =
      let at = leads_to_end asker bits ends uses in
      let reached = reaches_next (tree_of asker) bits next at.0 is in (
        reached.earlier_is
            ∙ ap (λ ps. earlier (tree_of asker) bits ++ ps) (past_end (under (tree_of asker) bits) bits ends at.1),
        reached.opens,
      )

  pub end_last : next_string bits ≡ None → Paths asker ≡ earlier (tree_of asker) bits ++ path_at bits ends ∷ []
  end_last none =
      let at = leads_to_end asker bits ends uses in
      paths_to_last (tree_of asker) bits at.0 none
      ∙ ap (λ ps. earlier (tree_of asker) bits ++ ps) (past_end (under (tree_of asker) bits) bits ends at.1)

  -- whatever is next
  pub end_among : (rest : List Path) × (Paths asker ≡ earlier (tree_of asker) bits ++ path_at bits ends ∷ rest)
  end_among =
      let at = leads_to_end asker bits ends uses in
      let parts = parts_at (tree_of asker) bits at.0 in (
        parts.rest,
        parts.paths_are
            ∙ (ap (λ ps. (earlier (tree_of asker) bits ++ ps) ++ parts.rest)
            (past_end (under (tree_of asker) bits) bits ends at.1)
            ∙ append_assoc (earlier (tree_of asker) bits) (path_at bits ends ∷ []) parts.rest),
      )

-- before a string with which a path begins there are not all paths
pub earlier_fewer : (tree : Tree) (bits : List Bool) → Opens tree bits →
    length (earlier tree bits) < length (paths_of tree)
earlier_fewer tree bits opens =
    let parts = parts_at tree bits opens in
    let here : List Path = map (past bits) (paths_of (under tree bits)) in
    let whole : length (paths_of tree) ≡ length ((earlier tree bits ++ here) ++ parts.rest) =
    ap (λ ps. length {A = Path} ps) parts.paths_are in
    let outer = length-append (earlier tree bits ++ here) parts.rest in
    let inner = length-append (earlier tree bits) here in
    let same = length_past bits (paths_of (under tree bits)) in
    let some = some_path (under tree bits) in
    omega (arith, whole, outer, inner, same, some)

-- ---- what is known of the paths of a tree as far as a string has come

-- these paths are known, and so many, of which so many stop
pub record Knows (found : Found) (paths : List Path) (count stopped : ℕ) : Type 0 where
  pub known : AllByRecursion (IsKnown found) paths
  pub counts : length paths ≡ count
  pub stops : stops_in paths ≡ stopped

knows_join : (found : Found) (bits : List Bool) (all before here : List Path) (count stopped more others : ℕ) →
    all ≡ before ++ map (past bits) here → Knows found before count stopped → Knows found here more others →
    Knows found all (count + more) (stopped + others)
knows_join found bits all before here count stopped more others is one two =
    let long = length-append before (map (past bits) here) in
    let same = length_past bits here in
    let first = one.counts in
    let second = two.counts in
    let both = stops_append before (map (past bits) here) in
    let alike = stops_past bits here in
    let left = one.stops in
    let right = two.stops in
    subst (λ ps. Knows found ps (count + more) (stopped + others)) (sym is) (record {
      known = join_all (IsKnown found) before (map (past bits) here) one.known
          (known_past found bits here two.known);
      counts = omega (arith, long, same, first, second);
      stops = omega (arith, both, alike, left, right);
    })

pub knows_next : (found : Found) (tree : Tree) (bits next : List Bool) (count stopped more others : ℕ) →
    Opens tree bits → next_string bits ≡ Some next → Knows found (earlier tree bits) count stopped →
    Knows found (paths_of (under tree bits)) more others →
    Knows found (earlier tree next) (count + more) (stopped + others)
knows_next found tree bits next count stopped more others opens is one two =
    let reached = reaches_next tree bits next opens is in
    knows_join found bits (earlier tree next) (earlier tree bits) (paths_of (under tree bits)) count stopped more others
    reached.earlier_is one two

pub knows_last : (found : Found) (tree : Tree) (bits : List Bool) (count stopped more others : ℕ) →
    Opens tree bits → next_string bits ≡ None → Knows found (earlier tree bits) count stopped →
    Knows found (paths_of (under tree bits)) more others →
    Knows found (paths_of tree) (count + more) (stopped + others)
knows_last found tree bits count stopped more others opens none one two =
    knows_join found bits (paths_of tree) (earlier tree bits) (paths_of (under tree bits)) count stopped more others
    (paths_to_last tree bits opens none) one two
