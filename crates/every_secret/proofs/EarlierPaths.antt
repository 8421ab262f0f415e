-- A tree of paths, by the strings that its askers use up, and the paths before a string.
use Rattle.std.proofs.Common.{◌≡◌, ℕ, zero, suc, ◌≤◌, ◌<◌, ◌++◌, List, [], ◌∷◌, Bool, true, false, Option, Some, None}
use Rattle.std.proofs.Common.{refl, sym, ap, ap₂, ◌∙◌, subst, drop, take, length, map, replicate, arith, inl, inr}
use Rattle.std.proofs.Common.{append_assoc, append-nil}
use Rattle.std.specs.List.{AllByRecursion}
use Rattle.std.proofs.lemmas.List.{map-append}
use Rattle.crossing_bits.specs.Askers.{Asker, Asks, Fed, Fed', Over, Short, feed}
use Rattle.crossing_bits.proofs.Feeding.{feed_enough, feed_few, feed_more, le_or_lt}
use Rattle.every_secret.specs.declared.path_ends.PathEnd.{PathEnd}
use Rattle.every_secret.specs.Private.Orders.{SameBefore, Come, descend, earlier, first_from, later, past, under}
use Rattle.every_secret.specs.Paths.{Fork, Leaf, Opens, Path, Tree, behind, forks, next_or, next_string, paths_of, tree_of}
use Rattle.every_secret.proofs.Trees.{first_later, forks_descend, opens_none}

-- ---- a tree and what strings come to in it

-- what a string comes to
abbrev pub come_of : Fed PathEnd → Option Come
come_of (Fed' ends rest) = Some (record { ends = ends; rest = rest })
come_of (Short count) = None

forks_short : (count : ℕ) (next : List Bool → Tree) (bits : List Bool) → length bits < count →
    descend (forks count next) bits ≡ None
forks_short zero next bits few = absurd (omega (arith, few))
forks_short (suc count) next [] few = refl
forks_short (suc count) next (false ∷ bits) few =
    forks_short count (λ more. next (false ∷ more)) bits (omega (arith, few))
forks_short (suc count) next (true ∷ bits) few =
    forks_short count (λ more. next (true ∷ more)) bits (omega (arith, few))

-- a string comes to the same in the tree of an asker as in the asker
pub descend_is : (asker : Asker PathEnd) (bits : List Bool) → descend (tree_of asker) bits ≡ come_of (feed asker bits)
unfolding tree_of
descend_is (Over ends) bits = refl
descend_is (Asks count go) bits = elim (le_or_lt count (length bits)) [
  | inl enough ↦
      forks_descend count (λ more. tree_of (go more)) bits enough
      ∙ (descend_is (go (take count bits)) (drop count bits)
      ∙ ap (λ fed. come_of fed) (sym (feed_enough count go bits enough)))
  | inr few ↦
      forks_short count (λ more. tree_of (go more)) bits few
      ∙ ap (λ fed. come_of fed) (sym (feed_few count go bits few))
]

-- an asker is over with a string that comes to an end in its tree
pub fed_from_tree : (asker : Asker PathEnd) (bits : List Bool) (come : Come) →
    descend (tree_of asker) bits ≡ Some come → feed asker bits ≡ Fed' come.ends come.rest
fed_from_tree asker bits come comes = by (feed asker bits) refl (sym (descend_is asker bits) ∙ comes)
  where
    by : (fed : Fed PathEnd) → feed asker bits ≡ fed → come_of fed ≡ Some come →
        feed asker bits ≡ Fed' come.ends come.rest
    by (Fed' ends rest) is h =
        let same : (record { ends = ends; rest = rest }) ≡ come = cc in
        is ∙ ap (λ (c : Come). Fed' c.ends c.rest) same
    by (Short count) is h = absurd (cc)

-- ---- facts of the paths of a tree

module _ (Fact : Path → Type 0) where
  all_behind : (bit : Bool) (paths : List Path) → AllByRecursion Fact (map (behind bit) paths) →
      AllByRecursion (λ path. Fact (behind bit path)) paths
  all_behind bit [] all = tt
  all_behind bit (path ∷ paths) (one, all) = (one, all_behind bit paths all)

  behind_all : (bit : Bool) (paths : List Path) → AllByRecursion (λ path. Fact (behind bit path)) paths →
      AllByRecursion Fact (map (behind bit) paths)
  behind_all bit [] all = tt
  behind_all bit (path ∷ paths) (one, all) = (one, behind_all bit paths all)

  pub join_all : (first second : List Path) → AllByRecursion Fact first → AllByRecursion Fact second →
      AllByRecursion Fact (first ++ second)
  join_all [] second one two = two
  join_all (path ∷ first) second (here, one) two = (here, join_all first second one two)

  pub part_all : (first second : List Path) → AllByRecursion Fact (first ++ second) →
      AllByRecursion Fact first × AllByRecursion Fact second
  part_all [] second all = (tt, all)
  part_all (path ∷ first) second (here, all) = let both = part_all first second all in ((here, both.0), both.1)

pub weaken_all : (Fact Other : Path → Type 0) → ((path : Path) → Fact path → Other path) → (paths : List Path) →
    AllByRecursion Fact paths → AllByRecursion Other paths
weaken_all Fact Other each [] all = tt
weaken_all Fact Other each (path ∷ paths) (one, all) = (each path one, weaken_all Fact Other each paths all)

-- the string of a path comes to its end in a tree
abbrev pub IsPathOf : Tree → Path → Type 0
IsPathOf tree path = descend tree path.bits ≡ Some (record { ends = path.ends; rest = [] })

-- a tree is known by the paths of another that come to their ends in it
trees_alike : (tree other : Tree) → AllByRecursion (IsPathOf tree) (paths_of other) → tree ≡ other
unfolding paths_of
trees_alike (Leaf x) (Leaf e) (one, all) =
    let same : (record { ends = x; rest = [] }) ≡ (record { ends = e; rest = [] }) = cc in
    ap (λ (c : Come). Leaf c.ends) same
trees_alike (Fork first second) (Leaf e) (one, all) = absurd (cc)
trees_alike (Leaf x) (Fork first second) all =
    let both = part_all (IsPathOf (Leaf x)) (map (behind false) (paths_of first)) (map (behind true) (paths_of second))
    all in
    let left : AllByRecursion (IsPathOf (Leaf x))
    (behind false (first_from first []) ∷ map (behind false) (later first (first_from first []).bits)) =
    subst (λ ps. AllByRecursion (IsPathOf (Leaf x)) (map (behind false) ps)) (first_later first) both.0 in
    let one : Come = record { ends = x; rest = false ∷ (first_from first []).bits } in
    let two : Come = record { ends = (first_from first []).ends; rest = [] } in
    let here : Some one ≡ Some two = left.0 in
    let same : one ≡ two = cc in
    let none : false ∷ (first_from first []).bits ≡ [] = ap (λ (c : Come). c.rest) same in
    absurd (cc)
trees_alike (Fork first second) (Fork left right) all =
    let both = part_all (IsPathOf (Fork first second)) (map (behind false) (paths_of left))
    (map (behind true) (paths_of right)) all in
    ap₂ (λ a b. Fork a b)
    (trees_alike first left (all_behind (IsPathOf (Fork first second)) false (paths_of left) both.0))
    (trees_alike second right (all_behind (IsPathOf (Fork first second)) true (paths_of right) both.1))

-- each path of a tree comes to its end in it
pub own_paths : (tree : Tree) → AllByRecursion (IsPathOf tree) (paths_of tree)
unfolding paths_of
own_paths (Leaf e) = (refl, tt)
own_paths (Fork first second) =
    join_all (IsPathOf (Fork first second)) (map (behind false) (paths_of first)) (map (behind true) (paths_of second))
    (behind_all (IsPathOf (Fork first second)) false (paths_of first) (own_paths first))
    (behind_all (IsPathOf (Fork first second)) true (paths_of second) (own_paths second))

-- an asker uses the string of a path up, and comes to its end
abbrev pub IsFedPath : Asker PathEnd → Path → Type 0
IsFedPath asker path = feed asker path.bits ≡ Fed' path.ends []

-- the tree of an asker is known by paths that it uses up
pub same_tree : (asker : Asker PathEnd) (tree : Tree) →
    AllByRecursion (λ path. feed asker path.bits ≡ Fed' path.ends []) (paths_of tree) → tree_of asker ≡ tree
same_tree asker tree all =
    trees_alike (tree_of asker) tree
    (weaken_all (IsFedPath asker) (IsPathOf (tree_of asker))
    (λ path fed. descend_is asker path.bits ∙ ap (λ fed. come_of fed) fed) (paths_of tree) all)

-- each path of its tree is used up
pub fed_paths : (asker : Asker PathEnd) →
    AllByRecursion (λ path. feed asker path.bits ≡ Fed' path.ends []) (paths_of (tree_of asker))
fed_paths asker =
    weaken_all (IsPathOf (tree_of asker)) (IsFedPath asker)
    (λ path comes. fed_from_tree asker path.bits (record { ends = path.ends; rest = [] }) comes)
    (paths_of (tree_of asker)) (own_paths (tree_of asker))

-- ---- what is below a string

pub under_none : (tree : Tree) → under tree [] ≡ tree
under_none (Leaf e) = refl
under_none (Fork first second) = refl

-- trees in which all strings come to the same are the same
trees_same : (tree other : Tree) → ((bits : List Bool) → descend tree bits ≡ descend other bits) → tree ≡ other
trees_same (Leaf x) (Leaf y) h =
    let one : Come = record { ends = x; rest = [] } in
    let two : Come = record { ends = y; rest = [] } in
    let at : Some one ≡ Some two = h [] in
    let same : one ≡ two = cc in
    ap (λ (c : Come). Leaf c.ends) same
trees_same (Leaf x) (Fork first second) h =
    let one : Come = record { ends = x; rest = [] } in let at : Some one ≡ None = h [] in absurd (cc at)
trees_same (Fork first second) (Leaf x) h =
    let one : Come = record { ends = x; rest = [] } in let at : None ≡ Some one = h [] in absurd (cc at)
trees_same (Fork first second) (Fork left right) h =
    ap₂ (λ a b. Fork a b) (trees_same first left (λ bits. h (false ∷ bits)))
    (trees_same second right (λ bits. h (true ∷ bits)))

no_leaf : (x : PathEnd) (bits : List Bool) (bit : Bool) (other : Tree) →
    Some (record { ends = x; rest = bit ∷ bits }) ≡ descend other [] → ⊥
no_leaf x bits bit (Leaf y) h =
    let one : Come = record { ends = x; rest = bit ∷ bits } in
    let two : Come = record { ends = y; rest = [] } in
    let at : Some one ≡ Some two = h in
    let same : one ≡ two = cc in
    let none : bit ∷ bits ≡ [] = ap (λ (c : Come). c.rest) same in
    absurd (cc)
no_leaf x bits bit (Fork first second) h = absurd (cc)

leads_under : (tree other : Tree) (bits : List Bool) →
    ((rest : List Bool) → descend tree (bits ++ rest) ≡ descend other rest) →
    Opens tree bits × (under tree bits ≡ other)
leads_under tree other [] h = (opens_none tree, under_none tree ∙ trees_same tree other h)
leads_under (Leaf x) other (bit ∷ bits) h = absurd (no_leaf x (bits ++ []) bit other (h []))
leads_under (Fork first second) other (false ∷ bits) h = leads_under first other bits h
leads_under (Fork first second) other (true ∷ bits) h = leads_under second other bits h

-- where an asker is led by a string to another, the other's tree is below the string
pub leads_to : (asker other : Asker PathEnd) (bits : List Bool) →
    ((rest : List Bool) → feed asker (bits ++ rest) ≡ feed other rest) →
    Opens (tree_of asker) bits × (under (tree_of asker) bits ≡ tree_of other)
leads_to asker other bits h =
    leads_under (tree_of asker) (tree_of other) bits
    (λ rest. descend_is asker (bits ++ rest) ∙ (ap (λ fed. come_of fed) (h rest) ∙ sym (descend_is other rest)))

-- and below a string that it uses up nothing more is asked for
pub leads_to_end : (asker : Asker PathEnd) (bits : List Bool) (ends : PathEnd) → feed asker bits ≡ Fed' ends [] →
    Opens (tree_of asker) bits × (under (tree_of asker) bits ≡ Leaf ends)
unfolding tree_of
leads_to_end asker bits ends fed =
    leads_to asker (Over ends) bits (λ rest. feed_more asker bits rest ends [] fed)

-- ---- the paths before a string

pub earlier_none : (tree : Tree) → earlier tree [] ≡ []
earlier_none (Leaf e) = refl
earlier_none (Fork first second) = refl

earlier_zeros : (tree : Tree) (count : ℕ) → earlier tree (replicate count false) ≡ []
earlier_zeros (Leaf e) count = refl
earlier_zeros (Fork first second) zero = refl
earlier_zeros (Fork first second) (suc count) = ap (λ ps. map (behind false) ps) (earlier_zeros first count)

-- they are those before the string with zeros after it
pub earlier_lengthened : (tree : Tree) (bits : List Bool) (count : ℕ) →
    earlier tree (bits ++ replicate count false) ≡ earlier tree bits
earlier_lengthened (Leaf e) bits count = refl
earlier_lengthened (Fork first second) [] count = earlier_zeros (Fork first second) count
earlier_lengthened (Fork first second) (false ∷ bits) count =
    ap (λ ps. map (behind false) ps) (earlier_lengthened first bits count)
earlier_lengthened (Fork first second) (true ∷ bits) count =
    ap (λ ps. map (behind false) (paths_of first) ++ map (behind true) ps) (earlier_lengthened second bits count)

pub same_before : (before after : List Bool) (count : ℕ) → after ≡ before ++ replicate count false →
    SameBefore after before
same_before before after count is = λ tree.
    ap (λ s. earlier tree s) is ∙ earlier_lengthened tree before count

pub past_none : (paths : List Path) → map (past []) paths ≡ paths
past_none [] = refl
past_none (path ∷ paths) = ap (λ ps. path ∷ ps) (past_none paths)

pub behind_past : (bit : Bool) (bits : List Bool) (paths : List Path) →
    map (behind bit) (map (past bits) paths) ≡ map (past (bit ∷ bits)) paths
behind_past bit bits [] = refl
behind_past bit bits (path ∷ paths) = ap (λ ps. past (bit ∷ bits) path ∷ ps) (behind_past bit bits paths)

behind_parts : (bit : Bool) (bits : List Bool) (all before paths : List Path) → all ≡ before ++ map (past bits) paths →
    map (behind bit) all ≡ map (behind bit) before ++ map (past (bit ∷ bits)) paths
behind_parts bit bits all before paths is =
    ap (λ ps. map (behind bit) ps) is
    ∙ (map-append (behind bit) before (map (past bits) paths)
    ∙ ap (λ ps. map (behind bit) before ++ ps) (behind_past bit bits paths))

second_parts : (bits : List Bool) (first all before paths : List Path) → all ≡ before ++ map (past bits) paths →
    first ++ map (behind true) all ≡ (first ++ map (behind true) before) ++ map (past (true ∷ bits)) paths
second_parts bits first all before paths is =
    ap (λ ps. first ++ ps) (behind_parts true bits all before paths is)
    ∙ sym (append_assoc first (map (behind true) before) (map (past (true ∷ bits)) paths))

-- all paths, where no string is next
pub paths_to_last : (tree : Tree) (bits : List Bool) → Opens tree bits → next_string bits ≡ None →
    paths_of tree ≡ earlier tree bits ++ map (past bits) (paths_of (under tree bits))
unfolding paths_of
paths_to_last (Leaf e) [] opens none = refl
paths_to_last (Leaf e) (bit ∷ bits) opens none = absurd opens
paths_to_last (Fork first second) [] opens none =
    sym (past_none (map (behind false) (paths_of first) ++ map (behind true) (paths_of second)))
paths_to_last (Fork first second) (false ∷ bits) opens none = absurd (by (next_string bits) none)
  where
    by : (next : Option (List Bool)) → next_or false next ≡ None → ⊥
    by None h = absurd (cc)
    by (Some next) h = absurd (cc)
paths_to_last (Fork first second) (true ∷ bits) opens none =
    by (next_string bits) refl none (λ is. paths_to_last second bits opens is)
  where
    by : (next : Option (List Bool)) → next_string bits ≡ next → next_or true next ≡ None →
        (next_string bits ≡ None →
        paths_of second ≡ earlier second bits ++ map (past bits) (paths_of (under second bits))) →
        map (behind false) (paths_of first) ++ map (behind true) (paths_of second)
        ≡ earlier (Fork first second) (true ∷ bits) ++ map (past (true ∷ bits)) (paths_of (under second bits))
    by None is h inner =
        second_parts bits (map (behind false) (paths_of first)) (paths_of second) (earlier second bits)
        (paths_of (under second bits)) (inner is)
    by (Some next) is h inner = absurd (cc)

-- all paths: those before a string, those that begin with it, and others after them
pub record Parts (tree : Tree) (bits : List Bool) : Type 0 where
  pub rest : List Path
  pub paths_are : paths_of tree ≡ (earlier tree bits ++ map (past bits) (paths_of (under tree bits))) ++ rest

pub parts_at : (tree : Tree) (bits : List Bool) → Opens tree bits → Parts tree bits
unfolding paths_of
parts_at (Leaf e) [] opens = record { rest = []; paths_are = refl }
parts_at (Leaf e) (bit ∷ bits) opens = absurd opens
parts_at (Fork first second) [] opens =
    let all = map (behind false) (paths_of first) ++ map (behind true) (paths_of second) in record {
      rest = [];
      paths_are = sym (append-nil (map (past []) all) ∙ past_none all);
    }
parts_at (Fork first second) (false ∷ bits) opens =
    let inner = parts_at first bits opens in
    let before : List Path = earlier first bits in
    let here : List Path = paths_of (under first bits) in record {
      rest = map (behind false) inner.rest ++ map (behind true) (paths_of second);
      paths_are = ap (λ ps. map (behind false) ps ++ map (behind true) (paths_of second)) inner.paths_are
          ∙ (ap (λ ps. ps ++ map (behind true) (paths_of second))
          (map-append (behind false) (before ++ map (past bits) here) inner.rest
          ∙ ap (λ ps. ps ++ map (behind false) inner.rest)
          (behind_parts false bits (before ++ map (past bits) here) before here refl))
          ∙ append_assoc (map (behind false) before ++ map (past (false ∷ bits)) here)
          (map (behind false) inner.rest) (map (behind true) (paths_of second)));
    }
parts_at (Fork first second) (true ∷ bits) opens =
    let inner = parts_at second bits opens in
    let before : List Path = earlier second bits in
    let here : List Path = paths_of (under second bits) in
    let left : List Path = map (behind false) (paths_of first) in record {
      rest = map (behind true) inner.rest;
      paths_are = ap (λ ps. left ++ map (behind true) ps) inner.paths_are
          ∙ (ap (λ ps. left ++ ps) (map-append (behind true) (before ++ map (past bits) here) inner.rest)
          ∙ (sym (append_assoc left (map (behind true) (before ++ map (past bits) here)) (map (behind true) inner.rest))
          ∙ ap (λ ps. ps ++ map (behind true) inner.rest)
          (second_parts bits left (before ++ map (past bits) here) before here refl)));
    }

-- a tree has a path
pub some_path : (tree : Tree) → 1 ≤ length (paths_of tree)
some_path tree =
    subst (λ ps. 1 ≤ length {A = Path} ps) (sym (first_later tree)) (omega arith)

-- the paths before the next string are those before this one and those that begin with it
pub record Reaches (tree : Tree) (bits next : List Bool) : Type 0 where
  pub earlier_is : earlier tree next ≡ earlier tree bits ++ map (past bits) (paths_of (under tree bits))
  pub opens : Opens tree next

pub reaches_next : (tree : Tree) (bits next : List Bool) → Opens tree bits → next_string bits ≡ Some next →
    Reaches tree bits next
reaches_next (Leaf x) [] next opens is = absurd (cc)
reaches_next (Leaf x) (bit ∷ bits) next opens is = absurd opens
reaches_next (Fork first second) [] next opens is = absurd (cc)
reaches_next (Fork first second) (false ∷ bits) next opens is =
    by (next_string bits) refl is (λ more at. reaches_next first bits more opens at)
  where
    by : (found : Option (List Bool)) → next_string bits ≡ found → next_or false found ≡ Some next →
        ((more : List Bool) → next_string bits ≡ Some more → Reaches first bits more) →
        Reaches (Fork first second) (false ∷ bits) next
    by (Some more) at h goes =
        let same : false ∷ more ≡ next = cc in
        let inner = goes more at in
        subst (λ n. Reaches (Fork first second) (false ∷ bits) n) same (record {
          opens = inner.opens;
          earlier_is = behind_parts false bits (earlier first more) (earlier first bits)
              (paths_of (under first bits)) inner.earlier_is;
        })
    by None at h goes =
        let same : true ∷ [] ≡ next = cc in
        subst (λ n. Reaches (Fork first second) (false ∷ bits) n) same (record {
          opens = opens_none second;
          earlier_is = ap (λ ps. map (behind false) (paths_of first) ++ map (behind true) ps) (earlier_none second)
              ∙ (append-nil (map (behind false) (paths_of first))
              ∙ behind_parts false bits (paths_of first) (earlier first bits) (paths_of (under first bits))
              (paths_to_last first bits opens at));
        })
reaches_next (Fork first second) (true ∷ bits) next opens is =
    by (next_string bits) refl is (λ more at. reaches_next second bits more opens at)
  where
    by : (found : Option (List Bool)) → next_string bits ≡ found → next_or true found ≡ Some next →
        ((more : List Bool) → next_string bits ≡ Some more → Reaches second bits more) →
        Reaches (Fork first second) (true ∷ bits) next
    by (Some more) at h goes =
        let same : true ∷ more ≡ next = cc in
        let inner = goes more at in
        subst (λ n. Reaches (Fork first second) (true ∷ bits) n) same (record {
          opens = inner.opens;
          earlier_is = second_parts bits (map (behind false) (paths_of first)) (earlier second more)
              (earlier second bits) (paths_of (under second bits)) inner.earlier_is;
        })
    by None at h goes = absurd (cc)
