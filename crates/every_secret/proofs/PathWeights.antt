-- What the paths of a tree weigh: each as much as its pattern has outputs.
use Rattle.std.proofs.Common.{◌≡◌, ℕ, zero, suc, ◌+◌, ◌*◌, ◌^◌, ◌≤◌, List, [], ◌∷◌, ◌++◌, Bool, true, false, Some}
use Rattle.std.proofs.Common.{refl, ap, ap₂, subst, ◌∙◌, map, arith}
use Rattle.std.specs.List.{AllByRecursion}
use Rattle.std.proofs.Math.Nat.{pow-suc, mul_right_comm}
use Rattle.every_secret.specs.declared.path_ends.PathEnd.{PathEnd}
use Rattle.every_secret.specs.declared.path_ends.PathEnd.TheVariants.{Exits, Stops, Unclear}
use Rattle.every_secret.specs.Bounds.{free_bits}
use Rattle.every_secret.specs.Private.Orders.{Come, descend}
use Rattle.every_secret.specs.Paths.{Fork, Leaf, Path, Tree, behind, forks, paths_of}

abbrev pub end_weight : PathEnd → ℕ
end_weight (Exits pattern) = 2 ^ free_bits pattern
end_weight (Stops stop) = 0
end_weight (Unclear why) = 0

abbrev pub paths_weight : List Path → ℕ
paths_weight [] = 0
paths_weight (path ∷ paths) = end_weight path.ends + paths_weight paths

abbrev pub tree_weight : Tree → ℕ
tree_weight (Leaf e) = end_weight e
tree_weight (Fork first second) = tree_weight first + tree_weight second

-- ---- the paths of a tree

behind_weight : (bit : Bool) (paths : List Path) → paths_weight (map (behind bit) paths) ≡ paths_weight paths
behind_weight bit [] = refl
behind_weight bit (path ∷ paths) = ap (λ n. end_weight path.ends + n) (behind_weight bit paths)

append_weight : (first second : List Path) → paths_weight (first ++ second) ≡ paths_weight first + paths_weight second
append_weight [] second = omega arith
append_weight (path ∷ first) second = let rest = append_weight first second in omega (arith, rest)

pub weight_of_paths : (tree : Tree) → paths_weight (paths_of tree) ≡ tree_weight tree
unfolding paths_of
weight_of_paths (Leaf e) = omega arith
weight_of_paths (Fork first second) =
    append_weight (map (behind false) (paths_of first)) (map (behind true) (paths_of second))
    ∙ ap₂ (λ m n. m + n) (behind_weight false (paths_of first) ∙ weight_of_paths first)
    (behind_weight true (paths_of second) ∙ weight_of_paths second)

doubled : (count limit : ℕ) → 2 ^ suc count * limit ≡ 2 ^ count * limit + 2 ^ count * limit
doubled count limit =
    let whole : 2 ^ suc count * limit ≡ 2 ^ count * 2 * limit = ap (λ n. n * limit) (pow-suc 2 count) in
    let turned : 2 ^ count * 2 * limit ≡ 2 ^ count * limit * 2 = mul_right_comm (2 ^ count) 2 limit in
    omega (arith, whole, turned)

pub forks_weight : (count : ℕ) (next : List Bool → Tree) (limit : ℕ) →
    ((bits : List Bool) → tree_weight (next bits) ≤ limit) → tree_weight (forks count next) ≤ 2 ^ count * limit
forks_weight zero next limit each = let one = each [] in omega (arith, one)
forks_weight (suc count) next limit each =
    let first = forks_weight count (λ bits. next (false ∷ bits)) limit (λ bits. each (false ∷ bits)) in
    let second = forks_weight count (λ bits. next (true ∷ bits)) limit (λ bits. each (true ∷ bits)) in
    omega (arith, first, second, doubled count limit)

-- ---- a fact of each end

module _ (Fact : PathEnd → Type 0) where
  abbrev pub AllEnd : Tree → Type 0
  AllEnd (Leaf e) = Fact e
  AllEnd (Fork first second) = AllEnd first × AllEnd second

  abbrev pub PathsEnd : List Path → Type 0
  PathsEnd paths = AllByRecursion (λ path. Fact path.ends) paths

  behind_all : (bit : Bool) (paths : List Path) → PathsEnd paths → PathsEnd (map (behind bit) paths)
  behind_all bit [] all = tt
  behind_all bit (path ∷ paths) (one, all) = (one, behind_all bit paths all)

  all_behind : (bit : Bool) (paths : List Path) → PathsEnd (map (behind bit) paths) → PathsEnd paths
  all_behind bit [] all = tt
  all_behind bit (path ∷ paths) (one, all) = (one, all_behind bit paths all)

  join_all : (first second : List Path) → PathsEnd first → PathsEnd second → PathsEnd (first ++ second)
  join_all [] second one two = two
  join_all (path ∷ first) second (here, one) two = (here, join_all first second one two)

  part_all : (first second : List Path) → PathsEnd (first ++ second) → PathsEnd first × PathsEnd second
  part_all [] second all = (tt, all)
  part_all (path ∷ first) second (here, all) =
      let both = part_all first second all in ((here, both.0), both.1)

  pub paths_from_ends : (tree : Tree) → AllEnd tree → PathsEnd (paths_of tree)
  unfolding paths_of
  paths_from_ends (Leaf e) one = (one, tt)
  paths_from_ends (Fork first second) (one, two) =
      join_all (map (behind false) (paths_of first)) (map (behind true) (paths_of second))
      (behind_all false (paths_of first) (paths_from_ends first one))
      (behind_all true (paths_of second) (paths_from_ends second two))

  pub ends_from_paths : (tree : Tree) → PathsEnd (paths_of tree) → AllEnd tree
  unfolding paths_of
  ends_from_paths (Leaf e) all = all.0
  ends_from_paths (Fork first second) all =
      let both = part_all (map (behind false) (paths_of first)) (map (behind true) (paths_of second)) all in (
        ends_from_paths first (all_behind false (paths_of first) both.0),
        ends_from_paths second (all_behind true (paths_of second) both.1),
      )

  pub forks_all : (count : ℕ) (next : List Bool → Tree) → ((bits : List Bool) → AllEnd (next bits)) →
      AllEnd (forks count next)
  forks_all zero next each = each []
  forks_all (suc count) next each = (
    forks_all count (λ bits. next (false ∷ bits)) (λ bits. each (false ∷ bits)),
    forks_all count (λ bits. next (true ∷ bits)) (λ bits. each (true ∷ bits)),
  )

  pub end_at : (tree : Tree) (bits : List Bool) (come : Come) → AllEnd tree → descend tree bits ≡ Some come →
      Fact come.ends
  end_at (Leaf e) bits come all comes =
      let same : (record { ends = e; rest = bits }) ≡ come = cc in subst (λ (c : Come). Fact c.ends) same all
  end_at (Fork first second) [] come all comes = absurd (cc)
  end_at (Fork first second) (false ∷ bits) come all comes = end_at first bits come all.0 comes
  end_at (Fork first second) (true ∷ bits) come all comes = end_at second bits come all.1 comes
