-- Where a string stands in a tree of paths.
use Rattle.std.specs.Prelude.{◌≡◌, List, [], ◌∷◌, ◌++◌, Bool, true, false, Option, Some, None, map}
use Rattle.every_secret.specs.declared.path_ends.PathEnd.{PathEnd}
use Rattle.every_secret.specs.Paths.{Fork, Leaf, Path, Tree, behind, paths_of}

-- the end that a string comes to in a tree, and what is left of it
pub record Come : Type 0 where
  pub ends : PathEnd
  pub rest : List Bool

abbrev pub descend : Tree → List Bool → Option Come
descend (Leaf e) bits = Some (record { ends = e; rest = bits })
descend (Fork first second) [] = None
descend (Fork first second) (false ∷ bits) = descend first bits
descend (Fork first second) (true ∷ bits) = descend second bits

-- the first path that begins with a string
abbrev pub first_from : Tree → List Bool → Path
first_from (Leaf e) bits = record { bits = []; ends = e }
first_from (Fork first second) [] = behind false (first_from first [])
first_from (Fork first second) (false ∷ bits) = behind false (first_from first bits)
first_from (Fork first second) (true ∷ bits) = behind true (first_from second bits)

-- the paths after the path of this string
abbrev pub later : Tree → List Bool → List Path
later (Leaf e) bits = []
later (Fork first second) [] = []
later (Fork first second) (false ∷ bits) = map (behind false) (later first bits) ++ map (behind true) (paths_of second)
later (Fork first second) (true ∷ bits) = map (behind true) (later second bits)

-- the paths before the first that begins with a string
abbrev pub earlier : Tree → List Bool → List Path
earlier (Leaf e) bits = []
earlier (Fork first second) [] = []
earlier (Fork first second) (false ∷ bits) = map (behind false) (earlier first bits)
earlier (Fork first second) (true ∷ bits) = map (behind false) (paths_of first) ++ map (behind true) (earlier second bits)

-- what is below a string
abbrev pub under : Tree → List Bool → Tree
under (Leaf e) bits = Leaf e
under (Fork first second) [] = Fork first second
under (Fork first second) (false ∷ bits) = under first bits
under (Fork first second) (true ∷ bits) = under second bits

-- a path after a string
abbrev pub past : List Bool → Path → Path
past before path = record { bits = before ++ path.bits; ends = path.ends }

-- whatever the tree is, the same paths are before both strings
abbrev pub SameBefore : List Bool → List Bool → Type 0
SameBefore first second = (tree : Tree) → earlier tree first ≡ earlier tree second
