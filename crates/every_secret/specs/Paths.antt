-- The paths of a masked replay: the strings that it uses up, in order, 0 before 1 at each bit.
use Rattle.std.specs.Prelude.{ℕ, zero, suc, Bool, true, false, List, [], ◌∷◌, ◌++◌, map, Option, Some, None}
use Rattle.crossing_bits.specs.Askers.{Asker, Asks, Over}
use Rattle.every_secret.specs.declared.path_ends.PathEnd.{PathEnd}

-- a tree of bits: the end of a path, or what follows a 0 and what follows a 1
pub data Tree : Type 0 where
  Leaf : PathEnd → Tree
  Fork : Tree → Tree → Tree

-- a tree of so many bits, and after each string of them another
abbrev pub forks : ℕ → (List Bool → Tree) → Tree
forks zero next = next []
forks (suc count) next = Fork (forks count (λ bits. next (false ∷ bits))) (forks count (λ bits. next (true ∷ bits)))

-- the bits that are asked for
unfoldable pub tree_of : Asker PathEnd → Tree
tree_of (Over ends) = Leaf ends
tree_of (Asks count go) = forks count (λ bits. tree_of (go bits))

-- Path: a string that is used up, and how its walk ends
pub record Path : Type 0 where
  pub bits : List Bool
  pub ends : PathEnd

-- the path after a bit
abbrev pub behind : Bool → Path → Path
behind bit path = record { bits = bit ∷ path.bits; ends = path.ends }

-- all paths in order
unfoldable pub paths_of : Tree → List Path
paths_of (Leaf ends) = record { bits = []; ends = ends } ∷ []
paths_of (Fork first second) = map (behind false) (paths_of first) ++ map (behind true) (paths_of second)

abbrev pub Paths : Asker PathEnd → List Path
Paths asker = paths_of (tree_of asker)

-- a string does not go past the end of a path: some path begins with it
abbrev pub Opens : Tree → List Bool → Type 0
Opens (Leaf e) [] = Unit {0}
Opens (Leaf e) (bit ∷ bits) = ⊥
Opens (Fork first second) [] = Unit {0}
Opens (Fork first second) (false ∷ bits) = Opens first bits
Opens (Fork first second) (true ∷ bits) = Opens second bits

-- the string that is next in order: the last 0 becomes 1, and nothing stands after it
abbrev pub next_or : Bool → Option (List Bool) → Option (List Bool)
next_or bit (Some next) = Some (bit ∷ next)
next_or false None = Some (true ∷ [])
next_or true None = None

abbrev pub next_string : List Bool → Option (List Bool)
next_string [] = None
next_string (bit ∷ bits) = next_or bit (next_string bits)
