-- The side of what a search has found.
use Rattle.std.specs.Prelude.{ℕ, zero, suc, ◌+◌, ◌*◌, ◌++◌, ◌∷◌, [], List, Bool}
use Rattle.max_flow.specs.declared.answers.Half.{Half}
use Rattle.max_flow.specs.Flows.{has_first, has_second}
use Rattle.max_flow.specs.Private.Searching.{is_found}

-- for each half, in the order of the nodes, whether it is in the side
abbrev pub marks : List Half → List Bool
marks [] = []
marks (half ∷ halves) = has_first half ∷ has_second half ∷ marks halves

-- for each half of the first n points, in the order of the nodes, whether it is found
unfoldable pub found_marks : List ℕ → ℕ → List Bool
found_marks places zero = []
found_marks places (suc n) = found_marks places n ++ (is_found places (2 + 2 * n) ∷ is_found places (3 + 2 * n) ∷ [])
