-- Numbers that stand in a list.
use Rattle.std.specs.Prelude.{ℕ, ◌==◌, Bool, List}
use Rattle.std.specs.List.{list_any}

-- a number stands in a list
abbrev pub is_listed : List ℕ → ℕ → Bool
is_listed numbers number = list_any (λ other. other == number) numbers
