-- A text against one that is wanted in front of it.
use Rattle.std.specs.Prelude.{ℕ, ◌==◌, List, [], ◌∷◌, Option, Some, None, if◌then◌else◌}

-- the rest after a wanted text
abbrev pub after_text : List ℕ → List ℕ → Option (List ℕ)
after_text [] bytes = Some bytes
after_text (first ∷ wanted) [] = None
after_text (first ∷ wanted) (byte ∷ bytes) = if first == byte then after_text wanted bytes else None
