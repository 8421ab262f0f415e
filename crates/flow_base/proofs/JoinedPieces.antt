-- Two pieces that are put after a text are one.
use Rattle.std.proofs.Common.{◌≡◌, ℕ, List, ◌++◌, ap, ◌∙◌, append_assoc}

pub joins : (before first middle second after : List ℕ) → middle ≡ before ++ first → after ≡ middle ++ second →
    after ≡ before ++ (first ++ second)
joins before first middle second after e f =
    f ∙ ap (λ (l : List ℕ). l ++ second) e ∙ append_assoc before first second
