-- A fact of what may be there.
use Rattle.std.proofs.Common.{Option, Some, None, IfSome}

pub some_weaker : {T : Type 0} (found : Option T) (P Q : T → Type 0) → ((t : T) → P t → Q t) → IfSome found P → IfSome found Q
some_weaker None P Q step fact = fact
some_weaker (Some t) P Q step fact = step t fact
