use Rattle.std.proofs.Common.{refl}
use Rattle.every_secret.proofs.laws.tables_have_rules.Goals as goal

pub returns : goal.returns
returns c = λ public. (
  λ operation operands answer is. is.0 refl,
  λ operation operands answer is. is.1 refl,
  λ operation operands answer is. is.2 refl,
)
