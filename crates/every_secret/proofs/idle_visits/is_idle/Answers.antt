use Rattle.std.proofs.Common.{refl}
use Rattle.every_secret.proofs.idle_visits.is_idle.Goals as goal

pub returns : goal.returns
returns c = λ yes. record {
  unseen = c.is_unseen.ensures c.if-not-is_unseen.false;
  aim = c.is_settled_aim.ensures c.args.held c.if-not-is_settled_aim.false;
  unmarked = λ visit. c.is_marked.ensures c.if-is_marked.false c.args.passing.now.point visit refl;
  sources = c.are_clean.ensures yes;
}
