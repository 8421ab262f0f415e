use Rattle.std.proofs.Common.{rules}
use Rattle.transfer_rules.proofs.Spans.{some_differs}
use Rattle.transfer_rules.proofs.ranges.span.Goals as goal

pub overflow_shr-result : goal.overflow_shr-result
overflow_shr-result c = some_differs c.args.first c.args.second (search rules) (search rules) (search rules)
