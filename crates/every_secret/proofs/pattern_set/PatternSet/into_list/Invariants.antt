use Rattle.std.proofs.Common.{◌≡◌, ◌++◌, map}
use Rattle.every_secret.specs.Private.KeptPatterns.{pattern_of}
use Rattle.every_secret.proofs.pattern_set.PatternSet.into_list.Given as goal

abbrev pub invariant-loop-kept : goal.invariant-loop-kept
invariant-loop-kept l = l.patterns.items ++ map pattern_of l.kept-iterator ≡ l.fn.self
