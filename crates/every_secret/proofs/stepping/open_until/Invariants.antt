use Rattle.std.proofs.Common.{take}
use Rattle.std.specs.List.{AllByRecursion}
use Rattle.every_secret.specs.Private.Searching.{IsDeep}
use Rattle.every_secret.proofs.stepping.open_until.Given as goal

abbrev pub invariant-loop-index : goal.invariant-loop-index
invariant-loop-index l = AllByRecursion (IsDeep l.turn) (take l.index l.opens)
