use Rattle.std.proofs.Common.{◌≡◌, drop}
use Rattle.flow_base.specs.MemorySink.{fail_of}
use Rattle.flow_base.proofs.memory_sink.fail_at.Given as goal

abbrev pub invariant-loop-fail : goal.invariant-loop-fail
invariant-loop-fail l = fail_of (drop l.fail-index l.fails) l.call ≡ fail_of l.fails l.call
