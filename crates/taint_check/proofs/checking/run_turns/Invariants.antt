use Rattle.std.proofs.Common.{◌≡◌, ℕ, List}
use Rattle.lockstep_replay.specs.Tasks.{Task, Limits}
use Rattle.taint_check.specs.Private.Tapes.{tape_of}
use Rattle.taint_check.specs.Private.Turns.{Begins, IsReady}
use Rattle.taint_check.proofs.RunVerdicts.{IsGoing}
use Rattle.taint_check.proofs.checking.run_turns.Given as goal

abbrev pub invariant-loop : goal.invariant-loop
invariant-loop g l = record {
  ready : IsReady l.marked.regions.items l.machine
      (tape_of l.side.book.now.table l.side.shadow l.side.tally l.side.look l.side.left);
  table : l.side.book.now.table ≡ l.fn.side.book.now.table;
  going : (task : Task) (limits : Limits) (secret : List ℕ) →
      Begins task limits secret l.fn.machine
      (tape_of l.fn.side.book.now.table l.fn.side.shadow l.fn.side.tally l.fn.side.look l.fn.side.left)
      l.marked.regions.items l.skip →
      IsGoing l.side.book.now.table task limits secret l.counter l.machine
      (tape_of l.side.book.now.table l.side.shadow l.side.tally l.side.look l.side.left);
}
