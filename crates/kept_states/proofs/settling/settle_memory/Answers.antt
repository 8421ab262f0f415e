use Rattle.std.proofs.Common.{◌+◌, ◌∙◌, arith, take}
use Rattle.kept_states.specs.Keeping.{memory_byte}
use Rattle.kept_states.proofs.LastFirst.{same_with}
use Rattle.kept_states.proofs.Masks.{all_memory}
use Rattle.kept_states.proofs.Settled.{all_done, below_pages}
use Rattle.kept_states.proofs.settling.settle_memory.Goals as goal

pub loop-page-preserved : goal.loop-page-preserved
loop-page-preserved c =
    let seen = c.next_touched-in-loop-page in
    let next = c.next_page-page-in-loop-page in
    record {
      done = c.settle_page-laid.ensures.done;
      most = omega (arith, next.ensures.most, seen.ensures.most);
      below = below_pages c.args.pieces.now (take c.settle_page-laid.result c.args.laids.now) (c.loop-page.page + 1)
          next.result seen.result (memory_byte c.settle_page-laid.new.machine) next.ensures.from next.ensures.most
          seen.ensures.zeros c.settle_page-laid.ensures.below;
      same = same_with c.args.machine.now c.loop-page.machine c.settle_page-laid.new.machine _
          c.settle_page-laid.ensures.same c.loop-page.invariant.same;
    }

pub returns-clause-memory : goal.returns-clause-memory
returns-clause-memory c same =
    all_memory c.args.pieces.now c.args.laids.now c.loop-page.machine.store.memory
    (all_done c.args.pieces.now c.args.laids.now c.loop-page.done c.loop-page.page (memory_byte c.loop-page.machine)
    (omega (arith, c.loop-page-test.false)) c.loop-page.invariant.most same c.loop-page.invariant.below)
    c.tell_memory.ensures
