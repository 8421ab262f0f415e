use Rattle.std.proofs.Common.{arith, ◌≡◌, ◌+◌, ◌-◌}
use Rattle.rv32im_machine.specs.Language.{walked}
use Rattle.rv32im_machine.specs.State.{public_taken}
use Rattle.rv32im_machine.proofs.Rounds.{public_reads_none, public_reads_more}
use Rattle.rv32im_machine.proofs.calls.read_public.Goals as goal

pub returns-in-Err-clause-plays : goal.returns-in-Err-clause-plays
unfolding walked
returns-in-Err-clause-plays g c =
    let more = public_reads_more (c.args.count - c.loop-i.i) (c.args.count - (c.loop-i.i + 1)) (c.args.to + c.loop-i.i) c.args.count c.loop-i.machine.setting.public_input c.loop-i.machine.control (omega arith) in
    let goes = rw (c.from-value.ensures, c.next_public-byte.ensures) at c.in-Err.ensures.goes in
    c.loop-i.invariant.rest _ (rw more (goes _))

pub loop-i-preserved : goal.loop-i-preserved
unfolding walked public_taken
loop-i-preserved g c =
    let more = public_reads_more (c.args.count - c.loop-i.i) (c.args.count - (c.loop-i.i + 1)) (c.args.to + c.loop-i.i) c.args.count c.loop-i.machine.setting.public_input c.loop-i.machine.control (omega arith) in
    let goes = rw (c.from-value.ensures, c.next_public-byte.ensures) at c.in-Ok.ensures.goes in
    let next : c.args.to + (c.loop-i.i + 1) ≡ c.args.to + c.loop-i.i + 1 = omega arith in
    record {
      setting = rw (c.set_byte.ensures, c.take_public.ensures) c.loop-i.invariant.setting;
      read = rw (c.set_byte.ensures, c.take_public.ensures) (omega (arith, c.loop-i.invariant.read));
      memory = rw (c.set_byte.ensures, c.take_public.ensures, c.move_to.ensures.memory) c.loop-i.invariant.memory;
      same = rw c.move_to.ensures.memory c.loop-i.invariant.same;
      rest = λ out after. c.loop-i.invariant.rest out (rw more (goes _ out (rw (c.set_byte.ensures, c.take_public.ensures, c.next_public-byte.ensures, next) at after)));
    }

pub returns-clause-plays : goal.returns-clause-plays
unfolding walked
returns-clause-plays g c =
    let none = public_reads_none (c.args.count - c.loop-i.i) (c.args.to + c.loop-i.i) c.args.count c.loop-i.machine.setting.public_input c.loop-i.machine.control (omega arith) in
    c.loop-i.invariant.rest _ (rw none c.answer.ensures.plays)
