use Rattle.std.proofs.Common.{arith, ◌≡◌, ◌+◌, ◌-◌, [], ◌∷◌, length-append}
use Rattle.rv32im_machine.specs.Language.{walked}
use Rattle.rv32im_machine.specs.State.{emitted}
use Rattle.rv32im_machine.proofs.Rounds.{writes_none, writes_more}
use Rattle.rv32im_machine.proofs.calls.write_output.Goals as goal

pub returns-in-Err-clause-plays : goal.returns-in-Err-clause-plays
unfolding walked
returns-in-Err-clause-plays g c =
    let more = writes_more (c.args.count - c.loop-i.i) (c.args.count - (c.loop-i.i + 1)) (c.args.from + c.loop-i.i) c.args.count c.loop-i.machine.control (omega arith) in
    let goes = rw (c.point.ensures, c.from.ensures, c.byte.ensures) at c.in-Err.ensures.goes in
    c.loop-i.invariant.rest _ (rw more (goes _))

pub loop-i-preserved : goal.loop-i-preserved
unfolding walked emitted
loop-i-preserved g c =
    let more = writes_more (c.args.count - c.loop-i.i) (c.args.count - (c.loop-i.i + 1)) (c.args.from + c.loop-i.i) c.args.count c.loop-i.machine.control (omega arith) in
    let goes = rw (c.point.ensures, c.from.ensures, c.byte.ensures) at c.in-Ok.ensures.goes in
    let next : c.args.from + (c.loop-i.i + 1) ≡ c.args.from + c.loop-i.i + 1 = omega arith in
    record {
      setting = rw c.emit.ensures c.loop-i.invariant.setting;
      written = rw (c.emit.ensures, length-append c.loop-i.machine.control.output (c.in-Ok.value ∷ [])) (omega (arith, c.loop-i.invariant.written));
      memory = rw (c.emit.ensures, c.pass.ensures.memory) c.loop-i.invariant.memory;
      same = rw c.pass.ensures.memory c.loop-i.invariant.same;
      rest = λ out after. c.loop-i.invariant.rest out (rw more (goes _ out (rw (c.emit.ensures, next) at after)));
    }

pub returns-clause-plays : goal.returns-clause-plays
unfolding walked
returns-clause-plays g c =
    let none = writes_none (c.args.count - c.loop-i.i) (c.args.from + c.loop-i.i) c.args.count c.loop-i.machine.control (omega arith) in
    c.loop-i.invariant.rest _ (rw none c.answer.ensures.plays)
