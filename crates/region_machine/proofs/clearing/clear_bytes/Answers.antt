use Rattle.std.proofs.Common.{arith, ◌≡◌, ◌+◌, ◌-◌}
use Rattle.region_machine.proofs.KeptRegistersStay.{clears_bytes_none, clears_bytes_more, stays_more}
use Rattle.region_machine.proofs.clearing.clear_bytes.Goals as goal

pub returns-in-Err-clause-goes : goal.returns-in-Err-clause-goes
returns-in-Err-clause-goes g c = λ turn.
    let more = clears_bytes_more (c.args.address + c.loop-i.i) (c.args.count - c.loop-i.i)
    (c.args.count - (c.loop-i.i + 1)) turn (omega arith) in
    c.loop-i.invariant.rest turn _ (rw more (c.in-Err.ensures.goes _))

pub loop-i-preserved : goal.loop-i-preserved
loop-i-preserved g c =
    let next : c.args.address + (c.loop-i.i + 1) ≡ c.args.address + c.loop-i.i + 1 = omega arith in
    record {
      stays = stays_more c.args.machine.now c.loop-i.machine c.clear_byte.new.machine c.loop-i.invariant.stays
          c.clear_byte.ensures.stays;
      memory = c.clear_byte.ensures.memory;
      same = rw c.clear_byte.ensures.same c.loop-i.invariant.same;
      rest = λ turn out after.
          let more = clears_bytes_more (c.args.address + c.loop-i.i) (c.args.count - c.loop-i.i)
          (c.args.count - (c.loop-i.i + 1)) turn (omega arith) in
          c.loop-i.invariant.rest turn out (rw more (c.in-Ok.ensures.goes _ out (rw next at after)));
    }

pub returns-clause-goes : goal.returns-clause-goes
returns-clause-goes g c = λ turn out after.
    let none = clears_bytes_none (c.args.address + c.loop-i.i) (c.args.count - c.loop-i.i) turn (omega arith) in
    c.loop-i.invariant.rest turn out (rw none after)
