use Rattle.std.proofs.Common.{◌≡◌, ◌∙◌, ◌+◌, ◌-◌, append-nil, arith, sym}
use Rattle.trial_guests.proofs.Codes.{masking_end, masking_step}
use Rattle.trial_guests.proofs.programs.put_maskings.Goals as goal

pub loop-index-preserved : goal.loop-index-preserved
loop-index-preserved c =
    let count = c.args.count in
    let index = c.loop-index.index in
    let step = masking_step c.loop-index.code.items _ c.args.number index (count - index) (count - (index + 1))
    (omega (arith, c.loop-index-test.true)) c.loop-index.invariant in
    rw (c.in_ok-put_masking.ensures, c.width_of.ensures.is) step

pub returns : goal.returns
returns c =
    let left : c.args.count - c.loop-index.index ≡ 0 = omega (arith, c.loop-index-test.false) in
    sym (append-nil c.loop-index.code.items)
    ∙ masking_end c.loop-index.code.items _ c.args.number c.loop-index.index _ left c.loop-index.invariant
