use Rattle.std.proofs.Common.{◌<◌, ap, arith, length}
use Rattle.std.proofs.Math.ListN.{length-set}
use Rattle.shadow_masks.specs.declared.labels.Label.{Label}
use Rattle.shadow_masks.specs.Shades.{register_label}
use Rattle.kept_states.proofs.LastFirst.{masks_read, zero_read}
use Rattle.kept_states.proofs.laying.register_masks.Goals as goal

pub loop-register-preserved : goal.loop-register-preserved
loop-register-preserved c =
    let inside : c.loop-register.register < length c.loop-register.masks =
    omega (arith, c.loop-register.invariant.size, c.loop-register-test.true) in
    record {
      masks = masks_read c.loop-register.masks c.loop-register.register c.reg.result (register_label c.args.shadow.now)
          inside c.reg.ensures.label c.loop-register.invariant.masks;
      size = simp length-set c.loop-register.invariant.size;
      zero = zero_read c.loop-register.masks c.loop-register.register c.reg.result.mask inside
          (λ first. ap (λ (l : Label). l.mask) (c.reg.ensures.zero first)) c.loop-register.invariant.zero;
    }
