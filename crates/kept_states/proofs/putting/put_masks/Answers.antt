use Rattle.std.proofs.Common.{◌-◌, ◌∙◌, ◌<◌, refl, arith, length}
use Rattle.kept_states.specs.declared.laids.Laid.{Laid}
use Rattle.kept_states.proofs.LastFirst.{masks_none, masks_step, within_at}
use Rattle.kept_states.proofs.putting.put_masks.Goals as goal

none : Laid
none = record { number = 0; piece = 0 }

pub piece-requires : goal.piece-requires
unfolding none
piece-requires c =
    within_at c.args.pieces.now c.args.laids.now (c.loop-index.index - 1) none
    (omega (arith, c.loop-index-test.true, c.loop-index.invariant.inside)) c.requires.within

pub loop-index-init : goal.loop-index-init
loop-index-init c = record {
  inside = omega arith;
  masks = masks_none c.args.pieces.now c.args.laids.now (length c.args.laids.now) c.args.shadow.now (omega arith)
      c.requires.empty.bytes;
  same = record { registers = refl; kept = refl; begins = refl };
}

pub loop-index-preserved : goal.loop-index-preserved
unfolding none
loop-index-preserved c =
    let some = c.loop-index-test.true in
    let before : c.loop-index.index - 1 < length c.args.laids.now = omega (arith, some, c.loop-index.invariant.inside) in
    let sets = c.in_ok-set_piece.ensures in
    record {
      inside = omega (arith, before);
      masks = masks_step c.args.pieces.now c.args.laids.now (c.loop-index.index - 1) c.loop-index.index none
          c.piece.result.now c.loop-index.shadow c.set_piece.new.self before
          (omega (arith, some)) c.piece.ensures.same sets.ok.base sets.masks c.loop-index.invariant.masks;
      same = record {
        registers = sets.ok.registers ∙ c.loop-index.invariant.same.registers;
        kept = sets.ok.kept ∙ c.loop-index.invariant.same.kept;
        begins = sets.ok.base ∙ c.loop-index.invariant.same.begins;
      };
    }
