use Rattle.std.proofs.Common.{ℕ, ◌+◌}
use Rattle.kept_states.specs.Keeping.{mask_byte}
use Rattle.kept_states.specs.Laids.{HasBytes, LaidBelow}
use Rattle.kept_states.proofs.LaidBytes.{below_gap, map_ok}
use Rattle.kept_states.proofs.Masks.{has_masks, no_masks}
use Rattle.kept_states.proofs.laying.lay_masks_at.Goals as goal

pub returns-in-Some-clause-laid : goal.returns-in-Some-clause-laid
returns-in-Some-clause-laid c =
    map_ok c.lay.result
    (λ (step : (source : ℕ → ℕ) → HasBytes source c.args.number c.in-Some.masks.now →
    LaidBelow c.args.pieces.now c.args.laids.now.items c.args.number source →
    LaidBelow c.lay.new.pieces c.lay.new.laids.items (c.args.number + 1) source).
    step (mask_byte c.args.shadow.now)
    (has_masks c.args.shadow.now c.args.number c.in-Some.masks.now c.in-Some.ensures.masks) c.requires.below)
    c.lay.ensures.laid

pub returns-in-None-clause-laid : goal.returns-in-None-clause-laid
returns-in-None-clause-laid c =
    below_gap c.args.pieces.now c.args.laids.now.items c.args.number (mask_byte c.args.shadow.now)
    (no_masks c.args.shadow.now c.args.number c.in-None.ensures.none) c.requires.below
