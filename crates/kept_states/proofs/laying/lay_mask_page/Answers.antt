use Rattle.kept_states.specs.Keeping.{mask_byte}
use Rattle.kept_states.proofs.LaidBytes.{below_page}
use Rattle.kept_states.proofs.Masks.{unmade}
use Rattle.kept_states.proofs.laying.lay_mask_page.Goals as goal

pub returns-then-not-is_made-clause-laid : goal.returns-then-not-is_made-clause-laid
returns-then-not-is_made-clause-laid c =
    below_page c.args.pieces.now c.args.laids.now.items c.args.page (mask_byte c.args.shadow.now)
    (unmade c.args.shadow.now c.args.page (c.is_made.ensures c.if-not-is_made.true)) c.requires.below
