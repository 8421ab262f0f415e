use Rattle.region_pieces.proofs.FirstItems.{first_all, register_small, rest_all, rest_falls}
use Rattle.region_pieces.proofs.leaving.+first_kept_break.Goals as goal

pub kept_break-requires : goal.kept_break-requires
kept_break-requires g t c =
    register_small _ (first_all _ c.args.registers.now _ c.in-len1-up.len_at_least c.requires)

pub first_kept_break-requires : goal.first_kept_break-requires
first_kept_break-requires g t c = (
  rest_falls c.args.registers.now t c.decreases c.in-len1-up.len_at_least,
  rest_all _ c.args.registers.now c.in-len1-up.len_at_least c.requires,
)
