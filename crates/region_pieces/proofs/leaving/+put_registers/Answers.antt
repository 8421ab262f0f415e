use Rattle.region_pieces.proofs.FirstItems.{first_all, register_small, rest_all, rest_falls}
use Rattle.region_pieces.proofs.leaving.+put_registers.Goals as goal

pub register_copy-requires : goal.register_copy-requires
register_copy-requires t c =
    register_small _ (first_all _ c.args.registers.now _ c.in-len1-up.len_at_least c.requires)

pub put_registers-requires : goal.put_registers-requires
put_registers-requires t c = (
  rest_falls c.args.registers.now t c.decreases c.in-len1-up.len_at_least,
  rest_all _ c.args.registers.now c.in-len1-up.len_at_least c.requires,
)
