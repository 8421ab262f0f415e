-- The table of the code is that of the definition, and registers that are picked from it.
use Rattle.std.proofs.Common.{◌≡◌, refl}
use Rattle.enclosure_regions.specs.Orders.{all_registers}
use Rattle.region_learn.specs.declared.declarations.TheConstants.{ALL_REGISTERS}

pub table : ALL_REGISTERS ≡ all_registers
unfolding all_registers
table = refl
