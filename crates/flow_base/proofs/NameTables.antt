-- The tables of the code are those of the definitions.
use Rattle.std.proofs.Common.{◌≡◌, map, refl}
use Rattle.flow_base.specs.RegisterNames.{plain_names, convention_names}
use Rattle.flow_base.specs.declared.register_names.TheConstants.{PLAIN_NAMES, CONVENTION_NAMES}

pub plain_table : map (λ name. name.now) PLAIN_NAMES ≡ plain_names
unfolding plain_names
plain_table = refl

pub convention_table : map (λ name. name.now) CONVENTION_NAMES ≡ convention_names
unfolding convention_names
convention_table = refl

pub ruleset name_tables = (plain_table, convention_table)
