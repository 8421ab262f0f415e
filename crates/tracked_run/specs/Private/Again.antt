-- A passing that gives out again what its place gave before.
use Rattle.std.specs.Prelude.{◌≡◌, ℕ}
use Rattle.rv32im_machine.specs.declared.language.Aim.TheVariants.{Give}
use Rattle.rv32im_machine.specs.declared.language.Passing.{Passing}
use Rattle.rv32im_machine.specs.declared.language.Place.TheVariants.{Byte}
use Rattle.rv32im_machine.specs.declared.language.Source.TheVariants.{At}
use Rattle.rv32im_machine.specs.declared.language.Sources.TheVariants.{One}
use Rattle.run_labels.specs.TurnLabels.{TurnLabels}

-- a byte goes on out of a region to where it stands, and has the label that it gets already
pub record GivesAgain (labels : TurnLabels) (passing : Passing) (mask : ℕ) : Type 0 where
  pub address : ℕ
  pub aim : passing.aim ≡ Give (Byte address)
  pub sources : passing.sources ≡ One (At (Byte address))
  pub label : labels.map.bytes address ≡ record { mask = mask; point = passing.point }
