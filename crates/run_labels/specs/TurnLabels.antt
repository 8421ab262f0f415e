-- The labels within a turn: of the registers and the bytes, and of the two operands that have gone on in it.
use Rattle.std.specs.Prelude.{ℕ, List}
use Rattle.rv32im_machine.specs.declared.language.Aim.{Aim}
use Rattle.rv32im_machine.specs.declared.language.Aim.TheVariants.{Put, Decide, Give}
use Rattle.rv32im_machine.specs.declared.language.Place.{Place}
use Rattle.rv32im_machine.specs.declared.language.Place.TheVariants.{Register, Byte, First, Second}
use Rattle.shadow_masks.specs.declared.labels.Label.{Label}
use Rattle.shadow_masks.specs.Labels.{clean}
use Rattle.shadow_masks.specs.Writes.{LabelMap, after, ToRegister, ToByte, Save, Restore}

pub record TurnLabels : Type 0 where
  pub map : LabelMap
  pub first : Label
  pub second : Label

-- a turn begins with no operand
abbrev pub at_start : LabelMap → TurnLabels
at_start map = record { map = map; first = clean; second = clean }

abbrev pub label_at : TurnLabels → Place → Label
label_at labels (Register register) = labels.map.registers register
label_at labels (Byte address) = labels.map.bytes address
label_at labels First = labels.first
label_at labels Second = labels.second

-- a place gets a label; that of x0 stays clean
abbrev pub put_label : Place → Label → TurnLabels → TurnLabels
put_label (Register register) label labels =
    record { map = after (ToRegister register label) labels.map; first = labels.first; second = labels.second }
put_label (Byte address) label labels =
    record { map = after (ToByte address label) labels.map; first = labels.first; second = labels.second }
put_label First label labels = record { map = labels.map; first = label; second = labels.second }
put_label Second label labels = record { map = labels.map; first = labels.first; second = label }

-- what a value goes to gets its label; a decision goes to no place
abbrev pub aim_label : Aim → Label → TurnLabels → TurnLabels
aim_label (Put place) label labels = put_label place label labels
aim_label Decide label labels = labels
aim_label (Give place) label labels = put_label place label labels

-- at the entry of a region the labels of all registers are kept
abbrev pub save_labels : TurnLabels → TurnLabels
save_labels labels = record { map = after Save labels.map; first = labels.first; second = labels.second }

-- at its leave these registers get back the labels that were kept
abbrev pub restore_labels : List ℕ → TurnLabels → TurnLabels
restore_labels registers labels =
    record { map = after (Restore registers) labels.map; first = labels.first; second = labels.second }
