-- The labels of a run's registers and bytes: the bits that the secret may reach, and the point where they last passed.
use Rattle.std.specs.Prelude.{◌≡◌, ℕ, ◌≤◌, List, slice_index_or}
use Rattle.shadow_masks.specs.declared.labels.Label.{Label}
use Rattle.flow_base.specs.Points.{nowhere}

-- the label of a value that the secret does not reach
abbrev pub clean : Label
clean = record { mask = 0; point = nowhere }

-- a label of mask 0 is the clean one
abbrev pub IsLabel : Label → Type 0
IsLabel label = label.mask ≡ 0 → label ≡ clean

-- the label of a byte: its mask has 8 bits
pub record IsByteLabel (label : Label) : Type 0 where
  pub is_label : IsLabel label
  pub mask : label.mask ≤ 255

-- the labels of registers: each is a label, and that of x0 is clean
pub record AreRegisterLabels (labels : List Label) : Type 0 where
  pub zero : slice_index_or labels 0 clean ≡ clean
  pub each : (register : ℕ) → IsLabel (slice_index_or labels register clean)
