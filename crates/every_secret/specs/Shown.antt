-- What of a passing is shown to whoever sees the run: a byte that is written, or the exit status.
use Rattle.std.specs.Prelude.{ℕ, List, [], ◌∷◌, ◌++◌}
use Rattle.flow_base.specs.declared.points.Slot.{Slot}
use Rattle.flow_base.specs.declared.points.Slot.TheVariants.{First, Second, Address, Result, Decision, Number}
use Rattle.flow_base.specs.declared.points.Slot.TheVariants.{Arg0, Arg1, Arg2, SecretIn, ByteOut, Status, OutReg, OutRange}
use Rattle.flow_base.specs.Words.{bit_count}
use Rattle.every_secret.specs.declared.shown.Shown.{Shown}
use Rattle.every_secret.specs.declared.shown.Shown.TheVariants.{Nothing, WrittenByte, ExitStatus}

abbrev pub shown_at : Slot → Shown
shown_at First = Nothing
shown_at Second = Nothing
shown_at Address = Nothing
shown_at Result = Nothing
shown_at Decision = Nothing
shown_at Number = Nothing
shown_at Arg0 = Nothing
shown_at Arg1 = Nothing
shown_at Arg2 = Nothing
shown_at SecretIn = Nothing
shown_at ByteOut = WrittenByte
shown_at Status = ExitStatus
shown_at (OutReg register) = Nothing
shown_at (OutRange range) = Nothing

-- for how many bits is asked, where so many cross that may differ: for none where they are shown, since nothing later
-- depends on them
abbrev pub asked_for : Shown → ℕ → ℕ
asked_for Nothing mask = bit_count mask
asked_for WrittenByte mask = 0
asked_for ExitStatus mask = 0

-- the free bits of each byte that was written, and of the exit status
abbrev pub byte_masks_after : Shown → ℕ → List ℕ → List ℕ
byte_masks_after Nothing free masks = masks
byte_masks_after WrittenByte free masks = masks ++ free ∷ []
byte_masks_after ExitStatus free masks = masks

abbrev pub status_mask_after : Shown → ℕ → ℕ → ℕ
status_mask_after Nothing free mask = mask
status_mask_after WrittenByte free mask = mask
status_mask_after ExitStatus free mask = free
