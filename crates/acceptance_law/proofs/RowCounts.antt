-- What a row says of its passings: which of them read the secret, how many there are, and at which slots.
use Rattle.std.proofs.Common.{◌≡◌, ℕ, ◌+◌, ◌≤◌, cond, Bool, true, false, length}
use Rattle.flow_base.specs.Points.{is_slot, is_output_slot}
use Rattle.rv32im_machine.specs.declared.language.Shape.TheVariants.{Copied}
use Rattle.rv32im_machine.specs.declared.language.Source.{Source}
use Rattle.rv32im_machine.specs.declared.language.Source.TheVariants.{At, Constant, Secret}
use Rattle.rv32im_machine.specs.declared.language.Sources.{Sources}
use Rattle.rv32im_machine.specs.declared.language.Sources.TheVariants.{One, Two, Byte as BytesOne, Half as BytesTwo}
use Rattle.rv32im_machine.specs.declared.language.Sources.TheVariants.{Word as BytesFour}
use Rattle.rv32im_machine.specs.State.{Control}
use Rattle.rv32im_machine.specs.Language.{Turn, Looks, Passes, Decides, Gives, Moves, Saves, Restores, Ends, Making}
use Rattle.rv32im_machine.specs.Language.{Shaped}
use Rattle.acceptance_law.specs.SecretBits.{is_secret_slot}

-- ---- sources

abbrev pub NoSecret : Source → Type 0
NoSecret (At place) = Unit {0}
NoSecret (Constant value) = Unit {0}
NoSecret (Secret index) = ⊥

abbrev pub NoSecrets : Sources → Type 0
NoSecrets (One source) = NoSecret source
NoSecrets (Two first second) = NoSecret first × NoSecret second
NoSecrets (BytesOne address) = Unit {0}
NoSecrets (BytesTwo address) = Unit {0}
NoSecrets (BytesFour address) = Unit {0}

-- what passes slot `in` is a byte of the secret, what passes another is none
abbrev pub Takes : Bool → Making → Sources → Type 0
Takes true making sources = (making ≡ Shaped Copied) × ((index : ℕ) × (sources ≡ One (Secret index)))
Takes false making sources = NoSecrets sources

-- ---- numbers of passings

-- how many bytes are read and written at most, and how many other passings there may be
pub record Limits : Type 0 where
  pub secret : ℕ
  pub output : ℕ
  pub others : ℕ

-- of so many passings each has read a byte of the secret, written one of the output, or is one of the others
abbrev pub Has : Limits → ℕ → Control → Type 0
Has limits used control =
    (used ≤ control.secret_at + length control.output + limits.others)
    × (control.secret_at ≤ limits.secret) × (length control.output ≤ limits.output)

-- so many bytes of the secret have been read
abbrev pub HasRead : Limits → ℕ → ℕ → Control → Type 0
HasRead limits count used control = (control.secret_at ≡ count) × Has limits used control

-- where so many bytes of the secret were read before, and so many points passed, outputs of regions left out, each
-- end has counted the bytes and has no more passings than it may; what is given out is an output, and at a slot of
-- turns where so much is known
unfoldable pub Counts : Type 0 → Limits → ℕ → ℕ → Turn → Type 0
Counts Known limits count used (Looks seen go) = (value : ℕ) → Counts Known limits count used (go value)
Counts Known limits count used (Passes point place making sources turn) =
    (is_output_slot point.slot ≡ false) × Takes (is_secret_slot point.slot) making sources
    × Counts Known limits (cond (is_secret_slot point.slot) (count + 1) count) (used + 1) turn
Counts Known limits count used (Decides point making sources go) =
    (is_output_slot point.slot ≡ false) × (is_secret_slot point.slot ≡ false) × NoSecrets sources
    × ((value : ℕ) → Counts Known limits count (used + 1) (go value))
Counts Known limits count used (Gives point place turn) =
    (is_output_slot point.slot ≡ true) × (is_secret_slot point.slot ≡ false) × (Known → is_slot point.slot ≡ true)
    × Counts Known limits count used turn
Counts Known limits count used (Moves place shape source turn) = Counts Known limits count used turn
Counts Known limits count used (Saves turn) = Counts Known limits count used turn
Counts Known limits count used (Restores registers turn) = Counts Known limits count used turn
Counts Known limits count used (Ends control) = HasRead limits count used control
