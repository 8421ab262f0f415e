-- A state of the guest machine.
use Rattle.std.specs.Prelude.{ℕ, ◌+◌, ◌-◌, ◌*◌, ◌%◌, ◌^◌, ◌==◌, List, [], ◌∷◌, ◌++◌, slice_index, slice_set, if◌then◌else◌}
use Rattle.rv32im_machine.specs.declared.stepping.Stepped.{Stepped}

-- what no step changes and both runs of a check share; the starting break is an address
pub record Setting : Type 0 where
  pub base : ℕ
  pub start_break : ℕ
  pub public_input : List ℕ
  pub secret_length : ℕ
  pub output_limit : ℕ

-- what decides how a run goes on: nothing here is a value of a register or of memory
pub record Control : Type 0 where
  pub pc : ℕ
  pub public_at : ℕ
  pub secret_at : ℕ
  pub current_break : ℕ
  pub output : List ℕ
  pub mode : Stepped
  pub region : ℕ

-- the values: 32 registers, the bytes of guest memory from the base on, and the registers at the last entry of a region
pub record Store : Type 0 where
  pub registers : List ℕ
  pub memory : List ℕ
  pub kept : List ℕ

pub record State : Type 0 where
  pub setting : Setting
  pub secret : List ℕ
  pub control : Control
  pub store : Store

abbrev pub register_of : Store → ℕ → ℕ
register_of store register = slice_index store.registers register

abbrev pub byte_of : ℕ → Store → ℕ → ℕ
byte_of base store address = slice_index store.memory (address - base)

-- a number whose bytes are these, the lowest first
abbrev pub joined : List ℕ → ℕ
joined [] = 0
joined (byte ∷ bytes) = byte + 256 * joined bytes

abbrev pub word_at : ℕ → Store → ℕ → ℕ
word_at base store address =
    joined (byte_of base store address ∷ byte_of base store (address + 1)
    ∷ byte_of base store (address + 2) ∷ byte_of base store (address + 3) ∷ [])

-- ---- changes, a name for each

-- a write to x0 is dropped
unfoldable pub with_register : ℕ → ℕ → Store → Store
with_register register value store =
    record store { registers = if register == 0 then store.registers else slice_set store.registers register value }

unfoldable pub with_byte : ℕ → ℕ → ℕ → Store → Store
with_byte base address value store = record store { memory = slice_set store.memory (address - base) value }

-- at the entry of a region every register is kept
unfoldable pub saved : Store → Store
saved store = record store { kept = store.registers }

-- these registers get back the values that were kept
unfoldable pub restored : List ℕ → Store → Store
restored [] store = store
restored (register ∷ registers) store =
    restored registers (with_register register (slice_index store.kept register) store)

unfoldable pub moved_to : ℕ → Control → Control
moved_to pc control = record control { pc = pc }

-- in this region from now on, 0: in none
unfoldable pub entered : ℕ → Control → Control
entered region control = record control { region = region }

-- to the next instruction
unfoldable pub onward : Control → Control
onward control = record control { pc = (control.pc + 4) % 2 ^ 32 }

unfoldable pub ended : Stepped → Control → Control
ended mode control = record control { mode = mode }

unfoldable pub secret_taken : Control → Control
secret_taken control = record control { secret_at = control.secret_at + 1 }

unfoldable pub public_taken : Control → Control
public_taken control = record control { public_at = control.public_at + 1 }

unfoldable pub break_moved : ℕ → Control → Control
break_moved value control = record control { current_break = value }

unfoldable pub emitted : ℕ → Control → Control
emitted byte control = record control { output = control.output ++ byte ∷ [] }
