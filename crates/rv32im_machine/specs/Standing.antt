-- What a machine is between two turns but for guest memory, the setting and the secret, and guest memory in pieces.
use Rattle.std.specs.Prelude.{ℕ, ◌≤◌, List, length}
use Rattle.rv32im_machine.specs.State.{Setting, Control, State}

-- what decides how a run goes on, the registers, and the registers at the last entry of a region
pub record Stand : Type 0 where
  pub control : Control
  pub registers : List ℕ
  pub kept : List ℕ

abbrev pub stand_of : State → Stand
stand_of state = record { control = state.control; registers = state.store.registers; kept = state.store.kept }

-- it reads no more of the inputs than there is, and has no more output than the limit
pub record FitsSetting (setting : Setting) (stand : Stand) : Type 0 where
  pub of_public : stand.control.public_at ≤ length setting.public_input
  pub of_secret : stand.control.secret_at ≤ setting.secret_length
  pub of_output : length stand.control.output ≤ setting.output_limit

-- a state that is put back: its setting, its secret and guest memory stay
abbrev pub stood : Stand → State → State
stood stand state = record {
  setting = state.setting;
  secret = state.secret;
  control = stand.control;
  store = record { registers = stand.registers; memory = state.store.memory; kept = stand.kept };
}

-- a state with other bytes of guest memory
abbrev pub with_memory : List ℕ → State → State
with_memory memory state = record {
  setting = state.setting;
  secret = state.secret;
  control = state.control;
  store = record { registers = state.store.registers; memory = memory; kept = state.store.kept };
}

-- the bytes of a piece of guest memory, of which there are 65,536
abbrev pub piece_size : ℕ
piece_size = 256
