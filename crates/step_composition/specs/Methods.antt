-- What the methods of a machine of these names do to its state.
use Rattle.std.specs.Prelude.{ℕ, slice_index}
use Rattle.rv32im_machine.specs.declared.stepping.Stepped.{Stepped}
use Rattle.rv32im_machine.specs.State.{State, with_register, with_byte, moved_to, ended, public_taken, secret_taken, break_moved, emitted}
use Rattle.rv32im_machine.specs.Language.{with_store, with_control}

abbrev pub set_register : ℕ → ℕ → State → State
set_register register value state = with_store (with_register register value state.store) state

abbrev pub set_byte : ℕ → ℕ → State → State
set_byte address value state = with_store (with_byte state.setting.base address value state.store) state

abbrev pub set_pc : ℕ → State → State
set_pc pc state = with_control (moved_to pc state.control) state

abbrev pub set_break : ℕ → State → State
set_break value state = with_control (break_moved value state.control) state

abbrev pub end : Stepped → State → State
end mode state = with_control (ended mode state.control) state

abbrev pub emit : ℕ → State → State
emit byte state = with_control (emitted byte state.control) state

-- the next byte of the public input, and the state in which it is read
abbrev pub public_byte : State → ℕ × State
public_byte state =
    (slice_index state.setting.public_input state.control.public_at, with_control (public_taken state.control) state)

-- the next secret byte, and the state in which it is read
abbrev pub secret_byte : State → ℕ × State
secret_byte state =
    (slice_index state.secret state.control.secret_at, with_control (secret_taken state.control) state)
