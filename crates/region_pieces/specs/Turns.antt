-- The turn of a real state by an instruction that neither stops it nor breaks the region.
use Rattle.std.specs.Prelude.{◌≡◌, ℕ, zero, suc, ◌+◌, ◌%◌, ◌<◌, ◌^◌, List, Some, None, true}
use Rattle.flow_base.specs.Guests.{is_inside}
use Rattle.enclosure_regions.specs.declared.region_parts.Region.{Region}
use Rattle.rv32im_decode.specs.Decoding.{decoded}
use Rattle.rv32im_decode.specs.declared.instructions.Instr.{Instr}
use Rattle.rv32im_machine.specs.declared.stepping.Stepped.TheVariants.{Ran}
use Rattle.rv32im_machine.specs.Folds.{real_end}
use Rattle.rv32im_machine.specs.Rows.{walk_of}
use Rattle.enclosure_regions.specs.Breaks.{byte_break}
use Rattle.rv32im_decode.specs.declared.instructions.StoreKind.{StoreKind}
use Rattle.rv32im_decode.specs.declared.instructions.StoreKind.TheVariants.{Sb, Sh, Sw}
use Rattle.rv32im_machine.specs.declared.language.Part.{Part}
use Rattle.rv32im_machine.specs.declared.language.Part.TheVariants.{Byte0, Byte1, Byte2, Byte3}
use Rattle.rv32im_machine.specs.Language.{part_of}
use Rattle.rv32im_machine.specs.State.{State, Store, moved_to, with_byte, word_at}
use Rattle.region_machine.specs.Breaking.{walk_break}

-- the instruction at pc
pub record Fetches (state : State) (instr : Instr) : Type 0 where
  pub mode : state.control.mode ≡ Ran
  pub inside : is_inside state.setting.base state.control.pc 4 ≡ true
  pub decodes : decoded (word_at state.setting.base state.store state.control.pc) ≡ Some instr

-- the state with another pc and other values
abbrev pub moved : ℕ → Store → State → State
moved pc store state = record {
  setting = state.setting;
  secret = state.secret;
  control = moved_to pc state.control;
  store = store;
}

-- the address of the next instruction
abbrev pub after : ℕ → ℕ
after pc = (pc + 4) % 2 ^ 32

-- the byte of a word that is stored at a distance from the address
abbrev pub part_at : ℕ → Part
part_at zero = Byte0
part_at (suc zero) = Byte1
part_at (suc (suc zero)) = Byte2
part_at (suc (suc (suc offset))) = Byte3

-- the bytes of a store at an address, the lowest first
abbrev pub stored : StoreKind → ℕ → ℕ → ℕ → Store → Store
stored Sb base address value store = with_byte base address (part_of Byte0 value) store
stored Sh base address value store =
    with_byte base (address + 1) (part_of Byte1 value) (with_byte base address (part_of Byte0 value) store)
stored Sw base address value store =
    with_byte base (address + 3) (part_of Byte3 value) (with_byte base (address + 2) (part_of Byte2 value)
    (with_byte base (address + 1) (part_of Byte1 value) (with_byte base address (part_of Byte0 value) store)))

-- the region declares so many bytes from an address on
abbrev pub Declares : Region → List ℕ → ℕ → ℕ → ℕ → Type 0
Declares region registers pc address count =
    (offset : ℕ) → offset < count → byte_break region registers pc (address + offset) ≡ None

-- the turn of the state leads there, and breaks nothing of the region
pub record Goes (region : Region) (state : State) (pc : ℕ) (store : Store) : Type 0 where
  pub ends : real_end (walk_of state) ≡ moved pc store state
  pub whole : walk_break region state.store.kept state.control.pc (walk_of state) ≡ None
