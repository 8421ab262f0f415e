-- The state in which a guest starts.
use Rattle.std.specs.Prelude.{◌≡◌, ℕ, ◌+◌, ◌-◌, ◌*◌, ◌/◌, ◌<◌, ◌≤◌, max, List, [], ◌∷◌, ◌++◌, length, take, drop, replicate, slice_set}
use Rattle.flow_base.specs.Guests.{memory_size}
use Rattle.elf32_loader.specs.declared.segments.Segment.{Segment}
use Rattle.elf32_loader.specs.Pictures.{Picture, mem}
use Rattle.elf32_loader.specs.Segments.{end_of}
use Rattle.rv32im_machine.specs.declared.stepping.Stepped.TheVariants.{Ran}
use Rattle.rv32im_machine.specs.State.{State, byte_of}

-- zeros, as a list that is never written out
unfoldable pub zeros : ℕ → List ℕ
zeros count = replicate count 0

-- bytes laid over memory, or any list over another, from an index on
abbrev pub laid_at : {X : Type 0} → ℕ → List X → List X → List X
laid_at index bytes memory = take index memory ++ (bytes ++ drop (index + length bytes) memory)

-- segments laid over memory, one after another
abbrev pub laid : ℕ → List Segment → List ℕ → List ℕ
laid base [] memory = memory
laid base (segment ∷ segments) memory = laid base segments (laid_at (segment.address - base) segment.bytes memory)

-- guest memory at the start
unfoldable pub first_memory : Picture → List ℕ
first_memory picture = laid picture.base picture.segments (zeros memory_size)

-- all registers are 0 but the stack pointer x2, which is the memory's end minus 64
abbrev pub first_registers : ℕ → List ℕ
first_registers base = slice_set (replicate 32 0) 2 (base + memory_size - 64)

-- the highest end of segments; 0 of none
abbrev pub top_of : List Segment → ℕ
top_of [] = 0
top_of (segment ∷ segments) = max (end_of segment) (top_of segments)

-- the break at the start is the highest segment end, rounded up to a multiple of 4,096
abbrev pub first_break : List Segment → ℕ
first_break segments = (top_of segments + 4095) / 4096 * 4096

-- a guest starts at the entry, with both inputs unread and no output
abbrev pub start_on : List ℕ → ℕ → ℕ → ℕ → List ℕ → List ℕ → ℕ → State
start_on memory base entry break public_input secret output_limit = record {
  setting = record {
    base = base;
    start_break = break;
    public_input = public_input;
    secret_length = length secret;
    output_limit = output_limit;
  };
  secret = secret;
  control = record {
    pc = entry;
    public_at = 0;
    secret_at = 0;
    current_break = break;
    output = [];
    mode = Ran;
    region = 0;
  };
  store = record { registers = first_registers base; memory = memory; kept = replicate 32 0 };
}

abbrev pub start : Picture → List ℕ → List ℕ → ℕ → State
start picture public_input secret output_limit =
    start_on (first_memory picture) picture.base picture.entry (first_break picture.segments) public_input secret output_limit

-- memory at the start is what the image puts there
abbrev pub HoldsImage : Picture → State → Type 0
HoldsImage picture state =
    (address : ℕ) → picture.base ≤ address → address < picture.base + memory_size →
    byte_of picture.base state.store address ≡ mem picture address
