-- The language of one turn. A `Turn` is a row: which slots are passed, in which order, how each value is made and from
-- what, and how the turn ends; it mentions no value of a register or of memory. A `Walk` is the same turn as it is walked
-- from a state, with every value in it; what follows a passing is given the value that goes on from it.
use Rattle.std.specs.Prelude.{ℕ, ◌+◌, ◌/◌, ◌%◌, List, [], ◌∷◌, slice_index}
use Rattle.flow_base.specs.declared.points.Point.{Point}
use Rattle.rv32im_decode.specs.Operations.{op_result, decision, target_of, extended}
use Rattle.rv32im_machine.specs.declared.language.Place.{Place}
use Rattle.rv32im_machine.specs.declared.language.Place.TheVariants.{Register, Byte, First, Second}
use Rattle.rv32im_machine.specs.declared.language.Source.{Source}
use Rattle.rv32im_machine.specs.declared.language.Source.TheVariants.{At, Constant, Secret}
use Rattle.rv32im_machine.specs.declared.language.Sources.{Sources}
use Rattle.rv32im_machine.specs.declared.language.Sources.TheVariants.{One, Two, Byte as BytesOne, Half as BytesTwo, Word as BytesFour}
use Rattle.rv32im_machine.specs.declared.language.Part.{Part}
use Rattle.rv32im_machine.specs.declared.language.Part.TheVariants.{Byte0, Byte1, Byte2, Byte3}
use Rattle.rv32im_machine.specs.declared.language.Shape.{Shape}
use Rattle.rv32im_machine.specs.declared.language.Shape.TheVariants.{Copied, Extended, Part as PartShape}
use Rattle.rv32im_machine.specs.declared.language.Operation.{Operation}
use Rattle.rv32im_machine.specs.declared.language.Operation.TheVariants.{Result, Decision, Target}
use Rattle.rv32im_machine.specs.declared.language.Work.{Work}
use Rattle.rv32im_machine.specs.declared.language.Work.TheVariants.{Shaped as ShapedWork, Computed as ComputedWork}
use Rattle.rv32im_machine.specs.declared.language.Aim.{Aim}
use Rattle.rv32im_machine.specs.declared.language.Aim.TheVariants.{Put, Decide, Give}
use Rattle.rv32im_machine.specs.declared.language.Passing.{Passing}
use Rattle.rv32im_machine.specs.declared.language.Seen.{Seen}
use Rattle.rv32im_machine.specs.declared.language.Seen.TheVariants.{Word, Base}
use Rattle.rv32im_machine.specs.State.{Setting, Control, Store, State, register_of, byte_of, joined, word_at, with_register, with_byte, saved, restored}

-- how a value is made, without the values
pub data Making : Type 0 where
  Shaped : Shape → Making
  Computed : Operation → Making

pub data Turn : Type 0 where
  -- a look at a word or at a base register, which is no passing
  Looks : Seen → (ℕ → Turn) → Turn
  -- a passing whose value goes to a place
  Passes : Point → Place → Making → Sources → Turn → Turn
  -- a passing on whose value the rest of the turn may depend
  Decides : Point → Making → Sources → (ℕ → Turn) → Turn
  -- an output of a region at its leave: the place's value passes, and what goes on is put back
  Gives : Point → Place → Turn → Turn
  -- a write that passes no slot
  Moves : Place → Shape → Source → Turn → Turn
  -- the entry of a region keeps every register
  Saves : Turn → Turn
  -- the leave of a region: a replay puts these registers back to what was kept
  Restores : List ℕ → Turn → Turn
  Ends : Control → Turn

pub data Walk : Type 0 where
  Looked : Seen → ℕ → Walk → Walk
  Passed : Passing → (ℕ → Walk) → Walk
  Moved : Place → Shape → Source → ℕ → Walk → Walk
  Saved : Walk → Walk
  -- the registers, what follows where they stay, and what follows where they are put back
  Restored : List ℕ → Walk → Walk → Walk
  Ended : State → Walk

-- the two operands that have gone on in this turn
pub record Held : Type 0 where
  pub first : ℕ
  pub second : ℕ

abbrev pub none_held : Held
none_held = record { first = 0; second = 0 }

-- ---- values

abbrev pub at_place : ℕ → Store → Held → Place → ℕ
at_place base store held (Register register) = register_of store register
at_place base store held (Byte address) = byte_of base store address
at_place base store held First = held.first
at_place base store held Second = held.second

abbrev pub value_of : Setting → List ℕ → Store → Held → Source → ℕ
value_of setting secret store held (At place) = at_place setting.base store held place
value_of setting secret store held (Constant value) = value
value_of setting secret store held (Secret index) = slice_index secret index

abbrev pub values_of : Setting → List ℕ → Store → Held → Sources → List ℕ
values_of setting secret store held (One source) = value_of setting secret store held source ∷ []
values_of setting secret store held (Two first second) =
    value_of setting secret store held first ∷ value_of setting secret store held second ∷ []
values_of setting secret store held (BytesOne address) = byte_of setting.base store address ∷ []
values_of setting secret store held (BytesTwo address) =
    byte_of setting.base store address ∷ byte_of setting.base store (address + 1) ∷ []
values_of setting secret store held (BytesFour address) =
    byte_of setting.base store address ∷ byte_of setting.base store (address + 1)
    ∷ byte_of setting.base store (address + 2) ∷ byte_of setting.base store (address + 3) ∷ []

-- the same for bytes of memory, which no operand and no secret has a part in
abbrev pub bytes_at : State → Sources → List ℕ
bytes_at state sources = values_of state.setting state.secret state.store none_held sources

abbrev pub seen_value : ℕ → Store → Seen → ℕ
seen_value base store (Word address) = word_at base store address
seen_value base store (Base register) = register_of store register

-- ---- makings

abbrev pub first_of : List ℕ → ℕ
first_of [] = 0
first_of (value ∷ values) = value

abbrev pub second_of : List ℕ → ℕ
second_of [] = 0
second_of (value ∷ values) = first_of values

abbrev pub part_of : Part → ℕ → ℕ
part_of Byte0 word = word % 256
part_of Byte1 word = word / 256 % 256
part_of Byte2 word = word / 65536 % 256
part_of Byte3 word = word / 16777216 % 256

abbrev pub shaped : Shape → List ℕ → ℕ
shaped Copied values = first_of values
shaped (Extended kind) values = extended kind (joined values)
shaped (PartShape part) values = part_of part (first_of values)

abbrev pub computed : Operation → ℕ → ℕ → ℕ
computed (Result kind) first second = op_result kind first second
computed (Decision kind) first second = decision kind first second
computed Target first second = target_of first second

abbrev pub made : Making → List ℕ → ℕ
made (Shaped shape) values = shaped shape values
made (Computed operation) values = computed operation (first_of values) (second_of values)

abbrev pub work_of : Making → List ℕ → Work
work_of (Shaped shape) values = ShapedWork shape
work_of (Computed operation) values = ComputedWork operation (first_of values) (second_of values)

-- what passes a point, made in this way of these sources with these values
abbrev pub passing : Point → Aim → Making → Sources → List ℕ → Passing
passing point aim making sources values =
    record { point = point; aim = aim; work = work_of making values; sources = sources; value = made making values }

-- ---- writes

abbrev pub put : ℕ → Place → ℕ → Store → Store
put base (Register register) value store = with_register register value store
put base (Byte address) value store = with_byte base address value store
put base First value store = store
put base Second value store = store

abbrev pub hold : Place → ℕ → Held → Held
hold (Register register) value held = held
hold (Byte address) value held = held
hold First value held = record { first = value; second = held.second }
hold Second value held = record { first = held.first; second = value }

-- ---- the turn as it is walked, on this setting and secret

unfoldable pub walked : Setting → List ℕ → Turn → Store → Held → Walk
walked setting secret (Looks seen go) store held =
    Looked seen (seen_value setting.base store seen)
    (walked setting secret (go (seen_value setting.base store seen)) store held)
walked setting secret (Passes point place making sources turn) store held =
    Passed (passing point (Put place) making sources (values_of setting secret store held sources))
    (λ value. walked setting secret turn (put setting.base place value store) (hold place value held))
walked setting secret (Decides point making sources go) store held =
    Passed (passing point Decide making sources (values_of setting secret store held sources))
    (λ value. walked setting secret (go value) store held)
walked setting secret (Gives point place turn) store held =
    Passed (passing point (Give place) (Shaped Copied) (One (At place)) (at_place setting.base store held place ∷ []))
    (λ value. walked setting secret turn (put setting.base place value store) (hold place value held))
walked setting secret (Moves place shape source turn) store held =
    Moved place shape source (shaped shape (value_of setting secret store held source ∷ []))
    (walked setting secret turn
    (put setting.base place (shaped shape (value_of setting secret store held source ∷ [])) store)
    (hold place (shaped shape (value_of setting secret store held source ∷ [])) held))
walked setting secret (Saves turn) store held = Saved (walked setting secret turn (saved store) held)
walked setting secret (Restores registers turn) store held =
    Restored registers (walked setting secret turn store held)
    (walked setting secret turn (restored registers store) held)
walked setting secret (Ends control) store held =
    Ended (record { setting = setting; secret = secret; control = control; store = store })

-- a turn from the values of a state
abbrev pub walk : State → Turn → Store → Held → Walk
walk state turn store held = walked state.setting state.secret turn store held

-- a turn from a state
abbrev pub turn_walk : State → Turn → Walk
turn_walk state turn = walk state turn state.store none_held

-- a state after a change of its store, and of its control
abbrev pub with_store : Store → State → State
with_store store state = record state { store = store }

abbrev pub with_control : Control → State → State
with_control control state = record state { control = control }
