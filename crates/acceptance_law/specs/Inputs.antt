-- What is asked of the turns of a guest, and what its states are like: registers hold words, bytes are below 256, what
-- passes a slot fits its width, and the bytes that are named do not lie below guest memory.
use Rattle.std.specs.Prelude.{◌≡◌, ℕ, ◌≤◌, ◌<◌, ◌^◌, false, List, [], ◌∷◌, slice_index}
use Rattle.flow_base.specs.declared.points.Point.{Point}
use Rattle.flow_base.specs.Points.{width_of, is_output_slot}
use Rattle.rv32im_machine.specs.declared.language.Operation.{Operation}
use Rattle.rv32im_machine.specs.declared.language.Operation.TheVariants.{Result, Decision, Target}
use Rattle.rv32im_machine.specs.declared.language.Place.{Place}
use Rattle.rv32im_machine.specs.declared.language.Place.TheVariants.{Register, Byte, First, Second}
use Rattle.rv32im_machine.specs.declared.language.Seen.{Seen}
use Rattle.rv32im_machine.specs.declared.language.Seen.TheVariants.{Word, Base}
use Rattle.rv32im_machine.specs.declared.language.Shape.{Shape}
use Rattle.rv32im_machine.specs.declared.language.Source.{Source}
use Rattle.rv32im_machine.specs.declared.language.Source.TheVariants.{At, Constant, Secret}
use Rattle.rv32im_machine.specs.declared.language.Sources.{Sources}
use Rattle.rv32im_machine.specs.declared.language.Sources.TheVariants.{One, Two, Byte as BytesOne, Half as BytesTwo}
use Rattle.rv32im_machine.specs.declared.language.Sources.TheVariants.{Word as BytesFour}
use Rattle.rv32im_machine.specs.State.{Store, State}
use Rattle.rv32im_machine.specs.Language.{Turn, Looks, Passes, Decides, Gives, Moves, Saves, Restores, Ends, Making}
use Rattle.rv32im_machine.specs.Language.{Shaped, Computed, shaped, computed}

-- ---- values and states

abbrev pub AreAllWords : List ℕ → Type 0
AreAllWords values = (index : ℕ) → slice_index values index < 2 ^ 32

abbrev pub AreBytes : List ℕ → Type 0
AreBytes values = (index : ℕ) → slice_index values index < 256

-- the values of a guest
pub record IsGuestStore (store : Store) : Type 0 where
  pub registers : AreAllWords store.registers
  pub kept : AreAllWords store.kept
  pub memory : AreBytes store.memory

-- a guest: its values, the bytes of its inputs, and its break
pub record IsProperGuest (state : State) : Type 0 where
  pub store : IsGuestStore state.store
  pub secret : AreBytes state.secret
  pub public_input : AreBytes state.setting.public_input
  pub start_break : state.setting.start_break < 2 ^ 32
  pub current_break : state.control.current_break < 2 ^ 32

-- ---- sources

-- a byte that is named does not lie below guest memory
abbrev pub IsProperPlace : ℕ → Place → Type 0
IsProperPlace base (Register register) = Unit {0}
IsProperPlace base (Byte address) = base ≤ address
IsProperPlace base First = Unit {0}
IsProperPlace base Second = Unit {0}

abbrev pub IsProperSource : ℕ → Source → Type 0
IsProperSource base (At place) = IsProperPlace base place
IsProperSource base (Constant value) = value < 2 ^ 32
IsProperSource base (Secret index) = Unit {0}

abbrev pub AreProperSources : ℕ → Sources → Type 0
AreProperSources base (One source) = IsProperSource base source
AreProperSources base (Two first second) = IsProperSource base first × IsProperSource base second
AreProperSources base (BytesOne address) = base ≤ address
AreProperSources base (BytesTwo address) = base ≤ address
AreProperSources base (BytesFour address) = base ≤ address

-- the greatest value that a place may have, and a source
abbrev pub place_limit : Place → ℕ
place_limit (Register register) = 4294967295
place_limit (Byte address) = 255
place_limit First = 4294967295
place_limit Second = 4294967295

abbrev pub source_limit : Source → ℕ
source_limit (At place) = place_limit place
source_limit (Constant value) = 4294967295
source_limit (Secret index) = 255

-- ---- makings

-- of a passing that moves bits about: whatever its sources may hold, the value is within a width
abbrev pub FitsShape : ℕ → Shape → Sources → Type 0
FitsShape width shape (One source) =
    (value : ℕ) → value ≤ source_limit source → shaped shape (value ∷ []) ≤ width
FitsShape width shape (Two first second) = ⊥
FitsShape width shape (BytesOne address) = (a : ℕ) → a ≤ 255 → shaped shape (a ∷ []) ≤ width
FitsShape width shape (BytesTwo address) = (a b : ℕ) → a ≤ 255 → b ≤ 255 → shaped shape (a ∷ b ∷ []) ≤ width
FitsShape width shape (BytesFour address) =
    (a b c d : ℕ) → a ≤ 255 → b ≤ 255 → c ≤ 255 → d ≤ 255 → shaped shape (a ∷ b ∷ c ∷ d ∷ []) ≤ width

-- of what is computed: the greatest result
abbrev pub operation_limit : Operation → ℕ
operation_limit (Result kind) = 4294967295
operation_limit (Decision kind) = 1
operation_limit Target = 4294967295

-- it is computed from operands that have gone on, or from one and a number of the program; a target from such a number
abbrev pub AreOperands : Operation → Sources → Type 0
AreOperands operation (One source) = ⊥
AreOperands (Result kind) (Two (At First) (At Second)) = Unit {0}
AreOperands (Result kind) (Two (At First) (Constant value)) = Unit {0}
AreOperands (Decision kind) (Two (At First) (At Second)) = Unit {0}
AreOperands Target (Two (At First) (Constant value)) = Unit {0}
AreOperands other sources = ⊥

-- the values of a passing fit the width of its slot
abbrev pub FitsSlot : Point → Making → Sources → Type 0
FitsSlot point (Shaped shape) sources = FitsShape (width_of point.slot) shape sources
FitsSlot point (Computed operation) sources =
    AreOperands operation sources × (width_of point.slot ≡ operation_limit operation)
    × ((first second : ℕ) → first < 2 ^ 32 → second < 2 ^ 32 →
    computed operation first second ≤ operation_limit operation)

-- a slot of the turn of an instruction in this region
pub record IsPassing (base region : ℕ) (point : Point) (making : Making) (sources : Sources) : Type 0 where
  pub inside : point.region ≡ region
  pub no_output : is_output_slot point.slot ≡ false
  pub named : AreProperSources base sources
  pub fits : FitsSlot point making sources

-- what passes is put into a place whose values fit the slot's width too
abbrev pub FitsPlace : ℕ → Point → Place → Type 0
FitsPlace base point place = IsProperPlace base place × (width_of point.slot ≤ place_limit place)

-- what is moved is a part of a word, or a number of the program
abbrev pub IsMove : ℕ → Place → Shape → Source → Type 0
IsMove base place shape (At source) =
    IsProperPlace base place × IsProperPlace base source
    × ((value : ℕ) → value ≤ place_limit source → shaped shape (value ∷ []) ≤ place_limit place)
IsMove base place shape (Constant value) =
    IsProperPlace base place × (shaped shape (value ∷ []) ≤ place_limit place)
IsMove base place shape (Secret index) = ⊥

abbrev pub IsLook : ℕ → Seen → Type 0
IsLook base (Word address) = base ≤ address
IsLook base (Base register) = Unit {0}

-- ---- turns

-- the turn of an instruction in this region, over a guest memory with this base
unfoldable pub IsProper : ℕ → ℕ → Turn → Type 0
IsProper base region (Looks seen go) =
    IsLook base seen × ((value : ℕ) → value < 2 ^ 32 → IsProper base region (go value))
IsProper base region (Passes point place making sources turn) =
    IsPassing base region point making sources × FitsPlace base point place × IsProper base region turn
IsProper base region (Decides point making sources go) =
    IsPassing base region point making sources
    × ((value : ℕ) → value < 2 ^ 32 → IsProper base region (go value))
IsProper base region (Gives point place turn) = ⊥
IsProper base region (Moves place shape source turn) = IsMove base place shape source × IsProper base region turn
IsProper base region (Saves turn) = ⊥
IsProper base region (Restores registers turn) = ⊥
IsProper base region (Ends control) = (control.current_break < 2 ^ 32) × (control.region ≡ region)
