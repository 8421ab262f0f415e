-- For which real states a piece stands, and what it is that a piece is safe.
use Rattle.std.specs.Prelude.{◌≡◌, ◌≢◌, ◌⊎◌, ℕ, ◌+◌, ◌<◌, ◌≤◌, ◌^◌, List, [], ◌∷◌, ◌++◌, length, map, slice_index}
use Rattle.std.specs.Prelude.{zero, suc, Option, Some, None}
use Rattle.flow_base.specs.Guests.{memory_size}
use Rattle.flow_base.specs.Words.{Agree}
use Rattle.enclosure_regions.specs.declared.region_parts.Range.{Range}
use Rattle.enclosure_regions.specs.declared.region_parts.Region.{Region}
use Rattle.enclosure_regions.specs.Turns.{start_of}
use Rattle.rv32im_machine.specs.declared.stepping.Stepped.TheVariants.{Ran}
use Rattle.rv32im_machine.specs.State.{State, Store, byte_of, entered, moved_to, register_of}
use Rattle.rv32im_machine.specs.Folds.{real_end}
use Rattle.region_machine.specs.Enclosures.{Enters, region_numbered}
use Rattle.region_machine.specs.Guests.{kind_walk}
use Rattle.shadow_masks.specs.Shades.{Shades, byte_label, register_label}
use Rattle.piece_cells.specs.Cells.{Bytes, Has, Knows}
use Rattle.piece_cells.specs.declared.cells.Cell.{Cell}
use Rattle.piece_cells.specs.declared.cells.Cell.TheVariants.{Bits as IsBits}
use Rattle.piece_cells.specs.declared.unknowns.Known.{Known}
use Rattle.region_pieces.specs.ComingOut.{ComesOut}
use Rattle.region_pieces.specs.Turns.{Goes, moved}

-- ---- real states

-- the byte at an address is one of guest memory
abbrev pub InMemory : ℕ → ℕ → Type 0
InMemory base address = (base ≤ address) × (address < base + memory_size)

-- 32 words are the registers, and so many bytes are memory
pub record IsGuest (state : State) : Type 0 where
  pub words : (register : ℕ) → register_of state.store register < 2 ^ 32
  pub bytes : (index : ℕ) → slice_index state.store.memory index < 256
  pub registers : length state.store.registers ≡ 32
  pub memory : length state.store.memory ≡ memory_size

-- a region is to be entered from this state, whose bits outside these masks are known
pub record EntryModel : Type 0 where
  pub region : Region
  pub state : State
  pub shades : Shades

-- a real state at the entry, which is as the entry's outside the masks
pub record Agrees (entry : EntryModel) (start : State) : Type 0 where
  pub guest : IsGuest start
  pub mode : start.control.mode ≡ Ran
  pub pc : start.control.pc ≡ entry.region.enter
  pub base : start.setting.base ≡ entry.state.setting.base
  pub registers : (register : ℕ) → register < 32 →
      Agree (register_label entry.shades register).mask (register_of entry.state.store register)
      (register_of start.store register)
  pub memory : (address : ℕ) → InMemory start.setting.base address →
      Agree (byte_label entry.shades address).mask (byte_of start.setting.base entry.state.store address)
      (byte_of start.setting.base start.store address)

-- a real state inside the region at this pc, which came from that state at the entry
pub record IsInside (region : Region) (start : State) (pc : ℕ) (now : State) : Type 0 where
  pub guest : IsGuest now
  pub setting : now.setting ≡ start.setting
  pub secret : now.secret ≡ start.secret
  pub control : now.control ≡ moved_to pc (entered region.id start.control)
  pub kept : now.store.kept ≡ start.store.registers

-- ---- pieces

-- what is known of each register and of the byte at each address, pc, the turns made since the entry, and of which
-- values each unknown byte may be
pub record PieceModel : Type 0 where
  pub registers : ℕ → Cell
  pub memory : ℕ → Cell
  pub pc : ℕ
  pub turns : ℕ
  pub unknowns : List Known

-- by these values of the unknown bytes, a piece stands for a real state that has made so many turns since the entry
pub record StandsBy (region : Region) (bytes : Bytes) (start : State) (piece : PieceModel) (made : ℕ) (now : State) :
    Type 0 where
  pub knows : Knows piece.unknowns bytes
  pub registers : (register : ℕ) → register < 32 →
      Has bytes (piece.registers register) (register_of now.store register)
  pub memory : (address : ℕ) → InMemory now.setting.base address →
      Has bytes (piece.memory address) (byte_of now.setting.base now.store address)
  pub inside : IsInside region start piece.pc now
  pub turns : made ≤ piece.turns

-- a piece stands for a real state
pub record Stands (region : Region) (start : State) (piece : PieceModel) (turns : ℕ) (now : State) : Type 0 where
  pub bytes : Bytes
  pub by : StandsBy region bytes start piece turns now

-- ---- endings

-- what a real state may have at the outputs of a region, and of which values each unknown byte may be
pub record EndingModel : Type 0 where
  pub cells : List Cell
  pub unknowns : List Known

-- bytes of memory from an address on
abbrev pub bytes_from : ℕ → Store → ℕ → ℕ → List ℕ
bytes_from base store address zero = []
bytes_from base store address (suc count) = byte_of base store address ∷ bytes_from base store (address + 1) count

abbrev pub bytes_of_ranges : ℕ → Store → List Range → List ℕ
bytes_of_ranges base store [] = []
bytes_of_ranges base store (range ∷ ranges) =
    bytes_from base store (start_of store.kept range) range.length ++ bytes_of_ranges base store ranges

-- the output registers in order, and then the bytes of the ranges in order, which start where the registers say that were
-- kept
abbrev pub outputs_of : Region → State → List ℕ
outputs_of region now =
    map (λ register. register_of now.store register) region.outs
    ++ bytes_of_ranges now.setting.base now.store region.ranges

-- each of these cells has the value in its place
pub data HasEach (bytes : Bytes) : List Cell → List ℕ → Type 0 where
  None-had : HasEach bytes [] []
  One-had : {cell : Cell} {value : ℕ} {cells : List Cell} {values : List ℕ} → Has bytes cell value →
      HasEach bytes cells values → HasEach bytes (cell ∷ cells) (value ∷ values)

-- the ending has the outputs of a state
pub record HasOutputs (ending : EndingModel) (outputs : List ℕ) : Type 0 where
  pub bytes : Bytes
  pub knows : Knows ending.unknowns bytes
  pub has : HasEach bytes ending.cells outputs

-- one of the endings has these outputs
abbrev pub HaveOutputs : List EndingModel → List ℕ → Type 0
HaveOutputs [] outputs = ⊥
HaveOutputs (ending ∷ endings) outputs = HasOutputs ending outputs ⊎ HaveOutputs endings outputs

-- every output that one of these endings has, one of those has
abbrev pub AreAmong : List EndingModel → List EndingModel → Type 0
AreAmong endings more = (outputs : List ℕ) → HaveOutputs endings outputs → HaveOutputs more outputs

-- ---- what is safe

-- at the leave, where one of the endings has the outputs
pub record IsOut (entry : EntryModel) (endings : List EndingModel) (start now : State) : Type 0 where
  pub inside : IsInside entry.region start entry.region.leave now
  pub outputs : HaveOutputs endings (outputs_of entry.region now)

-- from each real state for which the piece stands, and which came from one that agrees with the entry, the leave is come
-- to within the most turns, and the outputs are among the endings
abbrev pub Safe : EntryModel → List EndingModel → ℕ → PieceModel → Type 0
Safe entry endings most piece =
    (regions : List Region) → region_numbered regions entry.region.id ≡ Some entry.region → (start : State) →
    Agrees entry start → (turns : ℕ) (now : State) → Stands entry.region start piece turns now →
    ComesOut regions entry.region (IsOut entry endings start) most turns now

-- each of these pieces is safe
abbrev pub AreSafe : EntryModel → List EndingModel → ℕ → List PieceModel → Type 0
AreSafe entry endings most [] = Unit {0}
AreSafe entry endings most (piece ∷ pieces) = Safe entry endings most piece × AreSafe entry endings most pieces

-- whatever more endings and more turns are taken, where all these pieces are safe that one is
abbrev pub SafeBy : EntryModel → List EndingModel → ℕ → List PieceModel → PieceModel → Type 0
SafeBy entry endings most pieces piece =
    (more : List EndingModel) (longer : ℕ) → AreAmong endings more → most ≤ longer → AreSafe entry more longer pieces →
    Safe entry more longer piece

-- ---- one turn of a piece

-- one of these pieces stands for a real state
abbrev pub OneStands : Region → State → List PieceModel → ℕ → State → Type 0
OneStands region start [] made now = ⊥
OneStands region start (piece ∷ pieces) made now =
    Stands region start piece made now ⊎ OneStands region start pieces made now

-- the turn of a real state leads to one for which one of these pieces stands
pub record LeadsTo (region : Region) (start : State) (pieces : List PieceModel) (made : ℕ) (now : State) : Type 0 where
  pub pc : ℕ
  pub store : Store
  pub goes : Goes region now pc store
  pub stands : OneStands region start pieces (suc made) (moved pc store now)

-- from each real state for which the piece stands, a turn leads to one for which one of these stands
abbrev pub Leads : EntryModel → PieceModel → List PieceModel → Type 0
Leads entry piece pieces =
    (start : State) → Agrees entry start → (made : ℕ) (now : State) → Stands entry.region start piece made now →
    LeadsTo entry.region start pieces made now

-- for each real state for which the piece stands, one of these stands
abbrev pub Covers : EntryModel → PieceModel → List PieceModel → Type 0
Covers entry piece pieces =
    (start : State) → Agrees entry start → (made : ℕ) (now : State) → Stands entry.region start piece made now →
    OneStands entry.region start pieces made now

-- the new piece has this cell at a register, but for x0, and all others as the old
pub record SetsRegister (register : ℕ) (cell : Cell) (old new : PieceModel) : Type 0 where
  pub there : 0 < register → new.registers register ≡ cell
  pub others : (other : ℕ) → (other ≢ register) ⊎ (register ≡ 0) → new.registers other ≡ old.registers other
  pub memory : (address : ℕ) → new.memory address ≡ old.memory address

-- ---- the entry

-- no bit of a base register of the ranges may differ
abbrev pub IsCleanBase : Shades → Option ℕ → Type 0
IsCleanBase shades None = Unit {0}
IsCleanBase shades (Some register) = (register < 32) × ((register_label shades register).mask ≡ 0)

abbrev pub AreCleanBases : Shades → List Range → Type 0
AreCleanBases shades [] = Unit {0}
AreCleanBases shades (range ∷ ranges) = IsCleanBase shades range.base × AreCleanBases shades ranges

-- the first piece is as the entry: all is bits, one turn was made, and any unknown byte may be 0
pub record IsFirst (entry : EntryModel) (piece : PieceModel) : Type 0 where
  pub registers : (register : ℕ) → register < 32 →
      piece.registers register ≡ IsBits (record {
        value = register_of entry.state.store register;
        mask = (register_label entry.shades register).mask;
      })
  pub memory : (address : ℕ) → InMemory entry.state.setting.base address →
      piece.memory address ≡ IsBits (record {
        value = byte_of entry.state.setting.base entry.state.store address;
        mask = (byte_label entry.shades address).mask;
      })
  pub pc : piece.pc ≡ entry.region.enter
  pub turns : piece.turns ≡ 1
  pub unknowns : Knows piece.unknowns (λ unknown. 0)

-- From each real state that agrees with the entry, the turn of the entry leads to one that comes to the leave within the
-- most turns, the entry and the leave among them, breaks nothing and is not stopped on the way, and has one of the endings.
abbrev pub HoldsFrom : EntryModel → List EndingModel → ℕ → Type 0
HoldsFrom entry endings most =
    (regions : List Region) → region_numbered regions entry.region.id ≡ Some entry.region → (start : State) →
    Agrees entry start →
    ComesOut regions entry.region (IsOut entry endings start) most 1 (real_end (kind_walk (Enters entry.region) start))

-- ---- what is left of the pieces that wait

-- where all those are safe, all these are
abbrev pub Carries : EntryModel → List PieceModel → List PieceModel → Type 0
Carries entry these those =
    (endings : List EndingModel) (most : ℕ) → AreSafe entry endings most those → AreSafe entry endings most these
