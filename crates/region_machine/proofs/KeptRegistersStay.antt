-- What outputs that pass, registers that are put back and places that are cleared leave as they are.
use Rattle.std.proofs.Common.{◌≡◌, ℕ, suc, ◌+◌, List, [], ◌∷◌, refl, ◌∙◌}
use Rattle.flow_base.specs.declared.points.Slot.TheVariants.{OutRange}
use Rattle.rv32im_machine.specs.declared.language.Place.TheVariants.{Byte}
use Rattle.rv32im_machine.specs.declared.language.Source.TheVariants.{Constant}
use Rattle.rv32im_machine.specs.declared.language.Shape.TheVariants.{Copied}
use Rattle.rv32im_machine.specs.State.{State, Store, with_register, with_byte, restored}
use Rattle.rv32im_machine.specs.Language.{Turn, Gives, Moves, with_store}
use Rattle.std.specs.Prelude.{slice_index}
use Rattle.enclosure_regions.specs.declared.region_parts.Region.{Region}
use Rattle.region_machine.specs.Guests.{output_point, gives_bytes, clears_bytes}
use Rattle.region_machine.specs.Within.{Stays}

pub stays_register : (state : State) (register value : ℕ) →
    Stays state (with_store (with_register register value state.store) state)
unfolding with_register
stays_register state register value = (refl, refl, refl)

pub stays_byte : (state : State) (base address value : ℕ) →
    Stays state (with_store (with_byte base address value state.store) state)
unfolding with_byte
stays_byte state base address value = (refl, refl, refl)

kept_register : (store : Store) (register value : ℕ) → (with_register register value store).kept ≡ store.kept
unfolding with_register
kept_register store register value = refl

pub kept_restored : (registers : List ℕ) (store : Store) → (restored registers store).kept ≡ store.kept
unfolding restored
kept_restored [] store = refl
kept_restored (register ∷ registers) store =
    kept_restored registers (with_register register (slice_index store.kept register) store)
    ∙ kept_register store register (slice_index store.kept register)

pub stays_restored : (state : State) (registers : List ℕ) →
    Stays state (with_store (restored registers state.store) state)
stays_restored state registers = (refl, refl, kept_restored registers state.store)

pub stays_same : (state : State) → Stays state state
stays_same state = (refl, refl, refl)

pub stays_more : (first second third : State) → Stays first second → Stays second third → Stays first third
stays_more first second third h k = (k.0 ∙ h.0, k.1 ∙ h.1, k.2 ∙ h.2)

-- ---- one round over the bytes of a range

pub gives_bytes_none : (region : Region) (number address count : ℕ) (turn : Turn) → count ≡ 0 →
    gives_bytes region number address count turn ≡ turn
unfolding gives_bytes
gives_bytes_none region number address count turn e = rw e refl

pub gives_bytes_more : (region : Region) (number address count rest : ℕ) (turn : Turn) → count ≡ suc rest →
    gives_bytes region number address count turn
    ≡ Gives (output_point region (OutRange number)) (Byte address) (gives_bytes region number (address + 1) rest turn)
unfolding gives_bytes
gives_bytes_more region number address count rest turn e = rw e refl

pub clears_bytes_none : (address count : ℕ) (turn : Turn) → count ≡ 0 → clears_bytes address count turn ≡ turn
unfolding clears_bytes
clears_bytes_none address count turn e = rw e refl

pub clears_bytes_more : (address count rest : ℕ) (turn : Turn) → count ≡ suc rest →
    clears_bytes address count turn ≡ Moves (Byte address) Copied (Constant 0) (clears_bytes (address + 1) rest turn)
unfolding clears_bytes
clears_bytes_more address count rest turn e = rw e refl
