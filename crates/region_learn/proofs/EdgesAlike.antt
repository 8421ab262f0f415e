-- What a turn does depends on the numbers and addresses of regions alone.
use Rattle.std.proofs.Common.{◌≡◌, ◌∙◌, ◌+◌, ◌-◌, ◌==◌, ℕ, zero, suc, Bool, List, [], ◌∷◌, Option, Some, None, map}
use Rattle.std.proofs.Common.{refl, sym, ap, inl, inr}
use Rattle.std.specs.Prelude.{option_map, slice_index, slice_set}
use Rattle.std.specs.List.{find}
use Rattle.std.proofs.lemmas.Bool.{cases_Bool, cond-false, cond-true}
use Rattle.std.proofs.lemmas.List.{set-get_or}
use Rattle.rv32im_machine.specs.declared.stepping.Stepped.{Stepped}
use Rattle.rv32im_machine.specs.declared.stepping.Stepped.TheVariants.{Ran, Exited, Stopped}
use Rattle.rv32im_machine.specs.State.{Control, Setting, State, Store, entered, with_byte, with_register}
use Rattle.rv32im_machine.specs.Language.{Held, Turn, Ends, Saves, walked, none_held}
use Rattle.rv32im_machine.specs.Folds.{real_end}
use Rattle.enclosure_regions.specs.declared.region_parts.Range.{Range}
use Rattle.enclosure_regions.specs.declared.region_parts.Region.{Region}
use Rattle.enclosure_regions.specs.Turns.{start_of}
use Rattle.region_machine.specs.Enclosures.{Kind, Enters, Leaves, Steps, kind_in, kind_of, kind_outside, kind_within}
use Rattle.region_machine.specs.Enclosures.{region_entered_at, region_numbered}
use Rattle.region_machine.specs.Guests.{gives_bytes, gives_ranges, gives_registers, guest_walk, kind_walk, looks}
use Rattle.region_machine.specs.Guests.{looks_at}
use Rattle.region_learn.specs.Written.{bare}

-- ---- the kind of a turn

abbrev pub bare_kind : Kind → Kind
bare_kind (Enters region) = Enters (bare region)
bare_kind (Leaves region) = Leaves (bare region)
bare_kind (Steps None) = Steps None
bare_kind (Steps (Some region)) = Steps (Some (bare region))

find_bare : (test : Region → Bool) (regions : List Region) → ((region : Region) → test (bare region) ≡ test region) →
    find test (map bare regions) ≡ option_map bare (find test regions)
find_bare test [] same = refl
find_bare test (region ∷ regions) same = elim (cases_Bool (test region)) [
  | inl here ↦
      cond-true (test (bare region)) (Some (bare region)) (find test (map bare regions)) (same region ∙ here)
      ∙ sym (ap (option_map bare) (cond-true (test region) (Some region) (find test regions) here))
  | inr later ↦
      cond-false (test (bare region)) (Some (bare region)) (find test (map bare regions)) (same region ∙ later)
      ∙ (find_bare test regions same
      ∙ sym (ap (option_map bare) (cond-false (test region) (Some region) (find test regions) later)))
]

numbered_bare : (regions : List Region) (number : ℕ) →
    region_numbered (map bare regions) number ≡ option_map bare (region_numbered regions number)
numbered_bare regions number = elim (cases_Bool (number == 0)) [
  | inl none ↦
      cond-true (number == 0) None (find (λ region. region.id == number) (map bare regions)) none
      ∙ sym (ap (option_map bare) (cond-true (number == 0) None (find (λ region. region.id == number) regions) none))
  | inr some ↦
      cond-false (number == 0) None (find (λ region. region.id == number) (map bare regions)) some
      ∙ (find_bare (λ region. region.id == number) regions (λ region. refl)
      ∙ sym (ap (option_map bare) (cond-false (number == 0) None (find (λ region. region.id == number) regions) some)))
]

outside_bare : (found : Option Region) → kind_outside (option_map bare found) ≡ bare_kind (kind_outside found)
outside_bare None = refl
outside_bare (Some region) = refl

within_bare : (regions : List Region) (inside : Option Region) (pc : ℕ) →
    kind_within (map bare regions) (option_map bare inside) pc ≡ bare_kind (kind_within regions inside pc)
within_bare regions None pc =
    ap kind_outside (find_bare (λ region. region.enter == pc) regions (λ region. refl))
    ∙ outside_bare (region_entered_at regions pc)
within_bare regions (Some region) pc = elim (cases_Bool (region.leave == pc)) [
  | inl at ↦
      cond-true (region.leave == pc) (Leaves (bare region)) (Steps (Some (bare region))) at
      ∙ sym (ap bare_kind (cond-true (region.leave == pc) (Leaves region) (Steps (Some region)) at))
  | inr off ↦
      cond-false (region.leave == pc) (Leaves (bare region)) (Steps (Some (bare region))) off
      ∙ sym (ap bare_kind (cond-false (region.leave == pc) (Leaves region) (Steps (Some region)) off))
]

in_bare : (mode : Stepped) (regions : List Region) (control : Control) →
    kind_in mode (map bare regions) control ≡ bare_kind (kind_in mode regions control)
in_bare Ran regions control =
    ap (λ (o : Option Region). kind_within (map bare regions) o control.pc) (numbered_bare regions control.region)
    ∙ within_bare regions (region_numbered regions control.region) control.pc
in_bare (Exited status) regions control = refl
in_bare (Stopped fault) regions control = refl

pub kind_bare : (regions : List Region) (control : Control) →
    kind_of (map bare regions) control ≡ bare_kind (kind_of regions control)
kind_bare regions control = in_bare control.mode regions control

-- ---- looks, and outputs that pass

look_one : (setting : Setting) (secret : List ℕ) (store : Store) (held : Held) (base : Option ℕ) (turn : Turn) →
    real_end (walked setting secret (looks_at base turn) store held) ≡ real_end (walked setting secret turn store held)
unfolding real_end walked
look_one setting secret store held None turn = refl
look_one setting secret store held (Some register) turn = refl

looked : (setting : Setting) (secret : List ℕ) (store : Store) (held : Held) (ranges : List Range) (turn : Turn) →
    real_end (walked setting secret (looks ranges turn) store held) ≡ real_end (walked setting secret turn store held)
unfolding real_end walked looks
looked setting secret store held [] turn = refl
looked setting secret store held (range ∷ ranges) turn =
    look_one setting secret store held range.base (looks ranges turn)
    ∙ looked setting secret store held ranges turn

register_same : (store : Store) (register : ℕ) →
    with_register register (slice_index store.registers register) store ≡ store
unfolding with_register
register_same store register = elim (cases_Bool (register == 0)) [
  | inl none ↦
      ap (λ (l : List ℕ). record store { registers = l })
      (cond-true (register == 0) store.registers
      (slice_set store.registers register (slice_index store.registers register)) none)
  | inr some ↦
      ap (λ (l : List ℕ). record store { registers = l })
      (cond-false (register == 0) store.registers
      (slice_set store.registers register (slice_index store.registers register)) some
      ∙ set-get_or store.registers register 0)
]

byte_same : (base address : ℕ) (store : Store) →
    with_byte base address (slice_index store.memory (address - base)) store ≡ store
unfolding with_byte
byte_same base address store =
    ap (λ (l : List ℕ). record store { memory = l }) (set-get_or store.memory (address - base) 0)

given_registers : (region : Region) (setting : Setting) (secret : List ℕ) (store : Store) (held : Held)
    (registers : List ℕ) (turn : Turn) →
    real_end (walked setting secret (gives_registers region registers turn) store held)
    ≡ real_end (walked setting secret turn store held)
unfolding real_end walked gives_registers
given_registers region setting secret store held [] turn = refl
given_registers region setting secret store held (register ∷ registers) turn =
    ap (λ (s : Store). real_end (walked setting secret (gives_registers region registers turn) s held))
    (register_same store register)
    ∙ given_registers region setting secret store held registers turn

given_bytes : (region : Region) (number : ℕ) (setting : Setting) (secret : List ℕ) (store : Store) (held : Held)
    (address count : ℕ) (turn : Turn) →
    real_end (walked setting secret (gives_bytes region number address count turn) store held)
    ≡ real_end (walked setting secret turn store held)
unfolding real_end walked gives_bytes
given_bytes region number setting secret store held address zero turn = refl
given_bytes region number setting secret store held address (suc count) turn =
    ap (λ (s : Store). real_end (walked setting secret (gives_bytes region number (address + 1) count turn) s held))
    (byte_same setting.base address store)
    ∙ given_bytes region number setting secret store held (address + 1) count turn

given_ranges : (region : Region) (kept : List ℕ) (number : ℕ) (setting : Setting) (secret : List ℕ) (store : Store)
    (held : Held) (ranges : List Range) (turn : Turn) →
    real_end (walked setting secret (gives_ranges region kept number ranges turn) store held)
    ≡ real_end (walked setting secret turn store held)
unfolding gives_ranges
given_ranges region kept number setting secret store held [] turn = refl
given_ranges region kept number setting secret store held (range ∷ ranges) turn =
    given_bytes region number setting secret store held (start_of kept range) range.length
    (gives_ranges region kept (number + 1) ranges turn)
    ∙ given_ranges region kept (number + 1) setting secret store held ranges turn

-- ---- turns

alike : (kind : Kind) (state : State) → real_end (kind_walk (bare_kind kind) state) ≡ real_end (kind_walk kind state)
unfolding real_end walked looks gives_registers gives_ranges
alike (Enters region) state =
    sym (looked state.setting state.secret state.store none_held region.ranges
    (Saves (Ends (entered region.id state.control))))
alike (Leaves region) state =
    sym (given_registers region state.setting state.secret state.store none_held region.outs
    (gives_ranges region state.store.kept 0 region.ranges (Ends (entered 0 state.control)))
    ∙ given_ranges region state.store.kept 0 state.setting state.secret state.store none_held region.ranges
    (Ends (entered 0 state.control)))
alike (Steps None) state = refl
alike (Steps (Some region)) state = refl

pub edges_alike : (regions : List Region) (state : State) →
    real_end (guest_walk (map bare regions) state) ≡ real_end (guest_walk regions state)
edges_alike regions state =
    ap (λ (k : Kind). real_end (kind_walk k state)) (kind_bare regions state.control)
    ∙ alike (kind_of regions state.control) state
