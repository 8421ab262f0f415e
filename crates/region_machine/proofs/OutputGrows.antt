-- The output of a run only grows in a turn of a guest with regions, real or skipping a region.
use Rattle.std.proofs.Common.{◌≡◌, ℕ, zero, suc, ◌+◌, List, [], ◌∷◌, ◌++◌, ap, sym, ◌∙◌, refl, append_assoc, append-nil}
use Rattle.std.proofs.Common.{Bool, true, false, Option, Some, None}
use Rattle.std.specs.Prelude.{if◌then◌else◌}
use Rattle.rv32im_machine.specs.State.{State, Setting, Control, Store, onward, moved_to, entered, ended, public_taken}
use Rattle.rv32im_machine.specs.State.{secret_taken, break_moved, emitted, saved}
use Rattle.rv32im_machine.specs.Language.{Turn, Walk, Ends, Saves, Held, none_held, walked, turn_walk}
use Rattle.rv32im_machine.specs.Rows.{walk_of}
use Rattle.rv32im_machine.specs.Folds.{real_end}
use Rattle.enclosure_regions.specs.declared.region_parts.Range.{Range}
use Rattle.enclosure_regions.specs.declared.region_parts.Region.{Region}
use Rattle.enclosure_regions.specs.Turns.{start_of}
use Rattle.region_machine.specs.Enclosures.{Kind, Enters, Leaves, Steps, kind_of}
use Rattle.region_machine.specs.Guests.{entry, gives, gives_bytes, gives_ranges, gives_registers}
use Rattle.region_machine.specs.Guests.{clears_bytes, clears_ranges, clears_registers, guest_walk, kind_walk, leave}
use Rattle.region_machine.specs.Guests.{looks, looks_at, skip}
use Rattle.region_machine.proofs.CarriedToEnds.{Always, AtEnds, Carries, CarriesCalls, Follows, ends_walked, step_ends}
use Rattle.region_machine.proofs.CarriedToEnds.{real_at_end}

-- the output begins with these bytes
abbrev pub Longer : List ℕ → List ℕ → Type 0
Longer base output = (more : List ℕ) × (output ≡ base ++ more)

pub longer_self : (base : List ℕ) → Longer base base
longer_self base = ([], sym (append-nil base))

pub longer_more : (first second third : List ℕ) → Longer first second → Longer second third → Longer first third
longer_more first second third (p, e) (q, f) = (p ++ q, f ∙ (ap (λ s. s ++ q) e ∙ append_assoc first p q))

longer_byte : (base output : List ℕ) (byte : ℕ) → Longer base output → Longer base (output ++ byte ∷ [])
longer_byte base output byte (p, e) = (p ++ byte ∷ [], ap (λ s. s ++ byte ∷ []) e ∙ append_assoc base p (byte ∷ []))

-- ---- the turns of regions, at whose ends this holds of the control

always_gives_registers : (Q : Control → Type 0) (region : Region) (registers : List ℕ) (turn : Turn) →
    Always Q turn → Always Q (gives_registers region registers turn)
unfolding gives_registers
always_gives_registers Q region [] turn h = h
always_gives_registers Q region (register ∷ registers) turn h = always_gives_registers Q region registers turn h

always_gives_bytes : (count : ℕ) (Q : Control → Type 0) (region : Region) (number address : ℕ) (turn : Turn) →
    Always Q turn → Always Q (gives_bytes region number address count turn)
unfolding gives_bytes
always_gives_bytes zero Q region number address turn h = h
always_gives_bytes (suc count) Q region number address turn h =
    always_gives_bytes count Q region number (address + 1) turn h

always_gives_ranges : (Q : Control → Type 0) (region : Region) (registers : List ℕ) (number : ℕ) (ranges : List Range)
    (turn : Turn) → Always Q turn → Always Q (gives_ranges region registers number ranges turn)
unfolding gives_ranges
always_gives_ranges Q region registers number [] turn h = h
always_gives_ranges Q region registers number (range ∷ ranges) turn h =
    always_gives_bytes range.length Q region number (start_of registers range) _
    (always_gives_ranges Q region registers (number + 1) ranges turn h)

always_gives : (Q : Control → Type 0) (region : Region) (registers : List ℕ) (turn : Turn) → Always Q turn →
    Always Q (gives region registers turn)
always_gives Q region registers turn h =
    always_gives_registers Q region region.outs _ (always_gives_ranges Q region registers 0 region.ranges turn h)

always_clears_registers : (Q : Control → Type 0) (registers : List ℕ) (turn : Turn) → Always Q turn →
    Always Q (clears_registers registers turn)
unfolding clears_registers
always_clears_registers Q [] turn h = h
always_clears_registers Q (register ∷ registers) turn h = always_clears_registers Q registers turn h

always_clears_bytes : (count : ℕ) (Q : Control → Type 0) (address : ℕ) (turn : Turn) → Always Q turn →
    Always Q (clears_bytes address count turn)
unfolding clears_bytes
always_clears_bytes zero Q address turn h = h
always_clears_bytes (suc count) Q address turn h = always_clears_bytes count Q (address + 1) turn h

always_clears_ranges : (Q : Control → Type 0) (registers : List ℕ) (ranges : List Range) (turn : Turn) →
    Always Q turn → Always Q (clears_ranges registers ranges turn)
unfolding clears_ranges
always_clears_ranges Q registers [] turn h = h
always_clears_ranges Q registers (range ∷ ranges) turn h =
    always_clears_bytes range.length Q (start_of registers range) _ (always_clears_ranges Q registers ranges turn h)

-- the end of a leave, and of a skip
pub leave_ends : (Q : Control → Type 0) (P : State → Type 0) (state : State) (region : Region) →
    Follows Q P state.setting state.store.kept → Q (entered 0 state.control) →
    AtEnds P (turn_walk state (leave region state.store.kept state.control))
leave_ends Q P state region f h =
    ends_walked Q P state.setting state.secret state.store.kept _ state.store none_held f refl
    (always_gives Q region state.store.kept (Ends (entered 0 state.control)) h)

pub skip_ends : (Q : Control → Type 0) (P : State → Type 0) (state : State) (region : Region) →
    Follows Q P state.setting state.store.kept → Q (moved_to region.leave state.control) →
    AtEnds P (turn_walk state (skip region state.store.registers state.control))
skip_ends Q P state region f h =
    ends_walked Q P state.setting state.secret state.store.kept _ state.store none_held f refl
    (always_clears_registers Q region.outs _ (always_clears_ranges Q state.store.registers region.ranges _
    (always_gives Q region state.store.registers (Ends (moved_to region.leave state.control)) h)))

-- the end of an entry
looked_at : (P : State → Type 0) (setting : Setting) (secret : List ℕ) (base : Option ℕ) (turn : Turn) (store : Store)
    (held : Held) → AtEnds P (walked setting secret turn store held) →
    AtEnds P (walked setting secret (looks_at base turn) store held)
unfolding walked
looked_at P setting secret None turn store held h = h
looked_at P setting secret (Some register) turn store held h = h

looked : (P : State → Type 0) (setting : Setting) (secret : List ℕ) (ranges : List Range) (turn : Turn) (store : Store)
    (held : Held) → AtEnds P (walked setting secret turn store held) →
    AtEnds P (walked setting secret (looks ranges turn) store held)
unfolding looks
looked P setting secret [] turn store held h = h
looked P setting secret (range ∷ ranges) turn store held h =
    looked_at P setting secret range.base (looks ranges turn) store held
    (looked P setting secret ranges turn store held h)

-- the state after an entry
abbrev pub after_entry : Region → State → State
after_entry region state = record {
  setting = state.setting;
  secret = state.secret;
  control = entered region.id state.control;
  store = saved state.store;
}

saved_end : (P : State → Type 0) (state : State) (region : Region) → P (after_entry region state) →
    AtEnds P (walked state.setting state.secret (Saves (Ends (entered region.id state.control))) state.store none_held)
unfolding walked
saved_end P state region h = h

pub entry_ends : (P : State → Type 0) (state : State) (region : Region) → P (after_entry region state) →
    AtEnds P (turn_walk state (entry region state.control))
entry_ends P state region h =
    looked P state.setting state.secret region.ranges (Saves (Ends (entered region.id state.control))) state.store
    none_held (saved_end P state region h)

-- ---- the output

abbrev pub HasOutput : List ℕ → Control → Type 0
HasOutput base control = Longer base control.output

abbrev pub EndsLonger : List ℕ → State → Type 0
EndsLonger base state = Longer base state.control.output

carries_output : (base : List ℕ) → Carries (HasOutput base)
unfolding onward moved_to ended
carries_output base =
    record { goes = λ control h. h; jumped = λ pc control h. h; stopped = λ fault control h. h }

carries_output_on : (base : List ℕ) → CarriesCalls (HasOutput base)
unfolding public_taken secret_taken break_moved emitted ended
carries_output_on base = record {
  publics = λ control h. h;
  secrets = λ control h. h;
  breaks = λ value control h. h;
  emits = λ byte control h. longer_byte base control.output byte h;
  exited = λ status control h. h;
}

pub step_extends : (state : State) → AtEnds (EndsLonger state.control.output) (walk_of state)
step_extends state =
    step_ends (HasOutput state.control.output) (EndsLonger state.control.output) state
    (carries_output state.control.output) (carries_output_on state.control.output) (λ secret control store e h. h)
    (longer_self state.control.output)

pub leave_extends : (state : State) (region : Region) →
    AtEnds (EndsLonger state.control.output) (turn_walk state (leave region state.store.kept state.control))
unfolding entered
leave_extends state region =
    leave_ends (HasOutput state.control.output) (EndsLonger state.control.output) state region
    (λ secret control store e h. h) (longer_self state.control.output)

pub skip_extends : (state : State) (region : Region) →
    AtEnds (EndsLonger state.control.output) (turn_walk state (skip region state.store.registers state.control))
unfolding moved_to
skip_extends state region =
    skip_ends (HasOutput state.control.output) (EndsLonger state.control.output) state region
    (λ secret control store e h. h) (longer_self state.control.output)

pub entry_extends : (state : State) (region : Region) →
    AtEnds (EndsLonger state.control.output) (turn_walk state (entry region state.control))
unfolding entered
entry_extends state region =
    entry_ends (EndsLonger state.control.output) state region (longer_self state.control.output)

pub kind_extends : (kind : Kind) (state : State) → AtEnds (EndsLonger state.control.output) (kind_walk kind state)
kind_extends (Enters region) state = entry_extends state region
kind_extends (Leaves region) state = leave_extends state region
kind_extends (Steps region) state = step_extends state

pub either_walk : (P : State → Type 0) (test : Bool) (first second : Walk) → AtEnds P first → AtEnds P second →
    AtEnds P (if test then first else second)
either_walk P true first second h k = h
either_walk P false first second h k = k

-- a turn of the real run
pub real_grows : (regions : List Region) (state : State) →
    (more : List ℕ) × ((real_end (guest_walk regions state)).control.output ≡ state.control.output ++ more)
real_grows regions state =
    real_at_end (EndsLonger state.control.output) (guest_walk regions state)
    (kind_extends (kind_of regions state.control) state)
