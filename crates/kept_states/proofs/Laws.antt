-- What is kept stays when pieces grow, and walks that one kept state stands for are alike.
use Rattle.std.proofs.Common.{◌≡◌, ℕ, ◌-◌, ◌<◌, List, ◌∙◌, sym, ap, arith, if◌then◌else◌, nat_le}
use Rattle.std.proofs.lemmas.Grind.{same_number_lists}
use Rattle.flow_base.specs.Guests.{memory_size}
use Rattle.cut_file.specs.declared.points.CutPoint.{CutPoint}
use Rattle.rv32im_machine.specs.State.{Setting, State}
use Rattle.rv32im_machine.specs.Standing.{Stand, stand_of}
use Rattle.shadow_masks.specs.Shades.{Shades}
use Rattle.kept_states.specs.declared.kept_states.KeptState.{KeptState}
use Rattle.kept_states.specs.Keeping.{AreLaid, CanReturn, Keeps, StandAlike, laid_mask}
use Rattle.kept_states.specs.Pieces.{Grows}
use Rattle.kept_states.proofs.LaidBytes.{laid_grows, within_grows}

-- what can be put back can be put back later
pub returns_grow : (old new : List ℕ) (kept : KeptState) (setting : Setting) → Grows old new →
    CanReturn old kept setting → CanReturn new kept setting
returns_grow old new kept setting grows can = record {
  fits = can.fits;
  zero = can.zero;
  kept_zero = can.kept_zero;
  memory = within_grows old new kept.memory grows can.memory;
  masks = within_grows old new kept.masks grows can.masks;
}

-- more pieces change nothing in what a state keeps
pub keeps_grows : (old new : List ℕ) (kept : KeptState) (state : State) (shades : Shades) (ahead : List CutPoint)
    (byte_masks : List ℕ) (status_mask : ℕ) → Grows old new →
    Keeps old kept state shades ahead byte_masks status_mask → Keeps new kept state shades ahead byte_masks status_mask
keeps_grows old new kept state shades ahead byte_masks status_mask grows keeps = record {
  standing = keeps.standing;
  memory = record {
    size = keeps.memory.size;
    same = λ index below.
        keeps.memory.same index below ∙ sym (laid_grows old new kept.memory index grows keeps.returns.memory);
  };
  begins = keeps.begins;
  masks = λ address.
      keeps.masks address
      ∙ ap (λ (n : ℕ). if nat_le shades.base address then n else 0)
      (sym (laid_grows old new kept.masks (address - shades.base) grows keeps.returns.masks));
  registers = keeps.registers;
  kept_registers = keeps.kept_registers;
  visits = keeps.visits;
  byte_masks = keeps.byte_masks;
  status_mask = keeps.status_mask;
  returns = returns_grow old new kept state.setting grows keeps.returns;
}

-- ---- one kept state, two walks

made : Setting → List ℕ → Stand → List ℕ → State
made setting secret stand memory = record {
  setting = setting;
  secret = secret;
  control = stand.control;
  store = record { registers = stand.registers; memory = memory; kept = stand.kept };
}

same_state : (state other : State) → state.setting ≡ other.setting → state.secret ≡ other.secret →
    stand_of state ≡ stand_of other → state.store.memory ≡ other.store.memory → state ≡ other
unfolding made
same_state state other setting secret stand memory =
    ap (λ (s : Setting). made s state.secret (stand_of state) state.store.memory) setting
    ∙ ap (λ (s : List ℕ). made other.setting s (stand_of state) state.store.memory) secret
    ∙ ap (λ (s : Stand). made other.setting other.secret s state.store.memory) stand
    ∙ ap (λ (m : List ℕ). made other.setting other.secret (stand_of other) m) memory

same_memory : (pieces memory other : List ℕ) (kept : KeptState) → AreLaid pieces kept.memory memory →
    AreLaid pieces kept.memory other → memory ≡ other
same_memory pieces memory other kept one two =
    same_number_lists memory other (one.size ∙ sym two.size)
    (λ index inside.
    let below : index < memory_size = omega (arith, inside, one.size) in
    one.same index below ∙ sym (two.same index below))

-- walks that one kept state stands for, with one setting and one secret, are alike
pub kept_alike : (pieces : List ℕ) (kept : KeptState) (state other : State) (shades others : Shades)
    (ahead later : List CutPoint) (byte_masks other_masks : List ℕ) (status_mask other_mask : ℕ) →
    Keeps pieces kept state shades ahead byte_masks status_mask →
    Keeps pieces kept other others later other_masks other_mask →
    state.setting ≡ other.setting → state.secret ≡ other.secret →
    StandAlike state other shades others ahead later byte_masks other_masks status_mask other_mask
kept_alike pieces kept state other shades others ahead later byte_masks other_masks status_mask other_mask one two
    setting secret =
    let base : shades.base ≡ others.base =
    one.begins ∙ ap (λ (s : Setting). s.base) setting ∙ sym two.begins in
    record {
      states = same_state state other setting secret (sym one.standing ∙ two.standing)
          (same_memory pieces state.store.memory other.store.memory kept one.memory two.memory);
      masks = λ address.
          one.masks address ∙ ap (λ (b : ℕ). laid_mask pieces kept.masks b address) base ∙ sym (two.masks address);
      registers = λ register below. one.registers register below ∙ sym (two.registers register below);
      kept_registers = λ register below.
          one.kept_registers register below ∙ sym (two.kept_registers register below);
      visits = λ point visit some. sym (one.visits point visit some) ∙ two.visits point visit some;
      byte_masks = sym one.byte_masks ∙ two.byte_masks;
      status_mask = sym one.status_mask ∙ two.status_mask;
    }
