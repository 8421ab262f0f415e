-- A state of which each place and each kept register is within its limit is a guest's.
use Rattle.std.proofs.Common.{ℕ, ◌+◌, ◌^◌, ◌<◌, ◌≤◌, List, arith, subst, ◌≡◌}
use Rattle.std.specs.Prelude.{◌-◌, slice_index}
use Rattle.rv32im_machine.specs.declared.language.Place.{Place}
use Rattle.rv32im_machine.specs.declared.language.Place.TheVariants.{Byte, Register}
use Rattle.rv32im_machine.specs.Language.{at_place, none_held}
use Rattle.rv32im_machine.specs.State.{Control, Setting, Store}
use Rattle.acceptance_law.specs.Inputs.{AreBytes, IsProperGuest, place_limit}
use Rattle.acceptance_law.proofs.StepsKeepStanding.{state_of}

pub guest_within : (setting : Setting) (secret : List ℕ) (control : Control) (store : Store) → AreBytes secret →
    AreBytes setting.public_input → setting.start_break < 2 ^ 32 → control.current_break < 2 ^ 32 →
    ((place : Place) → at_place setting.base store none_held place ≤ place_limit place) →
    ((register : ℕ) → slice_index store.kept register ≤ 4294967295) → IsProperGuest (state_of setting secret control store)
guest_within setting secret control store bytes public_bytes small_start small_break limits kept_words = record {
  store = record {
    registers = λ r. let limit = limits (Register r) in omega (arith, limit);
    kept = λ r. let limit = kept_words r in omega (arith, limit);
    memory = λ i. byte i;
  };
  secret = bytes;
  public_input = public_bytes;
  start_break = small_start;
  current_break = small_break;
}
  where
    byte : (i : ℕ) → slice_index store.memory i < 256
    byte i =
        let limit : slice_index store.memory (setting.base + i - setting.base) ≤ 255 =
        limits (Byte (setting.base + i)) in
        let same : setting.base + i - setting.base ≡ i = omega arith in
        let here : slice_index store.memory i ≤ 255 = subst (λ k. slice_index store.memory k ≤ 255) same limit in
        omega (arith, here)
