-- No turn changes the setting of a guest.
use Rattle.std.proofs.Common.{◌≡◌, List, refl}
use Rattle.rv32im_machine.specs.State.{State, Setting, Control}
use Rattle.rv32im_machine.specs.Folds.{real_end}
use Rattle.enclosure_regions.specs.declared.region_parts.Region.{Region}
use Rattle.region_machine.specs.Enclosures.{Kind, Enters, Leaves, Steps, kind_of}
use Rattle.region_machine.specs.Guests.{guest_walk, kind_walk}
use Rattle.region_machine.proofs.CarriedToEnds.{AtEnds, Carries, CarriesCalls, step_ends, real_at_end}
use Rattle.region_machine.proofs.OutputGrows.{entry_ends, leave_ends}

abbrev HasSetting : Setting → State → Type 0
HasSetting setting state = state.setting ≡ setting

abbrev Any : Control → Type 0
Any control = Unit {0}

carries : Carries Any
carries = record { goes = λ control h. tt; jumped = λ pc control h. tt; stopped = λ fault control h. tt }

carries_on : CarriesCalls Any
carries_on = record {
  publics = λ control h. tt;
  secrets = λ control h. tt;
  breaks = λ value control h. tt;
  emits = λ byte control h. tt;
  exited = λ status control h. tt;
}

kind_settings : (kind : Kind) (state : State) → AtEnds (HasSetting state.setting) (kind_walk kind state)
kind_settings (Enters region) state = entry_ends (HasSetting state.setting) state region refl
kind_settings (Leaves region) state =
    leave_ends Any (HasSetting state.setting) state region (λ secret control store e h. refl) tt
kind_settings (Steps region) state =
    step_ends Any (HasSetting state.setting) state carries carries_on (λ secret control store e h. refl) tt

pub same_setting : (regions : List Region) (state : State) →
    (real_end (guest_walk regions state)).setting ≡ state.setting
same_setting regions state =
    real_at_end (HasSetting state.setting) (guest_walk regions state)
    (kind_settings (kind_of regions state.control) state)
