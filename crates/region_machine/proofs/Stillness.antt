-- A guest that has exited or is stopped stands still.
use Rattle.std.proofs.Common.{◌≡◌, refl, ap, ◌∙◌, List, None}
use Rattle.rv32im_machine.specs.declared.stepping.Stepped.{Stepped}
use Rattle.rv32im_machine.specs.declared.stepping.Stepped.TheVariants.{Ran, Exited, Stopped}
use Rattle.rv32im_machine.specs.State.{State, Setting, Control}
use Rattle.rv32im_machine.specs.Language.{Ends, Ended, walked, none_held}
use Rattle.rv32im_machine.specs.Rows.{turn_in, walk_of}
use Rattle.enclosure_regions.specs.declared.region_parts.Region.{Region}
use Rattle.region_machine.specs.Enclosures.{Kind, Steps, kind_of, kind_in}
use Rattle.region_machine.specs.Guests.{guest_walk, kind_walk}

-- it has exited, or is stopped
abbrev pub IsOver : Stepped → Type 0
IsOver Ran = ⊥
IsOver (Exited status) = Unit {0}
IsOver (Stopped fault) = Unit {0}

still_turn : (mode : Stepped) (setting : Setting) (control : Control) → IsOver mode →
    turn_in mode setting control ≡ Ends control
still_turn Ran setting control h = absurd h
still_turn (Exited status) setting control h = refl
still_turn (Stopped fault) setting control h = refl

pub still_walk : (state : State) → IsOver state.control.mode → walk_of state ≡ Ended state
unfolding walked
still_walk state h =
    ap (λ t. walked state.setting state.secret t state.store none_held)
    (still_turn state.control.mode state.setting state.control h)

still_in : (mode : Stepped) (regions : List Region) (control : Control) → IsOver mode →
    kind_in mode regions control ≡ Steps None
still_in Ran regions control h = absurd h
still_in (Exited status) regions control h = refl
still_in (Stopped fault) regions control h = refl

-- such a guest makes a step, which leaves it as it is
pub still_kind : (regions : List Region) (control : Control) → IsOver control.mode →
    kind_of regions control ≡ Steps None
still_kind regions control h = still_in control.mode regions control h

pub still_guest : (regions : List Region) (state : State) → IsOver state.control.mode →
    guest_walk regions state ≡ Ended state
still_guest regions state h =
    ap (λ (k : Kind). kind_walk k state) (still_kind regions state.control h) ∙ still_walk state h
