-- Of two runs that agree outside masks: where nothing but a mask says what is equal, and what is decided.
use Rattle.std.proofs.Common.{◌≡◌, ℕ, ◌^◌, ◌<◌, Bool, true, false, Option, Some, None, refl}
use Rattle.std.specs.Prelude.{◌==◌, if◌then◌else◌}
use Rattle.std.proofs.lemmas.Bool.{eqb-true}
use Rattle.flow_base.specs.declared.points.Point.{Point}
use Rattle.flow_base.specs.Words.{Agree}
use Rattle.rv32im_machine.specs.declared.language.Aim.TheVariants.{Decide}
use Rattle.replay_machine.specs.Runs.{Masks}
use Rattle.shadow_masks.specs.Pages.{label_of}
use Rattle.acceptance_law.specs.Sides.{NamedSide}
use Rattle.acceptance_law.proofs.WritesKeepRelation.{Close, close_label_of}
use Rattle.masked_turns.specs.declared.uses.LeftBits.{LeftBits}
use Rattle.masked_turns.specs.Deciding.{left_at}
use Rattle.flow_base.specs.Points.{nowhere}

-- every label is inside: values are only known to agree outside its mask
abbrev pub everything : NamedSide
everything = record { first = λ point. true; second = λ point. true; relay = λ region. true }

pub close_of : (mask real copy : ℕ) → Agree mask real copy → Close everything (label_of mask nowhere) real copy
close_of mask real copy agree =
    close_label_of everything mask nowhere real copy agree (λ outside. let both : true ≡ false = outside in absurd (cc))

-- no mask has bits past a word
abbrev pub AreSmall : Masks → Type 0
AreSmall masks = (point : Point) (visit : ℕ) → masks point visit < 2 ^ 32

abbrev left_if : Bool → Point → ℕ → Option LeftBits
left_if t point mask = if t then None else Some (record { point = point; mask = mask })

-- what is decided without a reason has no mask
pub decided_none : (point : Point) (mask : ℕ) → left_at Decide point mask ≡ None → mask ≡ 0
decided_none point mask e = pick (mask == 0) refl e
  where
    pick : (t : Bool) → (mask == 0) ≡ t → left_if t point mask ≡ None → mask ≡ 0
    pick true is none = eqb-true mask 0 is
    pick false is none = absurd (cc)
