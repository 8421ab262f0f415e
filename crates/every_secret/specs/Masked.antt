-- One turn of a masked replay: it asks for the bits that are chosen, and stops where it would look at, or decide by, bits
-- that may differ and have not crossed.
use Rattle.std.specs.Prelude.{ℕ, Bool, false, not, List, Option, Some, None, if◌then◌else◌}
use Rattle.flow_base.specs.declared.points.Point.{Point}
use Rattle.flow_base.specs.Points.{nowhere}
use Rattle.flow_base.specs.Words.{patched}
use Rattle.crossing_bits.specs.Askers.{Asker, Asks, Over}
use Rattle.rv32im_machine.specs.declared.language.Place.{Place}
use Rattle.rv32im_machine.specs.declared.language.Place.TheVariants.{Register, Byte, First, Second}
use Rattle.rv32im_machine.specs.declared.language.Shape.{Shape}
use Rattle.rv32im_machine.specs.declared.language.Source.{Source}
use Rattle.rv32im_machine.specs.declared.language.Source.TheVariants.{At, Constant, Secret}
use Rattle.rv32im_machine.specs.Language.{Walk, Looked, Passed, Moved, Saved, Restored, Ended}
use Rattle.rv32im_machine.specs.State.{State}
use Rattle.replay_machine.specs.declared.outsides.Outside.{Outside}
use Rattle.shadow_masks.specs.declared.labels.Label.{Label}
use Rattle.shadow_masks.specs.Pages.{label_of}
use Rattle.shadow_masks.specs.Writes.{LabelMap}
use Rattle.run_labels.specs.Masks.{moved_label}
use Rattle.run_labels.specs.TurnLabels.{TurnLabels, put_label, save_labels, restore_labels}
use Rattle.masked_turns.specs.declared.uses.LeftBits.{LeftBits}
use Rattle.masked_turns.specs.declared.uses.SecretLook.{SecretLook}
use Rattle.masked_turns.specs.declared.uses.SecretLook.TheVariants.{Code, BaseRegister}
use Rattle.masked_turns.specs.Clearing.{Cutting}
use Rattle.masked_turns.specs.Deciding.{left_at}
use Rattle.masked_turns.specs.Looking.{look_at}
use Rattle.every_secret.specs.declared.public_inputs.PublicInput.{PublicInput}
use Rattle.every_secret.specs.declared.whys.UnclearWhy.{UnclearWhy}
use Rattle.every_secret.specs.declared.whys.UnclearWhy.TheVariants.{SecretCode, BaseSecret, Left}
use Rattle.every_secret.specs.Rules.{Rules, public_mask}
use Rattle.every_secret.specs.Shown.{asked_for, shown_at}
use Rattle.every_secret.specs.Visits.{Knowledge, differing_at, known_after, left_of_mask}

-- where a walk stands between two turns
pub record MaskedPlace : Type 0 where
  pub state : State
  pub past : List Point
  pub labels : LabelMap
  pub crossed : ℕ
  pub byte_masks : List ℕ
  pub status_mask : ℕ

-- a turn comes to a place, meets what makes the walk unclear, or would enter or skip a region with a range outside of
-- guest memory
pub data Reached : Type 0 where
  Goes : MaskedPlace → Reached
  Meets : UnclearWhy → Reached
  Halts : Outside → Reached

-- something that may differ is looked at, or bits that are left decide
abbrev pub unclear_by_look : Option SecretLook → Option UnclearWhy
unclear_by_look None = None
unclear_by_look (Some (Code pc)) = Some (SecretCode pc)
unclear_by_look (Some (BaseRegister region register)) = Some (BaseSecret region register)

abbrev pub unclear_by_left : Option LeftBits → Option UnclearWhy
unclear_by_left None = None
unclear_by_left (Some left) = Some (Left left.point left.mask)

-- the rest of the turn, unless something is met
abbrev pub unless_met : Option UnclearWhy → Asker Reached → Asker Reached
unless_met None rest = rest
unless_met (Some why) rest = Over (Meets why)

-- a byte of memory that is put from no place is one of the public input, but for a skip, which clears outputs
abbrev pub is_public_byte : Place → Source → Bool → Bool
is_public_byte (Byte address) (Constant value) skipped = not skipped
is_public_byte (Byte address) (At place) skipped = false
is_public_byte (Byte address) (Secret index) skipped = false
is_public_byte (Register register) source skipped = false
is_public_byte First source skipped = false
is_public_byte Second source skipped = false

-- the label of what is moved to a place, in a turn that may be the skip of a region
abbrev pub label_moved : PublicInput → Bool → TurnLabels → Place → Shape → Source → Label
label_moved public skipped labels place shape source =
    if is_public_byte place source skipped then label_of (public_mask public) nowhere
    else moved_label labels shape source

-- what is known at the end of a turn that has come to this state
abbrev pub place_of : State → Knowledge → MaskedPlace
place_of state known = record {
  state = state;
  past = known.past;
  labels = known.labels.map;
  crossed = known.crossed;
  byte_masks = known.byte_masks;
  status_mask = known.status_mask;
}

-- a turn, which may look at base registers at the entry of the region with this number
unfoldable pub masked : Rules → Cutting → ℕ → Knowledge → Walk → Asker Reached
masked rules cutting region known (Looked seen value walk) =
    unless_met (unclear_by_look (look_at region known.labels seen)) (masked rules cutting region known walk)
masked rules cutting region known (Passed passing go) =
    Asks (asked_for (shown_at passing.point.slot) (differing_at rules cutting known passing)) (λ bits.
    unless_met (unclear_by_left (left_at passing.aim passing.point (left_of_mask rules cutting known passing)))
    (masked rules cutting region (known_after rules cutting known passing)
    (go (patched passing.value (differing_at rules cutting known passing) bits))))
masked rules cutting region known (Moved place shape source value walk) =
    masked rules cutting region
    (record known { labels = put_label place (label_moved rules.public cutting.skipped known.labels place shape source) known.labels }) walk
masked rules cutting region known (Saved walk) =
    masked rules cutting region (record known { labels = save_labels known.labels }) walk
masked rules cutting region known (Restored registers walk back) =
    masked rules cutting region (record known { labels = restore_labels registers known.labels }) back
masked rules cutting region known (Ended state) = Over (Goes (place_of state known))
