-- A passing that gives out again what its place gave before leaves the labels as they are.
use Rattle.std.proofs.Common.{◌≡◌, ℕ, ◌==◌, Bool, true, false, List, [], ◌∷◌, ◌++◌, refl, sym, ap, ◌∙◌, if◌then◌else◌}
use Rattle.std.proofs.lemmas.Bool.{eqb-true}
use mathlib.Core.Path.{fun_ext}
use Rattle.flow_base.specs.declared.points.Point.{Point}
use Rattle.flow_graph.specs.declared.events.Event.{Event}
use Rattle.flow_graph.specs.declared.events.Event.TheVariants.{Pass, Link, Out}
use Rattle.flow_graph.specs.Events.{again_events}
use Rattle.rv32im_machine.specs.declared.language.Passing.{Passing}
use Rattle.rv32im_machine.specs.declared.language.Place.TheVariants.{Byte}
use Rattle.rv32im_machine.specs.declared.language.Source.TheVariants.{At}
use Rattle.rv32im_machine.specs.declared.language.Sources.TheVariants.{One}
use Rattle.shadow_masks.specs.declared.labels.Label.{Label}
use Rattle.shadow_masks.specs.Labels.{clean}
use Rattle.shadow_masks.specs.Pages.{label_of}
use Rattle.shadow_masks.specs.Writes.{LabelMap, ToByte, after}
use Rattle.run_labels.specs.Flowing.{aim_events, flow_events, link_from, sources_events}
use Rattle.run_labels.specs.Masks.{labels_after, mask_of}
use Rattle.run_labels.specs.TurnLabels.{TurnLabels, aim_label, put_label}
use Rattle.tracked_run.specs.Private.Again.{GivesAgain}
use Rattle.tracked_run.specs.Linking.{masked_events}

-- ---- a byte that gets the label that it has

same_byte : (bytes : ℕ → Label) (address : ℕ) (label : Label) → bytes address ≡ label → (a : ℕ) →
    (if a == address then label else bytes a) ≡ bytes a
same_byte bytes address label has a = by (a == address) refl
  where
    by : (b : Bool) → (a == address) ≡ b → (if b then label else bytes a) ≡ bytes a
    by true e = sym has ∙ ap bytes (sym (eqb-true a address e))
    by false e = refl

same_map : (map : LabelMap) (address : ℕ) (label : Label) → map.bytes address ≡ label →
    after (ToByte address label) map ≡ map
same_map map address label has =
    let bytes : (λ a. if a == address then label else map.bytes a) ≡ map.bytes =
    fun_ext (same_byte map.bytes address label has) in
    λ i. record { registers = map.registers; kept = map.kept; bytes = bytes i }

same_labels : (labels : TurnLabels) (address : ℕ) (label : Label) → labels.map.bytes address ≡ label →
    put_label (Byte address) label labels ≡ labels
same_labels labels address label has =
    let map : after (ToByte address label) labels.map ≡ labels.map = same_map labels.map address label has in
    λ i. record { map = map i; first = labels.first; second = labels.second }

labelled : (mask : ℕ) (point : Point) → (mask == 0) ≡ false → label_of mask point ≡ record { mask = mask; point = point }
labelled mask point some = ap (λ b. if b then clean else record { mask = mask; point = point }) some

pub labels_stay : (labels : TurnLabels) (passing : Passing) (mask : ℕ) → (mask == 0) ≡ false →
    GivesAgain labels passing mask → (answer : ℕ) → mask ≡ mask_of labels answer passing →
    labels ≡ labels_after labels answer passing
labels_stay labels passing mask some again answer is =
    sym (ap (λ m. aim_label passing.aim (label_of m passing.point) labels) (sym is)
    ∙ (ap (λ label. aim_label passing.aim label labels) (labelled mask passing.point some)
    ∙ (ap (λ aim. aim_label aim (record { mask = mask; point = passing.point }) labels) again.aim
    ∙ same_labels labels again.address (record { mask = mask; point = passing.point }) again.label)))

-- ---- its events

pub events_again : (labels : TurnLabels) (passing : Passing) (mask : ℕ) → (mask == 0) ≡ false →
    GivesAgain labels passing mask → again_events passing.point mask ≡ masked_events labels mask passing
events_again labels passing mask some again =
    let p : Point = passing.point in
    let outs : List Event = Out p.region p ∷ [] in
    let link : link_from (labels.map.bytes again.address) p ++ outs ≡ Link p p ∷ outs =
    ap (λ label. link_from label p ++ outs) again.label ∙ ap (λ b. (if b then [] else Link p p ∷ []) ++ outs) some in
    let flow : flow_events labels passing ≡ Link p p ∷ outs =
    ap (λ sources. sources_events labels p sources ++ aim_events p passing.aim) again.sources
    ∙ (ap (λ aim. sources_events labels p (One (At (Byte again.address))) ++ aim_events p aim) again.aim ∙ link) in
    sym (ap (λ b. Pass p mask ∷ (if b then [] else flow_events labels passing)) some
    ∙ ap (λ events. Pass p mask ∷ events) flow)
