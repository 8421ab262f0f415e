-- Two walks that know the same of all masks within a turn, and pass the same points.
use Rattle.std.proofs.Common.{◌≡◌, ℕ, suc, ◌+◌, ◌≤◌, ◌<◌, Bool, true, false, List, [], ◌∷◌, refl, ap, ap₂, ◌∙◌}
use Rattle.std.proofs.Common.{arith}
use Rattle.std.specs.Prelude.{◌==◌, ◌&&◌, nat_lt, if◌then◌else◌}
use Rattle.flow_base.specs.declared.points.Point.{Point}
use Rattle.flow_base.specs.Listed.{is_listed}
use Rattle.flow_base.specs.Points.{nowhere}
use Rattle.flow_base.specs.PointOrders.{is_same}
use Rattle.rv32im_machine.specs.declared.language.Aim.{Aim}
use Rattle.rv32im_machine.specs.declared.language.Aim.TheVariants.{Put, Decide, Give}
use Rattle.rv32im_machine.specs.declared.language.Place.{Place}
use Rattle.rv32im_machine.specs.declared.language.Place.TheVariants.{Register, Byte, First, Second}
use Rattle.rv32im_machine.specs.declared.language.Shape.{Shape}
use Rattle.rv32im_machine.specs.declared.language.Source.{Source}
use Rattle.rv32im_machine.specs.declared.language.Source.TheVariants.{At, Constant, Secret}
use Rattle.rv32im_machine.specs.declared.language.Sources.{Sources}
use Rattle.rv32im_machine.specs.declared.language.Sources.TheVariants.{One, Two, Byte as BytesOne, Half as BytesTwo}
use Rattle.rv32im_machine.specs.declared.language.Sources.TheVariants.{Word as BytesFour}
use Rattle.rv32im_machine.specs.Language.{shaped}
use Rattle.replay_machine.specs.Runs.{Masks, mask_at, times_passed}
use Rattle.lockstep_replay.specs.Verdicts.{counted_bits}
use Rattle.run_labels.specs.Masks.{masks_of, moved_label, source_mask}
use Rattle.run_labels.specs.TurnLabels.{TurnLabels, aim_label, label_at, put_label, restore_labels, save_labels}
use Rattle.shadow_masks.specs.declared.labels.Label.{Label}
use Rattle.shadow_masks.specs.Labels.{clean}
use Rattle.shadow_masks.specs.Pages.{label_of}
use Rattle.shadow_masks.specs.Writes.{LabelMap}
use Rattle.masked_turns.specs.Clearing.{Cutting}
use Rattle.every_secret.specs.Masked.{is_public_byte, label_moved}
use Rattle.every_secret.specs.Rules.{Rules, public_mask}

-- ---- masks

-- the labels have the same masks, whatever their points are
pub record SameMap (map other : LabelMap) : Type 0 where
  pub registers : (register : ℕ) → (map.registers register).mask ≡ (other.registers register).mask
  pub kept : (register : ℕ) → (map.kept register).mask ≡ (other.kept register).mask
  pub bytes : (address : ℕ) → (map.bytes address).mask ≡ (other.bytes address).mask

pub record SameLabels (labels others : TurnLabels) : Type 0 where
  pub map : SameMap labels.map others.map
  pub first : labels.first.mask ≡ others.first.mask
  pub second : labels.second.mask ≡ others.second.mask

pub same_at : {labels others : TurnLabels} → SameLabels labels others → (place : Place) →
    (label_at labels place).mask ≡ (label_at others place).mask
same_at same (Register register) = same.map.registers register
same_at same (Byte address) = same.map.bytes address
same_at same First = same.first
same_at same Second = same.second

pub same_source : {labels others : TurnLabels} → SameLabels labels others → (source : Source) →
    source_mask labels source ≡ source_mask others source
same_source same (At place) = same_at same place
same_source same (Constant value) = refl
same_source same (Secret index) = refl

pub same_masks : {labels others : TurnLabels} → SameLabels labels others → (sources : Sources) →
    masks_of labels sources ≡ masks_of others sources
same_masks same (One source) = ap (λ m. m ∷ []) (same_source same source)
same_masks same (Two first second) = ap₂ (λ m n. m ∷ n ∷ []) (same_source same first) (same_source same second)
same_masks same (BytesOne address) = ap (λ m. m ∷ []) (same.map.bytes address)
same_masks same (BytesTwo address) =
    ap₂ (λ m n. m ∷ n ∷ []) (same.map.bytes address) (same.map.bytes (address + 1))
same_masks same (BytesFour address) = λ i.
    same.map.bytes address i ∷ same.map.bytes (address + 1) i ∷ same.map.bytes (address + 2) i
    ∷ same.map.bytes (address + 3) i ∷ []

-- ---- what gets a label

pick_mask : (test : Bool) (label other kept held : Label) → label.mask ≡ other.mask → kept.mask ≡ held.mask →
    (if test then label else kept).mask ≡ (if test then other else held).mask
pick_mask true label other kept held e k = e
pick_mask false label other kept held e k = k

pub same_label : (mask other : ℕ) (point at : Point) → mask ≡ other →
    (label_of mask point).mask ≡ (label_of other at).mask
same_label mask other point at e =
    pick_mask (mask == 0) clean clean (record { mask = mask; point = point }) (record { mask = mask; point = at }) refl
    refl
    ∙ ap (λ m. (label_of m at).mask) e

same_moved : {labels others : TurnLabels} → SameLabels labels others → (shape : Shape) (source : Source) →
    (moved_label labels shape source).mask ≡ (moved_label others shape source).mask
same_moved {labels} {others} same shape (At place) =
    same_label (shaped shape ((label_at labels place).mask ∷ [])) (shaped shape ((label_at others place).mask ∷ []))
    (label_at labels place).point (label_at others place).point (ap (λ m. shaped shape (m ∷ [])) (same_at same place))
same_moved same shape (Constant value) = refl
same_moved same shape (Secret index) = refl

-- the same label in both, or labels that are the same
pick_label : (t : Bool) (label usual other : Label) → usual.mask ≡ other.mask →
    (if t then label else usual).mask ≡ (if t then label else other).mask
pick_label true label usual other e = refl
pick_label false label usual other e = e

pub same_label_moved : (rules : Rules) (cutting : Cutting) {labels others : TurnLabels} → SameLabels labels others →
    (place : Place) (shape : Shape) (source : Source) →
    (label_moved rules.public cutting.skipped labels place shape source).mask
    ≡ (label_moved rules.public cutting.skipped others place shape source).mask
same_label_moved rules cutting same place shape source =
    pick_label (is_public_byte place source cutting.skipped) (label_of (public_mask rules.public) nowhere) _ _
    (same_moved same shape source)

pub same_put : {labels others : TurnLabels} → SameLabels labels others → (place : Place) (label other : Label) →
    label.mask ≡ other.mask → SameLabels (put_label place label labels) (put_label place other others)
same_put {labels} {others} same (Register register) label other e = record {
  map = record {
    registers = λ r. pick_mask (nat_lt 0 r && r == register) label other (labels.map.registers r)
        (others.map.registers r) e (same.map.registers r);
    kept = same.map.kept;
    bytes = same.map.bytes;
  };
  first = same.first;
  second = same.second;
}
same_put {labels} {others} same (Byte address) label other e = record {
  map = record {
    registers = same.map.registers;
    kept = same.map.kept;
    bytes = λ a. pick_mask (a == address) label other (labels.map.bytes a) (others.map.bytes a) e (same.map.bytes a);
  };
  first = same.first;
  second = same.second;
}
same_put same First label other e = record { map = same.map; first = e; second = same.second }
same_put same Second label other e = record { map = same.map; first = same.first; second = e }

pub same_aimed : {labels others : TurnLabels} → SameLabels labels others → (aim : Aim) (label other : Label) →
    label.mask ≡ other.mask → SameLabels (aim_label aim label labels) (aim_label aim other others)
same_aimed same (Put place) label other e = same_put same place label other e
same_aimed same Decide label other e = same
same_aimed same (Give place) label other e = same_put same place label other e

pub same_saved : {labels others : TurnLabels} → SameLabels labels others →
    SameLabels (save_labels labels) (save_labels others)
same_saved same = record {
  map = record { registers = same.map.registers; kept = same.map.registers; bytes = same.map.bytes };
  first = same.first;
  second = same.second;
}

pub same_restored : {labels others : TurnLabels} → SameLabels labels others → (registers : List ℕ) →
    SameLabels (restore_labels registers labels) (restore_labels registers others)
same_restored {labels} {others} same registers = record {
  map = record {
    registers = λ r. pick_mask (is_listed registers r) (labels.map.kept r) (others.map.kept r) (labels.map.registers r)
        (others.map.registers r) (same.map.kept r) (same.map.registers r);
    kept = same.map.kept;
    bytes = same.map.bytes;
  };
  first = same.first;
  second = same.second;
}

-- ---- the masks of the cut that are ahead

abbrev pub SameVisits : Masks → List Point → List Point → Type 0
SameVisits masks past other =
    (point : Point) (visit : ℕ) → 1 ≤ visit →
    masks point (times_passed point past + visit) ≡ masks point (times_passed point other + visit)

pub same_crossing : (masks : Masks) (past other : List Point) → SameVisits masks past other → (point : Point) →
    mask_at masks past point ≡ mask_at masks other point
same_crossing masks past other same point =
    let here : suc (times_passed point past) ≡ times_passed point past + 1 = omega arith in
    let there : times_passed point other + 1 ≡ suc (times_passed point other) = omega arith in
    ap (λ n. masks point n) here ∙ (same point 1 (omega arith) ∙ ap (λ n. masks point n) there)

pub same_passed : (masks : Masks) (past other : List Point) → SameVisits masks past other → (point : Point) →
    SameVisits masks (point ∷ past) (point ∷ other)
same_passed masks past other same point at visit first = by (is_same at point)
  where
    by : (test : Bool) →
        masks at ((if test then suc (times_passed at past) else times_passed at past) + visit)
        ≡ masks at ((if test then suc (times_passed at other) else times_passed at other) + visit)
    by true =
        let here : suc (times_passed at past) + visit ≡ times_passed at past + suc visit = omega arith in
        let there : times_passed at other + suc visit ≡ suc (times_passed at other) + visit = omega arith in
        ap (λ n. masks at n) here ∙ (same at (suc visit) (omega arith) ∙ ap (λ n. masks at n) there)
    by false = same at visit first

-- ---- how many bits have crossed

-- so many bits more have crossed, counted up to 4,294,967,295
pub record Grows (before more after : ℕ) : Type 0 where
  pub exact : after < 4294967295 → after ≡ before + more
  pub within : before + more < 4294967295 → after ≡ before + more
  pub counted : before ≤ 4294967295 → after ≡ counted_bits (before + more)

pub grows_none : (crossed : ℕ) → Grows crossed 0 crossed
grows_none crossed = record {
  exact = λ small. omega arith;
  within = λ small. omega arith;
  counted = λ small. omega (arith, small);
}

pub grows_more : (before more after crossing : ℕ) → Grows before more after →
    Grows before (more + crossing) (counted_bits (after + crossing))
grows_more before more after crossing grows = record {
  exact = λ small. omega (arith, small, grows.exact, grows.within, grows.counted);
  within = λ small. omega (arith, small, grows.exact, grows.within, grows.counted);
  counted = λ small. omega (arith, small, grows.exact, grows.within, grows.counted);
}
