-- The masks of a point in all runs have at each visit the bits of each run's mask, and are within the width of its slot.
use Rattle.std.proofs.Common.{◌≡◌, ℕ, zero, suc, ◌≤◌, ◌<◌, ◌∷◌, [], cond, Bool, true, false, List}
use Rattle.std.proofs.Common.{length, get_or, refl, sym, ap, ◌∙◌, arith, max}
use Rattle.std.specs.Prelude.{bit_or}
use Rattle.std.specs.Int.{bit_at}
use Rattle.std.specs.List.{AllByRecursion}
use Rattle.std.proofs.lemmas.Bool.{or_left, or_right}
use Rattle.std.proofs.lemmas.List.Folds.{list_any-append}
use Rattle.std.proofs.lemmas.Nat.{or_lt}
use Rattle.std.proofs.lemmas.Nat.Bits.{bit_at_or}
use Rattle.flow_base.specs.declared.points.Point.{Point}
use Rattle.flow_base.specs.declared.points.Slot.{Slot}
use Rattle.flow_base.specs.declared.points.Slot.TheVariants.{First as FirstSlot, Second as SecondSlot, Address}
use Rattle.flow_base.specs.declared.points.Slot.TheVariants.{Result as ResultSlot, Decision as DecisionSlot, Number}
use Rattle.flow_base.specs.declared.points.Slot.TheVariants.{Arg0, Arg1, Arg2, SecretIn, ByteOut, Status, OutReg}
use Rattle.flow_base.specs.declared.points.Slot.TheVariants.{OutRange}
use Rattle.flow_base.specs.Points.{width_of}
use Rattle.flow_base.specs.PointOrders.{is_same}
use Rattle.flow_base.proofs.PointOrders.{one_if_same}
use Rattle.flow_graph.specs.declared.events.Event.{Event}
use Rattle.flow_graph.specs.declared.events.Event.TheVariants.{Pass, Link, FromSecret, Implicit, Out}
use Rattle.flow_graph.specs.declared.named_links.NamedLink.{NamedLink}
use Rattle.flow_graph.specs.EventGraphs.{is_among, named_links}
use Rattle.acceptance_law.specs.ClosedEvents.{AreProperEvents}
use Rattle.acceptance_law.specs.Covers.{IsMaskWithin}
use Rattle.acceptance_law.specs.RunCuts.{visit_masks}
use Rattle.acceptance_law.proofs.GraphEvents.{all_append, all_more}
use Rattle.many_runs.specs.Uniting.{all_links, united_masks, joined_masks}

-- ---- at each visit

-- the others are as many, and have at each place the bits that the mask there has
pub record IsBelow (masks others : List ℕ) : Type 0 where
  pub few : length masks ≤ length others
  pub within : (n : ℕ) → n < length masks → IsMaskWithin (get_or masks n 0) (get_or others n 0)

below_itself : (masks : List ℕ) → IsBelow masks masks
below_itself masks = record { few = omega arith; within = λ n below i none. none }

below_chain : (a b c : List ℕ) → IsBelow a b → IsBelow b c → IsBelow a c
below_chain a b c first second = record {
  few = let one = first.few in let two = second.few in omega (arith, one, two);
  within = λ n below i none.
      first.within n below i
      (second.within n (let few = first.few in omega (arith, few, below)) i none);
}

below_cons : (m o : ℕ) (masks others : List ℕ) → IsMaskWithin m o → IsBelow masks others → IsBelow (m ∷ masks) (o ∷ others)
below_cons m o masks others here rest = record {
  few = let few = rest.few in omega (arith, few);
  within = at;
}
  where
    at : (n : ℕ) → n < length (m ∷ masks) → IsMaskWithin (get_or (m ∷ masks) n 0) (get_or (o ∷ others) n 0)
    at zero below = here
    at (suc n) below = rest.within n (omega (arith, below))

or_none : (a b i : ℕ) → bit_at (bit_or a b) i ≡ 0 → (bit_at a i ≡ 0) × (bit_at b i ≡ 0)
or_none a b i none =
    let most : max (bit_at a i) (bit_at b i) ≡ 0 = sym (bit_at_or a b i) ∙ none in
    (omega (arith, most), omega (arith, most))

below_none : (masks : List ℕ) → IsBelow [] masks
below_none masks = record { few = omega arith; within = λ n below. absurd (omega arith) }

below_first : (masks others : List ℕ) → IsBelow masks (united_masks masks others)
unfolding united_masks
below_first [] others = below_none others
below_first (m ∷ masks) [] = below_itself (m ∷ masks)
below_first (m ∷ masks) (o ∷ others) =
    below_cons m (bit_or m o) masks (united_masks masks others) (λ i none. (or_none m o i none).0) (below_first masks others)

below_second : (masks others : List ℕ) → IsBelow others (united_masks masks others)
unfolding united_masks
below_second [] others = below_itself others
below_second (m ∷ masks) [] = below_none (m ∷ masks)
below_second (m ∷ masks) (o ∷ others) =
    below_cons o (bit_or m o) others (united_masks masks others) (λ i none. (or_none m o i none).1)
    (below_second masks others)

-- ---- a run is a part of all runs

pub record IsPartOf (runs : List (List Event)) (events : List Event) : Type 0 where
  pub masks : (point : Point) → IsBelow (visit_masks point events) (joined_masks point runs)
  pub links : (link : NamedLink) → is_among (named_links events) link ≡ true → is_among (all_links runs) link ≡ true

part_first : (events : List Event) (runs : List (List Event)) → IsPartOf (events ∷ runs) events
unfolding joined_masks all_links
part_first events runs = record {
  masks = λ point. below_first (visit_masks point events) (joined_masks point runs);
  links = λ link among. list_any-append _ (named_links events) (all_links runs)
      ∙ or_left (is_among (named_links events) link) (is_among (all_links runs) link) among;
}

part_later : (events : List Event) (runs : List (List Event)) (other : List Event) → IsPartOf runs other →
    IsPartOf (events ∷ runs) other
unfolding joined_masks all_links
part_later events runs other part = record {
  masks = λ point. below_chain (visit_masks point other) (joined_masks point runs)
      (united_masks (visit_masks point events) (joined_masks point runs)) (part.masks point)
      (below_second (visit_masks point events) (joined_masks point runs));
  links = λ link among. list_any-append _ (named_links events) (all_links runs)
      ∙ or_right (is_among (named_links events) link) (is_among (all_links runs) link) (part.links link among);
}

pub parts_of : (runs : List (List Event)) → AllByRecursion (IsPartOf runs) runs
parts_of [] = tt
parts_of (events ∷ runs) = (
  part_first events runs,
  all_more (IsPartOf runs) (IsPartOf (events ∷ runs)) (part_later events runs) runs
      (parts_of runs),
)

-- ---- widths

pub FitSlot : Slot → List ℕ → Type 0
FitSlot slot masks = AllByRecursion (λ (mask : ℕ). mask ≤ width_of slot) masks

fits_word : (a b : ℕ) → a ≤ 4294967295 → b ≤ 4294967295 → bit_or a b ≤ 4294967295
fits_word a b first second = let small = or_lt 32 a b (omega arith) (omega arith) in omega (arith, small)

fits_byte : (a b : ℕ) → a ≤ 255 → b ≤ 255 → bit_or a b ≤ 255
fits_byte a b first second = let small = or_lt 8 a b (omega arith) (omega arith) in omega (arith, small)

fits_bit : (a b : ℕ) → a ≤ 1 → b ≤ 1 → bit_or a b ≤ 1
fits_bit a b first second = let small = or_lt 1 a b (omega arith) (omega arith) in omega (arith, small)

fits_or : (slot : Slot) (a b : ℕ) → a ≤ width_of slot → b ≤ width_of slot → bit_or a b ≤ width_of slot
fits_or FirstSlot a b first second = fits_word a b first second
fits_or SecondSlot a b first second = fits_word a b first second
fits_or Address a b first second = fits_word a b first second
fits_or ResultSlot a b first second = fits_word a b first second
fits_or DecisionSlot a b first second = fits_bit a b first second
fits_or Number a b first second = fits_word a b first second
fits_or Arg0 a b first second = fits_word a b first second
fits_or Arg1 a b first second = fits_word a b first second
fits_or Arg2 a b first second = fits_word a b first second
fits_or SecretIn a b first second = fits_byte a b first second
fits_or ByteOut a b first second = fits_byte a b first second
fits_or Status a b first second = fits_byte a b first second
fits_or (OutReg register) a b first second = fits_word a b first second
fits_or (OutRange range) a b first second = fits_byte a b first second

fits_joined : (slot : Slot) (masks others : List ℕ) → FitSlot slot masks → FitSlot slot others →
    FitSlot slot (united_masks masks others)
unfolding united_masks FitSlot
fits_joined slot [] others first second = second
fits_joined slot (m ∷ masks) [] first second = first
fits_joined slot (m ∷ masks) (o ∷ others) first second =
    (fits_or slot m o first.0 second.0, fits_joined slot masks others first.1 second.1)

fits_event : (b : Bool) (slot : Slot) (mask : ℕ) → (b ≡ true → mask ≤ width_of slot) → FitSlot slot (cond b (mask ∷ []) [])
unfolding FitSlot
fits_event true slot mask fits = (fits refl, tt)
fits_event false slot mask fits = tt

fits_visits : (point : Point) (events : List Event) → AreProperEvents events →
    FitSlot point.slot (visit_masks point events)
unfolding visit_masks FitSlot
fits_visits point [] proper = tt
fits_visits point (Pass other mask ∷ events) proper =
    all_append (λ (m : ℕ). m ≤ width_of point.slot) (cond (is_same point other) (mask ∷ []) []) (visit_masks point events)
    (fits_event (is_same point other) point.slot mask
    (λ same. let one : point ≡ other = one_if_same point other same in
    let width : width_of point.slot ≡ width_of other.slot = ap (λ (p : Point). width_of p.slot) one in
    let fits : mask ≤ width_of other.slot = proper.0.0 in omega (arith, width, fits)))
    (fits_visits point events proper.1)
fits_visits point (Link source target ∷ events) proper = fits_visits point events proper.1
fits_visits point (FromSecret other ∷ events) proper = fits_visits point events proper.1
fits_visits point (Implicit other region ∷ events) proper = fits_visits point events proper.1
fits_visits point (Out region other ∷ events) proper = fits_visits point events proper.1

fits_runs : (point : Point) (runs : List (List Event)) → AllByRecursion AreProperEvents runs →
    FitSlot point.slot (joined_masks point runs)
unfolding joined_masks FitSlot
fits_runs point [] proper = tt
fits_runs point (events ∷ runs) proper =
    fits_joined point.slot (visit_masks point events) (joined_masks point runs)
    (fits_visits point events proper.0) (fits_runs point runs proper.1)

fits_at : (slot : Slot) (masks : List ℕ) (n : ℕ) → FitSlot slot masks → n < length masks →
    get_or masks n 0 ≤ width_of slot
unfolding FitSlot
fits_at slot [] n fits below = absurd (omega arith)
fits_at slot (mask ∷ masks) zero fits below = fits.0
fits_at slot (mask ∷ masks) (suc n) fits below = fits_at slot masks n fits.1 (omega (arith, below))

-- the mask of all runs at a visit is within the width of the slot
pub joined_fits : (point : Point) (runs : List (List Event)) (n : ℕ) → AllByRecursion AreProperEvents runs →
    n < length (joined_masks point runs) → get_or (joined_masks point runs) n 0 ≤ width_of point.slot
joined_fits point runs n proper below =
    fits_at point.slot (joined_masks point runs) n (fits_runs point runs proper) below
