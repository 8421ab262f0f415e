-- United events of runs that fit into a cut fit into one too.
use Rattle.std.proofs.Common.{◌≡◌, ◌⊎◌, ℕ, suc, ◌≤◌, ◌<◌, ◌^◌, ◌∷◌, [], true, false, List, length, refl, ap, inl, inr, arith}
use Rattle.std.specs.List.{AllByRecursion, sum_by}
use Rattle.flow_base.specs.declared.points.Point.{Point}
use Rattle.flow_base.specs.Points.{is_output_slot, is_slot}
use Rattle.flow_base.specs.Words.{bit_count}
use Rattle.flow_graph.specs.declared.events.Event.{Event}
use Rattle.acceptance_law.specs.RunCuts.{visit_masks}
use Rattle.acceptance_law.specs.VisitLaws.{FitCuts}
use Rattle.many_runs.specs.Uniting.{IsUnited, joined_masks, united_masks}
use Rattle.many_runs.proofs.BitsOfUnions.{joined_first, joined_second, visit_bits}

-- two runs together visit a point as often as one of them does
united_visits : (masks others : List ℕ) →
    (length (united_masks masks others) ≡ length masks) ⊎ (length (united_masks masks others) ≡ length others)
unfolding united_masks
united_visits [] others = inr refl
united_visits (mask ∷ masks) [] = inl refl
united_visits (mask ∷ masks) (other ∷ others) = elim (united_visits masks others) [
  | inl same ↦ inl (ap suc same)
  | inr same ↦ inr (ap suc same)
]

-- a point that all runs together visit has a slot that a turn passes
joined_slots : (point : Point) (runs : List (List Event)) → AllByRecursion FitCuts runs →
    0 < length (joined_masks point runs) → is_slot point.slot ≡ true
unfolding joined_masks
joined_slots point [] fit some = absurd (omega (arith, some))
joined_slots point (events ∷ runs) fit some =
    elim (united_visits (visit_masks point events) (joined_masks point runs)) [
      | inl same ↦ fit.0.slots point (omega (arith, some, same))
      | inr same ↦ joined_slots point runs fit.1 (omega (arith, some, same))
    ]

-- they visit one that is no output of a region fewer than 2^32 times
joined_few : (point : Point) (runs : List (List Event)) → AllByRecursion FitCuts runs →
    is_output_slot point.slot ≡ false → length (joined_masks point runs) < 2 ^ 32
unfolding joined_masks
joined_few point [] fit inner = omega arith
joined_few point (events ∷ runs) fit inner =
    elim (united_visits (visit_masks point events) (joined_masks point runs)) [
      | inl same ↦ let here = fit.0.few point inner in omega (arith, here, same)
      | inr same ↦ let later = joined_few point runs fit.1 inner in omega (arith, later, same)
    ]

-- and an output no more often than bits pass there
joined_outputs : (point : Point) (runs : List (List Event)) → AllByRecursion FitCuts runs →
    is_output_slot point.slot ≡ true →
    length (joined_masks point runs) ≤ sum_by bit_count (joined_masks point runs)
unfolding joined_masks
joined_outputs point [] fit output = omega arith
joined_outputs point (events ∷ runs) fit output =
    elim (united_visits (visit_masks point events) (joined_masks point runs)) [
      | inl same ↦
          let here = fit.0.outputs point output in
          let bits = visit_bits point events in
          let more = joined_first (visit_masks point events) (joined_masks point runs) in
          omega (arith, here, bits, more, same)
      | inr same ↦
          let later = joined_outputs point runs fit.1 output in
          let more = joined_second (visit_masks point events) (joined_masks point runs) in
          omega (arith, later, more, same)
    ]

pub united_fit : (runs : List (List Event)) (events : List Event) → AllByRecursion FitCuts runs →
    IsUnited runs events → FitCuts events
united_fit runs events fit union = record {
  slots = λ point some.
      let same = ap length (union.masks point) in joined_slots point runs fit (omega (arith, some, same));
  few = λ point inner.
      let same = ap length (union.masks point) in
      let all = joined_few point runs fit inner in omega (arith, all, same);
  outputs = λ point output.
      let same = ap length (union.masks point) in
      let bits : sum_by bit_count (visit_masks point events) ≡ sum_by bit_count (joined_masks point runs) =
      ap (λ masks. sum_by bit_count masks) (union.masks point) in
      let own = visit_bits point events in
      let all = joined_outputs point runs fit output in omega (arith, all, same, bits, own);
}
