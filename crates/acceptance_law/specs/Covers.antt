-- What it is that a cut covers a run: no link of the run's graph leaves the side, the cut skips of the listed regions
-- those whose relays are in it, and it has at each visit of a split point the bits of the run's mask.
use Rattle.std.specs.Prelude.{◌≡◌, ℕ, true, false, List, [], ◌∷◌}
use Rattle.std.specs.Int.{bit_at}
use Rattle.std.specs.List.{AllByRecursion}
use Rattle.flow_base.specs.declared.points.Point.{Point}
use Rattle.cut_file.specs.Cuts.{CutPicture}
use Rattle.cut_file.specs.Masks.{MaskAt}
use Rattle.enclosure_regions.specs.declared.region_parts.Region.{Region}
use Rattle.flow_graph.specs.declared.events.Event.{Event}
use Rattle.flow_graph.specs.declared.events.Event.TheVariants.{Pass, Link, FromSecret, Implicit, Out}
use Rattle.flow_graph.specs.EventGraphs.{named_links}
use Rattle.replay_machine.specs.Runs.{Masks, mask_at}
use Rattle.acceptance_law.specs.Sides.{NamedSide, is_split}
use Rattle.acceptance_law.specs.ClosedEvents.{IsClosedFor}
use Rattle.acceptance_law.specs.RunCuts.{is_inner}
use Rattle.flow_base.specs.Listed.{is_listed}

-- every bit of the first mask is one of the second
abbrev pub IsMaskWithin : ℕ → ℕ → Type 0
IsMaskWithin mask other = (i : ℕ) → bit_at other i ≡ 0 → bit_at mask i ≡ 0

-- at a visit of a split point that is no inner one, after these points, the latest first, the masks have the bits of
-- the mask that passes
abbrev pub IsContained : NamedSide → List ℕ → Masks → List Point → Event → Type 0
IsContained side skip masks past (Pass point mask) =
    is_split side point ≡ true → is_inner skip point ≡ false → IsMaskWithin mask (mask_at masks past point)
IsContained side skip masks past (Link source target) = Unit {0}
IsContained side skip masks past (FromSecret point) = Unit {0}
IsContained side skip masks past (Implicit point region) = Unit {0}
IsContained side skip masks past (Out region point) = Unit {0}

abbrev pub past_after : Event → List Point → List Point
past_after (Pass point mask) past = point ∷ past
past_after event past = past

-- at each visit in the events
unfoldable pub AreContained : NamedSide → List ℕ → Masks → List Point → List Event → Type 0
AreContained side skip masks past [] = Unit {0}
AreContained side skip masks past (event ∷ events) =
    IsContained side skip masks past event × AreContained side skip masks (past_after event past) events

-- Covers: the cut covers a run with these regions and these events, by this side. A number that no region has may be
-- skipped or not, since no turn of the run enters such a region.
pub record Covers (side : NamedSide) (regions : List Region) (events : List Event) (cut : CutPicture) : Type 0 where
  pub closed : IsClosedFor side (named_links events)
  -- outside regions, where the number is 0, nothing is skipped
  pub outside : is_listed cut.skip 0 ≡ false
  pub skips : AllByRecursion (λ region. is_listed cut.skip region.id ≡ side.relay region.id) regions
  pub contains : AreContained side cut.skip (MaskAt cut.points) [] events
