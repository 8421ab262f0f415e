-- The masks of the visits that are ahead, as points with masks that begin at the next visit.
use Rattle.std.specs.Prelude.{◌≡◌, ℕ, suc, ◌+◌, ◌≤◌, List, if◌then◌else◌}
use Rattle.flow_base.specs.declared.points.Point.{Point}
use Rattle.flow_base.specs.PointOrders.{is_same}
use Rattle.cut_file.specs.declared.points.CutPoint.{CutPoint}
use Rattle.cut_file.specs.Masks.{MaskAt}
use Rattle.replay_machine.specs.Runs.{Masks, times_passed}

-- once these points have been passed, the masks ahead are those of the visits after
abbrev pub IsAhead : List CutPoint → Masks → List Point → Type 0
IsAhead ahead masks past =
    (point : Point) (visit : ℕ) → 1 ≤ visit → MaskAt ahead point visit ≡ masks point (times_passed point past + visit)

-- a visit of the point is past: its next mask is the one after, and the masks of all others stay
abbrev pub MovesOn : Point → List CutPoint → List CutPoint → Type 0
MovesOn point before after =
    (other : Point) (visit : ℕ) → 1 ≤ visit →
    MaskAt after other visit ≡ MaskAt before other (if is_same other point then suc visit else visit)

-- the same masks, at the first visits and all later ones
abbrev pub SameAhead : List CutPoint → List CutPoint → Type 0
SameAhead first second =
    (point : Point) (visit : ℕ) → 1 ≤ visit → MaskAt first point visit ≡ MaskAt second point visit
