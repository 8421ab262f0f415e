-- A cut in version 2: the same cut, and a cut in which lists that repeat are patterns.
use Rattle.std.specs.Prelude.{◌≡◌, ◌⊎◌, ℕ, ◌-◌, ◌*◌, ◌<◌, ◌≤◌, ◌==◌, ◌&&◌, nat_le, length}
use Rattle.std.specs.Prelude.{Bool, true, false, List, [], ◌∷◌}
use Rattle.std.specs.Prelude.{drop, take, if◌then◌else◌}
use Rattle.flow_base.specs.declared.points.Point.{Point}
use Rattle.flow_base.specs.PointOrders.{is_same}
use Rattle.cut_file.specs.declared.points.CutPoint.{CutPoint}
use Rattle.cut_file.specs.declared.points.Run.{Run}
use Rattle.cut_file.specs.Cuts.{CutPicture}
use Rattle.cut_file.specs.Masks.{MaskAt, listed_masks}

-- the same cut in version 2
abbrev pub migrated : CutPicture → CutPicture
migrated cut = record cut { version = 2 }

-- a list begins with these masks
abbrev pub begins_with : List ℕ → List ℕ → Bool
begins_with masks [] = true
begins_with [] (first ∷ wanted) = false
begins_with (mask ∷ masks) (first ∷ wanted) = (mask == first) && begins_with masks wanted

-- a list of at most 65,536 masks repeats by this many, from 1 to 64 and at most half of them: each mask is equal to the
-- one that stands so many places later
abbrev pub is_period : List ℕ → ℕ → Bool
is_period masks count =
    nat_le (length masks) 65536 && (nat_le 1 count && (nat_le count 64 && (nat_le (2 * count) (length masks)
    && begins_with masks (drop count masks))))

abbrev pub IsLeastPeriod : List ℕ → ℕ → Type 0
IsLeastPeriod masks count = (is_period masks count ≡ true) × ((fewer : ℕ) → fewer < count → is_period masks fewer ≡
    false)

abbrev pub HasNoPeriod : List ℕ → Type 0
HasNoPeriod masks = (count : ℕ) → is_period masks count ≡ false

-- where the listed masks repeat, the list becomes empty and the pattern is one round of them; else the point stays
abbrev pub IsFolded : CutPoint → CutPoint → Type 0
IsFolded cut_point folded =
    ((count : ℕ) × IsLeastPeriod (listed_masks cut_point.runs) count × (folded.point ≡ cut_point.point)
    × (folded.runs ≡ []) × (listed_masks folded.rest ≡ take count (listed_masks cut_point.runs)))
    ⊎ (HasNoPeriod (listed_masks cut_point.runs) × (folded ≡ cut_point))

abbrev pub AreFolded : List CutPoint → List CutPoint → Type 0
AreFolded [] [] = Unit {0}
AreFolded [] (first ∷ folded) = ⊥
AreFolded (cut_point ∷ points) [] = ⊥
AreFolded (cut_point ∷ points) (first ∷ folded) = IsFolded cut_point first × AreFolded points folded

-- a cut is folded: in version 2, point by point, and all else stays
pub record IsFold (cut folded : CutPicture) : Type 0 where
  pub version : folded.version ≡ 2
  pub secret_len : folded.secret_len ≡ cut.secret_len
  pub bits : folded.bits ≡ cut.bits
  pub skip : folded.skip ≡ cut.skip
  pub points : AreFolded cut.points folded.points

-- how many masks points list for a point
abbrev pub listed_at : List CutPoint → Point → ℕ
listed_at [] point = 0
listed_at (cut_point ∷ points) point =
    if is_same cut_point.point point then length (listed_masks cut_point.runs) else listed_at points point

-- a cut and its fold have the same mask at each visit that the cut lists
abbrev pub FoldsKeepMasks : Type 0
FoldsKeepMasks =
    (cut folded : CutPicture) (point : Point) (visit : ℕ) → IsFold cut folded → 1 ≤ visit
    → visit ≤ listed_at cut.points point → MaskAt folded.points point visit ≡ MaskAt cut.points point visit

-- the runs of the first masks of runs
abbrev pub first_runs : ℕ → List Run → List Run
first_runs count [] = []
first_runs count (run ∷ runs) =
    if nat_le count run.count then record { count = count; mask = run.mask } ∷ []
    else run ∷ first_runs (count - run.count) runs
