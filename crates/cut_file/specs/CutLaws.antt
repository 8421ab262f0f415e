-- What holds of all texts, faults and masks of cuts.
use Rattle.std.specs.Prelude.{◌≡◌, ◌≢◌, ℕ, true, List, ◌∷◌, ◌++◌, bit_and}
use Rattle.flow_base.specs.declared.points.Point.{Point}
use Rattle.flow_base.specs.Points.{is_slot, width_of}
use Rattle.cut_file.specs.declared.points.CutPoint.{CutPoint}
use Rattle.cut_file.specs.declared.faults.CutFault.{CutFault}
use Rattle.cut_file.specs.declared.faults.CutFault.TheVariants.{Memory}
use Rattle.cut_file.specs.Cuts.{CutPicture, are_points}
use Rattle.cut_file.specs.Faults.{FirstCutFault}
use Rattle.cut_file.specs.Masks.{MaskAt, mask_of}
use Rattle.cut_file.specs.Texts.{CutText}

-- a text has one cut, and a cut one text
abbrev pub TextsAreOne : Type 0
TextsAreOne =
    ((file : List ℕ) (first second : CutPicture) → CutText file first → CutText file second → first ≡ second)
    × ((first second : List ℕ) (cut : CutPicture) → CutText first cut → CutText second cut → first ≡ second)

-- a file has one fault other than lack of memory
abbrev pub FaultsAreOne : Type 0
FaultsAreOne =
    (file : List ℕ) (first second : CutFault) → first ≢ Memory → second ≢ Memory
    → FirstCutFault file first → FirstCutFault file second → first ≡ second

-- a text has none
abbrev pub TextsHaveNoFault : Type 0
TextsHaveNoFault =
    (file : List ℕ) (cut : CutPicture) (fault : CutFault) → CutText file cut → fault ≢ Memory
    → ¬ FirstCutFault file fault

-- each point of points that ascend has its own masks
abbrev pub MasksAreOfTheirPoints : Type 0
MasksAreOfTheirPoints =
    (before after : List CutPoint) (cut_point : CutPoint) (visit : ℕ)
    → are_points (before ++ (cut_point ∷ after)) ≡ true
    → MaskAt (before ++ (cut_point ∷ after)) cut_point.point visit ≡ mask_of cut_point visit

-- a mask has no bit beyond the slot's width
abbrev pub MasksAreWithinWidths : Type 0
MasksAreWithinWidths =
    (points : List CutPoint) (point : Point) (visit : ℕ) → are_points points ≡ true → is_slot point.slot ≡ true
    → bit_and (MaskAt points point visit) (width_of point.slot) ≡ MaskAt points point visit
