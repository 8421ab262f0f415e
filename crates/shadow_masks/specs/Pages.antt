-- The labels of a page of addresses.
use Rattle.std.specs.Prelude.{◌≡◌, ◌≢◌, ℕ, ◌+◌, ◌-◌, ◌<◌, ◌==◌, ◌&&◌, nat_lt, nat_le, Bool, List, [], ◌∷◌, Option, Some}
use Rattle.std.specs.Prelude.{None, if◌then◌else◌, slice_index, slice_index_or}
use Rattle.flow_base.specs.declared.points.Point.{Point}
use Rattle.shadow_masks.specs.declared.labels.Label.{Label}
use Rattle.shadow_masks.specs.declared.page_points.PagePoints.{PagePoints}
use Rattle.shadow_masks.specs.declared.page_points.PagePoints.TheVariants.{Few, Each}
use Rattle.shadow_masks.specs.Labels.{clean}
use Rattle.shadow_masks.specs.Points.{page_size, numbered_point, listed_point}

-- the point of a byte of a page
abbrev pub point_of : PagePoints → ℕ → Point
point_of (Few points) place = numbered_point points place
point_of (Each points) place = listed_point points place

-- the masks of the bytes of a page, and their points
pub record PageShades : Type 0 where
  pub masks : List ℕ
  pub points : PagePoints

-- a label of mask 0 is the clean one, whatever point is kept for the byte
abbrev pub label_of : ℕ → Point → Label
label_of mask point = if mask == 0 then clean else record { mask = mask; point = point }

-- the label of a byte of a page
abbrev pub page_label : PageShades → ℕ → Label
page_label page place = label_of (slice_index page.masks place) (point_of page.points place)

-- a byte of a page that was not made is clean
abbrev pub label_in : Option PageShades → ℕ → Label
label_in None place = clean
label_in (Some page) place = page_label page place

-- the label so far from a first place, where it is one of so many; past them the clean one
abbrev pub label_from : (ℕ → Label) → ℕ → ℕ → ℕ → Label
label_from label first count offset = if nat_lt offset count then label (first + offset) else clean

-- four labels from a first place on
abbrev pub labels_from : (ℕ → Label) → ℕ → ℕ → List Label
labels_from label first count =
    label_from label first count 0 ∷ label_from label first count 1 ∷ label_from label first count 2
    ∷ label_from label first count 3 ∷ []

-- one byte of a page has the label, and each other the one that it had
abbrev pub SetsLabel : ℕ → Label → (ℕ → Label) → (ℕ → Label) → Type 0
SetsLabel place label old new =
    (other : ℕ) → other < page_size → new other ≡ (if other == place then label else old other)

-- whether a place, or an address, is one of so many from the first on
abbrev pub is_in_range : ℕ → ℕ → ℕ → Bool
is_in_range first count place = nat_le first place && nat_lt place (first + count)

-- the bytes of so many places have labels by their distance from the first, and each other byte of the page the label
-- that it had
abbrev pub SetsPlaces : ℕ → ℕ → (ℕ → Label) → (ℕ → Label) → (ℕ → Label) → Type 0
SetsPlaces first count label old new =
    (other : ℕ) → other < page_size →
    new other ≡ (if is_in_range first count other then label (other - first) else old other)

-- a first part of the places have labels; the place after them is to have another than it had
pub record SetsFewer (first count : ℕ) (label old new : ℕ → Label) : Type 0 where
  pub part : ℕ
  pub shorter : part < count
  pub other : old (first + part) ≢ label part
  pub sets : SetsPlaces first part label old new

-- each of so many bytes from the first on is clean
abbrev pub AreClean : (ℕ → Label) → ℕ → ℕ → Type 0
AreClean label first count = (offset : ℕ) → offset < count → label (first + offset) ≡ clean

-- the labels of a list, by their distance from the first
abbrev pub listed_label : List Label → ℕ → Label
listed_label labels offset = slice_index_or labels offset clean

-- one byte of a page has the label, and each other is clean
abbrev pub IsOneLabel : ℕ → Label → (ℕ → Label) → Type 0
IsOneLabel place label new = SetsLabel place label (λ other. clean) new
