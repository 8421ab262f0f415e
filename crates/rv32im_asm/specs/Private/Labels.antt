-- The labels that the code keeps.
use Rattle.std.specs.Prelude.{ℕ, ◌<◌, ◌^◌, ⊤, List, Option, Some, None, if◌then◌else◌}
use Rattle.std.specs.BTreeMap.{get_by}
use Rattle.std.specs.Cmp.Lexicographic.{slice_cmp}
use Rattle.std.specs.Ordering.{nat_cmp}
use Rattle.rv32im_asm.specs.Sizes.{is_label}
use Rattle.rv32im_asm.specs.declared.labels.Labels.{Labels}
use Rattle.rv32im_asm.specs.declared.places.Place.{Place}

-- the place of a label
abbrev pub places_in : Labels → List ℕ → Option Place
places_in labels name = get_by (λ key. slice_cmp nat_cmp name key.now) labels.places

-- the place of a label after one more line, which may begin with it
abbrev pub noted : List ℕ → Option (List ℕ) → Place → Option Place → Option Place
noted name label place None = if is_label name label then Some place else None
noted name label place (Some first) = Some first

-- the bytes before a label are few enough to be counted
abbrev pub IsNearBy : Option ℕ → Type 0
IsNearBy None = ⊤
IsNearBy (Some offset) = offset < 2 ^ 60

abbrev pub IsNear : Option Place → Type 0
IsNear None = ⊤
IsNear (Some place) = IsNearBy place.offset
