-- Regions by their numbers and addresses alone.
use Rattle.std.proofs.Common.{◌≡◌, ◌+◌, ◌≤◌, ◌==◌, ℕ, List, [], ◌∷◌, true, map, refl, ap, arith}
use Rattle.std.specs.Prelude.{nat_le}
use Rattle.std.proofs.lemmas.Bool.{and_parts}
use Rattle.std.proofs.lemmas.Grind.{common_steps}
use Rattle.elf32_loader.specs.declared.segments.Segment.{Segment}
use Rattle.elf32_loader.specs.Segments.{highest_base, is_base_of, rounded_down}
use Rattle.enclosure_regions.specs.declared.region_parts.Region.{Region}
use Rattle.region_learn.specs.Private.Books.{are_bare}
use Rattle.region_learn.specs.Written.{bare}

pub bare_none : (regions : List Region) → are_bare (map bare regions) ≡ true
bare_none [] = refl
bare_none (region ∷ regions) = bare_none regions

pub bare_twice : (regions : List Region) → map bare (map bare regions) ≡ map bare regions
bare_twice [] = refl
bare_twice (region ∷ regions) = ap (λ (l : List Region). bare region ∷ l) (bare_twice regions)

le_of : (a b : ℕ) → nat_le a b ≡ true → a ≤ b
le_of a b h = grind (arith, common_steps)

-- guest memory ends before the last address
pub base_room : (segments : List Segment) (base : ℕ) → is_base_of segments base ≡ true → base + 16777216 ≤ 4294967295
base_room [] base h = absurd (cc)
base_room (segment ∷ segments) base h =
    let low = le_of base highest_base (and_parts (base == rounded_down segment.address) (nat_le base highest_base) h).1 in
    omega (arith, low)
