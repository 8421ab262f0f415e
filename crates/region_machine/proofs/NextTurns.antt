-- The turn that a monitor tells is the one that a guest makes.
use Rattle.std.proofs.Common.{◌≡◌, ℕ, zero, suc, ◌<◌, ◌==◌, List, [], ◌∷◌, ◌++◌, length, refl, arith, append_assoc}
use Rattle.std.proofs.Common.{length-append, inl, inr, Bool, true, Option, Some, None}
use Rattle.std.specs.Prelude.{slice_get}
use Rattle.std.specs.List.{find, position_from}
use Rattle.std.proofs.lemmas.Bool.{cases_Bool, ltb-true}
use Rattle.enclosure_regions.specs.declared.region_parts.Region.{Region}
use Rattle.enclosure_regions.specs.Turns.{entry_at, turn_kind}
use Rattle.enclosure_regions.specs.Watching.{is_one_of, region_at}
use Rattle.region_machine.specs.Enclosures.{kind_outside, kind_within}
use Rattle.region_machine.specs.Laws.{NextTurnLaw, kind_told}

seam : (before : List Region) (region : Region) (more : List Region) →
    slice_get (before ++ (region ∷ more)) (length before) ≡ Some region
seam [] region more = refl
seam (first ∷ before) region more = seam before region more

-- outside regions, where the regions before these have another enter address
outside_told : (test : Region → Bool) (before regions : List Region) →
    kind_outside (find test regions)
    ≡ kind_told (before ++ regions) None (entry_at (position_from test (length before) regions))
outside_told test before [] = refl
outside_told test before (region ∷ regions) =
    let later = outside_told test (before ++ (region ∷ [])) regions in
    elim (cases_Bool (test region)) [
      | inl passes ↦ rw (passes, seam before region regions) refl
      | inr fails ↦
          rw fails (rw (append_assoc before (region ∷ []) regions, length-append before (region ∷ [])) at later)
    ]

there_is : (regions : List Region) (place : ℕ) → place < length regions → slice_get regions place ≡ None → ⊥
there_is [] place h e = absurd (omega (arith, h))
there_is (region ∷ regions) zero h e = absurd (cc)
there_is (region ∷ regions) (suc place) h e = there_is regions place (omega (arith, h)) e

inside_told : (regions : List Region) (place pc : ℕ) (found : Option Region) → slice_get regions place ≡ found →
    is_one_of regions (Some place) ≡ true →
    kind_within regions (region_at regions (Some place)) pc
    ≡ kind_told regions (Some place) (turn_kind regions (Some place) pc)
inside_told regions place pc None e one = absurd (there_is regions place (ltb-true place (length regions) one) e)
inside_told regions place pc (Some region) e one = elim (cases_Bool (region.leave == pc)) [
  | inl passes ↦ rw e (rw passes (rw e refl))
  | inr fails ↦ rw e (rw fails (rw e refl))
]

within_told : (regions : List Region) (entered : Option ℕ) (pc : ℕ) → is_one_of regions entered ≡ true →
    kind_within regions (region_at regions entered) pc ≡ kind_told regions entered (turn_kind regions entered pc)
within_told regions None pc one = outside_told (λ region. region.enter == pc) [] regions
within_told regions (Some place) pc one = inside_told regions place pc (slice_get regions place) refl one

pub next_turn_law : NextTurnLaw
next_turn_law regions entered control runs one same = rw (runs, same) (within_told regions entered control.pc one)
