-- A declaration that lacks a byte is broken by the write of such a byte.
use Rattle.std.proofs.Common.{◌≡◌, ◌∙◌, ◌==◌, ◌||◌, ℕ, Bool, true, false, List, [], ◌∷◌, None, map}
use Rattle.std.proofs.Common.{refl, sym, ap, subst, inl, inr}
use Rattle.std.specs.List.{AllByRecursion}
use Rattle.std.proofs.lemmas.Bool.{cases_Bool, cond-false, cond-true, eqb-true, eqb-false}
use Rattle.flow_base.specs.Guests.{is_inside}
use Rattle.enclosure_regions.specs.declared.break_kinds.Break.{Break}
use Rattle.enclosure_regions.specs.declared.break_kinds.Place.{Place}
use Rattle.enclosure_regions.specs.declared.break_kinds.Place.TheVariants.{Reg, Byte}
use Rattle.enclosure_regions.specs.declared.region_parts.Range.{Range}
use Rattle.enclosure_regions.specs.declared.region_parts.Region.{Region}
use Rattle.enclosure_regions.specs.Turns.{start_of}
use Rattle.region_machine.specs.Within.{are_inside}
use Rattle.region_learn.specs.LearnAnswers.{Grants, first_call, no_exit}
use Rattle.region_learn.specs.Minimal.{ArePlain, IsLostByte, IsUndeclared, NoByteCanGo, RunsBroken, changed_at, with_ranges}
use Rattle.region_learn.specs.Unbroken.{IsTight}
use Rattle.region_learn.specs.Written.{Run, Written, bare, state_after}
use Rattle.region_learn.proofs.UnbrokenRuns.{IsKnown, both_known, declares, fault_none}
use Rattle.std.specs.List.{list_any}
use Rattle.std.proofs.Common.{ap₂}
use Rattle.std.proofs.lemmas.Bool.{and_from}
use Rattle.enclosure_regions.specs.Breaks.{has_byte}
use Rattle.region_learn.specs.Learnt.{have_byte}
use Rattle.region_learn.proofs.LeftOut.{as_it_is}
use Rattle.region_learn.proofs.TightRegions.{start_plain}
use Rattle.region_learn.proofs.WeakerRuns.{DeclaresBut, LosesTo}
use Rattle.region_learn.proofs.WeakerRegions.{HasStronger, IsWeaker, weaker_breaks}

-- ---- plain ranges

plain_bytes : (base : ℕ) (kept : List ℕ) (address : ℕ) (ranges : List Range) → ArePlain base ranges →
    list_any (λ range. has_byte (start_of kept range) range.length address) ranges ≡ have_byte ranges address
plain_bytes base kept address [] h = refl
plain_bytes base kept address (range ∷ ranges) h =
    ap₂ (λ (b c : Bool). b || c)
    (ap (λ (n : ℕ). has_byte n range.length address) (start_plain kept range h.0.0 h.0.1))
    (plain_bytes base kept address ranges h.1)

plain_inside : (base : ℕ) (kept : List ℕ) (ranges : List Range) → ArePlain base ranges →
    are_inside ranges kept base ≡ true
plain_inside base kept [] h = refl
plain_inside base kept (range ∷ ranges) h =
    and_from _ _ (ap (λ (n : ℕ). is_inside base n range.length) (start_plain kept range h.0.0 h.0.1) ∙ h.0.2)
    (plain_inside base kept ranges h.1)

-- ---- a byte left out

-- a byte that is written inside the region with a number and that ranges do not have
abbrev LostByte : Run → ℕ → List Range → Place → Type 0
LostByte run number less place =
    (address : ℕ) × (place ≡ Byte address) × (Written run number (Byte address) ≡ true) × (have_byte less address ≡ false)

others_lost : (run : Run) (number : ℕ) (less : List Range) (region : Region) (kept : List ℕ) (other : Place) →
    ArePlain run.start.setting.base less → IsKnown run region → region.id ≡ number →
    declares region kept other ≡ true →
    DeclaresBut number (LostByte run number less) (with_ranges less region) kept other
others_lost run number less region kept (Reg register) plain known same h = inl h
others_lost run number less region kept (Byte address) plain known same h =
    elim (cases_Bool (have_byte less address)) [
      | inl has ↦ inl (plain_bytes run.start.setting.base kept address less plain ∙ has)
      | inr lacks ↦
          let written : Written run number (Byte address) ≡ true =
          ap (λ (n : ℕ). Written run n (Byte address)) (sym same)
          ∙ (sym (known.learnt.bytes address) ∙ (sym (known.tight.bytes kept address) ∙ h)) in
          inr (same, (address, refl, written, lacks))
    ]

weaker_bytes : (run : Run) (number address : ℕ) (less : List Range) (region : Region) →
    ArePlain run.start.setting.base less → have_byte less address ≡ false → IsKnown run region → region.id ≡ number →
    IsWeaker run number (LostByte run number less) (Byte address) region (with_ranges less region)
weaker_bytes run number address less region plain lacks known same = record {
  edges = refl;
  known = known;
  keep = λ test none. none;
  inside = λ kept. plain_inside run.start.setting.base kept less plain;
  others = λ kept other h. others_lost run number less region kept other plain known same h;
  lacks = λ is kept. plain_bytes run.start.setting.base kept address less plain ∙ lacks;
}

ranges_has : (run : Run) (number address : ℕ) (less : List Range) (regions : List Region) →
    ArePlain run.start.setting.base less → have_byte less address ≡ false → AllByRecursion (IsKnown run) regions →
    AllByRecursion (HasStronger run number (LostByte run number less) (Byte address))
    (changed_at number (with_ranges less) regions)
ranges_has run number address less [] plain lacks known = tt
ranges_has run number address less (region ∷ regions) plain lacks known = (
  elim (cases_Bool (region.id == number)) [
    | inl same ↦
        subst (HasStronger run number (LostByte run number less) (Byte address))
        (sym (cond-true (region.id == number) (with_ranges less region) region same))
        (region, weaker_bytes run number address less region plain lacks known.0 (eqb-true region.id number same))
    | inr differs ↦
        subst (HasStronger run number (LostByte run number less) (Byte address))
        (sym (cond-false (region.id == number) (with_ranges less region) region differs)) (
          region,
          as_it_is run number (LostByte run number less) (Byte address) region known.0
              (eqb-false region.id number differs),
        )
  ],
  ranges_has run number address less regions plain lacks known.1,
)

ranges_bare : (number : ℕ) (less : List Range) (regions : List Region) →
    map bare (changed_at number (with_ranges less) regions) ≡ map bare regions
ranges_bare number less [] = refl
ranges_bare number less (region ∷ regions) =
    ap (λ (r : Region). r ∷ map bare (changed_at number (with_ranges less) regions))
    (elim (cases_Bool (region.id == number)) [
      | inl same ↦ ap bare (cond-true (region.id == number) (with_ranges less region) region same)
      | inr differs ↦ ap bare (cond-false (region.id == number) (with_ranges less region) region differs)
    ])
    ∙ ap (λ (l : List Region). bare region ∷ l) (ranges_bare number less regions)

lost_of : (run : Run) (region : Region) (less : List Range) (broken : Break) → IsKnown run region →
    LosesTo region.id (LostByte run region.id less) broken → IsLostByte region less broken
lost_of run region less broken known h =
    let lost = h.1 in (
      lost.0,
      known.learnt.bytes lost.0 ∙ lost.2,
      lost.3,
      subst (λ (q : Place). IsUndeclared region.id q broken) lost.1 h.2,
    )

each_byte : (run : Run) (regions some : List Region) → first_call run.regions run.turns run.start ≡ None →
    map bare regions ≡ run.regions → AllByRecursion (IsKnown run) regions → AllByRecursion (IsKnown run) some →
    AllByRecursion (λ region. (less : List Range) (address : ℕ) → ArePlain run.start.setting.base less →
    have_byte region.ranges address ≡ true → have_byte less address ≡ false →
    RunsBroken (IsLostByte region less) (changed_at region.id (with_ranges less) regions) run.turns run.start) some
each_byte run regions [] none same known h = tt
each_byte run regions (region ∷ some) none same known h = (
  λ less address plain has lacks skip.
      let broken = weaker_breaks run region.id (LostByte run region.id less) (Byte address)
      (changed_at region.id (with_ranges less) regions) none (ranges_bare region.id less regions ∙ same)
      (ranges_has run region.id address less regions plain lacks known) (sym (h.0.learnt.bytes address) ∙ has) skip in
      (broken.0, broken.1, lost_of run region less broken.0 h.0 broken.2),
  each_byte run regions some none same known h.1,
)

pub no_byte_can_go : (run : Run) (regions : List Region) → Grants run regions →
    AllByRecursion (IsTight run) regions → NoByteCanGo regions run.turns run.start
no_byte_can_go run regions grants tight =
    let parts = fault_none (first_call run.regions run.turns run.start)
    (no_exit run.turns (state_after run.regions run.turns run.start).control.mode) grants.exits in
    let known = both_known run regions grants.learnt.each tight in
    each_byte run regions regions parts.0 grants.learnt.same known known
