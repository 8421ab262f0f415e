use Rattle.std.proofs.Common.{◌≡◌, ℕ, List, None, Result, Ok, Err, inl, inr, sym, ◌∙◌, ap}
use Rattle.serde_json.specs.Data.{Data}
use Rattle.serde_json.specs.Read.{read}
use Rattle.enclosure_regions.specs.declared.region_parts.Region.{Region}
use Rattle.enclosure_regions.specs.declared.region_faults.RegionFault.{RegionFault}
use Rattle.enclosure_regions.specs.FileLaws.{FaultsAreOne, SpelledHaveNoFault}
use Rattle.enclosure_regions.specs.Reading.{HasNoReading, ReadsAs, regions_in}
use Rattle.enclosure_regions.proofs.file_laws.region_files_are_one.Goals as goal

same_data : (file : List ℕ) (d e : Data) → ReadsAs file d → ReadsAs file e → regions_in d ≡ regions_in e
same_data file d e one other =
    let same : d ≡ e = cc in
    ap regions_in same

unread : (file : List ℕ) (d : Data) → HasNoReading file → ReadsAs file d → ⊥
unread file d none one =
    let lost : read file ≡ None = none one.0 in
    cc

same_ok : (a b : List Region) (r s : Result (List Region) RegionFault) → r ≡ s → r ≡ Ok a → s ≡ Ok b → a ≡ b
same_ok a b r s h p q = cc

same_err : (a b : RegionFault) (r s : Result (List Region) RegionFault) → r ≡ s → r ≡ Err a → s ≡ Err b → a ≡ b
same_err a b r s h p q = cc

ok_err : (a : List Region) (b : RegionFault) (r s : Result (List Region) RegionFault) → r ≡ s → r ≡ Ok a → s ≡ Err b → ⊥
ok_err a b r s h p q = cc

pub returns-clause-regions : goal.returns-clause-regions
returns-clause-regions c = λ file first second one other.
    same_ok first second (regions_in one.0) (regions_in other.0) (same_data file one.0 other.0 one.1 other.1) one.2
    other.2

faults : FaultsAreOne
faults file first second (inl one) (inl other) = one.0 ∙ sym other.0
faults file first second (inl one) (inr other) = absurd (unread file other.0 one.1 other.1)
faults file first second (inr one) (inl other) = absurd (unread file one.0 other.1 one.1)
faults file first second (inr one) (inr other) =
    same_err first second (regions_in one.0) (regions_in other.0) (same_data file one.0 other.0 one.1 other.1) one.2
    other.2

pub returns-clause-faults : goal.returns-clause-faults
returns-clause-faults c = faults

neither : SpelledHaveNoFault
neither file regions fault one (inl other) = unread file one.0 other.1 one.1
neither file regions fault one (inr other) =
    ok_err regions fault (regions_in one.0) (regions_in other.0) (same_data file one.0 other.0 one.1 other.1) one.2
    other.2

pub returns-clause-neither : goal.returns-clause-neither
returns-clause-neither c = neither
