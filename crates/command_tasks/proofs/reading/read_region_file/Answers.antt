use Rattle.std.proofs.Common.{◌≢◌, option_map, sym, subst, IfErr}
use Rattle.std.proofs.lemmas.Result.{err_from_is_err_and}
use Rattle.enclosure_regions.specs.Reading.{FirstRegionFault}
use Rattle.enclosure_regions.specs.declared.region_faults.RegionFault.TheVariants.{Memory as NoRoomForRegions}
use Rattle.command_tasks.specs.declared.refusals.Refusal.TheVariants.{Memory, Regions}
use Rattle.command_tasks.specs.Refusals.{IsRegionsRefusal}
use Rattle.command_tasks.proofs.Refusing.{refused_first}
use Rattle.command_tasks.proofs.reading.read_region_file.Goals as goal

pub returns-in_err-read_regions-in-Some-clause-err : goal.returns-in_err-read_regions-in-Some-clause-err
returns-in_err-read_regions-in-Some-clause-err c =
    let exit = err_from_is_err_and c.from_residual.result c.from_residual.ensures.1 in
    let file = c.in-Some.file.now in
    let refused = refused_first (λ f. FirstRegionFault file f × (f ≢ NoRoomForRegions)) NoRoomForRegions (λ f. Regions f)
    c.in_err-read_regions-in-Some.field-0.0 exit.0 c.from_residual.result exit.1 exit.2
    (λ apart. (rw c.as_slice.ensures at c.in_err-read_regions-in-Some.ensures.err apart, apart)) in
    subst (λ named. IfErr c.from_residual.result (λ r. r ≢ Memory → IsRegionsRefusal (option_map (λ bytes. bytes.now) named) r))
    (sym c.in-Some.is) refused
