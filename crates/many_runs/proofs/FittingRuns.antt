-- Runs that are measured together fit into a cut.
use Rattle.std.proofs.Common.{◌≡◌, ℕ, ◌≤◌, ◌<◌, ◌∷◌, [], true, List, length, subst, sym, arith}
use Rattle.std.specs.List.{AllByRecursion, list_all}
use Rattle.std.proofs.lemmas.Bool.{and_parts, leb-true}
use Rattle.elf32_loader.specs.Pictures.{Picture}
use Rattle.enclosure_regions.specs.declared.region_parts.Region.{Region}
use Rattle.enclosure_regions.specs.Regions.{are_regions}
use Rattle.flow_graph.specs.declared.events.Event.{Event}
use Rattle.acceptance_law.specs.MeasuredLaws.{AreInputs}
use Rattle.acceptance_law.specs.VisitLaws.{FitCuts}
use Rattle.acceptance_law.proofs.FittingCuts.{fit_cuts_law}
use Rattle.many_runs.specs.Following.{is_short_secret}
use Rattle.many_runs.specs.Measures.{AreRunsOn, IsRunOn, Setup}

-- the regions of some inputs are valid
pub valid_regions : (program : Picture) (public_input : List ℕ) (regions : List Region) (secrets : List (List ℕ)) →
    0 < length secrets → AllByRecursion (AreInputs program public_input regions) secrets → are_regions regions ≡ true
valid_regions program public_input regions [] some inputs = absurd (omega (arith, some))
valid_regions program public_input regions (secret ∷ secrets) some inputs = inputs.0.regions_valid

module _ (setup : Setup) (turns : setup.limit ≤ 20000000) (valid : are_regions setup.regions ≡ true) where
  run_fits : (secret : List ℕ) (events : List Event) → length secret ≤ 65536 → IsRunOn setup secret events →
      FitCuts events
  run_fits secret events short run =
      subst FitCuts (sym run.all)
      (fit_cuts_law setup.program setup.public_input secret setup.regions (run.exits.last ∷ run.exits.earlier) valid
      run.exits.is_run.unrefused (omega (arith, run.exits.is_run.counted, run.exits.within, turns)) short)

  pub runs_fit : (secrets : List (List ℕ)) (runs : List (List Event)) → list_all is_short_secret secrets ≡ true →
      AreRunsOn setup secrets runs → AllByRecursion FitCuts runs
  unfolding AreRunsOn
  runs_fit [] [] short are = tt
  runs_fit [] (events ∷ runs) short are = absurd are
  runs_fit (secret ∷ secrets) [] short are = absurd are
  runs_fit (secret ∷ secrets) (events ∷ runs) short are =
      let parts = and_parts (is_short_secret secret) (list_all is_short_secret secrets) short in (
        run_fits secret events (leb-true (length secret) 65536 parts.0) are.0,
        runs_fit secrets runs parts.1 are.1,
      )
