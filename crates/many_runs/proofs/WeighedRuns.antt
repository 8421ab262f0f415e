-- What is measured of the recording of several runs, and why it is not.
use Rattle.std.proofs.Common.{◌≡◌, ℕ, ◌≤◌, true, List}
use Rattle.std.specs.List.{list_all}
use Rattle.enclosure_regions.specs.Regions.{are_regions}
use Rattle.flow_graph.specs.declared.events.Event.{Event}
use Rattle.measuring.specs.declared.recordings.Recording.{Recording}
use Rattle.many_runs.specs.declared.faults.ManyFault.{ManyFault}
use Rattle.many_runs.specs.declared.faults.ManyFault.TheVariants.{Length, Run, UnitedLimit, BudgetLimit, Memory}
use Rattle.many_runs.specs.declared.many.Many.{Many}
use Rattle.many_runs.specs.Causes.{HasManyCause}
use Rattle.many_runs.specs.Following.{AreFollowed, is_short_secret}
use Rattle.many_runs.specs.Measures.{HaveLength, MeasuresTogether, Setup, first_length}
use Rattle.many_runs.specs.Private.Recordings.{AllKeep, RecordsUnion}
use Rattle.many_runs.specs.Private.WeighingAll.{HasFittingEvents, IsWeighFault, WeighsAll}
use Rattle.many_runs.proofs.FittingRuns.{runs_fit}
use Rattle.many_runs.proofs.RecordedRuns.{united_too}
use Rattle.many_runs.proofs.UnitedVisits.{united_fit}

module _ (setup : Setup) (secrets : List (List ℕ)) (recordings : List Recording) (union : Recording)
    (alike : HaveLength (first_length secrets) secrets) (are : AreFollowed setup secrets recordings)
    (unites : (runs : List (List Event)) → AllKeep recordings runs → RecordsUnion runs union) where
  -- what is weighed fits into a cut
  pub fitting : setup.limit ≤ 20000000 → are_regions setup.regions ≡ true →
      list_all is_short_secret secrets ≡ true → HasFittingEvents union
  fitting turns valid short =
      let all = unites are.kept are.keep in
      record {
        events = all.events;
        records = all.records;
        fit = united_fit are.runs all.events (runs_fit setup turns valid secrets are.runs short are.are_runs)
            (united_too are.runs are.kept all.events are.same all.united);
      }

  pub weighed : (many : Many) → WeighsAll union (first_length secrets) many → many.value ≤ 1048576 →
      MeasuresTogether setup secrets many
  weighed many weighs budget =
      let all = unites are.kept are.keep in
      record {
        alike = alike;
        runs = are.runs;
        are_runs = are.are_runs;
        events = all.events;
        united = united_too are.runs are.kept all.events are.same all.united;
        measure = weighs all.events all.records;
        budget = budget;
      }

  pub unweighed : (fault : ManyFault) → IsWeighFault union fault → HasManyCause setup secrets fault
  unweighed UnitedLimit full =
      let all = unites are.kept are.keep in
      record {
        events = all.events;
        union = record {
          alike = alike;
          runs = are.runs;
          are_runs = are.are_runs;
          united = united_too are.runs are.kept all.events are.same all.united;
        };
        exceeds = all.records.exceeds full;
      }
  unweighed (BudgetLimit value) over =
      let all = unites are.kept are.keep in
      let much = over all.events all.records in
      record {
        events = all.events;
        union = record {
          alike = alike;
          runs = are.runs;
          are_runs = are.are_runs;
          united = united_too are.runs are.kept all.events are.same all.united;
        };
        within = much.within;
        maximum = much.maximum;
        over = much.over;
      }
  unweighed Memory none = tt
  unweighed (Length index first got) none = absurd none
  unweighed (Run index fault) none = absurd none
