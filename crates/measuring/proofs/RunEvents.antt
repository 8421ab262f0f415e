-- The cut of a run's events needs no more than they keep.
use Rattle.std.proofs.Common.{◌≡◌, ℕ, ◌<◌, ◌≤◌, ◌^◌, Bool, true, false, List, ◌∷◌, length, arith}
use Rattle.std.specs.List.{AllByRecursion, list_all}
use Rattle.std.specs.Prelude.{IsTrue}
use Rattle.cut_file.proofs.Following.{is_true}
use Rattle.elf32_loader.specs.Pictures.{Picture}
use Rattle.enclosure_regions.specs.declared.region_parts.Region.{Region}
use Rattle.enclosure_regions.specs.Regions.{are_regions}
use Rattle.flow_graph.specs.declared.events.Event.{Event}
use Rattle.flow_graph.specs.declared.graphs.Graph.{Graph}
use Rattle.flow_graph.specs.EventGraphs.{IsGraphOf}
use Rattle.location_collapse.specs.Collapses.{StandsFor}
use Rattle.max_flow.specs.declared.answers.Half.{Half}
use Rattle.max_flow.specs.Flows.{Least, side_capacity}
use Rattle.region_machine.specs.Starts.{guest}
use Rattle.run_labels.specs.Runs.{run_after, unlabelled}
use Rattle.acceptance_law.proofs.FittingCuts.{fit_cuts_law}
use Rattle.acceptance_law.proofs.SecretRuns.{secret_bits_law}
use Rattle.acceptance_law.proofs.SecretSides.{least_bits_law}
use Rattle.measuring.specs.declared.following.Exit.{Exit}
use Rattle.measuring.specs.declared.recordings.Recording.{Recording}
use Rattle.measuring.specs.Cutting.{FitsCut}
use Rattle.measuring.specs.Following.{HasEnded}
use Rattle.measuring.specs.Measured.{has_slot}
use Rattle.measuring.specs.Private.Weighing.{HasRunEvents}
use Rattle.measuring.specs.Recordings.{HasEvents}
use Rattle.measuring.specs.Splits.{skipped, split_points}
use Rattle.measuring.proofs.FittingPoints.{nodes_known, points_fit}

pub has_events : (recording : Recording) → HasRunEvents recording → HasEvents recording
has_events recording has = record { events = has.events; records = has.records }

module _ (recording : Recording) (graph : Graph) (halves : List Half) (relays : List Bool) (value : ℕ)
    (within : recording.collapse.is_full ≡ false) (has : HasRunEvents recording)
    (of : (events : List Event) → StandsFor recording.collapse events → IsGraphOf events graph)
    (least : Least graph halves relays) (capacity : side_capacity graph halves relays ≡ value) where
  is_graph : IsGraphOf has.events graph
  is_graph = of has.events (has.records.graph within)

  pub slots_known : IsTrue (list_all has_slot graph.points)
  slots_known = is_true _ (nodes_known has.events graph has.fit is_graph)

  -- no more bits cross than the secret has
  pub few_bits : value < 2 ^ 32
  few_bits =
      let most = least_bits_law has.events graph halves relays is_graph least has.reads.sources in
      let read = has.reads.bits in
      let short = has.short in
      omega (arith, most, read, short, capacity)

  pub recorded_fit : AllByRecursion (FitsCut recording.visits) (split_points (skipped graph.relays relays) graph.points halves)
  recorded_fit =
      points_fit recording.visits graph halves relays has.events has.fit (has.records.visits within) is_graph least.side
      (let few = few_bits in omega (arith, few, capacity))

-- a run that has ended within the limits
pub ended_events : (table : ℕ) (program : Picture) (public_input secret : List ℕ) (regions : List Region) (limit : ℕ)
    (exit : Exit) → are_regions regions ≡ true → length secret ≤ 65536 → limit ≤ 20000000 →
    HasEnded table regions (unlabelled (guest program public_input secret)) limit exit → HasRunEvents exit.recording
ended_events table program public_input secret regions limit exit valid short few ended =
    let counted = ended.exits.is_run.counted in
    let turns = ended.exits.within in
    record {
      events = (run_after regions (ended.exits.last ∷ ended.exits.earlier) (unlabelled (guest program public_input secret))).events;
      records = ended.records;
      fit = fit_cuts_law program public_input secret regions (ended.exits.last ∷ ended.exits.earlier) valid
          ended.exits.is_run.unrefused (omega (arith, counted, turns, few)) short;
      secret = secret;
      short = short;
      reads = secret_bits_law program public_input secret regions (ended.exits.last ∷ ended.exits.earlier)
          ended.exits.is_run.unrefused;
    }
