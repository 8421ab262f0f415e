-- What two measures of one run share, where the table decides: all but the flow.
use Rattle.std.proofs.Common.{◌≡◌, ℕ, ◌<◌, ◌≤◌, List, ◌∷◌, length, sym, ap, ap₂, subst, ◌∙◌, arith, Bool}
use Rattle.acceptance_law.specs.RunCuts.{IsCutOf}
use Rattle.acceptance_law.specs.Sides.{named_side}
use Rattle.cut_file.specs.Cuts.{CutPicture}
use Rattle.cut_file.specs.Pictures.{cut_picture}
use Rattle.cut_file.proofs.Following.{cut_valid}
use Rattle.enclosure_regions.specs.declared.region_parts.Region.{Region}
use Rattle.flow_base.specs.declared.outputs.Output.{Output}
use Rattle.flow_graph.specs.declared.events.Event.{Event}
use Rattle.flow_graph.specs.declared.graphs.Graph.{Graph}
use Rattle.max_flow.specs.declared.answers.Half.{Half}
use Rattle.max_flow.specs.declared.answers.Side.{Side}
use Rattle.max_flow.specs.Flows.{HasNoGreater, Least, flow_value}
use Rattle.rv32im_machine.specs.declared.stepping.Stepped.TheVariants.{Exited}
use Rattle.run_labels.specs.Runs.{LabelledRun, run_after}
use Rattle.measuring.specs.declared.measured.Measured.{Measured}
use Rattle.measuring.specs.Measures.{IsMeasureOf, Measures}
use Rattle.measuring.specs.RunCauses.{Exits, mode_of}
use Rattle.measuring.proofs.MeasuredWithoutCause.{not_longer, same_exits}
use Rattle.measuring.proofs.OneCut.{one_cut_of}
use Rattle.measuring.proofs.OneGraph.{one_graph}
use Rattle.measuring.proofs.OneSide.{AreSameSides, one_least_side}
use Rattle.transfer_rules.specs.Tables.{IsDeciding}

-- ---- the exit

pub record AreSameExits (turns others : ℕ) (output other : Output) : Type 0 where
  pub turns_are : turns ≡ others
  pub output_is : output ≡ other

status_one : (one other : ℕ) → Exited one ≡ Exited other → one ≡ other
status_one one other same = cc

written : List ℕ → ℕ → Output
written bytes status = record { bytes = bytes; status = status }

outputs_same : (one other : Output) → one.bytes ≡ other.bytes → one.status ≡ other.status → one ≡ other
unfolding written
outputs_same one other bytes status = ap₂ written bytes status

pub one_exit : (table : ℕ) (regions : List Region) (start : LabelledRun) (limit turns others : ℕ)
    (output other : Output) → IsDeciding table → Exits table regions start limit turns output →
    Exits table regions start limit others other → AreSameExits turns others output other
one_exit table regions start limit turns others output other deciding one second =
    let not_below : length one.earlier < length second.earlier → ⊥ =
    not_longer table regions start limit turns others output other deciding one second in
    let not_above : length second.earlier < length one.earlier → ⊥ =
    not_longer table regions start limit others turns other output deciding second one in
    let counted : length (one.last ∷ one.earlier) ≡ turns = one.is_run.counted in
    let counted_other : length (second.last ∷ second.earlier) ≡ others = second.is_run.counted in
    let same = same_exits table regions start limit turns others output other deciding one second in
    record {
      turns_are = omega arith;
      output_is = outputs_same output other
          (sym one.written ∙ (ap (λ (run : LabelledRun). run.place.state.control.output) same ∙ second.written))
          (status_one output.status other.status (sym one.exited ∙ (ap mode_of same ∙ second.exited)));
    }

-- ---- the measure of the events

pub record AreSameGraphs (one other : Measured) : Type 0 where
  pub graph : one.graph ≡ other.graph
  pub value : one.value ≡ other.value
  pub side : one.side ≡ other.side
  pub cut : cut_picture one.cut ≡ cut_picture other.cut

side_of : List Half → List Bool → Side
side_of points relays = record { points = points; relays = relays }

sides_same : (one other : Side) → one.points ≡ other.points → one.relays ≡ other.relays → one ≡ other
unfolding side_of
sides_same one other points relays = ap₂ side_of points relays

-- what is measured of a run is the measure of events
abbrev pub IsMeasuredOf : ℕ → List Event → Measured → Type 0
IsMeasuredOf secret_len events measured =
    IsMeasureOf secret_len events measured.graph measured.value measured.flow measured.side (cut_picture measured.cut)

value_most : (secret_len : ℕ) (events : List Event) (one other : Measured) → one.graph ≡ other.graph →
    IsMeasuredOf secret_len events one → IsMeasuredOf secret_len events other → one.value ≤ other.value
value_most secret_len events one other same is also =
    let greatest : HasNoGreater one.graph other.value =
    subst (λ (g : Graph). HasNoGreater g other.value) (sym same) also.greatest in
    let most : flow_value one.graph one.flow.points one.flow.links ≤ other.value =
    greatest one.flow.points one.flow.links is.flow in
    let value : flow_value one.graph one.flow.points one.flow.links ≡ one.value = is.value in
    omega (arith, most, value)

pub one_measure_of : (secret_len : ℕ) (events : List Event) (one other : Measured) →
    IsMeasuredOf secret_len events one → IsMeasuredOf secret_len events other → AreSameGraphs one other
one_measure_of secret_len events one other is also =
    let graph : one.graph ≡ other.graph = one_graph events one.graph other.graph is.graph also.graph in
    let most = value_most secret_len events one other graph is also in
    let least = value_most secret_len events other one (sym graph) also is in
    let value : one.value ≡ other.value = omega (arith, most, least) in
    let there : Least one.graph other.side.points other.side.relays =
    subst (λ (g : Graph). Least g other.side.points other.side.relays) (sym graph) also.side in
    let sides : AreSameSides one.side.points other.side.points one.side.relays other.side.relays =
    one_least_side one.graph one.side.points other.side.points one.side.relays other.side.relays is.side there in
    let side : one.side ≡ other.side = sides_same one.side other.side sides.points_are sides.relays_are in
    let of_graph : IsCutOf secret_len events (named_side one.graph other.side.points other.side.relays) other.value
    (cut_picture other.cut) = subst (λ (g : Graph). IsCutOf secret_len events
    (named_side g other.side.points other.side.relays) other.value (cut_picture other.cut)) (sym graph) also.cut in
    let of_side : IsCutOf secret_len events (named_side one.graph one.side.points one.side.relays) other.value
    (cut_picture other.cut) = subst (λ (s : Side). IsCutOf secret_len events
    (named_side one.graph s.points s.relays) other.value (cut_picture other.cut)) (sym side) of_graph in
    let of_value : IsCutOf secret_len events (named_side one.graph one.side.points one.side.relays) one.value
    (cut_picture other.cut) = subst (λ (v : ℕ). IsCutOf secret_len events
    (named_side one.graph one.side.points one.side.relays) v (cut_picture other.cut)) (sym value) of_side in
    record {
      graph = graph;
      value = value;
      side = side;
      cut = one_cut_of secret_len events (named_side one.graph one.side.points one.side.relays) one.value
          (cut_picture one.cut) (cut_picture other.cut) (cut_valid one.cut) (cut_valid other.cut) is.cut of_value;
    }

-- ---- the measure of the run

pub record AreSameMeasures (one other : Measured) : Type 0 where
  pub value : one.value ≡ other.value
  pub turns : one.turns ≡ other.turns
  pub output : one.output ≡ other.output
  pub graph : one.graph ≡ other.graph
  pub side : one.side ≡ other.side
  pub cut : cut_picture one.cut ≡ cut_picture other.cut

pub one_measure : (table : ℕ) (regions : List Region) (start : LabelledRun) (secret_len limit : ℕ)
    (one other : Measured) → IsDeciding table → Measures table regions start secret_len limit one →
    Measures table regions start secret_len limit other → AreSameMeasures one other
one_measure table regions start secret_len limit one other deciding is also =
    let exit = one_exit table regions start limit one.turns other.turns one.output other.output deciding is.exits
    also.exits in
    let same = same_exits table regions start limit one.turns other.turns one.output other.output deciding is.exits
    also.exits in
    let measure : IsMeasuredOf secret_len (run_after regions (is.exits.last ∷ is.exits.earlier) start).events other =
    subst (λ (run : LabelledRun). IsMeasuredOf secret_len run.events other) (sym same) also.measure in
    let parts = one_measure_of secret_len (run_after regions (is.exits.last ∷ is.exits.earlier) start).events one other
    is.measure measure in
    record {
      value = parts.value;
      turns = exit.turns_are;
      output = exit.output_is;
      graph = parts.graph;
      side = parts.side;
      cut = parts.cut;
    }

-- so what is told of all but the flow is the same
pub told_alike : {A : Type 0} (tell : ℕ → ℕ → Output → Graph → Side → CutPicture → A) (one other : Measured) →
    AreSameMeasures one other →
    tell one.value one.turns one.output one.graph one.side (cut_picture one.cut)
    ≡ tell other.value other.turns other.output other.graph other.side (cut_picture other.cut)
told_alike tell one other same =
    ap (λ v. tell v one.turns one.output one.graph one.side (cut_picture one.cut)) same.value
    ∙ (ap (λ v. tell other.value v one.output one.graph one.side (cut_picture one.cut)) same.turns
    ∙ (ap (λ v. tell other.value other.turns v one.graph one.side (cut_picture one.cut)) same.output
    ∙ (ap (λ v. tell other.value other.turns other.output v one.side (cut_picture one.cut)) same.graph
    ∙ (ap (λ v. tell other.value other.turns other.output other.graph v (cut_picture one.cut)) same.side
    ∙ ap (λ v. tell other.value other.turns other.output other.graph other.side v) same.cut))))
