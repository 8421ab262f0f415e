-- Where the table decides, several runs have one measure, but for the flow, or one cause not to be measured.
use Rattle.std.proofs.Common.{◌≡◌, ◌≢◌, ℕ, ◌+◌, ◌≤◌, ◌∷◌, [], List, length, refl, sym, ap, ap₂, ◌∙◌, subst, arith}
use Rattle.std.specs.List.{AllByRecursion}
use Rattle.acceptance_law.specs.Sides.{named_side}
use Rattle.acceptance_law.proofs.GraphEvents.{all_parts}
use Rattle.cut_file.specs.Pictures.{cut_picture}
use Rattle.flow_graph.specs.declared.events.Event.{Event}
use Rattle.flow_graph.specs.declared.graphs.Graph.{Graph}
use Rattle.flow_graph.specs.EventGraphs.{IsGraphOf}
use Rattle.location_collapse.specs.Limits.{ExceedsLimit}
use Rattle.max_flow.specs.Flows.{HasNoGreater, flow_value}
use Rattle.run_labels.specs.declared.faults.MeasureFault.{MeasureFault}
use Rattle.measuring.specs.declared.measured.Measured.{Measured}
use Rattle.measuring.specs.Measures.{HasCause, IsMeasureOf}
use Rattle.measuring.proofs.OneCause.{one_cause}
use Rattle.measuring.proofs.OneGraph.{one_graph}
use Rattle.measuring.proofs.OneMeasure.{AreSameGraphs, IsMeasuredOf, one_measure_of}
use Rattle.many_runs.specs.declared.faults.ManyFault.{ManyFault}
use Rattle.many_runs.specs.declared.faults.ManyFault.TheVariants.{Length, Run, UnitedLimit, BudgetLimit, Memory}
use Rattle.many_runs.specs.declared.many.Many.{Many}
use Rattle.many_runs.specs.Causes.{HasManyCause, HasMaximum, HasOtherLength, HaveUnion}
use Rattle.many_runs.specs.Causes.{IsFirstRefused, IsTooLarge, IsTooMuch}
use Rattle.many_runs.specs.Measures.{HaveLength, MeasuresTogether, Setup, first_length, start_on}
use Rattle.many_runs.specs.Uniting.{IsUnited}
use Rattle.many_runs.proofs.FirstPlaces.{AreSamePlaces, one_first}
use Rattle.many_runs.proofs.OneUnion.{HasRun, cut-too, exceeds-too, graph-too, have_runs, no_cause, same_runs}
use Rattle.transfer_rules.specs.Tables.{IsDeciding}

-- ---- the measure of united events

-- what is measured of several runs, in the form of a measured run of no turns
as_one : Many → Measured
as_one many = record {
  value = many.value;
  turns = 0;
  output = record { bytes = []; status = 0 };
  graph = many.graph;
  flow = many.flow;
  side = many.side;
  cut = many.cut;
  few_points = many.few_points;
  few_links = many.few_links;
  small = many.small;
  slots = many.slots;
  known = many.known;
}

-- what is measured of several runs is the measure of events
abbrev IsMeasuredOfAll : ℕ → List Event → Many → Type 0
IsMeasuredOfAll secret_len events many =
    IsMeasureOf secret_len events many.graph many.value many.flow many.side (cut_picture many.cut)

measure_as_one : (secret_len : ℕ) (events : List Event) (many : Many) → IsMeasuredOfAll secret_len events many →
    IsMeasuredOf secret_len events (as_one many)
unfolding as_one
measure_as_one secret_len events many is = is

-- other united events of the same runs have the same measure
measure_too : (runs : List (List Event)) (events others : List Event) → IsUnited runs events → IsUnited runs others →
    (secret_len : ℕ) (many : Many) → IsMeasuredOfAll secret_len others many → IsMeasuredOfAll secret_len events many
measure_too runs events others one also secret_len many is = record {
  graph = graph-too runs events others one also many.graph is.graph;
  within = λ exceeds. is.within (exceeds-too runs others events also one exceeds);
  flow = is.flow;
  value = is.value;
  greatest = is.greatest;
  points_most = is.points_most;
  links_most = is.links_most;
  side = is.side;
  capacity = is.capacity;
  cut = cut-too runs events others one also secret_len (named_side many.graph many.side.points many.side.relays)
      many.value (cut_picture many.cut) is.cut;
}

-- ---- the measure of several runs

pub record AreSameMany (one other : Many) : Type 0 where
  pub value : one.value ≡ other.value
  pub graph : one.graph ≡ other.graph
  pub side : one.side ≡ other.side
  pub cut : cut_picture one.cut ≡ cut_picture other.cut

pub one_many_measure : (setup : Setup) (secrets : List (List ℕ)) (one other : Many) → IsDeciding setup.table →
    MeasuresTogether setup secrets one → MeasuresTogether setup secrets other → AreSameMany one other
unfolding as_one
one_many_measure setup secrets one other deciding is also =
    let same = same_runs setup secrets also.runs is.runs deciding also.are_runs is.are_runs in
    let united : IsUnited is.runs also.events = subst (λ runs. IsUnited runs also.events) same also.united in
    let measure : IsMeasuredOfAll (first_length secrets) is.events other =
    measure_too is.runs is.events also.events is.united united (first_length secrets) other also.measure in
    let parts : AreSameGraphs (as_one one) (as_one other) =
    one_measure_of (first_length secrets) is.events (as_one one) (as_one other)
    (measure_as_one (first_length secrets) is.events one is.measure)
    (measure_as_one (first_length secrets) is.events other measure) in
    record { value = parts.value; graph = parts.graph; side = parts.side; cut = parts.cut }

pub one_many : (setup : Setup) (secrets : List (List ℕ)) (one other : Many) → IsDeciding setup.table →
    MeasuresTogether setup secrets one → MeasuresTogether setup secrets other → cut_picture one.cut ≡ cut_picture other.cut
one_many setup secrets one other deciding is also = (one_many_measure setup secrets one other deciding is also).cut

-- ---- the cause in the secrets

-- a secret has the length of the first one
abbrev IsAlike : List (List ℕ) → List ℕ → Type 0
IsAlike secrets secret = length secret ≡ first_length secrets

lengths_differ : (secrets : List (List ℕ)) (index first got : ℕ) (other : HasOtherLength secrets index first got) →
    ¬ IsAlike secrets other.secret
lengths_differ secrets index first got other alike = other.other (other.got_is ∙ (alike ∙ sym other.first_is))

lengths_alike : (secrets : List (List ℕ)) (index first got : ℕ) (other : HasOtherLength secrets index first got) →
    AllByRecursion (IsAlike secrets) other.earlier
lengths_alike secrets index first got other =
    subst (λ (n : ℕ). HaveLength n other.earlier) other.first_is other.alike

pub same_length : (secrets : List (List ℕ)) (index first got : ℕ) → HaveLength (first_length secrets) secrets →
    HasOtherLength secrets index first got → ⊥
same_length secrets index first got alike other =
    let parts = all_parts (IsAlike secrets) other.earlier (other.secret ∷ other.later)
    (subst (AllByRecursion (IsAlike secrets)) other.secrets_are alike) in
    lengths_differ secrets index first got other parts.1.0

one_length : (secrets : List (List ℕ)) (index first got number front found : ℕ) →
    HasOtherLength secrets index first got → HasOtherLength secrets number front found →
    Length index first got ≡ Length number front found
one_length secrets index first got number front found one also =
    let same : AreSamePlaces one.earlier also.earlier one.secret also.secret =
    one_first (IsAlike secrets) one.earlier also.earlier one.later also.later one.secret also.secret
    (lengths_alike secrets index first got one) (lengths_alike secrets number front found also)
    (lengths_differ secrets index first got one) (lengths_differ secrets number front found also)
    (sym one.secrets_are ∙ also.secrets_are) in
    let indices : index ≡ number = one.counted ∙ (ap (λ n. n + 1) same.places ∙ sym also.counted) in
    let firsts : first ≡ front = one.first_is ∙ sym also.first_is in
    let lengths : got ≡ found = one.got_is ∙ (ap (λ (s : List ℕ). length s) same.items ∙ sym also.got_is) in
    ap (λ n. Length n first got) indices ∙ ap₂ (λ n m. Length number n m) firsts lengths

-- ---- the cause in a run

module _ (setup : Setup) (secrets : List (List ℕ)) (deciding : IsDeciding setup.table) where
  has-none : (index : ℕ) (fault : MeasureFault) (refused : IsFirstRefused setup secrets index fault) →
      ¬ HasRun setup refused.secret
  has-none index fault refused has =
      no_cause setup refused.secret has.events has.run deciding fault refused.cause refused.named

  pub none-refused : (index : ℕ) (fault : MeasureFault) (events : List Event) → HaveUnion setup secrets events →
      IsFirstRefused setup secrets index fault → ⊥
  none-refused index fault events union refused =
      let parts = all_parts (HasRun setup) refused.earlier (refused.secret ∷ refused.later)
      (subst (AllByRecursion (HasRun setup)) refused.secrets_are (have_runs setup secrets union.runs union.are_runs)) in
      has-none index fault refused parts.1.0

  one_run : (index number : ℕ) (fault other : MeasureFault) → IsFirstRefused setup secrets index fault →
      IsFirstRefused setup secrets number other → Run index fault ≡ Run number other
  one_run index number fault other one also =
      let same : AreSamePlaces one.earlier also.earlier one.secret also.secret =
      one_first (HasRun setup) one.earlier also.earlier one.later also.later one.secret also.secret
      (have_runs setup one.earlier one.runs one.are_runs) (have_runs setup also.earlier also.runs also.are_runs)
      (has-none index fault one) (has-none number other also) (sym one.secrets_are ∙ also.secrets_are) in
      let indices : index ≡ number = one.counted ∙ (ap (λ n. n + 1) same.places ∙ sym also.counted) in
      let cause : HasCause setup.table setup.regions (start_on setup also.secret) setup.limit fault =
      subst (λ (s : List ℕ). HasCause setup.table setup.regions (start_on setup s) setup.limit fault) same.items
      one.cause in
      ap₂ (λ n f. Run n f) indices
      (one_cause setup.table setup.regions (start_on setup also.secret) setup.limit fault other deciding cause
      also.cause one.named also.named)

  -- ---- the cause in all runs together

  united_too : (events others : List Event) (one : HaveUnion setup secrets events) →
      HaveUnion setup secrets others → IsUnited one.runs others
  united_too events others one also =
      subst (λ runs. IsUnited runs others)
      (same_runs setup secrets also.runs one.runs deciding also.are_runs one.are_runs) also.united

  pub within-too : (events others : List Event) → HaveUnion setup secrets events → HaveUnion setup secrets others →
      ExceedsLimit others → ExceedsLimit events
  within-too events others one also exceeds =
      exceeds-too one.runs events others one.united (united_too events others one also) exceeds

  pub value_most : (events others : List Event) (value other : ℕ) → HaveUnion setup secrets events →
      HaveUnion setup secrets others → HasMaximum events value → HasMaximum others other → value ≤ other
  value_most events others value other one also is most =
      let of : IsGraphOf events most.graph =
      graph-too one.runs events others one.united (united_too events others one also) most.graph most.graph_of in
      let same : most.graph ≡ is.graph = one_graph events most.graph is.graph of is.graph_of in
      let greatest : HasNoGreater is.graph other =
      subst (λ (g : Graph). HasNoGreater g other) same most.greatest in
      let flow : flow_value is.graph is.points is.links ≤ other = greatest is.points is.links is.flow in
      let own : flow_value is.graph is.points is.links ≡ value = is.value_is in
      omega (arith, flow, own)

  one-value : (value other : ℕ) → IsTooMuch setup secrets value → IsTooMuch setup secrets other →
      BudgetLimit value ≡ BudgetLimit other
  one-value value other one also =
      let most = value_most one.events also.events value other one.union also.union one.maximum also.maximum in
      let least = value_most also.events one.events other value also.union one.union also.maximum one.maximum in
      let same : value ≡ other = omega (arith, most, least) in ap (λ (n : ℕ). BudgetLimit n) same

  not_both : (value : ℕ) → IsTooLarge setup secrets → IsTooMuch setup secrets value → ⊥
  not_both value large much =
      much.within (within-too much.events large.events much.union large.union large.exceeds)

-- ---- one cause

pub one_many_cause : (setup : Setup) (secrets : List (List ℕ)) (a b : ManyFault) → IsDeciding setup.table →
    HasManyCause setup secrets a → HasManyCause setup secrets b → a ≢ Memory → b ≢ Memory → a ≡ b
one_many_cause setup secrets (Length index first got) (Length number front found) deciding one also free other =
    one_length secrets index first got number front found one also
one_many_cause setup secrets (Length index first got) (Run number fault) deciding one also free other =
    absurd (same_length secrets index first got also.0 one)
one_many_cause setup secrets (Length index first got) UnitedLimit deciding one also free other =
    absurd (same_length secrets index first got also.union.alike one)
one_many_cause setup secrets (Length index first got) (BudgetLimit value) deciding one also free other =
    absurd (same_length secrets index first got also.union.alike one)
one_many_cause setup secrets (Run index fault) (Length number first got) deciding one also free other =
    absurd (same_length secrets number first got one.0 also)
one_many_cause setup secrets (Run index fault) (Run number found) deciding one also free other =
    one_run setup secrets deciding index number fault found one.1 also.1
one_many_cause setup secrets (Run index fault) UnitedLimit deciding one also free other =
    absurd (none-refused setup secrets deciding index fault also.events also.union one.1)
one_many_cause setup secrets (Run index fault) (BudgetLimit value) deciding one also free other =
    absurd (none-refused setup secrets deciding index fault also.events also.union one.1)
one_many_cause setup secrets UnitedLimit (Length number first got) deciding one also free other =
    absurd (same_length secrets number first got one.union.alike also)
one_many_cause setup secrets UnitedLimit (Run number fault) deciding one also free other =
    absurd (none-refused setup secrets deciding number fault one.events one.union also.1)
one_many_cause setup secrets UnitedLimit UnitedLimit deciding one also free other = refl
one_many_cause setup secrets UnitedLimit (BudgetLimit value) deciding one also free other =
    absurd (not_both setup secrets deciding value one also)
one_many_cause setup secrets (BudgetLimit value) (Length number first got) deciding one also free other =
    absurd (same_length secrets number first got one.union.alike also)
one_many_cause setup secrets (BudgetLimit value) (Run number fault) deciding one also free other =
    absurd (none-refused setup secrets deciding number fault one.events one.union also.1)
one_many_cause setup secrets (BudgetLimit value) UnitedLimit deciding one also free other =
    absurd (not_both setup secrets deciding value also one)
one_many_cause setup secrets (BudgetLimit value) (BudgetLimit found) deciding one also free other =
    one-value setup secrets deciding value found one also
one_many_cause setup secrets Memory b deciding one also free other = absurd (free refl)
one_many_cause setup secrets (Length index first got) Memory deciding one also free other = absurd (other refl)
one_many_cause setup secrets (Run index fault) Memory deciding one also free other = absurd (other refl)
one_many_cause setup secrets UnitedLimit Memory deciding one also free other = absurd (other refl)
one_many_cause setup secrets (BudgetLimit value) Memory deciding one also free other = absurd (other refl)
