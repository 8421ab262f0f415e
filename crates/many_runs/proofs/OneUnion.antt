-- Secrets have one list of runs, where the table decides, and united events of the same runs have one graph and one cut.
use Rattle.std.proofs.Common.{◌≡◌, ◌≢◌, ℕ, ◌≤◌, ◌^◌, ◌==◌, ◌∷◌, [], not, List, length, refl, sym, ap, ◌∙◌}
use Rattle.std.proofs.Common.{subst, inl, inr, arith}
use Rattle.std.specs.List.{AllByRecursion, sum_by}
use Rattle.acceptance_law.specs.RunCuts.{HasVisitMasks, IsCutOf, united, visit_masks}
use Rattle.acceptance_law.specs.Sides.{NamedSide}
use Rattle.cut_file.specs.declared.points.CutPoint.{CutPoint}
use Rattle.cut_file.specs.declared.points.Run.{Run}
use Rattle.cut_file.specs.Cuts.{CutPicture}
use Rattle.flow_base.specs.declared.points.Point.{Point}
use Rattle.flow_base.specs.Words.{bit_count}
use Rattle.flow_graph.specs.declared.events.Event.{Event}
use Rattle.flow_graph.specs.declared.graphs.Graph.{Graph}
use Rattle.flow_graph.specs.declared.named_links.NamedLink.{NamedLink}
use Rattle.flow_graph.specs.EventGraphs.{IsGraphOf, has_passed, is_among, named_links, passed}
use Rattle.flow_graph.proofs.SameLinksSameRelays.{same_relays}
use Rattle.location_collapse.specs.Limits.{ExceedsLimit}
use Rattle.location_collapse.proofs.CollapseLimits.{all_more}
use Rattle.run_labels.specs.Runs.{LabelledRun, run_after}
use Rattle.run_labels.specs.declared.faults.MeasureFault.{MeasureFault}
use Rattle.run_labels.specs.declared.faults.MeasureFault.TheVariants.{TurnLimit, Guest, Region as RegionFault}
use Rattle.run_labels.specs.declared.faults.MeasureFault.TheVariants.{SecretCode, BaseSecret, GraphLimit, Memory}
use Rattle.measuring.specs.Measures.{HasCause}
use Rattle.measuring.specs.RunCauses.{GoesOn, IsRefused, mode_of}
use Rattle.measuring.proofs.MeasuredWithoutCause.{exited_mode, exits_not_running, exits_unrefused, same_exits}
use Rattle.many_runs.specs.Measures.{AreRunsOn, IsRunOn, Setup, start_on}
use Rattle.many_runs.specs.Uniting.{IsUnited}
use Rattle.many_runs.proofs.BitsOfUnions.{visit_bits}
use Rattle.transfer_rules.specs.Tables.{IsDeciding}

-- ---- a run

module _ (setup : Setup) (secret : List ℕ) (events : List Event) (run : IsRunOn setup secret events)
    (deciding : IsDeciding setup.table) where
  unrefused : (fault : MeasureFault) → IsRefused setup.table setup.regions (start_on setup secret) setup.limit fault → ⊥
  unrefused fault refused =
      exits_unrefused setup.table setup.regions (start_on setup secret) (run.exits.last ∷ run.exits.earlier) setup.limit
      fault deciding run.exits.is_run.by_table run.exits.is_run.unrefused
      (exited_mode (mode_of (run_after setup.regions (run.exits.last ∷ run.exits.earlier) (start_on setup secret)))
      run.output.status run.exits.exited)
      refused

  unlimited : GoesOn setup.table setup.regions (start_on setup secret) setup.limit → ⊥
  unlimited goes_on =
      let counted : length (run.exits.last ∷ run.exits.earlier) ≡ run.turns = run.exits.is_run.counted in
      let within : run.turns ≤ setup.limit = run.exits.within in
      let all : length goes_on.answers ≡ setup.limit = goes_on.is_run.counted in
      exits_not_running setup.table setup.regions (start_on setup secret) (run.exits.last ∷ run.exits.earlier)
      goes_on.answers deciding run.exits.is_run.by_table
      (exited_mode (mode_of (run_after setup.regions (run.exits.last ∷ run.exits.earlier) (start_on setup secret)))
      run.output.status run.exits.exited)
      goes_on.is_run.by_table goes_on.running (omega (arith, counted, within, all))

  -- it has no cause not to be measured
  pub no_cause : (fault : MeasureFault) →
      HasCause setup.table setup.regions (start_on setup secret) setup.limit fault → fault ≢ Memory → ⊥
  no_cause (TurnLimit turns) cause named = unlimited cause.1
  no_cause (Guest fault) cause named = unrefused (Guest fault) cause
  no_cause (RegionFault broken) cause named = unrefused (RegionFault broken) cause
  no_cause (SecretCode pc) cause named = unrefused (SecretCode pc) cause
  no_cause (BaseSecret region register) cause named = unrefused (BaseSecret region register) cause
  no_cause GraphLimit cause named =
      run.within
      (subst ExceedsLimit (sym run.all)
      (subst (λ (other : LabelledRun). ExceedsLimit other.events)
      (same_exits setup.table setup.regions (start_on setup secret) setup.limit cause.turns run.turns cause.output
      run.output deciding cause.exits run.exits)
      cause.exceeds))
  no_cause Memory cause named = named refl

  pub same-events : (other : List Event) → IsRunOn setup secret other → events ≡ other
  same-events other also =
      run.all
      ∙ (ap (λ (r : LabelledRun). r.events)
      (same_exits setup.table setup.regions (start_on setup secret) setup.limit run.turns also.turns run.output
      also.output deciding run.exits also.exits)
      ∙ sym also.all)

-- ---- the runs on several secrets

pub same_runs : (setup : Setup) (secrets : List (List ℕ)) (runs others : List (List Event)) → IsDeciding setup.table →
    AreRunsOn setup secrets runs → AreRunsOn setup secrets others → runs ≡ others
unfolding AreRunsOn
same_runs setup [] [] [] deciding are also = refl
same_runs setup [] [] (other ∷ others) deciding are also = absurd also
same_runs setup [] (events ∷ runs) others deciding are also = absurd are
same_runs setup (secret ∷ secrets) [] others deciding are also = absurd are
same_runs setup (secret ∷ secrets) (events ∷ runs) [] deciding are also = absurd also
same_runs setup (secret ∷ secrets) (events ∷ runs) (other ∷ others) deciding are also =
    ap (λ first. first ∷ runs) (same-events setup secret events are.0 deciding other also.0)
    ∙ ap (λ rest. other ∷ rest) (same_runs setup secrets runs others deciding are.1 also.1)

-- the run on one of the secrets
pub record HasRun (setup : Setup) (secret : List ℕ) : Type 0 where
  pub events : List Event
  pub run : IsRunOn setup secret events

pub have_runs : (setup : Setup) (secrets : List (List ℕ)) (runs : List (List Event)) → AreRunsOn setup secrets runs →
    AllByRecursion (HasRun setup) secrets
unfolding AreRunsOn
have_runs setup [] [] are = tt
have_runs setup [] (events ∷ runs) are = absurd are
have_runs setup (secret ∷ secrets) [] are = absurd are
have_runs setup (secret ∷ secrets) (events ∷ runs) are =
    (record { events = events; run = are.0 }, have_runs setup secrets runs are.1)

-- ---- united events of the same runs

module _ (runs : List (List Event)) (events others : List Event) (one : IsUnited runs events)
    (also : IsUnited runs others) where
  same-masks : (point : Point) → visit_masks point others ≡ visit_masks point events
  same-masks point = also.masks point ∙ sym (one.masks point)

  same-passed : (point : Point) → passed others point ≡ passed events point
  same-passed point =
      sym (visit_bits point others)
      ∙ (ap (λ masks. sum_by bit_count masks) (same-masks point) ∙ visit_bits point events)

  same-links : (link : NamedLink) → is_among (named_links others) link ≡ is_among (named_links events) link
  same-links link = also.links link ∙ sym (one.links link)

  pub exceeds-too : ExceedsLimit others → ExceedsLimit events
  exceeds-too (inl many) = inl (record {
    points = many.points;
    differ = many.differ;
    passed = all_more (has_passed others) (has_passed events)
        (λ q has. ap (λ n. not (n == 0)) (sym (same-passed q)) ∙ has) many.points many.passed;
    more = many.more;
  })
  exceeds-too (inr (inl many)) = inr (inl (record {
    links = many.links;
    differ = many.differ;
    occur = all_more (is_among (named_links others)) (is_among (named_links events))
        (λ link occurs. sym (same-links link) ∙ occurs) many.links many.occur;
    more = many.more;
  }))
  exceeds-too (inr (inr large)) = inr (inr (record {
    point = large.point;
    reached =
        let same = same-passed large.point in
        let over : 2 ^ 48 ≤ passed others large.point = large.reached in omega (arith, same, over);
  }))

  pub graph-too : (graph : Graph) → IsGraphOf others graph → IsGraphOf events graph
  graph-too graph of = record {
    points = λ q. of.points q ∙ same-passed q;
    relays = λ region. of.relays region ∙ same_relays region (named_links others) (named_links events) same-links;
    links = λ link. of.links link ∙ same-links link;
  }

  masks-too : (points : List CutPoint) → AllByRecursion (HasVisitMasks others) points →
      AllByRecursion (HasVisitMasks events) points
  masks-too [] have = tt
  masks-too (first ∷ points) have =
      let union : List Run → List ℕ → Type 0 = λ rest masks. rest ≡ record { count = 1; mask = united masks } ∷ [] in (
        record {
          masks = have.0.masks ∙ same-masks first.point;
          rest = subst (union first.rest) (same-masks first.point) have.0.rest;
        },
        masks-too points have.1,
      )

  pub cut-too : (secret_len : ℕ) (side : NamedSide) (capacity : ℕ) (cut : CutPicture) →
      IsCutOf secret_len others side capacity cut → IsCutOf secret_len events side capacity cut
  cut-too secret_len side capacity cut of = record {
    version = of.version;
    length = of.length;
    bits = of.bits;
    skip = of.skip;
    points = of.points;
    masks = masks-too cut.points of.masks;
  }
