-- The recordings of runs that exit, one by one.
use Rattle.std.proofs.Common.{◌≡◌, ℕ, suc, ◌+◌, ◌<◌, ◌++◌, ◌∷◌, [], true, false, List, length, get_or, drop, take, refl, sym, ap, ◌∙◌}
use Rattle.std.proofs.Common.{arith, length-take, ◌≢◌}
use Rattle.std.proofs.lemmas.List.{take-append-drop, take_more}
use Rattle.std.proofs.Math.Seq.{drop-cons}
use Rattle.elf32_loader.specs.Pictures.{Picture}
use Rattle.enclosure_regions.specs.declared.region_parts.Region.{Region}
use Rattle.flow_graph.specs.declared.events.Event.{Event}
use Rattle.region_machine.specs.Starts.{guest}
use Rattle.run_labels.specs.Runs.{LabelledRun, run_after, unlabelled}
use Rattle.measuring.specs.declared.following.Exit.{Exit}
use Rattle.measuring.specs.declared.recordings.Recording.{Recording}
use Rattle.measuring.specs.Following.{HasEnded}
use Rattle.measuring.specs.Measures.{HasCause, IsTooLarge}
use Rattle.run_labels.specs.declared.faults.MeasureFault.{MeasureFault}
use Rattle.run_labels.specs.declared.faults.MeasureFault.TheVariants.{TurnLimit, Guest, Region as RegionFault}
use Rattle.run_labels.specs.declared.faults.MeasureFault.TheVariants.{SecretCode, BaseSecret, GraphLimit}
use Rattle.run_labels.specs.declared.faults.MeasureFault.TheVariants.{Memory as RunMemory}
use Rattle.measuring.proofs.GraphWithinLimits.{recorded_exceeds_none}
use Rattle.many_runs.specs.Causes.{IsFirstRefused}
use Rattle.many_runs.specs.Following.{AreFollowed, IsFollowed, IsRunFault, many_fault_of}
use Rattle.many_runs.specs.Measures.{AreRunsOn, IsRunOn, Setup, setup_of, start_on}
use Rattle.many_runs.specs.Private.Recordings.{AllKeep, AreSameTogether, Keeps, RecordsUnion}
use Rattle.many_runs.specs.Uniting.{IsUnited, all_links, united_masks, joined_masks}
use Rattle.many_runs.proofs.JoinedMasks.{joined_chain, joined_none, none_joined}
use Rattle.std.proofs.Common.{◌||◌, Bool, append-nil}
use Rattle.std.proofs.lemmas.List.Folds.{list_any-append}
use Rattle.flow_base.specs.declared.points.Point.{Point}
use Rattle.flow_graph.specs.declared.named_links.NamedLink.{NamedLink}
use Rattle.flow_graph.specs.EventGraphs.{is_among, named_links}
use Rattle.acceptance_law.specs.RunCuts.{visit_masks}

pub exit_exceeds : (table : ℕ) (regions : List Region) (start : LabelledRun) (limit : ℕ) (exit : Exit) →
    HasEnded table regions start limit exit → exit.recording.collapse.is_full ≡ true →
    IsTooLarge table regions start limit
exit_exceeds table regions start limit exit ended full = record {
  turns = exit.turns;
  output = exit.output;
  exits = ended.exits;
  exceeds = ended.records.exceeds full;
}

pub exit_followed : (table : ℕ) (program : Picture) (public_input : List ℕ) (regions : List Region) (limit : ℕ)
    (secret : List ℕ) (exit : Exit) →
    HasEnded table regions (unlabelled (guest program public_input secret)) limit exit →
    exit.recording.collapse.is_full ≡ false →
    IsFollowed (setup_of table program public_input regions limit) secret exit.recording
exit_followed table program public_input regions limit secret exit ended within = record {
  events = (run_after regions (ended.exits.last ∷ ended.exits.earlier)
      (unlabelled (guest program public_input secret))).events;
  run = record {
    turns = exit.turns;
    output = exit.output;
    exits = ended.exits;
    all = refl;
    within = recorded_exceeds_none exit.recording within _ (ended.records.graph within);
  };
  keeps = record { within = within; records = ended.records };
}

-- ---- one run more

runs_more : (setup : Setup) (secrets : List (List ℕ)) (runs : List (List Event)) (secret : List ℕ)
    (events : List Event) → AreRunsOn setup secrets runs → IsRunOn setup secret events →
    AreRunsOn setup (secrets ++ secret ∷ []) (runs ++ events ∷ [])
unfolding AreRunsOn
runs_more setup [] [] secret events are run = (run, tt)
runs_more setup [] (first ∷ runs) secret events are run = absurd are
runs_more setup (first ∷ secrets) [] secret events are run = absurd are
runs_more setup (first ∷ secrets) (other ∷ runs) secret events are run =
    (are.0, runs_more setup secrets runs secret events are.1 run)

keep_more : (recordings : List Recording) (runs : List (List Event)) (recording : Recording) (events : List Event) →
    AllKeep recordings runs → Keeps recording events → AllKeep (recordings ++ recording ∷ []) (runs ++ events ∷ [])
unfolding AllKeep
keep_more [] [] recording events keep also = (also, tt)
keep_more [] (first ∷ runs) recording events keep also = absurd keep
keep_more (first ∷ recordings) [] recording events keep also = absurd keep
keep_more (first ∷ recordings) (other ∷ runs) recording events keep also =
    (keep.0, keep_more recordings runs recording events keep.1 also)

-- ---- a few recordings of many runs

joined_append : (point : Point) (first second : List (List Event)) →
    joined_masks point (first ++ second) ≡ united_masks (joined_masks point first) (joined_masks point second)
unfolding joined_masks
joined_append point [] second = sym (none_joined (joined_masks point second))
joined_append point (events ∷ first) second =
    ap (λ masks. united_masks (visit_masks point events) masks) (joined_append point first second)
    ∙ sym (joined_chain (visit_masks point events) (joined_masks point first) (joined_masks point second))

links_append : (first second : List (List Event)) (link : NamedLink) →
    is_among (all_links (first ++ second)) link ≡ (is_among (all_links first) link || is_among (all_links second) link)
unfolding all_links
links_append [] second link = refl
links_append (events ∷ first) second link =
    list_any-append _ (named_links events) (all_links (first ++ second))
    ∙ (ap (λ b. is_among (named_links events) link || b) (links_append first second link)
    ∙ (or-chain (is_among (named_links events) link) (is_among (all_links first) link)
    (is_among (all_links second) link)
    ∙ ap (λ b. b || is_among (all_links second) link)
    (sym (list_any-append _ (named_links events) (all_links first)))))
  where
    or-chain : (a b c : Bool) → (a || (b || c)) ≡ ((a || b) || c)
    or-chain true b c = refl
    or-chain false b c = refl

same_more : (runs others : List (List Event)) (events : List Event) → AreSameTogether runs others →
    AreSameTogether (runs ++ events ∷ []) (others ++ events ∷ [])
same_more runs others events same = record {
  masks = λ point. joined_append point others (events ∷ [])
      ∙ (ap (λ masks. united_masks masks (joined_masks point (events ∷ []))) (same.masks point)
      ∙ sym (joined_append point runs (events ∷ [])));
  links = λ link. links_append others (events ∷ []) link
      ∙ (ap (λ b. b || is_among (all_links (events ∷ [])) link) (same.links link)
      ∙ sym (links_append runs (events ∷ []) link));
}

-- united events of some runs are one run that has what all of them have
same_union : (runs others : List (List Event)) (events : List Event) → AreSameTogether runs others →
    IsUnited others events → AreSameTogether runs (events ∷ [])
unfolding joined_masks all_links
same_union runs others events same united = record {
  masks = λ point. joined_none (visit_masks point events) ∙ (united.masks point ∙ same.masks point);
  links = λ link. ap (λ links. is_among links link) (append-nil (named_links events))
      ∙ (united.links link ∙ same.links link);
}

pub united_too : (runs others : List (List Event)) (events : List Event) → AreSameTogether runs others →
    IsUnited others events → IsUnited runs events
united_too runs others events same united = record {
  masks = λ point. united.masks point ∙ same.masks point;
  links = λ link. united.links link ∙ same.links link;
}

pub none_followed : (setup : Setup) → AreFollowed setup [] []
unfolding AreRunsOn AllKeep
none_followed setup = record {
  runs = [];
  are_runs = tt;
  kept = [];
  keep = tt;
  same = record { masks = λ point. refl; links = λ link. refl };
}

pub followed_more : (setup : Setup) (secrets : List (List ℕ)) (recordings : List Recording) (secret : List ℕ)
    (recording : Recording) → AreFollowed setup secrets recordings → IsFollowed setup secret recording →
    AreFollowed setup (secrets ++ secret ∷ []) (recordings ++ recording ∷ [])
followed_more setup secrets recordings secret recording are is = record {
  runs = are.runs ++ is.events ∷ [];
  are_runs = runs_more setup secrets are.runs secret is.events are.are_runs is.run;
  kept = are.kept ++ is.events ∷ [];
  keep = keep_more recordings are.kept recording is.events are.keep is.keeps;
  same = same_more are.runs are.kept is.events are.same;
}

-- a recording of what the recordings have together stands in their place
pub followed_union : (setup : Setup) (secrets : List (List ℕ)) (recordings : List Recording) (union : Recording) →
    ((runs : List (List Event)) → AllKeep recordings runs → RecordsUnion runs union) →
    union.collapse.is_full ≡ false → AreFollowed setup secrets recordings → AreFollowed setup secrets (union ∷ [])
unfolding AllKeep
followed_union setup secrets recordings union unites within are =
    let all = unites are.kept are.keep in
    record {
      runs = are.runs;
      are_runs = are.are_runs;
      kept = all.events ∷ [];
      keep = (record { within = within; records = all.records }, tt);
      same = same_union are.runs are.kept all.events are.same all.united;
    }

-- ---- the place in a list

-- an item with those before it and after it
pub parted : {X : Type 0} (xs : List X) (i : ℕ) (x : X) → i < length xs → x ≡ get_or xs i x →
    xs ≡ take i xs ++ x ∷ drop (i + 1) xs
parted xs i x below is =
    sym (take-append-drop i xs)
    ∙ ap (λ rest. take i xs ++ rest)
    (drop-cons xs i x below ∙ ap (λ y. y ∷ drop (suc i) xs) (sym is) ∙ ap (λ k. x ∷ drop k xs) (sym (plus-one i)))
  where
    plus-one : (n : ℕ) → n + 1 ≡ suc n
    plus-one n = omega arith

pub next_taken : {X : Type 0} (xs : List X) (i : ℕ) (x : X) → i < length xs → x ≡ get_or xs i x →
    take (i + 1) xs ≡ take i xs ++ x ∷ []
next_taken xs i x below is = take_more xs i x below ∙ ap (λ y. take i xs ++ y ∷ []) (sym is)

-- ---- a run that is refused

named : (fault : MeasureFault) (setup : Setup) (secrets : List (List ℕ)) (index : ℕ) →
    ((fault ≢ RunMemory) → IsFirstRefused setup secrets index fault) → IsRunFault setup secrets (many_fault_of index fault)
named (TurnLimit limit) setup secrets index refused = refused (λ e. cc)
named (Guest fault) setup secrets index refused = refused (λ e. cc)
named (RegionFault broken) setup secrets index refused = refused (λ e. cc)
named (SecretCode pc) setup secrets index refused = refused (λ e. cc)
named (BaseSecret region register) setup secrets index refused = refused (λ e. cc)
named GraphLimit setup secrets index refused = refused (λ e. cc)
named RunMemory setup secrets index refused = tt

-- the next run is the first that is refused
pub first_refused : (setup : Setup) (secrets : List (List ℕ)) (recordings : List Recording) (index : ℕ)
    (secret : List ℕ) (fault : MeasureFault) → index < length secrets → secret ≡ get_or secrets index secret →
    AreFollowed setup (take index secrets) recordings →
    HasCause setup.table setup.regions (start_on setup secret) setup.limit fault →
    IsRunFault setup secrets (many_fault_of (index + 1) fault)
first_refused setup secrets recordings index secret fault below is are cause =
    named fault setup secrets (index + 1) (λ other. record {
      earlier = take index secrets;
      secret = secret;
      later = drop (index + 1) secrets;
      secrets_are = parted secrets index secret below is;
      counted = omega (arith, length-take index secrets, below);
      runs = are.runs;
      are_runs = are.are_runs;
      cause = cause;
      named = other;
    })
