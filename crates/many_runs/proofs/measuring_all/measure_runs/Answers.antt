use Rattle.std.proofs.Common.{Result, Ok, Err, subst, List}
use Rattle.std.specs.Result.{IfOk}
use Rattle.std.proofs.lemmas.Result.{IfErr-weaker}
use Rattle.flow_graph.specs.declared.events.Event.{Event}
use Rattle.many_runs.specs.Private.Recordings.{AllKeep, RecordsUnion}
use Rattle.many_runs.specs.Private.WeighingAll.{WeighsAll}
use Rattle.many_runs.proofs.WeighedRuns.{fitting, unweighed, weighed}
use Rattle.many_runs.proofs.measuring_all.measure_runs.Goals as goal

if_both : {T E : Type 0} (r : Result T E) (P Q R : T → Type 0) → ((x : T) → P x → Q x → R x) → IfOk r P → IfOk r Q →
    IfOk r R
if_both (Ok x) P Q R both p q = both x p q
if_both (Err e) P Q R both p q = tt

pub returns-clause-ok : goal.returns-clause-ok
returns-clause-ok g c =
    if_both c.weigh_all.result _ _ _
    (λ many weighs budget. weighed _ c.args.secrets.now c.in_ok-recordings.recordings c.in_ok-union.union
    c.in_ok-secret_len.ensures.alike c.in_ok-recordings.ensures.ok
    (subst (λ list. (runs : List (List Event)) → AllKeep list runs → RecordsUnion runs c.in_ok-union.union)
    c.as_slice.ensures c.in_ok-union.ensures) many
    (subst (λ n. WeighsAll c.in_ok-union.union n many) c.in_ok-secret_len.ensures.ok weighs) budget)
    c.weigh_all.ensures.ok c.weigh_all.ensures.budget

pub returns-clause-err : goal.returns-clause-err
returns-clause-err g c =
    IfErr-weaker c.weigh_all.result _ _
    (λ fault cause. unweighed _ c.args.secrets.now c.in_ok-recordings.recordings c.in_ok-union.union
    c.in_ok-secret_len.ensures.alike c.in_ok-recordings.ensures.ok
    (subst (λ list. (runs : List (List Event)) → AllKeep list runs → RecordsUnion runs c.in_ok-union.union)
    c.as_slice.ensures c.in_ok-union.ensures) fault cause)
    c.weigh_all.ensures.err

pub weigh_all-requires-clause-known : goal.weigh_all-requires-clause-known
weigh_all-requires-clause-known g c =
    fitting _ c.args.secrets.now c.in_ok-recordings.recordings c.in_ok-union.union
    c.in_ok-secret_len.ensures.alike c.in_ok-recordings.ensures.ok
    (subst (λ list. (runs : List (List Event)) → AllKeep list runs → RecordsUnion runs c.in_ok-union.union)
    c.as_slice.ensures c.in_ok-union.ensures) c.requires.turns c.requires.regions c.requires.short
