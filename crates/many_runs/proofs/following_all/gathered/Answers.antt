use Rattle.std.proofs.Common.{◌++◌, ◌∷◌, ◌∙◌, [], ap, subst, sym, List}
use Rattle.flow_graph.specs.declared.events.Event.{Event}
use Rattle.many_runs.specs.Following.{AreFollowed}
use Rattle.many_runs.specs.Private.Recordings.{AllKeep, RecordsUnion}
use Rattle.many_runs.proofs.RecordedRuns.{followed_union}
use Rattle.many_runs.proofs.following_all.gathered.Goals as goal

pub returns : goal.returns
returns c = λ setup secrets are.
    subst (λ recordings. AreFollowed setup secrets recordings)
    (sym (c.in_ok-push.ensures.ok ∙ ap (λ list. list ++ c.in_ok-union.union ∷ []) c.new-one.ensures))
    (followed_union setup secrets c.args.recordings c.in_ok-union.union
    (subst (λ list. (runs : List (List Event)) → AllKeep list runs → RecordsUnion runs c.in_ok-union.union)
    c.as_slice.ensures c.in_ok-union.ensures) c.if-union.false are)
