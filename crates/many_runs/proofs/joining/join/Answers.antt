use Rattle.std.proofs.Common.{◌++◌, ◌∙◌, ap}
use Rattle.many_runs.proofs.JoinSteps.{join_start, join_end, join_end_other, join_next, join_next_other, join_both}
use Rattle.many_runs.proofs.joining.join.Goals as goal

pub visits-init : goal.visits-init
visits-init c = join_start c.new-runs.result c.args.first.now c.args.second.now c.new-runs.ensures

pub returns-in_default : goal.returns-in_default
returns-in_default c =
    join_end c.visits.runs c.visits.one c.visits.other c.visits.ones.now c.visits.others.now _ _ c.if-one-eq0.true
    c.in_default.len_below (c.in_ok-put_all.ensures ∙ ap (λ runs. runs ++ c.visits.others.now) c.in_ok-push.ensures.ok)
    c.visits.invariant

pub visits-preserved-then-one-eq0 : goal.visits-preserved-then-one-eq0
visits-preserved-then-one-eq0 c =
    join_next c.visits.runs c.visits.one c.visits.other c.visits.ones.now c.visits.others.now _ _ c.if-one-eq0.true
    c.in-len1-up.len_at_least c.visits.invariant

pub returns-in_default-others : goal.returns-in_default-others
returns-in_default-others c =
    join_end_other c.visits.runs c.visits.one c.visits.other c.visits.ones.now c.visits.others.now _ _
    c.if-other-eq0.true c.in_default-others.len_below
    (c.in_ok-put_all-2.ensures ∙ ap (λ runs. runs ++ c.visits.ones.now) c.in_ok-push-2.ensures.ok) c.visits.invariant

pub visits-preserved-then-other-eq0 : goal.visits-preserved-then-other-eq0
visits-preserved-then-other-eq0 c =
    join_next_other c.visits.runs c.visits.one c.visits.other c.visits.ones.now c.visits.others.now _ _
    c.if-other-eq0.true c.in-len1-up-others.len_at_least c.visits.invariant

pub visits-preserved : goal.visits-preserved
visits-preserved c =
    join_both c.visits.runs _ c.visits.one c.visits.other c.visits.ones.now c.visits.others.now _ c.min-count.result
    c.min-count.ensures c.in_ok-push-3.ensures.ok c.visits.invariant
