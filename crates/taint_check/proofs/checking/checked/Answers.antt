use Rattle.std.proofs.Common.{◌≡◌, refl, ap, arith, subst, sym, ◌∙◌}
use Rattle.std.proofs.lemmas.Result.{IfOk-weaker}
use Rattle.lockstep_replay.specs.LentTasks.{limits_in, task_in}
use Rattle.replay_machine.proofs.MasksAhead.{same_first}
use Rattle.taint_check.specs.Tainted.{IsVerdict, finding_of}
use Rattle.taint_check.proofs.RunVerdicts.{verdict_length}
use Rattle.taint_check.proofs.checking.checked.Goals as goal

pub returns-then-got-cut : goal.returns-then-got-cut
returns-then-got-cut g c =
    let task = c.args.task.now in
    verdict_length c.args.book.now.table (task_in task) (limits_in task) c.args.secret.now task.cut.now.secret_len
    c.len-got.result refl c.len-got.ensures (λ same. c.if-got-cut.true (c.len-got.ensures ∙ same))

pub returns : goal.returns
returns g c =
    let task = c.args.task.now in
    let secret = c.args.secret.now in
    let marked : c.in_ok-marked.marked.regions.items ≡ task.regions.now.items =
    ap (λ r. r.items) c.in_ok-marked.ensures ∙ c.in_ok-copy_regions.ensures in
    IfOk-weaker c.run_turns.result _ _
    (λ made is. subst (λ table. IsVerdict table (task_in task) (limits_in task) secret (finding_of made.0))
    c.in_ok-side.ensures.table
    (is (task_in task) (limits_in task) secret
    (record {
      enclosures = λ i. record { regions = sym marked i; skip = sym c.as_slice.ensures i };
      stands = record {
        state = c.in_ok-machine.ensures.start;
        unbroken = refl;
        labels = c.in_ok-side.ensures.masks;
        ahead =
            same_first c.in_ok-side.side.tally.masks task.table.now task.cut.now.points task.same
            c.in_ok-side.ensures.ahead;
        budget = c.in_ok-side.ensures.budget;
        bits = c.in_ok-side.ensures.bits;
        needed = c.in_ok-side.ensures.needed;
        within = omega arith;
      };
    }) refl (sym c.len-got.ensures ∙ c.if-got-cut.false)))
    c.run_turns.ensures
