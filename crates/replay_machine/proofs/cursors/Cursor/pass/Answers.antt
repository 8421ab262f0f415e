use Rattle.std.proofs.Common.{drop, suc, refl, sym, ◌∙◌}
use Rattle.replay_machine.specs.Tables.{runs_at}
use Rattle.replay_machine.proofs.RunsAhead.{masked, run_one, run_next}
use Rattle.replay_machine.proofs.cursors.Cursor.pass.Goals as goal

pub returns-clause-mask : goal.returns-clause-mask
returns-clause-mask c =
    let ready = c.ready-ready.result in
    masked _ _ _ _ (sym (run_one ready.left ready.mask (drop ready.run (runs_at c.args.point.now ready))
    c.args.point.now.rest c.ready-ready.ensures.some)) c.width.ensures
    ∙ c.ready-ready.ensures.same 1

pub returns-clause-later : goal.returns-clause-later
returns-clause-later c = λ visit first.
    let ready = c.ready-ready.result in
    masked _ _ _ _ (run_next ready.left ready.mask (drop ready.run (runs_at c.args.point.now ready))
    c.args.point.now.rest visit c.ready-ready.ensures.some first) refl
    ∙ c.ready-ready.ensures.same (suc visit)
