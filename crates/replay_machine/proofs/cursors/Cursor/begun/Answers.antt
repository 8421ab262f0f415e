use Rattle.std.proofs.Common.{◌≡◌, ◌≤◌, ◌<◌, List, length, get_or, refl, ◌∙◌, ap, subst}
use Rattle.cut_file.specs.declared.points.Run.{Run}
use Rattle.replay_machine.specs.Tables.{runs_at}
use Rattle.replay_machine.proofs.RunsAhead.{first_is, masked, rest_known, rest_some, run_begun, run_count, run_round}
use Rattle.replay_machine.proofs.cursors.Cursor.begun.Goals as goal

pub returns-in-Some-clause-same : goal.returns-in-Some-clause-same
returns-in-Some-clause-same c = λ visit.
    let inside : c.args.self.run < length (runs_at c.args.point.now c.args.self) =
    subst (λ (l : List Run). c.args.self.run < length l) c.runs.ensures c.in-Some.ensures.lookup.3.0 in
    let is : c.in-Some.run'.now ≡ get_or (runs_at c.args.point.now c.args.self) c.args.self.run c.in-Some.run'.now =
    c.in-Some.ensures.lookup.1 ∙ ap (λ (l : List Run). get_or l c.args.self.run c.in-Some.run'.now) c.runs.ensures in
    masked _ _ _ _ (run_begun c.args.self.left c.args.self.mask (runs_at c.args.point.now c.args.self)
    c.args.point.now.rest c.args.self.run c.in-Some.run'.now visit c.requires.ended inside is) refl

pub returns-in-None-clause-same : goal.returns-in-None-clause-same
returns-in-None-clause-same c = λ visit.
    let none : Run = record { count = 0; mask = 0 } in
    let rest : List Run = c.args.point.now.rest in
    let first : Run = get_or c.as_slice.result.now 0 none in
    let past : length (runs_at c.args.point.now c.args.self) ≤ c.args.self.run =
    subst (λ (l : List Run). length l ≤ c.args.self.run) c.runs.ensures c.in-None.ensures.lookup.3 in
    let some = rest_some c.args.point.now c.requires.point in
    let is : first ≡ get_or rest 0 first =
    ap (λ (l : List Run). get_or l 0 none) c.as_slice.ensures ∙ first_is rest none first some in
    let count = run_count rest 0 first (rest_known c.args.point.now c.requires.point) some is in
    masked _ _ _ _ (run_round c.args.self.left c.args.self.mask (runs_at c.args.point.now c.args.self) rest
    c.args.self.run first visit c.requires.ended past some is count) refl
