use Rattle.std.proofs.Common.{◌≡◌, ◌∙◌, ap, sym, subst, List, None}
use Rattle.cut_file.specs.declared.points.CutPoint.{CutPoint}
use Rattle.replay_machine.specs.Tables.{index_from}
use Rattle.replay_machine.proofs.MasksAhead.{none_one, none_moves}
use Rattle.replay_machine.proofs.cut_tables.CutTable.pass_found.Goals as goal

gone_sought : (c : goal.In-None) → index_from 0 c.args.self.now c.args.point ≡ None
gone_sought c =
    subst (λ (l : List CutPoint). index_from 0 l c.args.point ≡ None) c.self.view_is
    (ap (λ (l : List CutPoint). index_from 0 l c.args.point) (sym c.as_slice.ensures.value) ∙ sym c.find.ensures
    ∙ c.in-None.is)

pub returns-in-None-clause-mask : goal.returns-in-None-clause-mask
returns-in-None-clause-mask c = none_one c.args.self.now c.args.cursors.now.items c.args.point (gone_sought c)

pub returns-in-None-clause-moves : goal.returns-in-None-clause-moves
returns-in-None-clause-moves c = none_moves c.args.self.now c.args.cursors.now.items c.args.point (gone_sought c)
