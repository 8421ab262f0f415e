use Rattle.std.proofs.Common.{ap, sym, ◌∙◌, List, ℕ}
use Rattle.cut_file.specs.declared.points.CutPoint.{CutPoint}
use Rattle.cut_file.specs.Masks.{MaskAt}
use Rattle.region_machine.specs.AddressMarks.{has_mark}
use Rattle.replay_machine.proofs.MasksAhead.{none_at, unmarked_none}
use Rattle.replay_machine.proofs.lent_visits.LentVisits.is_marked.Goals as goal

pub returns : goal.returns
returns c = λ clear point visit same.
    ap (λ (l : List CutPoint). MaskAt l point visit) (sym c.self.view_is)
    ∙ none_at c.self.inside.table.now c.self.inside.cursors.items point visit
    (unmarked_none 0 c.self.inside.marks c.self.inside.table.now point c.self.invariant.1
    (ap (λ (n : ℕ). has_mark c.self.inside.marks n) same ∙ (sym c.may_have.ensures ∙ clear)))
