use Rattle.std.proofs.Common.{◌∙◌, sym}
use Rattle.region_machine.proofs.Marking.{false_of, unmarked_none}
use Rattle.region_machine.proofs.marked.MarkedRegions.is_unmarked.Goals as goal

pub returns : goal.returns
returns c = λ clear.
    unmarked_none c.args.self.now.marks c.args.self.now.regions.items c.args.pc c.args.self.now.marked
    (sym c.may_have.ensures ∙ false_of c.may_have.result clear)
