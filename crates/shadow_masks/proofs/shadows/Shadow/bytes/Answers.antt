use Rattle.std.proofs.Common.{◌≤◌, ap, sym, ◌∙◌, rules}
use Rattle.shadow_masks.proofs.Steps.{bytes_of_page}
use Rattle.shadow_masks.proofs.shadows.Shadow.bytes.Goals as goal

pub returns-clause-labels : goal.returns-clause-labels
returns-clause-labels c =
    let base = c.self.inside.base in
    let address = c.args.address in
    let from : base ≤ address = search rules in
    c.labels_in.ensures.labels
    ∙ bytes_of_page c.args.self.now c.page.result.now base address c.args.count (sym (ap (λ s. s.base) c.self.view_is)) from
    c.if-place-count-gt4096.false c.page.ensures
