use Rattle.std.proofs.Common.{◌≤◌, ap, sym, rules}
use Rattle.shadow_masks.proofs.Steps.{clean_of_page, clean_to_page}
use Rattle.shadow_masks.proofs.shadows.Shadow.is_clean.Goals as goal

pub returns-clause-yes : goal.returns-clause-yes
returns-clause-yes c is =
    let base = c.self.inside.base in
    let address = c.args.address in
    let from : base ≤ address = search rules in
    clean_of_page c.args.self.now c.page.result.now base address c.args.length (sym (ap (λ s. s.base) c.self.view_is)) from
    c.if-first-length-gt4096.false c.page.ensures (c.is_clean_in.ensures.yes is)

pub returns-clause-no : goal.returns-clause-no
returns-clause-no c clean_each =
    let base = c.self.inside.base in
    let address = c.args.address in
    let from : base ≤ address = search rules in
    c.is_clean_in.ensures.no
    (clean_to_page c.args.self.now c.page.result.now base address c.args.length (sym (ap (λ s. s.base) c.self.view_is)) from
    c.if-first-length-gt4096.false c.page.ensures clean_each)
