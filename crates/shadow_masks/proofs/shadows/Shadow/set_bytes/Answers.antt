use Rattle.std.proofs.Common.{◌≡◌, ◌≤◌, ◌<◌, ◌-◌, ◌/◌, ◌%◌, length, slice_set, None, rules, subst, ◌∙◌}
use Rattle.shadow_masks.specs.Pages.{label_in, listed_label, SetsFewer, SetsPlaces}
use Rattle.shadow_masks.specs.Shades.{Shades, page_at, SetsBytes, SetsFirstPart}
use Rattle.shadow_masks.proofs.Steps.{any_default, on_err, sets_in_page, sets_part_in_page}
use Rattle.shadow_masks.proofs.shadows.Shadow.set_bytes.Goals as goal

pub returns-clause-ok : goal.returns-clause-ok
returns-clause-ok c =
    let base = c.self.inside.base in
    let address = c.args.address in
    let pages = c.self.inside.pages.items in
    let labels = c.args.labels.now in
    let number = (address - base) / 4096 in
    let from : base ≤ address = search rules in
    let within : number < length pages = search rules in
    let new : Shades = record {
      registers = c.self.inside.registers;
      kept = c.self.inside.kept;
      base = base;
      pages = slice_set pages number c.set_all_in.new.page;
    } in
    let same : c.index_mut-2.result.now ≡ page_at pages number =
    c.index_mut-2.ensures.value ∙ any_default pages number _ None within in
    subst (λ old. SetsBytes address (length labels) (listed_label labels) old new) c.self.view_is
    (sets_in_page c.self.inside.registers c.self.inside.kept base address (length labels) (listed_label labels) pages
    c.set_all_in.new.page from c.if-first-labels-gt4096.false within
    (subst (λ page. SetsPlaces ((address - base) % 4096) (length labels) (listed_label labels) (label_in page)
    (label_in c.set_all_in.new.page)) same c.in_ok-set_all_in.ensures.ok))

pub returns-in_err-set_all_in-clause-err : goal.returns-in_err-set_all_in-clause-err
returns-in_err-set_all_in-clause-err c =
    let base = c.self.inside.base in
    let address = c.args.address in
    let pages = c.self.inside.pages.items in
    let labels = c.args.labels.now in
    let number = (address - base) / 4096 in
    let from : base ≤ address = search rules in
    let within : number < length pages = search rules in
    let new : Shades = record {
      registers = c.self.inside.registers;
      kept = c.self.inside.kept;
      base = base;
      pages = slice_set pages number c.set_all_in.new.page;
    } in
    let same : c.index_mut-2.result.now ≡ page_at pages number =
    c.index_mut-2.ensures.value ∙ any_default pages number _ None within in
    on_err c.from_residual.result
    (subst (λ old. SetsFirstPart address (length labels) (listed_label labels) old new) c.self.view_is
    (sets_part_in_page c.self.inside.registers c.self.inside.kept base address (length labels) (listed_label labels) pages
    c.set_all_in.new.page from c.if-first-labels-gt4096.false within
    (subst (λ page. SetsFewer ((address - base) % 4096) (length labels) (listed_label labels) (label_in page)
    (label_in c.set_all_in.new.page)) same c.in_err-set_all_in.ensures.err)))
