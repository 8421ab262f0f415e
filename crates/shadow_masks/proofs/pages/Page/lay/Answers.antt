use Rattle.std.proofs.Common.{subst, ◌+◌, ◌≤◌, length, arith}
use Rattle.shadow_masks.specs.Pages.{PageShades, page_label}
use Rattle.shadow_masks.specs.Pieces.{LaysMasks}
use Rattle.shadow_masks.proofs.LaidMasks.{laid_mask}
use Rattle.shadow_masks.proofs.pages.Page.lay.Goals as goal

pub returns : goal.returns
returns c =
    let new : PageShades = record { masks = c.lay_over.new.under.items; points = c.self.inside.points } in
    let fits : c.args.place + 256 ≤ length c.self.inside.masks.items = omega (arith, c.requires.place, c.self.invariant) in
    subst (λ (old : PageShades). LaysMasks c.args.place c.args.masks.now (page_label old) (page_label new)) c.self.view_is
    (laid_mask c.self.inside.masks.items c.args.masks.now c.lay_over.new.under.items c.self.inside.points c.args.place
    c.requires.length fits c.lay_over.ensures.laid)
