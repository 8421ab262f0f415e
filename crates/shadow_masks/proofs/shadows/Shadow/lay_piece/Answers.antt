use Rattle.std.proofs.Common.{◌≡◌, ◌*◌, ◌%◌, ◌<◌, ◌/◌, ℕ, length, slice_set, None, subst, ◌∙◌, arith}
use Rattle.shadow_masks.specs.Pages.{label_in}
use Rattle.shadow_masks.specs.Pieces.{LaysMasks, SetsMasks}
use Rattle.shadow_masks.specs.Shades.{Shades, page_at}
use Rattle.shadow_masks.proofs.LaidMasks.{map_ok, piece_laid}
use Rattle.shadow_masks.proofs.Steps.{any_default}
use Rattle.shadow_masks.proofs.shadows.Shadow.lay_piece.Goals as goal

pub returns-clause-masks : goal.returns-clause-masks
returns-clause-masks c =
    let number : ℕ = c.args.number in
    let pages = c.self.inside.pages.items in
    let masks = c.args.masks.now in
    let size : length pages ≡ 4096 = c.self.invariant.2 in
    let within : number / 16 < length pages = omega (arith, c.requires.piece) in
    let new : Shades = record {
      registers = c.self.inside.registers;
      kept = c.self.inside.kept;
      base = c.self.inside.base;
      pages = slice_set pages (number / 16) c.lay_masks_in.new.page;
    } in
    let same : c.index_mut-2.result.now ≡ page_at pages (number / 16) =
    c.index_mut-2.ensures.value ∙ any_default pages (number / 16) _ None within in
    map_ok c.lay_masks_in.result
    (λ (lays : LaysMasks (number % 16 * 256) masks (label_in c.index_mut-2.result.now) (label_in c.lay_masks_in.new.page)).
    subst (λ (old : Shades). SetsMasks number masks old new) c.self.view_is
    (piece_laid c.self.inside.registers c.self.inside.kept c.self.inside.base number masks pages c.lay_masks_in.new.page
    c.requires.piece size
    (subst (λ page. LaysMasks (number % 16 * 256) masks (label_in page) (label_in c.lay_masks_in.new.page)) same lays)))
    c.lay_masks_in.ensures.ok
