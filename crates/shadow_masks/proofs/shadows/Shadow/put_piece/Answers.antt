use Rattle.std.proofs.Common.{◌≡◌, ◌+◌, ◌*◌, ◌%◌, ◌<◌, ◌/◌, ℕ, length, slice_set, None, subst, ◌∙◌, arith}
use Rattle.shadow_masks.specs.Pages.{label_in, SetsFewer}
use Rattle.shadow_masks.specs.Pieces.{listed_mask}
use Rattle.shadow_masks.specs.Shades.{Shades, page_at, SetsFirstPart}
use Rattle.shadow_masks.proofs.Pieces.{map_err, part_of_piece}
use Rattle.shadow_masks.proofs.Steps.{any_default}
use Rattle.shadow_masks.proofs.shadows.Shadow.put_piece.Goals as goal

pub returns-clause-err : goal.returns-clause-err
returns-clause-err c =
    let base : ℕ = c.self.inside.base in
    let number : ℕ = c.args.number in
    let pages = c.self.inside.pages.items in
    let masks = c.args.masks.now in
    let size : length pages ≡ 4096 = c.self.invariant.2 in
    let within : number / 16 < length pages = omega (arith, c.requires.piece) in
    let new : Shades = record {
      registers = c.self.inside.registers;
      kept = c.self.inside.kept;
      base = base;
      pages = slice_set pages (number / 16) c.set_masks_in.new.page;
    } in
    let same : c.index_mut-2.result.now ≡ page_at pages (number / 16) =
    c.index_mut-2.ensures.value ∙ any_default pages (number / 16) _ None within in
    map_err c.set_masks_in.result
    (λ (fewer : SetsFewer (number % 16 * 256) (length masks) (listed_mask masks) (label_in c.index_mut-2.result.now) (label_in c.set_masks_in.new.page)).
    subst (λ (old : Shades). SetsFirstPart (old.base + number * 256) 256 (listed_mask masks) old new) c.self.view_is
    (part_of_piece c.self.inside.registers c.self.inside.kept base number (listed_mask masks) pages
    c.set_masks_in.new.page c.requires.piece size
    (subst (λ page. SetsFewer (number % 16 * 256) 256 (listed_mask masks) (label_in page) (label_in c.set_masks_in.new.page)) same
    (subst (λ n. SetsFewer (number % 16 * 256) n (listed_mask masks) (label_in c.index_mut-2.result.now) (label_in c.set_masks_in.new.page)) c.requires.length fewer))))
    c.set_masks_in.ensures.err
