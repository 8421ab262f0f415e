use Rattle.elf32_loader.proofs.Valid.{image_from, keeps}
use Rattle.elf32_loader.proofs.loading.load_image.Goals as goal

pub invariant_of-result : goal.invariant_of-result
invariant_of-result c =
    let file = c.args.file.now in
    let loaded = c.in_ok-segments.segments.items in
    let base = c.in_ok-base.ensures.ok in
    let image =
    image_from file c.in_ok-base.base c.entry_from.result c.from_vec.result loaded base.1 base.0 c.entry_from.ensures
    c.from_vec.ensures c.in_ok-segments.ensures in
    let kept = keeps file _ image in
    record { ascends = kept.ascends; is_based = kept.based; is_inside = kept.inside; is_entered = kept.entered }

pub returns-clause-loaded : goal.returns-clause-loaded
returns-clause-loaded c =
    let file = c.args.file.now in
    let loaded = c.in_ok-segments.segments.items in
    let base = c.in_ok-base.ensures.ok in
    image_from file c.in_ok-base.base c.entry_from.result c.from_vec.result loaded base.1 base.0 c.entry_from.ensures
    c.from_vec.ensures c.in_ok-segments.ensures
