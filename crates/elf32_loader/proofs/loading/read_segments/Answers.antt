use Rattle.std.proofs.Common.{◌≡◌, ℕ, arith, subst}
use Rattle.elf32_loader.specs.Headers.{header_count}
use Rattle.elf32_loader.specs.Private.Searches.{AreLoads}
use Rattle.elf32_loader.proofs.loading.read_segments.Goals as goal

pub returns : goal.returns
returns c =
    let file = c.args.file.now in
    let whole : c.loop-index.index ≡ header_count file = omega arith in
    subst (λ (n : ℕ). AreLoads file n c.loop-index.segments.items) whole c.loop-index.invariant
