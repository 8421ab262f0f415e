use Rattle.std.proofs.Common.{List, ℕ, ◌++◌, ◌+◌, drop, refl, ap, ◌∙◌}
use Rattle.std.specs.Prelude.{map}
use Rattle.cut_file.specs.declared.lines.Line.TheVariants.{Skip}
use Rattle.cut_file.specs.Texts.{lines_text}
use Rattle.cut_file.proofs.Pieces.{lines_step}
use Rattle.cut_file.proofs.writing.put_regions.Goals as goal

pub loop-region-preserved : goal.loop-region-preserved
loop-region-preserved c = λ version.
    let index = c.loop-region.region-index in
    let more = lines_text version (map Skip (drop (index + 1) c.args.regions.now)) in
    ap (λ (l : List ℕ). l ++ more) c.in_ok-put_region.ensures
    ∙ lines_step version (λ region. Skip region) c.args.regions.now index 0 c.loop-region.text.items _ _
    c.loop-region-test.true refl (c.loop-region.invariant version)
