use Rattle.std.proofs.Common.{List, ℕ, ◌++◌, ◌+◌, drop, ap, ◌∙◌}
use Rattle.std.specs.Prelude.{map}
use Rattle.cut_file.specs.declared.lines.Line.TheVariants.{Point}
use Rattle.cut_file.specs.declared.points.CutPoint.{CutPoint}
use Rattle.cut_file.specs.Texts.{lines_text}
use Rattle.cut_file.specs.Private.Writing.{point_pieces}
use Rattle.cut_file.proofs.Pieces.{lines_step, pieces_of_point}
use Rattle.cut_file.proofs.writing.put_points.Goals as goal

pub loop-point-preserved : goal.loop-point-preserved
loop-point-preserved c =
    let version = c.args.version in
    let more = lines_text version (map Point (drop (c.loop-point.point-index + 1) c.args.points.now)) in
    let step = lines_step version (λ p. Point p) c.args.points.now c.loop-point.point-index c.point-item.result
    c.loop-point.text.items _ _ c.loop-point-test.true (pieces_of_point version _) c.loop-point.invariant in
    ap (λ (l : List ℕ). l ++ more) c.in_ok-put_point.ensures
    ∙ ap (λ (p : CutPoint). (c.loop-point.text.items ++ point_pieces version p) ++ more) c.point-item.is ∙ step
