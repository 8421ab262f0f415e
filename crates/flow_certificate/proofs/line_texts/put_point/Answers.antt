use Rattle.std.proofs.Common.{codes, ◌++◌, ◌∙◌, append_assoc}
use Rattle.std.specs.Fmt.{decimal}
use Rattle.flow_base.specs.Points.{point_text as place_text}
use Rattle.flow_base.proofs.JoinedPieces.{joins}
use Rattle.flow_certificate.proofs.line_texts.put_point.Goals as goal

pub returns : goal.returns
returns c =
    let line = c.args.line.now in
    joins _ (codes "point ") _ _ _ c.in_ok-put.ensures.ok
    (joins _ (place_text line.point) _ _ _ c.in_ok-put_place.ensures
    (joins _ (codes " capacity " ++ decimal line.capacity) _ _ _ c.in_ok-put_field.ensures
    (joins _ (codes " flow " ++ decimal line.flow) _ _ _ c.in_ok-put_field-2.ensures
    (joins _ (codes " side ") _ _ _ c.in_ok-put-2.ensures.ok c.in_ok-put_half.ensures))))
    ∙ simp append_assoc
