use Rattle.std.proofs.Common.{◌≡◌, List, codes, ap, ◌++◌, ◌∙◌}
use Rattle.std.proofs.lemmas.Result.{on_ok_weaker}
use Rattle.std.specs.Prelude.{map}
use Rattle.cut_file.specs.declared.points.Run.{Run}
use Rattle.flow_base.specs.Points.{point_text}
use Rattle.cut_file.specs.Texts.{rest_text, run_text}
use Rattle.cut_file.specs.Private.Writing.{led}
use Rattle.flow_base.proofs.JoinedPieces.{joins}
use Rattle.cut_file.proofs.writing.put_point.Goals as goal

pub returns : goal.returns
returns c =
    let point = c.args.point.now in
    let version = c.args.version in
    let runs : c.put_runs.new.text.items ≡ c.put_place.new.text.items ++ led (map run_text point.runs) =
    c.in_ok-put_runs.ensures
    ∙ ap (λ (l : List Run). c.put_place.new.text.items ++ led (map run_text l)) c.as_slice.ensures in
    let rest : c.put_rest.new.text.items ≡ c.put.new.text.items ++ led (map (rest_text version) point.rest) =
    c.in_ok-put_rest.ensures
    ∙ ap (λ (l : List Run). c.put.new.text.items ++ led (map (rest_text version) l)) c.as_slice-2.ensures in
    on_ok_weaker c.put-2.result (λ last.
    joins _ (codes "point " ++ point_text point.point) _ _ _ c.in_ok-put_place.ensures
    (joins _ (led (map run_text point.runs)) _ _ _ runs
    (joins _ (codes " rest") _ _ _ c.in_ok-put.ensures.ok
    (joins _ (led (map (rest_text version) point.rest)) _ _ _ rest last)))) c.put-2.ensures.ok
