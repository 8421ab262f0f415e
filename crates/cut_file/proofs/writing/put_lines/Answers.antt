use Rattle.std.proofs.Common.{◌≡◌, List, ℕ, sym, ap, ◌++◌, ◌∙◌}
use Rattle.std.proofs.lemmas.Result.{on_ok_weaker}
use Rattle.std.specs.Prelude.{map}
use Rattle.flow_base.proofs.JoinedPieces.{joins}
use Rattle.cut_file.specs.Pictures.{cut_picture}
use Rattle.cut_file.specs.Texts.{lines_text}
use Rattle.cut_file.specs.declared.lines.Line.TheVariants.{Point, Skip}
use Rattle.cut_file.specs.declared.points.CutPoint.{CutPoint}
use Rattle.cut_file.proofs.Pieces.{later_pieces}
use Rattle.cut_file.proofs.writing.put_lines.Goals as goal

pub returns : goal.returns
returns c =
    let cut = c.args.cut.now in
    let text : List ℕ = c.args.text.now.items in
    let skips : List ℕ = lines_text cut.version (map Skip cut.skip) in
    let points : List ℕ = lines_text cut.version (map Point cut.points) in
    let skipped : c.put_regions.new.text.items ≡ text ++ skips =
    c.in_ok-put_regions.ensures cut.version
    ∙ ap (λ (l : List ℕ). text ++ lines_text cut.version (map Skip l)) c.as_slice.ensures in
    let crossed : c.put_points.new.text.items ≡ c.put_regions.new.text.items ++ points =
    c.in_ok-put_points.ensures
    ∙ ap (λ (l : List CutPoint). c.put_regions.new.text.items ++ lines_text cut.version (map Point l))
    c.as_slice-2.ensures in
    on_ok_weaker c.put.result (λ last.
    joins _ skips _ _ _ skipped (joins _ points _ _ _ crossed last)
    ∙ ap (λ (l : List ℕ). text ++ l) (sym (later_pieces cut.version (cut_picture cut)))) c.put.ensures.ok
