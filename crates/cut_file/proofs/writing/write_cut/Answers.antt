use Rattle.std.proofs.Common.{List, ℕ, ◌++◌, ap, ◌∙◌}
use Rattle.cut_file.specs.Pictures.{cut_picture}
use Rattle.cut_file.specs.Texts.{lines_text}
use Rattle.cut_file.specs.Private.Writing.{later_lines}
use Rattle.cut_file.proofs.Pieces.{cut_pieces}
use Rattle.cut_file.proofs.Following.{cut_valid}
use Rattle.cut_file.proofs.writing.write_cut.Goals as goal

pub returns : goal.returns
returns c =
    let cut = cut_picture c.args.cut.now in
    record {
      valid = cut_valid c.args.cut.now;
      text =
          c.from_vec.ensures ∙ c.in_ok-put_lines.ensures
          ∙ ap (λ (l : List ℕ). l ++ lines_text cut.version (later_lines cut)) c.in_ok-text.ensures
          ∙ cut_pieces cut;
    }
