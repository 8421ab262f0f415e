use Rattle.std.proofs.Common.{◌≡◌, ◌≤◌, length, Some, sym, ap, ◌∙◌, arith}
use Rattle.cut_file.specs.Fronts.{version_of}
use Rattle.cut_file.specs.Pictures.{front_of}
use Rattle.cut_file.specs.Private.Reading.{line_in}
use Rattle.cut_file.proofs.LineDrafts.{always_ok, next_ok}
use Rattle.cut_file.proofs.Following.{is_so, is_true}
use Rattle.cut_file.proofs.LineTexts.{line_found, line_long}
use Rattle.cut_file.proofs.reading.with_text.Goals as goal

pub with_line-requires-clause-line : goal.with_line-requires-clause-line
with_line-requires-clause-line c =
    let found : line_in (version_of (front_of c.args.draft)) c.args.text.now ≡ Some c.in_ok-line.line =
    ap (λ v. line_in v c.args.text.now) (sym c.version.ensures) ∙ c.in_ok-line.ensures.ok in
    is_true _ (line_found (version_of (front_of c.args.draft)) c.args.text.now c.in_ok-line.line found).known

pub returns-clause-long : goal.returns-clause-long
returns-clause-long c =
    let found : line_in (version_of (front_of c.args.draft)) c.args.text.now ≡ Some c.in_ok-line.line =
    ap (λ v. line_in v c.args.text.now) (sym c.version.ensures) ∙ c.in_ok-line.ensures.ok in
    let own = line_found (version_of (front_of c.args.draft)) c.args.text.now c.in_ok-line.line found in
    let long = line_long (version_of (front_of c.args.draft)) c.in_ok-line.line in
    let same = ap length own.is in
    always_ok c.with_line.result (1 ≤ length c.args.text.now) (omega (arith, long, same))

pub returns-clause-front : goal.returns-clause-front
returns-clause-front c =
    let found : line_in (version_of (front_of c.args.draft)) c.args.text.now ≡ Some c.in_ok-line.line =
    ap (λ v. line_in v c.args.text.now) (sym c.version.ensures) ∙ c.in_ok-line.ensures.ok in
    let own = line_found (version_of (front_of c.args.draft)) c.args.text.now c.in_ok-line.line found in
    next_ok c.args.number (front_of c.args.draft) c.in_ok-line.line c.with_line.result (is_so _ c.requires) own.known
    c.with_line.ensures.ok
