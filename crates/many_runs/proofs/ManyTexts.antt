-- The text of the cut of all runs is short, and so is that of its fold.
use Rattle.std.proofs.Common.{◌≡◌, ℕ, ◌+◌, ◌*◌, ◌≤◌, true, length, arith, sym, subst}
use Rattle.cut_file.proofs.FoldLengths.{fold_short}
use Rattle.cut_file.proofs.Following.{cut_valid}
use Rattle.cut_file.proofs.TextLengths.{text_short}
use Rattle.cut_file.specs.Cuts.{CutPicture, is_cut_picture}
use Rattle.cut_file.specs.Pictures.{cut_picture}
use Rattle.cut_file.specs.TextLengths.{byte_bound, listed_runs}
use Rattle.acceptance_law.specs.RunCuts.{IsCutOf}
use Rattle.acceptance_law.specs.RunLaws.{HasFewRuns}
use Rattle.acceptance_law.specs.Sides.{named_side}
use Rattle.acceptance_law.proofs.FewRuns.{few_runs_law}
use Rattle.measuring.specs.Accepting.{HasShortText}
use Rattle.measuring.proofs.ShortTexts.{skip_few}
use Rattle.many_runs.specs.declared.many.Many.{Many}
use Rattle.many_runs.specs.Measures.{MeasuresTogether, Setup, first_length}

bound_small : (bits : ℕ) (cut : CutPicture) → is_cut_picture cut ≡ true → bits ≤ 1048576 → length cut.points ≤ 65536 →
    HasFewRuns bits cut → byte_bound cut ≤ 67108864
bound_small bits cut valid small few_points few =
    let skip = skip_few cut valid in
    let runs : listed_runs cut.points ≤ 2 * bits + length cut.points = few.runs in
    omega (arith, skip, small, few_points, runs)

pub short : (setup : Setup) (secrets : _) (many : Many) → MeasuresTogether setup secrets many →
    HasShortText (cut_picture many.cut)
short setup secrets many m =
    let cut = cut_picture many.cut in
    let valid = cut_valid many.cut in
    let few : HasFewRuns many.value (cut_picture many.cut) =
    subst (λ bits. HasFewRuns bits (cut_picture many.cut)) m.measure.capacity
    (few_runs_law (first_length secrets) m.events many.graph many.side.points many.side.relays (cut_picture many.cut)
    m.measure.graph m.measure.side.side
    (subst (λ bits. IsCutOf (first_length secrets) m.events (named_side many.graph many.side.points many.side.relays)
    bits (cut_picture many.cut)) (sym m.measure.capacity) m.measure.cut)
    (cut_valid many.cut)) in
    let bound = bound_small many.value (cut_picture many.cut) (cut_valid many.cut) m.budget many.few_cut_points few in
    record {
      text = let whole = text_short (cut_picture many.cut) (cut_valid many.cut) m.measure.cut.version in
          omega (arith, whole, bound);
      fold = λ folded own made.
          let whole = fold_short (cut_picture many.cut) folded (cut_valid many.cut) m.measure.cut.version own made in
          omega (arith, whole, bound);
    }
