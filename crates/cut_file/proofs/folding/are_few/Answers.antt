use Rattle.std.proofs.Common.{◌+◌, drop, get_or, length, nat_le, ap, sym, ◌∙◌, arith, ℕ, List}
use Rattle.std.proofs.lemmas.Bool.{le-leb, lt-leb}
use Rattle.cut_file.specs.declared.points.Run.{Run}
use Rattle.cut_file.specs.Masks.{listed_masks}
use Rattle.cut_file.proofs.MaskLists.{masks_count_at, masks_past}
use Rattle.cut_file.proofs.Periods.{few_step}
use Rattle.cut_file.proofs.folding.are_few.Goals as goal

pub returns-then-left-run : goal.returns-then-left-run
returns-then-left-run c =
    let none : Run = record { count = 0; mask = 0 } in
    let count = masks_count_at c.args.runs.now c.loop-run.run-index none c.loop-run-test.true in
    sym (lt-leb _ _ (omega (arith, count, c.if-left-run.true))) ∙ c.loop-run.invariant

pub loop-run-preserved : goal.loop-run-preserved
loop-run-preserved c =
    let none : Run = record { count = 0; mask = 0 } in
    let runs : List Run = c.args.runs.now in
    let index = c.loop-run.run-index in
    let more : ℕ = length (listed_masks (drop (index + 1) runs)) in
    few_step (get_or runs index none).count more c.loop-run.left (omega (arith, c.if-left-run.false))
    ∙ ap (λ (n : ℕ). nat_le n c.loop-run.left) (sym (masks_count_at runs index none c.loop-run-test.true))
    ∙ c.loop-run.invariant

pub returns : goal.returns
returns c =
    let none = masks_past c.args.runs.now c.loop-run.run-index c.loop-run-test.false in
    sym (le-leb _ _ (omega (arith, none))) ∙ c.loop-run.invariant
