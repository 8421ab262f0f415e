use Rattle.std.proofs.Common.{◌≡◌, ◌≤◌, ◌<◌, ◌-◌, ◌+◌, get_or, drop, ap, ◌∙◌, arith, ℕ, List}
use Rattle.cut_file.specs.declared.points.Run.{Run}
use Rattle.cut_file.proofs.MaskLists.{mask_in, mask_here_at, mask_later_at, masks_count_at, masks_past}
use Rattle.cut_file.proofs.masks.listed_mask.Goals as goal

pub returns-then-left-count-clause-mask : goal.returns-then-left-count-clause-mask
returns-then-left-count-clause-mask c =
    let none : Run = record { count = 0; mask = 0 } in
    let within : c.loop-run.left ≤ (get_or c.args.runs.now c.loop-run.run-index none).count =
    omega (arith, c.if-left-count.true, c.from-count.ensures) in
    mask_here_at c.args.runs.now c.loop-run.run-index none c.loop-run.left 0 _ c.loop-run-test.true
    c.loop-run.invariant.first within c.loop-run.invariant.same

pub returns-then-left-count-clause-within : goal.returns-then-left-count-clause-within
returns-then-left-count-clause-within c =
    let none : Run = record { count = 0; mask = 0 } in
    let count = masks_count_at c.args.runs.now c.loop-run.run-index none c.loop-run-test.true in
    omega (arith, c.if-left-count.true, c.from-count.ensures, count, c.loop-run.invariant.count)

pub loop-run-preserved : goal.loop-run-preserved
loop-run-preserved c =
    let runs : List Run = c.args.runs.now in
    let none : Run = record { count = 0; mask = 0 } in
    let index = c.loop-run.run-index in
    let behind : (get_or runs index none).count < c.loop-run.left = omega
    (arith, c.if-left-count.false, c.from-count.ensures) in
    let count = masks_count_at runs index none c.loop-run-test.true in
    let later : mask_in (drop (index + 1) runs) (c.loop-run.left - (get_or runs index none).count) 0
    ≡ mask_in runs c.args.visit 0 =
    mask_later_at runs index none c.loop-run.left 0 _ c.loop-run-test.true c.loop-run.invariant.first behind
    c.loop-run.invariant.same in
    record {
      first = omega (arith, c.if-left-count.false);
      count =
          omega (arith, c.if-left-count.false, c.from-count.ensures, count, c.loop-run.invariant.count);
      same =
          ap (λ (n : ℕ). mask_in (drop (index + 1) runs) (c.loop-run.left - n) 0) c.from-count.ensures
          ∙ later;
    }

pub returns-clause-behind : goal.returns-clause-behind
returns-clause-behind c =
    let none = masks_past c.args.runs.now c.loop-run.run-index c.loop-run-test.false in
    omega (arith, none, c.loop-run.invariant.count)
