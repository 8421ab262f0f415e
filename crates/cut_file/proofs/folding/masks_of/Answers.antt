use Rattle.std.proofs.Common.{◌+◌, ◌++◌, drop, get_or, ap, sym, ◌∙◌, append_assoc, ℕ, List}
use Rattle.std.specs.Prelude.{replicate}
use Rattle.std.proofs.lemmas.List.{append-nil}
use Rattle.cut_file.specs.declared.points.Run.{Run}
use Rattle.cut_file.specs.Masks.{listed_masks}
use Rattle.cut_file.proofs.Periods.{masks_split_at, masks_none_at}
use Rattle.cut_file.proofs.folding.masks_of.Goals as goal

pub loop-run-preserved : goal.loop-run-preserved
loop-run-preserved c =
    let none : Run = record { count = 0; mask = 0 } in
    let runs : List Run = c.args.runs.now in
    let index = c.loop-run.run-index in
    let run : Run = get_or runs index none in
    let more : List ℕ = listed_masks (drop (index + 1) runs) in
    ap (λ (l : List ℕ). l ++ more) c.in_ok-put_masks.ensures
    ∙ append_assoc c.loop-run.masks.items (replicate run.count run.mask) more
    ∙ ap (λ (l : List ℕ). c.loop-run.masks.items ++ l) (sym (masks_split_at runs index none c.loop-run-test.true))
    ∙ c.loop-run.invariant

pub returns : goal.returns
returns c =
    sym (append-nil c.loop-run.masks.items)
    ∙ ap (λ (l : List ℕ). c.loop-run.masks.items ++ l)
    (sym (masks_none_at c.args.runs.now c.loop-run.run-index c.loop-run-test.false))
    ∙ c.loop-run.invariant
