use Rattle.std.proofs.Common.{◌≡◌, ◌<◌, length, get_or, rules, arith, ◌∙◌}
use Rattle.std.proofs.lemmas.List.{length-set}
use Rattle.piece_cells.proofs.Loops.{set_more}
use Rattle.piece_cells.proofs.computing.by_table.Goals as goal

pub loop-at-preserved : goal.loop-at-preserved
loop-at-preserved c =
    let inside : c.loop-at.at < length c.loop-at.words = omega (arith, c.loop-at.invariant.0, c.loop-at-test.true) in (
      length-set c.loop-at.words c.loop-at.at _ ∙ c.loop-at.invariant.0,
      set_more (λ k word. word ≡ get_or c.args.values.items k 0) c.loop-at.words c.loop-at.at _ inside c.loop-at.invariant.1
          (search rules),
    )
