use Rattle.std.proofs.Common.{◌≡◌, ◌<◌, length, get_or, arith, ap, sym, subst, ◌∙◌}
use Rattle.std.proofs.lemmas.List.{length-set}
use Rattle.flow_base.specs.Words.{Agree}
use Rattle.rv32im_machine.specs.Language.{part_of}
use Rattle.piece_cells.specs.Cells.{Has, HasBits}
use Rattle.piece_cells.proofs.Decisions.{agree_part}
use Rattle.piece_cells.proofs.Loops.{set_more}
use Rattle.piece_cells.proofs.loading.part_of.Goals as goal

pub loop-at-preserved : goal.loop-at-preserved
loop-at-preserved c =
    let inside : c.loop-at.at < length c.loop-at.words = omega (arith, c.loop-at.invariant.0, c.loop-at-test.true) in (
      length-set c.loop-at.words c.loop-at.at c.byte_of-in-loop-at.result ∙ c.loop-at.invariant.0,
      set_more (λ k word. word ≡ part_of c.args.part (get_or c.in-ByTable.table.values k 0)) c.loop-at.words c.loop-at.at
          c.byte_of-in-loop-at.result inside c.loop-at.invariant.1
          (c.byte_of-in-loop-at.ensures ∙ ap (part_of c.args.part) c.value.ensures),
    )

pub returns-in-Bits : goal.returns-in-Bits
returns-in-Bits c = λ bytes word knows has.
    let h : HasBits c.in-Bits.bits word = subst (λ cell. Has bytes cell word) c.in-Bits.is has in
    subst (λ m. Agree m c.byte_of.result (part_of c.args.part word)) (sym c.byte_of-in-Bits.ensures)
    (subst (λ v. Agree (part_of c.args.part c.in-Bits.bits.mask) v (part_of c.args.part word)) (sym c.byte_of.ensures)
    (agree_part c.args.part c.in-Bits.bits.mask c.in-Bits.bits.value word h))
