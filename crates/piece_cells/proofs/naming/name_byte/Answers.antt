use Rattle.std.proofs.Common.{◌≡◌, ◌<◌, length, get_or, refl, sym, ap, subst, ◌∙◌, arith}
use Rattle.std.proofs.lemmas.List.{length-set}
use Rattle.piece_cells.specs.Cells.{HasBits, Holds}
use Rattle.piece_cells.specs.Tables.{WordTable}
use Rattle.piece_cells.specs.declared.byte_sets.ByteSet.{ByteSet}
use Rattle.piece_cells.proofs.Loops.{set_more, holds_more, never}
use Rattle.piece_cells.proofs.naming.name_byte.Goals as goal
use Rattle.piece_cells.proofs.naming.name_byte.Goals.{then-has, else-has}

pub loop-at-preserved : goal.loop-at-preserved
loop-at-preserved c =
    let at = c.loop-at.at in
    let inside : at < length c.loop-at.words = omega (arith, c.loop-at.invariant.0, c.loop-at-test.true) in (
      length-set c.loop-at.words at at ∙ c.loop-at.invariant.0,
      set_more (λ k word. word ≡ k) c.loop-at.words at at inside c.loop-at.invariant.1 refl,
      λ k lt bits. elim c.if-has.branch [
        | then-has w ↦ subst (λ (set : ByteSet). Holds set k) (sym w.set-is)
            (holds_more (λ n. HasBits c.args.bits n) c.loop-at.set w.insert.new.self at c.loop-at-test.true
            c.loop-at.invariant.2 w.insert.ensures.kept (λ p. w.insert.ensures.new) k lt bits)
        | else-has w ↦ subst (λ (set : ByteSet). Holds set k) (sym w.set-is)
            (holds_more (λ n. HasBits c.args.bits n) c.loop-at.set c.loop-at.set at c.loop-at-test.true
            c.loop-at.invariant.2 (λ n l held. held) (λ p. absurd (never (w.if-has.ensures p))) k lt bits)
      ],
    )

pub returns : goal.returns
returns c = λ word fits bits.
    let inside : word < c.loop-at.at = omega (arith, fits, c.loop-at-test.false) in (
      word,
      fits,
      c.loop-at.invariant.2 word inside bits,
      λ bytes same.
          subst (λ (table : WordTable). word ≡ get_or table.values (bytes table.unknown) 0) (sym c.in_ok-new.ensures)
          (sym (ap (λ n. get_or c.loop-at.words n 0) same ∙ c.loop-at.invariant.1 word inside)),
    )
