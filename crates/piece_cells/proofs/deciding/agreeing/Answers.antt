use Rattle.std.proofs.Common.{ℕ, sym, subst, get_or}
use Rattle.piece_cells.specs.Cells.{HasBits, Holds}
use Rattle.piece_cells.specs.declared.byte_sets.ByteSet.{ByteSet}
use Rattle.piece_cells.proofs.Loops.{holds_more, never}
use Rattle.piece_cells.proofs.deciding.agreeing.Goals as goal
use Rattle.piece_cells.proofs.deciding.agreeing.Goals.{then-contains+then-has, else-contains, else-contains-via-then-contains+else-has, else-contains-via-else-contains}

pub loop-at-preserved : goal.loop-at-preserved
loop-at-preserved c = λ k lt held bits.
    let Agrees : ℕ → Type 0 = λ n. Holds c.args.set n × HasBits c.args.bits (get_or c.args.table.now.values n 0) in
    elim c.if-contains.branch [
      | then-contains+then-has w ↦ subst (λ (set : ByteSet). Holds set k) (sym w.bytes-is)
          (holds_more Agrees c.loop-at.bytes w.insert.new.self c.loop-at.at c.loop-at-test.true
          (λ n l p. c.loop-at.invariant n l p.0 p.1) w.insert.ensures.kept (λ p. w.insert.ensures.new) k lt (held, bits))
      | else-contains w ↦ subst (λ (set : ByteSet). Holds set k) (sym w.bytes-is)
          (holds_more Agrees c.loop-at.bytes c.loop-at.bytes c.loop-at.at c.loop-at-test.true
          (λ n l p. c.loop-at.invariant n l p.0 p.1) (λ n l kept. kept)
          (λ p. elim w.else-contains.branch [
            | else-contains-via-then-contains+else-has v ↦
                absurd (never (v.if-has.ensures (subst (λ word. HasBits c.args.bits word) (sym v.value.ensures) p.1)))
            | else-contains-via-else-contains v ↦ absurd (never (v.if-contains.ensures.1 p.0))
          ]) k lt (held, bits))
    ]
