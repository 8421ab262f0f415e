use Rattle.std.proofs.Common.{◌≡◌, ◌-◌, ◌∙◌, ◌<◌, ap, sym, arith, length, List, ℕ, slice_index}
use Rattle.flow_base.specs.Guests.{memory_size}
use Rattle.rv32im_machine.specs.State.{State}
use Rattle.rv32im_machine.specs.Standing.{with_memory}
use Rattle.rv32im_machine.specs.Start.{zeros}
use Rattle.rv32im_machine.proofs.Laying.{zeros_byte, zeros_length}
use Rattle.kept_states.specs.declared.laids.Laid.{Laid}
use Rattle.kept_states.proofs.LastFirst.{memory_none, memory_step, same_with, within_at}
use Rattle.kept_states.proofs.putting.lay_anew.Goals as goal

none : Laid
none = record { number = 0; piece = 0 }

pub piece-requires : goal.piece-requires
unfolding none
piece-requires c =
    within_at c.args.pieces.now c.args.laids.now (c.loop-index.index - 1) none
    (omega (arith, c.loop-index-test.true, c.loop-index.invariant.inside)) c.requires

pub loop-index-init : goal.loop-index-init
loop-index-init c =
    let laid : c.zero_memory.new.self.store.memory ≡ zeros memory_size =
    ap (λ (s : State). s.store.memory) c.zero_memory.ensures in
    record {
      inside = omega arith;
      memory = memory_none c.args.pieces.now c.args.laids.now (length c.args.laids.now)
          c.zero_memory.new.self.store.memory (omega arith) (ap length laid ∙ zeros_length memory_size)
          (λ index. ap (λ (l : List ℕ). slice_index l index) laid ∙ zeros_byte memory_size index);
      same = c.zero_memory.ensures ∙ ap (λ (m : List ℕ). with_memory m c.args.machine.now) (sym laid);
    }

pub loop-index-preserved : goal.loop-index-preserved
unfolding none
loop-index-preserved c =
    let some = c.loop-index-test.true in
    let before : c.loop-index.index - 1 < length c.args.laids.now = omega (arith, some, c.loop-index.invariant.inside) in
    record {
      inside = omega (arith, before);
      memory = memory_step c.args.pieces.now c.args.laids.now (c.loop-index.index - 1) c.loop-index.index none
          c.piece.result.now c.loop-index.machine.store.memory c.lay_piece.new.self.store.memory before
          (omega (arith, some)) c.piece.ensures.same c.lay_piece.ensures.length c.lay_piece.ensures.bytes
          c.loop-index.invariant.memory;
      same = same_with c.args.machine.now c.loop-index.machine c.lay_piece.new.self _ c.lay_piece.ensures.laid
          c.loop-index.invariant.same;
    }
