use Rattle.std.proofs.Common.{◌-◌, drop, ap, ◌∙◌, arith}
use Rattle.rv32im_machine.specs.Private.SparseBytes.{low_room}
use Rattle.rv32im_machine.specs.Start.{laid_at}
use Rattle.rv32im_machine.proofs.Spreading.{laid_parts}
use Rattle.rv32im_machine.proofs.sparse_bytes.SparseBytes.lay_both.Goals as goal

pub returns : goal.returns
returns c =
    c.lay_high.ensures
    ∙ ap (λ back. laid_at low_room back c.lay_low.new.self) c.split_at.ensures.back
    ∙ ap (λ memory. laid_at low_room (drop (low_room - c.args.index) c.args.bytes.now) memory)
    (c.lay_low.ensures ∙ ap (λ front. laid_at c.args.index front c.args.self.now) c.split_at.ensures.front)
    ∙ laid_parts c.args.index low_room c.args.bytes.now c.args.self.now c.requires.low c.requires.high
    (omega (arith, c.tell_length.ensures))
