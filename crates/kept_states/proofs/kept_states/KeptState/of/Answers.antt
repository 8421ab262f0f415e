use Rattle.std.proofs.Common.{List, refl, subst, sym}
use Rattle.kept_states.specs.declared.laids.Laid.{Laid}
use Rattle.kept_states.specs.Keeping.{mask_byte, memory_byte}
use Rattle.kept_states.specs.Laids.{LaidBelow}
use Rattle.kept_states.proofs.LaidBytes.{below_grows}
use Rattle.kept_states.proofs.Masks.{all_masks, all_memory}
use Rattle.kept_states.proofs.kept_states.KeptState.of.Goals as goal

pub returns-clause-keeps : goal.returns-clause-keeps
returns-clause-keeps c =
    let first : LaidBelow c.lay_memory.new.pieces c.from_vec.result 65536 (memory_byte c.args.machine.now) =
    subst (λ (l : List Laid). LaidBelow c.lay_memory.new.pieces l 65536 (memory_byte c.args.machine.now))
    (sym c.from_vec.ensures) c.in_ok-memory.ensures.laid in
    let memory : LaidBelow c.lay_masks.new.pieces c.from_vec.result 65536 (memory_byte c.args.machine.now) =
    below_grows c.lay_memory.new.pieces c.lay_masks.new.pieces c.from_vec.result 65536
    (memory_byte c.args.machine.now) c.lay_masks.ensures.grows first in
    let masks : LaidBelow c.lay_masks.new.pieces c.from_vec-2.result 65536 (mask_byte c.args.shadow.now) =
    subst (λ (l : List Laid). LaidBelow c.lay_masks.new.pieces l 65536 (mask_byte c.args.shadow.now))
    (sym c.from_vec-2.ensures) c.in_ok-masks.ensures.laid in
    record {
      standing = c.in_ok-standing.ensures.standing;
      memory = all_memory c.lay_masks.new.pieces c.from_vec.result c.args.machine.now.store.memory memory
          c.tell_memory.ensures;
      begins = c.requires;
      masks = all_masks c.lay_masks.new.pieces c.from_vec-2.result c.args.shadow.now masks
          c.tell_outside.ensures.below c.tell_outside.ensures.above;
      registers = c.register_masks-register_masks.ensures.masks;
      kept_registers = c.kept_masks.ensures.masks;
      visits = c.in_ok-visits.ensures;
      byte_masks = c.in_ok-byte_masks.ensures;
      status_mask = refl;
      returns = record {
        fits = c.in_ok-standing.ensures.fits;
        zero = c.register_masks-register_masks.ensures.zero;
        kept_zero = c.kept_masks.ensures.zero;
        memory = memory.within;
        masks = masks.within;
      };
    }
