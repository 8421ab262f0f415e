use Rattle.std.proofs.Common.{refl, sym, subst}
use Rattle.std.specs.Prelude.{None}
use Rattle.region_machine.specs.declared.kinds.GuestTurn.{GuestTurn}
use Rattle.region_machine.specs.Within.{seen}
use Rattle.every_secret.specs.Private.Tapes.{ruling_of, tape_of}
use Rattle.every_secret.specs.Private.Turning.{MakesKind}
use Rattle.every_secret.proofs.turns.make_kind.Goals as goal

pub returns-in_ok-leave_by-in-Leaves-clause-makes : goal.returns-in_ok-leave_by-in-Leaves-clause-makes
returns-in_ok-leave_by-in-Leaves-clause-makes g c = λ regions.
    let side = c.args.side.now in
    let new = c.leave_by.new.passer in
    subst (λ (turn : GuestTurn). MakesKind (record { regions = regions; skip = c.args.skip.now }) (seen turn)
    side.region side.skipped side.held c.args.machine.now (tape_of (ruling_of side.book.now.table side.known) side.shadow side.masks side.bits
    side.crossed side.byte_masks.items side.status_mask side.unclear)
    None c.leave_by.new.machine (tape_of (ruling_of new.book.now.table new.known) new.shadow new.masks new.bits
    new.crossed new.byte_masks.items new.status_mask new.unclear))
    (sym c.in-Leaves.is) (c.in_ok-leave_by-in-Leaves.ensures.plays c.requires.rest, refl)

pub returns-in_ok-turn_by-in-Steps-clause-makes : goal.returns-in_ok-turn_by-in-Steps-clause-makes
returns-in_ok-turn_by-in-Steps-clause-makes g c = λ regions.
    let side = c.args.side.now in
    let new = c.turn_by.new.passer in
    subst (λ (turn : GuestTurn). MakesKind (record { regions = regions; skip = c.args.skip.now }) (seen turn)
    side.region side.skipped side.held c.args.machine.now (tape_of (ruling_of side.book.now.table side.known) side.shadow side.masks side.bits
    side.crossed side.byte_masks.items side.status_mask side.unclear)
    None c.turn_by.new.machine (tape_of (ruling_of new.book.now.table new.known) new.shadow new.masks new.bits
    new.crossed new.byte_masks.items new.status_mask new.unclear))
    (sym c.in-Steps.is) (c.in_ok-turn_by-in-Steps.ensures.plays c.requires.rest, refl)
