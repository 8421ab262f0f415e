use Rattle.std.proofs.Common.{sym, subst, false}
use Rattle.std.specs.Prelude.{None}
use Rattle.region_machine.specs.Enclosures.{Enclosures}
use Rattle.region_machine.specs.Within.{seen}
use Rattle.replay_machine.specs.ReplayTurns.{kind_outside_range}
use Rattle.tracked_run.specs.Labels.{labels_of, map_of}
use Rattle.tracked_run.specs.declared.held.Held.{Held}
use Rattle.every_secret.specs.declared.whys.UnclearWhy.{UnclearWhy}
use Rattle.std.specs.Prelude.{Option}
use Rattle.every_secret.specs.Private.Resting.{Rests}
use Rattle.every_secret.specs.Private.Tapes.{ruling_of, tape_of}
use Rattle.every_secret.specs.Turns.{secret_base_of}
use Rattle.every_secret.proofs.MadeTurns.{kind-halts, kind-longer, kind-ready, kind-stays, kind_ruling}
use Rattle.every_secret.proofs.MadeTurns.{turn_makes}
use Rattle.every_secret.proofs.turns.make_turn.Goals as goal

pub returns-clause-ruling : goal.returns-clause-ruling
returns-clause-ruling g c =
    let side = c.args.side.now in
    let new = c.make_kind.new.side in
    let machine = c.args.machine.now in
    let enclosures : Enclosures = record { regions = c.args.marked.now.regions.items; skip = c.args.skip.now } in
    let kind = seen c.next_turn-turn.result in
    kind_ruling enclosures kind c.entered_number-side.result c.skips-side.result c.none-side.result machine
    (tape_of (ruling_of side.book.now.table side.known) side.shadow side.masks side.bits side.crossed side.byte_masks.items side.status_mask
    side.unclear) c.in_ok-outside.outside c.make_kind.new.machine
    (tape_of (ruling_of new.book.now.table new.known) new.shadow new.masks new.bits new.crossed new.byte_masks.items new.status_mask
    new.unclear) (secret_base_of kind (map_of side.shadow)) (kind_outside_range kind machine)
    (c.in_ok-outside.ensures.makes enclosures.regions)

pub returns-clause-longer : goal.returns-clause-longer
returns-clause-longer g c =
    let side = c.args.side.now in
    let new = c.make_kind.new.side in
    let machine = c.args.machine.now in
    let enclosures : Enclosures = record { regions = c.args.marked.now.regions.items; skip = c.args.skip.now } in
    let kind = seen c.next_turn-turn.result in
    kind-longer enclosures kind c.entered_number-side.result c.skips-side.result c.none-side.result machine
    (tape_of (ruling_of side.book.now.table side.known) side.shadow side.masks side.bits side.crossed side.byte_masks.items side.status_mask
    side.unclear) c.in_ok-outside.outside c.make_kind.new.machine
    (tape_of (ruling_of new.book.now.table new.known) new.shadow new.masks new.bits new.crossed new.byte_masks.items new.status_mask
    new.unclear) (secret_base_of kind (map_of side.shadow)) (kind_outside_range kind machine)
    (c.in_ok-outside.ensures.makes enclosures.regions)

pub returns-clause-setting : goal.returns-clause-setting
returns-clause-setting g c =
    let side = c.args.side.now in
    let new = c.make_kind.new.side in
    let machine = c.args.machine.now in
    let enclosures : Enclosures = record { regions = c.args.marked.now.regions.items; skip = c.args.skip.now } in
    let kind = seen c.next_turn-turn.result in
    (kind-stays enclosures kind c.entered_number-side.result c.skips-side.result c.none-side.result machine
    (tape_of (ruling_of side.book.now.table side.known) side.shadow side.masks side.bits side.crossed side.byte_masks.items side.status_mask
    side.unclear) c.in_ok-outside.outside c.make_kind.new.machine
    (tape_of (ruling_of new.book.now.table new.known) new.shadow new.masks new.bits new.crossed new.byte_masks.items new.status_mask
    new.unclear) (secret_base_of kind (map_of side.shadow)) (kind_outside_range kind machine)
    (c.in_ok-outside.ensures.makes enclosures.regions)).0

pub returns-clause-secret : goal.returns-clause-secret
returns-clause-secret g c =
    let side = c.args.side.now in
    let new = c.make_kind.new.side in
    let machine = c.args.machine.now in
    let enclosures : Enclosures = record { regions = c.args.marked.now.regions.items; skip = c.args.skip.now } in
    let kind = seen c.next_turn-turn.result in
    (kind-stays enclosures kind c.entered_number-side.result c.skips-side.result c.none-side.result machine
    (tape_of (ruling_of side.book.now.table side.known) side.shadow side.masks side.bits side.crossed side.byte_masks.items side.status_mask
    side.unclear) c.in_ok-outside.outside c.make_kind.new.machine
    (tape_of (ruling_of new.book.now.table new.known) new.shadow new.masks new.bits new.crossed new.byte_masks.items new.status_mask
    new.unclear) (secret_base_of kind (map_of side.shadow)) (kind_outside_range kind machine)
    (c.in_ok-outside.ensures.makes enclosures.regions)).1

pub returns-clause-halts : goal.returns-clause-halts
returns-clause-halts g c =
    let side = c.args.side.now in
    let new = c.make_kind.new.side in
    let machine = c.args.machine.now in
    let enclosures : Enclosures = record { regions = c.args.marked.now.regions.items; skip = c.args.skip.now } in
    let kind = seen c.next_turn-turn.result in
    kind-halts enclosures kind c.entered_number-side.result c.skips-side.result c.none-side.result machine
    (tape_of (ruling_of side.book.now.table side.known) side.shadow side.masks side.bits side.crossed side.byte_masks.items side.status_mask
    side.unclear) c.in_ok-outside.outside c.make_kind.new.machine
    (tape_of (ruling_of new.book.now.table new.known) new.shadow new.masks new.bits new.crossed new.byte_masks.items new.status_mask
    new.unclear) (secret_base_of kind (map_of side.shadow)) (kind_outside_range kind machine)
    (c.in_ok-outside.ensures.makes enclosures.regions)

pub returns-clause-ready : goal.returns-clause-ready
returns-clause-ready g c = λ none clear.
    let side = c.args.side.now in
    let new = c.make_kind.new.side in
    let machine = c.args.machine.now in
    let enclosures : Enclosures = record { regions = c.args.marked.now.regions.items; skip = c.args.skip.now } in
    let kind = seen c.next_turn-turn.result in
    kind-ready enclosures kind c.entered_number-side.result c.skips-side.result c.none-side.result machine
    (tape_of (ruling_of side.book.now.table side.known) side.shadow side.masks side.bits side.crossed side.byte_masks.items side.status_mask
    side.unclear) c.in_ok-outside.outside c.make_kind.new.machine
    (tape_of (ruling_of new.book.now.table new.known) new.shadow new.masks new.bits new.crossed new.byte_masks.items new.status_mask
    new.unclear) c.args.marked.now.regions.keeps_rules (sym c.next_turn-turn.ensures.kind) c.requires
    c.in_ok-outside.ensures.base none clear (c.in_ok-outside.ensures.makes enclosures.regions)

pub returns-clause-makes : goal.returns-clause-makes
returns-clause-makes g c = λ rules task place answers same at.
    let side = c.args.side.now in
    let new = c.make_kind.new.side in
    let machine = c.args.machine.now in
    let enclosures : Enclosures = record { regions = c.args.marked.now.regions.items; skip = c.args.skip.now } in
    let kind = seen c.next_turn-turn.result in
    turn_makes rules task place machine
    (tape_of (ruling_of side.book.now.table side.known) side.shadow side.masks side.bits side.crossed side.byte_masks.items side.status_mask
    side.unclear) c.in_ok-outside.outside c.make_kind.new.machine
    (tape_of (ruling_of new.book.now.table new.known) new.shadow new.masks new.bits new.crossed new.byte_masks.items new.status_mask
    new.unclear) enclosures kind c.entered_number-side.result c.skips-side.result c.none-side.result answers same at
    c.next_turn-turn.ensures.kind c.entered_number-side.ensures
    (c.skips-side.ensures enclosures.regions) c.none-side.ensures (c.in_ok-outside.ensures.makes enclosures.regions)

pub make_kind-requires-clause-rest : goal.make_kind-requires-clause-rest
make_kind-requires-clause-rest g c =
    let side = c.args.side.now in
    let labels = labels_of side.shadow c.none-side.result in
    subst (λ (unclear : Option UnclearWhy). Rests c.rest_unless-side.result c.skips-side.result side.masks labels unclear)
    (sym c.requires.clear)
    (c.rest_unless-side.ensures side.masks labels
    (subst (λ (held : Held). Rests c.rest_of-rest.result false side.masks (labels_of side.shadow held) None)
    (sym c.none-side.ensures) c.rest_of-rest.ensures))
