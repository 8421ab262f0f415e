use Rattle.std.proofs.Common.{◌≡◌, ◌∙◌, [], None, ap, sym, subst}
use Rattle.cut_file.specs.Masks.{MaskAt}
use Rattle.region_machine.specs.Breaking.{kind_break}
use Rattle.region_machine.specs.Guests.{kind_walk}
use Rattle.rv32im_machine.specs.Folds.{real_end}
use Rattle.replay_machine.proofs.MasksAhead.{ahead_self}
use Rattle.taint_check.specs.Private.Tapes.{tape_of}
use Rattle.taint_check.specs.Private.Turns.{MakesMasked}
use Rattle.taint_check.proofs.MadeTurns.{step_makes, ready_after}
use Rattle.taint_check.proofs.turns.make_step.Goals as goal

pub returns-clause-makes : goal.returns-clause-makes
returns-clause-makes g c = λ task limits run cross e stands.
    let side = c.args.side.now in
    let new = c.turn_by.new.passer in
    let before = tape_of side.book.now.table side.shadow side.tally side.look side.left in
    let after = tape_of new.book.now.table new.shadow new.tally new.look new.left in
    let told = c.in_ok-turn_by.ensures.plays task.masks run.place.past stands.ahead in
    subst (λ why. MakesMasked side.book.now.table task limits run cross c.turn_by.new.machine after why)
    (sym c.reason_of.ensures)
    (step_makes task limits run cross c.args.machine.now before
    (record { regions = c.args._marked.now.regions.items; skip = c.args._skip.now }) e stands c.requires.ready.look
    c.requires.ready.left side.tally.small c.turn_by.new.machine after c.requires.outside
    (rw c.none-side.ensures at told))

pub returns-clause-ready : goal.returns-clause-ready
returns-clause-ready g c = λ none.
    let side = c.args.side.now in
    let new = c.turn_by.new.passer in
    let machine = c.args.machine.now in
    let told = c.in_ok-turn_by.ensures.plays (MaskAt side.tally.masks) [] (ahead_self side.tally.masks) in
    ready_after c.args._marked.now.regions.items machine c.turn_by.new.machine
    (tape_of side.book.now.table side.shadow side.tally side.look side.left)
    (tape_of new.book.now.table new.shadow new.tally new.look new.left) None c.args._marked.now.regions.keeps_rules
    c.requires.ready told.base c.in_ok-turn_by.ensures.setting
    (subst (λ k. c.turn_by.new.machine ≡ real_end (kind_walk k machine)) (sym c.requires.outside) told.ends)
    (sym (ap (λ k. kind_break k machine) c.requires.outside)) (sym c.reason_of.ensures ∙ none)

pub returns-clause-table : goal.returns-clause-table
returns-clause-table g c =
    let side = c.args.side.now in
    (c.in_ok-turn_by.ensures.plays (MaskAt side.tally.masks) [] (ahead_self side.tally.masks)).table
