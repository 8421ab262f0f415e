use Rattle.std.proofs.Common.{◌≡◌, ◌∙◌, [], Some, inl, inr, ap, sym, subst}
use Rattle.std.proofs.lemmas.Bool.{cases_Bool}
use Rattle.cut_file.specs.Masks.{MaskAt}
use Rattle.region_machine.specs.Enclosures.{Enclosures, is_enclosed_kind, kind_of}
use Rattle.region_machine.specs.Guests.{guest_walk}
use Rattle.replay_machine.proofs.MasksAhead.{ahead_self}
use Rattle.run_labels.specs.Runs.{entered_number}
use Rattle.run_labels.specs.TurnLabels.{at_start}
use Rattle.tracked_run.specs.Labels.{map_of, labels_of}
use Rattle.taint_check.specs.Cleared.{is_hidden, leaves_skipped}
use Rattle.taint_check.specs.Private.Tapes.{tape_of}
use Rattle.taint_check.specs.Private.Turns.{MakesMasked}
use Rattle.taint_check.proofs.MadeTurns.{region_makes, ready_after, told_same}
use Rattle.taint_check.proofs.turns.make_region_turn.Goals as goal

pub returns-clause-makes : goal.returns-clause-makes
returns-clause-makes g c = λ task limits run cross e stands.
    let side = c.args.side.now in
    let new = c.real_turn_by.new.observer in
    let machine = c.args.machine.now in
    let regions = c.args.marked.now.regions.items in
    let before = tape_of side.book.now.table side.shadow side.tally side.look side.left in
    let after = tape_of new.book.now.table new.shadow new.tally new.look new.left in
    let enclosures : Enclosures = record { regions = regions; skip = c.args.skip.now } in
    let kind = kind_of regions machine.control in
    let is = c.next_turn-turn.ensures.kind in
    let hides : is_enclosed_kind (record { regions = regions; skip = c.hiding.result.now }) kind
    ≡ is_hidden enclosures kind =
    subst (λ k. is_enclosed_kind (record { regions = regions; skip = c.hiding.result.now }) k ≡ is_hidden enclosures k) is
    (c.hiding.ensures regions) in
    subst (λ why. MakesMasked side.book.now.table task limits run cross c.real_turn_by.new.machine after why)
    (sym c.reason_of.ensures)
    (region_makes task limits run cross machine before enclosures e stands c.requires.look c.requires.left
    side.tally.small c.real_turn_by.new.machine after c.in_ok-made.made.broken c.in_ok-made.ensures.broken
    c.in_ok-made.ensures.state
    (λ hidden. sym (ap (λ o. tape_of o.book.now.table o.shadow o.tally o.look o.left)
    (c.in_ok-made.ensures.untold (hides ∙ hidden))))
    (λ shown. told_same (entered_number kind) c.entered_number-side.result task.masks (leaves_skipped enclosures kind)
    c.leaves_skipped-side.result run.place.past (at_start (map_of side.shadow))
    (labels_of side.shadow c.none-side.result) before (guest_walk regions machine) c.real_turn_by.new.machine after
    (c.entered_number-side.ensures ∙ ap (λ k. entered_number k) is)
    (c.leaves_skipped-side.ensures regions ∙ ap (λ k. leaves_skipped enclosures k) is)
    (ap (λ held. labels_of side.shadow held) c.none-side.ensures)
    (c.in_ok-made.ensures.plays (hides ∙ shown) task.masks run.place.past stands.ahead)))

pub returns-clause-ready : goal.returns-clause-ready
returns-clause-ready g c = λ none.
    let side = c.args.side.now in
    let new = c.real_turn_by.new.observer in
    let base : new.shadow.base ≡ side.shadow.base =
    let same : Some new.shadow.base ≡ Some side.shadow.base = c.in_ok-made.ensures.memory in cc in
    ready_after c.args.marked.now.regions.items c.args.machine.now c.real_turn_by.new.machine
    (tape_of side.book.now.table side.shadow side.tally side.look side.left)
    (tape_of new.book.now.table new.shadow new.tally new.look new.left) c.in_ok-made.made.broken
    c.args.marked.now.regions.keeps_rules c.requires base c.in_ok-made.ensures.setting c.in_ok-made.ensures.state
    c.in_ok-made.ensures.broken (sym c.reason_of.ensures ∙ none)

pub returns-clause-table : goal.returns-clause-table
returns-clause-table g c =
    let side = c.args.side.now in
    let regions = c.args.marked.now.regions.items in
    let hiding : Enclosures = record { regions = regions; skip = c.hiding.result.now } in
    elim (cases_Bool (is_enclosed_kind hiding (kind_of regions c.args.machine.now.control))) [
      | inl hidden ↦ ap (λ o. o.book.now.table) (c.in_ok-made.ensures.untold hidden)
      | inr shown ↦
          (c.in_ok-made.ensures.plays shown (MaskAt side.tally.masks) [] (ahead_self side.tally.masks)).table
    ]
