use Rattle.std.proofs.Common.{sym, ◌∙◌, refl, ap, List}
use Rattle.std.specs.Prelude.{nat_lt}
use Rattle.every_secret.specs.declared.patterns.Pattern.{Pattern}
use Rattle.every_secret.specs.Bounds.{pattern_limit, size_of}
use Rattle.every_secret.specs.Private.Tapes.{ruling_of, tape_of}
use Rattle.every_secret.proofs.JudgedTrees.{exit_judged, large_judged}
use Rattle.every_secret.proofs.judging.judge_exit.Goals as goal

pub returns-then-is_large : goal.returns-then-is_large
returns-then-is_large g c =
    let side = c.args.side.now in
    let tape = tape_of (ruling_of side.book.now.table side.known) side.shadow side.masks side.bits side.crossed side.byte_masks.items
    side.status_mask side.unclear in
    large_judged c.args.machine.now tape c.args.findings.now c.args.status c.args.after c.in_ok-pattern.pattern
    (record { patterns = c.insert.new.self; first_stop = c.args.findings.now.first_stop }) c.in_ok-pattern.ensures
    (ap (λ (ps : List Pattern). nat_lt pattern_limit (size_of ps)) (sym c.in_ok-insert.ensures)
    ∙ (sym c.is_large.ensures ∙ c.if-is_large.true))

pub returns : goal.returns
returns g c =
    let side = c.args.side.now in
    let tape = tape_of (ruling_of side.book.now.table side.known) side.shadow side.masks side.bits side.crossed side.byte_masks.items
    side.status_mask side.unclear in
    exit_judged c.args.machine.now tape c.args.findings.now c.args.status c.args.after c.in_ok-pattern.pattern
    (record { patterns = c.insert.new.self; first_stop = c.args.findings.now.first_stop }) c.in_ok-pattern.ensures
    c.in_ok-insert.ensures refl (sym c.is_large.ensures ∙ c.if-is_large.false)
