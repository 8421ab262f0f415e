use Rattle.std.proofs.Common.{◌+◌, ◌≤◌, ◌==◌, length, sym, ◌∙◌}
use Rattle.std.proofs.Common.{arith}
use Rattle.std.proofs.lemmas.Bool.{and_parts}
use Rattle.flow_certificate.specs.Private.Reading.{is_whole}
use Rattle.flow_certificate.proofs.FileReads.{line_shorter, line_stands, none_left, none_there, points_few, reading_done}
use Rattle.flow_certificate.proofs.FileReads.{reading_fails, reading_first, reading_more, stuck_none, stuck_there}
use Rattle.flow_certificate.proofs.reading.read_lines.Goals as goal

pub loop-line-init : goal.loop-line-init
loop-line-init c = reading_first c.args.file.now c.args.draft.now c.requires.blank
    c.requires.draft

pub returns-then-not-branch-clause-err : goal.returns-then-not-branch-clause-err
returns-then-not-branch-clause-err c =
    let found = sym (rw c.in-Some.is at c.in_ok-line.ensures) in
    reading_fails c.args.file.now c.loop-line.rest.now c.loop-line.draft c.loop-line.number c.loop-line.invariant
    (stuck_there c.loop-line.draft c.loop-line.rest.now c.in-Some.more.now c.in-Some.line found
    (sym (rw c.if-not-branch.true at c.in_ok-add.ensures.step)))
    (λ whole none. line_stands c.loop-line.rest.now c.in-Some.more.now c.in-Some.line found none)

pub overflow_add-number : goal.overflow_add-number
overflow_add-number c =
    let found = sym (rw c.in-Some.is at c.in_ok-line.ensures) in
    let less : length c.in-Some.more.now + 2 ≤ length c.loop-line.rest.now = line_shorter c.loop-line.rest.now
    c.in-Some.more.now c.in-Some.line found in
    let short = c.loop-line.invariant.shorter in
    omega (arith, less, short, c.requires.short)

pub loop-line-smaller : goal.loop-line-smaller
loop-line-smaller c =
    let found = sym (rw c.in-Some.is at c.in_ok-line.ensures) in
    let less : length c.in-Some.more.now + 2 ≤ length c.loop-line.rest.now = line_shorter c.loop-line.rest.now
    c.in-Some.more.now c.in-Some.line found in
    omega (arith, less)

pub loop-line-preserved : goal.loop-line-preserved
loop-line-preserved c =
    let found = sym (rw c.in-Some.is at c.in_ok-line.ensures) in
    reading_more c.args.file.now c.loop-line.rest.now c.in-Some.more.now c.loop-line.draft c.add.new.draft
    c.loop-line.number c.in-Some.line c.loop-line.invariant found
    (sym (rw c.if-not-branch.false at c.in_ok-add.ensures.step)) c.in_ok-add.ensures.draft

pub returns-then-is_done-clause-ok : goal.returns-then-is_done-clause-ok
returns-then-is_done-clause-ok c =
    let parts = and_parts (is_whole c.loop-line.draft.stage) (length c.loop-line.rest.now == 0)
    (sym c.is_done.ensures ∙ c.if-is_done.true) in
    record {
      text = reading_done c.args.file.now c.loop-line.rest.now c.loop-line.draft c.loop-line.number
          c.loop-line.invariant parts.0 (none_left c.loop-line.rest.now parts.1);
      is_draft = c.loop-line.invariant.is_draft;
    }

pub returns-else-is_done-clause-err : goal.returns-else-is_done-clause-err
returns-else-is_done-clause-err c =
    let none = sym (rw c.in_default.is at c.in_ok-line.ensures) in
    reading_fails c.args.file.now c.loop-line.rest.now c.loop-line.draft c.loop-line.number c.loop-line.invariant
    (stuck_none c.loop-line.draft c.loop-line.rest.now none)
    (none_there c.loop-line.draft.stage c.loop-line.rest.now (sym c.is_done.ensures ∙ c.if-is_done.false))

pub returns-then-is_done-clause-few : goal.returns-then-is_done-clause-few
returns-then-is_done-clause-few c =
    let parts = and_parts (is_whole c.loop-line.draft.stage) (length c.loop-line.rest.now == 0)
    (sym c.is_done.ensures ∙ c.if-is_done.true) in
    points_few c.args.file.now c.loop-line.rest.now c.loop-line.draft c.loop-line.number c.loop-line.invariant
    parts.0 c.requires.short
