use Rattle.std.proofs.Common.{◌∙◌, ◌||◌, ap, sym}
use Rattle.rv32im_machine.specs.declared.language.Aim.{Aim}
use Rattle.region_learn.specs.Private.Notes.{noted_of}
use Rattle.region_learn.specs.Written.{puts_into}
use Rattle.region_learn.proofs.NoteCalls.{called, passed, unwritten}
use Rattle.region_learn.proofs.notes.NotesPasser.pass.Goals as goal

pub returns-then-is_number-clause-goes : goal.returns-then-is_number-clause-goes
returns-then-is_number-clause-goes c = λ go. called c.args.passing go (sym c.is_number.ensures ∙ c.if-is_number.true)

pub returns-in_ok-note-in-Put-clause-goes : goal.returns-in_ok-note-in-Put-clause-goes
returns-in_ok-note-in-Put-clause-goes c = λ go out h.
    passed (noted_of c.args.self.now) (noted_of c.note.new.self) c.args.passing go out
    (sym c.is_number.ensures ∙ c.if-is_number.false)
    (record {
      places = λ place. c.in_ok-note-in-Put.ensures.places place
          ∙ ap (λ (aim : Aim). (noted_of c.args.self.now).has place || puts_into place aim) (sym c.in-Put.is);
      changed = c.note.ensures.changed;
      region = c.note.ensures.region;
      base = c.note.ensures.base;
    }) h

pub returns-in-Decide-clause-goes : goal.returns-in-Decide-clause-goes
returns-in-Decide-clause-goes c = λ go out h.
    passed (noted_of c.args.self.now) (noted_of c.args.self.now) c.args.passing go out
    (sym c.is_number.ensures ∙ c.if-is_number.false)
    (unwritten (noted_of c.args.self.now) c.args.passing.aim
    (λ place. ap (λ (aim : Aim). puts_into place aim) c.in-Decide.is)) h

pub returns-in-Give-clause-goes : goal.returns-in-Give-clause-goes
returns-in-Give-clause-goes c = λ go out h.
    passed (noted_of c.args.self.now) (noted_of c.args.self.now) c.args.passing go out
    (sym c.is_number.ensures ∙ c.if-is_number.false)
    (unwritten (noted_of c.args.self.now) c.args.passing.aim
    (λ place. ap (λ (aim : Aim). puts_into place aim) c.in-Give.is)) h
