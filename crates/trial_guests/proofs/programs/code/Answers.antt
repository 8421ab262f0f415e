use Rattle.std.proofs.Common.{◌∙◌, ap, append_assoc, arith, length, sym}
use Rattle.trial_guests.specs.Programs.{closing, code_of, maskings, opening}
use Rattle.trial_guests.specs.Secrets.{length_of}
use Rattle.trial_guests.proofs.Codes.{three_parts}
use Rattle.trial_guests.proofs.CodeLengths.{length_of_program}
use Rattle.trial_guests.proofs.programs.code.Goals as goal

pub returns-clause-code : goal.returns-clause-code
returns-clause-code c =
    let middle = maskings (length_of c.args.number) c.args.number 0 in
    rw (
      c.from_vec.ensures,
      c.in_ok-put_closing.ensures,
      c.in_ok-put_maskings.ensures,
      c.in_ok-put_opening.ensures,
      c.new-code.ensures.items,
      c.length_of.ensures.is,
    )
    (append_assoc (code_of opening) (code_of middle) (code_of closing) ∙ sym (three_parts opening middle closing))

pub returns-clause-some : goal.returns-clause-some
returns-clause-some c =
    omega (arith, ap length (returns-clause-code c) ∙ length_of_program c.args.number)

pub returns-clause-few : goal.returns-clause-few
returns-clause-few c =
    omega (
      arith,
      ap length (returns-clause-code c) ∙ length_of_program c.args.number,
      c.length_of.ensures.is,
      c.length_of.ensures.few,
    )
