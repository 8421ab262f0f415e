use Rattle.std.proofs.Common.{◌≡◌, Some, None}
use Rattle.rv32im_asm.specs.Lines.{operands_in}
use Rattle.rv32im_asm.specs.Statements.{statement_of}
use Rattle.rv32im_asm.proofs.StatementForms.{statement_given}
use Rattle.rv32im_asm.proofs.meanings.statement.Goals as goal

pub returns-in_err-found-clause-exact : goal.returns-in_err-found-clause-exact
returns-in_err-found-clause-exact c =
    let given : None ≡ statement_of c.args.mnemonic (operands_in c.args.text.now) = statement_given c.args.mnemonic
    (operands_in c.args.text.now) c.form.result None c.form.ensures c.in_err-found.ensures.exact in
    rw c.from_residual.ensures given

pub returns-clause-exact : goal.returns-clause-exact
returns-clause-exact c = rw c.operation.ensures.exact (statement_given c.args.mnemonic (operands_in c.args.text.now)
    c.form.result (Some c.in_ok-found.found) c.form.ensures c.in_ok-found.ensures.exact)
