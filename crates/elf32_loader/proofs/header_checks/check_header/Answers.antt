use Rattle.std.proofs.Common.{inl, inr}
use Rattle.std.proofs.lemmas.Result.{IfErr-weaker, err_from_is_err_and}
use Rattle.elf32_loader.proofs.header_checks.check_header.Goals as goal

pub returns-in_err-check_size-clause-err : goal.returns-in_err-check_size-clause-err
returns-in_err-check_size-clause-err c =
    let residual = c.from_residual in
    let exit = err_from_is_err_and residual.result residual.ensures.1 in
    rw (exit.1, exit.2)
    (inl c.in_err-check_size.ensures.err)

pub returns-in_err-check_format-clause-err : goal.returns-in_err-check_format-clause-err
returns-in_err-check_format-clause-err c =
    let residual = c.from_residual-in_err-check_format in
    let exit = err_from_is_err_and residual.result residual.ensures.1 in
    rw (exit.1, exit.2)
    (inr (c.in_ok-check_size.ensures.ok, inl c.in_err-check_format.ensures.err))

pub returns-in_err-check_kind-clause-err : goal.returns-in_err-check_kind-clause-err
returns-in_err-check_kind-clause-err c =
    let residual = c.from_residual-in_err-check_kind in
    let exit = err_from_is_err_and residual.result residual.ensures.1 in
    rw (exit.1, exit.2)
    (inr (c.in_ok-check_size.ensures.ok, inr (c.in_ok-check_format.ensures.ok, inl c.in_err-check_kind.ensures.err)))

pub returns-in_err-check_flags-clause-err : goal.returns-in_err-check_flags-clause-err
returns-in_err-check_flags-clause-err c =
    let residual = c.from_residual-in_err-check_flags in
    let exit = err_from_is_err_and residual.result residual.ensures.1 in
    rw (exit.1, exit.2)
    (inr (c.in_ok-check_size.ensures.ok, inr (c.in_ok-check_format.ensures.ok, inr (c.in_ok-check_kind.ensures.ok, inl c.in_err-check_flags.ensures.err))))

pub returns-in_err-check_table-clause-err : goal.returns-in_err-check_table-clause-err
returns-in_err-check_table-clause-err c =
    let residual = c.from_residual-in_err-check_table in
    let exit = err_from_is_err_and residual.result residual.ensures.1 in
    rw (exit.1, exit.2)
    (inr (c.in_ok-check_size.ensures.ok, inr (c.in_ok-check_format.ensures.ok, inr (c.in_ok-check_kind.ensures.ok, inr (c.in_ok-check_flags.ensures.ok, inl c.in_err-check_table.ensures.err)))))

pub returns-clause-err : goal.returns-clause-err
returns-clause-err c =
    IfErr-weaker c.check_whole_table.result _ _
    (λ fault row. inr (c.in_ok-check_size.ensures.ok, inr (c.in_ok-check_format.ensures.ok, inr (c.in_ok-check_kind.ensures.ok, inr (c.in_ok-check_flags.ensures.ok, inr (c.in_ok-check_table.ensures.ok, inl row))))))
    c.check_whole_table.ensures.err
