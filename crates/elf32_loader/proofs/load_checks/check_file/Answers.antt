use Rattle.std.proofs.Common.{ℕ, ◌⊎◌, List, inl, inr}
use Rattle.std.proofs.lemmas.Result.{IfErr-weaker, err_from_is_err_and}
use Rattle.elf32_loader.specs.declared.fault.ElfFault.{ElfFault}
use Rattle.elf32_loader.specs.FirstFault.{HeaderRows, IsFirstFault, LoadRows}
use Rattle.elf32_loader.proofs.load_checks.check_file.Goals as goal

-- the first row of a table is the first one of a longer table
first_row : {F A R S : Type 0} → (R → S) → (F × A) ⊎ ((¬ F) × R) → (F × A) ⊎ ((¬ F) × S)
first_row go (inl row) = inl row
first_row go (inr (none, rest)) = inr (none, go rest)

headed : (file : List ℕ) (fault : ElfFault) → HeaderRows file fault ⊥ → IsFirstFault file fault
headed file fault rows = first_row (first_row (first_row (first_row (first_row (first_row (λ none. absurd none)))))) rows

pub returns-in_err-check_header-clause-err : goal.returns-in_err-check_header-clause-err
returns-in_err-check_header-clause-err c =
    let residual = c.from_residual in
    let exit = err_from_is_err_and residual.result residual.ensures.1 in
    rw (exit.1, exit.2) (headed c.args.file.now _ c.in_err-check_header.ensures.err)

pub returns-clause-err : goal.returns-clause-err
returns-clause-err c =
    let file = c.args.file.now in
    let passed = c.in_ok-check_header.ensures.ok in
    IfErr-weaker c.check_loads.result (LoadRows file) (IsFirstFault file)
    (λ fault rows. inr (
      passed.has_header,
      inr (
        passed.has_format,
        inr (
          passed.has_kind,
          inr (passed.is_not_compressed, inr (passed.has_table, inr (passed.has_whole_table, rows))),
        ),
      ),
    ))
    c.check_loads.ensures.err
