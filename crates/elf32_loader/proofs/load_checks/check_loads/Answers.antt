use Rattle.std.proofs.Common.{inl, inr}
use Rattle.std.proofs.lemmas.Result.{err_from_is_err_and}
use Rattle.elf32_loader.specs.FaultTable.{HasNoLoad}
use Rattle.elf32_loader.proofs.load_checks.check_loads.Goals as goal

pub returns-in_err-check_ranges-clause-err : goal.returns-in_err-check_ranges-clause-err
returns-in_err-check_ranges-clause-err c =
    let residual = c.from_residual-in_err-check_ranges in
    let exit = err_from_is_err_and residual.result residual.ensures.1 in
    let lowest = c.in_ok-lowest.ensures.ok in
    let some : ¬ HasNoLoad c.args.file.now = λ none. none c.in_ok-lowest.lowest lowest.0.0 in
    rw (exit.1, exit.2)
    (inr (c.in_ok-check_dynamic.ensures.ok, inr (some, inl c.in_err-check_ranges.ensures.err)))

pub returns-in_err-check_base-clause-err : goal.returns-in_err-check_base-clause-err
returns-in_err-check_base-clause-err c =
    let residual = c.from_residual-in_err-check_base in
    let exit = err_from_is_err_and residual.result residual.ensures.1 in
    let lowest = c.in_ok-lowest.ensures.ok in
    let some : ¬ HasNoLoad c.args.file.now = λ none. none c.in_ok-lowest.lowest lowest.0.0 in
    rw (exit.1, exit.2)
    (inr (
      c.in_ok-check_dynamic.ensures.ok,
      inr (
        some,
        inr (c.in_ok-check_ranges.ensures.ok, inl c.in_err-check_base.ensures.err),
      ),
    ))

pub returns-in_err-check_overlaps-clause-err : goal.returns-in_err-check_overlaps-clause-err
returns-in_err-check_overlaps-clause-err c =
    let residual = c.from_residual-in_err-check_overlaps in
    let exit = err_from_is_err_and residual.result residual.ensures.1 in
    let lowest = c.in_ok-lowest.ensures.ok in
    let some : ¬ HasNoLoad c.args.file.now = λ none. none c.in_ok-lowest.lowest lowest.0.0 in
    rw (exit.1, exit.2)
    (inr (
      c.in_ok-check_dynamic.ensures.ok,
      inr (
        some,
        inr (
          c.in_ok-check_ranges.ensures.ok,
          inr (
            c.in_ok-check_base.ensures.ok,
            inl c.in_err-check_overlaps.ensures.err,
          ),
        ),
      ),
    ))

pub returns-in_err-check_dynamic-clause-err : goal.returns-in_err-check_dynamic-clause-err
returns-in_err-check_dynamic-clause-err c =
    let residual = c.from_residual in
    let exit = err_from_is_err_and residual.result residual.ensures.1 in
    rw (exit.1, exit.2) (inl c.in_err-check_dynamic.ensures.err)

pub returns-in_err-lowest-clause-err : goal.returns-in_err-lowest-clause-err
returns-in_err-lowest-clause-err c =
    let residual = c.from_residual-in_err-lowest in
    let exit = err_from_is_err_and residual.result residual.ensures.1 in
    rw (exit.1, exit.2) (inr (c.in_ok-check_dynamic.ensures.ok, inl c.in_err-lowest.ensures.err))

pub returns-in_err-check_entry-clause-err : goal.returns-in_err-check_entry-clause-err
returns-in_err-check_entry-clause-err c =
    let residual = c.from_residual-in_err-check_entry in
    let exit = err_from_is_err_and residual.result residual.ensures.1 in
    let lowest = c.in_ok-lowest.ensures.ok in
    let some : ¬ HasNoLoad c.args.file.now = λ none. none c.in_ok-lowest.lowest lowest.0.0 in
    rw (exit.1, exit.2)
    (inr (
      c.in_ok-check_dynamic.ensures.ok,
      inr (
        some,
        inr (
          c.in_ok-check_ranges.ensures.ok,
          inr (
            c.in_ok-check_base.ensures.ok,
            inr (c.in_ok-check_overlaps.ensures.ok, inl c.in_err-check_entry.ensures.err),
          ),
        ),
      ),
    ))

pub returns-clause-ok : goal.returns-clause-ok
returns-clause-ok c = (
  c.base_of-base.ensures,
  record {
    is_not_dynamic = c.in_ok-check_dynamic.ensures.ok;
    has_load = λ none. none c.in_ok-lowest.lowest c.in_ok-lowest.ensures.ok.0.0;
    is_in_range = c.in_ok-check_ranges.ensures.ok;
    has_low_base = c.in_ok-check_base.ensures.ok;
    has_no_overlap = c.in_ok-check_overlaps.ensures.ok;
    has_entry = c.in_ok-check_entry.ensures.ok;
  },
)
