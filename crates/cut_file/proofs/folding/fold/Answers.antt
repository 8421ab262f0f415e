use Rattle.std.proofs.Common.{◌∙◌, IsTrue, List, ℕ, subst, sym}
use Rattle.cut_file.specs.Cuts.{are_regions}
use Rattle.cut_file.proofs.folding.fold.Goals as goal

pub invariant_of-result-clause-skips : goal.invariant_of-result-clause-skips
invariant_of-result-clause-skips c =
    subst (λ (l : List ℕ). IsTrue (are_regions l)) (sym (c.in_ok-skip.ensures ∙ c.as_slice.ensures))
    c.args.cut.now.skips
