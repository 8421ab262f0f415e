use Rattle.std.proofs.Common.{◌≡◌, List, ℕ, inl, refl, true, take, subst, ap, ◌∙◌}
use Rattle.std.specs.Prelude.{IfSome, Option, Some, None}
use Rattle.std.proofs.lemmas.Bool.{and_parts, and_from}
use Rattle.cut_file.specs.declared.points.Run.{Run}
use Rattle.cut_file.specs.Cuts.{are_runs, is_point, is_rest}
use Rattle.cut_file.specs.Folds.{IsLeastPeriod, first_runs}
use Rattle.cut_file.specs.Masks.{listed_masks}
use Rattle.cut_file.proofs.Following.{is_so, is_true}
use Rattle.cut_file.proofs.Periods.{period_rest}
use Rattle.cut_file.proofs.Steps.{the_same}
use Rattle.cut_file.proofs.folding.folded_point.Goals as goal

-- what the first round of the runs is, where the number that is found is a least one
round : (runs other : List Run) (count : ℕ) (period : Option ℕ) → are_runs runs ≡ true → other ≡ runs →
    period ≡ Some count → IfSome period (λ count. IsLeastPeriod (listed_masks other) count) →
    (IsLeastPeriod (listed_masks runs) count) × (is_rest (first_runs count runs) ≡ true)
    × (listed_masks (first_runs count runs) ≡ take count (listed_masks runs))
round runs other count None known same e found = absurd cc
round runs other count (Some least) known same e found =
    let own : IsLeastPeriod (listed_masks runs) count =
    subst (λ (n : ℕ). IsLeastPeriod (listed_masks runs) n) (the_same least count e)
    (subst (λ (l : List Run). IsLeastPeriod (listed_masks l) least) same found) in
    let rest = period_rest runs count known own.0 in
    (own, rest.0, rest.1)

pub returns-clause-folded : goal.returns-clause-folded
returns-clause-folded c =
    let place = and_parts (is_point c.args.cut_point.now.point) _ (is_so _ c.requires) in
    let runs = and_parts (are_runs c.args.cut_point.now.runs) (is_rest c.args.cut_point.now.rest) place.1 in
    let rest = round c.args.cut_point.now.runs c.as_slice.result.now c.in-Some.count c.in_ok-count.field-0 runs.0
    c.as_slice.ensures c.in-Some.is c.in_ok-count.ensures.some in
    let first : c.in_ok-rest.rest ≡ first_runs c.in-Some.count c.args.cut_point.now.runs =
    c.in_ok-rest.ensures ∙ ap (λ (l : List Run). first_runs c.in-Some.count l) c.as_slice-2.ensures in
    inl (c.in-Some.count, rest.0, refl, c.new.ensures, ap listed_masks first ∙ rest.2)

pub returns-clause-known : goal.returns-clause-known
returns-clause-known c =
    let place = and_parts (is_point c.args.cut_point.now.point) _ (is_so _ c.requires) in
    let runs = and_parts (are_runs c.args.cut_point.now.runs) (is_rest c.args.cut_point.now.rest) place.1 in
    let rest = round c.args.cut_point.now.runs c.as_slice.result.now c.in-Some.count c.in_ok-count.field-0 runs.0
    c.as_slice.ensures c.in-Some.is c.in_ok-count.ensures.some in
    let first : c.in_ok-rest.rest ≡ first_runs c.in-Some.count c.args.cut_point.now.runs =
    c.in_ok-rest.ensures ∙ ap (λ (l : List Run). first_runs c.in-Some.count l) c.as_slice-2.ensures in
    is_true _ (and_from _ _ place.0 (and_from _ _ (ap are_runs c.new.ensures) (ap is_rest first ∙ rest.1)))
