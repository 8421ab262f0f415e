use Rattle.std.proofs.Common.{◌∙◌, rules, tests}
use Rattle.std.proofs.lemmas.Iterator.{YieldsList-from_slice}
use Rattle.std.proofs.lemmas.Iterator.Search.{find_from_yields_List}
use Rattle.enclosure_regions.specs.Breaks.{has_changed}
use Rattle.enclosure_regions.specs.Regions.{is_register}
use Rattle.enclosure_regions.proofs.AskedItems.{asked_in_slice}
use Rattle.enclosure_regions.proofs.region_checks.first_changed.Goals as goal

pub find-requires-clause-callable : goal.find-requires-clause-callable
find-requires-clause-callable c =
    asked_in_slice is_register (search rules) (λ x q k. search (rules, tests)) (λ x passes. search rules)

pub returns-clause-first : goal.returns-clause-first
returns-clause-first c =
    c.copied.ensures
    ∙ find_from_yields_List (λ register. has_changed c.args.before.now c.args.after.now register) _ _ _
    c.find.ensures.ran (YieldsList-from_slice c.args.registers.now cc) (λ x b q k. search (rules, tests))
