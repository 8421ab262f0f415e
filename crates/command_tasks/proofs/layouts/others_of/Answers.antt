use Rattle.std.proofs.Common.{◌≡◌, ◌∙◌, true, false, arith}
use Rattle.std.proofs.lemmas.Grind.{common_steps}
use Rattle.command_tasks.proofs.Others.{count_behind, count_others, short_others, short_behind}
use Rattle.command_tasks.proofs.layouts.others_of.Goals as goal

pub returns-then-not-named-clause-short : goal.returns-then-not-named-clause-short
returns-then-not-named-clause-short c =
    let (name, names, same, within) = c.requires.within in
    let not : c.args.named ≡ false = grind (arith, common_steps) in
    short_others name names c.args.others.now (same ∙ not) within

pub returns-clause-short : goal.returns-clause-short
returns-clause-short c =
    let (name, names, same, within) = c.requires.within in
    let is : c.args.named ≡ true = grind (arith, common_steps) in
    short_behind name names c.args.others.now (same ∙ is) within

pub returns-then-not-named-clause-count : goal.returns-then-not-named-clause-count
returns-then-not-named-clause-count c = λ name. λ names. λ same. λ within.
    let not : c.args.named ≡ false = grind (arith, common_steps) in
    count_others name names c.args.others.now (same ∙ not) within

pub returns-clause-count : goal.returns-clause-count
returns-clause-count c = λ name. λ names. λ same. λ within.
    let is : c.args.named ≡ true = grind (arith, common_steps) in
    count_behind name names c.args.others.now (same ∙ is) within
