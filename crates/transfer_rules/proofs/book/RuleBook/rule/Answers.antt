use denote.Enum.Declared.{tag_of}
use Rattle.std.proofs.Common.{◌≡◌, map, slice_index_or, sym, ap, ◌∙◌}
use Rattle.std.proofs.lemmas.List.{get_or-map}
use Rattle.transfer_rules.specs.Tables.{classes_in_order}
use Rattle.transfer_rules.specs.contracts.classes.Class.{the_type}
use Rattle.transfer_rules.proofs.Places.{listed, inside}
use Rattle.transfer_rules.proofs.book.RuleBook.rule.Goals as goal

pub returns-clause-class : goal.returns-clause-class
returns-clause-class g c =
    let in_order : map (λ rule. rule.class) c.args.self.now.rules ≡ classes_in_order = search in
    sym (get_or-map (λ rule. rule.class) c.args.self.now.rules _ _ c.args.class
    (inside (λ rule. rule.class) c.args.self.now.rules c.args.class in_order))
    ∙ (ap (λ classes. slice_index_or classes (tag_of the_type c.args.class) c.args.class) in_order
    ∙ listed c.args.class)

pub returns-clause-table : goal.returns-clause-table
returns-clause-table g c =
    let in_order : map (λ rule. rule.class) c.args.self.now.rules ≡ classes_in_order = search in
    let of_one_table : map (λ rule. rule.table) c.args.self.now.rules
    ≡ map (λ _. c.args.self.now.table) c.args.self.now.rules = search in
    let there = inside (λ rule. rule.class) c.args.self.now.rules c.args.class in_order in
    sym (get_or-map (λ rule. rule.table) c.args.self.now.rules _ _ 0 there)
    ∙ (ap (λ tables. slice_index_or tables (tag_of the_type c.args.class) 0) of_one_table
    ∙ get_or-map (λ _. c.args.self.now.table) c.args.self.now.rules _ c.index-self-class.result 0 there)
