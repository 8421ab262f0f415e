use Rattle.std.proofs.Common.{Bor, List, ℕ, ◌∙◌, rules, sym, tests}
use Rattle.std.proofs.lemmas.Iterator.{YieldsList-from_slice}
use Rattle.std.proofs.lemmas.Iterator.Adapters.{position_from-zero}
use Rattle.std.proofs.lemmas.Iterator.Search.{position_from_yields_List}
use Rattle.std.specs.Str.{bytes_eq}
use Rattle.flow_base.proofs.NamePlaces.{position_from_map}
use Rattle.flow_base.proofs.register_names.place.Goals as goal

pub returns-clause-exact : goal.returns-clause-exact
returns-clause-exact c =
    position_from_yields_List (λ (other : Bor (List ℕ)). bytes_eq other.now c.args.name.now) _ _ _
    c.position.ensures.ran (YieldsList-from_slice c.args.names.now cc) (λ x b q k. search (rules, tests))
    ∙ (position_from-zero (λ (other : Bor (List ℕ)). bytes_eq other.now c.args.name.now) c.args.names.now
    ∙ sym (position_from_map (λ other. bytes_eq other c.args.name.now) (λ (other : Bor (List ℕ)). other.now) 0
    c.args.names.now))
