use Rattle.std.proofs.Common.{sym, ◌∙◌}
use Rattle.std.specs.Cmp.{eq_by_cmp_equiv}
use Rattle.std.proofs.lemmas.Map.Made.{lookup_key_passes}
use Rattle.hinted_map.proofs.Places.{stands}
use Rattle.hinted_map.proofs.maps.HintedMap.find_anywhere.Goals as goal

pub returns-in-Some-clause-at : goal.returns-in-Some-clause-at
returns-in-Some-clause-at g c =
    stands (eq_by_cmp_equiv g.met.K.Ord.total) c.args.self.now.map c.args.key.now c.in-Some.field-0-1.now c.in-Some.index
    c.in-Some.field-0-2.now c.len-count.ensures.differ
    (sym (g.met.K.Ord.matches_eq c.args.key.now c.in-Some.field-0-1.now) ∙ lookup_key_passes
    (g.K.PartialEq.eq c.args.key.now) c.args.self.now.map.entries c.in-Some.field-0-1.now (sym c.in-Some.ensures.key))
    c.in-Some.ensures.entry
