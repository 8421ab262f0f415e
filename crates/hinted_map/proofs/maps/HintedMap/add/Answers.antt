use Rattle.std.proofs.Common.{◌≡◌, ap, subst, ◌∙◌}
use Rattle.std.specs.Cmp.{eq_by_cmp_equiv}
use Rattle.std.specs.List.{IsDistinct}
use Rattle.std.specs.Map.{keys_of, lookup}
use Rattle.std.specs.Ordering.{eq_by_cmp}
use Rattle.std.specs.Prelude.{slice_get}
use Rattle.indexmap.proofs.CallerLemmas.{insert_entry-new}
use Rattle.hinted_map.specs.Maps.{Puts}
use Rattle.hinted_map.proofs.Places.{last_at, stands}
use Rattle.hinted_map.proofs.maps.HintedMap.add.Goals as goal

pub returns-in-Ok-clause-added : goal.returns-in-Ok-clause-added
returns-in-Ok-clause-added g c =
    let same : g.K.PartialEq.eq ≡ eq_by_cmp g.K.Ord.cmp = λ i x y. g.met.K.Ord.matches_eq x y i in
    c.in-Ok.ensures.entries
    ∙ insert_entry-new g.K.PartialEq.eq c.args.self.now.map c.args.key c.args.value
    (ap (λ e. lookup (e c.args.key) c.args.self.now.map.entries) same ∙ c.requires)

pub returns-in-Ok-clause-puts : goal.returns-in-Ok-clause-puts
returns-in-Ok-clause-puts g c =
    let same : g.K.PartialEq.eq ≡ eq_by_cmp g.K.Ord.cmp = λ i x y. g.met.K.Ord.matches_eq x y i in
    subst (λ e. Puts e c.args.self.now.map.entries c.insert.new.self.entries c.args.key c.args.value) same
    c.in-Ok.ensures.updates.0

pub returns-in-Ok-clause-at : goal.returns-in-Ok-clause-at
returns-in-Ok-clause-at g c =
    let alike = eq_by_cmp_equiv g.met.K.Ord.total in
    let same : g.K.PartialEq.eq ≡ eq_by_cmp g.K.Ord.cmp = λ i x y. g.met.K.Ord.matches_eq x y i in
    stands alike c.insert.new.self c.args.key c.args.key c.len-index.result c.args.value
    (subst (λ e. IsDistinct e (keys_of c.insert.new.self.entries)) same c.in-Ok.ensures.unique)
    (alike.refl c.args.key)
    (ap (λ entries. slice_get entries c.len-index.result) (returns-in-Ok-clause-added g c)
    ∙ last_at c.args.self.now.map.entries (c.args.key, c.args.value) c.len-index.result c.len-index.ensures.len)
