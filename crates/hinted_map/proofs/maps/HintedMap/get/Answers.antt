use Rattle.std.proofs.Common.{◌≡◌, ap, ◌∙◌}
use Rattle.std.specs.Map.{lookup}
use Rattle.std.specs.Ordering.{eq_by_cmp}
use Rattle.hinted_map.proofs.maps.HintedMap.get.Goals as goal

pub returns : goal.returns
returns g c =
    let same : g.K.PartialEq.eq ≡ eq_by_cmp g.K.Ord.cmp = λ i x y. g.met.K.Ord.matches_eq x y i in
    c.get.ensures.value ∙ ap (λ e. lookup (e c.args.key.now) c.args.self.now.map.entries) same
