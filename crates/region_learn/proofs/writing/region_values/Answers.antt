use Rattle.std.proofs.Common.{◌≡◌, ◌∙◌, ap, map}
use Rattle.serde_json.specs.View.{view}
use Rattle.region_learn.specs.RegionTexts.{region_data}
use Rattle.region_learn.proofs.MappedLists.{mapped_more}
use Rattle.region_learn.proofs.writing.region_values.Goals as goal

pub loop-region-preserved : goal.loop-region-preserved
loop-region-preserved c =
    let i = c.loop-region.region-index in
    let made : view c.in_ok-value.value ≡ region_data c.region-item.result = c.in_ok-value.ensures in
    ap (map view) c.in_ok-push.ensures.ok
    ∙ mapped_more view region_data c.loop-region.values.items c.in_ok-value.value c.args.regions.now i c.region-item.result
    c.loop-region-test.true c.loop-region.invariant (made ∙ ap region_data c.region-item.is)
