use Rattle.std.proofs.Common.{◌≡◌, sym, ◌∙◌, subst, map-id}
use Rattle.std.proofs.lemmas.Iterator.{items_from_drains}
use Rattle.std.proofs.lemmas.Iterator.Adapters.{YieldsList-from_vec}
use Rattle.std.specs.BTreeSet as sorted
use Rattle.flow_graph.specs.EventGraphs.{link_cmp}
use Rattle.location_collapse.proofs.SortedCollapses.{links_sorted}
use Rattle.location_collapse.proofs.sorting.sorted_links.Goals as goal

pub returns : goal.returns
returns c =
    let ran = c.in_ok-sorted.ensures.ran in
    let all : ran.1 ≡ c.into_vec.result.items =
    sym (map-id ran.1) ∙ items_from_drains ran.1 ran.3 (YieldsList-from_vec c.into_vec.result.items ran.2.0 (ran.2.1 ∙ c.into_vec.result.ok.0)) in
    links_sorted _ c.in_ok-sorted.sorted (subst (λ l. sorted.IsFromIterResult link_cmp l c.in_ok-sorted.sorted)
    (all ∙ (c.into_vec.ensures ∙ c.in_ok-listed.ensures)) ran.4)
