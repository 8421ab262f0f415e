use Rattle.std.proofs.Common.{◌≡◌, ℕ, ◌<◌, true, map, slice_index, unwrap_or, ap, ◌∙◌, subst}
use Rattle.std.proofs.lemmas.List.{length-map}
use Rattle.std.specs.BTreeMap.{is_at}
use Rattle.std.specs.Map.{lookup}
use Rattle.std.specs.List.{list_all}
use Rattle.std.specs.List.Sorted.{IsStrictlySortedBy}
use Rattle.flow_base.specs.PointOrders.{point_cmp}
use Rattle.flow_graph.specs.Graphs.{are_links}
use Rattle.flow_graph.specs.EventGraphs.{named_links, is_among, named}
use Rattle.flow_graph.specs.Builders.{arc_at}
use Rattle.flow_graph.specs.Keeping.{is_sound}
use Rattle.flow_graph.proofs.Indices.{is_in}
use Rattle.flow_graph.proofs.LinksByIndex.{arcs_ascend, links_there, named_among}
use Rattle.flow_graph.proofs.SameLinksSameRelays.{same_relays, relay_there}
use Rattle.flow_graph.proofs.CapacityEntries.{capacity_lookup, sound_names, names_ordered, points_kept}
use Rattle.flow_graph.proofs.builders.Builder.finish.Goals as goal

pub links_of-requires-clause-sorted : goal.links_of-requires-clause-sorted
links_of-requires-clause-sorted c =
    let names : c.as_slice-ascending.result.now ≡ map (λ n. n.point) c.in_ok-points.points =
    c.as_slice-ascending.ensures ∙ (c.in_ok-names.ensures ∙ ap (map (λ n. n.point)) c.as_slice-nodes.ensures) in
    let ordered : IsStrictlySortedBy point_cmp (map (λ n. n.point) c.in_ok-points.points) =
    names_ordered c.args.self.now.capacities c.in_ok-points.points c.in_ok-points.ensures.nodes
    c.in_ok-points.ensures.ordered in
    rw names ordered

pub invariant_of-result : goal.invariant_of-result
invariant_of-result c =
    let names : c.as_slice-ascending.result.now ≡ map (λ n. n.point) c.in_ok-points.points =
    c.as_slice-ascending.ensures ∙ (c.in_ok-names.ensures ∙ ap (map (λ n. n.point)) c.as_slice-nodes.ensures) in
    let ordered : IsStrictlySortedBy point_cmp (map (λ n. n.point) c.in_ok-points.points) =
    names_ordered c.args.self.now.capacities c.in_ok-points.points c.in_ok-points.ensures.nodes
    c.in_ok-points.ensures.ordered in
    let sound : list_all (is_sound (is_in (map (λ n. n.point) c.in_ok-points.points))) c.args.self.now.links.keys ≡
    true = sound_names c.args.self.now c.in_ok-points.points c.in_ok-points.ensures.nodes c.requires.sound in
    let links : c.in_ok-links.links ≡ map (arc_at (map (λ n. n.point) c.in_ok-points.points))
    c.args.self.now.links.keys = c.in_ok-links.ensures.links ∙ ap (λ n. map (arc_at n) c.args.self.now.links.keys)
    names in
    let small : (i : ℕ) → slice_index c.in_ok-relays.relays i < 65536 = λ i. subst (λ l. slice_index l i < 65536)
    c.as_slice-regions.ensures (c.tell_range.ensures i) in
    record {
      points_ascend = points_kept c.args.self.now c.in_ok-points.points c.in_ok-points.ensures.nodes
          c.in_ok-points.ensures.ordered c.requires.positive;
      relays_ascend = c.in_ok-relays.ensures.ascend;
      links_ascend = rw links (arcs_ascend (map (λ n. n.point) c.in_ok-points.points) ordered
          c.args.self.now.links.keys c.in_ok-links.ensures.ordered sound);
      links_are_valid = rw links
          (subst (λ n. are_links n c.in_ok-relays.relays (map (arc_at (map (λ n. n.point) c.in_ok-points.points))
          c.args.self.now.links.keys) ≡ true) (length-map c.in_ok-points.points (λ n. n.point))
          (links_there (map (λ n. n.point) c.in_ok-points.points) c.in_ok-relays.relays c.args.self.now.links.keys
          sound (λ r e. relay_there c.in_ok-relays.relays r small (c.in_ok-relays.ensures.relays r ∙ e))));
    }

pub returns : goal.returns
returns c = λ events stands.
    let names : c.as_slice-ascending.result.now ≡ map (λ n. n.point) c.in_ok-points.points =
    c.as_slice-ascending.ensures ∙ (c.in_ok-names.ensures ∙ ap (map (λ n. n.point)) c.as_slice-nodes.ensures) in
    let sound : list_all (is_sound (is_in (map (λ n. n.point) c.in_ok-points.points))) c.args.self.now.links.keys ≡
    true = sound_names c.args.self.now c.in_ok-points.points c.in_ok-points.ensures.nodes c.requires.sound in
    let links : c.in_ok-links.links ≡ map (arc_at (map (λ n. n.point) c.in_ok-points.points))
    c.args.self.now.links.keys = c.in_ok-links.ensures.links ∙ ap (λ n. map (arc_at n) c.args.self.now.links.keys)
    names in
    record {
      points = λ q. capacity_lookup c.in_ok-points.points q ∙
          (ap (λ es. unwrap_or (lookup (is_at (point_cmp q)) es) 0) c.in_ok-points.ensures.nodes ∙ stands.counted q);
      relays = λ r. c.in_ok-relays.ensures.relays r ∙ same_relays r c.args.self.now.links.keys (named_links events)
          stands.linked;
      links = λ j. ap (λ l. is_among (map (named c.in_ok-points.points) l) j) links ∙
          (named_among c.in_ok-points.points c.args.self.now.links.keys j sound ∙
          stands.linked j);
    }
