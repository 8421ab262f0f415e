use Rattle.std.proofs.Common.{◌||◌, ◌∷◌, [], refl, sym, ap, ◌∙◌}
use Rattle.flow_graph.specs.EventGraphs.{is_among}
use Rattle.flow_graph.proofs.BuilderAfterEvent.{put_links, all_inserted}
use Rattle.flow_graph.proofs.SameLinksSameRelays.{contains_among}
use Rattle.flow_graph.proofs.builders.Builder.link_if.Goals as goal

pub returns-in-Ok-clause-takes : goal.returns-in-Ok-clause-takes
returns-in-Ok-clause-takes c =
    let more = record { source = c.args.source; target = c.args.target } ∷ [] in
    rw c.if-not-holds.false
    (record {
      capacities = refl;
      links = record {
        linked = λ j.
            sym (contains_among _ j)
            ∙ (put_links _ _ _ (c.in-Ok.ensures.updates.0 j)
            ∙ ap (λ b. b || is_among more j) (contains_among c.args.self.now.links j));
        sound = λ test old more. rw c.in-Ok.ensures.keys (all_inserted test _ c.args.self.now.links.keys old more);
      };
    })
