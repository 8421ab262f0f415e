use Rattle.std.proofs.Common.{◌≡◌, sym, subst, true}
use Rattle.std.specs.Map.{keys_of}
use Rattle.std.proofs.lemmas.Bool.{OnTrue_at, OnTrue_from}
use Rattle.flow_graph.specs.EventGraphs.{is_among}
use Rattle.location_collapse.proofs.LinkMarks.{stands_known}
use Rattle.location_collapse.proofs.kept_links.KeptLinks.is_flow_at.Goals as goal

pub returns-in-Some : goal.returns-in-Some
returns-in-Some c =
    OnTrue_from c.leads.result _
    (λ e. subst (λ link. is_among (keys_of c.args.self.now.named.map.entries) link ≡ true) (OnTrue_at e c.leads.ensures)
    (stands_known c.args.self.now.named.map c.in-Some.link.now c.args.index _ c.len-differing.ensures.differ
    (sym c.in-Some.ensures.entry)))
