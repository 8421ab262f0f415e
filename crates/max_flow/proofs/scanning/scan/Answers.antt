use Rattle.std.proofs.Common.{length, subst}
use Rattle.max_flow.specs.Private.Searching.{HasLeft, HasEntered}
use Rattle.max_flow.specs.Private.Solving.{net_of}
use Rattle.max_flow.proofs.SearchSteps.{grown_on}
use Rattle.max_flow.proofs.ScannedQueueIsClosed.{left_grown, scanned_more}
use Rattle.max_flow.proofs.scanning.scan.Goals as goal

pub returns-clause-scanned : goal.returns-clause-scanned
returns-clause-scanned c =
    let grown = grown_on c.args.tree.now.places.items (length c.args.tree.now.queue.items)
    c.scan_leaving.new.tree.places.items (length c.scan_leaving.new.tree.queue.items)
    c.scan_back.new.tree.places.items (length c.scan_back.new.tree.queue.items)
    c.in_ok-scan_leaving.ensures.grown c.in_ok-scan_back.ensures.grown in
    let left = left_grown (net_of c.args.network.now) c.args.flows.now c.scan_leaving.new.tree.places.items
    (length c.scan_leaving.new.tree.queue.items) c.scan_back.new.tree.places.items
    (length c.scan_back.new.tree.queue.items) c.queued-at.result 0 c.in_ok-scan_leaving.ensures.left
    c.in_ok-scan_back.ensures.grown in
    scanned_more (net_of c.args.network.now) c.args.flows.now c.args.tree.now.places.items _ _
    c.args.tree.now.queue.items c.scan_back.new.tree.places.items (length c.scan_back.new.tree.queue.items)
    c.args.next c.requires.network.net c.requires.tree c.requires.inside c.requires.scanned grown
    (subst (λ v. HasLeft (net_of c.args.network.now) c.args.flows.now c.scan_back.new.tree.places.items v 0)
    c.queued-at.ensures left)
    (subst (λ v. HasEntered (net_of c.args.network.now) c.args.flows.now c.scan_back.new.tree.places.items v 0)
    c.queued-at.ensures c.in_ok-scan_back.ensures.entered)
