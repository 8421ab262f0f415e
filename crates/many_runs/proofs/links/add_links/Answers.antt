use Rattle.std.proofs.Common.{◌++◌, subst, sym, take, arith}
use Rattle.std.specs.Map.{keys_of}
use Rattle.std.proofs.lemmas.Bool.{false≢true}
use Rattle.measuring.specs.Recordings.{Records}
use Rattle.many_runs.specs.Private.Joining.{event_between, link_events}
use Rattle.many_runs.proofs.FedEvents.{link_again, links_start}
use Rattle.many_runs.proofs.links.add_links.Goals as goal
use Rattle.many_runs.proofs.links.add_links.Goals.{in-Some+in_ok-add_link, in_default}

pub loop-index-init : goal.loop-index-init
loop-index-init c = λ events records. links_start c.args.union.now events records

pub loop-index-preserved : goal.loop-index-preserved
loop-index-preserved c =
    elim c.match-get_index.branch [
      | in-Some+in_ok-add_link w ↦
          (λ events records.
          link_again c.match-get_index.union events c.args.named.now.entries c.loop-index.index w.in-Some.link.now _
          (sym w.in-Some.ensures.entry)
          (subst (λ union. Records union ((events ++ link_events (keys_of (take c.loop-index.index
          c.args.named.now.entries))) ++ event_between w.in-Some.link.now.source w.in-Some.link.now.target)) (sym w.union-is)
          (w.in_ok-add_link.ensures (events ++ link_events (keys_of (take c.loop-index.index
          c.args.named.now.entries))) (c.loop-index.invariant events records))))
      | in_default w ↦
          absurd (false≢true (w.in_default.ensures.found.1
          (omega (arith, c.loop-index-test.true, c.len-index-end.ensures.len))))
    ]
