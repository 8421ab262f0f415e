use Rattle.std.proofs.Common.{◌≡◌, true, false, Ok, sym, ◌∙◌}
use Rattle.std.proofs.lemmas.List.Sorted.{searched}
use Rattle.flow_graph.proofs.Relays.{relay_missing}
use Rattle.flow_graph.specs.Graphs.{is_relay}
use Rattle.flow_certificate.proofs.Sides.{relay_at, rises}
use Rattle.flow_certificate.proofs.across.has_relay.Goals as goal

pub returns-in-Ok : goal.returns-in-Ok
returns-in-Ok c =
    let found = searched c.args.relays.now c.args.region (Ok c.in-Ok.index) c.in-Ok.ensures.position
    (rises c.args.relays.now c.requires.ascend) in
    sym (relay_at c.args.relays.now c.args.answers.now c.in-Ok.index c.args.region false c.requires.ascend
    c.requires.same found.0 found.1)

pub returns-in-Err : goal.returns-in-Err
returns-in-Err c =
    let missing : is_relay c.args.relays.now c.args.region ≡ false = relay_missing c.args.relays.now c.args.region
    c.in-Err.field-0 c.requires.ascend c.in-Err.ensures.position in
    let same : true ≡ false = sym c.requires.known ∙ missing in
    absurd (cc)
