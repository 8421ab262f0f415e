use Rattle.std.proofs.Common.{◌≡◌, ◌∙◌, sym, true}
use Rattle.flow_certificate.specs.Private.Drafts.{may_add_relay, sketch_of}
use Rattle.flow_certificate.proofs.LastItems.{regions_grow, relays_grow}
use Rattle.flow_certificate.proofs.adding.add_relay.Goals as goal

pub returns-clause-draft : goal.returns-clause-draft
returns-clause-draft c =
    let draft = c.args.draft.now in
    let may : may_add_relay (sketch_of draft) c.args.line ≡ true = sym c.may_add_relay.ensures
    ∙ c.if-not-may_add_relay.false in
    record {
      same = regions_grow draft c.args.line c.push.new.self c.push-2.new.self c.requires c.in_ok-push.ensures.ok
          c.in_ok-push-2.ensures.ok;
      ascend = relays_grow draft c.args.line c.push.new.self c.requires may c.in_ok-push.ensures.ok;
    }
