use Rattle.std.proofs.Common.{◌++◌, sym, ap, ◌∙◌}
use Rattle.std.proofs.lemmas.List.{append-nil}
use Rattle.std.proofs.lemmas.Result.{on_ok_weaker}
use Rattle.acceptance_law.specs.RunCuts.{mask_at_event}
use Rattle.measuring.specs.Visits.{all_masks}
use Rattle.measuring.proofs.AddedVisits.{takes, no_mask}
use Rattle.measuring.proofs.kept_visits.KeptVisits.take.Goals as goal

pub returns-in-Pass : goal.returns-in-Pass
returns-in-Pass c =
    on_ok_weaker c.visit.result
    (λ adds. takes c.args.self.now c.visit.new.self c.args.event
    (λ q. adds q ∙ ap (λ e. all_masks c.args.self.now q ++ mask_at_event q e) (sym c.in-Pass.is)))
    c.visit.ensures

pub returns-in_default : goal.returns-in_default
returns-in_default c =
    takes c.args.self.now c.args.self.now c.args.event
    (λ q. sym (ap (λ masks. all_masks c.args.self.now q ++ masks) (no_mask c.args.event
    c.in_default.not-Pass q) ∙ append-nil (all_masks c.args.self.now q)))
