use Rattle.std.proofs.Common.{sym, ◌∙◌}
use Rattle.std.specs.Cmp.{eq_by_cmp_equiv}
use Rattle.std.proofs.lemmas.Bool.{OnTrue_from}
use Rattle.hinted_map.proofs.Places.{stands}
use Rattle.hinted_map.proofs.maps.HintedMap.stands_at.Goals as goal

pub returns-in-Some : goal.returns-in-Some
returns-in-Some g c =
    let alike = eq_by_cmp_equiv g.met.K.Ord.total in
    OnTrue_from c.eq.result _
    (λ e. stands alike c.args.self.now.map c.args.key.now c.in-Some.stored.now c.args.index c.in-Some.field-0-1.now
    c.len-count.ensures.differ
    (alike.symm c.args.key.now c.in-Some.stored.now
    ∙ (sym (g.met.K.Ord.matches_eq c.in-Some.stored.now c.args.key.now) ∙ (sym c.eq.ensures ∙ e)))
    (sym c.in-Some.ensures.entry))
