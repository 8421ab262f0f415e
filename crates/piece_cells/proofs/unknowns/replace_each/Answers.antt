use Rattle.std.proofs.Common.{◌≢◌, ◌<◌, length, get_or, set, sym, subst, ◌∙◌, arith, below_more}
use Rattle.std.proofs.Common.{get_or-set_other, get_or-set_same}
use Rattle.std.proofs.lemmas.List.{get_or_default}
use Rattle.std.proofs.lemmas.List.Elements.{All-get_or, All-from_get_or}
use Rattle.piece_cells.specs.Cells.{IsIn}
use Rattle.piece_cells.proofs.unknowns.replace_each.Goals as goal

pub loop-at-preserved : goal.loop-at-preserved
loop-at-preserved c =
    let xs = c.loop-at.known in
    let at = c.loop-at.at in
    let v = c.replaced.result in
    let inside : at < length c.loop-at.known = omega (arith, c.loop-at-test.true, c.loop-at.auto.known) in (
      λ k d later. let ne : k ≢ at = omega (arith, later) in
          get_or-set_other xs at k v d ne ∙ c.loop-at.invariant.0 k d (omega (arith, later)),
      λ before now r k d lt was.
          below_more (λ n. IsIn before (get_or c.args.known.now n d) → IsIn now (get_or (set xs at v) n d)) at
          (λ n h held. let ne : n ≢ at = omega (arith, h) in
          subst (IsIn now) (sym (get_or-set_other xs at n v d ne)) (c.loop-at.invariant.1 before now r n d h held))
          (λ held. subst (IsIn now) (sym (get_or-set_same xs at v d inside))
          (c.replaced.ensures before now r
          (subst (IsIn before) (sym (c.loop-at.invariant.0 at d (omega arith)) ∙ get_or_default xs at d _ inside) held)))
          k lt was,
    )

pub returns : goal.returns
returns c = λ before now r all.
    All-from_get_or (IsIn now) c.loop-at.known (record { unknown = c.args.unknown; set = c.args.set })
    (λ i lt. c.loop-at.invariant.1 before now r i _ (omega (arith, lt, c.loop-at-test.false, c.loop-at.auto.known))
    (All-get_or (IsIn before) c.args.known.now i _ (omega (arith, lt, c.loop-at.auto.known)) all))
