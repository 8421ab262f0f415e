use Rattle.std.proofs.Common.{◌≡◌, ◌||◌, Bool, true, false, cond, refl, ap, ◌∙◌}
use Rattle.flow_base.proofs.PointEquality.{points_alike}
use Rattle.many_runs.proofs.points.put_point.Goals as goal

put : (x y b c : Bool) → x ≡ y → c ≡ cond x true b → c ≡ (b || y)
put x true b c same is = is ∙ (ap (λ z. cond z true b) same ∙ true-last b)
  where
    true-last : (b : Bool) → true ≡ (b || true)
    true-last true = refl
    true-last false = refl
put x false b c same is = is ∙ (ap (λ z. cond z true b) same ∙ false-last b)
  where
    false-last : (b : Bool) → b ≡ (b || false)
    false-last true = refl
    false-last false = refl

pub returns-in-Ok : goal.returns-in-Ok
returns-in-Ok c = λ q. put _ _ _ _ (points_alike.symm c.args.point q) (c.in-Ok.ensures.updates.0 q)
