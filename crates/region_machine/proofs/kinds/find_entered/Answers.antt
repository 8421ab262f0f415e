use Rattle.std.proofs.Common.{◌==◌, ◌∙◌}
use Rattle.std.proofs.lemmas.Bool.{ne_eqb}
use Rattle.region_machine.proofs.SlicePatterns.{find_none, find_rest, rest_all}
use Rattle.region_machine.proofs.kinds.find_entered.Goals as goal

pub loop-rest-preserved : goal.loop-rest-preserved
loop-rest-preserved c =
    let some = c.in-len1-up.len_at_least in
    record {
      rules = rest_all _ c.loop-rest.rest.now some c.loop-rest.invariant.rules;
      same = find_rest (λ region. region.enter == c.args.pc) c.loop-rest.rest.now c.region-item.result some
          c.region-item.is (ne_eqb _ _ c.if-region-pc.false)
          ∙ c.loop-rest.invariant.same;
    }

pub returns : goal.returns
returns c = record {
  found = find_none (λ region. region.enter == c.args.pc) c.loop-rest.rest.now c.in_default.len_below
      ∙ c.loop-rest.invariant.same;
  rules = tt;
}
