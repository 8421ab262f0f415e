use Rattle.std.proofs.Common.{◌≡◌, ◌<◌, ◌++◌, ◌∷◌, [], List, false, length, ap, sym, ◌∙◌, arith}
use Rattle.std.proofs.lemmas.Grind.{common_steps}
use Rattle.enclosure_regions.specs.declared.region_parts.Region.{Region}
use Rattle.enclosure_regions.specs.Regions.{enters_of, ids_of}
use Rattle.enclosure_regions.proofs.Longer.{longer}
use Rattle.flow_base.specs.Listed.{is_listed}
use Rattle.enclosure_regions.proofs.item_lists.regions_of.Goals as goal

pub loop-rest-preserved : goal.loop-rest-preserved
loop-rest-preserved c =
    let found : List Region = c.loop-rest.found in
    let region = c.in_ok-region.region in
    let pushed : c.push.new.self ≡ found ++ region ∷ [] = c.in_ok-push.ensures.ok in
    let few : length found < 256 = omega
    (arith, c.loop-rest.invariant.counted, c.requires, c.in-len1-up.len_at_least) in
    let new_id : is_listed (ids_of found) region.id ≡ false =
    ap (λ (l : List Region). is_listed (ids_of l) region.id) (sym c.as_slice.ensures) ∙ c.in_ok-region.ensures.new_id in
    let new_enter : is_listed (enters_of found) region.enter ≡ false =
    ap (λ (l : List Region). is_listed (enters_of l) region.enter) (sym c.as_slice.ensures)
    ∙ c.in_ok-region.ensures.new_enter in
    record {
      counted = rw pushed (grind (arith, common_steps, c.loop-rest.invariant.counted));
      rules = rw pushed
          (longer found region few c.loop-rest.invariant.rules c.in_ok-region.ensures.rules new_id new_enter);
      same = rw pushed (grind (arith, common_steps, c.loop-rest.invariant.same));
    }
