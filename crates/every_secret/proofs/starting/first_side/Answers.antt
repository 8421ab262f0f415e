use Rattle.std.proofs.Common.{refl}
use Rattle.every_secret.proofs.StartedSearch.{new_labels}
use Rattle.every_secret.proofs.starting.first_side.Goals as goal

pub returns : goal.returns
returns g c = record {
  labels = new_labels c.args.walks.image.now.base c.in_ok-shadow.shadow c.in_ok-shadow.ensures;
  base_is = let new = c.in_ok-shadow.ensures in new.begins;
  ahead = c.in_ok-masks.ensures;
  bits = c.in_ok-bits.ensures.empty;
  taken = c.in_ok-bits.ensures.untaken;
  crossed = refl;
  byte_masks = c.new-3.ensures.items;
  status_mask = refl;
  ruling_is = refl;
  unclear = refl;
}
