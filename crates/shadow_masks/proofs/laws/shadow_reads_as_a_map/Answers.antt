use Rattle.shadow_masks.proofs.Reading.{reads_as_map}
use Rattle.shadow_masks.proofs.laws.shadow_reads_as_a_map.Goals as goal

pub returns : goal.returns
returns c writes base start shades new leads = reads_as_map writes base start shades new leads
