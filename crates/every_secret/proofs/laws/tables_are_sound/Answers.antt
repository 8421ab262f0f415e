use Rattle.every_secret.proofs.SoundTables.{tables_sound}
use Rattle.every_secret.proofs.laws.tables_are_sound.Goals as goal

pub returns : goal.returns
returns c = tables_sound
