use Rattle.shadow_masks.specs.Shades.{byte_label}
use Rattle.shadow_masks.proofs.CleanWords.{clean_word}
use Rattle.masked_turns.proofs.looking.code_look.Goals as goal

pub returns-then-is_clean : goal.returns-then-is_clean
returns-then-is_clean c = λ region held.
    clean_word _ (byte_label c.args.shadow.now) c.args.address (c.is_clean.ensures.yes c.if-is_clean.true)
