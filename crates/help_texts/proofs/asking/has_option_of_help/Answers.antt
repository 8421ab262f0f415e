use Rattle.std.proofs.Common.{◌∙◌, Global, String, string_bytes, rules, sym, tests}
use Rattle.std.proofs.lemmas.Iterator.{YieldsList-from_slice}
use Rattle.std.proofs.lemmas.Iterator.Search.{any_from_yields_List}
use Rattle.help_texts.specs.Texts.{is_help_option}
use Rattle.help_texts.proofs.Searches.{list_any_map}
use Rattle.help_texts.proofs.asking.has_option_of_help.Goals as goal

pub returns : goal.returns
returns c =
    any_from_yields_List (λ (word : String Global). is_help_option (string_bytes word)) _ _ _ c.any.ensures.ran
    (YieldsList-from_slice c.args.words.now cc) (λ x b q k. search (rules, tests))
    ∙ sym (list_any_map is_help_option (λ (word : String Global). string_bytes word) c.args.words.now)
