use Rattle.std.proofs.Common.{subst}
use Rattle.shadow_masks.specs.Pages.{label_in, AreClean}
use Rattle.shadow_masks.proofs.page_slots.is_clean_in.Goals as goal

pub returns-in-Some-clause-no : goal.returns-in-Some-clause-no
returns-in-Some-clause-no c clean_each =
    c.is_clean.ensures.no (subst (λ page. AreClean (label_in page) c.args.place c.args.count) c.in-Some.is clean_each)
