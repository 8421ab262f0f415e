use Rattle.std.proofs.Common.{refl}
use Rattle.rv32im_machine.specs.Language.{walked}
use Rattle.rv32im_machine.proofs.loads_stores.store_by.Goals as goal

pub returns-in-Err-clause-plays : goal.returns-in-Err-clause-plays
unfolding walked
returns-in-Err-clause-plays g c =
    c.in_ok-first.ensures.goes _ _ (c.in_ok-word.ensures.goes _ _ (c.in-Err.ensures.goes _))

pub returns-in-Ok-clause-plays : goal.returns-in-Ok-clause-plays
unfolding walked
returns-in-Ok-clause-plays g c =
    c.in_ok-first.ensures.goes _ _ (c.in_ok-word.ensures.goes _ _ (c.in-Ok.ensures.goes _ _
    (c.checked_store.ensures.plays (record { first = c.in_ok-first.first; second = c.in_ok-word.word }) refl)))
