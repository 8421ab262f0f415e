use Rattle.std.proofs.Common.{ap, ◌∙◌, ◌++◌, ◌-◌, take, replicate, vec_len}
use Rattle.measuring.proofs.counter_rows.Row.new.Goals as goal

pub returns-in-Ok : goal.returns-in-Ok
returns-in-Ok c =
    c.in-Ok.ensures.items
    ∙ (ap (λ items. take 1024 items ++ replicate (1024 - vec_len c.new-counts.result) 0) c.new-counts.ensures.items
    ∙ ap (λ n. replicate (1024 - n) 0) c.new-counts.ensures.len)
