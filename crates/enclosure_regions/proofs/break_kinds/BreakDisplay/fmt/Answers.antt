use Rattle.std.proofs.Common.{sym, subst}
use Rattle.std.specs.Fmt.{HasWritten}
use Rattle.enclosure_regions.specs.Texts.{break_text}
use Rattle.enclosure_regions.proofs.break_kinds.BreakDisplay.fmt.Goals as goal

pub returns-in-KeepBroken-clause-writes : goal.returns-in-KeepBroken-clause-writes
returns-in-KeepBroken-clause-writes g c plain ok =
    subst (λ broken. HasWritten g.W.Write.write_str_gives c.args.f.now (break_text broken) c.write-in-KeepBroken.new.self)
    (sym c.in-KeepBroken.is) (c.write-in-KeepBroken.ensures.writes plain ok)
