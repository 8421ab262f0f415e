-- Why a secret is rejected, and why a replay stops, as it is told. Numbers are decimal.
use Rattle.std.specs.Prelude.{ℕ, List, ◌++◌, codes}
use Rattle.std.specs.Fmt.{decimal}
use Rattle.enclosure_regions.specs.Texts.{break_text, range_text}
use Rattle.rv32im_machine.specs.Stepping.{stop_text}
use Rattle.replay_machine.specs.Marks.{mark_text}
use Rattle.lockstep_replay.specs.declared.verdicts.ReplayStop.{ReplayStop}
use Rattle.lockstep_replay.specs.declared.verdicts.ReplayStop.TheVariants.{Guest, RangeOutside, Short}
use Rattle.lockstep_replay.specs.declared.verdicts.Why.{Why}
use Rattle.lockstep_replay.specs.declared.verdicts.Why.TheVariants.{RealFault, RegionBreak, BudgetOverrun, ReplayFault}
use Rattle.lockstep_replay.specs.declared.verdicts.Why.TheVariants.{Parted, OutputDiffers, TurnLimit, SecretLength}

-- why a replay stops
abbrev pub replay_stop_text : ReplayStop → List ℕ
replay_stop_text (Guest fault) = codes "guest " ++ stop_text fault
replay_stop_text (RangeOutside region range) = range_text region range
replay_stop_text (Short missing) = codes "short " ++ decimal missing

-- why a secret is rejected
abbrev pub why_text : Why → List ℕ
why_text (RealFault fault) = codes "guest " ++ stop_text fault
why_text (RegionBreak broken) = break_text broken
why_text (BudgetOverrun budget needed) = codes "budget " ++ (decimal budget ++ (codes " needed " ++ decimal needed))
why_text (ReplayFault stop) = codes "replay " ++ replay_stop_text stop
why_text (Parted real replay) = codes "parted real " ++ (mark_text real ++ (codes " replay " ++ mark_text replay))
why_text (OutputDiffers index real replay) =
    codes "output index " ++ (decimal index ++ (codes " real " ++ (decimal real
    ++ (codes " replay " ++ decimal replay))))
why_text (TurnLimit limit) = codes "turns " ++ decimal limit
why_text (SecretLength cut got) = codes "secret-length cut " ++ (decimal cut ++ (codes " got " ++ decimal got))
