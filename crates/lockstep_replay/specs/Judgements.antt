-- The judgement that a verdict shows.
use Rattle.lockstep_replay.specs.declared.verdicts.Verdict.{Verdict}
use Rattle.lockstep_replay.specs.declared.verdicts.Verdict.TheVariants.{Accepted, Rejected}
use Rattle.lockstep_replay.specs.Verdicts.{Judgement, Accepts, Rejects}

abbrev pub judgement_of : Verdict → Judgement
judgement_of (Accepted bits output) = Accepts bits.bits output
judgement_of (Rejected why) = Rejects why
