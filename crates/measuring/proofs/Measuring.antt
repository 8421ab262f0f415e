-- A run that has ended, and what is measured of it.
use Rattle.std.proofs.Common.{◌≡◌, ℕ, ◌≤◌, List, sym, ap, ◌∙◌, arith}
use Rattle.enclosure_regions.specs.declared.region_parts.Region.{Region}
use Rattle.rv32im_machine.specs.declared.stepping.Stepped.TheVariants.{Exited}
use Rattle.run_labels.specs.Runs.{LabelledRun}
use Rattle.run_labels.specs.declared.faults.MeasureFault.{MeasureFault}
use Rattle.run_labels.specs.declared.faults.MeasureFault.TheVariants.{TurnLimit, Guest, Region as RegionFault}
use Rattle.run_labels.specs.declared.faults.MeasureFault.TheVariants.{SecretCode, BaseSecret, GraphLimit, Memory}
use Rattle.measuring.specs.declared.following.Exit.{Exit}
use Rattle.measuring.specs.declared.measured.Measured.{Measured}
use Rattle.measuring.specs.declared.following.RunEnd.TheVariants.{Refused}
use Rattle.measuring.specs.Following.{EndsAs, HasEnded}
use Rattle.measuring.specs.Measures.{HasCause, Measures}
use Rattle.measuring.specs.Private.Weighing.{IsUnweighed, Weighs}

pub measures : (table : ℕ) (regions : List Region) (start : LabelledRun) (secret_len limit : ℕ) (exit : Exit)
    (measured : Measured) → HasEnded table regions start limit exit → Weighs exit secret_len measured →
    Measures table regions start secret_len limit measured
measures table regions start secret_len limit exit measured ended weighs = record {
  exits = record {
    earlier = ended.exits.earlier;
    last = ended.exits.last;
    is_run = record {
      sound = ended.exits.is_run.sound;
      by_table = ended.exits.is_run.by_table;
      unrefused = ended.exits.is_run.unrefused;
      counted = ended.exits.is_run.counted ∙ sym weighs.turns;
    };
    within =
        let within : exit.turns ≤ limit = ended.exits.within in
        let turns : measured.turns ≡ exit.turns = weighs.turns in omega (arith, within, turns);
    running = ended.exits.running;
    exited = ended.exits.exited ∙ ap (λ output. Exited output.status) (sym weighs.output);
    written = ended.exits.written ∙ ap (λ output. output.bytes) (sym weighs.output);
  };
  measure = weighs.measure _ ended.records;
}

pub exit_cause : (table : ℕ) (regions : List Region) (start : LabelledRun) (limit : ℕ) (exit : Exit)
    (fault : MeasureFault) → HasEnded table regions start limit exit →
    IsUnweighed exit.recording.collapse.is_full fault → HasCause table regions start limit fault
exit_cause table regions start limit exit GraphLimit ended full = record {
  turns = exit.turns;
  output = exit.output;
  exits = ended.exits;
  exceeds = ended.records.exceeds full;
}
exit_cause table regions start limit exit Memory ended full = tt
exit_cause table regions start limit exit (TurnLimit turns) ended none = absurd none
exit_cause table regions start limit exit (Guest fault) ended none = absurd none
exit_cause table regions start limit exit (RegionFault broken) ended none = absurd none
exit_cause table regions start limit exit (SecretCode pc) ended none = absurd none
exit_cause table regions start limit exit (BaseSecret region register) ended none = absurd none

pub run_cause : (table : ℕ) (regions : List Region) (start : LabelledRun) (limit : ℕ) (fault : MeasureFault) →
    EndsAs table regions start limit (Refused fault) → HasCause table regions start limit fault
run_cause table regions start limit fault ends = ends.1
