-- At the end of a turn nothing more is asked for.
use Rattle.std.specs.Prelude.{◌≡◌, ℕ, List, Option, Some, None, refl}
use Rattle.std.proofs.Common.{arith, sym, append-nil}
use Rattle.flow_base.specs.declared.points.Point.{Point}
use Rattle.rv32im_machine.specs.Language.{Ended}
use Rattle.rv32im_machine.specs.Playing.{Finished}
use Rattle.rv32im_machine.specs.State.{State}
use Rattle.crossing_bits.specs.Strings.{Stream}
use Rattle.replay_machine.specs.Visits.{IsAhead}
use Rattle.run_labels.specs.TurnLabels.{TurnLabels}
use Rattle.tracked_run.specs.Labels.{map_of}
use Rattle.masked_turns.specs.Clearing.{Cutting}
use Rattle.every_secret.specs.declared.whys.UnclearWhy.{UnclearWhy}
use Rattle.every_secret.specs.Masked.{Goes, masked, place_of}
use Rattle.every_secret.specs.Rules.{Rules}
use Rattle.every_secret.specs.Private.Tapes.{Tape, Lengthens, PlaysMasked, TellsWalk, EndsAt, knowledge_of}

pub lengthens_none : (stream : Stream) → Lengthens stream stream
lengthens_none stream = record {
  count = 0;
  bits = sym (append-nil stream.bits);
  taken = omega arith;
  within = λ h. h;
  whole = λ none. absurd (omega (arith, none));
}

pub masks_Ended : (cutting : Cutting) (region : ℕ) (past : List Point) (labels : TurnLabels) (tape : Tape)
    (state : State) → map_of tape.shades ≡ labels.map → IsAhead tape.ahead cutting.masks past →
    PlaysMasked cutting region (knowledge_of past labels tape) tape (Ended state) (Finished state tape)
unfolding EndsAt
masks_Ended cutting region past labels tape state same ahead = record {
  ends = refl;
  ruling = refl;
  longer = lengthens_none tape.stream;
  tells = λ rules answers. told rules tape.unclear refl;
}
  where
    told : (rules : Rules) (unclear : Option UnclearWhy) → tape.unclear ≡ unclear →
        TellsWalk unclear cutting.masks (masked rules cutting region (knowledge_of past labels tape) (Ended state)) tape
        state tape
    told rules None e = record {
      reached = Goes (place_of state (knowledge_of past labels tape));
      feeds = unfold masked in refl;
      held = record {
        state_is = refl;
        labels = same;
        ahead = ahead;
        crossed = refl;
        byte_masks = refl;
        status_mask = refl;
        clear = e;
      };
    }
    told rules (Some why) e = record { unclear = e; stream = refl }
