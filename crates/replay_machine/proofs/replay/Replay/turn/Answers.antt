use Rattle.std.proofs.Common.{◌∙◌, [], refl, sym, ap, inl, inr}
use Rattle.cut_file.specs.Masks.{MaskAt}
use Rattle.crossing_bits.specs.Strings.{Stream}
use Rattle.rv32im_machine.specs.declared.stepping.Stepped.{Stepped}
use Rattle.rv32im_machine.specs.State.{State}
use Rattle.region_machine.specs.Enclosures.{kind_of}
use Rattle.replay_machine.specs.ReplayTurns.{replay_walk}
use Rattle.replay_machine.specs.Standing.{Standing}
use Rattle.region_machine.proofs.OutputGrows.{EndsLonger, longer_self}
use Rattle.replay_machine.proofs.ReplayEnds.{replay_kind_extends}
use Rattle.replay_machine.proofs.MasksAhead.{ahead_self}
use Rattle.replay_machine.proofs.Passings.{comes_bits, comes_room, comes_so}
use Rattle.replay_machine.proofs.Stillness.{ended_turn, none_or}
use Rattle.replay_machine.proofs.replay.Replay.turn.Goals as goal

pub returns-in-Ran-clause-bits : goal.returns-in-Ran-clause-bits
returns-in-Ran-clause-bits c = elim (none_or c.run_turn.new.self.outside) [
  | inl none ↦
      comes_bits _ c.args.bits.now _ _ _ (c.run_turn.ensures.turn none (MaskAt c.args.self.now.ahead) []
      (ahead_self c.args.self.now.ahead))
  | inr some ↦ ap (λ (s : Stream). s.bits) (c.run_turn.ensures.still some).3
]

pub returns-in-Ran-clause-room : goal.returns-in-Ran-clause-room
returns-in-Ran-clause-room c = elim (none_or c.run_turn.new.self.outside) [
  | inl none ↦
      comes_room _ c.args.bits.now _ _ _ (c.run_turn.ensures.turn none (MaskAt c.args.self.now.ahead) []
      (ahead_self c.args.self.now.ahead))
  | inr some ↦ ap (λ (s : Stream). s.room) (c.run_turn.ensures.still some).3
]

pub returns-in-Ran-clause-output : goal.returns-in-Ran-clause-output
returns-in-Ran-clause-output c = λ enough. elim (none_or c.run_turn.new.self.outside) [
  | inl none ↦
      comes_so (EndsLonger c.args.self.now.state.control.output) (MaskAt c.args.self.now.ahead) []
      (replay_walk c.args.self.now.enclosures c.args.self.now.state) _ c.args.bits.now _ _ _
      (replay_kind_extends c.args.self.now.enclosures
      (kind_of c.args.self.now.enclosures.regions c.args.self.now.state.control) c.args.self.now.state) refl
      (c.run_turn.ensures.turn none (MaskAt c.args.self.now.ahead) [] (ahead_self c.args.self.now.ahead)) enough
  | inr some ↦
      let same = longer_self c.args.self.now.state.control.output in
      (same.0, ap (λ (s : State). s.control.output) (c.run_turn.ensures.still some).0 ∙ same.1)
]

pub returns-in-Exited-clause-turn : goal.returns-in-Exited-clause-turn
returns-in-Exited-clause-turn c = λ masks place stands.
    ended_turn c.args.self.now.enclosures masks place c.args.self.now c.args.bits.now
    (Stepped.Exited c.in-Exited.status) _ stands (sym (ap (λ (s : Standing). s.outside) c.self.view_is) ∙ c.in-None.is)
    (sym c.in-Exited.is ∙ c.mode.ensures ∙ ap (λ (s : Standing). s.state.control.mode) c.self.view_is) tt refl

pub returns-in-Stopped-clause-turn : goal.returns-in-Stopped-clause-turn
returns-in-Stopped-clause-turn c = λ masks place stands.
    ended_turn c.args.self.now.enclosures masks place c.args.self.now c.args.bits.now
    (Stepped.Stopped c.in-Stopped.fault) _ stands (sym (ap (λ (s : Standing). s.outside) c.self.view_is) ∙ c.in-None.is)
    (sym c.in-Stopped.is ∙ c.mode.ensures ∙ ap (λ (s : Standing). s.state.control.mode) c.self.view_is) tt refl
