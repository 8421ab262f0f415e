use Rattle.std.proofs.Common.{◌∙◌, sym, ap, arith}
use Rattle.cut_file.specs.Masks.{MaskAt}
use Rattle.crossing_bits.specs.Strings.{left_of}
use Rattle.replay_machine.specs.Runs.{replay_turn}
use Rattle.lockstep_replay.specs.Private.Standings.{why_answered}
use Rattle.lockstep_replay.specs.Private.Turning.{fed_turn}
use Rattle.lockstep_replay.proofs.AnswersTellReasons.{self_place, beside_why, joins_of, in_step_of, missing_none}
use Rattle.lockstep_replay.proofs.AnswersTellReasons.{runs_of, stands_self, begins_alike, begins_short, taken_of}
use Rattle.rv32im_machine.specs.declared.stepping.Stepped.TheVariants.{Ran}
use Rattle.lockstep_replay.proofs.replay_turns.keeps_up.Goals as goal

pub returns-clause-why : goal.returns-clause-why
returns-clause-why c = λ masks place stands.
    ap (λ answer. why_answered c.args.real.now c.args.needed c.turn-turned.new.self answer)
    (sym c.turn-turned.ensures.answer)
    ∙ beside_why c.args.real.now c.args.needed masks (replay_turn c.args.replay.now.enclosures masks place)
    c.args.replay.now c.args.bits.now c.turn-turned.new.self c.turn-turned.new.bits c.turn-turned.result
    c.ranges.needed.fits c.requires.used c.turn-turned.ensures.taken (c.turn-turned.ensures.turn masks place stands)

pub returns-clause-joins : goal.returns-clause-joins
returns-clause-joins c = λ masks place stands none.
    let runs = runs_of c.args.real.now c.args.needed c.turn-turned.new.self c.turn-turned.result
    (ap (λ answer. why_answered c.args.real.now c.args.needed c.turn-turned.new.self answer)
    c.turn-turned.ensures.answer ∙ none) in
    joins_of c.args.real.now c.args.needed masks c.turn-turned.new.self c.turn-turned.new.bits
    c.turn-turned.result (fed_turn c.args.replay.now.enclosures masks place (left_of c.args.bits.now))
    (c.turn-turned.ensures.turn masks place stands)
    (taken_of masks (replay_turn c.args.replay.now.enclosures masks place) c.args.replay.now c.args.bits.now
    c.turn-turned.new.self c.turn-turned.new.bits
    runs.0 c.turn-turned.result c.args.needed c.ranges.needed.fits c.requires.used c.turn-turned.ensures.taken
    (c.turn-turned.ensures.turn masks place stands) runs.1.0)
    (sym (returns-clause-why c masks place stands) ∙ none)

pub returns-clause-agrees : goal.returns-clause-agrees
returns-clause-agrees c = λ none.
    let stands = stands_self c.args.replay.now c.requires.wanted in
    let masks = MaskAt c.args.replay.now.ahead in
    let place = self_place c.args.replay.now in
    let runs = runs_of c.args.real.now c.args.needed c.turn-turned.new.self c.turn-turned.result
    (ap (λ answer. why_answered c.args.real.now c.args.needed c.turn-turned.new.self answer)
    c.turn-turned.ensures.answer ∙ none) in
    in_step_of c.args.real.now c.args.needed c.turn-turned.new.self c.turn-turned.new.bits runs.0
    (missing_none c.turn-turned.new.self.missing c.turn-turned.new.self.outside
    c.turn-turned.new.self.state.control.mode runs.0 c.turn-turned.result
    c.turn-turned.ensures.answer runs.1.0)
    (taken_of masks (replay_turn c.args.replay.now.enclosures masks place) c.args.replay.now c.args.bits.now
    c.turn-turned.new.self c.turn-turned.new.bits
    runs.0 c.turn-turned.result c.args.needed c.ranges.needed.fits c.requires.used c.turn-turned.ensures.taken
    (c.turn-turned.ensures.turn masks place stands) runs.1.0)
    (omega (arith, c.left.ensures.within)) runs.1.1

pub returns-clause-fine : goal.returns-clause-fine
returns-clause-fine c = λ fine.
    ap (λ answer. why_answered c.args.real.now c.args.needed c.turn-turned.new.self answer)
    (sym c.turn-turned.ensures.answer)
    ∙ c.is_fine.ensures fine

pub is_fine-requires-clause-replay : goal.is_fine-requires-clause-replay
is_fine-requires-clause-replay c = λ ran.
    rw c.output-from.ensures (begins_short c.args.replay.now.state.control.output
    c.turn-turned.new.self.state.control.output
    (c.turn-turned.ensures.output (missing_none c.turn-turned.new.self.missing c.turn-turned.new.self.outside
    c.turn-turned.new.self.state.control.mode Ran c.turn-turned.result c.turn-turned.ensures.answer ran)))

pub is_fine-requires-clause-same : goal.is_fine-requires-clause-same
is_fine-requires-clause-same c = λ ran.
    rw c.output-from.ensures (begins_alike c.args.replay.now.state.control.output c.args.real.now.control.output
    c.turn-turned.new.self.state.control.output c.requires.begins
    (c.turn-turned.ensures.output (missing_none c.turn-turned.new.self.missing c.turn-turned.new.self.outside
    c.turn-turned.new.self.state.control.mode Ran c.turn-turned.result c.turn-turned.ensures.answer ran)))
