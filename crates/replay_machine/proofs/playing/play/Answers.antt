use Rattle.std.proofs.Common.{[], refl, sym}
use Rattle.crossing_bits.specs.Strings.{left_of}
use Rattle.cut_file.specs.Masks.{MaskAt}
use Rattle.replay_machine.specs.ReplayTurns.{replay_kind_walk}
use Rattle.region_machine.specs.Within.{seen}
use Rattle.region_machine.specs.Enclosures.{Enclosures}
use Rattle.replay_machine.proofs.MasksAhead.{ahead_self}
use Rattle.replay_machine.proofs.Passings.{comes_so}
use Rattle.region_machine.proofs.RangesStayInside.{CanGoOn}
use Rattle.replay_machine.proofs.ReplayEnds.{replay_kind_keeps}
use Rattle.replay_machine.proofs.playing.play.Goals as goal

pub returns-in-None-clause-leave : goal.returns-in-None-clause-leave
returns-in-None-clause-leave c = λ none.
    let enclosures : Enclosures = record { regions = c.args.marked.now.regions.items; skip = c.args.skip.now } in
    let kind = seen c.next_turn-turn.result in
    comes_so (CanGoOn c.args.marked.now.regions.items) (MaskAt c.args.side.now.masks) []
    (replay_kind_walk enclosures kind c.args.machine.now)
    (left_of c.args.bits.now) c.args.bits.now _ c.play_turn.new.machine _
    (replay_kind_keeps enclosures kind c.args.machine.now c.args.marked.now.regions.keeps_rules c.requires.leave
    (sym c.next_turn-turn.ensures.kind) (c.in-None.ensures.inside refl))
    refl
    (c.play_turn.ensures.comes c.args.marked.now.regions.items (MaskAt c.args.side.now.masks) [] (ahead_self c.args.side.now.masks))
    none
