-- The law that a covered run is accepted: within as many turns as it has, and so within more.
use Rattle.std.proofs.Common.{◌≡◌, suc, [], length, refl, sym, ap, subst, ◌∙◌, arith}
use Rattle.crossing_bits.specs.Askers.{feed, Fed'}
use Rattle.cut_file.specs.Masks.{MaskAt}
use Rattle.rv32im_machine.specs.Start.{zeros}
use Rattle.rv32im_machine.specs.State.{State}
use Rattle.region_machine.specs.Enclosures.{Enclosures}
use Rattle.region_machine.specs.Runs.{common_turns}
use Rattle.region_machine.specs.Starts.{guest}
use Rattle.replay_machine.specs.Runs.{replay_fresh, Replay}
use Rattle.lockstep_replay.specs.Acceptance.{HasExited}
use Rattle.lockstep_replay.specs.Crossing.{cross_after}
use Rattle.lockstep_replay.specs.Tasks.{task_of, replay_start}
use Rattle.lockstep_replay.proofs.Bounds.{accepted_where, greater_limits_law}
use Rattle.lockstep_replay.proofs.RunsGrow.{cross_grows}
use Rattle.run_labels.specs.Runs.{run_after, unlabelled}
use Rattle.acceptance_law.specs.Laws.{CoveredLaw}
use Rattle.acceptance_law.proofs.CoveredRunAccepted.{zero_bytes, length_zeros, follows_at, exits_alike}
use Rattle.acceptance_law.proofs.GraphEvents.{named_closed}
use Rattle.acceptance_law.proofs.GraphTurns.{run_named}
use Rattle.acceptance_law.proofs.ProperRows.{proper_law}
use Rattle.acceptance_law.proofs.ProperRuns.{proper_events_law}
use Rattle.acceptance_law.proofs.RunFacts.{Premises, run_facts}
use Rattle.acceptance_law.proofs.StepsKeepStanding.{state_of}
use Rattle.acceptance_law.proofs.TurnKinds.{skips_relays}

pub covered_law : CoveredLaw
covered_law program public_input regions secret cut side answers budget turns output rules measured shorter same covers
    within =
    let place = guest program public_input secret in
    let setting = place.state.setting in
    let first = place.state.control in
    let store = place.state.store in
    let other = zeros cut.secret_len in
    let masks = MaskAt cut.points in
    let task = task_of program public_input regions cut in
    let both : Enclosures = record { regions = regions; skip = cut.skip } in
    let events = (run_after regions answers (unlabelled place)).events in
    let orderly = proper_events_law regions answers place rules measured.guest measured.sound in
    let known : Premises side cut.skip regions masks setting secret first store answers = record {
      sound = measured.sound;
      unrefused = measured.unrefused;
      closed = named_closed side [] events (run_named regions answers place orderly).0 covers.closed;
      contained = covers.contains;
    } in
    let facts = run_facts side cut.skip regions masks setting secret first store answers known in
    let nowhere = covers.outside in
    let skips = skips_relays side cut.skip regions covers.skips in
    let long : length secret ≡ length other = same ∙ sym (length_zeros cut.secret_len) in
    let starts : replay_fresh (state_of setting other first store) ≡ replay_start task =
    ap (λ n. replay_fresh (state_of (record setting { secret_length = n }) other first store)) long in
    let fewer = cross_grows both masks place (length answers) turns shorter in
    greater_limits_law task (record { budget = budget; turns = length answers })
    (record { budget = budget; turns = turns }) secret output (omega arith) shorter
    (accepted_where task (record { budget = budget; turns = length answers }) secret output same
    (facts.same_broken ∙ facts.unbroken)
    (subst (λ (s : State). HasExited s output) (sym facts.same_state) measured.exits) (omega (arith, fewer, within))
    (λ turn below exposed.
    let at = follows_at side cut.skip regions masks setting secret other first store measured.guest.secret
    (zero_bytes cut.secret_len) skips proper_law rules nowhere measured.guest refl answers known turn below
    exposed in record {
      place = at.0;
      uses = subst (λ z. feed (Replay both masks (common_turns both (suc turn) place) z)
          (cross_after both masks (suc turn) place) ≡ Fed' at.0 []) starts at.1;
      inside = at.2;
      mark = at.3;
    })
    (λ last.
    exits_alike side cut.skip regions masks setting secret other first store measured.guest.secret
    (zero_bytes cut.secret_len) skips proper_law rules nowhere measured.guest refl answers output last.place
    known measured.exits
    (subst (λ z. feed (Replay both masks (common_turns both (length answers) place) z)
    (cross_after both masks (length answers) place) ≡ Fed' last.place []) (sym starts) last.uses)))
