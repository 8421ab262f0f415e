-- A turn of the replay beside a real run: what it answers tells the reason why the replay fails, or that none does.
use Rattle.std.proofs.Common.{◌≡◌, ℕ, zero, suc, ◌+◌, ◌-◌, ◌≤◌, ◌<◌, List, [], length, length-drop, length-append, ap}
use Rattle.std.proofs.Common.{sym, refl, ◌∙◌}
use Rattle.std.proofs.Common.{Bool, true, arith, Option, Some, None}
use Rattle.std.proofs.Common.{take, ◌++◌}
use Rattle.std.proofs.Math.Seq.{take-append_seam}
use Rattle.std.proofs.lemmas.List.{nil_from_length}
use Rattle.crossing_bits.specs.Askers.{Asker, Fed, Fed', Short, feed}
use Rattle.crossing_bits.specs.Strings.{Stream, left_of}
use Rattle.rv32im_machine.specs.declared.stepping.Fault.{Fault}
use Rattle.rv32im_machine.specs.declared.stepping.Stepped.{Stepped}
use Rattle.rv32im_machine.specs.declared.stepping.Stepped.TheVariants.{Ran, Exited, Stopped}
use Rattle.rv32im_machine.specs.State.{State}
use Rattle.replay_machine.specs.declared.marks.Mark.{Mark}
use Rattle.replay_machine.specs.declared.turns.ReplayTurn.{ReplayTurn}
use Rattle.replay_machine.specs.declared.turns.ReplayTurn.TheVariants.{Wants, Stopped as DidStop}
use Rattle.replay_machine.specs.declared.turns.ReplayTurn.TheVariants.{Ran as DidRun, Exited as DidExit}
use Rattle.replay_machine.specs.declared.turns.ReplayTurn.TheVariants.{RangeOutside as DidRange}
use Rattle.lockstep_replay.specs.Marks.{mark_of, is_same_mark}
use Rattle.replay_machine.specs.Standing.{Standing, Stands, Turned, mode_answer, end_answer, turn_answer, taken_after}
use Rattle.cut_file.specs.Masks.{MaskAt}
use Rattle.replay_machine.specs.ReplayTurns.{Outside}
use Rattle.replay_machine.specs.Runs.{ReplayPlace, Masks}
use Rattle.lockstep_replay.specs.declared.differences.Difference.{Difference}
use Rattle.lockstep_replay.specs.declared.verdicts.ReplayStop.TheVariants.{Guest, RangeOutside, Short as TooShort}
use Rattle.lockstep_replay.specs.declared.verdicts.Why.TheVariants.{ReplayFault}
use Rattle.lockstep_replay.specs.Differences.{byte_difference, status_difference, difference_of}
use Rattle.lockstep_replay.specs.Private.Standings.{why_answered}
use Rattle.lockstep_replay.specs.Private.Turning.{why_compared, Joins, InStep}
use Rattle.lockstep_replay.specs.Verdicts.{why_output, why_marks, why_stopped, why_copy, why_replay}
use Rattle.lockstep_replay.proofs.Conditions.{NotStopped, SameMarks, marks_same, first_none, none_output, none_marks}
use Rattle.lockstep_replay.proofs.Conditions.{none_copy, no_byte, feed_rest}
use Rattle.replay_machine.proofs.MasksAhead.{ahead_self}
use Rattle.std.specs.Option.{option_or}

one_turn : (first second : Stepped) → mode_answer first ≡ mode_answer second → first ≡ second
one_turn Ran Ran e = refl
one_turn Ran (Exited status) e = absurd (cc)
one_turn Ran (Stopped fault) e = absurd (cc)
one_turn (Exited status) Ran e = absurd (cc)
one_turn (Exited status) (Exited other) e = cc
one_turn (Exited status) (Stopped fault) e = absurd (cc)
one_turn (Stopped fault) Ran e = absurd (cc)
one_turn (Stopped fault) (Exited status) e = absurd (cc)
one_turn (Stopped fault) (Stopped other) e = cc

wants_none : (mode : Stepped) (missing : ℕ) → Wants missing ≡ mode_answer mode → ⊥
wants_none Ran missing e = cc
wants_none (Exited status) missing e = cc
wants_none (Stopped fault) missing e = cc

range_none : (region range : ℕ) (mode : Stepped) → DidRange region range ≡ mode_answer mode → ⊥
range_none region range Ran e = cc
range_none region range (Exited status) e = cc
range_none region range (Stopped fault) e = cc

wants_end : (outside : Option Outside) (mode : Stepped) (missing : ℕ) → Wants missing ≡ end_answer outside mode → ⊥
wants_end None mode missing e = wants_none mode missing e
wants_end (Some outside) mode missing e = cc

-- an answer that names how the machine stands is one of a turn that no range has ended
ends_of : (outside : Option Outside) (mode other : Stepped) → end_answer outside mode ≡ mode_answer other →
    (outside ≡ None) × (mode ≡ other)
ends_of None mode other e = (refl, one_turn mode other e)
ends_of (Some outside) mode other e = absurd (range_none outside.region outside.range other e)

range_of : (outside : Option Outside) (mode : Stepped) (region range : ℕ) →
    end_answer outside mode ≡ DidRange region range → outside ≡ Some (record { region = region; range = range })
range_of None mode region range e = absurd (range_none region range mode (sym e))
range_of (Some outside) mode region range e =
    let first : outside.region ≡ region = cc in
    let second : outside.range ≡ range = cc in
    ap (λ r. Some (record { region = r; range = outside.range })) first
    ∙ ap (λ r. Some (record { region = region; range = r })) second

-- a turn that does not want bits is one that misses none
pub missing_none : (missing : ℕ) (outside : Option Outside) (mode other : Stepped) (answer : ReplayTurn) →
    answer ≡ turn_answer missing outside mode → answer ≡ mode_answer other → missing ≡ 0
missing_none zero outside mode other answer e is = refl
missing_none (suc missing) outside mode other answer e is = absurd (wants_none other (suc missing) (sym e ∙ is))

-- the place of a run at which a replay stands
abbrev pub self_place : Standing → ReplayPlace
self_place standing = record { state = standing.state; past = []; outside = standing.outside }

-- the masks that are ahead are ones under which it stands
pub stands_self : (standing : Standing) → standing.missing ≡ 0 →
    Stands standing (MaskAt standing.ahead) (self_place standing)
stands_self standing none =
    record { state = refl; outside = refl; ahead = ahead_self standing.ahead; missing = none }

-- no more bits are left than were
fewer : (masks : Masks) (asker : Asker ReplayPlace) (left : List Bool) (after : Standing) (stream : Stream)
    (mode : Stepped)
    (answer : ReplayTurn) (fed : Fed ReplayPlace) → feed asker left ≡ fed → Turned masks fed after stream answer →
    answer ≡ mode_answer mode → length (left_of stream) ≤ length left
fewer masks asker left after stream mode answer (Short missing) e h is = absurd
    (wants_none mode missing (sym h.answers ∙ is))
fewer masks asker left after stream mode answer (Fed' place rest) e h is =
    omega (arith, ap length h.left, feed_rest asker left place rest e)

pub taken_of : (masks : Masks) (asker : Asker ReplayPlace) (before : Standing) (old : Stream) (after : Standing)
    (stream : Stream)
    (mode : Stepped) (answer : ReplayTurn) (needed : ℕ) → needed < 4294967296 →
    before.taken + length (left_of old) ≡ needed → after.taken ≡ taken_after before.taken old stream →
    Turned masks (feed asker (left_of old)) after stream answer → answer ≡ mode_answer mode →
    after.taken + length (left_of stream) ≡ needed
taken_of masks asker before old after stream mode answer needed small used taken h is =
    omega (arith, used, taken, fewer masks asker (left_of old) after stream mode answer _ refl h is)

copy_running : (mode : Stepped) (real copy : Mark) (difference : Option Difference) → NotStopped mode →
    why_stopped mode real copy difference ≡ why_marks real copy difference
copy_running Ran real copy difference running = refl
copy_running (Exited status) real copy difference running = refl
copy_running (Stopped fault) real copy difference running = absurd (running fault refl)

-- the replay is not stopped, and has enough bits
pub beside_runs :
    (real : State) (needed : ℕ) (masks : Masks) (after : Standing) (stream : Stream) (mode : Stepped)
    (answer : ReplayTurn) (fed : Fed ReplayPlace) → Turned masks fed after stream answer → answer ≡ mode_answer mode →
    NotStopped mode → after.taken + length (left_of stream) ≡ needed →
    why_compared real needed after mode ≡ why_replay real needed fed
beside_runs real needed masks after stream mode answer (Short missing) h is running used =
    absurd (wants_none mode missing (sym h.answers ∙ is))
beside_runs real needed masks after stream mode answer (Fed' place rest) h is running used =
    let told : (place.outside ≡ None) × (place.state.control.mode ≡ mode) =
    ends_of place.outside place.state.control.mode mode (sym h.answers ∙ is) in
    let ends : place.state.control.mode ≡ mode = told.1 in
    let state : place.state ≡ after.state = h.stands.state in
    let count : needed - length rest ≡ after.taken = omega (arith, used, ap length h.left) in
    let marks : mark_of place.state (needed - length rest) ≡ mark_of after.state after.taken =
    ap (λ s. mark_of s (needed - length rest)) state ∙ ap (λ n. mark_of after.state n) count in
    let bytes : byte_difference 0 real.control.output place.state.control.output
    ≡ byte_difference 0 real.control.output after.state.control.output =
    ap (λ (s : State). byte_difference 0 real.control.output s.control.output) state in
    let difference : difference_of real place.state
    ≡ option_or (byte_difference 0 real.control.output after.state.control.output)
    (status_difference (length real.control.output) real.control.mode mode) =
    ap (λ first. option_or first (status_difference (length real.control.output) real.control.mode
    place.state.control.mode)) bytes
    ∙ ap (λ m. option_or (byte_difference 0 real.control.output after.state.control.output)
    (status_difference (length real.control.output) real.control.mode m)) ends in
    let goes : NotStopped place.state.control.mode = λ fault stopped. running fault (sym ends ∙ stopped) in
    sym (ap (λ o. why_copy o place.state.control.mode (mark_of real needed) (mark_of place.state (needed - length rest))
    (difference_of real place.state)) told.0
    ∙ copy_running place.state.control.mode (mark_of real needed) (mark_of place.state (needed - length rest))
    (difference_of real place.state) goes
    ∙ (ap (λ m. why_marks (mark_of real needed) m (difference_of real place.state)) marks
    ∙ ap (λ d. why_marks (mark_of real needed) (mark_of after.state after.taken) d) difference))

-- too few bits are left
pub beside_wants :
    (real : State) (needed : ℕ) (masks : Masks) (after : Standing) (stream : Stream) (missing : ℕ)
    (answer : ReplayTurn) (fed : Fed ReplayPlace) → Turned masks fed after stream answer → answer ≡ Wants missing →
    Some (ReplayFault (TooShort missing)) ≡ why_replay real needed fed
beside_wants real needed masks after stream missing answer (Short more) h is =
    let same : Wants more ≡ Wants missing = sym h.answers ∙ is in
    let count : missing ≡ more = cc in ap (λ n. Some (ReplayFault (TooShort n))) count
beside_wants real needed masks after stream missing answer (Fed' place rest) h is =
    absurd (wants_end place.outside place.state.control.mode missing (sym is ∙ h.answers))

-- the replay is stopped
pub beside_stops :
    (real : State) (needed : ℕ) (masks : Masks) (after : Standing) (stream : Stream) (fault : Fault)
    (answer : ReplayTurn) (fed : Fed ReplayPlace) → Turned masks fed after stream answer → answer ≡ DidStop fault →
    Some (ReplayFault (Guest fault)) ≡ why_replay real needed fed
beside_stops real needed masks after stream fault answer (Short missing) h is =
    absurd (wants_none (Stopped fault) missing (sym h.answers ∙ is))
beside_stops real needed masks after stream fault answer (Fed' place rest) h is =
    let told : (place.outside ≡ None) × (place.state.control.mode ≡ Stopped fault) =
    ends_of place.outside place.state.control.mode (Stopped fault) (sym h.answers ∙ is) in
    sym (ap (λ o. why_copy o place.state.control.mode (mark_of real needed) (mark_of place.state (needed - length rest))
    (difference_of real place.state)) told.0
    ∙ ap (λ mode. why_stopped mode (mark_of real needed) (mark_of place.state (needed - length rest))
    (difference_of real place.state)) told.1)

-- a range is outside of guest memory
pub beside_outside :
    (real : State) (needed : ℕ) (masks : Masks) (after : Standing) (stream : Stream) (region range : ℕ)
    (answer : ReplayTurn) (fed : Fed ReplayPlace) → Turned masks fed after stream answer →
    answer ≡ DidRange region range →
    Some (ReplayFault (RangeOutside region range)) ≡ why_replay real needed fed
beside_outside real needed masks after stream region range answer (Short missing) h is =
    let never : Wants missing ≡ DidRange region range = sym h.answers ∙ is in absurd (cc)
beside_outside real needed masks after stream region range answer (Fed' place rest) h is =
    sym (ap (λ o. why_copy o place.state.control.mode (mark_of real needed) (mark_of place.state (needed - length rest))
    (difference_of real place.state))
    (range_of place.outside place.state.control.mode region range (sym h.answers ∙ is)))

-- nothing fails
pub joins_of :
    (real : State) (needed : ℕ) (masks : Masks) (after : Standing) (stream : Stream) (answer : ReplayTurn)
    (fed : Fed ReplayPlace) → Turned masks fed after stream answer → after.taken + length (left_of stream) ≡ needed →
    why_replay real needed fed ≡ None → Joins after masks fed
joins_of real needed masks after stream answer (Short missing) h used none = absurd (cc)
joins_of real needed masks after stream answer (Fed' place rest) h used none =
    let parts : (place.outside ≡ None) × (NotStopped place.state.control.mode
    × ((is_same_mark (mark_of real needed) (mark_of place.state (needed - length rest)) ≡ true)
    × (difference_of real place.state ≡ None))) =
    none_copy place.outside place.state.control.mode (mark_of real needed) (mark_of place.state (needed - length rest))
    (difference_of real place.state) none in
    let marks : SameMarks (mark_of real needed) (mark_of place.state (needed - length rest)) = marks_same _ _
    parts.1.1.0 in
    let all : length rest ≡ 0 = omega (arith, marks.bits, used, ap length h.left) in record {
      place = place;
      uses = ap (λ r. Fed' place r) (nil_from_length rest all);
      stands = h.stands;
    }

pub in_step_of :
    (real : State) (needed : ℕ) (after : Standing) (stream : Stream) (mode : Stepped) → after.missing ≡ 0 →
    after.taken + length (left_of stream) ≡ needed → stream.taken ≤ length stream.bits →
    why_compared real needed after mode ≡ None → InStep real after stream needed
in_step_of real needed after stream mode missing used inside none =
    let parts : (is_same_mark (mark_of real needed) (mark_of after.state after.taken) ≡ true)
    × (why_output (option_or (byte_difference 0 real.control.output after.state.control.output)
    (status_difference (length real.control.output) real.control.mode mode)) ≡ None) =
    none_marks (is_same_mark (mark_of real needed) (mark_of after.state after.taken)) (mark_of real needed)
    (mark_of after.state after.taken) _ none in
    let marks : SameMarks (mark_of real needed) (mark_of after.state after.taken) = marks_same _ _ parts.0 in
    let bytes : byte_difference 0 real.control.output after.state.control.output ≡ None =
    (first_none _ _ (none_output _ parts.1)).0 in record {
      wanted = missing;
      used = sym marks.bits;
      taken = omega (arith, inside, used, marks.bits, length-drop stream.taken stream.bits);
      output = no_byte 0 real.control.output after.state.control.output marks.output bytes;
    }

-- ---- by what the replay has answered

pub beside_why :
    (real : State) (needed : ℕ) (masks : Masks) (asker : Asker ReplayPlace) (before : Standing) (old : Stream)
    (after : Standing) (stream : Stream) (answer : ReplayTurn) → needed < 4294967296 →
    before.taken + length (left_of old) ≡ needed → after.taken ≡ taken_after before.taken old stream →
    Turned masks (feed asker (left_of old)) after stream answer →
    why_answered real needed after answer ≡ why_replay real needed (feed asker (left_of old))
beside_why real needed masks asker before old after stream DidRun small used taken h =
    beside_runs real needed masks after stream Ran DidRun (feed asker (left_of old)) h refl (λ fault same. cc)
    (taken_of masks asker before old after stream Ran DidRun needed small used taken h refl)
beside_why real needed masks asker before old after stream (DidExit status) small used taken h =
    beside_runs real needed masks after stream (Exited status) (DidExit status) (feed asker (left_of old)) h refl
    (λ fault same. cc)
    (taken_of masks asker before old after stream (Exited status) (DidExit status) needed small used taken h refl)
beside_why real needed masks asker before old after stream (Wants missing) small used taken h =
    beside_wants real needed masks after stream missing (Wants missing) (feed asker (left_of old)) h refl
beside_why real needed masks asker before old after stream (DidStop fault) small used taken h =
    beside_stops real needed masks after stream fault (DidStop fault) (feed asker (left_of old)) h refl
beside_why real needed masks asker before old after stream (DidRange region range) small used taken h =
    beside_outside real needed masks after stream region range (DidRange region range) (feed asker (left_of old)) h refl

-- the answer of a replay of which nothing fails is that it runs, or has exited
pub runs_of : (real : State) (needed : ℕ) (after : Standing) (answer : ReplayTurn) →
    why_answered real needed after answer ≡ None →
    (mode : Stepped) × ((answer ≡ mode_answer mode) × (why_compared real needed after mode ≡ None))
runs_of real needed after DidRun none = (Ran, (refl, none))
runs_of real needed after (DidExit status) none = (Exited status, (refl, none))
runs_of real needed after (Wants missing) none = absurd (cc)
runs_of real needed after (DidStop fault) none = absurd (cc)
runs_of real needed after (DidRange region range) none = absurd (cc)

-- ---- a quick look

running_status : (index : ℕ) (real : Stepped) → status_difference index real Ran ≡ None
running_status index Ran = refl
running_status index (Exited status) = refl
running_status index (Stopped fault) = refl

pub compared_none : (real : State) (needed : ℕ) (after : Standing) →
    is_same_mark (mark_of real needed) (mark_of after.state after.taken) ≡ true →
    byte_difference 0 real.control.output after.state.control.output ≡ None →
    why_compared real needed after Ran ≡ None
compared_none real needed after same bytes =
    rw (same, bytes, running_status (length real.control.output) real.control.mode) refl

-- two outputs that begin with the same one
pub begins_alike : (first a b : List ℕ) → ((more : List ℕ) × (a ≡ first ++ more)) →
    ((more : List ℕ) × (b ≡ first ++ more)) → take (length first) a ≡ take (length first) b
begins_alike first a b h k =
    ap (λ (l : List ℕ). take (length first) l) h.1 ∙ take-append_seam first h.0
    ∙ sym (ap (λ (l : List ℕ). take (length first) l) k.1 ∙ take-append_seam first k.0)

pub begins_short : (first b : List ℕ) → ((more : List ℕ) × (b ≡ first ++ more)) → length first ≤ length b
begins_short first b k = omega (arith, ap length k.1, length-append first k.0)
