-- One passing of a replay.
use Rattle.std.proofs.Common.{◌≡◌, ℕ, zero, suc, ◌-◌, ◌≤◌, ◌<◌, List, length, take, drop, Bool, refl, ap}
use Rattle.std.proofs.Common.{◌∙◌, subst, sym, arith, [], ◌∷◌, Result, Ok, Err}
use Rattle.flow_base.specs.declared.points.Point.{Point}
use Rattle.flow_base.specs.Words.{bit_count, patched}
use Rattle.crossing_bits.specs.Askers.{Asker, Asks, Over, Fed, Fed', Short, feed}
use Rattle.crossing_bits.specs.Strings.{Stream, left_of}
use Rattle.crossing_bits.proofs.Feeding.{feed_enough, feed_few}
use Rattle.rv32im_machine.specs.State.{State}
use Rattle.rv32im_machine.specs.Playing.{Played, Finished, Halted, outcome}
use Rattle.replay_machine.specs.Runs.{ReplayPlace as Place, Masks, replayed}
use Rattle.rv32im_machine.specs.Language.{Walk}
use Rattle.region_machine.proofs.CarriedToEnds.{AtEnds}
use Rattle.replay_machine.proofs.ReplayEnds.{replayed_at_end}
use Rattle.replay_machine.specs.Private.Sides.{Side, Comes, Replays, fed_of}

-- the same string, seen from before
pub replays_from : (masks : Masks) (before after : Stream) (fed : Fed Place) (out : Played (Unit {0}) Side) →
    after.bits ≡ before.bits → after.room ≡ before.room → Replays masks after fed out → Replays masks before fed out
replays_from masks before after (Fed' place rest) (Finished reached end) same room h =
    record {
      state = h.state;
      outside = h.outside;
      ahead = h.ahead;
      left = h.left;
      missing = h.missing;
      bits = h.bits
          ∙ same;
      room = h.room ∙ room;
    }
replays_from masks before after (Short missing) (Finished reached end) same room h =
    record { some = h.some; missing = h.missing; bits = h.bits ∙ same; room = h.room ∙ room }
replays_from masks before after fed (Halted stop) same room h = h

-- a passing takes its bits, and the rest goes on with what is left
pub replays_more : (masks : Masks) (before after : Stream) (missing later count : ℕ) (go : List Bool →
    Asker Place) (next : Asker Place)
    (out : Played (Unit {0}) Side) → missing ≡ 0 → later ≡ 0 → count ≤ length (left_of before) →
    next ≡ go (take count (left_of before)) → left_of after ≡ drop count (left_of before) → after.bits ≡ before.bits →
    after.room ≡ before.room → Replays masks after (fed_of later next (left_of after)) out →
    Replays masks before (fed_of missing (Asks count go) (left_of before)) out
replays_more masks before after (suc missing) later count go next out none still enough is left same room h =
    absurd (omega (arith, none))
replays_more masks before after zero (suc later) count go next out none still enough is left same room h =
    absurd (omega (arith, still))
replays_more masks before after zero zero count go next out none still enough is left same room h =
    rw (feed_enough count go (left_of before) enough)
    (replays_from masks before after (feed (go (take count (left_of before))) (drop count (left_of before))) out same
    room
    (rw (is, left) at h))

-- too few bits are left: so many are missing from now on
pub replays_short : (masks : Masks) (before after : Stream) (missing later count : ℕ) (go : List Bool →
    Asker Place) (next : Asker Place)
    (out : Played (Unit {0}) Side) → missing ≡ 0 → length (left_of before) < count →
    later ≡ count - length (left_of before) →
    after ≡ before → Replays masks after (fed_of later next (left_of after)) out →
    Replays masks before (fed_of missing (Asks count go) (left_of before)) out
replays_short masks before after (suc missing) later count go next out none few is same h = absurd (omega (arith, none))
replays_short masks before after zero zero count go next out none few is same h = absurd (omega (arith, few, is))
replays_short masks before after zero (suc later) count go next out none few is same h =
    rw (feed_few count go (left_of before) few, ← is)
    (subst (λ (stream : Stream). Replays masks stream (Short (suc later)) out) same h)

-- bits were missing before
pub replays_lacking : (masks : Masks) (stream : Stream) (missing : ℕ) (asker next : Asker Place)
    (out : Played (Unit {0}) Side) →
    (missing ≡ 0 → ⊥) → Replays masks stream (fed_of missing next (left_of stream)) out →
    Replays masks stream (fed_of missing asker (left_of stream)) out
replays_lacking masks stream zero asker next out some h = absurd (some refl)
replays_lacking masks stream (suc missing) asker next out some h = h

-- a turn that began with none missing
pub outcome_comes : (masks : Masks) (before : Stream) (missing : ℕ) (asker : Asker Place) (bits : List Bool)
    (r : Result (Unit {0}) (Unit {0})) (reached : State) (end : Side) → missing ≡ 0 →
    Replays masks before (fed_of missing asker bits) (outcome r reached end) →
    Comes masks before (feed asker bits) reached end
outcome_comes masks before zero asker bits (Ok done) reached end none h = h
outcome_comes masks before zero asker bits (Err stop) reached end none h = absurd h
outcome_comes masks before (suc missing) asker bits r reached end none h = absurd (omega (arith, none))

-- what a turn keeps of the string
pub comes_bits : (masks : Masks) (before : Stream) (fed : Fed Place) (reached : State) (end : Side) →
    Comes masks before fed reached end → end.stream.bits ≡ before.bits
comes_bits masks before (Fed' place rest) reached end h = h.bits
comes_bits masks before (Short missing) reached end h = h.bits

pub comes_room : (masks : Masks) (before : Stream) (fed : Fed Place) (reached : State) (end : Side) →
    Comes masks before fed reached end → end.stream.room ≡ before.room
comes_room masks before (Fed' place rest) reached end h = h.room
comes_room masks before (Short missing) reached end h = h.room

-- a value is patched under a mask
pub patched_goes : (masks : Masks) (before after : Stream) (missing mask wanted value word : ℕ) (next : ℕ → Asker Place)
    (out : Played (Unit {0}) Side) → missing ≡ 0 → mask ≡ wanted → bit_count mask ≤ length (left_of before) →
    word ≡ patched value mask (take (bit_count mask) (left_of before)) →
    left_of after ≡ drop (bit_count mask) (left_of before) →
    after.bits ≡ before.bits →
    after.room ≡ before.room → Replays masks after (fed_of missing (next word) (left_of after)) out →
    Replays masks before (fed_of missing (Asks (bit_count wanted) (λ bits. next (patched value wanted bits)))
    (left_of before)) out
patched_goes masks before after missing mask wanted value word next out none e enough is left same room h =
    subst (λ (m : ℕ). Replays masks before (fed_of missing (Asks (bit_count m) (λ bits. next (patched value m bits)))
    (left_of before)) out) e
    (replays_more masks before after missing missing (bit_count mask) (λ bits. next (patched value mask bits))
    (next word) out
    none none enough (ap next is) left same room h)

-- too few bits are left for a mask
pub short_goes : (masks : Masks) (before after : Stream) (missing later mask wanted value : ℕ) (next : ℕ → Asker Place)
    (out : Played (Unit {0}) Side) → missing ≡ 0 → mask ≡ wanted → length (left_of before) < bit_count mask →
    later ≡ bit_count mask - length (left_of before) → after ≡ before →
    Replays masks after (fed_of later (next value) (left_of after)) out →
    Replays masks before (fed_of missing (Asks (bit_count wanted) (λ bits. next (patched value wanted bits)))
    (left_of before)) out
short_goes masks before after missing later mask wanted value next out none e few is same h =
    subst (λ (m : ℕ). Replays masks before (fed_of missing (Asks (bit_count m) (λ bits. next (patched value m bits)))
    (left_of before)) out) e
    (replays_short masks before after missing later (bit_count mask) (λ bits. next (patched value mask bits))
    (next value) out
    none few is same h)

-- what is so at each end of a turn is so where the replay has come to
pub comes_so : (P : State → Type 0) (masks : Masks) (past : List Point) (walk : Walk) (bits : List Bool)
    (before : Stream) (fed : Fed Place) (reached : State) (end : Side) →
    AtEnds P walk → feed (replayed masks past walk) bits ≡ fed → Comes masks before fed reached end →
    end.missing ≡ 0 → P reached
comes_so P masks past walk bits before (Fed' place rest) reached end so e h none =
    subst P h.state (replayed_at_end P masks past walk bits place rest so e)
comes_so P masks past walk bits before (Short missing) reached end so e h none =
    absurd (omega (arith, none, h.missing, h.some))

-- ---- where no bits are left

none_left : (bits : List Bool) → length bits ≡ 0 → bits ≡ []
none_left [] none = refl
none_left (bit ∷ bits) none = absurd (omega (arith, none))

drop_none : (count : ℕ) (bits : List Bool) → bits ≡ [] → drop count bits ≡ []
drop_none zero bits none = none
drop_none (suc count) bits none = rw none refl

-- an asker that is over after no bits has left none
fed_none : (asker : Asker Place) (place : Place) (rest : List Bool) → feed asker [] ≡ Fed' place rest → rest ≡ []
fed_none (Over other) place rest h = cc
fed_none (Asks zero go) place rest h = fed_none (go []) place rest h
fed_none (Asks (suc count) go) place rest h =
    let short : feed (Asks (suc count) go) [] ≡ Short (suc count - 0) = feed_few (suc count) go [] (omega arith) in
    absurd (cc)

unlent : (masks : Masks) (own before : Stream) (asker : Asker Place) (fed : Fed Place) (reached : State) (end : Side) →
    feed asker [] ≡ fed → left_of before ≡ [] → Comes masks own fed reached end →
    Comes masks before fed reached (record { ahead = end.ahead; stream = before; missing = end.missing })
unlent masks own before asker (Fed' place rest) reached end e none h =
    record {
      state = h.state;
      outside = h.outside;
      ahead = h.ahead;
      left = none ∙ sym (fed_none asker place rest e);
      missing = h.missing;
      bits = refl;
      room = refl;
    }
unlent masks own before asker (Short missing) reached end e none h =
    record { some = h.some; missing = h.missing; bits = refl; room = refl }

-- a turn that has played on an empty string, where no bits are left of another
pub comes_unlent : (masks : Masks) (own before : Stream) (asker : Asker Place) (reached : State) (end : Side) →
    own.bits ≡ [] → length (left_of before) ≡ 0 → Comes masks own (feed asker (left_of own)) reached end →
    Comes masks before (feed asker (left_of before)) reached
    (record { ahead = end.ahead; stream = before; missing = end.missing })
comes_unlent masks own before asker reached end empty none h =
    let left : left_of before ≡ [] = none_left (left_of before) none in
    let owned = rw (drop_none own.taken own.bits empty) at h in
    subst (λ (bits : List Bool). Comes masks before (feed asker bits) reached
    (record { ahead = end.ahead; stream = before; missing = end.missing })) (sym left)
    (unlent masks own before asker (feed asker []) reached end refl left owned)
