-- One turn of the real run with the replay's turn beside it, if it makes one.
use Rattle.std.proofs.Common.{◌≡◌, ℕ, ◌+◌, ◌≤◌, ◌<◌, List, [], ◌++◌, length, length-append, append_assoc, append-nil}
use Rattle.std.proofs.Common.{refl, ap, sym, subst, ◌∙◌, Bool, true, false, Option, Some, None, arith}
use Rattle.std.proofs.lemmas.Bool.{lt-ltb, ltb-true, ltb-false}
use Rattle.std.specs.Prelude.{nat_lt}
use Rattle.flow_base.specs.declared.points.Point.{Point}
use Rattle.cut_file.specs.Masks.{MaskAt}
use Rattle.crossing_bits.specs.Strings.{left_of}
use Rattle.rv32im_machine.specs.declared.stepping.Stepped.{Stepped}
use Rattle.rv32im_machine.specs.declared.stepping.Stepped.TheVariants.{Ran, Exited, Stopped}
use Rattle.rv32im_machine.specs.State.{State}
use Rattle.enclosure_regions.specs.declared.break_kinds.Break.{Break}
use Rattle.enclosure_regions.specs.Regions.{are_regions}
use Rattle.region_machine.specs.Enclosures.{Enclosures, kind_of, is_enclosed}
use Rattle.region_machine.specs.Guests.{guest_walk}
use Rattle.region_machine.specs.Breaking.{Breaks}
use Rattle.region_machine.specs.Runs.{visited}
use Rattle.replay_machine.specs.Runs.{ReplayPlace, Masks}
use Rattle.replay_machine.specs.Standing.{Standing, Stands}
use Rattle.replay_machine.specs.Visits.{IsAhead}
use Rattle.region_machine.specs.Within.{may_leave}
use Rattle.region_machine.proofs.OutputGrows.{real_grows}
use Rattle.region_machine.proofs.RangesStayInside.{guest_keeps}
use Rattle.replay_machine.proofs.MasksAhead.{ahead_self}
use Rattle.lockstep_replay.specs.declared.tallies.Tallying.{Tallying}
use Rattle.region_machine.specs.declared.real_turns.RealTurn.{RealTurn}
use Rattle.lockstep_replay.specs.declared.verdicts.Why.{Why}
use Rattle.lockstep_replay.specs.Crossing.{crossing_unless}
use Rattle.lockstep_replay.specs.Sides.{tally_of}
use Rattle.lockstep_replay.specs.Private.Standings.{why_beside, why_standing}
use Rattle.lockstep_replay.specs.Private.Turning.{MakesReal, Keeps, Rounds, InStep, Joins, Joined, crossed, fed_turn}
use Rattle.lockstep_replay.specs.Verdicts.{counted_bits, why_budget, why_mode, why_broken, why_common, why_replay}
use Rattle.lockstep_replay.proofs.Turns.{Within, within_of, why_within}
use Rattle.lockstep_replay.proofs.Conditions.{NotStopped, none_broken, none_mode}

-- ---- what fails of the real run alone

budget_fails : (test : Bool) (budget total count : ℕ) (later : Option Why) (why : Why) → count ≡ counted_bits total →
    nat_lt budget count ≡ test → why_budget test budget count None ≡ Some why →
    why_budget (nat_lt budget total) budget total later ≡ Some why
budget_fails true budget total count later why c t e =
    let over : budget < count = ltb-true budget count t in
    let more : budget < total = omega (arith, over, c) in
    let same : counted_bits total ≡ counted_bits count = omega (arith, c) in
    rw (lt-ltb budget total more, same) e
budget_fails false budget total count later why c t e = absurd (cc)

mode_fails : (mode : Stepped) (budget total count : ℕ) (later : Option Why) (why : Why) → count ≡ counted_bits total →
    why_mode mode budget count None ≡ Some why → why_mode mode budget total later ≡ Some why
mode_fails Ran budget total count later why c e = budget_fails (nat_lt budget count) budget total count later why c
    refl e
mode_fails (Exited status) budget total count later why c e =
    budget_fails (nat_lt budget count) budget total count later why c refl e
mode_fails (Stopped fault) budget total count later why c e = e

real_fails : (broken : Option Break) (mode : Stepped) (budget total count : ℕ) (later : Option Why) (why : Why) →
    count ≡ counted_bits total → why_broken broken (why_mode mode budget count None) ≡ Some why →
    why_broken broken (why_mode mode budget total later) ≡ Some why
real_fails None mode budget total count later why c e = mode_fails mode budget total count later why c e
real_fails (Some broken) mode budget total count later why c e = e

-- nothing fails of it
record Passes (broken : Option Break) (mode : Stepped) (budget total count : ℕ) : Type 0 where
  pub unbroken : broken ≡ None
  pub running : NotStopped mode
  pub within : total ≤ budget
  pub small : count ≤ budget

real_passes : (broken : Option Break) (mode : Stepped) (budget total count : ℕ) → budget < 4294967295 →
    count ≡ counted_bits total → why_broken broken (why_mode mode budget count None) ≡ None →
    Passes broken mode budget total count
real_passes broken mode budget total count small c e =
    let whole : (broken ≡ None) × (why_mode mode budget count None ≡ None) = none_broken broken _ e in
    let parts = none_mode mode budget count None whole.1 in
    let few : count ≤ budget = ltb-false budget count parts.1.0 in record {
      unbroken = whole.0;
      running = parts.0;
      within = omega (arith, few, c, small);
      small = few;
    }

later_passes : (broken : Option Break) (mode : Stepped) (budget total count : ℕ) (later : Option Why) →
    Passes broken mode budget total count → why_broken broken (why_mode mode budget total later) ≡ later
later_passes broken mode budget total count later p =
    ap (λ b. why_broken b (why_mode mode budget total later)) p.unbroken
    ∙ why_within mode budget total later p.running p.within

-- ---- a turn of the real run, before which the two runs kept step

pub record Played (before : State) (tally : Tallying) (standing : Standing) (reached : State) (after : Tallying)
    (turn : RealTurn) : Type 0 where
  pub makes :
      MakesReal standing.enclosures (kind_of standing.enclosures.regions before.control) before tally reached after turn
  pub keeps : Keeps before standing tally.bits tally.needed tally.budget
  pub small : tally.budget < 4294967295
  pub rules : are_regions standing.enclosures.regions ≡ true

-- what the code finds of the real run alone
abbrev pub real_why : State → Tallying → RealTurn → Option Why
real_why reached after turn = why_broken turn.broken (why_mode reached.control.mode after.budget after.needed None)

own_why : (before : State) (tally : Tallying) (standing : Standing) (reached : State) (after : Tallying)
    (turn : RealTurn) → (p : Played before tally standing reached after turn) →
    real_why reached after turn ≡ why_broken (Breaks standing.enclosures.regions before)
    (why_mode reached.control.mode tally.budget after.needed None)
own_why before tally standing reached after turn p =
    ap (λ b. why_broken b (why_mode reached.control.mode after.budget after.needed None)) p.makes.broken
    ∙ ap (λ b. why_broken (Breaks standing.enclosures.regions before)
    (why_mode reached.control.mode b after.needed None)) p.makes.budget

pub round_fails : (before : State) (tally : Tallying) (standing : Standing) (reached : State) (after : Tallying)
    (turn : RealTurn) (why : Why) → Played before tally standing reached after turn →
    real_why reached after turn ≡ Some why →
    Rounds standing.enclosures before tally standing reached after standing
    (record { enclosed = turn.enclosed; why = Some why })
round_fails before tally standing reached after turn why p e = record {
  state = p.makes.state;
  enclosed = p.makes.enclosed;
  budget = p.makes.budget;
  regions_stay = refl;
  ahead = p.makes.ahead;
  why = λ masks past place ahead stands.
      sym (real_fails (Breaks standing.enclosures.regions before) reached.control.mode tally.budget
      (tally.needed + length (crossed standing.enclosures masks past before)) after.needed _ why
      (p.makes.tallies masks past ahead).needed (sym (own_why before tally standing reached after turn p) ∙ e));
  joins = λ masks past place ahead stands none. absurd (cc);
  bits = λ masks past ahead none. absurd (cc);
  keeps = λ none. absurd (cc);
}

passes_of : (before : State) (tally : Tallying) (standing : Standing) (reached : State) (after : Tallying)
    (turn : RealTurn) (masks : Masks) (past : List Point) → Played before tally standing reached after turn →
    real_why reached after turn ≡ None →
    IsAhead tally.masks masks past →
    Passes (Breaks standing.enclosures.regions before) reached.control.mode tally.budget
    (tally.needed + length (crossed standing.enclosures masks past before)) after.needed
passes_of before tally standing reached after turn masks past p e ahead =
    real_passes (Breaks standing.enclosures.regions before) reached.control.mode tally.budget
    (tally.needed + length (crossed standing.enclosures masks past before)) after.needed p.small
    (p.makes.tallies masks past ahead).needed (sym (own_why before tally standing reached after turn p) ∙ e)

pub within_played : (before : State) (tally : Tallying) (standing : Standing) (reached : State) (after : Tallying)
    (turn : RealTurn) (masks : Masks) (past : List Point) → Played before tally standing reached after turn →
    real_why reached after turn ≡ None →
    IsAhead tally.masks masks past →
    Within (tally_of tally) (crossed standing.enclosures masks past before) (tally_of after)
within_played before tally standing reached after turn masks past p e ahead =
    within_of (tally_of tally) (tally_of after) (crossed standing.enclosures masks past before)
    (p.makes.tallies masks past ahead) p.small
    (passes_of before tally standing reached after turn masks past p e ahead).small p.keeps.taken

-- the real run's output still begins with the replay's
pub output_begins : (before : State) (tally : Tallying) (standing : Standing) (reached : State) (after : Tallying)
    (turn : RealTurn) → Played before tally standing reached after turn →
    (more : List ℕ) × (reached.control.output ≡ standing.state.control.output ++ more)
output_begins before tally standing reached after turn p =
    let grown = real_grows standing.enclosures.regions before in
    let old = p.keeps.output in (
      old.0 ++ grown.0,
      ap (λ (s : State). s.control.output) p.makes.state ∙ (grown.1 ∙ (ap (λ o. o ++ grown.0) old.1
          ∙ append_assoc standing.state.control.output old.0 grown.0)),
    )

leaves_played : (before : State) (tally : Tallying) (standing : Standing) (reached : State) (after : Tallying)
    (turn : RealTurn) → Played before tally standing reached after turn → real_why reached after turn ≡ None →
    may_leave standing.enclosures.regions reached ≡ true
leaves_played before tally standing reached after turn p e =
    let masks : Masks = MaskAt tally.masks in
    subst (λ (s : State). may_leave standing.enclosures.regions s ≡ true) (sym p.makes.state)
    (guest_keeps standing.enclosures.regions before p.rules p.keeps.leaves
    (passes_of before tally standing reached after turn masks [] p e (ahead_self tally.masks)).unbroken)

quiet_length : (enclosures : Enclosures) (masks : Masks) (past : List Point) (before : State) →
    is_enclosed enclosures before.control ≡ true → length (crossed enclosures masks past before) ≡ 0
quiet_length enclosures masks past before e =
    ap (λ b. length (crossing_unless b masks past (guest_walk enclosures.regions before))) e

joined_stays : (enclosed : Bool) (standing : Standing) (masks : Masks) (place : ReplayPlace) (bits : List Bool) →
    enclosed ≡ true → Stands standing masks place →
    Joined enclosed standing masks place (fed_turn standing.enclosures masks place bits)
joined_stays true standing masks place bits e stands = stands
joined_stays false standing masks place bits e stands = absurd (cc)

-- the turn is enclosed, and nothing fails of the real run: the replay stays where it is
pub round_enclosed : (before : State) (tally : Tallying) (standing : Standing) (reached : State) (after : Tallying)
    (turn : RealTurn) →
    Played before tally standing reached after turn → real_why reached after turn ≡ None → turn.enclosed ≡ true →
    Rounds standing.enclosures before tally standing reached after standing
    (record { enclosed = turn.enclosed; why = None })
round_enclosed before tally standing reached after turn p e is =
    let inside : is_enclosed standing.enclosures before.control ≡ true = sym p.makes.enclosed ∙ is in
    let first : Masks = MaskAt tally.masks in
    let w : Within (tally_of tally) (crossed standing.enclosures first [] before) (tally_of after) =
    within_played before tally standing reached after turn first [] p e (ahead_self tally.masks) in
    let none : length (crossed standing.enclosures first [] before) ≡ 0 =
    quiet_length standing.enclosures first [] before inside in record {
      state = p.makes.state;
      enclosed = p.makes.enclosed;
      budget = p.makes.budget;
      regions_stay = refl;
      ahead = p.makes.ahead;
      why = λ masks past place ahead stands.
          sym (later_passes (Breaks standing.enclosures.regions before) reached.control.mode tally.budget
          (tally.needed + length (crossed standing.enclosures masks past before)) after.needed _
          (passes_of before tally standing reached after turn masks past p e ahead)
          ∙ ap (λ b. why_common b (why_replay reached
          (tally.needed + length (crossed standing.enclosures masks past before))
          (fed_turn standing.enclosures masks place (crossed standing.enclosures masks past before)))) inside);
      joins = λ masks past place ahead stands nothing.
          joined_stays (is_enclosed standing.enclosures before.control) standing masks place
          (crossed standing.enclosures masks past before) inside stands;
      bits = λ masks past ahead nothing.
          (within_played before tally standing reached after turn masks past p e ahead).bits;
      keeps = λ nothing. record {
        wanted = p.keeps.wanted;
        used = omega (arith, p.keeps.used, w.needed, none);
        taken = omega (
          arith,
          (p.makes.tallies first [] (ahead_self tally.masks)).taken,
          p.keeps.taken,
          ap length w.bits,
          length-append tally.bits.bits (crossed standing.enclosures first [] before),
          none,
        );
        kept = omega (
          arith,
          p.keeps.kept,
          ap length w.bits,
          length-append tally.bits.bits (crossed standing.enclosures first [] before),
          w.needed,
        );
        within = omega (arith, w.fits, w.needed, p.makes.budget);
        output = output_begins before tally standing reached after turn p;
        leaves = leaves_played before tally standing reached after turn p e;
      };
    }

joined_joins : (enclosed : Bool) (standing : Standing) (masks : Masks) (place : ReplayPlace) (enclosures : Enclosures)
    (bits : List Bool) → enclosed ≡ false → Joins standing masks (fed_turn enclosures masks place bits) →
    Joined enclosed standing masks place (fed_turn enclosures masks place bits)
joined_joins true standing masks place enclosures bits e joins = absurd (cc)
joined_joins false standing masks place enclosures bits e joins = joins

-- what the replay beside says
pub record IsBeside (before : State) (tally : Tallying) (standing : Standing) (reached : State) (after : Tallying)
    (turn : RealTurn) (next : Standing) (last : Tallying) (why : Option Why) : Type 0 where
  pub says :
      (masks : Masks) (place : ReplayPlace) → Stands standing masks place →
      why ≡ why_replay reached after.needed (fed_turn standing.enclosures masks place (left_of after.bits))
  pub joins :
      (masks : Masks) (place : ReplayPlace) → Stands standing masks place → why ≡ None →
      Joins next masks (fed_turn standing.enclosures masks place (left_of after.bits))
  pub enclosures : next.enclosures ≡ standing.enclosures
  pub bits : last.bits.bits ≡ after.bits.bits
  pub masks : last.masks ≡ after.masks
  pub needed : last.needed ≡ after.needed
  pub budget : last.budget ≡ after.budget
  pub agrees : why ≡ None → InStep reached next last.bits after.needed

-- the turn is not enclosed, and nothing fails of the real run: the replay has made its turn
pub round_beside : (before : State) (tally : Tallying) (standing : Standing) (reached : State) (after : Tallying)
    (turn : RealTurn) (next : Standing) (last : Tallying) (why : Option Why) →
    Played before tally standing reached after turn → real_why reached after turn ≡ None → turn.enclosed ≡ false →
    IsBeside before tally standing reached after turn next last why →
    Rounds standing.enclosures before tally standing reached last next
    (record { enclosed = turn.enclosed; why = why })
round_beside before tally standing reached after turn next last why p e is b =
    let outside : is_enclosed standing.enclosures before.control ≡ false = sym p.makes.enclosed ∙ is in
    let first : Masks = MaskAt tally.masks in
    let w : Within (tally_of tally) (crossed standing.enclosures first [] before) (tally_of after) =
    within_played before tally standing reached after turn first [] p e (ahead_self tally.masks) in record {
      state = p.makes.state;
      enclosed = p.makes.enclosed;
      budget = b.budget ∙ p.makes.budget;
      regions_stay = b.enclosures;
      ahead = λ masks past ahead.
          subst (λ a. IsAhead a masks (visited (is_enclosed standing.enclosures before.control) past
          (guest_walk standing.enclosures.regions before))) (sym b.masks) (p.makes.ahead masks past ahead);
      why = λ masks past place ahead stands.
          let v : Within (tally_of tally) (crossed standing.enclosures masks past before) (tally_of after) =
          within_played before tally standing reached after turn masks past p e ahead in
          b.says masks place stands
          ∙ (ap (λ n. why_replay reached n (fed_turn standing.enclosures masks place (left_of after.bits)))
          v.needed
          ∙ (ap (λ s. why_replay reached (tally.needed + length (crossed standing.enclosures masks past before))
          (fed_turn standing.enclosures masks place s)) v.left
          ∙ sym (later_passes (Breaks standing.enclosures.regions before) reached.control.mode tally.budget
          (tally.needed + length (crossed standing.enclosures masks past before)) after.needed _
          (passes_of before tally standing reached after turn masks past p e ahead)
          ∙ ap (λ t. why_common t (why_replay reached
          (tally.needed + length (crossed standing.enclosures masks past before))
          (fed_turn standing.enclosures masks place (crossed standing.enclosures masks past before)))) outside)));
      joins = λ masks past place ahead stands nothing.
          let v : Within (tally_of tally) (crossed standing.enclosures masks past before) (tally_of after) =
          within_played before tally standing reached after turn masks past p e ahead in
          joined_joins (is_enclosed standing.enclosures before.control) next masks place standing.enclosures
          (crossed standing.enclosures masks past before) outside
          (subst (λ s. Joins next masks (fed_turn standing.enclosures masks place s)) v.left
          (b.joins masks place stands nothing));
      bits = λ masks past ahead nothing.
          b.bits ∙ (within_played before tally standing reached after turn masks past p e ahead).bits;
      keeps = λ nothing.
          let agrees : InStep reached next last.bits after.needed = b.agrees nothing in record {
            wanted = agrees.wanted;
            used = agrees.used ∙ sym b.needed;
            taken = agrees.taken;
            kept = omega (
              arith,
              p.keeps.kept,
              ap length b.bits,
              ap length w.bits,
              length-append tally.bits.bits (crossed standing.enclosures first [] before),
              w.needed,
              b.needed,
            );
            within = omega (arith, w.fits, w.needed, p.makes.budget, b.needed, b.budget);
            output = ([], agrees.output ∙ sym (append-nil next.state.control.output));
            leaves =
                subst (λ (x : Enclosures). may_leave x.regions reached ≡ true) (sym b.enclosures)
                (leaves_played before tally standing reached after turn p e);
          };
    }

-- the bits that the replay has used and those that are left are those that have crossed
pub used_played : (before : State) (tally : Tallying) (standing : Standing) (reached : State) (after : Tallying)
    (turn : RealTurn) → Played before tally standing reached after turn → real_why reached after turn ≡ None →
    standing.taken + length (left_of after.bits) ≡ after.needed
used_played before tally standing reached after turn p e =
    let w : Within (tally_of tally) (crossed standing.enclosures (MaskAt tally.masks) [] before) (tally_of after) =
    within_played before tally standing reached after turn (MaskAt tally.masks) [] p e (ahead_self tally.masks) in
    omega (arith, p.keeps.used, ap length w.left, w.needed)

-- ---- what fails of the real run alone, or else of what comes later

later_budget : (test : Bool) (budget needed : ℕ) (later : Option Why) (why : Why) →
    why_budget test budget needed None ≡ Some why → why_budget test budget needed later ≡ Some why
later_budget true budget needed later why e = e
later_budget false budget needed later why e = absurd (cc)

pub later_fails : (mode : Stepped) (budget needed : ℕ) (later : Option Why) (why : Why) →
    why_mode mode budget needed None ≡ Some why → why_mode mode budget needed later ≡ Some why
later_fails Ran budget needed later why e = later_budget (nat_lt budget needed) budget needed later why e
later_fails (Exited status) budget needed later why e = later_budget (nat_lt budget needed) budget needed later why e
later_fails (Stopped fault) budget needed later why e = e

none_budget : (test : Bool) (budget needed : ℕ) (later : Option Why) →
    why_budget test budget needed None ≡ None → why_budget test budget needed later ≡ later
none_budget true budget needed later e = absurd (cc)
none_budget false budget needed later e = refl

pub none_fails : (mode : Stepped) (budget needed : ℕ) (later : Option Why) →
    why_mode mode budget needed None ≡ None → why_mode mode budget needed later ≡ later
none_fails Ran budget needed later e = none_budget (nat_lt budget needed) budget needed later e
none_fails (Exited status) budget needed later e = none_budget (nat_lt budget needed) budget needed later e
none_fails (Stopped fault) budget needed later e = absurd (cc)

-- a step of each run outside of regions
abbrev pub outside_turn : RealTurn
outside_turn = record { enclosed = false; broken = None }

pub step_fails : (before : State) (tally : Tallying) (standing : Standing) (reached : State) (after : Tallying)
    (why : Why) → Played before tally standing reached after outside_turn →
    why_mode reached.control.mode after.budget after.needed None ≡ Some why →
    Rounds standing.enclosures before tally standing reached after standing
    (record { enclosed = false; why = why_standing reached after standing })
step_fails before tally standing reached after why p e =
    subst (λ (w : Option Why). Rounds standing.enclosures before tally standing reached after standing
    (record { enclosed = false; why = w }))
    (sym (later_fails reached.control.mode after.budget after.needed (why_beside reached after.needed standing) why e))
    (round_fails before tally standing reached after outside_turn why p e)

pub step_beside : (before : State) (tally : Tallying) (standing : Standing) (reached : State) (after : Tallying)
    (next : Standing) (last : Tallying) → Played before tally standing reached after outside_turn →
    why_mode reached.control.mode after.budget after.needed None ≡ None →
    IsBeside before tally standing reached after outside_turn next last (why_beside reached after.needed next) →
    Rounds standing.enclosures before tally standing reached last next
    (record { enclosed = false; why = why_standing reached last next })
step_beside before tally standing reached after next last p e b =
    let same : why_standing reached last next ≡ why_beside reached after.needed next =
    ap (λ n. why_mode reached.control.mode last.budget n (why_beside reached n next)) b.needed
    ∙ (ap (λ n. why_mode reached.control.mode n after.needed (why_beside reached after.needed next)) b.budget
    ∙ none_fails reached.control.mode after.budget after.needed (why_beside reached after.needed next) e) in
    subst (λ (w : Option Why). Rounds standing.enclosures before tally standing reached last next
    (record { enclosed = false; why = w })) (sym same)
    (round_beside before tally standing reached after outside_turn next last (why_beside reached after.needed next) p e
    refl b)
