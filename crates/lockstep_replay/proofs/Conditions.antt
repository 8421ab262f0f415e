-- What holds after a turn in which no condition fails, and what the condition that fails says.
use Rattle.std.proofs.Common.{◌≡◌, ℕ, suc, ◌-◌, ◌==◌, ◌≤◌, inl, inr, List, [], ◌∷◌, length, length-drop, take, drop}
use Rattle.std.proofs.Common.{refl, ap, sym, subst, ◌∙◌, Bool, true, false, arith, Option, Some, None, if◌then◌else◌}
use Rattle.std.proofs.Math.Bool.{beq}
use Rattle.std.proofs.lemmas.Bool.{ltb-true, ltb-false, le-ltb}
use Rattle.std.proofs.lemmas.Bool.Decides.{Decides-eqb}
use Rattle.std.proofs.lemmas.List.{nil_from_length}
use Rattle.std.specs.Cmp.{booleans_Decides}
use Rattle.std.specs.Prelude.{◌&&◌, nat_lt}
use Rattle.crossing_bits.specs.Askers.{Asker, Asks, Over, Fed, Fed', Short, feed}
use Rattle.crossing_bits.proofs.Feeding.{le_or_lt, feed_enough, feed_few}
use Rattle.rv32im_machine.specs.declared.stepping.Fault.{Fault}
use Rattle.rv32im_machine.specs.declared.stepping.Stepped.{Stepped}
use Rattle.rv32im_machine.specs.declared.stepping.Stepped.TheVariants.{Ran, Exited, Stopped}
use Rattle.rv32im_machine.specs.State.{State}
use Rattle.replay_machine.specs.declared.marks.Mark.{Mark}
use Rattle.enclosure_regions.specs.declared.break_kinds.Break.{Break}
use Rattle.replay_machine.specs.ReplayTurns.{Outside}
use Rattle.region_machine.specs.Runs.{Place}
use Rattle.replay_machine.specs.Runs.{ReplayPlace}
use Rattle.lockstep_replay.specs.declared.differences.Difference.{Difference}
use Rattle.lockstep_replay.specs.declared.verdicts.ReplayStop.TheVariants.{Guest, RangeOutside, Short as TooShort}
use Rattle.lockstep_replay.specs.declared.verdicts.Why.{Why}
use Rattle.lockstep_replay.specs.declared.verdicts.Why.TheVariants.{RealFault, RegionBreak, BudgetOverrun, ReplayFault}
use Rattle.lockstep_replay.specs.declared.verdicts.Why.TheVariants.{Parted}
use Rattle.lockstep_replay.specs.declared.verdicts.Why.TheVariants.{OutputDiffers}
use Rattle.lockstep_replay.specs.Acceptance.{EndAlike}
use Rattle.region_machine.specs.Runs.{has_exited}
use Rattle.lockstep_replay.specs.Marks.{mark_of, is_same_mark}
use Rattle.lockstep_replay.specs.Differences.{byte_difference, status_difference, difference_of}
use Rattle.lockstep_replay.specs.Verdicts.{counted_bits, why_output, why_stopped, why_copy, why_replay}
use Rattle.lockstep_replay.specs.Verdicts.{why_common, why_budget, why_mode, why_broken, why_of}
use Rattle.lockstep_replay.specs.VerdictLaws.{ReasonHolds}
use Rattle.std.specs.Option.{option_or}

and_parts : (a b : Bool) → (a && b) ≡ true → (a ≡ true) × (b ≡ true)
and_parts true true e = (refl, refl)
and_parts true false e = absurd (cc)
and_parts false true e = absurd (cc)
and_parts false false e = absurd (cc)

and_both : (a b : Bool) → a ≡ true → b ≡ true → (a && b) ≡ true
and_both true b p q = q
and_both false b p q = absurd (cc)

-- ---- modes

-- both run on, or both have exited with one status
abbrev pub is_same_mode : Stepped → Stepped → Bool
is_same_mode Ran Ran = true
is_same_mode Ran (Exited status) = false
is_same_mode Ran (Stopped fault) = false
is_same_mode (Exited status) Ran = false
is_same_mode (Exited status) (Exited other) = status == other
is_same_mode (Exited status) (Stopped fault) = false
is_same_mode (Stopped fault) other = false

pub alike_same : (real copy : Stepped) → is_same_mode real copy ≡ true → EndAlike real copy
alike_same Ran Ran e = tt
alike_same Ran (Exited status) e = absurd (cc)
alike_same Ran (Stopped fault) e = absurd (cc)
alike_same (Exited status) Ran e = absurd (cc)
alike_same (Exited status) (Exited other) e = tt
alike_same (Exited status) (Stopped fault) e = absurd (cc)
alike_same (Stopped fault) copy e = absurd (cc)

pub same_status :
    (real copy : Stepped) (status : ℕ) → is_same_mode real copy ≡ true → real ≡ Exited status → copy ≡ Exited status
same_status Ran copy status e h = absurd (cc)
same_status (Exited first) Ran status e h = absurd (cc)
same_status (Exited first) (Exited second) status e h = let same : first ≡ second = (Decides-eqb first second).0 e in cc
same_status (Exited first) (Stopped fault) status e h = absurd (cc)
same_status (Stopped fault) copy status e h = absurd (cc)

-- modes that end alike, with one status where they have exited
pub same_alike :
    (real copy : Stepped) → EndAlike real copy →
    ((status other : ℕ) → real ≡ Exited status → copy ≡ Exited other → status ≡ other) → is_same_mode real copy ≡ true
same_alike Ran Ran h s = refl
same_alike Ran (Exited status) h s = absurd h
same_alike Ran (Stopped fault) h s = absurd h
same_alike (Exited status) Ran h s = absurd h
same_alike (Exited status) (Exited other) h s = (Decides-eqb status other).1 (s status other refl refl)
same_alike (Exited status) (Stopped fault) h s = absurd h
same_alike (Stopped fault) copy h s = absurd h

abbrev pub NotStopped : Stepped → Type 0
NotStopped mode = (fault : Fault) → mode ≡ Stopped fault → ⊥

-- ---- differences

if_none : (test : Bool) (difference : Difference) (first : Option Difference) →
    (if test then first else Some difference) ≡ None → (test ≡ true) × (first ≡ None)
if_none true difference first e = (refl, e)
if_none false difference first e = absurd (cc)

pub no_byte : (index : ℕ) (real copy : List ℕ) → length real ≡ length copy → byte_difference index real copy ≡ None →
    real ≡ copy
no_byte index [] [] h e = refl
no_byte index [] (other ∷ copy) h e = absurd (omega (arith, h))
no_byte index (byte ∷ real) [] h e = absurd (omega (arith, h))
no_byte index (byte ∷ real) (other ∷ copy) h e =
    let parts : (byte == other ≡ true) × (byte_difference (suc index) real copy ≡ None) =
    if_none (byte == other) (record { index = index; real = byte; replay = other })
    (byte_difference (suc index) real copy) e in
    let heads : byte ≡ other = (Decides-eqb byte other).0 parts.0 in
    let long : length real ≡ length copy = omega (arith, h) in
    let tails : real ≡ copy = no_byte (suc index) real copy long parts.1 in cc

pub no_byte_self : (index : ℕ) (bytes : List ℕ) → byte_difference index bytes bytes ≡ None
no_byte_self index [] = refl
no_byte_self index (byte ∷ bytes) =
    let test : (byte == byte) ≡ true = (Decides-eqb byte byte).1 refl in rw test (no_byte_self (suc index) bytes)

same_ends :
    (real copy : Stepped) (index : ℕ) → NotStopped real → NotStopped copy → has_exited real ≡ has_exited copy →
    status_difference index real copy ≡ None → is_same_mode real copy ≡ true
same_ends Ran Ran index p q e n = refl
same_ends Ran (Exited status) index p q e n = absurd (cc)
same_ends Ran (Stopped fault) index p q e n = absurd (q fault refl)
same_ends (Exited status) Ran index p q e n = absurd (cc)
same_ends (Exited status) (Exited other) index p q e n =
    (if_none (status == other) (record { index = index; real = status; replay = other }) None n).0
same_ends (Exited status) (Stopped fault) index p q e n = absurd (q fault refl)
same_ends (Stopped fault) copy index p q e n = absurd (p fault refl)

no_status : (real copy : Stepped) (index : ℕ) → is_same_mode real copy ≡ true →
    (status_difference index real copy ≡ None) × (has_exited real ≡ has_exited copy)
no_status Ran Ran index e = (refl, refl)
no_status Ran (Exited status) index e = absurd (cc)
no_status Ran (Stopped fault) index e = absurd (cc)
no_status (Exited status) Ran index e = absurd (cc)
no_status (Exited status) (Exited other) index e = (rw e refl, refl)
no_status (Exited status) (Stopped fault) index e = absurd (cc)
no_status (Stopped fault) copy index e = absurd (cc)

pub first_none : (first second : Option Difference) → option_or first second ≡ None → (first ≡ None) × (second ≡ None)
first_none None second e = (refl, e)
first_none (Some difference) second e = absurd (cc)

-- ---- marks

pub record SameMarks (first second : Mark) : Type 0 where
  pub address : first.address ≡ second.address
  pub bits : first.bits ≡ second.bits
  pub output : first.output ≡ second.output
  pub exited : first.exited ≡ second.exited

pub marks_same : (first second : Mark) → is_same_mark first second ≡ true → SameMarks first second
marks_same first second e =
    let one : (first.address == second.address ≡ true) × (((first.bits == second.bits)
    && ((first.output == second.output) && beq first.exited second.exited)) ≡ true) = and_parts _ _ e in
    let two : (first.bits == second.bits ≡ true)
    × (((first.output == second.output) && beq first.exited second.exited) ≡ true) = and_parts _ _ one.1 in
    let three : (first.output == second.output ≡ true) × (beq first.exited second.exited ≡ true) = and_parts _ _ two.1
    in
    record {
      address = (Decides-eqb first.address second.address).0 one.0;
      bits = (Decides-eqb first.bits second.bits).0 two.0;
      output = (Decides-eqb first.output second.output).0 three.0;
      exited = (booleans_Decides first.exited second.exited).0 three.1;
    }

pub same_marks : (first second : Mark) → SameMarks first second → is_same_mark first second ≡ true
same_marks first second same =
    and_both (first.address == second.address) _ ((Decides-eqb first.address second.address).1 same.address)
    (and_both (first.bits == second.bits) _ ((Decides-eqb first.bits second.bits).1 same.bits)
    (and_both (first.output == second.output) _ ((Decides-eqb first.output second.output).1 same.output)
    ((booleans_Decides first.exited second.exited).1 same.exited)))

other_marks : (first second : Mark) → is_same_mark first second ≡ false → first ≡ second → ⊥
other_marks first second e h =
    let same : is_same_mark first second ≡ true = same_marks first second (record {
      address = ap (λ (m : Mark). m.address) h;
      bits = ap (λ (m : Mark). m.bits) h;
      output = ap (λ (m : Mark). m.output) h;
      exited = ap (λ (m : Mark). m.exited) h;
    }) in cc

-- ---- no condition fails

-- what is left of a string was in it
pub feed_rest : {A : Type 0} (asker : Asker A) (bits : List Bool) (x : A) (rest : List Bool) →
    feed asker bits ≡ Fed' x rest → length rest ≤ length bits
feed_rest (Over y) bits x rest h = let same : bits ≡ rest = cc in omega (arith, ap length same)
feed_rest (Asks n go) bits x rest h = elim (le_or_lt n (length bits)) [
  | inl enough ↦
      let shorter : length rest ≤ length (drop n bits) =
      feed_rest (go (take n bits)) (drop n bits) x rest (sym (feed_enough n go bits enough) ∙ h) in
      omega (arith, shorter, length-drop n bits)
  | inr few ↦ let short : feed (Asks n go) bits ≡ Short (n - length bits) = feed_few n go bits few in absurd (cc)
]

-- the replay is not stopped, has used the bits up, and has the real run's mark and output
pub record Alike (real : State) (fed : Fed ReplayPlace) : Type 0 where
  pub place : ReplayPlace
  pub uses : fed ≡ Fed' place []
  pub inside : place.outside ≡ None
  pub address : real.control.pc ≡ place.state.control.pc
  pub mode : is_same_mode real.control.mode place.state.control.mode ≡ true
  pub output : real.control.output ≡ place.state.control.output

pub record Fine (budget : ℕ) (enclosed : Bool) (real : Place) (cross : List Bool) (fed : Fed ReplayPlace) : Type 0 where
  pub unbroken : real.broken ≡ None
  pub running : NotStopped real.state.control.mode
  pub within : length cross ≤ budget
  pub beside : enclosed ≡ false → Alike real.state fed

pub none_broken : (broken : Option Break) (later : Option Why) → why_broken broken later ≡ None →
    (broken ≡ None) × (later ≡ None)
none_broken None later e = (refl, e)
none_broken (Some broken) later e = absurd (cc)

none_budget :
    (test : Bool) (budget needed : ℕ) (later : Option Why) → why_budget test budget needed later ≡ None →
    (test ≡ false) × (later ≡ None)
none_budget true budget needed later e = absurd (cc)
none_budget false budget needed later e = (refl, e)

pub none_mode :
    (mode : Stepped) (budget needed : ℕ) (later : Option Why) → why_mode mode budget needed later ≡ None →
    NotStopped mode × ((nat_lt budget needed ≡ false) × (later ≡ None))
none_mode Ran budget needed later e = (λ fault stopped. cc, none_budget (nat_lt budget needed) budget needed later e)
none_mode (Exited status) budget needed later e =
    (λ fault stopped. cc, none_budget (nat_lt budget needed) budget needed later e)
none_mode (Stopped fault) budget needed later e = absurd (cc)

none_common : (enclosed : Bool) (why : Option Why) → why_common enclosed why ≡ None → enclosed ≡ false → why ≡ None
none_common true why e exposed = absurd (cc)
none_common false why e exposed = e

pub none_output : (difference : Option Difference) → why_output difference ≡ None → difference ≡ None
none_output None e = refl
none_output (Some difference) e = absurd (cc)

pub none_marks :
    (test : Bool) (real copy : Mark) (later : Option Why) →
    (if test then later else Some (Parted real copy)) ≡ None → (test ≡ true) × (later ≡ None)
none_marks true real copy later e = (refl, e)
none_marks false real copy later e = absurd (cc)

none_stopped :
    (mode : Stepped) (real copy : Mark) (difference : Option Difference) →
    why_stopped mode real copy difference ≡ None →
    NotStopped mode × ((is_same_mark real copy ≡ true) × (difference ≡ None))
none_stopped Ran real copy difference e =
    let parts : (is_same_mark real copy ≡ true) × (why_output difference ≡ None) =
    none_marks (is_same_mark real copy) real copy (why_output difference) e in
    (λ fault stopped. cc, (parts.0, none_output difference parts.1))
none_stopped (Exited status) real copy difference e =
    let parts : (is_same_mark real copy ≡ true) × (why_output difference ≡ None) =
    none_marks (is_same_mark real copy) real copy (why_output difference) e in
    (λ fault stopped. cc, (parts.0, none_output difference parts.1))
none_stopped (Stopped fault) real copy difference e = absurd (cc)

pub none_copy :
    (outside : Option Outside) (mode : Stepped) (real copy : Mark) (difference : Option Difference) →
    why_copy outside mode real copy difference ≡ None →
    (outside ≡ None) × (NotStopped mode × ((is_same_mark real copy ≡ true) × (difference ≡ None)))
none_copy None mode real copy difference e = (refl, none_stopped mode real copy difference e)
none_copy (Some outside) mode real copy difference e = absurd (cc)

alike_fed :
    (real : State) (cross : List Bool) (fed : Fed ReplayPlace) →
    ((place : ReplayPlace) (rest : List Bool) → fed ≡ Fed' place rest → length rest ≤ length cross) →
    NotStopped real.control.mode → why_replay real (length cross) fed ≡ None → Alike real fed
alike_fed real cross (Short missing) shorter running e = absurd (cc)
alike_fed real cross (Fed' place rest) shorter running e =
    let parts : (place.outside ≡ None) × (NotStopped place.state.control.mode
    × ((is_same_mark (mark_of real (length cross)) (mark_of place.state (length cross - length rest)) ≡ true)
    × (difference_of real place.state ≡ None))) =
    none_copy place.outside place.state.control.mode (mark_of real (length cross))
    (mark_of place.state (length cross - length rest)) (difference_of real place.state) e in
    let marks : SameMarks (mark_of real (length cross)) (mark_of place.state (length cross - length rest)) =
    marks_same _ _ parts.1.1.0 in
    let none : (byte_difference 0 real.control.output place.state.control.output ≡ None)
    × (status_difference (length real.control.output) real.control.mode place.state.control.mode ≡ None) =
    first_none _ _ parts.1.1.1 in
    let all : length rest ≡ 0 = omega (arith, marks.bits, shorter place rest refl) in
    let empty : rest ≡ [] = nil_from_length rest all in record {
      place = place;
      uses = ap (λ r. Fed' place r) empty;
      inside = parts.0;
      address = marks.address;
      mode =
          same_ends real.control.mode place.state.control.mode (length real.control.output) running parts.1.0
          marks.exited none.1;
      output = no_byte 0 real.control.output place.state.control.output marks.output none.0;
    }

pub fine_of :
    (budget : ℕ) (enclosed : Bool) (real : Place) (cross : List Bool) (asker : Asker ReplayPlace) →
    why_of budget enclosed real cross (feed asker cross) ≡ None → Fine budget enclosed real cross (feed asker cross)
fine_of budget enclosed real cross asker e =
    let whole : (real.broken ≡ None) × (why_mode real.state.control.mode budget (length cross)
    (why_common enclosed (why_replay real.state (length cross) (feed asker cross))) ≡ None) =
    none_broken real.broken _ e in
    let parts : NotStopped real.state.control.mode × ((nat_lt budget (length cross) ≡ false)
    × (why_common enclosed (why_replay real.state (length cross) (feed asker cross)) ≡ None)) =
    none_mode real.state.control.mode budget (length cross) _ whole.1 in record {
      unbroken = whole.0;
      running = parts.0;
      within = ltb-false budget (length cross) parts.1.0;
      beside = λ exposed.
          alike_fed real.state cross (feed asker cross) (λ place rest fed. feed_rest asker cross place rest fed) parts.0
          (none_common enclosed _ parts.1.1 exposed);
    }

mode_none :
    (mode : Stepped) (budget needed : ℕ) (later : Option Why) → NotStopped mode →
    nat_lt budget needed ≡ false → later ≡ None → why_mode mode budget needed later ≡ None
mode_none Ran budget needed later running e f = ap (λ test. why_budget test budget needed later) e ∙ f
mode_none (Exited status) budget needed later running e f = ap (λ test. why_budget test budget needed later) e ∙ f
mode_none (Stopped fault) budget needed later running e f = absurd (running fault refl)

stopped_none :
    (real mode : Stepped) (first second : Mark) (difference : Option Difference) → is_same_mode real mode ≡ true →
    is_same_mark first second ≡ true → difference ≡ None → why_stopped mode first second difference ≡ None
stopped_none real Ran first second difference m e f = rw (e, f) refl
stopped_none real (Exited status) first second difference m e f = rw (e, f) refl
stopped_none Ran (Stopped fault) first second difference m e f = absurd (cc)
stopped_none (Exited status) (Stopped fault) first second difference m e f = absurd (cc)
stopped_none (Stopped other) (Stopped fault) first second difference m e f = absurd (cc)

common_none : (enclosed : Bool) (why : Option Why) → (enclosed ≡ false → why ≡ None) → why_common enclosed why ≡ None
common_none true why h = refl
common_none false why h = h refl

alike_none : (real : State) (cross : List Bool) (fed : Fed ReplayPlace) → Alike real fed →
    why_replay real (length cross) fed ≡ None
alike_none real cross fed alike =
    let ends : (status_difference (length real.control.output) real.control.mode alike.place.state.control.mode ≡ None)
    × (has_exited real.control.mode ≡ has_exited alike.place.state.control.mode) =
    no_status real.control.mode alike.place.state.control.mode (length real.control.output) alike.mode in
    let marks : is_same_mark (mark_of real (length cross)) (mark_of alike.place.state (length cross - 0)) ≡ true =
    same_marks (mark_of real (length cross)) (mark_of alike.place.state (length cross - 0)) (record {
      address = alike.address;
      bits = omega arith;
      output = ap length alike.output;
      exited = ends.1;
    }) in
    let bytes : byte_difference 0 real.control.output alike.place.state.control.output ≡ None =
    subst (λ o. byte_difference 0 real.control.output o ≡ None) alike.output (no_byte_self 0 real.control.output) in
    let same : difference_of real alike.place.state ≡ None =
    ap (λ first. option_or first
    (status_difference (length real.control.output) real.control.mode alike.place.state.control.mode)) bytes ∙ ends.0 in
    ap (λ f. why_replay real (length cross) f) alike.uses
    ∙ (ap (λ o. why_copy o alike.place.state.control.mode (mark_of real (length cross))
    (mark_of alike.place.state (length cross - 0)) (difference_of real alike.place.state)) alike.inside
    ∙ stopped_none real.control.mode alike.place.state.control.mode (mark_of real (length cross))
    (mark_of alike.place.state (length cross - 0)) (difference_of real alike.place.state) alike.mode marks same)

pub none_of : (budget : ℕ) (enclosed : Bool) (real : Place) (cross : List Bool) (fed : Fed ReplayPlace) →
    Fine budget enclosed real cross fed → why_of budget enclosed real cross fed ≡ None
none_of budget enclosed real cross fed fine =
    ap (λ broken. why_broken broken (why_mode real.state.control.mode budget (length cross)
    (why_common enclosed (why_replay real.state (length cross) fed)))) fine.unbroken
    ∙ mode_none real.state.control.mode budget (length cross) _ fine.running (le-ltb budget (length cross) fine.within)
    (common_none enclosed _ (λ exposed. alike_none real.state cross fed (fine.beside exposed)))

-- ---- a condition fails

output_holds :
    (budget : ℕ) (enclosed : Bool) (real : Place) (cross rest : List Bool) (place : ReplayPlace) (why : Why)
    (difference : Option Difference) → enclosed ≡ false →
    rest ≡ [] → difference_of real.state place.state ≡ difference → why_output difference ≡ Some why →
    ReasonHolds budget enclosed real cross (Fed' place rest) why
output_holds budget enclosed real cross rest place why None exposed empty d e = absurd (cc)
output_holds budget enclosed real cross rest place why (Some difference) exposed empty d e =
    let same : OutputDiffers difference.index difference.real difference.replay ≡ why = cc in
    subst (λ w. ReasonHolds budget enclosed real cross (Fed' place rest) w) same
    (exposed, (place, (ap (λ r. Fed' place r) empty, d)))

marks_hold :
    (budget : ℕ) (enclosed : Bool) (real : Place) (cross rest : List Bool) (place : ReplayPlace) (why : Why)
    (test : Bool) → enclosed ≡ false → length rest ≤ length cross →
    is_same_mark (mark_of real.state (length cross)) (mark_of place.state (length cross - length rest)) ≡ test →
    (if test then why_output (difference_of real.state place.state)
    else Some (Parted (mark_of real.state (length cross)) (mark_of place.state (length cross - length rest)))) ≡ Some
    why →
    ReasonHolds budget enclosed real cross (Fed' place rest) why
marks_hold budget enclosed real cross rest place why true exposed shorter t e =
    let marks : SameMarks (mark_of real.state (length cross)) (mark_of place.state (length cross - length rest)) =
    marks_same _ _ t in
    let all : length rest ≡ 0 = omega (arith, marks.bits, shorter) in
    output_holds budget enclosed real cross rest place why (difference_of real.state place.state) exposed
    (nil_from_length rest all) refl e
marks_hold budget enclosed real cross rest place why false exposed shorter t e =
    let same : Parted (mark_of real.state (length cross)) (mark_of place.state (length cross - length rest)) ≡ why =
    cc in
    subst (λ w. ReasonHolds budget enclosed real cross (Fed' place rest) w) same
    (exposed, (place, (rest, (refl, refl, refl, other_marks _ _ t))))

stopped_holds :
    (budget : ℕ) (enclosed : Bool) (real : Place) (cross rest : List Bool) (place : ReplayPlace) (why : Why)
    (mode : Stepped) → enclosed ≡ false → length rest ≤ length cross → place.state.control.mode ≡ mode →
    why_stopped mode (mark_of real.state (length cross)) (mark_of place.state (length cross - length rest))
    (difference_of real.state place.state) ≡ Some why →
    ReasonHolds budget enclosed real cross (Fed' place rest) why
stopped_holds budget enclosed real cross rest place why Ran exposed shorter m e =
    marks_hold budget enclosed real cross rest place why _ exposed shorter refl e
stopped_holds budget enclosed real cross rest place why (Exited status) exposed shorter m e =
    marks_hold budget enclosed real cross rest place why _ exposed shorter refl e
stopped_holds budget enclosed real cross rest place why (Stopped fault) exposed shorter m e =
    let same : ReplayFault (Guest fault) ≡ why = cc in
    subst (λ w. ReasonHolds budget enclosed real cross (Fed' place rest) w) same (exposed, (place, (rest, (refl, m))))

copy_holds :
    (budget : ℕ) (enclosed : Bool) (real : Place) (cross rest : List Bool) (place : ReplayPlace) (why : Why)
    (outside : Option Outside) → enclosed ≡ false → length rest ≤ length cross → place.outside ≡ outside →
    why_copy outside place.state.control.mode (mark_of real.state (length cross))
    (mark_of place.state (length cross - length rest)) (difference_of real.state place.state) ≡ Some why →
    ReasonHolds budget enclosed real cross (Fed' place rest) why
copy_holds budget enclosed real cross rest place why None exposed shorter o e =
    stopped_holds budget enclosed real cross rest place why place.state.control.mode exposed shorter refl e
copy_holds budget enclosed real cross rest place why (Some outside) exposed shorter o e =
    let same : ReplayFault (RangeOutside outside.region outside.range) ≡ why = cc in
    subst (λ w. ReasonHolds budget enclosed real cross (Fed' place rest) w) same (exposed, (place, (rest, (refl, o))))

replay_holds :
    (budget : ℕ) (enclosed : Bool) (real : Place) (cross : List Bool) (fed : Fed ReplayPlace) (why : Why) →
    enclosed ≡ false →
    ((place : ReplayPlace) (rest : List Bool) → fed ≡ Fed' place rest → length rest ≤ length cross) →
    why_replay real.state (length cross) fed ≡ Some why → ReasonHolds budget enclosed real cross fed why
replay_holds budget enclosed real cross (Short missing) why exposed shorter e =
    let same : ReplayFault (TooShort missing) ≡ why = cc in
    subst (λ w. ReasonHolds budget enclosed real cross (Short missing) w) same (exposed, refl)
replay_holds budget enclosed real cross (Fed' place rest) why exposed shorter e =
    copy_holds budget enclosed real cross rest place why place.outside exposed (shorter place rest refl) refl e

common_holds :
    (test : Bool) (budget : ℕ) (enclosed : Bool) (real : Place) (cross : List Bool) (fed : Fed ReplayPlace)
    (why : Why) →
    ((place : ReplayPlace) (rest : List Bool) → fed ≡ Fed' place rest → length rest ≤ length cross) →
    enclosed ≡ test → why_common test (why_replay real.state (length cross) fed) ≡ Some why →
    ReasonHolds budget enclosed real cross fed why
common_holds true budget enclosed real cross fed why shorter t e = absurd (cc)
common_holds false budget enclosed real cross fed why shorter t e =
    replay_holds budget enclosed real cross fed why t shorter e

budget_holds :
    (test : Bool) (budget : ℕ) (enclosed : Bool) (real : Place) (cross : List Bool) (fed : Fed ReplayPlace) (why : Why)
    (later : Option Why) → (later ≡ Some why → ReasonHolds budget enclosed real cross fed why) →
    nat_lt budget (length cross) ≡ test → why_budget test budget (length cross) later ≡ Some why →
    ReasonHolds budget enclosed real cross fed why
budget_holds true budget enclosed real cross fed why later go t e =
    let same : BudgetOverrun budget (counted_bits (length cross)) ≡ why = cc in
    subst (λ w. ReasonHolds budget enclosed real cross fed w) same (refl, (ltb-true budget (length cross) t, refl))
budget_holds false budget enclosed real cross fed why later go t e = go e

mode_holds :
    (mode : Stepped) (budget : ℕ) (enclosed : Bool) (real : Place) (cross : List Bool) (fed : Fed ReplayPlace)
    (why : Why) (later : Option Why) → (later ≡ Some why → ReasonHolds budget enclosed real cross fed why) →
    real.broken ≡ None → real.state.control.mode ≡ mode →
    why_mode mode budget (length cross) later ≡ Some why → ReasonHolds budget enclosed real cross fed why
mode_holds Ran budget enclosed real cross fed why later go none m e =
    budget_holds _ budget enclosed real cross fed why later go refl e
mode_holds (Exited status) budget enclosed real cross fed why later go none m e =
    budget_holds _ budget enclosed real cross fed why later go refl e
mode_holds (Stopped fault) budget enclosed real cross fed why later go none m e =
    let same : RealFault fault ≡ why = cc in subst (λ w. ReasonHolds budget enclosed real cross fed w) same (none, m)

broken_holds :
    (broken : Option Break) (budget : ℕ) (enclosed : Bool) (real : Place) (cross : List Bool) (fed : Fed ReplayPlace)
    (why : Why) (later : Option Why) →
    (real.broken ≡ None → later ≡ Some why → ReasonHolds budget enclosed real cross fed why) →
    real.broken ≡ broken → why_broken broken later ≡ Some why → ReasonHolds budget enclosed real cross fed why
broken_holds None budget enclosed real cross fed why later go b e = go b e
broken_holds (Some broken) budget enclosed real cross fed why later go b e =
    let same : RegionBreak broken ≡ why = cc in subst (λ w. ReasonHolds budget enclosed real cross fed w) same b

pub holds_of :
    (budget : ℕ) (enclosed : Bool) (real : Place) (cross : List Bool) (asker : Asker ReplayPlace) (why : Why) →
    why_of budget enclosed real cross (feed asker cross) ≡ Some why →
    ReasonHolds budget enclosed real cross (feed asker cross) why
holds_of budget enclosed real cross asker why e =
    broken_holds real.broken budget enclosed real cross (feed asker cross) why
    (why_mode real.state.control.mode budget (length cross)
    (why_common enclosed (why_replay real.state (length cross) (feed asker cross))))
    (λ none later. mode_holds real.state.control.mode budget enclosed real cross (feed asker cross) why
    (why_common enclosed (why_replay real.state (length cross) (feed asker cross)))
    (λ common. common_holds enclosed budget enclosed real cross (feed asker cross) why
    (λ place rest fed. feed_rest asker cross place rest fed) refl common) none refl later) refl e
