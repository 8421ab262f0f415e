-- The paths of a walk weigh no more than the strings of its budget's bits, and end in patterns whose masks are words.
use Rattle.std.proofs.Common.{◌≡◌, ◌⊎◌, ⊎_elim, inl, inr, ℕ, zero, suc, ◌+◌, ◌-◌, ◌*◌, ◌/◌, ◌%◌, ◌^◌, ◌≤◌, ◌<◌}
use Rattle.std.proofs.Common.{List, [], ◌∷◌, ◌++◌, Bool, true, false, Option, Some, None, refl, sym, ap, subst, ◌∙◌, arith}
use Rattle.std.specs.Prelude.{bit_and, nat_le, nat_lt, if◌then◌else◌}
use Rattle.std.proofs.lemmas.Bool.{le-leb, lt-leb, ltb-false}
use Rattle.std.proofs.lemmas.Nat.{and_shr, pow-add}
use Rattle.std.proofs.lemmas.Nat.Bits.{bit_at_and, bit_at_lowest}
use Rattle.std.proofs.Math.Nat.{pow-le-pow_right}
use Rattle.flow_base.specs.Words.{bit_count, count_below, patched}
use Rattle.crossing_bits.specs.Askers.{Asker, Over, then_ask}
use Rattle.crossing_bits.proofs.Feeding.{le_or_lt}
use Rattle.crossing_bits.proofs.Places.{count_zero, parity}
use Rattle.lockstep_replay.specs.Tasks.{Limits, Task, replay_start}
use Rattle.lockstep_replay.specs.Verdicts.{counted_bits}
use Rattle.masked_turns.specs.Clearing.{Cutting, crossing_at}
use Rattle.masked_turns.specs.Deciding.{left_at}
use Rattle.masked_turns.specs.Looking.{look_at}
use Rattle.region_machine.specs.Enclosures.{kind_of}
use Rattle.replay_machine.specs.declared.outsides.Outside.{Outside}
use Rattle.replay_machine.specs.ReplayTurns.{kind_outside_range, replay_kind_walk}
use Rattle.run_labels.specs.Runs.{entered_number}
use Rattle.run_labels.specs.TurnLabels.{put_label, save_labels, restore_labels}
use Rattle.rv32im_machine.specs.declared.stepping.Stepped.{Stepped}
use Rattle.rv32im_machine.specs.declared.stepping.Stepped.TheVariants.{Ran, Exited, Stopped}
use Rattle.rv32im_machine.specs.Language.{Walk, Looked, Passed, Moved, Saved, Restored, Ended}
use Rattle.every_secret.specs.declared.path_ends.PathEnd.{PathEnd}
use Rattle.every_secret.specs.declared.shown.Shown.{Shown}
use Rattle.every_secret.specs.declared.shown.Shown.TheVariants.{Nothing, WrittenByte, ExitStatus}
use Rattle.every_secret.specs.declared.whys.UnclearWhy.{UnclearWhy}
use Rattle.every_secret.specs.declared.path_ends.PathEnd.TheVariants.{Exits, Stops, Unclear}
use Rattle.every_secret.specs.declared.stops.PathStop.TheVariants.{RangeOutside}
use Rattle.every_secret.specs.declared.whys.UnclearWhy.TheVariants.{BaseSecret}
use Rattle.every_secret.specs.Bounds.{free_count}
use Rattle.every_secret.specs.Masked.{Goes, Halts, MaskedPlace, Meets, Reached, label_moved, masked, unclear_by_left, unclear_by_look, unless_met}
use Rattle.every_secret.specs.Paths.{tree_of}
use Rattle.every_secret.specs.Replays.{MaskedReplay, ended_or, pattern_of, unless_ended, unless_over, masked_start, walked_on}
use Rattle.every_secret.specs.Rules.{Rules}
use Rattle.every_secret.specs.Shown.{asked_for, byte_masks_after, shown_at, status_mask_after}
use Rattle.every_secret.specs.Turns.{cutting_of, knowledge_at, secret_base_of, turn_from, turn_inside}
use Rattle.every_secret.specs.Visits.{Knowledge, differing_at, known_after, left_of_mask}
use Rattle.every_secret.proofs.PathWeights.{end_weight, forks_weight, tree_weight}

-- ---- how many bits a mask has within another

count_odd : (places mask : ℕ) → mask % 2 ≡ 1 → count_below (suc places) mask ≡ suc (count_below places (mask / 2))
unfolding count_below
count_odd places mask odd = rw odd refl

count_even : (places mask : ℕ) → mask % 2 ≡ 0 → count_below (suc places) mask ≡ count_below places (mask / 2)
unfolding count_below
count_even places mask even = rw even refl

count_none : (mask : ℕ) → count_below zero mask ≡ 0
unfolding count_below
count_none mask = refl

count_step : (places mask crossing : ℕ) →
    count_below places (bit_and (mask / 2) (crossing / 2)) ≤ count_below places (crossing / 2) →
    count_below (suc places) (bit_and mask crossing) ≤ count_below (suc places) crossing
count_step places mask crossing higher = pick (parity (bit_and mask crossing)) (parity crossing)
  where
    lowest : bit_and mask crossing % 2 ≤ crossing % 2
    lowest =
        let both = bit_at_and mask crossing 0 in
        let one = bit_at_lowest (bit_and mask crossing) in
        let two = bit_at_lowest crossing in
        omega (arith, both, one, two)

    rest : count_below places (bit_and mask crossing / 2) ≤ count_below places (crossing / 2)
    rest = subst (λ n. count_below places n ≤ count_below places (crossing / 2)) (sym (and_shr mask crossing 1)) higher

    pick : (bit_and mask crossing % 2 ≡ 0) ⊎ (bit_and mask crossing % 2 ≡ 1) →
        (crossing % 2 ≡ 0) ⊎ (crossing % 2 ≡ 1) →
        count_below (suc places) (bit_and mask crossing) ≤ count_below (suc places) crossing
    pick (inl none) (inl even) =
        omega (arith, rest, count_even places (bit_and mask crossing) none, count_even places crossing even)
    pick (inl none) (inr odd) =
        omega (arith, rest, count_even places (bit_and mask crossing) none, count_odd places crossing odd)
    pick (inr some) (inl even) = absurd (omega (arith, lowest, some, even))
    pick (inr some) (inr odd) =
        omega (arith, rest, count_odd places (bit_and mask crossing) some, count_odd places crossing odd)

count_within : (places mask crossing : ℕ) → count_below places (bit_and mask crossing) ≤ count_below places crossing
count_within zero mask crossing =
    let none = count_none (bit_and mask crossing) in omega (arith, none)
count_within (suc places) mask crossing =
    count_step places mask crossing (count_within places (mask / 2) (crossing / 2))

-- ---- the room that is left

-- of masks of bytes and of a status the free bits
abbrev pub free_of : List ℕ → ℕ → ℕ
free_of byte_masks status_mask = free_count byte_masks + bit_count status_mask

-- 2 to the free bits so far and the bits that may still cross, where no more have crossed than may
abbrev pub room : ℕ → ℕ → ℕ → ℕ
room budget crossed free = if nat_le crossed budget then 2 ^ (free + (budget - crossed)) else 0

room_within : (budget crossed free : ℕ) → crossed ≤ budget → room budget crossed free ≡ 2 ^ (free + (budget - crossed))
room_within budget crossed free within = rw (le-leb crossed budget within) refl

room_over : (budget crossed free : ℕ) → budget < crossed → room budget crossed free ≡ 0
room_over budget crossed free over = rw (lt-leb crossed budget over) refl

room_after : (budget crossed free asked later count : ℕ) → budget < 4294967295 → asked + later ≤ free + count →
    2 ^ asked * room budget (counted_bits (crossed + count)) later ≤ room budget crossed free
room_after budget crossed free asked later count small fewer =
    ⊎_elim (λ within. inside within) (λ over. none over) (le_or_lt (counted_bits (crossed + count)) budget)
  where
    none : budget < counted_bits (crossed + count) →
        2 ^ asked * room budget (counted_bits (crossed + count)) later ≤ room budget crossed free
    none over =
        let nothing : 2 ^ asked * room budget (counted_bits (crossed + count)) later ≡ 2 ^ asked * 0 =
        ap (λ n. 2 ^ asked * n) (room_over budget (counted_bits (crossed + count)) later over) in
        omega (arith, nothing)

    inside : counted_bits (crossed + count) ≤ budget →
        2 ^ asked * room budget (counted_bits (crossed + count)) later ≤ room budget crossed free
    inside within =
        let all : counted_bits (crossed + count) ≡ crossed + count = omega (arith, within, small) in
        let enough : crossed + count ≤ budget = omega (arith, within, all) in
        let after : room budget (counted_bits (crossed + count)) later ≡ 2 ^ (later + (budget - (crossed + count))) =
        ap (λ n. room budget n later) all ∙ room_within budget (crossed + count) later enough in
        let before : room budget crossed free ≡ 2 ^ (free + (budget - crossed)) =
        room_within budget crossed free (omega (arith, enough)) in
        let product : 2 ^ asked * room budget (counted_bits (crossed + count)) later
        ≡ 2 ^ (asked + (later + (budget - (crossed + count)))) =
        ap (λ n. 2 ^ asked * n) after ∙ sym (pow-add 2 asked (later + (budget - (crossed + count)))) in
        let grows : 2 ^ (asked + (later + (budget - (crossed + count)))) ≤ 2 ^ (free + (budget - crossed)) =
        pow-le-pow_right {n = 2} (omega arith) (omega (arith, fewer, enough)) in
        omega (arith, product, before, grows)

free_more : (masks : List ℕ) (mask : ℕ) → free_count (masks ++ mask ∷ []) ≡ free_count masks + bit_count mask
free_more [] mask = omega arith
free_more (first ∷ masks) mask = let rest = free_more masks mask in omega (arith, rest)

-- the bits that are asked for and those that become free are no more than those that cross
fewer_free : (shown : Shown) (differing crossing : ℕ) (byte_masks : List ℕ) (status_mask : ℕ) →
    bit_count differing ≤ crossing →
    asked_for shown differing
    + free_of (byte_masks_after shown differing byte_masks) (status_mask_after shown differing status_mask)
    ≤ free_of byte_masks status_mask + crossing
fewer_free Nothing differing crossing byte_masks status_mask few = omega (arith, few)
fewer_free WrittenByte differing crossing byte_masks status_mask few =
    let more = free_more byte_masks differing in omega (arith, few, more)
fewer_free ExitStatus differing crossing byte_masks status_mask few = omega (arith, few)

-- ---- the weight of a turn and of what follows it

module _ (rules : Rules) (budget : ℕ) (small : budget < 4294967295) (next : Reached → Asker PathEnd)
    (goes : (place : MaskedPlace) → tree_weight (tree_of (next (Goes place)))
    ≤ room budget place.crossed (free_of place.byte_masks place.status_mask))
    (meets : (why : UnclearWhy) → tree_weight (tree_of (next (Meets why))) ≡ 0)
    (halts : (outside : Outside) → tree_weight (tree_of (next (Halts outside))) ≡ 0) where
  met_weight : (why : Option UnclearWhy) (rest : Asker Reached) (limit : ℕ) →
      tree_weight (tree_of (then_ask rest next)) ≤ limit →
      tree_weight (tree_of (then_ask (unless_met why rest) next)) ≤ limit
  met_weight None rest limit few = few
  met_weight (Some why) rest limit few = let none = meets why in omega (arith, none)

  walk_weight : (cutting : Cutting) (region : ℕ) (known : Knowledge) (walk : Walk) →
      tree_weight (tree_of (then_ask (masked rules cutting region known walk) next))
      ≤ room budget known.crossed (free_of known.byte_masks known.status_mask)
  unfolding masked tree_of
  walk_weight cutting region known (Looked seen value walk) =
      met_weight (unclear_by_look (look_at region known.labels seen)) (masked rules cutting region known walk)
      (room budget known.crossed (free_of known.byte_masks known.status_mask))
      (walk_weight cutting region known walk)
  walk_weight cutting region known (Passed passing go) =
      let differing = differing_at rules cutting known passing in
      let crossing = crossing_at cutting known.past passing in
      let after = known_after rules cutting known passing in
      let limit = room budget after.crossed (free_of after.byte_masks after.status_mask) in
      let asked = asked_for (shown_at passing.point.slot) differing in
      let all = forks_weight asked (λ bits. tree_of (then_ask
      (unless_met (unclear_by_left (left_at passing.aim passing.point (left_of_mask rules cutting known passing)))
      (masked rules cutting region after (go (patched passing.value differing bits)))) next)) limit
      (λ bits. met_weight (unclear_by_left (left_at passing.aim passing.point (left_of_mask rules cutting known passing)))
      (masked rules cutting region after (go (patched passing.value differing bits))) limit
      (walk_weight cutting region after (go (patched passing.value differing bits)))) in
      let fits = room_after budget known.crossed (free_of known.byte_masks known.status_mask) asked
      (free_of after.byte_masks after.status_mask) (bit_count crossing) small
      (fewer_free (shown_at passing.point.slot) differing (bit_count crossing) known.byte_masks known.status_mask
      (count_within 32 _ crossing)) in
      omega (arith, all, fits)
  walk_weight cutting region known (Moved place shape source value walk) =
      walk_weight cutting region
      (record known { labels = put_label place (label_moved rules.public cutting.skipped known.labels place shape source) known.labels }) walk
  walk_weight cutting region known (Saved walk) =
      walk_weight cutting region (record known { labels = save_labels known.labels }) walk
  walk_weight cutting region known (Restored registers walk back) =
      walk_weight cutting region (record known { labels = restore_labels registers known.labels }) back
  walk_weight cutting region known (Ended state) = goes _

  inside_weight : (outside : Option Outside) (turn : Asker Reached) (limit : ℕ) →
      tree_weight (tree_of (then_ask turn next)) ≤ limit →
      tree_weight (tree_of (then_ask (turn_inside outside turn) next)) ≤ limit
  inside_weight None turn limit few = few
  inside_weight (Some outside) turn limit few = let none = halts outside in omega (arith, none)

  from_weight : (register : Option ℕ) (region : ℕ) (turn : Asker Reached) (limit : ℕ) →
      tree_weight (tree_of (then_ask turn next)) ≤ limit →
      tree_weight (tree_of (then_ask (turn_from register region turn) next)) ≤ limit
  from_weight None region turn limit few = few
  from_weight (Some register) region turn limit few =
      let none = meets (BaseSecret region register) in omega (arith, none)

-- ---- the weight of a walk

exit_weight : (budget status : ℕ) (place : MaskedPlace) → place.crossed ≤ budget →
    tree_weight (tree_of (Over (Exits (pattern_of place status))))
    ≤ room budget place.crossed (free_of place.byte_masks place.status_mask)
unfolding tree_of
exit_weight budget status place within =
    let free = free_of place.byte_masks place.status_mask in
    let is = room_within budget place.crossed free within in
    let grows : 2 ^ free ≤ 2 ^ (free + (budget - place.crossed)) =
    pow-le-pow_right {n = 2} (omega arith) (omega arith) in
    omega (arith, is, grows)

over_weight : (budget : ℕ) (over : Bool) (place : MaskedPlace) (later : Asker PathEnd) →
    nat_lt budget place.crossed ≡ over →
    (place.crossed ≤ budget →
    tree_weight (tree_of later) ≤ room budget place.crossed (free_of place.byte_masks place.status_mask)) →
    tree_weight (tree_of (unless_over over budget place later))
    ≤ room budget place.crossed (free_of place.byte_masks place.status_mask)
unfolding tree_of
over_weight budget true place later is few = omega arith
over_weight budget false place later is few = few (ltb-false budget place.crossed is)

ended_weight : (budget : ℕ) (mode : Stepped) (place : MaskedPlace) (later : Asker PathEnd) →
    tree_weight (tree_of later) ≤ room budget place.crossed (free_of place.byte_masks place.status_mask) →
    tree_weight (tree_of (unless_ended mode budget place later))
    ≤ room budget place.crossed (free_of place.byte_masks place.status_mask)
unfolding tree_of
ended_weight budget Ran place later few =
    over_weight budget (nat_lt budget place.crossed) place later refl (λ within. few)
ended_weight budget (Exited status) place later few =
    over_weight budget (nat_lt budget place.crossed) place (Over (Exits (pattern_of place status))) refl
    (λ within. exit_weight budget status place within)
ended_weight budget (Stopped fault) place later few = omega arith

over_zero : (e : PathEnd) → tree_weight (tree_of (Over e)) ≡ end_weight e
unfolding tree_of
over_zero e = refl

walked_weight : (rules : Rules) (task : Task) (limits : Limits) → limits.budget < 4294967295 → (turns : ℕ)
    (place : MaskedPlace) →
    tree_weight (tree_of (walked_on rules task limits turns place))
    ≤ room limits.budget place.crossed (free_of place.byte_masks place.status_mask)
unfolding walked_on tree_of
walked_weight rules task limits small zero place = omega arith
walked_weight rules task limits small (suc turns) place =
    let kind = kind_of task.enclosures.regions place.state.control in
    let next : Reached → Asker PathEnd =
    λ reached. ended_or limits.budget reached (λ after. walked_on rules task limits turns after) in
    let goes = λ (after : MaskedPlace). ended_weight limits.budget after.state.control.mode after
    (walked_on rules task limits turns after) (walked_weight rules task limits small turns after) in
    let meets = λ (why : UnclearWhy). over_zero (Unclear why) in
    let halts = λ (outside : Outside). over_zero (Stops (RangeOutside outside)) in
    let limit = room limits.budget place.crossed (free_of place.byte_masks place.status_mask) in
    let turn = masked rules (cutting_of task kind) (entered_number kind) (knowledge_at place)
    (replay_kind_walk task.enclosures kind place.state) in
    from_weight rules limits.budget small next goes meets halts (secret_base_of kind place.labels) (entered_number kind)
    (turn_inside (kind_outside_range kind place.state) turn) limit
    (inside_weight rules limits.budget small next goes meets halts (kind_outside_range kind place.state) turn limit
    (walk_weight rules limits.budget small next goes meets halts (cutting_of task kind) (entered_number kind)
    (knowledge_at place) (replay_kind_walk task.enclosures kind place.state)))

pub replay_weight : (rules : Rules) (task : Task) (limits : Limits) → limits.budget < 4294967295 →
    tree_weight (tree_of (MaskedReplay rules task limits)) ≤ 2 ^ limits.budget
replay_weight rules task limits small =
    let all = walked_weight rules task limits small limits.turns (masked_start (replay_start task)) in
    let is = room_within limits.budget 0 (free_of [] 0) (omega arith) in
    let none : bit_count 0 ≡ 0 = count_zero 32 in
    let same : 2 ^ (free_of [] 0 + (limits.budget - 0)) ≡ 2 ^ limits.budget =
    ap (λ n. 2 ^ n) (omega (arith, none)) in
    omega (arith, all, is, same)
