-- One turn of the real run and of the replay that is fed its crossing bits: the law of one passing, and that a whole
-- turn of an instruction keeps the relation between the two.
use Rattle.std.proofs.Common.{◌≡◌, ℕ, suc, ◌+◌, ◌^◌, ◌<◌, ◌≤◌, Bool, true, false, List, [], ◌∷◌, ◌++◌, length}
use Rattle.std.proofs.Common.{Option, Some, None, refl, sym, ap, ap₂, subst, ◌∙◌, arith}
use Rattle.std.specs.Prelude.{◌==◌, ◌&&◌, if◌then◌else◌}
use Rattle.std.specs.List.{AllByRecursion}
use Rattle.std.proofs.Math.Seq.{take-append_seam, drop-append_seam}
use Rattle.std.proofs.lemmas.Bool.{eqb-true, and_parts}
use Rattle.std.proofs.lemmas.List.{length-append}
use Rattle.flow_base.specs.declared.points.Point.{Point}
use Rattle.flow_base.specs.Words.{Agree, bits_under, bit_count, patched}
use Rattle.crossing_bits.specs.Askers.{Asker, Asks, feed}
use Rattle.crossing_bits.proofs.Feeding.{feed_enough}
use Rattle.crossing_bits.proofs.Places.{length_bits_under}
use Rattle.flow_base.proofs.PointOrders.{one_if_same}
use Rattle.flow_base.specs.PointOrders.{is_same}
use Rattle.flow_graph.specs.declared.events.Event.{Event}
use Rattle.flow_graph.specs.declared.events.Event.TheVariants.{Pass, Link, FromSecret, Implicit, Out}
use Rattle.rv32im_machine.specs.declared.language.Aim.{Aim}
use Rattle.rv32im_machine.specs.declared.language.Aim.TheVariants.{Put, Decide, Give}
use Rattle.rv32im_machine.specs.declared.language.Place.{Place}
use Rattle.rv32im_machine.specs.declared.language.Place.TheVariants.{Register, Byte}
use Rattle.rv32im_machine.specs.declared.language.Seen.{Seen}
use Rattle.rv32im_machine.specs.declared.language.Seen.TheVariants.{Word, Base}
use Rattle.rv32im_machine.specs.declared.language.Source.{Source}
use Rattle.rv32im_machine.specs.declared.language.Source.TheVariants.{At, Constant, Secret}
use Rattle.rv32im_machine.specs.declared.language.Sources.{Sources}
use Rattle.rv32im_machine.specs.declared.language.Sources.TheVariants.{One, Two, Byte as BytesOne, Half as BytesTwo}
use Rattle.rv32im_machine.specs.declared.language.Sources.TheVariants.{Word as BytesFour}
use Rattle.rv32im_machine.specs.State.{Store, byte_of}
use Rattle.rv32im_machine.specs.Language.{Held, at_place, seen_value}
use Rattle.replay_machine.specs.Runs.{Masks, mask_at, times_passed}
use Rattle.shadow_masks.specs.declared.labels.Label.{Label}
use Rattle.shadow_masks.specs.Labels.{clean}
use Rattle.shadow_masks.specs.Pages.{label_of}
use Rattle.run_labels.specs.TurnLabels.{TurnLabels, label_at}
use Rattle.run_labels.specs.Masks.{byte_mask}
use Rattle.run_labels.specs.Flowing.{link_from, source_events, byte_events, sources_events, aim_events}
use Rattle.run_labels.specs.Looking.{look_fault}
use Rattle.run_labels.specs.declared.faults.MeasureFault.{MeasureFault}
use Rattle.run_labels.specs.declared.faults.MeasureFault.TheVariants.{SecretCode, BaseSecret}
use Rattle.acceptance_law.specs.Sides.{NamedSide, is_split}
use Rattle.acceptance_law.specs.ClosedEvents.{AreClosedEvents}
use Rattle.acceptance_law.specs.Covers.{IsMaskWithin, AreContained, past_after}
use Rattle.acceptance_law.specs.RunCuts.{is_inner}
use Rattle.acceptance_law.specs.Inputs.{place_limit, IsLook}
use Rattle.acceptance_law.proofs.AgreeOutsideMask.{agree_zero, patched_agrees, patched_covers, patched_same}
use Rattle.acceptance_law.proofs.WritesKeepRelation.{close_equal, Beside}
use Rattle.flow_base.specs.Listed.{is_listed}
use Rattle.std.specs.Option.{option_or}

-- ---- bits that are asked for

pub feed_bits : {A : Type 0} (value mask : ℕ) (go : List Bool → Asker A) (rest : List Bool) →
    feed (Asks (bit_count mask) go) (bits_under value mask ++ rest) ≡ feed (go (bits_under value mask)) rest
feed_bits value mask go rest =
    let bits = bits_under value mask in
    subst (λ n. feed (Asks n go) (bits ++ rest) ≡ feed (go bits) rest) (length_bits_under value mask)
    (feed_enough (length bits) go (bits ++ rest) (omega (arith, length-append bits rest))
    ∙ ap₂ (λ a b. feed (go a) b) (take-append_seam bits rest) (drop-append_seam bits rest))

-- ---- counts of visits

-- no inner point of a skipped region is the same point
abbrev pub NeverInner : List ℕ → Point → Type 0
NeverInner skip point = (other : Point) → is_inner skip other ≡ true → is_same point other ≡ false

-- each point that is no inner one has been passed as often in both lists
abbrev pub SameCounts : List ℕ → List Point → List Point → Type 0
SameCounts skip first second =
    (point : Point) → NeverInner skip point → times_passed point first ≡ times_passed point second

pub counts_step : (skip : List ℕ) (x : Point) (first second : List Point) → SameCounts skip first second →
    SameCounts skip (x ∷ first) (x ∷ second)
counts_step skip x first second same point outside =
    ap (λ n. if is_same point x then suc n else n) (same point outside)

pub mask_same : (skip : List ℕ) (masks : Masks) (x : Point) (first second : List Point) → SameCounts skip first second →
    NeverInner skip x → mask_at masks first x ≡ mask_at masks second x
mask_same skip masks x first second same outside = ap (λ n. masks x (suc n)) (same x outside)

-- a passing of an inner point counts for no other point
pub inner_step : (skip : List ℕ) (x point : Point) (past : List Point) → is_inner skip x ≡ true →
    NeverInner skip point → times_passed point (x ∷ past) ≡ times_passed point past
inner_step skip x point past inner never =
    ap (λ (t : Bool). if t then suc (times_passed point past) else times_passed point past) (never x inner)

not_both : {t : Bool} → t ≡ true → t ≡ false → ⊥
not_both p q = cc

-- a point of a region that isn't skipped is none
pub outside_never : (skip : List ℕ) (point : Point) → is_listed skip point.region ≡ false → NeverInner skip point
outside_never skip point out other inner = pick (is_same point other) refl
  where
    pick : (t : Bool) → is_same point other ≡ t → t ≡ false
    pick false e = refl
    pick true e =
        let region : point.region ≡ other.region =
        ap (λ (p : Point). p.region) (one_if_same point other e) in
        let stands : is_listed skip other.region ≡ true = (and_parts (is_listed skip other.region) _ inner).0 in
        absurd (not_both (subst (λ r. is_listed skip r ≡ true) (sym region) stands) out)

-- ---- events without a passing

abbrev pub NoPass : Event → Type 0
NoPass (Pass point mask) = ⊥
NoPass (Link source target) = Unit {0}
NoPass (FromSecret point) = Unit {0}
NoPass (Implicit point region) = Unit {0}
NoPass (Out region point) = Unit {0}

abbrev pub NoPasses : List Event → Type 0
NoPasses events = AllByRecursion NoPass events

pub none_append : (es fs : List Event) → NoPasses es → NoPasses fs → NoPasses (es ++ fs)
none_append [] fs h k = k
none_append (e ∷ es) fs h k = (h.0, none_append es fs h.1 k)

none_link : (label : Label) (point : Point) → NoPasses (link_from label point)
none_link label point = pick (label.mask == 0)
  where
    pick : (t : Bool) → NoPasses (if t then [] else Link label.point point ∷ [])
    pick true = tt
    pick false = (tt, tt)

none_source : (labels : TurnLabels) (point : Point) (source : Source) → NoPasses (source_events labels point source)
none_source labels point (At place) = none_link (label_at labels place) point
none_source labels point (Constant value) = tt
none_source labels point (Secret index) = (tt, tt)

none_byte : (labels : TurnLabels) (point : Point) (address : ℕ) → NoPasses (byte_events labels point address)
none_byte labels point address = none_link (labels.map.bytes address) point

pub none_sources : (labels : TurnLabels) (point : Point) (sources : Sources) →
    NoPasses (sources_events labels point sources)
none_sources labels point (One source) = none_source labels point source
none_sources labels point (Two first second) =
    none_append _ _ (none_source labels point first) (none_source labels point second)
none_sources labels point (BytesOne address) = none_byte labels point address
none_sources labels point (BytesTwo address) =
    none_append _ _ (none_byte labels point address) (none_byte labels point (address + 1))
none_sources labels point (BytesFour address) =
    none_append _ _ (none_byte labels point address)
    (none_append _ _ (none_byte labels point (address + 1))
    (none_append _ _ (none_byte labels point (address + 2)) (none_byte labels point (address + 3))))

pub none_aim : (point : Point) (aim : Aim) → NoPasses (aim_events point aim)
none_aim point (Put place) = tt
none_aim point Decide = (tt, tt)
none_aim point (Give place) = (tt, tt)

pub none_if : (t : Bool) (es : List Event) → NoPasses es → NoPasses (if t then [] else es)
none_if true es h = tt
none_if false es h = h

skip_event : (side : NamedSide) (skip : List ℕ) (masks : Masks) (past : List Point) (e : Event) (es : List Event) →
    NoPass e → AreContained side skip masks (past_after e past) es → AreContained side skip masks past es
skip_event side skip masks past (Pass point mask) es h k = absurd h
skip_event side skip masks past (Link source target) es h k = k
skip_event side skip masks past (FromSecret point) es h k = k
skip_event side skip masks past (Implicit point region) es h k = k
skip_event side skip masks past (Out region point) es h k = k

pub contained_after : (side : NamedSide) (skip : List ℕ) (masks : Masks) (past : List Point) (es fs : List Event) →
    NoPasses es → AreContained side skip masks past (es ++ fs) → AreContained side skip masks past fs
unfolding AreContained
contained_after side skip masks past [] fs none h = h
contained_after side skip masks past (e ∷ es) fs none h =
    contained_after side skip masks past es fs none.1 (skip_event side skip masks past e (es ++ fs) none.0 h.1)

-- ---- one passing

-- what goes on after a patch: values that agree outside a mask, and are equal where the second half is outside
abbrev pub CloseAt : NamedSide → ℕ → Point → ℕ → ℕ → Type 0
CloseAt side mask point real copy = Agree mask real copy × (side.second point ≡ false → real ≡ copy)

-- after the patch by a mask that holds the bits of the passing's mask where the point is split
pub patched_close : (side : NamedSide) (point : Point) (m c r y : ℕ) → r < 2 ^ 32 → Agree m r y →
    (side.first point ≡ false → r ≡ y) → (is_split side point ≡ true → IsMaskWithin m c) →
    CloseAt side m point r (patched y c (bits_under r c))
patched_close side point m c r y fits agree equal contained = (
  patched_agrees m c r y fits agree,
  λ outside. pick outside (side.first point) refl,
)
  where
    split : side.second point ≡ false → side.first point ≡ true → is_split side point ≡ true
    split outside inside = rw (inside, outside) refl

    pick : side.second point ≡ false → (t : Bool) → side.first point ≡ t → r ≡ patched y c (bits_under r c)
    pick outside true inside = patched_covers m c r y fits (contained (split outside inside)) agree
    pick outside false away =
        subst (λ k. r ≡ patched k c (bits_under r c)) (equal away) (patched_same c r fits)

pub closed_if : (side : NamedSide) (m : ℕ) (es : List Event) (r y : ℕ) → Agree m r y →
    AreClosedEvents side (if m == 0 then [] else es) → (AreClosedEvents side es → r ≡ y) → r ≡ y
closed_if side m es r y agree h equal = pick (m == 0) refl h
  where
    pick : (t : Bool) → (m == 0) ≡ t → AreClosedEvents side (if t then [] else es) → r ≡ y
    pick true e closed = agree_zero r y (subst (λ k. Agree k r y) (eqb-true m 0 e) agree)
    pick false e closed = equal closed

pub label_of_limit : (mask : ℕ) (point : Point) (limit : ℕ) → mask ≤ limit → (label_of mask point).mask ≤ limit
label_of_limit mask point limit h = pick (mask == 0)
  where
    pick : (t : Bool) → (if t then clean else record { mask = mask; point = point }).mask ≤ limit
    pick true = omega arith
    pick false = h

-- ---- looks

pub first_none : (first later : Option MeasureFault) → option_or first later ≡ None → (first ≡ None) × (later ≡ None)
first_none None later e = (refl, e)
first_none (Some fault) later e = absurd (cc)

-- what is looked at without a refusal may not depend on the secret
pub word_clean : {A : Type 0} (look : A) (a b c d : ℕ) →
    (if (a == 0) && ((b == 0) && ((c == 0) && (d == 0))) then None else Some look) ≡ None →
    (a ≡ 0) × (b ≡ 0) × (c ≡ 0) × (d ≡ 0)
word_clean look a b c d e = pick ((a == 0) && ((b == 0) && ((c == 0) && (d == 0)))) refl e
  where
    pick : (t : Bool) → ((a == 0) && ((b == 0) && ((c == 0) && (d == 0)))) ≡ t →
        (if t then None else Some look) ≡ None → (a ≡ 0) × (b ≡ 0) × (c ≡ 0) × (d ≡ 0)
    pick true is none =
        let one = and_parts (a == 0) _ is in
        let two = and_parts (b == 0) _ one.1 in
        let three = and_parts (c == 0) _ two.1 in
        (eqb-true a 0 one.0, eqb-true b 0 two.0, eqb-true c 0 three.0, eqb-true d 0 three.1)
    pick false is none = absurd (cc)

pub base_clean : {A : Type 0} (look : A) (a : ℕ) → (if a == 0 then None else Some look) ≡ None → a ≡ 0
base_clean look a e = pick (a == 0) refl e
  where
    pick : (t : Bool) → (a == 0) ≡ t → (if t then None else Some look) ≡ None → a ≡ 0
    pick true is none = eqb-true a 0 is
    pick false is none = absurd (cc)

-- what is seen of a word whose bytes have no mask is equal
pub word_equal : (side : NamedSide) (base : ℕ) (labels : TurnLabels) (real : Store) (held : Held) (copy : Store)
    (taken : Held) → Beside side base labels real held copy taken → (address : ℕ) → base ≤ address →
    (byte_mask labels address ≡ 0) × (byte_mask labels (address + 1) ≡ 0) × (byte_mask labels (address + 2) ≡ 0)
    × (byte_mask labels (address + 3) ≡ 0) → seen_value base real (Word address) ≡ seen_value base copy (Word address)
word_equal side base labels real held copy taken beside address from none =
    let second_from : base ≤ address + 1 = omega (arith, from) in
    let third_from : base ≤ address + 2 = omega (arith, from) in
    let fourth_from : base ≤ address + 3 = omega (arith, from) in
    let equal : (a : ℕ) → base ≤ a → byte_mask labels a ≡ 0 → byte_of base real a ≡ byte_of base copy a =
    λ a le m. close_equal side (labels.map.bytes a) _ _ m (beside.places (Byte a) le) in
    let one = equal address from none.0 in
    let two = equal (address + 1) second_from none.1 in
    let three = equal (address + 2) third_from none.2 in
    let four = equal (address + 3) fourth_from none.3 in
    cc

pub look_equal : (side : NamedSide) (base number : ℕ) (labels : TurnLabels) (real : Store) (held : Held) (copy : Store)
    (taken : Held) → Beside side base labels real held copy taken → (seen : Seen) → IsLook base seen →
    look_fault number labels seen ≡ None → seen_value base real seen ≡ seen_value base copy seen
look_equal side base number labels real held copy taken beside (Word address) from e =
    word_equal side base labels real held copy taken beside address from (word_clean (SecretCode address) _ _ _ _ e)
look_equal side base number labels real held copy taken beside (Base register) from e =
    close_equal side (labels.map.registers register) _ _ (base_clean (BaseSecret number register) _ e)
    (beside.places (Register register) tt)

pub seen_word : (base : ℕ) (store : Store) (held : Held) →
    ((place : Place) → at_place base store held place ≤ place_limit place) → (seen : Seen) →
    seen_value base store seen < 2 ^ 32
seen_word base store held limits (Word address) =
    let a = limits (Byte address) in let b = limits (Byte (address + 1)) in
    let c = limits (Byte (address + 2)) in let d = limits (Byte (address + 3)) in omega (arith, a, b, c, d)
seen_word base store held limits (Base register) = let a = limits (Register register) in omega (arith, a)
