use Rattle.std.proofs.Common.{◌≡◌, ◌+◌, ◌≤◌, ◌<◌, ◌^◌, true, false, unwrap_or, sym, ap}
use Rattle.std.proofs.Common.{◌∙◌, inl, inr, ⊎_elim, arith, subst}
use Rattle.std.specs.Option.{is_some}
use Rattle.std.specs.Prelude.{count_ones}
use Rattle.std.proofs.lemmas.Bool.{cases_Bool}
use Rattle.std.proofs.lemmas.Option.{slice_get_within}
use Rattle.std.proofs.lemmas.Result.{on_ok_weaker}
use Rattle.flow_base.specs.Words.{bit_count}
use Rattle.flow_base.specs.PointOrders.{is_same}
use Rattle.flow_graph.specs.Keeping.{capacity_in, count_in}
use Rattle.flow_graph.proofs.MaskBitCounts.{bit_count_zero, bit_count_ones, bit_count_bound, ones_some}
use Rattle.hinted_map.specs.Maps.{StandsAt}
use Rattle.hinted_map.proofs.Places.{value_at}
use Rattle.location_collapse.proofs.CapacityMaps.{found_small, grows_put, counted_put}
use Rattle.location_collapse.proofs.kept_points.KeptPoints.pass.Goals as goal

pub returns-then-mask-eq0-clause-counted : goal.returns-then-mask-eq0-clause-counted
returns-then-mask-eq0-clause-counted c = λ q.
    let none : bit_count c.args.mask ≡ 0 = ap bit_count c.if-mask-eq0.true ∙ bit_count_zero in
    rw none (⊎_elim (λ (t : is_same c.args.point q ≡ true). rw t (omega arith))
    (λ (t : is_same c.args.point q ≡ false). rw t (omega arith)) (cases_Bool (is_same c.args.point q)))

pub overflow_add-before : goal.overflow_add-before
overflow_add-before c =
    let small : unwrap_or (capacity_in c.args.self.now.capacities.map.entries c.args.point) 0 < 2 ^ 48 =
    found_small (is_same c.args.point) c.args.self.now.capacities.map.entries c.args.self.now.small in
    let before : c.index-before.result.now ≡ count_in c.args.self.now.capacities.map.entries c.args.point =
    sym (ap (λ o. unwrap_or o 0) (value_at c.args.self.now.capacities.map.entries c.args.point c.in-Some.index
    c.index-before.result.now c.in-Some.ensures.at c.index-before.ensures)) in
    let bits : bit_count c.args.mask ≡ count_ones c.args.mask = bit_count_ones c.args.mask (omega arith) in
    let bound : bit_count c.args.mask ≤ 32 = bit_count_bound c.args.mask in
    omega (arith, small, before, bits, bound, c.from-bits.ensures)

pub raise-requires-clause-within : goal.raise-requires-clause-within
raise-requires-clause-within c = slice_get_within c.args.self.now.capacities.map.entries c.in-Some.index _
    c.in-Some.ensures.at.at

pub raise-requires-clause-some : goal.raise-requires-clause-some
raise-requires-clause-some c =
    let some : 0 < count_ones c.args.mask = ones_some c.args.mask (omega arith) in
    omega (arith, some, c.from-bits.ensures)

pub start-requires-clause-some : goal.start-requires-clause-some
start-requires-clause-some c =
    let some : 0 < count_ones c.args.mask = ones_some c.args.mask (omega arith) in
    omega (arith, some, c.from-bits.ensures)

pub returns-in-Some-clause-counted : goal.returns-in-Some-clause-counted
returns-in-Some-clause-counted c =
    let bits : bit_count c.args.mask ≡ count_ones c.args.mask = bit_count_ones c.args.mask (omega arith) in
    let before : c.index-before.result.now ≡ count_in c.args.self.now.capacities.map.entries c.args.point =
    sym (ap (λ o. unwrap_or o 0) (value_at c.args.self.now.capacities.map.entries c.args.point c.in-Some.index
    c.index-before.result.now c.in-Some.ensures.at c.index-before.ensures)) in
    on_ok_weaker c.raise.result
    (λ e. rw e (counted_put c.args.self.now.capacities.map.entries _ c.args.point (c.index-before.result.now + c.from-bits.result)
    (bit_count c.args.mask)
    (c.in-Some.ensures.at.written (c.index-before.result.now + c.from-bits.result)) (omega (arith, bits, before, c.from-bits.ensures))))
    c.raise.ensures.ok

pub returns-in-Some-clause-grows : goal.returns-in-Some-clause-grows
returns-in-Some-clause-grows c =
    on_ok_weaker c.raise.result
    (λ e. rw e (grows_put c.args.self.now.capacities.map.entries _ c.args.point (c.index-before.result.now + c.from-bits.result)
    (c.in-Some.ensures.at.written (c.index-before.result.now + c.from-bits.result))))
    c.raise.ensures.ok

pub returns-in-Some-clause-limit : goal.returns-in-Some-clause-limit
returns-in-Some-clause-limit c = λ e.
    let bits : bit_count c.args.mask ≡ count_ones c.args.mask = bit_count_ones c.args.mask (omega arith) in
    let before : c.index-before.result.now ≡ count_in c.args.self.now.capacities.map.entries c.args.point =
    sym (ap (λ o. unwrap_or o 0) (value_at c.args.self.now.capacities.map.entries c.args.point c.in-Some.index
    c.index-before.result.now c.in-Some.ensures.at c.index-before.ensures)) in
    let large : 2 ^ 48 ≤ c.index-before.result.now + c.from-bits.result = c.raise.ensures.large e in
    inr (omega (arith, bits, before, large, c.from-bits.ensures))

pub returns-in-None-clause-counted : goal.returns-in-None-clause-counted
returns-in-None-clause-counted c =
    let bits : bit_count c.args.mask ≡ count_ones c.args.mask = bit_count_ones c.args.mask (omega arith) in
    let none : 0 ≡ count_in c.args.self.now.capacities.map.entries c.args.point =
    sym (ap (λ o. unwrap_or o 0) c.in-None.ensures.none) in
    on_ok_weaker c.start.result
    (λ put. counted_put c.args.self.now.capacities.map.entries c.start.new.self.capacities.map.entries c.args.point
    c.from-bits.result (bit_count c.args.mask) put (omega (arith, bits, none, c.from-bits.ensures)))
    c.start.ensures.ok

pub start-requires-clause-unknown : goal.start-requires-clause-unknown
start-requires-clause-unknown c = c.in-None.ensures.none

pub start-requires-clause-small : goal.start-requires-clause-small
start-requires-clause-small c =
    let bits : bit_count c.args.mask ≡ count_ones c.args.mask = bit_count_ones c.args.mask (omega arith) in
    let bound : bit_count c.args.mask ≤ 32 = bit_count_bound c.args.mask in
    omega (arith, bits, bound, c.from-bits.ensures)

pub returns-in-None-clause-grows : goal.returns-in-None-clause-grows
returns-in-None-clause-grows c =
    on_ok_weaker c.start.result
    (λ put. grows_put c.args.self.now.capacities.map.entries c.start.new.self.capacities.map.entries c.args.point
    c.from-bits.result put)
    c.start.ensures.ok

pub returns-in-None-clause-latest : goal.returns-in-None-clause-latest
returns-in-None-clause-latest c = inl c.start.ensures.latest

pub returns-in-None-clause-limit : goal.returns-in-None-clause-limit
returns-in-None-clause-limit c = λ e.
    let some : 0 < count_ones c.args.mask = ones_some c.args.mask (omega arith) in
    let bits : bit_count c.args.mask ≡ count_ones c.args.mask = bit_count_ones c.args.mask (omega arith) in
    inl (record {
      wants = record { some = omega (arith, some, bits); unknown = ap is_some c.in-None.ensures.none };
      full = c.start.ensures.full e;
    })

pub returns-in-Some-clause-memory : goal.returns-in-Some-clause-memory
returns-in-Some-clause-memory c = λ e. absurd (c.raise.ensures.memory e)

pub returns-in-None-clause-memory : goal.returns-in-None-clause-memory
returns-in-None-clause-memory c = λ e.
    let some : 0 < count_ones c.args.mask = ones_some c.args.mask (omega arith) in
    let bits : bit_count c.args.mask ≡ count_ones c.args.mask = bit_count_ones c.args.mask (omega arith) in
    record { some = omega (arith, some, bits); unknown = ap is_some c.in-None.ensures.none }

pub returns-in-Some-clause-latest : goal.returns-in-Some-clause-latest
returns-in-Some-clause-latest c =
    ⊎_elim
    (λ same. inl same)
    (λ moved. inr (subst (StandsAt is_same c.args.self.now.capacities.map.entries c.args.point) (sym moved)
    c.in-Some.ensures.at))
    c.raise.ensures.latest
