use Rattle.std.proofs.Common.{◌≡◌, ◌+◌, length, ap, ◌∙◌, arith, length-append}
use Rattle.std.proofs.lemmas.Result.{on_ok_weaker, on_err_weaker}
use Rattle.location_collapse.proofs.CapacityMaps.{either, small_added}
use Rattle.location_collapse.proofs.kept_points.KeptPoints.start.Goals as goal

pub returns-then-len-ge-MAX_POINTS-clause-full : goal.returns-then-len-ge-MAX_POINTS-clause-full
returns-then-len-ge-MAX_POINTS-clause-full c = λ e. record {
  differ = c.len.ensures.differ;
  full = omega (arith, c.if-len-ge-MAX_POINTS.true, c.len.ensures.len);
}

pub invariant_of-self : goal.invariant_of-self
invariant_of-self c = record {
  small = either c.add.result
      (on_ok_weaker c.add.result (λ e. rw e (small_added c.args.self.now.capacities.map.entries c.args.point c.args.bits
      c.requires.some c.requires.small c.args.self.now.small)) c.add.ensures.added)
      (on_err_weaker c.add.result (λ e. rw e c.args.self.now.small) c.add.ensures.err);
  few = either c.add.result
      (on_ok_weaker c.add.result (λ e.
      let more : length c.add.new.self.map.entries ≡ length c.args.self.now.capacities.map.entries + 1 =
      ap length e ∙ length-append c.args.self.now.capacities.map.entries _ in
      omega (arith, more, c.if-len-ge-MAX_POINTS.false, c.len.ensures.len)) c.add.ensures.added)
      (on_err_weaker c.add.result (λ e. rw e c.args.self.now.few) c.add.ensures.err);
}
