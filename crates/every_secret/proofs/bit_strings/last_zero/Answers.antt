use Rattle.std.proofs.Common.{◌≡◌, ◌<◌, ◌+◌, ◌++◌, ◌∷◌, [], take, true, false, get_or, length, sym, refl, subst, arith}
use Rattle.std.specs.Prelude.{IfSome, option_map}
use Rattle.every_secret.specs.Paths.{next_string}
use Rattle.every_secret.proofs.Trees.{zero_step, zero_within}
use Rattle.every_secret.proofs.bit_strings.last_zero.Goals as goal

pub loop-place-preserved : goal.loop-place-preserved
loop-place-preserved c =
    let bits = c.args.bits.now in
    let place = c.loop-place.place in
    let below : place < length bits = omega arith in record {
      next = subst (λ last. option_map (λ p. take p bits ++ true ∷ []) last ≡ next_string (take (place + 1) bits))
          (sym c.later_zero-last.ensures)
          (zero_step bits place c.loop-place.last below c.loop-place.invariant.next (get_or bits place false) refl);
      within = subst (λ last. IfSome last (λ p. p < place + 1)) (sym c.later_zero-last.ensures)
          (zero_within c.loop-place.last place (get_or bits place false) c.loop-place.invariant.within);
    }
