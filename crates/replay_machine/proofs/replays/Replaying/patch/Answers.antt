use Rattle.std.proofs.Common.{◌≡◌, ◌≤◌, ◌∙◌, ℕ, ap, refl, sym, subst, arith, ◌-◌, length}
use Rattle.flow_base.specs.Points.{width_of}
use Rattle.crossing_bits.specs.Strings.{Stream, left_of}
use Rattle.flow_base.specs.Words.{bit_count}
use Rattle.replay_machine.proofs.PatchesKeepWidth.{patched_width}
use Rattle.replay_machine.proofs.Passings.{replays_lacking, patched_goes, short_goes}
use Rattle.replay_machine.proofs.replays.Replaying.patch.Goals as goal

pub returns-then-self-ne0-clause-goes : goal.returns-then-self-ne0-clause-goes
returns-then-self-ne0-clause-goes c = λ masks past next out ahead after.
    replays_lacking masks c.args.self.now.bits c.args.self.now.missing _ (next c.args.value) out c.if-self-ne0.true
    (after (c.next-mask.ensures.counted masks past ahead))

pub returns-in-Some-clause-width : goal.returns-in-Some-clause-width
returns-in-Some-clause-width c =
    subst (λ (w : ℕ). w ≤ width_of c.args.point.slot) (sym c.in-Some.ensures.value)
    (patched_width c.args.point.slot c.args.value c.next-mask.result _ c.requires.value c.next-mask.ensures.width)

pub returns-in-Some-clause-goes : goal.returns-in-Some-clause-goes
returns-in-Some-clause-goes c = λ masks past next out ahead after.
    patched_goes masks c.args.self.now.bits c.patch.new.self c.args.self.now.missing c.next-mask.result _
    c.args.value c.in-Some.word next out
    c.if-self-ne0.false (c.next-mask.ensures.mask masks past ahead) (c.in-Some.ensures.enough.0 refl)
    c.in-Some.ensures.value
    c.in-Some.ensures.goes c.in-Some.ensures.bits c.in-Some.ensures.room
    (after (c.next-mask.ensures.counted masks past ahead))

pub returns-in-None-clause-goes : goal.returns-in-None-clause-goes
returns-in-None-clause-goes c = λ masks past next out ahead after.
    let same : c.left.result ≡ length (left_of c.args.self.now.bits) =
    c.left.ensures.left ∙ ap (λ (s : Stream). length (left_of s)) c.in-None.ensures.same in
    let later : c.bit_count.result - c.left.result ≡ bit_count c.next-mask.result - length
    (left_of c.args.self.now.bits) =
    omega (arith, same, c.bit_count.ensures.count) in
    short_goes masks c.args.self.now.bits c.patch.new.self c.args.self.now.missing _ c.next-mask.result _
    c.args.value next out
    c.if-self-ne0.false (c.next-mask.ensures.mask masks past ahead) c.in-None.ensures.short later c.in-None.ensures.same
    (after (c.next-mask.ensures.counted masks past ahead))
