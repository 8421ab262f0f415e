use Rattle.std.proofs.Common.{◌≡◌, rules, ap, subst, sym, ◌∙◌, SFits, to_z-of_z, w32}
use Rattle.rv32im_decode.specs.Operations.{target_of}
use Rattle.transfer_rules.specs.declared.classes.Class.TheVariants.{Add}
use Rattle.transfer_rules.specs.Soundness.{IsSound, IsSoundAddress, KeepsMask}
use Rattle.transfer_rules.specs.Tables.{sum_operands}
use Rattle.transfer_rules.proofs.Instructions.{sum_of_immediate, target_of_immediate}
use Rattle.transfer_rules.proofs.rules.address_mask.Goals as goal

pub returns-in-Load-clause-sound : goal.returns-in-Load-clause-sound
returns-in-Load-clause-sound g c =
    let first = c.args.first in
    let mask = c.args.mask in
    let answer = c.mask.result in
    let small : SFits w32 c.in-Load.imm = search rules in
    let same : c.sum_operands.result ≡ sum_operands first mask c.in-Load.imm =
    c.sum_operands.ensures ∙ ap (sum_operands first mask) (to_z-of_z small) in
    subst (λ instr. IsSoundAddress instr first mask answer) (sym c.in-Load.is)
    (sum_of_immediate first mask answer c.in-Load.imm small
    (subst (λ o. IsSound Add o answer) same c.mask.ensures.sound))

pub returns-in-Store-clause-sound : goal.returns-in-Store-clause-sound
returns-in-Store-clause-sound g c =
    let first = c.args.first in
    let mask = c.args.mask in
    let answer = c.mask-in-Store.result in
    let small : SFits w32 c.in-Store.imm = search rules in
    let same : c.sum_operands-in-Store.result ≡ sum_operands first mask c.in-Store.imm =
    c.sum_operands-in-Store.ensures ∙ ap (sum_operands first mask) (to_z-of_z small) in
    subst (λ instr. IsSoundAddress instr first mask answer) (sym c.in-Store.is)
    (sum_of_immediate first mask answer c.in-Store.imm small
    (subst (λ o. IsSound Add o answer) same c.mask-in-Store.ensures.sound))

pub returns-in-Jalr-clause-sound : goal.returns-in-Jalr-clause-sound
returns-in-Jalr-clause-sound g c =
    let first = c.args.first in
    let mask = c.args.mask in
    let answer = c.target_mask.result in
    let small : SFits w32 c.in-Jalr.imm = search rules in
    let same : c.sum_operands-in-Jalr.result ≡ sum_operands first mask c.in-Jalr.imm =
    c.sum_operands-in-Jalr.ensures ∙ ap (sum_operands first mask) (to_z-of_z small) in
    subst (λ instr. IsSoundAddress instr first mask answer) (sym c.in-Jalr.is)
    (target_of_immediate first mask answer c.in-Jalr.imm small
    (subst (λ o. KeepsMask o answer target_of) same c.target_mask.ensures.sound))
