use Rattle.std.proofs.Common.{◌≡◌, ◌∙◌, ◌++◌, length, Ok, ap, ap₂, subst, arith}
use Rattle.std.proofs.lemmas.Grind.{common_steps}
use Rattle.every_secret.specs.Bounds.{IsLeastPower, Summary, output_count, summary_in, summary_of}
use Rattle.command_tasks.specs.declared.statuses.Status.TheVariants.{Done}
use Rattle.command_tasks.specs.ReadTasks.{all_secrets_in}
use Rattle.task_answers.specs.Bounding.{bounded_text}
use Rattle.task_answers.specs.BoundLines.{public_text}
use Rattle.task_answers.proofs.bounding.bounded_reply.Goals as goal

pub returns : goal.returns
returns c = λ all_found shows tells.
    let all = all_secrets_in c.args.all.now in
    let (bits, least, line) = c.in_ok-last.ensures in
    let text : c.from_vec.result ≡ c.in_ok-lines.lines.items ++ c.in_ok-last.last = grind (arith, common_steps) in
    let public : c.as_slice.result.now ≡ public_text all.settings.any_public (length all.guest.public_input) =
    c.as_slice.ensures ∙ (c.in_ok-public.ensures ∙ ap (λ count. public_text all.settings.any_public count) c.len.ensures) in
    let told : c.from_vec.result ≡ bounded_text all (summary_in c.args.found.now) bits =
    text ∙ ap₂ (λ a b. a ++ b) c.in_ok-lines.ensures (rw (c.len-regions.ensures, public) at line) in
    let same : c.from_vec.result ≡ bounded_text all (summary_of all_found) bits =
    told ∙ ap (λ (s : Summary). bounded_text all s bits) shows in
    let enough = subst (λ (s : Summary). IsLeastPower (output_count s.patterns) bits) shows least in
    (tells, (bits, enough, ap (λ t. Ok (record { status = Done; text = t })) same))
