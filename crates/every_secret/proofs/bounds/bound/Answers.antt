use Rattle.std.proofs.Common.{◌∙◌, ℕ, List, ap, subst}
use Rattle.cut_file.specs.Pictures.{cut_picture}
use Rattle.elf32_loader.specs.Images.{image_picture}
use Rattle.enclosure_regions.specs.declared.region_lists.Regions.{Regions}
use Rattle.enclosure_regions.specs.declared.region_parts.Region.{Region}
use Rattle.lockstep_replay.specs.Tasks.{task_of}
use Rattle.every_secret.specs.Bounds.{IsVerdict}
use Rattle.every_secret.proofs.bounds.bound.Goals as goal

pub returns-clause-answer : goal.returns-clause-answer
returns-clause-answer g c = λ rules answers known.
    let regions = c.in_ok-marked.ensures in
    let copied = c.in_ok-copy_regions.ensures in
    let found = c.in_ok-verdict.ensures rules (record { answers = answers; public = known })
    c.in_ok-zeros.ensures.zeros c.in_ok-table.ensures in
    let P : List ℕ → List Region → Type 0 = λ input rs. IsVerdict rules
    (task_of (image_picture c.args.image.now) input rs (cut_picture c.args.cut.now))
    (record { budget = c.args.budget; turns = c.args.turns }) c.args.paths c.in_ok-verdict.verdict in
    subst (λ input. P input c.args.regions.now.items) c.seen_bytes-seen.ensures
    (subst (λ rs. P c.seen_bytes-seen.result.now rs) (ap (λ (r : Regions). r.items) regions ∙ copied) found)
