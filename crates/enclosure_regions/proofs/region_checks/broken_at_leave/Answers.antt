use Rattle.std.proofs.Common.{◌≡◌, ℕ, List, Option, Some, ap, ◌∙◌, option_map}
use Rattle.std.specs.List.{find}
use Rattle.enclosure_regions.specs.Breaks.{has_changed, register_changed}
use Rattle.enclosure_regions.proofs.region_checks.broken_at_leave.Goals as goal

pub returns-in-Some : goal.returns-in-Some
returns-in-Some c =
    let region = c.args.region.now in
    let before : List ℕ = c.args.before.now in
    let after : List ℕ = c.args.after.now in
    let first : Some c.in-Some.register ≡ find (λ register. has_changed before after register) region.keep =
    c.in-Some.ensures.first
    ∙ ap (λ (registers : List ℕ). find (λ register. has_changed before after register) registers) c.as_slice.ensures in
    ap Some c.broken_keep.ensures
    ∙ ap (λ (register : Option ℕ). option_map (register_changed region before after) register) first
