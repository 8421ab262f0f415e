use Rattle.std.proofs.Common.{◌≡◌, ◌∙◌, ap, rules}
use Rattle.serde_json.specs.Data.{no_members, object}
use Rattle.serde_json.specs.View.{members_view}
use Rattle.serde_json.proofs.OnLiterals.{serde_json_on_literals}
use Rattle.serde_json.proofs.Views.{view-Object}
use Rattle.region_learn.specs.Private.Members.{with_first, with_last}
use Rattle.region_learn.proofs.writing.region_value.Goals as goal

pub returns : goal.returns
unfolding serde_json_on_literals
returns c =
    let region = c.args.region.now in
    let last = c.in_ok-put_last.ensures in
    let none : members_view c.new-members.result.entries ≡ no_members = search rules in
    view-Object c.put_first.new.members
    ∙ ap object (c.in_ok-put_first.ensures ∙ ap (with_first region) (last ∙ ap (with_last region) none))
