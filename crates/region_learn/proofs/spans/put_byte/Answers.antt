use Rattle.std.proofs.Common.{◌∙◌, List, ap, sym}
use Rattle.enclosure_regions.specs.declared.region_parts.Range.{Range}
use Rattle.region_learn.specs.Private.Spans.{extended}
use Rattle.region_learn.proofs.GrowingSpans.{extended_front}
use Rattle.region_learn.proofs.spans.put_byte.Goals as goal

pub returns-in_ok-put_behind-in-Some : goal.returns-in_ok-put_behind-in-Some
returns-in_ok-put_behind-in-Some c =
    c.in_ok-put_behind-in-Some.ensures
    ∙ sym (ap (λ (l : List Range). extended l c.args.address) c.in-Some.ensures.items
    ∙ extended_front c.pop.new.self.items c.in-Some.last c.args.address)
