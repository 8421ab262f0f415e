use Rattle.std.proofs.Common.{◌∙◌, ◌+◌, ◌&&◌, ◌||◌, ◌==◌, Bool, List, ap, subst, sym}
use Rattle.enclosure_regions.specs.declared.region_parts.Range.{Range}
use Rattle.region_learn.specs.Learnt.{have_byte}
use Rattle.region_learn.specs.Private.Spans.{SpansBelow}
use Rattle.region_learn.proofs.GrowingSpans.{below_more, extended_below, extended_has}
use Rattle.region_learn.proofs.spans.put_marked.Goals as goal

pub returns-then-not-marked-clause-below : goal.returns-then-not-marked-clause-below
returns-then-not-marked-clause-below c = below_more c.args.address c.args.ranges.now.items c.requires.below

pub returns-clause-below : goal.returns-clause-below
returns-clause-below c =
    subst (λ (l : List Range). SpansBelow (c.args.address + 1) l) (sym c.in_ok-put_byte.ensures)
    (extended_below c.args.ranges.now.items c.args.address c.requires.below)

pub returns-clause-bytes : goal.returns-clause-bytes
returns-clause-bytes c = λ other.
    ap (λ (l : List Range). have_byte l other) c.in_ok-put_byte.ensures
    ∙ (extended_has c.args.ranges.now.items c.args.address other
    ∙ ap (λ (b : Bool). have_byte c.args.ranges.now.items other || (b && (other == c.args.address)))
    (sym c.if-not-marked.false))
