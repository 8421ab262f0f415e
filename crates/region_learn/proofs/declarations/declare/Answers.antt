use Rattle.std.proofs.Common.{◌∙◌, ◌+◌, List, ap, refl, subst, sym}
use Rattle.std.specs.List.{filter}
use Rattle.enclosure_regions.specs.declared.region_parts.Range.{Range}
use Rattle.region_learn.specs.Private.Declarations.{kept_bit, out_bit}
use Rattle.region_learn.specs.Learnt.{have_byte}
use Rattle.region_learn.specs.Private.Spans.{SpansBelow}
use Rattle.region_learn.proofs.Registers.{table}
use Rattle.region_learn.proofs.declarations.declare.Goals as goal

pub returns : goal.returns
returns c =
    let notes = c.args.notes.now in
    record {
      id = refl;
      enter = refl;
      leave = refl;
      word = c.outs_among.ensures.word;
      keep = c.in_ok-kept_among.ensures ∙ ap (filter (kept_bit notes.written notes.changed)) table;
      outs = c.in_ok-outs_among.ensures.found ∙ ap (filter (out_bit notes.written notes.changed)) table;
      spans = subst (λ (l : List Range). SpansBelow (notes.base + 16777216) l) (sym c.from_vec.ensures)
          c.in_ok-ranges_of.ensures.below;
      bytes = λ address. ap (λ (l : List Range). have_byte l address) c.from_vec.ensures
          ∙ c.in_ok-ranges_of.ensures.bytes address;
    }
