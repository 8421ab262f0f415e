use Rattle.std.proofs.Common.{◌≡◌, ◌∙◌, ◌/◌, ◌%◌, ◌<◌, ◌==◌, ◌||◌, ℕ, Bool, List, ap, get_or, length, arith}
use Rattle.std.proofs.lemmas.Grind.{get_or_default_zero}
use Rattle.region_learn.specs.Private.Marks.{has_bit, page_has}
use Rattle.region_learn.proofs.MarkedCells.{one_mark}
use Rattle.region_learn.proofs.pages.Page.mark.Goals as goal

pub returns : goal.returns
returns c = λ other.
    let words = c.self.inside.words.items in
    let i = c.args.index / 32 in
    let count : length words ≡ 128 = ap length c.self.view_is ∙ c.in_ok-begin.ensures.length in
    let within : i < length words = omega (arith, c.requires, count) in
    let word : c.index_mut-word.result.now ≡ get_or words i 0 =
    c.index_mut-word.ensures.value ∙ get_or_default_zero words i c.index_mut-word.result.now within in
    one_mark has_bit 32 words c.with_bit.result 0 c.args.index other within
    (λ place. c.with_bit.ensures place
    ∙ ap (λ (word : ℕ). has_bit word place || (place == (c.args.index % 32))) word)
    ∙ ap (λ (b : Bool). b || (other == c.args.index))
    (ap (λ (l : List ℕ). page_has l other) c.self.view_is ∙ c.in_ok-begin.ensures.same other)
