use Rattle.std.proofs.Common.{◌≡◌, ◌∙◌, ◌++◌, ℕ, List, [], ap, sym, replicate, length, vec_len, arith}
use Rattle.std.proofs.lemmas.Bool.{eqb-true}
use Rattle.region_learn.specs.Private.Marks.{page_has}
use Rattle.region_learn.proofs.Counting.{nil_of}
use Rattle.region_learn.proofs.MarkedCells.{none_have_none, zeros_have_none}
use Rattle.region_learn.proofs.pages.Page.begin.Goals as goal

pub returns-in_ok-extend_from_slice-clause-same : goal.returns-in_ok-extend_from_slice-clause-same
returns-in_ok-extend_from_slice-clause-same c = λ index.
    let empty_len : vec_len c.self.inside.words ≡ 0 =
    eqb-true (vec_len c.self.inside.words) 0 (sym c.is_empty.ensures ∙ c.if-is_empty.true) in
    let none : length c.self.inside.words.items ≡ 0 = omega arith in
    let empty : c.self.inside.words.items ≡ [] = nil_of c.self.inside.words.items none in
    let filled : c.extend_from_slice.new.self.items ≡ replicate 128 0 =
    c.in_ok-extend_from_slice.ensures.items ∙ ap (λ (l : List ℕ). l ++ replicate 128 0) empty in
    ap (λ (words : List ℕ). page_has words index) filled
    ∙ (zeros_have_none 128 index
    ∙ sym (ap (λ (words : List ℕ). page_has words index) (sym c.self.view_is ∙ empty) ∙ none_have_none index))
