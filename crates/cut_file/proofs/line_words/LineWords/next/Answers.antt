use Rattle.std.proofs.Common.{◌≡◌, Some, None, sym, ap, ◌∙◌, arith}
use Rattle.std.proofs.lemmas.Grind.{common_steps}
use Rattle.cut_file.specs.Private.Reading.{divided, first_of, others_of, parts, words_left}
use Rattle.cut_file.proofs.Parts.{parts_alone, parts_divided}
use Rattle.cut_file.proofs.line_words.LineWords.next.Goals as goal

pub returns-in_default-clause-word : goal.returns-in_default-clause-word
returns-in_default-clause-word c =
    let none : divided 32 c.in_ok-rest.rest.now ≡ None = grind (arith, common_steps) in
    let alone = parts_alone 32 c.in_ok-rest.rest.now none in
    let words : c.args.self.now ≡ parts 32 c.in_ok-rest.rest.now = sym c.self.view_is
    ∙ ap words_left (c.in_ok-rest.was) in
    sym (ap first_of (words ∙ alone))

pub returns-in_default-clause-left : goal.returns-in_default-clause-left
returns-in_default-clause-left c =
    let none : divided 32 c.in_ok-rest.rest.now ≡ None = grind (arith, common_steps) in
    let alone = parts_alone 32 c.in_ok-rest.rest.now none in
    let words : c.args.self.now ≡ parts 32 c.in_ok-rest.rest.now = sym c.self.view_is
    ∙ ap words_left (c.in_ok-rest.was) in
    sym (ap others_of (words ∙ alone))

pub returns-clause-word : goal.returns-clause-word
returns-clause-word c =
    let some : divided 32 c.in_ok-rest.rest.now ≡ Some (c.in-Some.word.now, c.in-Some.more.now) = grind
    (arith, common_steps) in
    let split = parts_divided 32 c.in_ok-rest.rest.now c.in-Some.word.now c.in-Some.more.now some in
    let words : c.args.self.now ≡ parts 32 c.in_ok-rest.rest.now = sym c.self.view_is
    ∙ ap words_left (c.in_ok-rest.was) in
    sym (ap first_of (words ∙ split))

pub returns-clause-left : goal.returns-clause-left
returns-clause-left c =
    let some : divided 32 c.in_ok-rest.rest.now ≡ Some (c.in-Some.word.now, c.in-Some.more.now) = grind
    (arith, common_steps) in
    let split = parts_divided 32 c.in_ok-rest.rest.now c.in-Some.word.now c.in-Some.more.now some in
    let words : c.args.self.now ≡ parts 32 c.in_ok-rest.rest.now = sym c.self.view_is
    ∙ ap words_left (c.in_ok-rest.was) in
    sym (ap others_of (words ∙ split))
