use Rattle.std.proofs.Common.{◌∙◌, ◌+◌, ◌≤◌, ℕ, List, ap, subst, sym, map, inr}
use Rattle.enclosure_regions.specs.declared.region_parts.Region.{Region}
use Rattle.region_learn.specs.Private.Declarations.{DeclareAll}
use Rattle.region_learn.specs.LearnAnswers.{declaration_fault}
use Rattle.region_learn.specs.Learnt.{Learnt}
use Rattle.region_learn.specs.Written.{bare}
use Rattle.region_learn.proofs.LearntRegions.{book_count, declared_same, draft_all_of, learnt_all, no_notes, notes_base}
use Rattle.std.specs.List.{AllByRecursion}
use Rattle.region_learn.specs.Unbroken.{IsTight}
use Rattle.region_learn.proofs.TightRegions.{tight_all}
use Rattle.region_learn.proofs.learning.declaration.Goals as goal

pub checked-requires-clause-same : goal.checked-requires-clause-same
checked-requires-clause-same c =
    declared_same c.args.bare.now.items c.args.book.now c.in_ok-declared.declared c.requires.same
    (subst (λ (l : List Region). DeclareAll l c.args.book.now c.in_ok-declared.declared) c.as_slice.ensures
    c.in_ok-declared.ensures)

pub checked-requires-clause-drafts : goal.checked-requires-clause-drafts
checked-requires-clause-drafts c =
    draft_all_of c.args.bare.now.items c.args.book.now c.in_ok-declared.declared no_notes c.args.base c.requires.room
    (book_count c.args.book.now c.args.bare.now.items c.requires.numbers)
    (notes_base c.args.book.now c.args.base c.requires.base)
    (subst (λ (l : List Region). DeclareAll l c.args.book.now c.in_ok-declared.declared) c.as_slice.ensures
    c.in_ok-declared.ensures)

pub returns-in-Ok-clause-ok : goal.returns-in-Ok-clause-ok
returns-in-Ok-clause-ok c = λ run same of exits.
    let made : DeclareAll run.regions c.args.book.now c.in_ok-declared.declared =
    subst (λ (l : List Region). DeclareAll l c.args.book.now c.in_ok-declared.declared)
    (c.as_slice.ensures ∙ sym same) c.in_ok-declared.ensures in
    let learnt : Learnt run c.in_ok-declared.declared =
    learnt_all run c.args.book.now c.in_ok-declared.declared no_notes
    (ap (map bare) same ∙ (c.requires.same ∙ sym same))
    (book_count c.args.book.now run.regions of.numbers) of made in
    record {
      exits = exits;
      learnt = subst (λ (l : List Region). Learnt run l) (sym c.in-Ok.ensures.items) learnt;
      fits = ap (λ (l : List Region). declaration_fault l) c.in-Ok.ensures.items ∙ c.in-Ok.ensures.fits;
    }

pub returns-in-Err-clause-err : goal.returns-in-Err-clause-err
returns-in-Err-clause-err c = λ free run same of exits.
    let made : DeclareAll run.regions c.args.book.now c.in_ok-declared.declared =
    subst (λ (l : List Region). DeclareAll l c.args.book.now c.in_ok-declared.declared)
    (c.as_slice.ensures ∙ sym same) c.in_ok-declared.ensures in
    let learnt : Learnt run c.in_ok-declared.declared =
    learnt_all run c.args.book.now c.in_ok-declared.declared no_notes
    (ap (map bare) same ∙ (c.requires.same ∙ sym same))
    (book_count c.args.book.now run.regions of.numbers) of made in
    inr (c.in_ok-declared.declared, exits, learnt, c.in-Err.ensures.fault free)

pub returns-in-Ok-clause-tight : goal.returns-in-Ok-clause-tight
returns-in-Ok-clause-tight c = λ run same low of.
    let made : DeclareAll run.regions c.args.book.now c.in_ok-declared.declared =
    subst (λ (l : List Region). DeclareAll l c.args.book.now c.in_ok-declared.declared)
    (c.as_slice.ensures ∙ sym same) c.in_ok-declared.ensures in
    subst (λ (l : List Region). AllByRecursion (IsTight run) l) (sym c.in-Ok.ensures.items)
    (tight_all run c.args.book.now c.in_ok-declared.declared
    (book_count c.args.book.now run.regions of.numbers)
    (subst (λ (n : ℕ). n + 16777216 ≤ 4294967295) (sym low) c.requires.room) of made)
