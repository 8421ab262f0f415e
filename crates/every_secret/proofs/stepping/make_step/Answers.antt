use Rattle.std.proofs.Common.{List, length, refl, subst}
use Rattle.std.proofs.lemmas.Result.{IfOk-weaker}
use Rattle.every_secret.specs.declared.searching.Search.{Search}
use Rattle.every_secret.specs.Paths.{Path}
use Rattle.every_secret.specs.Private.Orders.{earlier}
use Rattle.every_secret.specs.Private.Searching.{IsAdded, IsBasis, IsJudged, IsSumOf, IsWalking, StepsTo, Terms, terms_of}
use Rattle.every_secret.specs.Private.Spots.{Basis, tree_in}
use Rattle.every_secret.specs.Private.Tapes.{Tape, ruling_of, tape_of}
use Rattle.every_secret.proofs.AddedTrees.{back_added, come_judged, is_added}
use Rattle.every_secret.proofs.stepping.make_step.Goals as goal

pub settle-requires : goal.settle-requires
settle-requires g c =
    let walks = c.args.walks in
    let side = c.walk.new.side in
    let search = c.walk.new.search in record {
      back = back_added
          (terms_of (ruling_of walks.book.now.table walks.known) walks.marked.now.regions.items walks.cut.now.skip walks.budget walks.turns)
          search
          (record {
            machine = search.machine;
            opens = c.add_to_all.new.opens;
            closed = search.closed;
            pieces = search.pieces;
            findings = c.judge.new.findings;
          })
          (tape_of (ruling_of side.book.now.table side.known) side.shadow side.masks side.bits side.crossed side.byte_masks.items
          side.status_mask side.unclear) c.in-Add.sum refl refl refl c.add_to_all.ensures c.in_ok-came.ensures.back;
    }

pub returns-in-Unclear-clause-steps : goal.returns-in-Unclear-clause-steps
returns-in-Unclear-clause-steps g c = λ basis is walking.
    let walks = c.args.walks in
    let side = c.walk.new.side in
    let come = c.in_ok-came.ensures.comes basis is walking in
    subst (λ made. IsJudged basis side.bits.bits come.tree c.walk.new.search.findings c.judge.new.findings made)
    c.in-Unclear.is
    (come_judged
    (terms_of (ruling_of walks.book.now.table walks.known) walks.marked.now.regions.items walks.cut.now.skip walks.budget walks.turns) basis
    c.in_ok-came.came c.walk.new.search
    (tape_of (ruling_of side.book.now.table side.known) side.shadow side.masks side.bits side.crossed side.byte_masks.items side.status_mask
    side.unclear) c.judge.new.findings c.in_ok-why.field-0 c.in_ok-came.ensures.back come c.in_ok-why.ensures)

pub returns-in-Add-clause-steps : goal.returns-in-Add-clause-steps
returns-in-Add-clause-steps g c =
    let walks = c.args.walks in
    let terms : Terms = terms_of (ruling_of walks.book.now.table walks.known) walks.marked.now.regions.items walks.cut.now.skip walks.budget walks.turns in
    let old = c.args.side.now in
    let before : Tape = tape_of (ruling_of old.book.now.table old.known) old.shadow old.masks old.bits old.crossed old.byte_masks.items
    old.status_mask old.unclear in
    let side = c.walk.new.side in
    let tape : Tape = tape_of (ruling_of side.book.now.table side.known) side.shadow side.masks side.bits side.crossed side.byte_masks.items
    side.status_mask side.unclear in
    let later = c.settle.new.side in
    let last : Tape = tape_of (ruling_of later.book.now.table later.known) later.shadow later.masks later.bits later.crossed later.byte_masks.items
    later.status_mask later.unclear in
    let search = c.walk.new.search in
    let next : Search = record {
      machine = search.machine;
      opens = c.add_to_all.new.opens;
      closed = search.closed;
      pieces = search.pieces;
      findings = c.judge.new.findings;
    } in
    IfOk-weaker c.settle.result
    (λ came. (basis : Basis) → IsBasis terms basis → IsAdded basis next tape →
    StepsTo basis (length (earlier (tree_in basis) side.bits.bits)) came c.settle.new.search last)
    (λ came. (basis : Basis) → IsBasis terms basis → IsWalking basis c.args.left c.args.search.now before →
    StepsTo basis (length (earlier (tree_in basis) old.bits.bits)) came c.settle.new.search last)
    (λ came goes. λ basis is walking.
    let come = c.in_ok-came.ensures.comes basis is walking in
    let judged = subst (λ made. IsJudged basis side.bits.bits come.tree search.findings c.judge.new.findings made)
    c.in-Add.is
    (come_judged terms basis c.in_ok-came.came search tape c.judge.new.findings c.in_ok-why.field-0
    c.in_ok-came.ensures.back come c.in_ok-why.ensures) in
    let is_sum = subst (λ made. IsSumOf c.in_ok-came.came side.crossed made) c.in-Add.is c.in_ok-why.ensures.sum in
    subst (λ (ps : List Path). StepsTo basis (length ps) came c.settle.new.search last)
    (c.in_ok-came.ensures.early (tree_in basis))
    (goes basis is (is_added basis c.in_ok-came.came search tape c.judge.new.findings c.in-Add.sum is_sum come
    judged next refl refl refl refl c.add_to_all.ensures))) c.settle.ensures.steps
