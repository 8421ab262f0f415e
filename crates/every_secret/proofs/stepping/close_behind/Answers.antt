use Rattle.std.proofs.Common.{◌≡◌, ◌<◌, ◌++◌, ◌∷◌, [], ℕ, List, take, length, sym, ap, ◌∙◌, arith, length-append}
use Rattle.std.proofs.lemmas.List.{take-append-le}
use Rattle.every_secret.specs.declared.open_places.OpenPlace.{OpenPlace}
use Rattle.every_secret.specs.Private.Closing.{ClosesOpen}
use Rattle.every_secret.specs.Private.Searching.{Terms, terms_of}
use Rattle.every_secret.specs.Private.Tapes.{Tape, ruling_of, tape_of}
use Rattle.every_secret.proofs.ClosedBehind.{settled_before, back_before}
use Rattle.every_secret.proofs.stepping.close_behind.Goals as goal

taken_front : (keep : ℕ) (before opens was : List OpenPlace) (last : OpenPlace) → before ≡ opens ++ last ∷ [] →
    keep < length before → take keep before ≡ take keep was → take keep opens ≡ take keep was
taken_front keep before opens was last parts more same =
    let long : length before ≡ length (opens ++ last ∷ []) = ap (λ s. length s) parts in
    let both = length-append opens (last ∷ []) in
    sym (ap (λ s. take keep s) parts ∙ take-append-le keep opens (last ∷ []) (omega (arith, long, both, more))) ∙ same

pub loop-search-preserved-in-Continue-1 : goal.loop-search-preserved-in-Continue-1
loop-search-preserved-in-Continue-1 g c =
    let terms : Terms = terms_of (ruling_of c.args.walks.book.now.table c.args.walks.known) c.args.walks.marked.now.regions.items
    c.args.walks.cut.now.skip c.args.walks.budget c.args.walks.turns in
    let tape : Tape = tape_of (ruling_of c.args.side.now.book.now.table c.args.side.now.known) c.args.side.now.shadow c.args.side.now.masks
    c.args.side.now.bits c.args.side.now.crossed c.args.side.now.byte_masks.items c.args.side.now.status_mask
    c.args.side.now.unclear in
    let before = c.loop-search.search in
    let opens : List OpenPlace = c.pop.new.self.items in
    let last : OpenPlace = c.in-Some.last in
    let parts : before.opens.items ≡ opens ++ last ∷ [] = c.in-Some.ensures.items in
    let closes : ClosesOpen before.closed c.close.new.closed last c.args.turn = c.in_ok-close.ensures in
    let long : length before.opens.items ≡ length (opens ++ last ∷ []) = ap (λ s. length s) parts in
    let both = length-append opens (last ∷ []) in
    let more : c.args.keep < length before.opens.items = omega (arith, c.len.ensures, c.loop-search-test.true) in
    let back = c.loop-search.invariant.back in
    let next = back_before terms before tape opens last c.close.new.closed c.args.turn
    (omega (arith, long, both, more, c.requires.some)) parts closes back in
    let begins = next.1 in record {
      back = record {
        opens = next.0;
        first = back.first;
        others = begins.others;
        begins = begins.begins;
        at_start = back.at_start;
        same_length = next.2;
        ruling = back.ruling;
        base = back.base;
      };
      opens = taken_front c.args.keep before.opens.items opens c.args.search.now.opens.items last parts more
          c.loop-search.invariant.opens;
      settles = λ basis is_basis old.
          let settles = c.loop-search.invariant.settles basis is_basis old in
          let new = settled_before terms basis before tape opens last c.close.new.closed c.args.turn is_basis
          back.same_length parts closes settles in record {
            stood = new.stood;
            opens_are = new.opens_are;
            settled = new.settled;
            lead = new.lead;
            closed = new.closed_are;
            found = settles.found;
          };
    }
