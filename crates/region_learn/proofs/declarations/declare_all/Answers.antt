use Rattle.std.proofs.Common.{◌≡◌, ◌∙◌, ◌<◌, ◌∷◌, [], ℕ, List, ap, get_or, length, arith, inl, inr, subst, sym, length-append}
use Rattle.std.proofs.lemmas.Bool.{cases_lt}
use Rattle.std.proofs.lemmas.List.{get_or_append_left, get_or_default, get_or_push}
use Rattle.enclosure_regions.specs.declared.region_parts.Region.{Region}
use Rattle.region_learn.specs.declared.notes.Notes.{Notes}
use Rattle.region_learn.specs.Private.Declarations.{Declares}
use Rattle.region_learn.proofs.declarations.declare_all.Goals as goal

pub loop-place-preserved : goal.loop-place-preserved
loop-place-preserved c =
    let regions = c.args.regions.now in
    let book = c.args.book.now in
    let declared = c.loop-place.declared in
    let place = c.loop-place.place in
    let new = c.in_ok-region.region in
    let pushed = c.in_ok-push.ensures.ok in
    let count : length declared ≡ place = c.loop-place.invariant.count in
    let within : place < length regions = c.loop-place-test.true in
    let noted : place < length book = omega (arith, within, c.requires.count) in
    let made : Declares c.index-regions-place.result c.index-book-place.result new = c.in_ok-region.ensures in
    record {
      count = ap length pushed ∙ (length-append declared (new ∷ []) ∙ omega (arith, count));
      each = λ k region other notes below. elim (cases_lt k place) [
        | inl before ↦
            subst (λ (r : Region). Declares (get_or regions k region) (get_or book k notes) r)
            (sym (ap (λ (l : List Region). get_or l k other) pushed
            ∙ get_or_append_left declared (new ∷ []) other k (omega (arith, before, count))))
            (c.loop-place.invariant.each k region other notes before)
        | inr here ↦
            let at : place ≡ k = omega (arith, below, here) in
            let last : new ≡ get_or c.push.new.self k other =
            sym (ap (λ (l : List Region). get_or l k other) pushed
            ∙ get_or_push declared new other k (count ∙ at)) in
            let first : c.index-regions-place.result ≡ get_or regions k region =
            c.index-regions-place.is
            ∙ (get_or_default regions place c.index-regions-place.result region within
            ∙ ap (λ (i : ℕ). get_or regions i region) at) in
            let second : c.index-book-place.result ≡ get_or book k notes =
            c.index-book-place.is
            ∙ (get_or_default book place c.index-book-place.result notes noted
            ∙ ap (λ (i : ℕ). get_or book i notes) at) in
            subst (λ (r : Region). Declares (get_or regions k region) (get_or book k notes) r) last
            (subst (λ (n : Notes). Declares (get_or regions k region) n new) second
            (subst (λ (r : Region). Declares r c.index-book-place.result new) first made))
      ];
    }
