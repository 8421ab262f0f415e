use Rattle.std.proofs.Common.{◌≡◌, ◌+◌, ◌<◌, ◌++◌, ◌∷◌, [], ℕ, zero, suc, List, map, take, drop, length, get_or, set, refl, sym, ap, ap₂, ◌∙◌, arith, add-one, append-nil, ◌≤◌}
use Rattle.std.proofs.Math.Seq.{take-append_seam}
use Rattle.std.proofs.lemmas.List.{take_all, drop_all}
use Rattle.std.specs.Prelude.{slice_index_or}
use Rattle.every_secret.specs.declared.open_places.OpenPlace.{OpenPlace}
use Rattle.every_secret.specs.declared.sums.Sum.{Sum}
use Rattle.every_secret.specs.Private.OpenPlaces.{with_sum}
use Rattle.every_secret.proofs.open_places.add_to_all.Goals as goal

set_next : {A : Type 0} (f : A → A) (items : List A) (place : ℕ) (next other : A) → place < length items →
    next ≡ f (get_or (map f (take place items) ++ drop place items) place other) →
    set (map f (take place items) ++ drop place items) place next
    ≡ map f (take (suc place) items) ++ drop (suc place) items
set_next f [] place next other within is = absurd (omega (arith, within))
set_next f (item ∷ items) zero next other within is = ap (λ s. s ∷ items) is
set_next f (item ∷ items) (suc place) next other within is =
    ap (λ s. f item ∷ s) (set_next f items place next other (omega (arith, within)) is)

set_more : {A : Type 0} (f : A → A) (items now : List A) (place : ℕ) (next other : A) → place < length items →
    now ≡ map f (take place items) ++ drop place items → next ≡ f (get_or now place other) →
    set now place next ≡ map f (take (place + 1) items) ++ drop (place + 1) items
set_more f items now place next other within now_is is =
    ap (λ s. set s place next) now_is
    ∙ (set_next f items place next other within (is ∙ ap (λ s. f (get_or s place other)) now_is)
    ∙ ap (λ n. map f (take n items) ++ drop n items) (sym (add-one place)))

whole : {A : Type 0} (f : A → A) (old items now more : List A) (size place : ℕ) → items ≡ old → length now ≡ size →
    length items ≤ place → now ≡ map f (take place items) ++ drop place items → take size (now ++ more) ≡ map f old
whole f old items now more size place is long past now_is =
    ap (λ n. take n (now ++ more)) (sym long)
    ∙ (take-append_seam now more
    ∙ (now_is
    ∙ (ap₂ (λ s t. map f s ++ t) (take_all place items past) (drop_all place items past)
    ∙ (append-nil (map f items) ∙ ap (λ s. map f s) is))))

with_this : (entry : OpenPlace) (next : Sum) → OpenPlace
with_this entry next =
    record { kept = entry.kept; depth = entry.depth; left = entry.left; crossed = entry.crossed; sum = next }

pub loop-place-init : goal.loop-place-init
loop-place-init c = refl

pub loop-place-preserved : goal.loop-place-preserved
unfolding with_this
loop-place-preserved c =
    let entry : OpenPlace = slice_index_or c.loop-place.place-items c.loop-place.place-index c.place-item.result in
    set_more (with_sum c.args.sum) c.deref_mut-place-items.result.now c.loop-place.place-items c.loop-place.place-index
    (with_this entry c.with-place.result) c.place-item.result (omega arith) c.loop-place.invariant
    (ap (λ s. with_this entry s) c.with-place.ensures)

pub returns : goal.returns
returns c =
    let now = c.loop-place.place-items in
    let was = c.deref_mut-place-items.result.now in
    let old = c.args.opens.now.items in
    let size : length was ≡ c.args.opens.now.len = c.deref_mut-place-items.ensures.len in
    whole (with_sum c.args.sum) old was now (drop (length now) old) c.args.opens.now.len c.loop-place.place-index
    c.deref_mut-place-items.ensures.value (omega (arith, c.loop-place.auto.place-items, size)) c.loop-place-test.false
    c.loop-place.invariant
