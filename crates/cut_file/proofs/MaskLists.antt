-- The mask at a visit, as runs are passed over one by one.
use Rattle.std.proofs.Common.{◌≡◌, ℕ, ◌+◌, ◌-◌, ◌<◌, ◌≤◌, List, [], ◌∷◌, length, refl, sym, ap, ◌∙◌, arith, drop}
use Rattle.std.proofs.Common.{drop-cons, get_or, length-append, suc, add-one}
use Rattle.std.specs.Prelude.{◌%◌, nat_lt, replicate, slice_index_or}
use Rattle.std.proofs.Math.ListN.{get_or-append, drop_of_length-le}
use Rattle.std.proofs.lemmas.List.{get_or-append_right, get_or-replicate, length-replicate}
use Rattle.cut_file.specs.declared.points.Run.{Run}
use Rattle.std.proofs.Math.Nat.{mod-eq_of_lt}
use Rattle.std.proofs.lemmas.Bool.{cond-false, cond-true, le-ltb, lt-ltb}
use Rattle.cut_file.specs.Masks.{listed_masks, repeated}

-- the mask of runs at a visit
abbrev pub mask_in : List Run → ℕ → ℕ → ℕ
mask_in runs visit rest = slice_index_or (listed_masks runs) (visit - 1) rest

-- within the first run its mask stands
pub mask_here : (run : Run) (runs : List Run) (visit rest : ℕ) → 1 ≤ visit → visit ≤ run.count →
    mask_in (run ∷ runs) visit rest ≡ run.mask
unfolding listed_masks
mask_here run runs visit rest first within =
    let inside : visit - 1 < length (replicate run.count run.mask) = rw length-replicate (omega arith) in
    get_or-append (replicate run.count run.mask) (listed_masks runs) rest (visit - 1) inside
    ∙ get_or-replicate run.count (visit - 1) run.mask rest (omega arith)

-- after it the visit counts from its end
pub mask_later : (run : Run) (runs : List Run) (visit rest : ℕ) → 1 ≤ visit → run.count < visit →
    mask_in (run ∷ runs) visit rest ≡ mask_in runs (visit - run.count) rest
unfolding listed_masks
mask_later run runs visit rest first behind =
    let same : visit - 1 - run.count ≡ visit - run.count - 1 = omega arith in
    get_or-append_right (replicate run.count run.mask) (listed_masks runs) run.count (visit - 1) rest
    (length-replicate run.count run.mask) (omega arith)
    ∙ ap (λ (n : ℕ). slice_index_or (listed_masks runs) n rest) same

-- after all of them the rest stands
pub mask_rest : (visit rest : ℕ) → mask_in [] visit rest ≡ rest
unfolding listed_masks
mask_rest visit rest = refl

-- the same with the first run at an index
pub mask_here_at : (runs : List Run) (index : ℕ) (other : Run) (visit rest whole : ℕ) → index < length runs →
    1 ≤ visit →
    visit ≤ (get_or runs index other).count → mask_in (drop index runs) visit rest ≡ whole →
    (get_or runs index other).mask ≡ whole
mask_here_at runs index other visit rest whole inside first within known =
    let tail : drop index runs ≡ get_or runs index other ∷ drop
    (suc index) runs = drop-cons runs index other inside in
    sym (mask_here (get_or runs index other) (drop (suc index) runs) visit rest first within)
    ∙ ap (λ (l : List Run). mask_in l visit rest) (sym tail) ∙ known

pub mask_later_at : (runs : List Run) (index : ℕ) (other : Run) (visit rest whole : ℕ) → index < length runs →
    1 ≤ visit →
    (get_or runs index other).count < visit → mask_in (drop index runs) visit rest ≡ whole →
    mask_in (drop (index + 1) runs) (visit - (get_or runs index other).count) rest ≡ whole
mask_later_at runs index other visit rest whole inside first behind known =
    let tail : drop index runs ≡ get_or runs index other ∷ drop
    (suc index) runs = drop-cons runs index other inside in
    rw add-one (sym (mask_later (get_or runs index other) (drop (suc index) runs) visit rest first behind)
    ∙ ap (λ (l : List Run). mask_in l visit rest) (sym tail) ∙ known)

pub mask_rest_at : (runs : List Run) (index visit rest whole : ℕ) → length runs ≤ index →
    mask_in (drop index runs) visit rest ≡ whole → rest ≡ whole
mask_rest_at runs index visit rest whole past known =
    sym (mask_rest visit rest) ∙ ap (λ (l : List Run). mask_in l visit rest) (sym (drop_of_length-le runs past))
    ∙ known

-- ---- how many masks runs list

pub masks_count : (run : Run) (runs : List Run) → length (listed_masks (run ∷ runs)) ≡ run.count + length
    (listed_masks runs)
unfolding listed_masks
masks_count run runs =
    length-append (replicate run.count run.mask) (listed_masks runs)
    ∙ ap (λ (n : ℕ). n + length (listed_masks runs)) (length-replicate run.count run.mask)

pub masks_none : length (listed_masks []) ≡ 0
unfolding listed_masks
masks_none = refl

pub masks_count_at : (runs : List Run) (index : ℕ) (other : Run) → index < length runs →
    length (listed_masks (drop index runs))
    ≡ (get_or runs index other).count + length (listed_masks (drop (index + 1) runs))
masks_count_at runs index other inside =
    let tail : drop index runs ≡ get_or runs index other ∷ drop
    (suc index) runs = drop-cons runs index other inside in
    rw add-one (ap (λ (l : List Run). length (listed_masks l)) tail
    ∙ masks_count (get_or runs index other) (drop (suc index) runs))

pub masks_past : (runs : List Run) (index : ℕ) → length runs ≤ index → length (listed_masks (drop index runs)) ≡ 0
masks_past runs index past =
    ap (λ (l : List Run). length (listed_masks l)) (drop_of_length-le runs past) ∙ masks_none

-- ---- a pattern

-- no mask stands in an empty pattern
pub empty_mask : (masks : List ℕ) (place : ℕ) → length masks ≡ 0 → slice_index_or masks place 0 ≡ 0
empty_mask [] place none = refl
empty_mask (mask ∷ masks) place none = absurd (omega (arith, none))

pub first_round : (masks : List ℕ) (place : ℕ) → place < length masks →
    slice_index_or masks place 0 ≡ slice_index_or masks (place % length masks) 0
first_round masks place inside = ap (λ (n : ℕ). slice_index_or masks n 0) (sym (mod-eq_of_lt inside))

-- within the list its mask stands, and after it that of the pattern
pub repeated_here : (masks pattern : List ℕ) (place : ℕ) → place < length masks →
    repeated masks pattern place ≡ slice_index_or masks place 0
repeated_here masks pattern place inside =
    cond-true (nat_lt place (length masks)) (slice_index_or masks place 0)
    (slice_index_or pattern ((place - length masks) % length pattern) 0) (lt-ltb _ _ inside)

pub repeated_behind : (masks pattern : List ℕ) (place : ℕ) → length masks ≤ place →
    repeated masks pattern place ≡ slice_index_or pattern ((place - length masks) % length pattern) 0
repeated_behind masks pattern place behind =
    cond-false (nat_lt place (length masks)) (slice_index_or masks place 0)
    (slice_index_or pattern ((place - length masks) % length pattern) 0) (le-ltb _ _ behind)
