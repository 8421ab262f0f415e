-- Runs of masks that differ from their neighbours are what they list.
use Rattle.std.proofs.Common.{◌≡◌, ◌≢◌, ℕ, zero, suc, ◌≤◌, ◌==◌, ◌&&◌, not, Bool, true, false, List, [], ◌∷◌, ◌++◌, length, refl, sym, ap, ap₂, subst, ◌∙◌, arith}
use Rattle.std.specs.Prelude.{nat_le, replicate}
use Rattle.std.specs.List.{list_all}
use Rattle.std.proofs.lemmas.Bool.{and_parts, eq-eqb, leb-true}
use Rattle.cut_file.specs.declared.points.Run.{Run}
use Rattle.cut_file.specs.Cuts.{are_runs, have_other_masks, is_run, is_word, neighbours_pass}
use Rattle.cut_file.specs.Masks.{listed_masks}
use Rattle.cut_file.proofs.MaskLists.{masks_count, masks_none}

-- ---- the same mask so many times

-- a list does not begin with this mask
DoesNotBegin : ℕ → List ℕ → Type 0
DoesNotBegin mask [] = Unit {0}
DoesNotBegin mask (first ∷ masks) = first ≢ mask

begins_not : (mask : ℕ) (masks : List ℕ) → DoesNotBegin mask (mask ∷ masks) → ⊥
unfolding DoesNotBegin
begins_not mask masks other = other refl

record AreSame (n m : ℕ) (x y : List ℕ) : Type 0 where
  count : n ≡ m
  rest : x ≡ y

tail_same : (a b : ℕ) (x y : List ℕ) → a ∷ x ≡ b ∷ y → x ≡ y
tail_same a b x y same = cc

repeats_same : (n m mask : ℕ) (x y : List ℕ) → replicate n mask ++ x ≡ replicate m mask ++ y → DoesNotBegin mask x →
    DoesNotBegin mask y → AreSame n m x y
repeats_same zero zero mask x y same first second = record { count = refl; rest = same }
repeats_same zero (suc m) mask x y same first second =
    absurd (begins_not mask (replicate m mask ++ y) (subst (DoesNotBegin mask) same first))
repeats_same (suc n) zero mask x y same first second =
    absurd (begins_not mask (replicate n mask ++ x) (subst (DoesNotBegin mask) (sym same) second))
repeats_same (suc n) (suc m) mask x y same first second =
    let go = repeats_same n m mask x y
    (tail_same mask mask (replicate n mask ++ x) (replicate m mask ++ y) same) first second in
    record { count = ap suc go.count; rest = go.rest }

first_same : (n m a b : ℕ) (x y : List ℕ) → 1 ≤ n → 1 ≤ m → replicate n a ++ x ≡ replicate m b ++ y → a ≡ b
first_same zero m a b x y some other same = absurd (omega (arith, some))
first_same (suc n) zero a b x y some other same = absurd (omega (arith, other))
first_same (suc n) (suc m) a b x y some other same = cc

begins_other : (n mask other : ℕ) (masks : List ℕ) → 1 ≤ n → other ≢ mask →
    DoesNotBegin mask (replicate n other ++ masks)
unfolding DoesNotBegin
begins_other zero mask other masks some apart = absurd (omega (arith, some))
begins_other (suc n) mask other masks some apart = apart

-- ---- runs

some_times : (run : Run) → is_run run ≡ true → 1 ≤ run.count
some_times run is =
    leb-true 1 run.count (and_parts (nat_le 1 run.count) (is_word run.count && is_word run.mask) is).0

masks_more : (run : Run) (runs : List Run) →
    listed_masks (run ∷ runs) ≡ replicate run.count run.mask ++ listed_masks runs
unfolding listed_masks
masks_more run runs = refl

other_mask : (run next : Run) → have_other_masks run next ≡ true → next.mask ≢ run.mask
other_mask run next other same =
    let equal : (run.mask == next.mask) ≡ true = eq-eqb run.mask next.mask (sym same) in
    let clash : false ≡ true = sym (ap not equal) ∙ other in
    cc

next_other : (run : Run) (runs : List Run) → list_all is_run runs ≡ true →
    neighbours_pass have_other_masks (run ∷ runs) ≡ true → DoesNotBegin run.mask (listed_masks runs)
unfolding DoesNotBegin listed_masks
next_other run [] all others = tt
next_other run (next ∷ runs) all others =
    begins_other next.count run.mask next.mask (listed_masks runs)
    (some_times next (and_parts (is_run next) (list_all is_run runs) all).0)
    (other_mask run next
    (and_parts (have_other_masks run next) (neighbours_pass have_other_masks (next ∷ runs)) others).0)

others_pass : {A : Type 0} (test : A → A → Bool) (first : A) (others : List A) →
    neighbours_pass test (first ∷ others) ≡ true → neighbours_pass test others ≡ true
others_pass test first [] pass = refl
others_pass test first (second ∷ others) pass =
    (and_parts (test first second) (neighbours_pass test (second ∷ others)) pass).1

none_listed : (run : Run) (runs : List Run) → is_run run ≡ true → listed_masks [] ≡ listed_masks (run ∷ runs) → ⊥
none_listed run runs is same =
    let some = some_times run is in
    let count = masks_count run runs in
    let none = masks_none in
    let both : length (listed_masks []) ≡ length (listed_masks (run ∷ runs)) = ap length same in
    omega (arith, some, count, none, both)

made : ℕ → ℕ → Run
made count mask = record { count = count; mask = mask }

made_same : (one other : Run) → one.count ≡ other.count → one.mask ≡ other.mask → one ≡ other
unfolding made
made_same one other count mask = ap₂ made count mask

one_run_list : (one other : List Run) → list_all is_run one ≡ true → list_all is_run other ≡ true →
    neighbours_pass have_other_masks one ≡ true → neighbours_pass have_other_masks other ≡ true →
    listed_masks one ≡ listed_masks other → one ≡ other
one_run_list [] [] all every pass passed same = refl
one_run_list [] (run ∷ runs) all every pass passed same =
    absurd (none_listed run runs (and_parts (is_run run) (list_all is_run runs) every).0 same)
one_run_list (run ∷ runs) [] all every pass passed same =
    absurd (none_listed run runs (and_parts (is_run run) (list_all is_run runs) all).0 (sym same))
one_run_list (run ∷ runs) (next ∷ others) all every pass passed same =
    let own = and_parts (is_run run) (list_all is_run runs) all in
    let own_next = and_parts (is_run next) (list_all is_run others) every in
    let lists : replicate run.count run.mask ++ listed_masks runs ≡ replicate next.count next.mask ++ listed_masks others
    = sym (masks_more run runs) ∙ (same ∙ masks_more next others) in
    let mask : run.mask ≡ next.mask = first_same run.count next.count run.mask next.mask (listed_masks runs)
    (listed_masks others) (some_times run own.0) (some_times next own_next.0) lists in
    let by_mask : replicate run.count run.mask ++ listed_masks runs
    ≡ replicate next.count run.mask ++ listed_masks others =
    lists ∙ ap (λ (m : ℕ). replicate next.count m ++ listed_masks others) (sym mask) in
    let there : DoesNotBegin run.mask (listed_masks others) =
    subst (λ (m : ℕ). DoesNotBegin m (listed_masks others)) (sym mask) (next_other next others own_next.1 passed) in
    let parts = repeats_same run.count next.count run.mask (listed_masks runs) (listed_masks others) by_mask
    (next_other run runs own.1 pass) there in
    let rest : runs ≡ others = one_run_list runs others own.1 own_next.1
    (others_pass have_other_masks run runs pass) (others_pass have_other_masks next others passed) parts.rest in
    ap₂ (λ (r : Run) (rs : List Run). r ∷ rs) (made_same run next parts.count mask) rest

pub one_runs : (one other : List Run) → are_runs one ≡ true → are_runs other ≡ true →
    listed_masks one ≡ listed_masks other → one ≡ other
one_runs one other first second same =
    let a = and_parts (list_all is_run one) (neighbours_pass have_other_masks one) first in
    let b = and_parts (list_all is_run other) (neighbours_pass have_other_masks other) second in
    one_run_list one other a.0 b.0 a.1 b.1 same
