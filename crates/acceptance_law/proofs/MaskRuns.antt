-- Runs of masks that differ from their neighbours are few for the bits of their masks.
use Rattle.std.proofs.Common.{◌≡◌, ℕ, zero, suc, ◌+◌, ◌*◌, ◌≤◌, ◌<◌, ◌==◌, ◌&&◌, ◌∷◌, [], cond, not}
use Rattle.std.proofs.Common.{Bool, true, false, List, length, refl, ap, ◌∙◌, arith, inl, inr, nat_le, replicate}
use Rattle.std.specs.List.{list_all, sum_by}
use Rattle.std.proofs.lemmas.Bool.{and_parts, cases_Bool, cond-true, cond-false, eqb-true}
use Rattle.std.proofs.lemmas.Bool.{leb-true, ltb-true}
use Rattle.std.proofs.lemmas.List.Folds.{sum_by-replicate}
use Rattle.std.proofs.lemmas.List.Sums.{sum_by-append}
use Rattle.flow_base.specs.Words.{bit_count}
use Rattle.cut_file.specs.declared.points.Run.{Run}
use Rattle.cut_file.specs.Cuts.{neighbours_pass, is_word, is_run, have_other_masks, are_runs}
use Rattle.cut_file.specs.Masks.{listed_masks}
use Rattle.acceptance_law.proofs.GraphEvents.{count_some}

-- the bits of the masks of runs, one mask for each visit
abbrev pub bits_of : List Run → ℕ
bits_of runs = sum_by bit_count (listed_masks runs)

-- 1 where the first of them has mask 0
abbrev pub starts_empty : List Run → ℕ
starts_empty [] = 0
starts_empty (run ∷ runs) = cond (run.mask == 0) 1 0

bits_more : (run : Run) (runs : List Run) → bits_of (run ∷ runs) ≡ run.count * bit_count run.mask + bits_of runs
unfolding listed_masks
bits_more run runs =
    sum_by-append bit_count (replicate run.count run.mask) (listed_masks runs)
    ∙ ap (λ n. n + sum_by bit_count (listed_masks runs)) (sum_by-replicate bit_count run.count run.mask)

at_least : (count bits : ℕ) → 1 ≤ count → bits ≤ count * bits
at_least zero bits some = absurd (omega arith)
at_least (suc count) bits some = omega arith

-- a run with a mask other than 0 has a bit
run_bits : (run : Run) (runs : List Run) → is_run run ≡ true → (run.mask == 0) ≡ false →
    1 + bits_of runs ≤ bits_of (run ∷ runs)
run_bits run runs is other =
    let first = and_parts (nat_le 1 run.count) (is_word run.count && is_word run.mask) is in
    let second = and_parts (is_word run.count) (is_word run.mask) first.1 in
    let times = at_least run.count (bit_count run.mask) (leb-true 1 run.count first.0) in
    let word : run.mask < 4294967296 = ltb-true run.mask 4294967296 second.1 in
    let bits : 0 < bit_count run.mask = count_some run.mask (some run.mask other) word in
    let all = bits_more run runs in
    omega (arith, times, bits, all)
  where
    some : (n : ℕ) → (n == 0) ≡ false → 0 < n
    some zero other = absurd (cc)
    some (suc n) other = omega arith

no_fewer : (run : Run) (runs : List Run) → bits_of runs ≤ bits_of (run ∷ runs)
no_fewer run runs = let all = bits_more run runs in omega (arith, all)

starts_once : (runs : List Run) → starts_empty runs ≤ 1
starts_once [] = omega arith
starts_once (run ∷ runs) = pick (run.mask == 0)
  where
    pick : (b : Bool) → cond b 1 0 ≤ 1
    pick true = omega arith
    pick false = omega arith

-- after a run with mask 0 comes none with mask 0
starts_other : (run : Run) (runs : List Run) → neighbours_pass have_other_masks (run ∷ runs) ≡ true →
    (run.mask == 0) ≡ true → starts_empty runs ≡ 0
starts_other run [] differ empty = refl
starts_other run (next ∷ runs) differ empty = elim (cases_Bool (next.mask == 0)) [
  | inr other ↦ cond-false (next.mask == 0) 1 0 other
  | inl same ↦
      let apart : not (run.mask == next.mask) ≡ true =
      (and_parts (not (run.mask == next.mask)) (neighbours_pass have_other_masks (next ∷ runs)) differ).0 in
      absurd (apart_none run.mask next.mask (eqb-true run.mask 0 empty) (eqb-true next.mask 0 same) apart)
]
  where
    apart_none : (m n : ℕ) → m ≡ 0 → n ≡ 0 → not (m == n) ≡ true → ⊥
    apart_none zero zero first second apart = absurd (cc)
    apart_none zero (suc n) first second apart = absurd (omega (arith, second))
    apart_none (suc m) n first second apart = absurd (omega (arith, first))

differ_behind : (run : Run) (runs : List Run) → neighbours_pass have_other_masks (run ∷ runs) ≡ true →
    neighbours_pass have_other_masks runs ≡ true
differ_behind run [] differ = refl
differ_behind run (next ∷ runs) differ =
    (and_parts (not (run.mask == next.mask)) (neighbours_pass have_other_masks (next ∷ runs)) differ).1

runs_within : (runs : List Run) → list_all is_run runs ≡ true → neighbours_pass have_other_masks runs ≡ true →
    length runs ≤ 2 * bits_of runs + starts_empty runs
runs_within [] are differ = omega arith
runs_within (run ∷ runs) are differ =
    let both = and_parts (is_run run) (list_all is_run runs) are in
    let rest = runs_within runs both.1 (differ_behind run runs differ) in
    elim (cases_Bool (run.mask == 0)) [
      | inl empty ↦
          let starts : starts_empty (run ∷ runs) ≡ 1 = cond-true (run.mask == 0) 1 0 empty in
          let none = starts_other run runs differ empty in
          let more = no_fewer run runs in
          omega (arith, rest, starts, none, more)
      | inr other ↦
          let once = starts_once runs in
          let more = run_bits run runs both.0 other in
          omega (arith, rest, once, more)
    ]

-- at most two runs for each bit, and one more
pub few_runs : (runs : List Run) → are_runs runs ≡ true → length runs ≤ 2 * bits_of runs + 1
few_runs runs are =
    let both = and_parts (list_all is_run runs) (neighbours_pass have_other_masks runs) are in
    let within = runs_within runs both.0 both.1 in
    let once = starts_once runs in
    omega (arith, within, once)
