-- Runs of visits, one visit more at a time.
use Rattle.std.proofs.Common.{◌≡◌, ℕ, ◌+◌, ◌<◌, ◌≤◌, ◌==◌, ◌&&◌, ◌||◌, Bool, false, true, List, [], ◌∷◌, ◌++◌, refl}
use Rattle.std.proofs.Common.{sym, ap, ◌∙◌, IsTrue, append_assoc, length, nat_le, replicate, not, arith}
use Rattle.std.specs.List.{list_all}
use Rattle.std.proofs.lemmas.Bool.{and_parts, and_from, le-leb, leb-true, lt-ltb}
use Rattle.std.proofs.lemmas.List.{append-nil, length-append, length-replicate, replicate-append-replicate}
use Rattle.cut_file.specs.Cuts.{neighbours_pass}
use Rattle.cut_file.specs.Private.Reading.{may_follow}
use Rattle.cut_file.proofs.Following.{neighbours_push, all_push, is_true, is_so, list_push}
use Rattle.measuring.specs.declared.point_visits.VisitRun.{VisitRun}
use Rattle.measuring.specs.VisitRuns.{run_masks, is_visit_run, stay_apart, are_visit_runs}

pub masks_append : (first second : List VisitRun) → run_masks (first ++ second) ≡ run_masks first ++ run_masks second
unfolding run_masks
masks_append [] second = refl
masks_append (run ∷ runs) second =
    ap (λ masks. replicate run.count run.mask ++ masks) (masks_append runs second)
    ∙ sym (append_assoc (replicate run.count run.mask) (run_masks runs) (run_masks second))

pub masks_one : (run : VisitRun) → run_masks (run ∷ []) ≡ replicate run.count run.mask
unfolding run_masks
masks_one run = append-nil (replicate run.count run.mask)

pub masks_none : run_masks [] ≡ []
unfolding run_masks
masks_none = refl

pub masks_push : (runs : List VisitRun) (run : VisitRun) → run_masks (runs ++ run ∷ []) ≡ run_masks runs ++ replicate
    run.count run.mask
masks_push runs run = masks_append runs (run ∷ []) ∙ ap (λ masks. run_masks runs ++ masks) (masks_one run)

-- visits more in the latest run
pub masks_again : (runs : List VisitRun) (latest more : VisitRun) (n : ℕ) → more.count ≡ latest.count + n → more.mask ≡
    latest.mask → run_masks (runs ++ more ∷ []) ≡ run_masks (runs ++ latest ∷ []) ++ replicate n latest.mask
masks_again runs latest more n count mask =
    masks_push runs more
    ∙ (ap (λ k. run_masks runs ++ replicate k more.mask) count
    ∙ (ap (λ m. run_masks runs ++ replicate (latest.count + n) m) mask
    ∙ (ap (λ masks. run_masks runs ++ masks) (sym (replicate-append-replicate latest.count n latest.mask))
    ∙ (sym (append_assoc (run_masks runs) (replicate latest.count latest.mask) (replicate n latest.mask))
    ∙ ap (λ masks. masks ++ replicate n latest.mask) (sym (masks_push runs latest))))))

-- ---- how many visits runs have

pub length_more : (run : VisitRun) (runs : List VisitRun) → length (run_masks (run ∷ runs)) ≡ run.count + length (run_masks
    runs)
unfolding run_masks
length_more run runs =
    length-append (replicate run.count run.mask) (run_masks runs)
    ∙ ap (λ n. n + length (run_masks runs)) (length-replicate run.count run.mask)

pub length_push : (runs : List VisitRun) (run : VisitRun) → length (run_masks (runs ++ run ∷ [])) ≡ length (run_masks
    runs) + run.count
length_push runs run =
    ap length (masks_push runs run)
    ∙ (length-append (run_masks runs) (replicate run.count run.mask)
    ∙ ap (λ n. length (run_masks runs) + n) (length-replicate run.count run.mask))

-- ---- which runs stay apart

pub other_masks : (first second : VisitRun) → (first.mask == second.mask) ≡ false → stay_apart first second ≡ true
other_masks first second other =
    ap (λ b. not b || nat_le 18446744073709551616 (first.count + second.count)) other

pub too_many : (first second : VisitRun) → 18446744073709551616 ≤ first.count + second.count →
    stay_apart first second ≡ true
too_many first second many =
    ap (λ b. not (first.mask == second.mask) || b) (le-leb _ _ many) ∙ always (not (first.mask == second.mask))
  where
    always : (b : Bool) → (b || true) ≡ true
    always true = refl
    always false = refl

later_too : (a b c : Bool) → (b ≡ true → c ≡ true) → (a || b) ≡ true → (a || c) ≡ true
later_too true b c later either = refl
later_too false b c later either = later either

-- a run that is longer than another with its mask stays apart where that does
longer_apart : (first second more : VisitRun) → more.mask ≡ second.mask → second.count ≤ more.count →
    stay_apart first second ≡ true → stay_apart first more ≡ true
longer_apart first second more mask longer apart =
    ap (λ m. not (first.mask == m) || nat_le 18446744073709551616 (first.count + more.count)) mask
    ∙ later_too (not (first.mask == second.mask)) (nat_le 18446744073709551616 (first.count + second.count))
    (nat_le 18446744073709551616 (first.count + more.count))
    (λ many. le-leb _ _ (let most = leb-true _ _ many in omega (arith, most, longer))) apart

follows_longer : (runs : List VisitRun) (latest more : VisitRun) → more.mask ≡ latest.mask →
    latest.count ≤ more.count → may_follow stay_apart runs latest ≡ true → may_follow stay_apart runs more ≡ true
follows_longer [] latest more mask longer apart = refl
follows_longer (run ∷ []) latest more mask longer apart = longer_apart run latest more mask longer apart
follows_longer (run ∷ (next ∷ runs)) latest more mask longer apart =
    follows_longer (next ∷ runs) latest more mask longer apart

-- a run that lasts longer stands where the run stood
pub sound_again : (runs : List VisitRun) (latest more : VisitRun) → IsTrue (are_visit_runs (runs ++ latest ∷ [])) →
    0 < more.count → more.mask ≡ latest.mask → latest.count ≤ more.count → IsTrue (are_visit_runs (runs ++ more ∷ []))
sound_again runs latest more known some mask longer =
    let both = and_parts (list_all is_visit_run (runs ++ latest ∷ [])) (neighbours_pass stay_apart
    (runs ++ latest ∷ [])) (is_so _ known) in
    let all = and_parts (list_all is_visit_run runs) (is_visit_run latest) (sym (all_push is_visit_run runs latest)
    ∙ both.0) in
    let near = and_parts (neighbours_pass stay_apart runs) (may_follow stay_apart runs latest)
    (sym (neighbours_push stay_apart runs latest) ∙ both.1) in
    is_true _ (list_push is_visit_run stay_apart runs more (and_from _ _ all.0 near.0)
    (lt-ltb 0 more.count some) (follows_longer runs latest more mask longer near.1))

pub follows_last : {A : Type 0} (test : A → A → Bool) (items : List A) (latest next : A) →
    may_follow test (items ++ latest ∷ []) next ≡ test latest next
follows_last test [] latest next = refl
follows_last test (item ∷ []) latest next = refl
follows_last test (item ∷ (other ∷ items)) latest next = follows_last test (other ∷ items) latest next

-- a run that stays apart from the latest stands after it
pub sound_begin : (runs : List VisitRun) (latest next : VisitRun) → IsTrue (are_visit_runs (runs ++ latest ∷ [])) →
    is_visit_run next ≡ true → stay_apart latest next ≡ true →
    IsTrue (are_visit_runs ((runs ++ latest ∷ []) ++ next ∷ []))
sound_begin runs latest next known some apart =
    is_true _ (list_push is_visit_run stay_apart (runs ++ latest ∷ []) next (is_so _ known) some
    (follows_last stay_apart runs latest next ∙ apart))

-- one run stands by itself
pub sound_one : (run : VisitRun) → is_visit_run run ≡ true → IsTrue (are_visit_runs (run ∷ []))
sound_one run some = is_true _ (and_from (is_visit_run run && true) true (and_from (is_visit_run run) true some refl) refl)
