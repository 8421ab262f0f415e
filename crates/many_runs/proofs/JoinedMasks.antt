-- The masks of two runs, visit by visit.
use Rattle.std.proofs.Common.{◌≡◌, ℕ, zero, suc, ◌+◌, ◌++◌, ◌∷◌, [], List, refl, sym, ap, ◌∙◌, append_assoc, replicate}
use Rattle.std.specs.Prelude.{bit_or}
use Rattle.std.proofs.lemmas.List.{replicate-append-replicate}
use Rattle.measuring.proofs.CutRuns.{or_assoc}
use Rattle.measuring.specs.declared.point_visits.VisitRun.{VisitRun}
use Rattle.measuring.specs.VisitRuns.{run_masks}
use Rattle.many_runs.specs.Uniting.{united_masks}

-- where the second run has no visit
pub joined_none : (masks : List ℕ) → united_masks masks [] ≡ masks
unfolding united_masks
joined_none [] = refl
joined_none (mask ∷ masks) = refl

pub none_joined : (masks : List ℕ) → united_masks [] masks ≡ masks
unfolding united_masks
none_joined masks = refl

-- so many visits of both, each with one mask
pub joined_replicate : (n x y : ℕ) (xs ys : List ℕ) →
    united_masks (replicate n x ++ xs) (replicate n y ++ ys) ≡ replicate n (bit_or x y) ++ united_masks xs ys
unfolding united_masks
joined_replicate zero x y xs ys = refl
joined_replicate (suc n) x y xs ys = ap (λ masks. bit_or x y ∷ masks) (joined_replicate n x y xs ys)

-- which of three are united_masks first is all the same
pub joined_chain : (a b c : List ℕ) → united_masks (united_masks a b) c ≡ united_masks a (united_masks b c)
unfolding united_masks
joined_chain [] b c = refl
joined_chain (x ∷ a) [] c = refl
joined_chain (x ∷ a) (y ∷ b) [] = refl
joined_chain (x ∷ a) (y ∷ b) (z ∷ c) =
    ap (λ m. m ∷ united_masks (united_masks a b) c) (or_assoc x y z) ∙ ap (λ masks. bit_or x (bit_or y z) ∷ masks) (joined_chain a b c)

-- ---- runs

pub masks_cons : (run : VisitRun) (runs : List VisitRun) →
    run_masks (run ∷ runs) ≡ replicate run.count run.mask ++ run_masks runs
unfolding run_masks
masks_cons run runs = refl

-- a run without a visit
pub masks_empty : (run : VisitRun) (runs : List VisitRun) → run.count ≡ 0 → run_masks (run ∷ runs) ≡ run_masks runs
masks_empty run runs none = masks_cons run runs ∙ ap (λ n. replicate n run.mask ++ run_masks runs) none

-- a run of which so many visits are past
pub masks_parted : (run left : VisitRun) (n : ℕ) (runs : List VisitRun) → run.count ≡ n + left.count →
    left.mask ≡ run.mask → run_masks (run ∷ runs) ≡ replicate n run.mask ++ run_masks (left ∷ runs)
masks_parted run left n runs count mask =
    masks_cons run runs
    ∙ (ap (λ k. replicate k run.mask ++ run_masks runs) count
    ∙ (ap (λ masks. masks ++ run_masks runs) (sym (replicate-append-replicate n left.count run.mask))
    ∙ (append_assoc (replicate n run.mask) (replicate left.count run.mask) (run_masks runs)
    ∙ (ap (λ m. replicate n run.mask ++ (replicate left.count m ++ run_masks runs)) (sym mask)
    ∙ ap (λ masks. replicate n run.mask ++ masks) (sym (masks_cons left runs))))))

-- so many visits of both runs
pub joined_parted : (one left other right : VisitRun) (n : ℕ) (ones others : List VisitRun) →
    one.count ≡ n + left.count → left.mask ≡ one.mask → other.count ≡ n + right.count → right.mask ≡ other.mask →
    united_masks (run_masks (one ∷ ones)) (run_masks (other ∷ others))
    ≡ replicate n (bit_or one.mask other.mask) ++ united_masks (run_masks (left ∷ ones)) (run_masks (right ∷ others))
joined_parted one left other right n ones others count mask count_too mask_too =
    ap (λ masks. united_masks masks (run_masks (other ∷ others))) (masks_parted one left n ones count mask)
    ∙ (ap (λ masks. united_masks (replicate n one.mask ++ run_masks (left ∷ ones)) masks)
    (masks_parted other right n others count_too mask_too)
    ∙ joined_replicate n one.mask other.mask (run_masks (left ∷ ones)) (run_masks (right ∷ others)))
