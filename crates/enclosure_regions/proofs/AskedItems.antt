-- A closure that goes through the items of a slice is asked at items that pass the test that all of them pass.
use Rattle.std.proofs.Common.{◌≡◌, Bool, true, List, [], ◌∷◌, Bor, Iter, sym, subst}
use Rattle.std.specs.List.{list_all, FoldsTo}
use Rattle.std.specs.Iterator.{CallableAtEachTurn, Yields}
use Rattle.std.specs.Slice.Iter.{iter_rest, iter_steps}
use Rattle.std.proofs.lemmas.Bool.{and_parts}

parted : {A : Type 0} (test : A → Bool) (xs more : List A) (x : A) → xs ≡ x ∷ more → list_all test xs ≡ true →
    (test x ≡ true) × (list_all test more ≡ true)
parted test xs more x e all =
    and_parts (test x) (list_all test more) (subst (λ items. list_all test items ≡ true) e all)

stays_passing : {A : Type 0} (test : A → Bool) (xs : List (Bor A)) (s t : Iter A) → Yields iter_steps s xs t →
    list_all test (iter_rest s) ≡ true → list_all test (iter_rest t) ≡ true
stays_passing test [] s t y all = subst (λ items. list_all test (iter_rest items) ≡ true) y all
stays_passing test (x ∷ xs) s t y all =
    stays_passing test xs y.0 t y.2 (parted test (iter_rest s) (iter_rest y.0) x.now y.1 all).1

unmoved : {A P : Type 0} (R : P → A → P → Type 0) (p : P) → ((x : A) (q : P) → R p x q → q ≡ p) → (xs : List A)
    (q : P) → FoldsTo R p xs q → q ≡ p
unmoved R p stays [] q c = sym c
unmoved R p stays (x ∷ xs) q c = unmoved R p stays xs q (subst (λ k. FoldsTo R k xs q) (stays x c.0 c.1) c.2)

pub asked_in_slice : {A P : Type 0} {R : P → Bor A → P → Type 0} {Q : P → Bor A → Type 0} {s : Iter A} {p : P}
    (test : A → Bool) → list_all test (iter_rest s) ≡ true → ((x : Bor A) (q : P) → R p x q → q ≡ p) →
    ((x : Bor A) → test x.now ≡ true → Q p x) → CallableAtEachTurn iter_steps R Q s p
asked_in_slice {R} {Q} {s} {p} test all stays takes = record {
  at = λ xs t q x u y c e.
      subst (λ k. Q k x) (sym (unmoved R p stays xs q c))
      (takes x (parted test (iter_rest t) (iter_rest u) x.now e (stays_passing test xs s t y all)).0);
}
