-- A segment that is put among ascending ones at the place of its address.
use Rattle.std.proofs.Common.{◌⊎◌, inl, inr, ℕ, zero, suc, ◌<◌, ◌≤◌, List, [], ◌∷◌, ◌++◌, length, take, drop, refl, subst, sym, arith, IsTrue}
use Rattle.std.specs.Prelude.{All, Contains, IfSome, insert, slice_get}
use Rattle.std.proofs.lemmas.Bool.Decides.{nat_tests}
use Rattle.std.proofs.lemmas.Grind.{common_steps}
use Rattle.std.proofs.lemmas.List.{take-append-drop}
use Rattle.std.proofs.lemmas.List.Elements.{All-append, All-cons, All-drop, All-head, All-tail, All-take, Contains-append_cases, Contains-append_left, Contains-append_right}
use Rattle.elf32_loader.specs.declared.segments.Segment.{Segment}
use Rattle.elf32_loader.specs.Private.Searches.{IsPlace, is_climbing}
use Rattle.elf32_loader.specs.Segments.{end_of}

-- two segments share no address
abbrev pub AreApart : Segment → Segment → Type 0
AreApart one other = (end_of one ≤ other.address) ⊎ (end_of other ≤ one.address)

-- ascending segments stay so
climbs_more : (segments : List Segment) (place : ℕ) (x : Segment) → 0 < length x.bytes → IsTrue (is_climbing segments)
    → All (AreApart x) segments → place ≤ length segments
    → All (λ segment. segment.address ≤ x.address) (take place segments)
    → IfSome (slice_get segments place) (λ segment. x.address < segment.address)
    → IsTrue (is_climbing (insert segments place x))
climbs_more [] zero x some climbs apart within before after = grind (arith, nat_tests)
climbs_more [] (suc place) x some climbs apart within before after = absurd (omega arith)
climbs_more (first ∷ rest) zero x some climbs apart within before after =
    let ends : end_of x ≤ first.address = omega (arith, All-head (AreApart x) first rest apart, after) in
    grind (arith, nat_tests, common_steps)
climbs_more (first ∷ []) (suc zero) x some climbs apart within before after =
    let begins : first.address ≤ x.address = All-head (λ (s : Segment). s.address ≤ x.address) first [] before in
    let ends : end_of first ≤ x.address = omega (arith, All-head (AreApart x) first [] apart) in
    grind (arith, nat_tests, common_steps)
climbs_more (first ∷ []) (suc (suc place)) x some climbs apart within before after = absurd (omega arith)
climbs_more (first ∷ (second ∷ rest)) (suc zero) x some climbs apart within before after =
    let begins : first.address ≤ x.address = All-head (λ (s : Segment). s.address ≤ x.address) first [] before in
    let ends : end_of first ≤ x.address = omega (arith, All-head (AreApart x) first (second ∷ rest) apart) in
    let later : IsTrue (is_climbing (x ∷ (second ∷ rest))) =
    climbs_more (second ∷ rest) zero x some (grind (arith, nat_tests, common_steps))
    (All-tail (AreApart x) first (second ∷ rest) apart) (omega arith) (λ k d below. absurd (omega arith)) after in
    grind (arith, nat_tests, common_steps)
climbs_more (first ∷ (second ∷ rest)) (suc (suc place)) x some climbs apart within before after =
    let later : IsTrue (is_climbing (second ∷ (take place rest ++ x ∷ drop place rest))) =
    climbs_more (second ∷ rest) (suc place) x some (grind (arith, nat_tests, common_steps))
    (All-tail (AreApart x) first (second ∷ rest) apart) (omega arith)
    (All-tail (λ (s : Segment). s.address ≤ x.address) first (second ∷ take place rest) before) after in
    grind (arith, nat_tests, common_steps)

pub climbs_insert : (segments : List Segment) (place : ℕ) (x : Segment) → 0 < length x.bytes
    → IsTrue (is_climbing segments)
    → All (AreApart x) segments → IsPlace x.address segments place → IsTrue (is_climbing (insert segments place x))
climbs_insert segments place x some climbs apart is_place =
    climbs_more segments place x some climbs apart is_place.within is_place.before is_place.after

-- what holds of each segment and of the new one holds of all
pub all_insert : (P : Segment → Type 0) (segments : List Segment) (place : ℕ) (x : Segment) → All P segments → P x
    → All P (insert segments place x)
all_insert P segments place x all holds =
    All-append P (take place segments) (x ∷ drop place segments) (All-take P place segments all)
    (All-cons P x (drop place segments) holds (All-drop P place segments all))

-- each segment is still there
pub contains_insert : (segments : List Segment) (place : ℕ) (x y : Segment) → Contains segments y
    → Contains (insert segments place x) y
contains_insert segments place x y contained =
    let split : Contains (take place segments ++ drop place segments) y =
    subst (λ (xs : List Segment). Contains xs y) (sym (take-append-drop place segments)) contained in
    elim (Contains-append_cases (take place segments) (drop place segments) y split) [
      | inl front ↦ Contains-append_left (take place segments) (x ∷ drop place segments) y front
      | inr back ↦
          Contains-append_right (take place segments) (x ∷ drop place segments) y
          (Contains-append_right (x ∷ []) (drop place segments) y back)
    ]

-- and so is the new one
pub contains_new : (segments : List Segment) (place : ℕ) (x : Segment) → Contains (insert segments place x) x
contains_new segments place x =
    Contains-append_right (take place segments) (x ∷ drop place segments) x (0, omega arith, refl)
