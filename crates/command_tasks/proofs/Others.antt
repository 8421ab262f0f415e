-- The files after the cut.
use Rattle.std.proofs.Common.{◌≡◌, ◌∙◌, ◌≤◌, ◌-◌, suc, ap, ℕ, List, [], ◌∷◌, ◌++◌, true, false, length, take, drop, Option, Some, None, is_some, option_map, refl, sym, subst, arith}
use Rattle.std.proofs.Math.Seq.{take-length}
use Rattle.std.proofs.lemmas.Grind.{common_steps}
use Rattle.std.proofs.lemmas.Bool.Decides.{nat_tests}
use Rattle.std.proofs.lemmas.List.Elements.{All-cons, All-nil, All-weaker}
use Rattle.std.proofs.lemmas.List.Sums.{list_all-from_AllPass}
use Rattle.std.specs.List.{list_all}
use Rattle.std.specs.Prelude.{nat_le}
use Rattle.command_tasks.specs.Guests.{region_wants, secret_wants}
use Rattle.command_tasks.specs.ReadTasks.{AreShort}
use Rattle.command_tasks.specs.Loading.{AreWithin, Want}

pub short_secrets : (names files : List (List ℕ)) → AreWithin (secret_wants names) files → AreShort files
short_secrets [] [] within = All-nil (λ secret. length secret ≤ 65536)
short_secrets [] (file ∷ files) within = absurd within
short_secrets (name ∷ names) [] within = absurd within
short_secrets (name ∷ names) (file ∷ files) within =
    All-cons (λ secret. length secret ≤ 65536) file files within.0 (short_secrets names files within.1)

pub short_others : (name : Option (List ℕ)) (names files : List (List ℕ)) → is_some name ≡ false →
    AreWithin (region_wants name ++ secret_wants names) files → AreShort files
short_others None names files e within = short_secrets names files within
short_others (Some name) names files e within = absurd cc

pub short_behind : (name : Option (List ℕ)) (names files : List (List ℕ)) → is_some name ≡ true →
    AreWithin (region_wants name ++ secret_wants names) files → AreShort (take (length files - 1) (drop 1 files))
short_behind None names files e within = absurd cc
short_behind (Some name) names [] e within = absurd within
short_behind (Some name) names (first ∷ rest) e within =
    let same : take (length (first ∷ rest) - 1) rest ≡ rest = grind (arith, common_steps, take-length rest) in
    subst (λ files. AreShort files) (sym same) (short_secrets names rest within.1)

short_one : (secret : List ℕ) → length secret ≤ 65536 → nat_le (length secret) 65536 ≡ true
short_one secret few = grind (arith, nat_tests, few)

pub short_tested : (secrets : List (List ℕ)) → AreShort secrets →
    list_all (λ secret. nat_le (length secret) 65536) secrets ≡ true
short_tested secrets short =
    list_all-from_AllPass (λ secret. nat_le (length secret) 65536) secrets
    (All-weaker (λ secret. length secret ≤ 65536) (λ secret. nat_le (length secret) 65536 ≡ true) short_one secrets short)

-- ---- how many secrets there are

count_secrets : (names files : List (List ℕ)) → AreWithin (secret_wants names) files → length files ≡ length names
count_secrets [] [] within = refl
count_secrets [] (file ∷ files) within = absurd within
count_secrets (name ∷ names) [] within = absurd within
count_secrets (name ∷ names) (file ∷ files) within = ap (λ n. suc n) (count_secrets names files within.1)

pub count_others : (name : Option (List ℕ)) (names files : List (List ℕ)) → is_some name ≡ false →
    AreWithin (region_wants name ++ secret_wants names) files → length files ≡ length names
count_others None names files e within = count_secrets names files within
count_others (Some name) names files e within = absurd cc

pub count_behind : (name : Option (List ℕ)) (names files : List (List ℕ)) → is_some name ≡ true →
    AreWithin (region_wants name ++ secret_wants names) files →
    length (take (length files - 1) (drop 1 files)) ≡ length names
count_behind None names files e within = absurd cc
count_behind (Some name) names [] e within = absurd within
count_behind (Some name) names (first ∷ rest) e within =
    let same : take (length (first ∷ rest) - 1) rest ≡ rest = grind (arith, common_steps, take-length rest) in
    ap length same ∙ count_secrets names rest within.1

-- ---- the files of a guest

pub within_behind : (a b : Want) (rest : List Want) (files : List (List ℕ)) → AreWithin (a ∷ b ∷ rest) files →
    AreWithin rest (take (length files - 2) (drop 2 files))
within_behind a b rest [] within = absurd within
within_behind a b rest (x ∷ []) within = absurd within.1
within_behind a b rest (x ∷ (y ∷ files)) within =
    let same : take (length (x ∷ (y ∷ files)) - 2) files ≡ files = grind (arith, common_steps, take-length files) in
    subst (λ others. AreWithin rest others) (sym same) within.1.1

pub is_some_mapped : {A B : Type 0} (f : A → B) (x : Option A) → is_some (option_map f x) ≡ is_some x
is_some_mapped f None = refl
is_some_mapped f (Some a) = refl

pub within_behind_three : (a b d : Want) (rest : List Want) (files : List (List ℕ)) → AreWithin (a ∷ b ∷ d ∷ rest) files →
    AreWithin rest (take (length files - 3) (drop 3 files))
within_behind_three a b d rest [] within = absurd within
within_behind_three a b d rest (x ∷ []) within = absurd within.1
within_behind_three a b d rest (x ∷ (y ∷ [])) within = absurd within.1.1
within_behind_three a b d rest (x ∷ (y ∷ (z ∷ files))) within =
    let same : take (length (x ∷ (y ∷ (z ∷ files))) - 3) files ≡ files = grind (arith, common_steps, take-length files) in
    subst (λ others. AreWithin rest others) (sym same) within.1.1.1
