-- Lists of outputs, one of each run: how many there are where patterns stand for each output.
use Rattle.std.proofs.Common.{◌≡◌, ◌⊎◌, inl, inr, ℕ, zero, suc, ◌+◌, ◌*◌, ◌^◌, ◌≤◌, Bool, true, false, List, [], ◌∷◌}
use Rattle.std.proofs.Common.{refl, sym, ap, ap₂, subst, length, arith}
use Rattle.std.specs.List.{AllByRecursion}
use Rattle.std.specs.Str.{bytes_eq}
use Rattle.std.proofs.Math.Nat.{mul-le-mul, pow-succ', pow-zero}
use Rattle.std.proofs.lemmas.Bool.Decides.{eqb_tells}
use Rattle.std.proofs.lemmas.Nat.{pow-add, pow_pos}
use Rattle.std.proofs.lemmas.Slice.Eq.{bytes_eq-Decides}
use Rattle.flow_base.specs.declared.outputs.Output.{Output}
use Rattle.crossing_bits.specs.Askers.{AllDifferent}
use Rattle.every_secret.specs.declared.patterns.Pattern.{Pattern}
use Rattle.every_secret.specs.Bounds.{output_count}
use Rattle.every_secret.specs.Listed.{IsListed}
use Rattle.every_secret.proofs.Lists.{each_of_both, each_weaker}
use Rattle.every_secret.proofs.PatternOutputs.{HasWords, few_outputs}

-- at most so many different values have a fact
abbrev pub HasAtMost : {A : Type 0} → (A → Type 0) → ℕ → Type 0
HasAtMost {A} Fact most =
    (items : List A) → AllDifferent items → AllByRecursion Fact items → length items ≤ most

-- of any two values it is known whether they are the same
abbrev pub Tells : Type 0 → Type 0
Tells A = (first second : A) → (first ≡ second) ⊎ (first ≡ second → ⊥)

-- a list has a first value with one fact, and the rest of it has another
abbrev pub Begins : {A : Type 0} → (A → Type 0) → (List A → Type 0) → List A → Type 0
Begins First Rest [] = ⊥
Begins First Rest (first ∷ rest) = First first × Rest rest

-- a list has a first value, which is not this one
abbrev pub BeginsElse : {A : Type 0} → A → List A → Type 0
BeginsElse first = Begins (λ other. first ≡ other → ⊥) (λ rest. Unit {0})

-- ---- lists that begin with a value, and others

-- what is left of the lists that begin with a value, and the other lists: what holds of all lists holds of them
record Split {A : Type 0} (first : A) (lists : List (List A)) : Type 1 where
  rests : List (List A)
  others : List (List A)
  counted : length lists ≡ length rests + length others
  of_rests : (Fact : List A → Type 0) → AllByRecursion Fact lists →
      AllByRecursion (λ rest. Fact (first ∷ rest)) rests
  of_others : (Fact : List A → Type 0) → AllByRecursion Fact lists → AllByRecursion Fact others
  begin_else : AllByRecursion (BeginsElse first) others
  rests_differ : AllDifferent lists → AllDifferent rests
  others_differ : AllDifferent lists → AllDifferent others

split_same : {A : Type 0} (first other : A) (rest : List A) (lists : List (List A)) → first ≡ other →
    Split first lists → Split first ((other ∷ rest) ∷ lists)
split_same first other rest lists same split = record {
  rests = rest ∷ split.rests;
  others = split.others;
  counted = let counted = split.counted in omega (arith, counted);
  of_rests = λ Fact facts. (subst (λ value. Fact (value ∷ rest)) (sym same) facts.0, split.of_rests Fact facts.1);
  of_others = λ Fact facts. split.of_others Fact facts.1;
  begin_else = split.begin_else;
  rests_differ = λ different. (
    each_weaker (λ more. other ∷ rest ≡ first ∷ more → ⊥) (λ more. rest ≡ more → ⊥)
        (λ more apart equal. apart (ap₂ (λ value left. value ∷ left) (sym same) equal)) split.rests
        (split.of_rests (λ list. other ∷ rest ≡ list → ⊥) different.0),
    split.rests_differ different.1,
  );
  others_differ = λ different. split.others_differ different.1;
}

split_other : {A : Type 0} (first other : A) (rest : List A) (lists : List (List A)) → (first ≡ other → ⊥) →
    Split first lists → Split first ((other ∷ rest) ∷ lists)
split_other first other rest lists apart split = record {
  rests = split.rests;
  others = (other ∷ rest) ∷ split.others;
  counted = let counted = split.counted in omega (arith, counted);
  of_rests = λ Fact facts. split.of_rests Fact facts.1;
  of_others = λ Fact facts. (facts.0, split.of_others Fact facts.1);
  begin_else = ((apart, tt), split.begin_else);
  rests_differ = λ different. split.rests_differ different.1;
  others_differ = λ different. (
    split.of_others (λ list. other ∷ rest ≡ list → ⊥) different.0,
    split.others_differ different.1,
  );
}

split_at : {A : Type 0} → Tells A → (First : A → Type 0) (Rest : List A → Type 0) (first : A)
    (lists : List (List A)) → AllByRecursion (Begins First Rest) lists → Split first lists
split_at same First Rest first [] all = record {
  rests = [];
  others = [];
  counted = refl;
  of_rests = λ Fact facts. tt;
  of_others = λ Fact facts. tt;
  begin_else = tt;
  rests_differ = λ different. tt;
  others_differ = λ different. tt;
}
split_at same First Rest first ([] ∷ lists) (none, all) = absurd none
split_at same First Rest first ((other ∷ rest) ∷ lists) (one, all) = elim (same first other) [
  | inl equal ↦ split_same first other rest lists equal (split_at same First Rest first lists all)
  | inr apart ↦ split_other first other rest lists apart (split_at same First Rest first lists all)
]

-- ---- at most so many first values, and at most so many rests

few_begun : {A : Type 0} → Tells A → (Rest : List A → Type 0) (most : ℕ) → HasAtMost Rest most → (count : ℕ)
    (First : A → Type 0) → HasAtMost First count → HasAtMost (Begins First Rest) (count * most)
few_begun same Rest most few_rests count First few [] different all = omega arith
few_begun same Rest most few_rests count First few ([] ∷ lists) different (none, all) = absurd none
few_begun same Rest most few_rests zero First few ((first ∷ rest) ∷ lists) different (one, all) =
    let none = few (first ∷ []) (tt, tt) (one.0, tt) in absurd (omega (arith, none))
few_begun {A} same Rest most few_rests (suc count) First few ((first ∷ rest) ∷ lists) different (one, all) =
    omega (arith, split.counted, at_rests, at_others (few_begun same Rest most few_rests count Else few_else))
  where
    split : Split first ((first ∷ rest) ∷ lists)
    split = split_at same First Rest first ((first ∷ rest) ∷ lists) (one, all)

    Else : A → Type 0
    Else other = First other × (first ≡ other → ⊥)

    at_rests : length split.rests ≤ most
    at_rests =
        few_rests split.rests (split.rests_differ different)
        (each_weaker (λ rest. Begins First Rest (first ∷ rest)) Rest (λ rest begins. begins.1) split.rests
        (split.of_rests (Begins First Rest) (one, all)))

    few_else : HasAtMost Else count
    few_else items differ each =
        let most_of_all = few (first ∷ items)
        (each_weaker Else (λ other. first ≡ other → ⊥) (λ other fact. fact.1) items each, differ)
        (one.0, each_weaker Else First (λ other fact. fact.0) items each) in
        omega (arith, most_of_all)

    begin_other : (list : List A) → Begins First Rest list → BeginsElse first list → Begins Else Rest list
    begin_other [] begins apart = begins
    begin_other (other ∷ rest) begins apart = ((begins.0, apart.0), begins.1)

    at_others : HasAtMost (Begins Else Rest) (count * most) → length split.others ≤ count * most
    at_others few_others =
        few_others split.others (split.others_differ different)
        (each_of_both (Begins First Rest) (BeginsElse first) (Begins Else Rest) begin_other split.others
        (split.of_others (Begins First Rest) (one, all)) split.begin_else)

-- ---- outputs

tells_outputs : Tells Output
tells_outputs first second = by_bytes (bytes_eq first.bytes second.bytes) refl
  where
    by_bytes : (test : Bool) → bytes_eq first.bytes second.bytes ≡ test → (first ≡ second) ⊎ (first ≡ second → ⊥)
    by_bytes true tested =
        let bytes = (bytes_eq-Decides first.bytes second.bytes).0 tested in
        elim (eqb_tells first.status second.status) [
          | inl (is, status) ↦ inl (ap₂ (λ written code. record { bytes = written; status = code }) bytes status)
          | inr (is, apart) ↦ inr (λ equal. apart (ap (λ output. output.status) equal))
        ]
    by_bytes false tested = inr
        (λ equal. let same = (bytes_eq-Decides first.bytes second.bytes).1 (ap (λ output. output.bytes) equal) in cc)

-- so many outputs, each of which is listed
pub record AreListed (patterns : List Pattern) (runs : ℕ) (outputs : List Output) : Type 0 where
  pub as_many : length outputs ≡ runs
  pub listed : AllByRecursion (IsListed patterns) outputs

begin_listed : (patterns : List Pattern) (runs : ℕ) (outputs : List Output) → AreListed patterns (suc runs) outputs →
    Begins (IsListed patterns) (AreListed patterns runs) outputs
begin_listed patterns runs [] are = let long = are.as_many in absurd (omega (arith, long))
begin_listed patterns runs (output ∷ outputs) are =
    let long = are.as_many in
    (are.listed.0, record { as_many = omega (arith, long); listed = are.listed.1 })

one_empty : (patterns : List Pattern) → HasAtMost (AreListed patterns zero) 1
one_empty patterns [] different all = omega arith
one_empty patterns (list ∷ []) different all = omega arith
one_empty patterns ([] ∷ [] ∷ lists) different all = absurd (different.0.0 refl)
one_empty patterns ([] ∷ (output ∷ outputs) ∷ lists) different all =
    let long = all.1.0.as_many in absurd (omega (arith, long))
one_empty patterns ((output ∷ outputs) ∷ list ∷ lists) different all =
    let long = all.0.as_many in absurd (omega (arith, long))

pub few_lists : (patterns : List Pattern) → AllByRecursion HasWords patterns → (runs : ℕ)
    (lists : List (List Output)) → AllDifferent lists → AllByRecursion (AreListed patterns runs) lists →
    length lists ≤ output_count patterns ^ runs
few_lists patterns words zero lists different all =
    rw (pow-zero (output_count patterns)) (one_empty patterns lists different all)
few_lists patterns words (suc runs) lists different all =
    let few = few_begun tells_outputs (AreListed patterns runs) (output_count patterns ^ runs)
    (few_lists patterns words runs) (output_count patterns) (IsListed patterns)
    (λ outputs. few_outputs patterns outputs words) lists different
    (each_weaker (AreListed patterns (suc runs)) (Begins (IsListed patterns) (AreListed patterns runs))
    (begin_listed patterns runs) lists all) in
    rw (pow-succ' (output_count patterns) runs) few

-- ---- powers

pub power_of_power : (outputs bits runs : ℕ) → outputs ≤ 2 ^ bits → outputs ^ runs ≤ 2 ^ (runs * bits)
power_of_power outputs bits zero within = omega (arith, pow-zero outputs, pow_pos (zero * bits))
power_of_power outputs bits (suc runs) within =
    let count : suc runs * bits ≡ bits + runs * bits = omega arith in
    rw (pow-succ' outputs runs, count, pow-add 2 bits (runs * bits))
    (mul-le-mul within (power_of_power outputs bits runs within))
