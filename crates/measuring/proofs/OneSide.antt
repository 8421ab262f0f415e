-- A graph has one least side.
use Rattle.std.proofs.Common.{◌≡◌, ℕ, ◌≤◌, nat_eq, Bool, true, false, List, [], ◌∷◌, inl, inr, length, refl, sym, ap, ap₂, ◌∙◌, arith}
use Rattle.std.specs.Prelude.{slice_index_or}
use Rattle.std.specs.List.{list_all}
use Rattle.std.specs.Ordering.{is_lt, nat_cmp}
use Rattle.std.proofs.lemmas.Bool.{cond-false, cond-true, eq-eqb, false≢true, ne_eqb}
use Rattle.std.proofs.lemmas.List.{ext_get_or}
use Rattle.flow_graph.specs.declared.graphs.Graph.{Graph}
use Rattle.max_flow.specs.declared.answers.Half.{Half}
use Rattle.max_flow.specs.declared.answers.Half.TheVariants.{Both, FirstOnly, SecondOnly, Neither}
use Rattle.max_flow.specs.Flows.{Least, first_in, has_first, has_second, relay_in, second_in, side_capacity}
use Rattle.measuring.proofs.OneGraph.{relays_order}
use Rattle.measuring.proofs.SortedLists.{Holds, IsOrdered, all_holds, ascend_ordered}

-- ---- what two least sides have

both_ways : (s t : Bool) → (s ≡ true → t ≡ true) → (t ≡ true → s ≡ true) → s ≡ t
both_ways true t f g = sym (f refl)
both_ways false true f g = g refl
both_ways false false f g = refl

record AreAlike (graph : Graph) (halves others : List Half) (relays passed : List Bool) : Type 0 where
  firsts : (i : ℕ) → first_in halves i ≡ first_in others i
  seconds : (i : ℕ) → second_in halves i ≡ second_in others i
  relays_too : (region : ℕ) → relay_in graph.relays relays region ≡ relay_in graph.relays passed region

least_alike : (graph : Graph) (halves others : List Half) (relays passed : List Bool) → Least graph halves relays →
    Least graph others passed → AreAlike graph halves others relays passed
least_alike graph halves others relays passed one other =
    let first : side_capacity graph halves relays ≤ side_capacity graph others passed =
    one.smallest others passed other.side in
    let second : side_capacity graph others passed ≤ side_capacity graph halves relays =
    other.smallest halves relays one.side in
    let same : side_capacity graph others passed ≡ side_capacity graph halves relays = omega (arith, first, second) in
    let to = one.contained others passed other.side same in
    let back = other.contained halves relays one.side (sym same) in
    record {
      firsts = λ i. both_ways (first_in halves i) (first_in others i) (to.firsts i) (back.firsts i);
      seconds = λ i. both_ways (second_in halves i) (second_in others i) (to.seconds i) (back.seconds i);
      relays_too = λ region. both_ways (relay_in graph.relays relays region) (relay_in graph.relays passed region)
          (to.relays_too region) (back.relays_too region);
    }

-- ---- halves

half_one : (x y : Half) → has_first x ≡ has_first y → has_second x ≡ has_second y → x ≡ y
half_one Both Both first second = refl
half_one Both FirstOnly first second = absurd (cc)
half_one Both SecondOnly first second = absurd (cc)
half_one Both Neither first second = absurd (cc)
half_one FirstOnly Both first second = absurd (cc)
half_one FirstOnly FirstOnly first second = refl
half_one FirstOnly SecondOnly first second = absurd (cc)
half_one FirstOnly Neither first second = absurd (cc)
half_one SecondOnly Both first second = absurd (cc)
half_one SecondOnly FirstOnly first second = absurd (cc)
half_one SecondOnly SecondOnly first second = refl
half_one SecondOnly Neither first second = absurd (cc)
half_one Neither Both first second = absurd (cc)
half_one Neither FirstOnly first second = absurd (cc)
half_one Neither SecondOnly first second = absurd (cc)
half_one Neither Neither first second = refl

same_halves : (graph : Graph) (halves others : List Half) (relays passed : List Bool) → Least graph halves relays →
    Least graph others passed → halves ≡ others
same_halves graph halves others relays passed one other =
    let alike = least_alike graph halves others relays passed one other in
    ext_get_or Neither halves others (one.side.points_count ∙ sym other.side.points_count)
    (λ i below. half_one (slice_index_or halves i Neither) (slice_index_or others i Neither) (alike.firsts i)
    (alike.seconds i))

-- ---- relays

relay_first : (name : ℕ) (names : List ℕ) (answer : Bool) (answers : List Bool) →
    relay_in (name ∷ names) (answer ∷ answers) name ≡ answer
relay_first name names answer answers =
    cond-true (nat_eq name name) answer (relay_in names answers name) (eq-eqb name name refl)

less_number : (a b : ℕ) → is_lt (nat_cmp a b) ≡ true → b ≡ a → ⊥
less_number a b less same =
    false≢true (sym (relays_order.apart a) ∙ (ap (λ (n : ℕ). is_lt (nat_cmp a n)) (sym same) ∙ less))

relay_later : (name : ℕ) (names : List ℕ) (answer : Bool) (answers : List Bool) (region : ℕ) →
    list_all (λ other. is_lt (nat_cmp name other)) names ≡ true → Holds names region →
    relay_in (name ∷ names) (answer ∷ answers) region ≡ relay_in names answers region
relay_later name names answer answers region above held =
    let less : is_lt (nat_cmp name region) ≡ true =
    all_holds (λ other. is_lt (nat_cmp name other)) names region above held in
    cond-false (nat_eq name region) answer (relay_in names answers region)
    (ne_eqb name region (λ same. less_number name region less (sym same)))

relays_one : (names : List ℕ) (one other : List Bool) → IsOrdered (λ a b. is_lt (nat_cmp a b)) names →
    length one ≡ length names → length other ≡ length names →
    ((region : ℕ) → Holds names region → relay_in names one region ≡ relay_in names other region) → one ≡ other
relays_one [] [] [] ordered count also same = refl
relays_one [] [] (b ∷ other) ordered count also same = absurd (omega (arith, also))
relays_one [] (a ∷ one) other ordered count also same = absurd (omega (arith, count))
relays_one (name ∷ names) [] other ordered count also same = absurd (omega (arith, count))
relays_one (name ∷ names) (a ∷ one) [] ordered count also same = absurd (omega (arith, also))
relays_one (name ∷ names) (a ∷ one) (b ∷ other) ordered count also same =
    let first : a ≡ b =
    sym (relay_first name names a one) ∙ (same name (inl refl) ∙ relay_first name names b other) in
    let rest : one ≡ other =
    relays_one names one other ordered.1 (omega (arith, count)) (omega (arith, also)) (λ region held.
    sym (relay_later name names a one region ordered.0 held)
    ∙ (same region (inr held) ∙ relay_later name names b other region ordered.0 held)) in
    ap₂ (λ (x : Bool) (xs : List Bool). x ∷ xs) first rest

relays_are_same : (graph : Graph) (halves others : List Half) (relays passed : List Bool) → Least graph halves relays →
    Least graph others passed → relays ≡ passed
relays_are_same graph halves others relays passed one other =
    let alike = least_alike graph halves others relays passed one other in
    relays_one graph.relays relays passed (ascend_ordered nat_cmp relays_order graph.relays graph.relays_ascend)
    one.side.relays_count other.side.relays_count (λ region held. alike.relays_too region)

-- ---- one side

pub record AreSameSides (halves others : List Half) (relays passed : List Bool) : Type 0 where
  pub points_are : halves ≡ others
  pub relays_are : relays ≡ passed

pub one_least_side : (graph : Graph) (halves others : List Half) (relays passed : List Bool) →
    Least graph halves relays → Least graph others passed → AreSameSides halves others relays passed
one_least_side graph halves others relays passed one other = record {
  points_are = same_halves graph halves others relays passed one other;
  relays_are = relays_are_same graph halves others relays passed one other;
}
