-- A certificate has one verdict.
use Rattle.std.proofs.Common.{◌≡◌, ℕ, zero, suc, ◌<◌, Bool, true, false, List, [], ◌∷◌, length, take, Some, sym, ap, subst}
use Rattle.std.proofs.Common.{◌∙◌, arith}
use Rattle.std.specs.List.{list_any}
use Rattle.std.specs.Prelude.{slice_get}
use Rattle.std.proofs.lemmas.Bool.{or_parts}
use Rattle.std.proofs.lemmas.Bool.Decides.{nat_tests}
use Rattle.flow_graph.specs.declared.ends.Arc.{Arc}
use Rattle.flow_graph.specs.declared.graphs.Graph.{Graph}
use Rattle.max_flow.specs.declared.answers.Solved.{Solved}
use Rattle.flow_certificate.specs.declared.verdicts.Member.{Member}
use Rattle.flow_certificate.specs.declared.verdicts.Member.TheVariants.{In, Out, Relay}
use Rattle.flow_certificate.specs.declared.verdicts.CertFault.{CertFault}
use Rattle.flow_certificate.specs.declared.verdicts.CertFault.TheVariants.{Over, Unbalanced, OpenAcross, Values}
use Rattle.flow_certificate.specs.declared.verdicts.CertVerdict.{CertVerdict}
use Rattle.flow_certificate.specs.declared.verdicts.CertVerdict.TheVariants.{Verified, Rejected}
use Rattle.flow_certificate.specs.Verdicts.{HasNone, HasNoneAcross, HasNoneOver, HasNoneUnbalanced, HasValues, IsFirst}
use Rattle.flow_certificate.specs.Verdicts.{IsFirstAcross, IsFirstFlowFault, IsFirstUnbalanced, IsOpenAcross, IsOver}
use Rattle.flow_certificate.specs.Verdicts.{IsUnbalanced, IsVerdict, IsVerified, is_across, is_node_of, is_over}
use Rattle.flow_certificate.specs.Verdicts.{place_of}

-- ---- the first that passes

not_before : (test : ℕ → Bool) (from end i j : ℕ) → IsFirst test from end i → IsFirst test from end j → i < j → ⊥
not_before test from end i j first second below =
    let passes : test i ≡ true = first.passes in
    let fails : test i ≡ false = second.before i first.from_on below in
    absurd cc

pub one_of_first : (test : ℕ → Bool) (from end i j : ℕ) → IsFirst test from end i → IsFirst test from end j → i ≡ j
one_of_first test from end i j first second =
    let not_below : i < j → ⊥ = not_before test from end i j first second in
    let not_above : j < i → ⊥ = not_before test from end j i second first in
    omega arith

not_none : (test : ℕ → Bool) (from end i : ℕ) → IsFirst test from end i → HasNone test from end → ⊥
not_none test from end i first none =
    let passes : test i ≡ true = first.passes in
    let fails : test i ≡ false = none i first.from_on first.below in
    absurd cc

-- ---- a node has a place of its own

one_member : (count : ℕ) (a b : Member) → is_node_of count a ≡ true → is_node_of count b ≡ true →
    place_of count a ≡ place_of count b → a ≡ b
one_member count (In p) (In q) known other same = ap (λ (n : ℕ). In n) (omega (arith, same))
one_member count (In p) (Out q) known other same = absurd (omega (arith, same))
one_member count (In p) (Relay q) known other same =
    let low : p < count = grind (arith, nat_tests, known) in absurd (omega (arith, same))
one_member count (Out p) (In q) known other same = absurd (omega (arith, same))
one_member count (Out p) (Out q) known other same = ap (λ (n : ℕ). Out n) (omega (arith, same))
one_member count (Out p) (Relay q) known other same =
    let low : p < count = grind (arith, nat_tests, known) in absurd (omega (arith, same))
one_member count (Relay p) (In q) known other same =
    let low : q < count = grind (arith, nat_tests, other) in absurd (omega (arith, same))
one_member count (Relay p) (Out q) known other same =
    let low : q < count = grind (arith, nat_tests, other) in absurd (omega (arith, same))
one_member count (Relay p) (Relay q) known other same = ap (λ (n : ℕ). Relay n) (omega (arith, same))

-- ---- the rows of the faults

over_clash : (graph : Graph) (solved : Solved) (point : ℕ) → IsOver graph solved point → HasNoneOver graph solved → ⊥
over_clash graph solved point first none =
    not_none (is_over graph solved) 0 (length graph.points) point first none

unbalanced_clash : (graph : Graph) (solved : Solved) (node : Member) → IsUnbalanced graph solved node →
    HasNoneUnbalanced graph solved → ⊥
unbalanced_clash graph solved node is none =
    let passes = is.first.unbalanced in
    let fails = none node is.first.known in
    absurd cc

pub none_has : (test : Arc → Bool) (links : List Arc) (i : ℕ) (link : Arc) → list_any test links ≡ false →
    slice_get links i ≡ Some link → test link ≡ false
none_has test [] i link none is = absurd cc
none_has test (first ∷ links) zero link none is =
    let same : first ≡ link = cc in
    subst (λ (l : Arc). test l ≡ false) same (or_parts (test first) (list_any test links) none).0
none_has test (first ∷ links) (suc i) link none is =
    none_has test links i link (or_parts (test first) (list_any test links) none).1 is

taken_get : (links : List Arc) (i j : ℕ) (link : Arc) → i < j → slice_get links i ≡ Some link →
    slice_get (take j links) i ≡ Some link
taken_get links i zero link earlier is = absurd (omega (arith, earlier))
taken_get [] i (suc j) link earlier is = absurd cc
taken_get (first ∷ links) zero (suc j) link earlier is = is
taken_get (first ∷ links) (suc i) (suc j) link earlier is = taken_get links i j link (omega (arith, earlier)) is

across_clash : (graph : Graph) (solved : Solved) (link : Arc) → IsOpenAcross graph solved link →
    HasNoneAcross graph solved → ⊥
across_clash graph solved link is none =
    let passes = is.first.across in
    let fails = none_has (is_across graph solved) graph.links is.first.index link none is.first.is in
    absurd cc

unbalanced_earlier : (graph : Graph) (solved : Solved) (a b : Member) → IsFirstUnbalanced graph solved a →
    IsFirstUnbalanced graph solved b → place_of (length graph.points) a < place_of (length graph.points) b → ⊥
unbalanced_earlier graph solved a b first second earlier =
    let passes = first.unbalanced in
    let fails = second.before a first.known earlier in
    absurd cc

one_unbalanced : (graph : Graph) (solved : Solved) (a b : Member) → IsUnbalanced graph solved a →
    IsUnbalanced graph solved b → a ≡ b
one_unbalanced graph solved a b first second =
    let not_below = unbalanced_earlier graph solved a b first.first second.first in
    let not_above = unbalanced_earlier graph solved b a second.first first.first in
    one_member (length graph.points) a b first.first.known second.first.known (omega (arith, not_below, not_above))

across_earlier : (graph : Graph) (solved : Solved) (a b : Arc) (first : IsFirstAcross graph solved a) (second :
    IsFirstAcross graph solved b) → first.index < second.index → ⊥
across_earlier graph solved a b first second earlier =
    let passes = first.across in
    let fails = none_has (is_across graph solved) (take second.index graph.links) first.index a second.before
    (taken_get graph.links first.index second.index a earlier first.is) in
    absurd cc

one_across : (graph : Graph) (solved : Solved) (a b : Arc) → IsFirstAcross graph solved a →
    IsFirstAcross graph solved b → a ≡ b
one_across graph solved a b first second =
    let not_below = across_earlier graph solved a b first second in
    let not_above = across_earlier graph solved b a second first in
    let same : first.index ≡ second.index = omega (arith, not_below, not_above) in
    let link : slice_get graph.links first.index ≡ Some a = first.is in
    let other : slice_get graph.links first.index ≡ Some b =
    ap (λ (i : ℕ). slice_get graph.links i) same ∙ second.is in
    cc

one_values : (graph : Graph) (solved : Solved) (value other flow carried cut capacity : ℕ) →
    HasValues graph solved value flow cut → HasValues graph solved other carried capacity →
    Values value flow cut ≡ Values other carried capacity
one_values graph solved value other flow carried cut capacity first second =
    let values : value ≡ other = first.value_is ∙ sym second.value_is in
    let flows : flow ≡ carried = first.flow_is ∙ sym second.flow_is in
    let cuts : cut ≡ capacity = first.cut_is ∙ sym second.cut_is in
    cc

pub one_first_fault : (graph : Graph) (solved : Solved) (a b : CertFault) → IsFirstFlowFault graph solved a →
    IsFirstFlowFault graph solved b → a ≡ b
one_first_fault graph solved (Over p) (Over q) first second =
    ap (λ (n : ℕ). Over n) (one_of_first (is_over graph solved) 0 (length graph.points) p q first second)
one_first_fault graph solved (Over p) (Unbalanced node) first second =
    absurd (over_clash graph solved p first second.none_over)
one_first_fault graph solved (Over p) (OpenAcross link) first second =
    absurd (over_clash graph solved p first second.none_over)
one_first_fault graph solved (Over p) (Values value flow cut) first second =
    absurd (over_clash graph solved p first second.none_over)
one_first_fault graph solved (Unbalanced node) (Over q) first second =
    absurd (over_clash graph solved q second first.none_over)
one_first_fault graph solved (Unbalanced a) (Unbalanced b) first second =
    ap (λ (n : Member). Unbalanced n) (one_unbalanced graph solved a b first second)
one_first_fault graph solved (Unbalanced node) (OpenAcross link) first second =
    absurd (unbalanced_clash graph solved node first second.none_unbalanced)
one_first_fault graph solved (Unbalanced node) (Values value flow cut) first second =
    absurd (unbalanced_clash graph solved node first second.none_unbalanced)
one_first_fault graph solved (OpenAcross link) (Over q) first second =
    absurd (over_clash graph solved q second first.none_over)
one_first_fault graph solved (OpenAcross link) (Unbalanced node) first second =
    absurd (unbalanced_clash graph solved node second first.none_unbalanced)
one_first_fault graph solved (OpenAcross a) (OpenAcross b) first second =
    ap (λ (l : Arc). OpenAcross l) (one_across graph solved a b first.first second.first)
one_first_fault graph solved (OpenAcross link) (Values value flow cut) first second =
    absurd (across_clash graph solved link first second.none_across)
one_first_fault graph solved (Values value flow cut) (Over q) first second =
    absurd (over_clash graph solved q second first.none_over)
one_first_fault graph solved (Values value flow cut) (Unbalanced node) first second =
    absurd (unbalanced_clash graph solved node second first.none_unbalanced)
one_first_fault graph solved (Values value flow cut) (OpenAcross link) first second =
    absurd (across_clash graph solved link second first.none_across)
one_first_fault graph solved (Values value flow cut) (Values other carried capacity) first second =
    one_values graph solved value other flow carried cut capacity first second

-- ---- verdicts

named : (graph : Graph) (solved : Solved) (value : ℕ) → IsVerified graph solved value →
    IsVerified graph solved solved.value
named graph solved value verified = subst (IsVerified graph solved) verified.named verified

-- where what is verified is said to be, a certificate has one verdict
pub one_verdict : (graph : Graph) (solved : Solved) (a b : CertVerdict) → IsVerdict graph solved a →
    IsVerdict graph solved b → (IsVerified graph solved solved.value → a ≡ Verified solved.value) →
    (IsVerified graph solved solved.value → b ≡ Verified solved.value) → a ≡ b
one_verdict graph solved (Verified value) b first second says also =
    let verified = named graph solved value first in says verified ∙ sym (also verified)
one_verdict graph solved (Rejected fault) (Verified value) first second says also =
    let verified = named graph solved value second in says verified ∙ sym (also verified)
one_verdict graph solved (Rejected a) (Rejected b) first second says also =
    ap (λ (fault : CertFault). Rejected fault) (one_first_fault graph solved a b first second)
