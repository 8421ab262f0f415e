-- What is found of paths of which the answer is bounded.
use Rattle.std.proofs.Common.{◌≡◌, inl, inr, ℕ, ◌+◌, ◌^◌, ◌≤◌, ◌<◌, List, [], ◌∷◌, ◌++◌, Bool, true, false}
use Rattle.std.proofs.Common.{refl, sym, ap, ap₂, subst, ◌∙◌, arith}
use Rattle.std.specs.Prelude.{◌==◌, ◌&&◌, ◌||◌, nat_lt, if◌then◌else◌}
use Rattle.std.specs.List.{AllByRecursion, list_any}
use Rattle.std.specs.Str.{bytes_eq}
use Rattle.std.proofs.lemmas.Bool.{and_parts, eq-eqb, eqb-true}
use Rattle.std.proofs.lemmas.List.Folds.{list_any-append}
use Rattle.std.proofs.lemmas.Slice.Eq.{bytes_eq-Decides}
use Rattle.flow_base.specs.declared.outputs.Output.{Output}
use Rattle.every_secret.specs.declared.path_ends.PathEnd.{PathEnd}
use Rattle.every_secret.specs.declared.path_ends.PathEnd.TheVariants.{Exits, Stops, Unclear}
use Rattle.every_secret.specs.declared.patterns.Pattern.{Pattern}
use Rattle.every_secret.specs.Bounds.{TreeAnswer, Found, IsBounded, after_end, found_exit, found_stop}
use Rattle.every_secret.specs.Bounds.{free_bits, is_same_pattern, judged, output_count, pattern_limit, size_of}
use Rattle.every_secret.specs.Bounds.{unless_large, with_pattern}
use Rattle.every_secret.specs.Listed.{IsListed, StandsFor}
use Rattle.every_secret.specs.Paths.{Path}
use Rattle.every_secret.proofs.PathWeights.{PathsEnd, end_weight, paths_weight}
use Rattle.every_secret.proofs.PatternOutputs.{HasWords}

-- ---- patterns

abbrev pub pattern_with : List ℕ → List ℕ → ℕ → ℕ → Pattern
pattern_with bytes masks status status_mask =
    record { bytes = bytes; status = status; byte_masks = masks; status_mask = status_mask }

same_pattern : (first second : Pattern) → is_same_pattern first second ≡ true → first ≡ second
same_pattern first second same =
    let halves = and_parts (bytes_eq first.bytes second.bytes && bytes_eq first.byte_masks second.byte_masks)
    ((first.status == second.status) && (first.status_mask == second.status_mask)) same in
    let lists = and_parts (bytes_eq first.bytes second.bytes) (bytes_eq first.byte_masks second.byte_masks) halves.0 in
    let numbers = and_parts (first.status == second.status) (first.status_mask == second.status_mask) halves.1 in
    let bytes = (bytes_eq-Decides first.bytes second.bytes).0 lists.0 in
    let masks = (bytes_eq-Decides first.byte_masks second.byte_masks).0 lists.1 in
    let status = eqb-true first.status second.status numbers.0 in
    let status_mask = eqb-true first.status_mask second.status_mask numbers.1 in
    let alike : pattern_with first.bytes first.byte_masks first.status first.status_mask
    ≡ pattern_with second.bytes second.byte_masks second.status second.status_mask = cc in
    alike

own_pattern : (pattern : Pattern) → is_same_pattern pattern pattern ≡ true
own_pattern pattern =
    ap₂ (λ x y. (x && y) && ((pattern.status == pattern.status) && (pattern.status_mask == pattern.status_mask)))
    ((bytes_eq-Decides pattern.bytes pattern.bytes).1 refl)
    ((bytes_eq-Decides pattern.byte_masks pattern.byte_masks).1 refl)
    ∙ ap₂ (λ x y. x && y) (eq-eqb pattern.status pattern.status refl)
    (eq-eqb pattern.status_mask pattern.status_mask refl)

abbrev pub IsAmong : Pattern → List Pattern → Type 0
IsAmong pattern patterns = list_any (is_same_pattern pattern) patterns ≡ true

pub still_among : (pattern added : Pattern) (patterns : List Pattern) → IsAmong pattern patterns →
    IsAmong pattern (with_pattern added patterns)
still_among pattern added patterns among = by (list_any (is_same_pattern added) patterns)
  where
    by : (known : Bool) → IsAmong pattern (if known then patterns else patterns ++ added ∷ [])
    by true = among
    by false =
        list_any-append (is_same_pattern pattern) patterns (added ∷ [])
        ∙ ap (λ b. b || list_any (is_same_pattern pattern) (added ∷ [])) among

or_last : (a b : Bool) → b ≡ true → (a || b) ≡ true
or_last true b is = refl
or_last false b is = is

pub now_among : (added : Pattern) (patterns : List Pattern) → IsAmong added (with_pattern added patterns)
now_among added patterns = by (list_any (is_same_pattern added) patterns) refl
  where
    by : (known : Bool) → list_any (is_same_pattern added) patterns ≡ known →
        IsAmong added (if known then patterns else patterns ++ added ∷ [])
    by true is = is
    by false is =
        list_any-append (is_same_pattern added) patterns (added ∷ [])
        ∙ or_last (list_any (is_same_pattern added) patterns) (list_any (is_same_pattern added) (added ∷ []))
        (ap (λ b. b || false) (own_pattern added))

count_append : (first second : List Pattern) → output_count (first ++ second) ≡ output_count first + output_count second
count_append [] second = omega arith
count_append (pattern ∷ first) second = let rest = count_append first second in omega (arith, rest)

with_count : (added : Pattern) (patterns : List Pattern) →
    output_count (with_pattern added patterns) ≤ output_count patterns + 2 ^ free_bits added
with_count added patterns = by (list_any (is_same_pattern added) patterns)
  where
    by : (known : Bool) → output_count (if known then patterns else patterns ++ added ∷ [])
        ≤ output_count patterns + 2 ^ free_bits added
    by true = omega arith
    by false = let both = count_append patterns (added ∷ []) in omega (arith, both)

words_append : (patterns : List Pattern) (added : Pattern) → AllByRecursion HasWords patterns → HasWords added →
    AllByRecursion HasWords (patterns ++ added ∷ [])
words_append [] added all one = (one, tt)
words_append (pattern ∷ patterns) added (here, all) one = (here, words_append patterns added all one)

with_words : (added : Pattern) (patterns : List Pattern) → AllByRecursion HasWords patterns → HasWords added →
    AllByRecursion HasWords (with_pattern added patterns)
with_words added patterns all one = by (list_any (is_same_pattern added) patterns)
  where
    by : (known : Bool) → AllByRecursion HasWords (if known then patterns else patterns ++ added ∷ [])
    by true = all
    by false = words_append patterns added all one

-- an output for which a pattern stands is listed where the pattern is among the patterns
pub listed : (pattern : Pattern) (output : Output) (patterns : List Pattern) → IsAmong pattern patterns →
    StandsFor pattern output → IsListed patterns output
listed pattern output [] among stands = absurd (cc)
listed pattern output (first ∷ patterns) among stands =
    by (is_same_pattern pattern first) refl among (λ more. listed pattern output patterns more stands)
  where
    by : (same : Bool) → is_same_pattern pattern first ≡ same →
        (same || list_any (is_same_pattern pattern) patterns) ≡ true →
        (IsAmong pattern patterns → IsListed patterns output) → IsListed (first ∷ patterns) output
    by true is h later = inl (subst (λ p. StandsFor p output) (same_pattern pattern first is) stands)
    by false is h later = inr (later h)

-- ---- what paths show

abbrev pub Shows : Found → PathEnd → Type 0
Shows last (Exits pattern) = IsAmong pattern last.patterns
Shows last (Stops stop) = 0 < last.stopped
Shows last (Unclear why) = ⊥

abbrev pub EndsInWords : PathEnd → Type 0
EndsInWords (Exits pattern) = HasWords pattern
EndsInWords (Stops stop) = Unit {0}
EndsInWords (Unclear why) = Unit {0}

-- what is found in the end of paths before which so much is found
pub record AreJudged (found last : Found) (paths : List Path) : Type 0 where
  pub stopped : found.stopped ≤ last.stopped
  pub keeps : (pattern : Pattern) → IsAmong pattern found.patterns → IsAmong pattern last.patterns
  pub shown : PathsEnd (Shows last) paths
  pub counted : output_count last.patterns ≤ output_count found.patterns + paths_weight paths
  pub words : AllByRecursion HasWords found.patterns → PathsEnd EndsInWords paths →
      AllByRecursion HasWords last.patterns

is_small : (large : Bool) (bits : List Bool) (later : TreeAnswer) (last : Found) →
    unless_large large bits later ≡ IsBounded last → later ≡ IsBounded last
is_small true bits later last h = absurd (cc)
is_small false bits later last h = h

one_path : (path : Path) (paths : List Path) (found last : Found) →
    ((next : Found) → judged next paths ≡ IsBounded last → AreJudged next last paths) → (e : PathEnd) →
    path.ends ≡ e → after_end e path found (λ next. judged next paths) ≡ IsBounded last →
    AreJudged found last (path ∷ paths)
one_path path paths found last later (Unclear why) is h = absurd (cc)
one_path path paths found last later (Stops stop) is h =
    let next : Found = found_stop path.bits stop found in
    let rest : AreJudged next last paths = later next h in
    let more : found.stopped + 1 ≤ last.stopped = rest.stopped in
    let some : 0 < last.stopped = omega (arith, more) in
    let left : output_count last.patterns ≤ output_count found.patterns + paths_weight paths = rest.counted in
    record {
      stopped = omega (arith, more);
      keeps = rest.keeps;
      shown = (subst (λ e. Shows last e) (sym is) some, rest.shown);
      counted = omega (arith, left);
      words = λ before all. rest.words before all.1;
    }
one_path path paths found last later (Exits pattern) is h =
    let next : Found = found_exit pattern found in
    let small : judged next paths ≡ IsBounded last =
    is_small (nat_lt pattern_limit (size_of (with_pattern pattern found.patterns))) path.bits (judged next paths) last
    h in
    let rest : AreJudged next last paths = later next small in
    let least : found.stopped ≤ last.stopped = rest.stopped in
    let left : output_count last.patterns ≤ output_count (with_pattern pattern found.patterns) + paths_weight paths =
    rest.counted in
    let weighs : end_weight path.ends ≡ 2 ^ free_bits pattern = ap (λ e. end_weight e) is in
    record {
      stopped = least;
      keeps = λ other among. rest.keeps other (still_among other pattern found.patterns among);
      shown = (subst (λ e. Shows last e) (sym is) (rest.keeps pattern (now_among pattern found.patterns)), rest.shown);
      counted = omega (arith, left, weighs, with_count pattern found.patterns);
      words = λ before all. rest.words
          (with_words pattern found.patterns before (subst (λ e. EndsInWords e) is all.0)) all.1;
    }

pub all_judged : (paths : List Path) (found last : Found) → judged found paths ≡ IsBounded last →
    AreJudged found last paths
unfolding judged
all_judged [] found last h =
    let same : found ≡ last = cc in
    subst (λ f. AreJudged found f []) same (record {
      stopped = omega arith;
      keeps = λ pattern among. among;
      shown = tt;
      counted = omega arith;
      words = λ before all. before;
    })
all_judged (path ∷ paths) found last h =
    one_path path paths found last (λ next is. all_judged paths next last is) path.ends refl h
