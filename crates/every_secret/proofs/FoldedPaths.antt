-- What is found of paths that are judged one after another, also of paths that bring nothing new.
use Rattle.std.proofs.Common.{◌≡◌, ℕ, ◌+◌, ◌≤◌, List, [], ◌∷◌, ◌++◌, Bool, true, false, Option, Some, None}
use Rattle.std.proofs.Common.{refl, sym, ap, ap₂, ◌∙◌, subst, length, map, arith, append_assoc, append-nil}
use Rattle.std.specs.Prelude.{nat_lt, if◌then◌else◌}
use Rattle.std.specs.List.{AllByRecursion}
use Rattle.std.proofs.lemmas.List.{length-map}
use Rattle.every_secret.specs.declared.path_ends.PathEnd.{PathEnd}
use Rattle.every_secret.specs.declared.path_ends.PathEnd.TheVariants.{Exits, Stops, Unclear}
use Rattle.every_secret.specs.declared.patterns.Pattern.{Pattern}
use Rattle.every_secret.specs.declared.stops.PathStop.{PathStop}
use Rattle.every_secret.specs.declared.whys.UnclearWhy.{UnclearWhy}
use Rattle.every_secret.specs.declared.whys.UnclearWhy.TheVariants.{Outputs}
use Rattle.every_secret.specs.Bounds.{Found, Halt, IsBounded, IsUnclear, after_end, first_stop_of, found_exit, found_stop}
use Rattle.every_secret.specs.Bounds.{judged, nothing_found, pattern_limit, size_of, unless_large, with_pattern}
use Rattle.every_secret.specs.Paths.{Path}
use Rattle.every_secret.specs.Private.Folding.{FoldsTo, IsKnown, IsKnownEnd, stops_at, stops_in, with_known}
use Rattle.every_secret.specs.Private.Orders.{past}
use Rattle.every_secret.proofs.EarlierPaths.{weaken_all}
use Rattle.every_secret.proofs.JudgedPaths.{now_among, still_among}

-- ---- one path more

judged_one : (found : Found) (path : Path) (rest : List Path) →
    judged found (path ∷ rest) ≡ after_end path.ends path found (λ next. judged next rest)
unfolding judged
judged_one found path rest = refl

judged_ends : (found : Found) (path : Path) (rest : List Path) (e : PathEnd) → path.ends ≡ e →
    judged found (path ∷ rest) ≡ after_end e path found (λ next. judged next rest)
judged_ends found path rest e is =
    judged_one found path rest ∙ ap (λ e. after_end e path found (λ next. judged next rest)) is

pub folds_none : FoldsTo [] nothing_found
folds_none rest = refl

folds_one : (paths : List Path) (found next : Found) (path : Path) → FoldsTo paths found →
    ((rest : List Path) → judged found (path ∷ rest) ≡ judged next rest) → FoldsTo (paths ++ path ∷ []) next
folds_one paths found next path folds one rest =
    ap (λ ps. judged nothing_found ps) (append_assoc paths (path ∷ []) rest) ∙ (folds (path ∷ rest) ∙ one rest)

-- it exits
pub folds_exit : (paths : List Path) (found : Found) (path : Path) (pattern : Pattern) → FoldsTo paths found →
    path.ends ≡ Exits pattern →
    nat_lt pattern_limit (size_of (with_pattern pattern found.patterns)) ≡ false →
    FoldsTo (paths ++ path ∷ []) (found_exit pattern found)
folds_exit paths found path pattern folds is small =
    folds_one paths found (found_exit pattern found) path folds
    (λ rest. judged_ends found path rest (Exits pattern) is
    ∙ ap (λ large. unless_large large path.bits (judged (found_exit pattern found) rest)) small)

pub folds_large : (paths : List Path) (found : Found) (path : Path) (pattern : Pattern) → FoldsTo paths found →
    path.ends ≡ Exits pattern →
    nat_lt pattern_limit (size_of (with_pattern pattern found.patterns)) ≡ true → (rest : List Path) →
    judged nothing_found (paths ++ path ∷ rest) ≡ IsUnclear path.bits (Outputs pattern_limit)
folds_large paths found path pattern folds is large rest =
    folds (path ∷ rest)
    ∙ (judged_ends found path rest (Exits pattern) is
    ∙ ap (λ large. unless_large large path.bits (judged (found_exit pattern found) rest)) large)

-- it stops
pub folds_stop : (paths : List Path) (found : Found) (path : Path) (stop : PathStop) → FoldsTo paths found →
    path.ends ≡ Stops stop → FoldsTo (paths ++ path ∷ []) (found_stop path.bits stop found)
folds_stop paths found path stop folds is =
    folds_one paths found (found_stop path.bits stop found) path folds
    (λ rest. judged_ends found path rest (Stops stop) is)

-- it is unclear
pub folds_unclear : (paths : List Path) (found : Found) (path : Path) (why : UnclearWhy) → FoldsTo paths found →
    path.ends ≡ Unclear why → (rest : List Path) →
    judged nothing_found (paths ++ path ∷ rest) ≡ IsUnclear path.bits why
folds_unclear paths found path why folds is rest =
    folds (path ∷ rest) ∙ judged_ends found path rest (Unclear why) is

-- none is left
pub folds_all : (paths : List Path) (found : Found) → FoldsTo paths found →
    judged nothing_found paths ≡ IsBounded found
unfolding judged
folds_all paths found folds = ap (λ ps. judged nothing_found ps) (sym (append-nil paths)) ∙ folds []

-- ---- paths that bring nothing new

-- with other numbers of paths
abbrev more_found : Found → ℕ → ℕ → Found
more_found found paths stopped =
    record { paths = paths; stopped = stopped; patterns = found.patterns; first_stop = found.first_stop }

same_more : (found : Found) (paths stopped other others : ℕ) → paths ≡ other → stopped ≡ others →
    more_found found paths stopped ≡ more_found found other others
same_more found paths stopped other others one two = ap₂ (λ m n. more_found found m n) one two

known_one : (found : Found) (path : Path) (rest : List Path) (e : PathEnd) → path.ends ≡ e →
    nat_lt pattern_limit (size_of found.patterns) ≡ false → IsKnownEnd found.patterns found.first_stop e →
    judged found (path ∷ rest)
    ≡ judged (more_found found (found.paths + 1) (found.stopped + stops_at path.ends)) rest
known_one found path rest (Exits pattern) is small known =
    let same : with_pattern pattern found.patterns ≡ found.patterns =
    ap (λ b. if b then found.patterns else found.patterns ++ pattern ∷ []) known in
    let none : stops_at path.ends ≡ 0 = ap (λ e. stops_at e) is in
    judged_ends found path rest (Exits pattern) is
    ∙ (ap (λ (ps : List Pattern). unless_large (nat_lt pattern_limit (size_of ps)) path.bits (judged (record {
      paths = found.paths + 1;
      stopped = found.stopped;
      patterns = ps;
      first_stop = found.first_stop;
    }) rest)) same
    ∙ (ap (λ large. unless_large large path.bits (judged (more_found found (found.paths + 1) found.stopped) rest)) small
    ∙ ap (λ f. judged f rest)
    (same_more found (found.paths + 1) found.stopped (found.paths + 1) (found.stopped + stops_at path.ends) refl
    (omega (arith, none)))))
known_one found path rest (Stops stop) is small known =
    let same : first_stop_of found.first_stop path.bits stop ≡ found.first_stop =
    ap (λ first. first_stop_of first path.bits stop) known.1 ∙ sym known.1 in
    let one : stops_at path.ends ≡ 1 = ap (λ e. stops_at e) is in
    judged_ends found path rest (Stops stop) is
    ∙ (ap (λ (first : Option Halt). judged (record {
      paths = found.paths + 1;
      stopped = found.stopped + 1;
      patterns = found.patterns;
      first_stop = first;
    }) rest) same
    ∙ ap (λ f. judged f rest)
    (same_more found (found.paths + 1) (found.stopped + 1) (found.paths + 1) (found.stopped + stops_at path.ends) refl
    (omega (arith, one))))
known_one found path rest (Unclear why) is small known = absurd known

judged_known : (found : Found) (more rest : List Path) → nat_lt pattern_limit (size_of found.patterns) ≡ false →
    AllByRecursion (IsKnown found) more → judged found (more ++ rest) ≡ judged (with_known found more) rest
judged_known found [] rest small all =
    ap (λ f. judged f rest)
    (same_more found found.paths found.stopped (found.paths + length {A = Path} []) (found.stopped + stops_in [])
    (omega arith) (omega arith))
judged_known found (path ∷ more) rest small (one, all) =
    let next : Found = more_found found (found.paths + 1) (found.stopped + stops_at path.ends) in
    known_one found path (more ++ rest) path.ends refl small one
    ∙ (judged_known next more rest small all
    ∙ ap (λ f. judged f rest)
    (same_more found (found.paths + 1 + length more) (found.stopped + stops_at path.ends + stops_in more)
    (found.paths + length (path ∷ more)) (found.stopped + stops_in (path ∷ more)) (omega arith) (omega arith)))

pub folds_known : (paths more : List Path) (found : Found) → FoldsTo paths found →
    nat_lt pattern_limit (size_of found.patterns) ≡ false → AllByRecursion (IsKnown found) more →
    FoldsTo (paths ++ more) (with_known found more)
folds_known paths more found folds small all rest =
    ap (λ ps. judged nothing_found ps) (append_assoc paths more rest)
    ∙ (folds (more ++ rest) ∙ judged_known found more rest small all)

-- ---- how many stop, and what does not depend on the bits

pub stops_append : (first second : List Path) → stops_in (first ++ second) ≡ stops_in first + stops_in second
stops_append [] second = omega arith
stops_append (path ∷ first) second = let rest = stops_append first second in omega (arith, rest)

pub stops_past : (before : List Bool) (paths : List Path) → stops_in (map (past before) paths) ≡ stops_in paths
stops_past before [] = refl
stops_past before (path ∷ paths) = ap (λ n. stops_at path.ends + n) (stops_past before paths)

at_most_one : (e : PathEnd) → stops_at e ≤ 1
at_most_one (Exits pattern) = omega arith
at_most_one (Stops stop) = omega arith
at_most_one (Unclear why) = omega arith

-- no more stop than there are
pub stops_within : (paths : List Path) → stops_in paths ≤ length paths
stops_within [] = omega arith
stops_within (path ∷ paths) =
    let rest = stops_within paths in let one = at_most_one path.ends in omega (arith, rest, one)

pub length_past : (before : List Bool) (paths : List Path) → length (map (past before) paths) ≡ length paths
length_past before paths = length-map paths (past before)

pub known_past : (found : Found) (before : List Bool) (paths : List Path) → AllByRecursion (IsKnown found) paths →
    AllByRecursion (IsKnown found) (map (past before) paths)
known_past found before [] all = tt
known_past found before (path ∷ paths) (one, all) = (one, known_past found before paths all)

pub folds_known_past : (paths more : List Path) (before : List Bool) (found : Found) → FoldsTo paths found →
    nat_lt pattern_limit (size_of found.patterns) ≡ false → AllByRecursion (IsKnown found) more →
    FoldsTo (paths ++ map (past before) more) (with_known found more)
folds_known_past paths more before found folds small all =
    let same : with_known found (map (past before) more) ≡ with_known found more =
    same_more found (found.paths + length (map (past before) more)) (found.stopped + stops_in (map (past before) more))
    (found.paths + length more) (found.stopped + stops_in more)
    (ap (λ n. found.paths + n) (length_past before more)) (ap (λ n. found.stopped + n) (stops_past before more)) in
    subst (λ f. FoldsTo (paths ++ map (past before) more) f) same
    (folds_known paths (map (past before) more) found folds small (known_past found before more all))

-- ---- what stays known

end_after_pattern : (pattern : Pattern) (patterns : List Pattern) (first : Option Halt) (e : PathEnd) →
    IsKnownEnd patterns first e → IsKnownEnd (with_pattern pattern patterns) first e
end_after_pattern pattern patterns first (Exits other) known = still_among other pattern patterns known
end_after_pattern pattern patterns first (Stops stop) known = known
end_after_pattern pattern patterns first (Unclear why) known = known

-- a path that stops is known once one does
pub stop_is_known : (first : Option Halt) (bits : List Bool) (stop : PathStop) →
    (halt : Halt) × (first_stop_of first bits stop ≡ Some halt)
stop_is_known None bits stop = (record { bits = bits; stop = stop }, refl)
stop_is_known (Some halt) bits stop = (halt, refl)

end_after_stop : (patterns : List Pattern) (first : Option Halt) (bits : List Bool) (stop : PathStop) (e : PathEnd) →
    IsKnownEnd patterns first e → IsKnownEnd patterns (first_stop_of first bits stop) e
end_after_stop patterns first bits stop (Exits pattern) known = known
end_after_stop patterns first bits stop (Stops other) known = stop_is_known first bits stop
end_after_stop patterns first bits stop (Unclear why) known = known

pub known_after_exit : (pattern : Pattern) (found : Found) (path : Path) → IsKnown found path →
    IsKnown (found_exit pattern found) path
known_after_exit pattern found path known =
    end_after_pattern pattern found.patterns found.first_stop path.ends known

pub known_after_stop : (bits : List Bool) (stop : PathStop) (found : Found) (path : Path) → IsKnown found path →
    IsKnown (found_stop bits stop found) path
known_after_stop bits stop found path known =
    end_after_stop found.patterns found.first_stop bits stop path.ends known

pub all_after_exit : (pattern : Pattern) (found : Found) (paths : List Path) →
    AllByRecursion (IsKnown found) paths → AllByRecursion (IsKnown (found_exit pattern found)) paths
all_after_exit pattern found paths all =
    weaken_all (IsKnown found) (IsKnown (found_exit pattern found))
    (λ path known. known_after_exit pattern found path known) paths all

pub all_after_stop : (bits : List Bool) (stop : PathStop) (found : Found) (paths : List Path) →
    AllByRecursion (IsKnown found) paths → AllByRecursion (IsKnown (found_stop bits stop found)) paths
all_after_stop bits stop found paths all =
    weaken_all (IsKnown found) (IsKnown (found_stop bits stop found))
    (λ path known. known_after_stop bits stop found path known) paths all

-- and a path itself once it is found
pub exit_known : (found : Found) (path : Path) (pattern : Pattern) → path.ends ≡ Exits pattern →
    IsKnown (found_exit pattern found) path
exit_known found path pattern is =
    subst (λ e. IsKnownEnd (with_pattern pattern found.patterns) found.first_stop e) (sym is)
    (now_among pattern found.patterns)

pub stop_known : (found : Found) (bits : List Bool) (path : Path) (stop : PathStop) → path.ends ≡ Stops stop →
    IsKnown (found_stop bits stop found) path
stop_known found bits path stop is =
    subst (λ e. IsKnownEnd found.patterns (first_stop_of found.first_stop bits stop) e) (sym is)
    (stop_is_known found.first_stop bits stop)
