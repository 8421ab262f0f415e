-- What is known of paths below a place, with more paths.
use Rattle.std.proofs.Common.{◌≡◌, ◌≤◌, ◌+◌, ◌^◌, ℕ, List, [], ◌∷◌, ◌++◌, Bool, true, false, Some, None, map, length}
use Rattle.std.proofs.Common.{refl, sym, ap, ap₂, ◌∙◌, arith, length-append}
use Rattle.std.specs.Prelude.{nat_lt, min, max, if◌then◌else◌}
use Rattle.std.specs.List.{AllByRecursion}
use Rattle.std.proofs.lemmas.Bool.{and_parts, le-ltb, ltb-false}
use Rattle.every_secret.specs.declared.sums.Sum.{Sum}
use Rattle.every_secret.specs.Bounds.{Found, counted}
use Rattle.every_secret.specs.Masked.{MaskedPlace}
use Rattle.every_secret.specs.Paths.{Path}
use Rattle.every_secret.specs.Private.Folding.{IsKnown, stops_in}
use Rattle.every_secret.specs.Private.Orders.{past}
use Rattle.every_secret.specs.Private.Searching.{Sums}
use Rattle.every_secret.specs.Private.Spots.{EndsBy, Basis}
use Rattle.every_secret.specs.Private.Sums.{added, no_paths, sum_counted}
use Rattle.every_secret.proofs.EarlierPaths.{join_all, weaken_all}
use Rattle.every_secret.proofs.FoldedPaths.{known_past, length_past, stops_append, stops_past}

-- ---- numbers

uncounted : (n : ℕ) → 2 ^ 64 ≤ n → counted n ≡ None
uncounted n h = ap (λ (test : Bool). if test then Some n else None) (le-ltb n (2 ^ 64) h)

pub counted_sum : (a b : ℕ) → sum_counted (counted a) (counted b) ≡ counted (a + b)
counted_sum a b = by (nat_lt a (2 ^ 64)) refl (nat_lt b (2 ^ 64)) refl
  where
    by : (one : Bool) → nat_lt a (2 ^ 64) ≡ one → (other : Bool) → nat_lt b (2 ^ 64) ≡ other →
        sum_counted (if one then Some a else None) (if other then Some b else None) ≡ counted (a + b)
    by true e true f = refl
    by true e false f = sym (uncounted (a + b) (let low = ltb-false b (2 ^ 64) f in omega (arith, low)))
    by false e true f = sym (uncounted (a + b) (let low = ltb-false a (2 ^ 64) e in omega (arith, low)))
    by false e false f = sym (uncounted (a + b) (let low = ltb-false a (2 ^ 64) e in omega (arith, low)))

-- ---- ends

module _ (basis : Basis) (left : ℕ) (place : MaskedPlace) where
  ends_wider : (fewest most less more : ℕ) → less ≤ fewest → most ≤ more → (path : Path) →
      EndsBy basis left place fewest most path → EndsBy basis left place less more path
  ends_wider fewest most less more low high path ends =
      let soon = ends.soon in
      let few = ends.few in record {
        after = ends.after;
        crossed = ends.crossed;
        ends_on = ends.ends_on;
        soon = omega (arith, soon, low);
        few = omega (arith, few, high);
      }

  all_past : (fewest most : ℕ) (bits : List Bool) (paths : List Path) →
      AllByRecursion (λ path. EndsBy basis left place fewest most (past bits path)) paths →
      AllByRecursion (EndsBy basis left place fewest most) (map (past bits) paths)
  all_past fewest most bits [] all = tt
  all_past fewest most bits (path ∷ paths) (one, all) = (one, all_past fewest most bits paths all)

  -- with more paths behind a string
  pub sums_added : (found : Found) (sum more : Sum) (paths here : List Path) (bits : List Bool) →
      Sums basis left place found sum paths → more.paths ≡ counted (length here) →
      more.stopped ≡ counted (stops_in here) → AllByRecursion (IsKnown found) here →
      (more.repeats ≡ true → AllByRecursion (λ path. EndsBy basis left place more.after more.crossed (past bits path)) here) →
      Sums basis left place found (added sum more) (paths ++ map (past bits) here)
  sums_added found sum more paths here bits sums count stops known ends = record {
    count = ap₂ (λ a b. sum_counted a b) sums.count count
        ∙ (counted_sum (length paths) (length here)
        ∙ ap (λ n. counted n) (lengths));
    stops = ap₂ (λ a b. sum_counted a b) sums.stops stops
        ∙ (counted_sum (stops_in paths) (stops_in here)
        ∙ ap (λ n. counted n) (stop_counts));
    known = join_all (IsKnown found) paths (map (past bits) here) sums.known (known_past found bits here known);
    ends = λ repeats.
        let both = and_parts sum.repeats more.repeats repeats in
        join_all (EndsBy basis left place (min sum.after more.after) (max sum.crossed more.crossed)) paths
        (map (past bits) here)
        (weaken_all (EndsBy basis left place sum.after sum.crossed)
        (EndsBy basis left place (min sum.after more.after) (max sum.crossed more.crossed))
        (ends_wider sum.after sum.crossed (min sum.after more.after) (max sum.crossed more.crossed) (omega arith)
        (omega arith)) paths (sums.ends both.0))
        (weaken_all (EndsBy basis left place more.after more.crossed)
        (EndsBy basis left place (min sum.after more.after) (max sum.crossed more.crossed))
        (ends_wider more.after more.crossed (min sum.after more.after) (max sum.crossed more.crossed) (omega arith)
        (omega arith)) (map (past bits) here) (all_past more.after more.crossed bits here (ends both.1)));
  }
    where
      lengths : length paths + length here ≡ length (paths ++ map (past bits) here)
      lengths =
          let both = length-append paths (map (past bits) here) in
          let same = length_past bits here in
          omega (arith, both, same)

      stop_counts : stops_in paths + stops_in here ≡ stops_in (paths ++ map (past bits) here)
      stop_counts =
          let both = stops_append paths (map (past bits) here) in
          let same = stops_past bits here in
          omega (arith, both, same)

  -- of no paths
  pub sums_none : (found : Found) → Sums basis left place found no_paths []
  sums_none found = record { count = refl; stops = refl; known = tt; ends = λ repeats. tt }

  -- where more is known
  pub sums_known : (found next : Found) (sum : Sum) (paths : List Path) →
      ((path : Path) → IsKnown found path → IsKnown next path) → Sums basis left place found sum paths →
      Sums basis left place next sum paths
  sums_known found next sum paths keeps sums = record {
    count = sums.count;
    stops = sums.stops;
    known = weaken_all (IsKnown found) (IsKnown next) keeps paths sums.known;
    ends = sums.ends;
  }
