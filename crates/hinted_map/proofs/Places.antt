-- A key stands where one that is the same as it stands, and has the value there.
use Rattle.std.proofs.Common.{◌≡◌, ℕ, Bool, true, cond, List, [], ◌∷◌, ◌++◌, Some, length, refl, sym, ap, ◌∙◌}
use Rattle.std.specs.Prelude.{slice_get}
use Rattle.std.specs.Cmp.{IsEquivalence}
use Rattle.std.specs.List.{IsDistinct}
use Rattle.std.specs.Map.{keys_of, lookup, values_of}
use Rattle.std.specs.Option.{option_map}
use Rattle.std.proofs.lemmas.Map.Entries.{lookup_from_place}
use Rattle.std.proofs.lemmas.Option.{slice_get-map}
use Rattle.indexmap.specs.IndexMap.{IndexMap, keys}
use Rattle.indexmap.proofs.CallerLemmas.{updates-with_value_at}
use Rattle.hinted_map.specs.Maps.{StandsAt}

pub stands : {K V S : Type 0} {is_same : K → K → Bool} → IsEquivalence is_same → (m : IndexMap K V S) (key k : K) (index : ℕ)
    (value : V) → IsDistinct is_same (keys m) → is_same key k ≡ true → slice_get m.entries index ≡ Some (k, value) →
    StandsAt is_same m.entries key index
stands {is_same = is_same} alike m key k index value differ same at =
    let tests : is_same key ≡ is_same k = λ i x. alike.congr key k x same i in
    record {
      stored = k;
      value = value;
      same = same;
      at = at;
      found = ap (λ test. lookup test m.entries) tests ∙ lookup_from_place alike m.entries index k value differ at;
      written = λ after q.
          (updates-with_value_at m index after alike differ k value at).0 q
          ∙ ap (λ test. cond (test q) (Some after) (lookup (is_same q) m.entries)) (sym tests);
    }

-- the value at the index of a key is its value
pub value_at : {K V : Type 0} {is_same : K → K → Bool} (entries : List (K × V)) (key : K) (index : ℕ) (value : V) →
    StandsAt is_same entries key index → slice_get (values_of entries) index ≡ Some value →
    lookup (is_same key) entries ≡ Some value
value_at entries key index value place there =
    place.found
    ∙ (sym (slice_get-map (λ e. e.1) entries index ∙ ap (option_map (λ e. e.1)) place.at) ∙ there)

last_here : {X : Type 0} (xs : List X) (x : X) → slice_get (xs ++ x ∷ []) (length xs) ≡ Some x
last_here [] x = refl
last_here (y ∷ xs) x = last_here xs x

-- what is put after others stands at their number
pub last_at : {X : Type 0} (xs : List X) (x : X) (index : ℕ) → index ≡ length xs → slice_get (xs ++ x ∷ []) index ≡ Some x
last_at xs x index e = ap (slice_get (xs ++ x ∷ [])) e ∙ last_here xs x

-- and its key after theirs
pub keys_added : {K V : Type 0} (entries : List (K × V)) (key : K) (value : V) →
    keys_of (entries ++ (key, value) ∷ []) ≡ keys_of entries ++ key ∷ []
keys_added [] key value = refl
keys_added (e ∷ es) key value = ap (λ keys. e.0 ∷ keys) (keys_added es key value)
