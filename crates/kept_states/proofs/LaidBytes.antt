-- The bytes that are laid.
use Rattle.std.proofs.Common.{◌≡◌, ℕ, ◌+◌, ◌*◌, ◌/◌, ◌%◌, ◌<◌, ◌≤◌, ◌≢◌, ◌==◌, inl, inr, true, false, List, [], ◌∷◌, ◌++◌, length}
use Rattle.std.proofs.Common.{slice_index, refl, ◌∙◌, sym, ap, subst, arith, if◌then◌else◌}
use Rattle.std.proofs.Common.{Result, Ok, Err, OnOk}
use Rattle.std.proofs.lemmas.Bool.{cases_lt, cond-false, cond-true, eqb-true}
use Rattle.std.proofs.lemmas.Bool.Decides.{eqb_tells}
use Rattle.kept_states.specs.declared.laids.Laid.{Laid}
use Rattle.kept_states.specs.Pieces.{byte_in, Grows, IsPiece}
use Rattle.kept_states.specs.Laids.{HasBytes, LaidBelow, LieBelow, LieWithin, laid_byte}

-- ---- pieces that grow

pub within_grows : (old new : List ℕ) (laids : List Laid) → Grows old new → LieWithin old laids → LieWithin new laids
within_grows old new [] grows within = tt
within_grows old new (laid ∷ laids) grows within =
    (omega (arith, grows.longer, within.0), within_grows old new laids grows within.1)

pub laid_grows : (old new : List ℕ) (laids : List Laid) (index : ℕ) → Grows old new → LieWithin old laids →
    laid_byte new laids index ≡ laid_byte old laids index
laid_grows old new [] index grows within = refl
laid_grows old new (laid ∷ laids) index grows within =
    let inside : laid.piece * 256 + index % 256 < length old = omega (arith, within.0) in
    ap (λ (n : ℕ). if index / 256 == laid.number then n else laid_byte new laids index)
    (grows.same (laid.piece * 256 + index % 256) inside)
    ∙ ap (λ (n : ℕ). if index / 256 == laid.number then byte_in old laid.piece (index % 256) else n)
    (laid_grows old new laids index grows within.1)

pub below_grows : (old new : List ℕ) (laids : List Laid) (count : ℕ) (source : ℕ → ℕ) → Grows old new →
    LaidBelow old laids count source → LaidBelow new laids count source
below_grows old new laids count source grows below = record {
  same = λ index inside. laid_grows old new laids index grows below.within ∙ below.same index inside;
  numbers = below.numbers;
  within = within_grows old new laids grows below.within;
}

-- ---- behind all that is laid

numbers_more : (laids : List Laid) (count more : ℕ) → count ≤ more → LieBelow count laids →
    LieBelow more laids
numbers_more [] count more longer low = tt
numbers_more (laid ∷ laids) count more longer low =
    (omega (arith, longer, low.0), numbers_more laids count more longer low.1)

pub laid_past : (pieces : List ℕ) (laids : List Laid) (count index : ℕ) → LieBelow count laids →
    count * 256 ≤ index → laid_byte pieces laids index ≡ 0
laid_past pieces [] count index low past = refl
laid_past pieces (laid ∷ laids) count index low past = elim (eqb_tells (index / 256) laid.number) [
  | inl same ↦ absurd (omega (arith, same.1, low.0, past))
  | inr other ↦
      cond-false (index / 256 == laid.number) (byte_in pieces laid.piece (index % 256)) (laid_byte pieces laids index)
      other.0
      ∙ laid_past pieces laids count index low.1 past
]

-- from here on the source has zeros
pub below_more : (pieces : List ℕ) (laids : List Laid) (count more : ℕ) (source : ℕ → ℕ) → count ≤ more →
    ((index : ℕ) → count * 256 ≤ index → index < more * 256 → source index ≡ 0) →
    LaidBelow pieces laids count source → LaidBelow pieces laids more source
below_more pieces laids count more source longer zero below = record {
  same = λ index inside. elim (cases_lt index (count * 256)) [
    | inl low ↦ below.same index low
    | inr past ↦ laid_past pieces laids count index below.numbers past ∙ sym (zero index past inside)
  ];
  numbers = numbers_more laids count more longer below.numbers;
  within = below.within;
}

-- ---- one more piece

before : (index number : ℕ) → index / 256 ≢ number → index < (number + 1) * 256 → index < number * 256
before index number other inside = elim (cases_lt index (number * 256)) [
  | inl low ↦ low
  | inr past ↦ absurd (other (omega (arith, past, inside)))
]

within_one : (index number : ℕ) → number * 256 ≤ index → index < (number + 1) * 256 → number * 256 + index % 256 ≡ index
within_one index number from inside =
    let same : index / 256 ≡ number = omega (arith, from, inside) in omega (arith, same)

pub below_none : (pieces : List ℕ) (source : ℕ → ℕ) → LaidBelow pieces [] 0 source
below_none pieces source = record {
  same = λ index inside. absurd (omega (arith, inside));
  numbers = tt;
  within = tt;
}

laid_front : (pieces : List ℕ) (laids : List Laid) (laid : Laid) (index : ℕ) →
    (index / 256 == laid.number) ≡ false →
    laid_byte pieces (laids ++ laid ∷ []) index ≡ laid_byte pieces laids index
laid_front pieces [] laid index other =
    cond-false (index / 256 == laid.number) (byte_in pieces laid.piece (index % 256)) 0 other
laid_front pieces (first ∷ laids) laid index other =
    ap (λ (n : ℕ). if index / 256 == first.number then byte_in pieces first.piece (index % 256) else n)
    (laid_front pieces laids laid index other)

laid_last : (pieces : List ℕ) (laids : List Laid) (laid : Laid) (index : ℕ) →
    (index / 256 == laid.number) ≡ true → LieBelow laid.number laids →
    laid_byte pieces (laids ++ laid ∷ []) index ≡ byte_in pieces laid.piece (index % 256)
laid_last pieces [] laid index same low =
    cond-true (index / 256 == laid.number) (byte_in pieces laid.piece (index % 256)) 0 same
laid_last pieces (first ∷ laids) laid index same low = elim (eqb_tells (index / 256) first.number) [
  | inl here ↦
      let at : index / 256 ≡ laid.number = eqb-true (index / 256) laid.number same in
      absurd (omega (arith, here.1, at, low.0))
  | inr other ↦
      cond-false (index / 256 == first.number) (byte_in pieces first.piece (index % 256))
      (laid_byte pieces (laids ++ laid ∷ []) index) other.0
      ∙ laid_last pieces laids laid index same low.1
]

numbers_push : (laids : List Laid) (laid : Laid) (count : ℕ) → LieBelow count laids → laid.number < count →
    LieBelow count (laids ++ laid ∷ [])
numbers_push [] laid count low last = (last, tt)
numbers_push (first ∷ laids) laid count low last = (low.0, numbers_push laids laid count low.1 last)

within_push : (pieces : List ℕ) (laids : List Laid) (laid : Laid) → LieWithin pieces laids →
    laid.piece * 256 + 256 ≤ length pieces → LieWithin pieces (laids ++ laid ∷ [])
within_push pieces [] laid within last = (last, tt)
within_push pieces (first ∷ laids) laid within last = (within.0, within_push pieces laids laid within.1 last)

pub below_push : (old new : List ℕ) (laids more : List Laid) (laid : Laid) (source : ℕ → ℕ) (bytes : List ℕ) →
    Grows old new → IsPiece new laid.piece bytes → HasBytes source laid.number bytes → more ≡ laids ++ laid ∷ [] →
    LaidBelow old laids laid.number source → LaidBelow new more (laid.number + 1) source
below_push old new laids more laid source bytes grows is has pushed below =
    subst (λ (l : List Laid). LaidBelow new l (laid.number + 1) source) (sym pushed)
    record {
      same = λ index inside. elim (eqb_tells (index / 256) laid.number) [
        | inl here ↦
            let at : laid.number * 256 + index % 256 ≡ index = omega (arith, here.1) in
            let part : index % 256 < 256 = omega arith in
            laid_last new laids laid index here.0 below.numbers
            ∙ is.same (index % 256) part ∙ has (index % 256) part ∙ ap source at
        | inr other ↦
            let low : index < laid.number * 256 = before index laid.number other.1 inside in
            laid_front new laids laid index other.0
            ∙ laid_grows old new laids index grows below.within ∙ below.same index low
      ];
      numbers = numbers_push laids laid (laid.number + 1)
          (numbers_more laids laid.number (laid.number + 1) (omega arith) below.numbers) (omega arith);
      within = within_push new laids laid (within_grows old new laids grows below.within) is.within;
    }

-- the bytes are all 0
pub below_zero : (pieces : List ℕ) (laids : List Laid) (number : ℕ) (source : ℕ → ℕ) (bytes : List ℕ) →
    HasBytes source number bytes → ((offset : ℕ) → slice_index bytes offset ≡ 0) →
    LaidBelow pieces laids number source → LaidBelow pieces laids (number + 1) source
below_zero pieces laids number source bytes has zero below =
    below_more pieces laids number (number + 1) source (omega arith)
    (λ index from inside.
    let at : number * 256 + index % 256 ≡ index = within_one index number from inside in
    ap source (sym at) ∙ sym (has (index % 256) (omega arith)) ∙ zero (index % 256)) below

-- ---- a walk over all pieces

pub below_at : (pieces : List ℕ) (laids : List Laid) (count more : ℕ) (source : ℕ → ℕ) → count ≡ more →
    LaidBelow pieces laids count source → LaidBelow pieces laids more source
below_at pieces laids count more source same below = subst (λ (n : ℕ). LaidBelow pieces laids n source) same below

in_page : (index page : ℕ) → page * 16 * 256 ≤ index → index < (page + 1) * 16 * 256 → index / 4096 ≡ page
in_page index page from inside = omega (arith, from, inside)

-- a page without bytes
pub below_page : (pieces : List ℕ) (laids : List Laid) (page : ℕ) (source : ℕ → ℕ) →
    ((index : ℕ) → index / 4096 ≡ page → source index ≡ 0) →
    LaidBelow pieces laids (page * 16) source → LaidBelow pieces laids ((page + 1) * 16) source
below_page pieces laids page source zero below =
    below_more pieces laids (page * 16) ((page + 1) * 16) source (omega arith)
    (λ index from inside. zero index (in_page index page from inside)) below

-- a piece without bytes
pub below_gap : (pieces : List ℕ) (laids : List Laid) (number : ℕ) (source : ℕ → ℕ) →
    ((offset : ℕ) → offset < 256 → source (number * 256 + offset) ≡ 0) →
    LaidBelow pieces laids number source → LaidBelow pieces laids (number + 1) source
below_gap pieces laids number source zero below =
    below_more pieces laids number (number + 1) source (omega arith)
    (λ index from inside.
    let at : number * 256 + index % 256 ≡ index = within_one index number from inside in
    ap source (sym at) ∙ zero (index % 256) (omega arith)) below

-- ---- results

pub map_ok : {A E : Type 0} {P Q : Type 0} (result : Result A E) → (P → Q) → OnOk result P → OnOk result Q
map_ok (Ok done) step fact = step fact
map_ok (Err error) step fact = tt
