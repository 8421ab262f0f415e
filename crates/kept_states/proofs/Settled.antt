-- Bytes that become those that are laid, piece after piece.
use Rattle.std.proofs.Common.{◌≡◌, ℕ, ◌+◌, ◌-◌, ◌*◌, ◌/◌, ◌%◌, ◌<◌, ◌≤◌, ◌==◌, ◌&&◌, nat_eq, nat_le, true, List, ◌++◌, ◌∷◌, [], length, take, get_or, replicate}
use Rattle.std.proofs.Common.{slice_index, refl, ◌∙◌, sym, ap, subst, arith, if◌then◌else◌}
use Rattle.std.proofs.lemmas.Bool.{cond-true, eqb-true}
use Rattle.std.proofs.lemmas.Bool.Decides.{nat_tests}
use Rattle.std.proofs.lemmas.List.{take_all, take_more}
use Rattle.shadow_masks.specs.Pieces.{SetsMasks}
use Rattle.shadow_masks.specs.Shades.{Shades, byte_label}
use Rattle.kept_states.specs.declared.laids.Laid.{Laid}
use Rattle.kept_states.specs.Keeping.{mask_byte}
use Rattle.kept_states.specs.Laids.{AreZeros, HasBytes, LaidBelow, LieWithin}
use Rattle.kept_states.specs.Pieces.{IsPiece}
use Rattle.kept_states.proofs.Growing.{grows_same}
use Rattle.kept_states.proofs.LaidBytes.{below_at, below_gap, below_more, below_push}

-- ---- pages in which there is nothing

-- from one page to before another there are zeros, of which some are past
pub below_pages : (pieces : List ℕ) (laids : List Laid) (from at end : ℕ) (source : ℕ → ℕ) → from ≤ at → at ≤ end →
    AreZeros source from end → LaidBelow pieces laids (from * 16) source → LaidBelow pieces laids (at * 16) source
below_pages pieces laids from at end source longer within zeros below =
    below_more pieces laids (from * 16) (at * 16) source (omega (arith, longer))
    (λ index past inside. zeros index (omega (arith, past)) (omega (arith, inside, within))) below

-- ---- a piece

-- the same of a source that has the same bytes there
pub below_source : (pieces : List ℕ) (laids : List Laid) (count : ℕ) (source other : ℕ → ℕ) →
    ((index : ℕ) → index < count * 256 → other index ≡ source index) → LaidBelow pieces laids count source →
    LaidBelow pieces laids count other
below_source pieces laids count source other same below = record {
  same = λ index inside. below.same index inside ∙ sym (same index inside);
  numbers = below.numbers;
  within = below.within;
}

-- the next piece is laid
pub below_next : (pieces : List ℕ) (laids : List Laid) (done number : ℕ) (d : Laid) (source other : ℕ → ℕ)
    (bytes : List ℕ) → done < length laids → (get_or laids done d).number ≡ number →
    IsPiece pieces (get_or laids done d).piece bytes → HasBytes other number bytes →
    ((index : ℕ) → index < number * 256 → other index ≡ source index) →
    LaidBelow pieces (take done laids) number source → LaidBelow pieces (take (done + 1) laids) (number + 1) other
below_next pieces laids done number d source other bytes inside at is has same below =
    let laid : Laid = get_or laids done d in
    let there : LaidBelow pieces (take done laids) number other =
    below_source pieces (take done laids) number source other same below in
    below_at pieces (take (done + 1) laids) (laid.number + 1) (number + 1) other (ap (λ (n : ℕ). n + 1) at)
    (below_push pieces pieces (take done laids) (take (done + 1) laids) laid other bytes (grows_same pieces pieces refl)
    is (subst (λ (n : ℕ). HasBytes other n bytes) (sym at) has) (take_more laids done d inside)
    (subst (λ (n : ℕ). LaidBelow pieces (take done laids) n other) (sym at) there))

-- a piece without bytes
pub below_none_there : (pieces : List ℕ) (laids : List Laid) (number : ℕ) (source other : ℕ → ℕ) →
    ((offset : ℕ) → offset < 256 → other (number * 256 + offset) ≡ 0) →
    ((index : ℕ) → index < number * 256 → other index ≡ source index) →
    LaidBelow pieces laids number source → LaidBelow pieces laids (number + 1) other
below_none_there pieces laids number source other zero same below =
    below_gap pieces laids number other zero (below_source pieces laids number source other same below)

-- ---- all pieces

pub all_done : (pieces : List ℕ) (laids : List Laid) (done page : ℕ) (source : ℕ → ℕ) → 4096 ≤ page → page ≤ 4096 →
    nat_eq done (length laids) ≡ true → LaidBelow pieces (take done laids) (page * 16) source →
    LaidBelow pieces laids 65536 source
all_done pieces laids done page source high low same below =
    let size : done ≡ length laids = eqb-true done (length laids) same in
    subst (λ (l : List Laid). LaidBelow pieces l 65536 source) (take_all done laids (omega (arith, size)))
    (below_at pieces (take done laids) (page * 16) 65536 source (omega (arith, high, low)) below)

-- ---- zeros that are laid

pub zero_in_piece : (number offset other : ℕ) (zeros : List ℕ) → offset < 256 → ((at : ℕ) → slice_index zeros at ≡ 0) →
    (if (number * 256 + offset) / 256 == number then slice_index zeros ((number * 256 + offset) % 256) else other) ≡ 0
zero_in_piece number offset other zeros below none =
    let here : ((number * 256 + offset) / 256 == number) ≡ true = grind (arith, nat_tests) in
    cond-true ((number * 256 + offset) / 256 == number) _ _ here ∙ none ((number * 256 + offset) % 256)

pub zero_masks : (number : ℕ) (zeros : List ℕ) (old new : Shades) → new.base ≡ old.base →
    ((at : ℕ) → slice_index zeros at ≡ 0) → SetsMasks number zeros old new → (offset : ℕ) → offset < 256 →
    mask_byte new (number * 256 + offset) ≡ 0
zero_masks number zeros old new begins none sets offset below =
    let address : ℕ = new.base + (number * 256 + offset) in
    let here : (nat_le old.base address && ((address - old.base) / 256 == number)) ≡ true =
    grind (arith, nat_tests, begins) in
    sets address
    ∙ cond-true (nat_le old.base address && ((address - old.base) / 256 == number)) _ _ here
    ∙ none ((address - old.base) % 256)
