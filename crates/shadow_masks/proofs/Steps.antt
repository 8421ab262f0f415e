-- What the loops over ranges of bytes and over listed registers keep.
use Rattle.std.proofs.Common.{◌≡◌, ℕ, zero, suc, replicate, slice_index_or, slice_set, length, ◌≢◌, ◌+◌, ◌-◌, ◌*◌, ◌/◌}
use Rattle.std.proofs.Common.{◌%◌, ◌<◌, ◌≤◌, ◌==◌, nat_le, List, [], ◌∷◌, Option, None, Bool, true, false, Result, Ok}
use Rattle.std.proofs.Common.{Err, OnErr}
use Rattle.std.proofs.Common.{if◌then◌else◌, sym, refl, ap, ◌∙◌, ⊎_elim, subst, arith}
use Rattle.shadow_masks.specs.declared.labels.Label.{Label}
use Rattle.shadow_masks.specs.Labels.{clean, AreRegisterLabels}
use Rattle.std.proofs.lemmas.Bool.{cases_lt}
use Rattle.std.proofs.lemmas.Grind.{get_or-set_at}
use Rattle.std.proofs.lemmas.List.{get_or-set_other}
use Rattle.shadow_masks.specs.Pages.{PageShades, label_in, label_from, labels_from, is_in_range, AreClean, SetsFewer}
use Rattle.shadow_masks.specs.Pages.{SetsLabel, SetsPlaces}
use Rattle.shadow_masks.specs.Shades.{Shades, register_label, kept_label, byte_label, label_at, page_at, IsNew}
use Rattle.shadow_masks.specs.Shades.{SetsByte, SetsBytes, SetsFirstPart, Restores}
use Rattle.flow_base.specs.Listed.{is_listed}

-- no byte of a range of no bytes is set
pub sets_bytes_start : (first : ℕ) (label : ℕ → Label) (shades : Shades) → SetsBytes first 0 label shades shades
sets_bytes_start first label shades =
    record { bytes = λ a. grind arith; base = refl; registers = refl; kept = refl }

-- one address more at the end of a range, at any kind of value
longer_range : {X : Type 0} (first length a : ℕ) (value : ℕ → X) (old mid new : X) →
    mid ≡ (if is_in_range first length a then value (a - first) else old) →
    new ≡ (if a == first + length then value length else mid) →
    new ≡ (if is_in_range first (length + 1) a then value (a - first) else old)
longer_range first length a value old mid new before sets = ⊎_elim
    (λ below. grind (arith, before, sets, below))
    (λ from. ⊎_elim
    (λ same. let e : a - first ≡ length = omega arith in grind (arith, before, sets, from, same, ap value e))
    (λ above. grind (arith, before, sets, above))
    (cases_lt a (suc (first + length))))
    (cases_lt a (first + length))

-- one byte more at the end of the range
pub sets_bytes_next : {first length : ℕ} {label : ℕ → Label} {old mid new : Shades} →
    SetsBytes first length label old mid → SetsByte (first + length) (label length) mid new →
    SetsBytes first (length + 1) label old new
sets_bytes_next {first} {length} {label} {old} {mid} {new} before sets = record {
  bytes = λ a. longer_range first length a label (byte_label old a) (byte_label mid a) (byte_label new a)
      (before.bytes a) (sets.bytes a);
  base = sets.base ∙ before.base;
  registers = sets.registers ∙ before.registers;
  kept = sets.kept ∙ before.kept;
}

-- now, with the kept labels at the registers that are left, is old with those at all listed ones
pub record RestoresRest (listed rest : List ℕ) (old now : Shades) : Type 0 where
  pub registers : (r : ℕ) →
      (if is_listed rest r then kept_label now r else register_label now r)
      ≡ (if is_listed listed r then kept_label old r else register_label old r)
  pub kept : now.kept ≡ old.kept
  pub base : now.base ≡ old.base
  pub pages : now.pages ≡ old.pages

-- one register more is given back
pub restores_next : {listed rest : List ℕ} {register : ℕ} {old mid new : Shades} →
    RestoresRest listed (register ∷ rest) old mid → Restores (register ∷ []) mid new →
    RestoresRest listed rest old new
restores_next {listed} {rest} {register} {old} {mid} {new} before gives = record {
  registers = λ r. grind (arith, before.registers r, gives.registers r, gives.kept);
  kept = gives.kept ∙ before.kept;
  base = gives.base ∙ before.base;
  pages = gives.pages ∙ before.pages;
}

-- an item of a list of clean labels, or past its end
pub clean_at : (n r : ℕ) → slice_index_or (replicate n clean) r clean ≡ clean
clean_at zero r = refl
clean_at (suc n) zero = refl
clean_at (suc n) (suc r) = clean_at n r

pub each_clean : (labels : List Label) → labels ≡ replicate 32 clean → (r : ℕ) → slice_index_or labels r clean ≡ clean
each_clean labels same r = ap (λ l. slice_index_or l r clean) same ∙ clean_at 32 r

pub clean_are_register_labels :
    (labels : List Label) → ((r : ℕ) → slice_index_or labels r clean ≡ clean) → AreRegisterLabels labels
clean_are_register_labels labels clean_each = record { zero = clean_each 0; each = λ r none. clean_each r }

clean_in : (page : Option PageShades) (place : ℕ) → page ≡ None → label_in page place ≡ clean
clean_in page place e = ap (λ p. label_in p place) e

clean_if : (inside : Bool) (label : Label) → label ≡ clean → (if inside then label else clean) ≡ clean
clean_if true label e = e
clean_if false label e = refl

-- with clean registers and no page a shadow is new
pub is_new :
    (base : ℕ) (registers kept : List Label) (pages : List (Option PageShades)) →
    ((r : ℕ) → slice_index_or registers r clean ≡ clean) → ((r : ℕ) → slice_index_or kept r clean ≡ clean) →
    ((number : ℕ) → page_at pages number ≡ None) →
    IsNew base (record { registers = registers; kept = kept; base = base; pages = pages })
is_new base registers kept pages r k none = record {
  registers = r;
  kept = k;
  begins = refl;
  bytes = λ a. clean_if _ _ (clean_in (page_at pages ((a - base) / 4096)) ((a - base) % 4096) (none ((a - base) / 4096)));
}

-- ---- bytes of one page

same_page :
    (base address offset : ℕ) → base ≤ address → (address - base) % 4096 + offset < 4096 →
    (address + offset - base) / 4096 ≡ (address - base) / 4096
same_page base address offset from inside = omega arith

next_place :
    (base address offset : ℕ) → base ≤ address → (address - base) % 4096 + offset < 4096 →
    (address + offset - base) % 4096 ≡ (address - base) % 4096 + offset
next_place base address offset from inside = omega arith

label_in_page :
    (base address offset : ℕ) (pages : List (Option PageShades)) → base ≤ address →
    (address - base) % 4096 + offset < 4096 →
    label_in (page_at pages ((address - base) / 4096)) ((address - base) % 4096 + offset)
    ≡ label_at base pages (address + offset)
label_in_page base address offset pages from inside =
    sym (inside_memory base (address + offset) (label_in (page_at pages ((address + offset - base) / 4096))
    ((address + offset - base) % 4096)) (omega arith)
    ∙ ap (λ n. label_in (page_at pages n) ((address + offset - base) % 4096)) (same_page base address offset from inside)
    ∙ ap (λ n. label_in (page_at pages ((address - base) / 4096)) n) (next_place base address offset from inside))
  where
    inside_memory :
        (base address : ℕ) (label : Label) → base ≤ address → (if nat_le base address then label else clean) ≡ label
    inside_memory base address label from = grind (arith, from)

one_label :
    (ours theirs : ℕ → Label) (place address count offset : ℕ) →
    (offset < count → ours (place + offset) ≡ theirs (address + offset)) →
    label_from ours place count offset ≡ label_from theirs address count offset
one_label ours theirs place address count offset same = ⊎_elim
    (λ below. grind (arith, below, same below))
    (λ past. grind (arith, past))
    (cases_lt offset count)

-- the labels of bytes on one page are those of its places
pub bytes_in_page :
    (base address count : ℕ) (pages : List (Option PageShades)) → base ≤ address →
    (address - base) % 4096 + count ≤ 4096 →
    labels_from (label_in (page_at pages ((address - base) / 4096))) ((address - base) % 4096) count
    ≡ labels_from (label_at base pages) address count
bytes_in_page base address count pages from inside = rw (part 0, part 1, part 2, part 3) refl
  where
    part :
        (offset : ℕ) →
        label_from (label_in (page_at pages ((address - base) / 4096))) ((address - base) % 4096) count offset
        ≡ label_from (label_at base pages) address count offset
    part offset =
        one_label (label_in (page_at pages ((address - base) / 4096))) (label_at base pages)
        ((address - base) % 4096) address count offset
        (λ below. label_in_page base address offset pages from (omega arith))

-- the same, of a shadow whose memory begins at the base and of a page of it
pub bytes_of_page :
    (shades : Shades) (page : Option PageShades) (base address count : ℕ) → shades.base ≡ base → base ≤ address →
    (address - base) % 4096 + count ≤ 4096 → page ≡ page_at shades.pages ((address - base) / 4096) →
    labels_from (label_in page) ((address - base) % 4096) count ≡ labels_from (byte_label shades) address count
bytes_of_page shades page base address count begins from inside is =
    ap (λ p. labels_from (label_in p) ((address - base) % 4096) count) is
    ∙ bytes_in_page base address count shades.pages from inside
    ∙ ap (λ b. labels_from (label_at b shades.pages) address count) (sym begins)

-- each of the bytes of one page is clean where each of its places is, and the other way round
pub clean_of_page :
    (shades : Shades) (page : Option PageShades) (base address count : ℕ) → shades.base ≡ base → base ≤ address →
    (address - base) % 4096 + count ≤ 4096 → page ≡ page_at shades.pages ((address - base) / 4096) →
    AreClean (label_in page) ((address - base) % 4096) count → AreClean (byte_label shades) address count
clean_of_page shades page base address count begins from inside is clean_each offset below =
    ap (λ b. label_at b shades.pages (address + offset)) begins
    ∙ sym (label_in_page base address offset shades.pages from (omega arith))
    ∙ ap (λ p. label_in p ((address - base) % 4096 + offset)) (sym is)
    ∙ clean_each offset below

pub clean_to_page :
    (shades : Shades) (page : Option PageShades) (base address count : ℕ) → shades.base ≡ base → base ≤ address →
    (address - base) % 4096 + count ≤ 4096 → page ≡ page_at shades.pages ((address - base) / 4096) →
    AreClean (byte_label shades) address count → AreClean (label_in page) ((address - base) % 4096) count
clean_to_page shades page base address count begins from inside is clean_each offset below =
    ap (λ p. label_in p ((address - base) % 4096 + offset)) is
    ∙ label_in_page base address offset shades.pages from (omega arith)
    ∙ ap (λ b. label_at b shades.pages (address + offset)) (sym begins)
    ∙ clean_each offset below

-- ---- a page that is put in place of another

-- one place more at the end of those that are set
pub sets_places_next :
    (first count : ℕ) (label old mid new : ℕ → Label) (value : Label) → value ≡ label count →
    SetsPlaces first count label old mid → SetsLabel (first + count) value mid new →
    SetsPlaces first (count + 1) label old new
sets_places_next first count label old mid new value is before sets other inside =
    longer_range first count other label (old other) (mid other) (new other) (before other inside)
    (sets other inside ∙ ap (λ v. if other == first + count then v else mid other) is)

-- and one byte more at the end of a range, whose label is given
pub sets_bytes_after :
    {first length : ℕ} {label : ℕ → Label} {old mid new : Shades} (value : Label) → value ≡ label length →
    SetsBytes first length label old mid → SetsByte (first + length) value mid new →
    SetsBytes first (length + 1) label old new
sets_bytes_after {first} {length} {label} {old} {mid} {new} value is before sets =
    sets_bytes_next before (subst (λ v. SetsByte (first + length) v mid new) is sets)

inside_page :
    (base first count a : ℕ) → base ≤ first → (first - base) % 4096 + count ≤ 4096 → first ≤ a → a < first + count →
    (a - base) / 4096 ≡ (first - base) / 4096
inside_page base first count a from inside after below = omega arith

other_page :
    (base first count a : ℕ) → base ≤ first → (first - base) % 4096 + count ≤ 4096 →
    (a - base) / 4096 ≢ (first - base) / 4096 → is_in_range first count a ≡ false
other_page base first count a from inside other = ⊎_elim
    (λ before. grind (arith, before))
    (λ after. ⊎_elim
    (λ below. absurd (other (inside_page base first count a from inside after below)))
    (λ past. grind (arith, past))
    (cases_lt a (first + count)))
    (cases_lt a first)

shifted_range :
    (first a place o k count : ℕ) → first ≡ place + k → a ≡ o + k → is_in_range place count o ≡ is_in_range first count a
shifted_range first a place o k count e e' = grind (arith, e, e')

same_range :
    (base first count a : ℕ) → base ≤ first → base ≤ a → (a - base) / 4096 ≡ (first - base) / 4096 →
    is_in_range ((first - base) % 4096) count ((a - base) % 4096) ≡ is_in_range first count a
same_range base first count a from from' same =
    shifted_range first a ((first - base) % 4096) ((a - base) % 4096) (base + (first - base) / 4096 * 4096) count
    (omega arith) (omega arith)

same_offset :
    (base first a : ℕ) → base ≤ first → base ≤ a → (a - base) / 4096 ≡ (first - base) / 4096 →
    (a - base) % 4096 - (first - base) % 4096 ≡ a - first
same_offset base first a from from' same = omega arith

if_other : {X : Type 0} (test : Bool) (x y : X) → test ≡ false → y ≡ (if test then x else y)
if_other test x y e = ap (λ t. if t then x else y) (sym e)

-- the labels of a page that is put in place of another, address by address
page_put :
    (base first count a : ℕ) (label : ℕ → Label) (pages : List (Option PageShades)) (page : Option PageShades) →
    base ≤ first → (first - base) % 4096 + count ≤ 4096 → (first - base) / 4096 < length pages →
    SetsPlaces ((first - base) % 4096) count label (label_in (page_at pages ((first - base) / 4096))) (label_in page) →
    base ≤ a →
    label_in (page_at (slice_set pages ((first - base) / 4096) page) ((a - base) / 4096)) ((a - base) % 4096)
    ≡ (if is_in_range first count a then label (a - first)
    else label_in (page_at pages ((a - base) / 4096)) ((a - base) % 4096))
page_put base first count a label pages page from inside within sets from' =
    let n = (first - base) / 4096 in
    let m = (a - base) / 4096 in
    let o = (a - base) % 4096 in
    let place = (first - base) % 4096 in
    let elsewhere : m ≢ n → label_in (page_at (slice_set pages n page) m) o
    ≡ (if is_in_range first count a then label (a - first) else label_in (page_at pages m) o) =
    λ other.
    ap (λ p. label_in p o) (get_or-set_other pages n m page None other)
    ∙ if_other (is_in_range first count a) (label (a - first)) (label_in (page_at pages m) o)
    (other_page base first count a from inside other) in
    ⊎_elim
    (λ less. elsewhere (λ e. omega (arith, e, less)))
    (λ least. ⊎_elim
    (λ more. elsewhere (λ e. omega (arith, e, more)))
    (λ most.
    let same : m ≡ n = omega (arith, least, most) in
    ap (λ p. label_in p o) (get_or-set_at pages n m page None same within)
    ∙ sets o (omega arith)
    ∙ ap (λ t. if t then label (o - place) else label_in (page_at pages n) o) (same_range base first count a from from' same)
    ∙ ap (λ d. if is_in_range first count a then label d else label_in (page_at pages n) o)
    (same_offset base first a from from' same)
    ∙ ap (λ k. if is_in_range first count a then label (a - first) else label_in (page_at pages k) o) (sym same))
    (cases_lt n m))
    (cases_lt m n)

before_memory :
    (base first count a : ℕ) (old new value : Label) → base ≤ first → a < base →
    (if nat_le base a then new else clean)
    ≡ (if is_in_range first count a then value else (if nat_le base a then old else clean))
before_memory base first count a old new value from before = grind (arith, from, before)

in_memory :
    (base first count a : ℕ) (old new value : Label) → base ≤ a → new ≡ (if is_in_range first count a then value else old) →
    (if nat_le base a then new else clean)
    ≡ (if is_in_range first count a then value else (if nat_le base a then old else clean))
in_memory base first count a old new value from e = grind (arith, from, e)

-- what is read at an index that is inside does not depend on what stands for the rest
pub any_default : {X : Type 0} (items : List X) (n : ℕ) (x y : X) → n < length items → slice_index_or items n x ≡ slice_index_or items n y
any_default [] n x y inside = absurd (omega (arith, inside))
any_default (item ∷ items) zero x y inside = refl
any_default (item ∷ items) (suc n) x y inside = any_default items n x y (omega (arith, inside))

-- a page that is put in place of another sets the labels of the bytes in it
pub sets_in_page :
    (registers kept : List Label) (base first count : ℕ) (label : ℕ → Label) (pages : List (Option PageShades))
    (page : Option PageShades) → base ≤ first → (first - base) % 4096 + count ≤ 4096 →
    (first - base) / 4096 < length pages →
    SetsPlaces ((first - base) % 4096) count label (label_in (page_at pages ((first - base) / 4096))) (label_in page) →
    SetsBytes first count label (record { registers = registers; kept = kept; base = base; pages = pages })
    (record {
      registers = registers;
      kept = kept;
      base = base;
      pages = slice_set pages ((first - base) / 4096) page;
    })
sets_in_page registers kept base first count label pages page from inside within sets = record {
  bytes = λ a. ⊎_elim
      (λ before. before_memory base first count a _ _ (label (a - first)) from before)
      (λ after.
      in_memory base first count a _ _ (label (a - first)) after
      (page_put base first count a label pages page from inside within sets after))
      (cases_lt a base);
  base = refl;
  registers = refl;
  kept = refl;
}

-- and where only some of its places are set, a first part of the bytes is
pub sets_part_in_page :
    (registers kept : List Label) (base first count : ℕ) (label : ℕ → Label) (pages : List (Option PageShades))
    (page : Option PageShades) → base ≤ first → (first - base) % 4096 + count ≤ 4096 →
    (first - base) / 4096 < length pages →
    SetsFewer ((first - base) % 4096) count label (label_in (page_at pages ((first - base) / 4096))) (label_in page) →
    SetsFirstPart first count label (record { registers = registers; kept = kept; base = base; pages = pages })
    (record {
      registers = registers;
      kept = kept;
      base = base;
      pages = slice_set pages ((first - base) / 4096) page;
    })
sets_part_in_page registers kept base first count label pages page from inside within sets = record {
  part = sets.part;
  shorter = sets.shorter;
  other = λ same. sets.other (label_in_page base first sets.part pages from (omega (arith, inside, sets.shorter)) ∙ same);
  sets =
      sets_in_page registers kept base first sets.part label pages page from (omega (arith, inside, sets.shorter)) within
      sets.sets;
}

pub on_err : {A E : Type 0} {Fact : Type 0} (result : Result A E) → Fact → OnErr result Fact
on_err (Ok done) fact = tt
on_err (Err error) fact = fact
