-- Marks of the addresses at which regions are entered.
use Rattle.std.proofs.Common.{◌≡◌, ℕ, ◌+◌, ◌<◌, ◌≤◌, ◌⊎◌, inl, inr, true, false, Bool, List, [], ◌∷◌, length, ◌==◌}
use Rattle.std.proofs.Common.{get_or, not, take, refl, sym, ap, ◌∙◌, arith, Some, None, nat_le}
use Rattle.std.specs.Prelude.{replicate, slice_set}
use Rattle.std.specs.List.{list_all}
use Rattle.std.proofs.lemmas.Bool.{and_parts, and_from, cases_Bool, cond-false, eqb-true, leb-true, leb-false}
use Rattle.std.proofs.lemmas.List.{get_or-replicate, get_or_past, get_or-set_other, length-replicate}
use Rattle.std.proofs.lemmas.Grind.{get_or-set_at}
use Rattle.std.proofs.lemmas.List.Folds.{list_all_more}
use Rattle.rv32im_machine.specs.declared.stepping.Stepped.{Stepped}
use Rattle.rv32im_machine.specs.declared.stepping.Stepped.TheVariants.{Ran, Exited, Stopped}
use Rattle.rv32im_machine.specs.State.{Control}
use Rattle.enclosure_regions.specs.declared.region_parts.Region.{Region}
use Rattle.region_machine.specs.Enclosures.{Steps, kind_in, kind_outside, kind_within, region_entered_at, region_numbered}
use Rattle.region_machine.specs.AddressMarks.{has_mark}
use Rattle.region_machine.specs.Private.Marked.{is_marked}

le_or_lt : (n m : ℕ) → (n ≤ m) ⊎ (m < n)
le_or_lt n m = elim (nat_le n m) as (λ b. nat_le n m ≡ b → (n ≤ m) ⊎ (m < n)) [
  | true ↦ (λ e. inl (leb-true n m e))
  | false ↦ (λ e. inr (leb-false n m e))
] refl

-- of so many marks that are not set none is
pub none_set : (count place : ℕ) → get_or (replicate count false) place false ≡ false
none_set count place = elim (le_or_lt count place) [
  | inl past ↦ get_or_past (replicate count false) place false (omega (arith, past, length-replicate count false))
  | inr below ↦ get_or-replicate count place false false below
]

-- a mark that is set stays set
pub mark_stays : (marks : List Bool) (place i : ℕ) → place < length marks → get_or marks i false ≡ true →
    get_or (slice_set marks place true) i false ≡ true
mark_stays marks place i inside marked = elim (le_or_lt place i) [
  | inr above ↦ get_or-set_other marks place i true false (omega (arith, above)) ∙ marked
  | inl low ↦ elim (le_or_lt i place) [
    | inl high ↦ get_or-set_at marks place i true false (omega (arith, low, high)) inside
    | inr below ↦ get_or-set_other marks place i true false (omega (arith, below)) ∙ marked
  ]
]

all_stay : {A : Type 0} (before after : A → Bool) (items : List A) →
    ((item : A) → before item ≡ true → after item ≡ true) → list_all before items ≡ true → list_all after items ≡ true
all_stay before after [] stay known = refl
all_stay before after (item ∷ items) stay known =
    let both = and_parts (before item) (list_all before items) known in
    and_from _ _ (stay item both.0) (all_stay before after items stay both.1)

-- where one more item is marked and those before it stay so, so many more are
pub mark_one : {A : Type 0} (before after : A → Bool) (items : List A) (i : ℕ) (item : A) → i < length items →
    item ≡ get_or items i item → ((other : A) → before other ≡ true → after other ≡ true) → after item ≡ true →
    list_all before (take i items) ≡ true → list_all after (take (i + 1) items) ≡ true
mark_one before after items i item more is stay here known =
    list_all_more after items i item more
    ∙ and_from _ _ (all_stay before after (take i items) stay known) (ap after (sym is) ∙ here)

-- where there is no mark, no region is entered
pub unmarked_none : (marks : List Bool) (regions : List Region) (pc : ℕ) →
    list_all (is_marked marks) regions ≡ true → has_mark marks pc ≡ false →
    region_entered_at regions pc ≡ None
unmarked_none marks [] pc all clear = refl
unmarked_none marks (r ∷ regions) pc all clear =
    let both = and_parts (is_marked marks r) (list_all (is_marked marks) regions) all in
    elim (cases_Bool (r.enter == pc)) [
      | inl same ↦
          let address : r.enter ≡ pc = eqb-true r.enter pc same in
          let marked : has_mark marks pc ≡ true = rw address at both.0 in
          absurd (cc)
      | inr other ↦
          cond-false (r.enter == pc) (Some r) (region_entered_at regions pc) other
          ∙ unmarked_none marks regions pc both.1 clear
    ]

-- outside of regions, where none is entered, the next turn is a step
pub outside_steps : (mode : Stepped) (regions : List Region) (control : Control) → control.region ≡ 0 →
    region_entered_at regions control.pc ≡ None → kind_in mode regions control ≡ Steps None
outside_steps Ran regions control outside none =
    ap (λ number. kind_within regions (region_numbered regions number) control.pc) outside ∙ ap kind_outside none
outside_steps (Exited status) regions control outside none = refl
outside_steps (Stopped fault) regions control outside none = refl

pub false_of : (b : Bool) → not b ≡ true → b ≡ false
false_of true is = absurd (cc)
false_of false is = refl
