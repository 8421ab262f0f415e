-- The loads of a program file without faults, in range and put one after the other among those before.
use Rattle.std.proofs.Common.{◌≡◌, ◌≢◌, ◌⊎◌, inl, inr, ℕ, ◌+◌, ◌<◌, ◌≤◌, List, length, subst, arith}
use Rattle.std.specs.Prelude.{insert, max}
use Rattle.std.proofs.lemmas.Bool.{cases_lt}
use Rattle.std.proofs.lemmas.List.Elements.{All-weaker}
use Rattle.elf32_loader.specs.declared.headers.Header.{Header}
use Rattle.elf32_loader.specs.declared.segments.Segment.{Segment}
use Rattle.elf32_loader.specs.FaultTable.{HasNoFault, IsFileBase, IsOutOfRange}
use Rattle.elf32_loader.specs.Headers.{IsLoad, header_at}
use Rattle.elf32_loader.specs.Programs.{IsLoaded}
use Rattle.elf32_loader.specs.Private.Searches.{AreLoads, IsPlace}
use Rattle.elf32_loader.specs.Segments.{highest_end}
use Rattle.elf32_loader.proofs.Inserting.{AreApart, all_insert, climbs_insert, contains_insert, contains_new}
use Rattle.flow_base.specs.Guests.{memory_size}

-- a load in range
pub record IsInRange (file : List ℕ) (base index : ℕ) : Type 0 where
  pub in_memory : (header_at file index).file_size ≤ (header_at file index).memory_size
  pub in_file : (header_at file index).offset + (header_at file index).file_size ≤ length file
  pub in_guest : (header_at file index).address + (header_at file index).memory_size ≤ base + memory_size
  pub in_bounds : (header_at file index).address + (header_at file index).memory_size ≤ highest_end

at_most : (a b : ℕ) → ¬ (b < a) → a ≤ b
at_most a b not_above = elim (cases_lt b a) [ inl above ↦ absurd (not_above above) | inr below ↦ below ]

pub in_range : (file : List ℕ) (base index : ℕ) → HasNoFault file → IsFileBase file base → IsLoad file index
    → IsInRange file base index
in_range file base index clean is_base is_load =
    let out : ¬ IsOutOfRange file base (header_at file index) =
    λ fault. clean.loads.is_in_range (base, index, is_base, (is_load, fault)) in
    record {
      in_memory = at_most _ _ (λ above. out (inl above));
      in_file = at_most _ _ (λ above. out (inr (inl above)));
      in_guest = at_most _ _ (λ above. out (inr (inr (inl above))));
      in_bounds = at_most _ _ (λ above. out (inr (inr (inr above))));
    }

-- two ranges share no address, or one
share : (a m b n : ℕ) → m ≢ 0 → n ≢ 0
    → ((a + m ≤ b) ⊎ (b + n ≤ a)) ⊎ ((x : ℕ) × (a ≤ x × x < a + m) × (b ≤ x × x < b + n))
share a m b n some other = elim (cases_lt b (a + m)) [
  | inr apart ↦ inl (inl apart)
  | inl before ↦ elim (cases_lt a (b + n)) [
    | inr apart ↦ inl (inr apart)
    | inl after ↦ inr (max a b, (omega arith, omega arith), (omega arith, omega arith))
  ]
]

-- the segments of two loads are apart
pub apart : (file : List ℕ) (first second : ℕ) (one other : Segment) → HasNoFault file → first < second
    → IsLoad file first
    → IsLoad file second → IsLoaded file (header_at file first) one → IsLoaded file (header_at file second) other
    → AreApart other one
apart file first second one other clean below is_first is_second loaded_one loaded_other =
    let one_header : Header = header_at file first in
    let other_header : Header = header_at file second in
    elim (share other_header.address other_header.memory_size one_header.address one_header.memory_size is_second.2 is_first.2) [
      | inl away ↦ elim away [
        | inl h ↦ inl (omega (arith, loaded_one.address, loaded_other.address, loaded_other.size))
        | inr h ↦ inr (omega (arith, loaded_one.address, loaded_other.address, loaded_one.size))
      ]
      | inr shared ↦
          absurd (clean.loads.has_no_overlap (first, second, (below, is_first, is_second, (shared.0, shared.2, shared.1))))
    ]

-- a header that is no load
pub loads_skip : (file : List ℕ) (bound : ℕ) (segments : List Segment) → AreLoads file bound segments
    → ¬ IsLoad file bound
    → AreLoads file (bound + 1) segments
loads_skip file bound segments loads none = record {
  climbs = loads.climbs;
  each =
      All-weaker (λ s. (index : ℕ) × (index < bound) × IsLoad file index × IsLoaded file (header_at file index) s)
      (λ s. (index : ℕ) × (index < bound + 1) × IsLoad file index × IsLoaded file (header_at file index) s)
      (λ s found. (found.0, omega (arith, found.1), found.2, found.3)) segments loads.each;
  stand = λ index below is_load. elim (cases_lt index bound) [
    | inl before ↦ loads.stand index before is_load
    | inr after ↦
        let same : index ≡ bound = omega arith in
        absurd (none (subst (λ (n : ℕ). IsLoad file n) same is_load))
  ];
}

-- a load more
pub loads_put : (file : List ℕ) (bound place : ℕ) (segments : List Segment) (x : Segment) → HasNoFault file
    → AreLoads file bound segments → IsLoad file bound → IsLoaded file (header_at file bound) x
    → IsPlace x.address segments place → AreLoads file (bound + 1) (insert segments place x)
loads_put file bound place segments x clean loads is_load loaded is_place =
    let Below : Segment → Type 0 =
    λ s. (index : ℕ) × (index < bound) × IsLoad file index × IsLoaded file (header_at file index) s in
    let Within : Segment → Type 0 =
    λ s. (index : ℕ) × (index < bound + 1) × IsLoad file index × IsLoaded file (header_at file index) s in
    let some : 0 < length x.bytes = omega (arith, loaded.size, is_load.2) in
    record {
      climbs =
          climbs_insert segments place x some loads.climbs
          (All-weaker Below (AreApart x)
          (λ s found. apart file found.0 bound s x clean found.1 found.2 is_load found.3 loaded) segments loads.each)
          is_place;
      each =
          all_insert Within segments place x
          (All-weaker Below Within (λ s found. (found.0, omega (arith, found.1), found.2, found.3)) segments loads.each)
          (bound, omega arith, is_load, loaded);
      stand = λ index below is_this. elim (cases_lt index bound) [
        | inl before ↦
            let found = loads.stand index before is_this in
            (found.0, contains_insert segments place x found.0 found.1, found.2)
        | inr after ↦
            let same : bound ≡ index = omega arith in
            (x, contains_new segments place x, subst (λ (n : ℕ). IsLoaded file (header_at file n) x) same loaded)
      ];
    }
