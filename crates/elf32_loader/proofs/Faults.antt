-- A program file with a first fault has no image.
use Rattle.std.proofs.Common.{ℕ, inl, inr, List}
use Rattle.elf32_loader.specs.declared.fault.ElfFault.{ElfFault}
use Rattle.elf32_loader.specs.FaultTable.{HasNoFault}
use Rattle.elf32_loader.specs.FirstFault.{IsFirstFault, LoadRows}
use Rattle.elf32_loader.specs.Pictures.{Picture}
use Rattle.elf32_loader.specs.Programs.{IsImage}

no_load_row : (file : List ℕ) (fault : ElfFault) → HasNoFault file → LoadRows file fault → ⊥
no_load_row file fault clean rows = elim rows [
  | inl dynamic ↦ clean.loads.is_not_dynamic dynamic.0
  | inr others ↦ elim others.1 [
    | inl none ↦ clean.loads.has_load none.0
    | inr others ↦ elim others.1 [
      | inl range ↦ clean.loads.is_in_range range.0
      | inr others ↦ elim others.1 [
        | inl high ↦ clean.loads.has_low_base high.0
        | inr others ↦ elim others.1 [
          | inl overlap ↦ clean.loads.has_no_overlap overlap.0
          | inr others ↦ elim others.1 [ inl outside ↦ clean.loads.has_entry outside.0 | inr none ↦ none.1 ]
        ]
      ]
    ]
  ]
]

no_row : (file : List ℕ) (fault : ElfFault) → HasNoFault file → IsFirstFault file fault → ⊥
no_row file fault clean rows = elim rows [
  | inl short ↦ clean.header.has_header short.0
  | inr others ↦ elim others.1 [
    | inl other ↦ clean.header.has_format other.0
    | inr others ↦ elim others.1 [
      | inl other ↦ clean.header.has_kind other.0
      | inr others ↦ elim others.1 [
        | inl compressed ↦ clean.header.is_not_compressed compressed.0
        | inr others ↦ elim others.1 [
          | inl other ↦ clean.header.has_table other.0
          | inr others ↦ elim others.1 [
            | inl cut ↦ clean.header.has_whole_table cut.0
            | inr others ↦ no_load_row file fault clean others.1
          ]
        ]
      ]
    ]
  ]
]

pub no_image : (file : List ℕ) (fault : ElfFault) → IsFirstFault file fault → (picture : Picture)
    → ¬ IsImage file picture
no_image file fault first picture image = no_row file fault image.no_fault first
