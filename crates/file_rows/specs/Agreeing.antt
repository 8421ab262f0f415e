-- What is counted: the sources that assemble to the bytes of their words, are listed so, or are refused with the
-- fault of their text.
use Rattle.std.specs.Prelude.{◌≡◌, ℕ, ◌==◌, ◌&&◌, Bool, false, List, [], ◌∷◌, Ok, Err}
use Rattle.std.specs.Str.{bytes_eq}
use Rattle.elf32_loader.specs.Pictures.{Picture}
use Rattle.elf32_loader.specs.declared.segments.Segment.{Segment}
use Rattle.rv32im_asm.specs.Assembling.{assembled, one_segment}
use Rattle.rv32im_asm.specs.FaultTexts.{source_fault_text}
use Rattle.rv32im_asm.specs.Listing.{listing}
use Rattle.rv32im_asm.specs.declared.fault.AsmFault.{AsmFault}

-- a source assembles to these bytes: they are the one segment, whose address is the entry
abbrev pub IsAssembledTo : List ℕ → List ℕ → Type 0
IsAssembledTo source bytes = assembled source ≡ Ok (one_segment bytes)

-- a source assembles, and this is the listing of its image
abbrev pub IsListed : List ℕ → List ℕ → Type 0
IsListed source text = (picture : Picture) × (assembled source ≡ Ok picture) × (listing picture.segments ≡ text)

-- a source is refused with a fault of this text
abbrev pub IsRefused : List ℕ → List ℕ → Type 0
IsRefused source text = (fault : AsmFault) × (assembled source ≡ Err fault) × (source_fault_text fault ≡ text)

-- the segments are one, at the start, of these bytes
abbrev pub has_segment : List Segment → List ℕ → Bool
has_segment [] bytes = false
has_segment (segment ∷ []) bytes = (segment.address == 65536) && bytes_eq segment.bytes bytes
has_segment (segment ∷ (next ∷ segments)) bytes = false

-- an image shows these bytes
abbrev pub has_bytes : Picture → List ℕ → Bool
has_bytes picture bytes =
    (picture.base == 65536) && ((picture.entry == 65536) && has_segment picture.segments bytes)
