-- The texts of faults and of breaks. Numbers are decimal; an address or a word is 0x and eight digits in lower case.
use Rattle.std.specs.Prelude.{ℕ, List, ◌++◌, codes}
use Rattle.std.specs.Fmt.{decimal}
use Rattle.flow_base.specs.HexWords.{hex_word}
use Rattle.enclosure_regions.specs.declared.break_kinds.Break.{Break}
use Rattle.enclosure_regions.specs.declared.break_kinds.Break.TheVariants.{UndeclaredWrite, KeepBroken, CallInRegion}
use Rattle.enclosure_regions.specs.declared.break_kinds.Break.TheVariants.{RangeOutside}
use Rattle.enclosure_regions.specs.declared.break_kinds.Place.{Place}
use Rattle.enclosure_regions.specs.declared.break_kinds.Place.TheVariants.{Reg, Byte}
use Rattle.enclosure_regions.specs.declared.region_faults.RegionFault.{RegionFault}
use Rattle.enclosure_regions.specs.declared.region_faults.RegionFault.TheVariants.{Json, Shape, SameAddress, EnterTwice}
use Rattle.enclosure_regions.specs.declared.region_faults.RegionFault.TheVariants.{RegisterTwice, TooMany, Memory}

-- a register, or the byte at an address
abbrev pub place_text : Place → List ℕ
place_text (Reg register) = codes "x" ++ decimal register
place_text (Byte address) = hex_word address

-- a range, counted from 0, of the region with a number
abbrev pub range_text : ℕ → ℕ → List ℕ
range_text region range =
    codes "region " ++ (decimal region ++ (codes " range " ++ (decimal range ++ codes " outside")))

-- how a region is broken
abbrev pub break_text : Break → List ℕ
break_text (UndeclaredWrite region pc place) =
    codes "region " ++ (decimal region ++ (codes " undeclared " ++ (place_text place ++ (codes " at " ++ hex_word pc))))
break_text (KeepBroken region register before after) =
    codes "region " ++ (decimal region ++ (codes " keep x" ++ (decimal register ++ (codes " before " ++ (hex_word before
    ++ (codes " after " ++ hex_word after))))))
break_text (CallInRegion region pc) = codes "region " ++ (decimal region ++ (codes " call at " ++ hex_word pc))
break_text (RangeOutside region range) = range_text region range

-- what is wrong with a region file
abbrev pub region_fault_text : RegionFault → List ℕ
region_fault_text Json = codes "json"
region_fault_text (Shape index) = codes "shape " ++ decimal index
region_fault_text (SameAddress index) = codes "same-address " ++ decimal index
region_fault_text (EnterTwice index) = codes "enter-twice " ++ decimal index
region_fault_text (RegisterTwice index register) =
    codes "register-twice " ++ (decimal index ++ (codes " x" ++ decimal register))
region_fault_text (TooMany count) = codes "too-many " ++ decimal count
region_fault_text Memory = codes "out of memory"
