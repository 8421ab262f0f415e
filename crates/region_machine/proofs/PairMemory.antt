-- What lies in the memory that a pair of observers keeps something of lies in that of each.
use Rattle.std.proofs.Common.{ℕ, Option, Some, None, refl, subst}
use Rattle.std.specs.Prelude.{IsTrue}
use Rattle.flow_base.specs.Guests.{is_inside}
use Rattle.rv32im_machine.specs.declared.language.Place.{Place}
use Rattle.rv32im_machine.specs.declared.language.Place.TheVariants.{Register, Byte, First, Second}
use Rattle.rv32im_machine.specs.declared.language.Aim.{Aim}
use Rattle.rv32im_machine.specs.declared.language.Aim.TheVariants.{Put, Decide, Give}
use Rattle.rv32im_machine.specs.declared.language.Source.{Source}
use Rattle.rv32im_machine.specs.declared.language.Source.TheVariants.{At, Constant, Secret}
use Rattle.rv32im_machine.specs.declared.language.Sources.{Sources}
use Rattle.rv32im_machine.specs.declared.language.Sources.TheVariants.{One, Two, Byte as BytesOne, Half as BytesTwo, Word as BytesFour}
use Rattle.rv32im_machine.specs.declared.language.Seen.{Seen}
use Rattle.rv32im_machine.specs.declared.language.Seen.TheVariants.{Word, Base}
use Rattle.rv32im_machine.specs.Playing.{InMemory, IsPlace, IsAim, IsSource, AreSources, IsSeen}
use Rattle.region_machine.specs.Pairs.{AgreeOn, either_memory}

-- what lies in one memory lies in another
abbrev pub LiesIn : Option ℕ → Option ℕ → Type 0
LiesIn one other = (address count : ℕ) → InMemory one address count → InMemory other address count

pub in_first : (one other : Option ℕ) → LiesIn (either_memory one other) one
in_first None other address count h = tt
in_first (Some base) other address count h = h

pub in_second : (one other : Option ℕ) → AgreeOn one other → LiesIn (either_memory one other) other
in_second None other agree address count h = h
in_second (Some base) None agree address count h = tt
in_second (Some base) (Some next) agree address count h =
    subst (λ b. IsTrue (is_inside b address count)) (agree base next refl refl) h

pub place_in : (one other : Option ℕ) → LiesIn one other → (place : Place) → IsPlace one place → IsPlace other place
place_in one other lies (Register register) h = h
place_in one other lies (Byte address) h = (h.0, lies address 1 h.1)
place_in one other lies First h = tt
place_in one other lies Second h = tt

pub aim_in : (one other : Option ℕ) → LiesIn one other → (aim : Aim) → IsAim one aim → IsAim other aim
aim_in one other lies (Put place) h = place_in one other lies place h
aim_in one other lies Decide h = tt
aim_in one other lies (Give place) h = place_in one other lies place h

pub source_in : (one other : Option ℕ) → LiesIn one other → (source : Source) → IsSource one source →
    IsSource other source
source_in one other lies (At place) h = place_in one other lies place h
source_in one other lies (Constant value) h = tt
source_in one other lies (Secret index) h = tt

pub sources_in : (one other : Option ℕ) → LiesIn one other → (sources : Sources) → AreSources one sources →
    AreSources other sources
sources_in one other lies (One source) h = source_in one other lies source h
sources_in one other lies (Two first second) h =
    (source_in one other lies first h.0, source_in one other lies second h.1)
sources_in one other lies (BytesOne address) h = (h.0, lies address 1 h.1)
sources_in one other lies (BytesTwo address) h = (h.0, lies address 2 h.1)
sources_in one other lies (BytesFour address) h = (h.0, lies address 4 h.1)

pub seen_in : (one other : Option ℕ) → LiesIn one other → (seen : Seen) → IsSeen one seen → IsSeen other seen
seen_in one other lies (Word address) h = (h.0, lies address 4 h.1)
seen_in one other lies (Base register) h = h
