-- Where no register or operand may differ and no bit crosses, nothing comes of a visit that passes nothing else.
use Rattle.std.proofs.Common.{◌≡◌, ℕ, Bool, List, arith, refl, ap}
use Rattle.std.specs.Prelude.{Option}
use Rattle.cut_file.specs.declared.points.CutPoint.{CutPoint}
use Rattle.rv32im_machine.specs.declared.language.Aim.{Aim}
use Rattle.rv32im_machine.specs.declared.language.Aim.TheVariants.{Put, Decide, Give}
use Rattle.rv32im_machine.specs.declared.language.Passing.{Passing}
use Rattle.rv32im_machine.specs.declared.language.Place.{Place}
use Rattle.rv32im_machine.specs.declared.language.Place.TheVariants.{Register, Byte, First, Second}
use Rattle.rv32im_machine.specs.declared.language.Source.{Source}
use Rattle.rv32im_machine.specs.declared.language.Source.TheVariants.{At, Constant, Secret}
use Rattle.rv32im_machine.specs.declared.language.Sources.{Sources}
use Rattle.rv32im_machine.specs.declared.language.Sources.TheVariants.{One, Two, Byte as BytesOne, Half as BytesTwo, Word as BytesFour}
use Rattle.shadow_masks.specs.declared.labels.Label.{Label}
use Rattle.shadow_masks.specs.Labels.{clean}
use Rattle.run_labels.specs.Masks.{masks_of, source_mask}
use Rattle.run_labels.specs.TurnLabels.{TurnLabels, aim_label}
use Rattle.every_secret.specs.declared.whys.UnclearWhy.{UnclearWhy}
use Rattle.every_secret.specs.Private.Idle.{AreZero, IsIdle, IsSettled, IsSettledAim}
use Rattle.every_secret.specs.Private.Resting.{AreInner, IsInner, IsInnerAim, IsInnerSource, PassesInside, Rests, RestsAt}
use Rattle.every_secret.proofs.IdleVisits.{register_stays}

-- no address is told
pub no_rest : (skipped : Bool) (ahead : List CutPoint) (labels : TurnLabels) (unclear : Option UnclearWhy) →
    Rests 4294967296 skipped ahead labels unclear
no_rest skipped ahead labels unclear = λ small. absurd (omega (arith, small))

inner_settled : (labels : TurnLabels) (place : Place) → ((register : ℕ) → labels.map.registers register ≡ clean) →
    IsInner place → IsSettled labels place
inner_settled labels (Register register) registers inner = registers register
inner_settled labels (Byte address) registers inner = absurd inner
inner_settled labels First registers inner = tt
inner_settled labels Second registers inner = tt

inner_aim : (skipped : Bool) (labels : TurnLabels) (aim : Aim) →
    ((register : ℕ) → labels.map.registers register ≡ clean) → IsInnerAim aim → IsSettledAim skipped labels aim
inner_aim skipped labels (Put place) registers inner = inner_settled labels place registers inner
inner_aim skipped labels Decide registers inner = tt
inner_aim skipped labels (Give place) registers inner = absurd inner

zero_of : (label : Label) → label ≡ clean → label.mask ≡ 0
zero_of label is = ap (λ (l : Label). l.mask) is

module _ (address : ℕ) (skipped : Bool) (ahead : List CutPoint) (labels : TurnLabels) (unclear : Option UnclearWhy)
    (rests : RestsAt address skipped ahead labels unclear) where
  source_zero : (source : Source) → IsInnerSource source → source_mask labels source ≡ 0
  source_zero (At (Register register)) inner = zero_of (labels.map.registers register) (rests.registers register)
  source_zero (At (Byte place)) inner = absurd inner
  source_zero (At First) inner = zero_of labels.first rests.first
  source_zero (At Second) inner = zero_of labels.second rests.second
  source_zero (Constant value) inner = refl
  source_zero (Secret index) inner = absurd inner

  sources_zero : (sources : Sources) → AreInner sources → AreZero (masks_of labels sources)
  sources_zero (One source) inner = (source_zero source inner, tt)
  sources_zero (Two first second) inner = (source_zero first inner.0, (source_zero second inner.1, tt))
  sources_zero (BytesOne place) inner = absurd inner
  sources_zero (BytesTwo place) inner = absurd inner
  sources_zero (BytesFour place) inner = absurd inner

  pub resting_same : (aim : Aim) → IsInnerAim aim → labels ≡ aim_label aim clean labels
  resting_same (Put (Register register)) inner = register_stays labels register (rests.registers register)
  resting_same (Put (Byte place)) inner = absurd inner
  resting_same (Put First) inner =
      let first = rests.first in
      λ i. record { map = labels.map; first = first i; second = labels.second }
  resting_same (Put Second) inner =
      let second = rests.second in
      λ i. record { map = labels.map; first = labels.first; second = second i }
  resting_same Decide inner = refl
  resting_same (Give place) inner = absurd inner

  pub resting_idle : (rest : ℕ) (passing : Passing) → passing.point.address ≡ address →
      PassesInside rest passing → IsIdle ahead skipped labels passing
  resting_idle rest passing at inside = record {
    unseen = inside.unseen;
    aim = inner_aim skipped labels passing.aim rests.registers inside.aim;
    unmarked = λ visit. rests.unmarked passing.point visit at;
    sources = sources_zero passing.sources inside.sources;
  }
