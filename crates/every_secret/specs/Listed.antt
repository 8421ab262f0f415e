-- For which outputs a pattern stands.
use Rattle.std.specs.Prelude.{ℕ, List, [], ◌∷◌, ◌⊎◌}
use Rattle.flow_base.specs.Words.{Agree}
use Rattle.flow_base.specs.declared.outputs.Output.{Output}
use Rattle.every_secret.specs.declared.patterns.Pattern.{Pattern}

-- values agree one by one, each pair outside a mask of its own
pub data AgreeEach : List ℕ → List ℕ → List ℕ → Type 0 where
  NoneLeft : AgreeEach [] [] []
  OneMore : {mask real copy : ℕ} {masks reals copies : List ℕ} → Agree mask real copy →
      AgreeEach masks reals copies → AgreeEach (mask ∷ masks) (real ∷ reals) (copy ∷ copies)

-- an output agrees with a pattern outside its free bits
pub record StandsFor (pattern : Pattern) (output : Output) : Type 0 where
  pub bytes : AgreeEach pattern.byte_masks output.bytes pattern.bytes
  pub status : Agree pattern.status_mask output.status pattern.status

-- one of these patterns stands for it
abbrev pub IsListed : List Pattern → Output → Type 0
IsListed [] output = ⊥
IsListed (pattern ∷ patterns) output = StandsFor pattern output ⊎ IsListed patterns output
