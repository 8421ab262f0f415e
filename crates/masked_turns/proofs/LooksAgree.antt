-- What is looked at without a refusal is equal in two runs that agree outside the masks.
use Rattle.std.proofs.Common.{◌≡◌, ℕ, Option, Some, None, refl}
use Rattle.rv32im_machine.specs.declared.language.Place.TheVariants.{Register}
use Rattle.rv32im_machine.specs.declared.language.Seen.{Seen}
use Rattle.rv32im_machine.specs.declared.language.Seen.TheVariants.{Word, Base}
use Rattle.rv32im_machine.specs.State.{Store}
use Rattle.rv32im_machine.specs.Language.{Held, seen_value}
use Rattle.run_labels.specs.TurnLabels.{TurnLabels}
use Rattle.acceptance_law.specs.Inputs.{IsLook}
use Rattle.acceptance_law.specs.Sides.{NamedSide}
use Rattle.acceptance_law.proofs.Turns.{base_clean, word_clean, word_equal}
use Rattle.acceptance_law.proofs.WritesKeepRelation.{Beside, close_equal}
use Rattle.masked_turns.specs.declared.uses.SecretLook.{SecretLook}
use Rattle.masked_turns.specs.declared.uses.SecretLook.TheVariants.{Code, BaseRegister}
use Rattle.masked_turns.specs.Looking.{first_look, look_at}

pub look_none : (first later : Option SecretLook) → first_look first later ≡ None → (first ≡ None) × (later ≡ None)
look_none None later e = (refl, e)
look_none (Some look) later e = absurd (cc)

pub look_same : (side : NamedSide) (base number : ℕ) (labels : TurnLabels) (real : Store) (held : Held) (copy : Store)
    (taken : Held) → Beside side base labels real held copy taken → (seen : Seen) → IsLook base seen →
    look_at number labels seen ≡ None → seen_value base real seen ≡ seen_value base copy seen
look_same side base number labels real held copy taken beside (Word address) from e =
    word_equal side base labels real held copy taken beside address from (word_clean (Code address) _ _ _ _ e)
look_same side base number labels real held copy taken beside (Base register) from e =
    close_equal side (labels.map.registers register) _ _ (base_clean (BaseRegister number register) _ e)
    (beside.places (Register register) tt)
