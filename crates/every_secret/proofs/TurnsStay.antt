-- No turn changes the setting or the secret: at each end of a turn they are those before it.
use Rattle.std.proofs.Common.{◌≡◌, ℕ, List, [], ◌∷◌, refl}
use Rattle.rv32im_machine.specs.State.{State, Setting, Store, restored, saved}
use Rattle.rv32im_machine.specs.Language.{Turn, Looks, Passes, Decides, Gives, Moves, Saves, Restores, Ends}
use Rattle.rv32im_machine.specs.Language.{Held, none_held, walked, shaped, value_of, put, hold, seen_value, turn_walk}
use Rattle.rv32im_machine.specs.Rows.{turn_in}
use Rattle.region_machine.specs.Enclosures.{Enclosures, Kind, Enters, Leaves, Steps, is_skipped}
use Rattle.region_machine.specs.Guests.{entry, leave, skip}
use Rattle.region_machine.proofs.CarriedToEnds.{AtEnds}
use Rattle.region_machine.proofs.OutputGrows.{either_walk}
use Rattle.replay_machine.specs.ReplayTurns.{replay_kind_walk}

-- the state has this setting and this secret
abbrev pub HasBoth : Setting → List ℕ → State → Type 0
HasBoth setting secret state = (state.setting ≡ setting) × (state.secret ≡ secret)

pub walked_stays : (setting : Setting) (secret : List ℕ) (turn : Turn) (store : Store) (held : Held) →
    AtEnds (HasBoth setting secret) (walked setting secret turn store held)
unfolding walked
walked_stays setting secret (Looks seen go) store held =
    walked_stays setting secret (go (seen_value setting.base store seen)) store held
walked_stays setting secret (Passes point place making sources turn) store held =
    λ value. walked_stays setting secret turn (put setting.base place value store) (hold place value held)
walked_stays setting secret (Decides point making sources go) store held =
    λ value. walked_stays setting secret (go value) store held
walked_stays setting secret (Gives point place turn) store held =
    λ value. walked_stays setting secret turn (put setting.base place value store) (hold place value held)
walked_stays setting secret (Moves place shape source turn) store held =
    walked_stays setting secret turn
    (put setting.base place (shaped shape (value_of setting secret store held source ∷ [])) store)
    (hold place (shaped shape (value_of setting secret store held source ∷ [])) held)
walked_stays setting secret (Saves turn) store held = walked_stays setting secret turn (saved store) held
walked_stays setting secret (Restores registers turn) store held =
    (walked_stays setting secret turn store held, walked_stays setting secret turn (restored registers store) held)
walked_stays setting secret (Ends control) store held = (refl, refl)

turn_stays : (state : State) (turn : Turn) → AtEnds (HasBoth state.setting state.secret) (turn_walk state turn)
turn_stays state turn = walked_stays state.setting state.secret turn state.store none_held

-- a turn of a replay
pub replay_kind_stays : (enclosures : Enclosures) (kind : Kind) (state : State) →
    AtEnds (HasBoth state.setting state.secret) (replay_kind_walk enclosures kind state)
replay_kind_stays enclosures (Enters region) state =
    either_walk (HasBoth state.setting state.secret) (is_skipped enclosures region) _ _
    (turn_stays state (skip region state.store.registers state.control))
    (turn_stays state (entry region state.control))
replay_kind_stays enclosures (Leaves region) state =
    turn_stays state (leave region state.store.kept state.control)
replay_kind_stays enclosures (Steps region) state =
    turn_stays state (turn_in state.control.mode state.setting state.control)
