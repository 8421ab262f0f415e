-- The entry of a region: it looks at the base registers and keeps every register, in the real run and in the replay.
use Rattle.std.proofs.Common.{◌≡◌, ℕ, ◌+◌, ◌%◌, ◌^◌, List, [], ◌∷◌, Option, Some, None}
use Rattle.std.proofs.Common.{refl, ap, ap₂, ◌∙◌}
use Rattle.std.specs.Prelude.{not, cond}
use Rattle.std.specs.List.{AllByRecursion, position_from}
use Rattle.flow_base.specs.Guests.{is_inside}
use Rattle.flow_base.specs.declared.points.Point.{Point}
use Rattle.crossing_bits.specs.Askers.{Over}
use Rattle.enclosure_regions.specs.declared.region_parts.Range.{Range}
use Rattle.enclosure_regions.specs.declared.region_parts.Region.{Region}
use Rattle.enclosure_regions.specs.Breaks.{outside_range}
use Rattle.enclosure_regions.specs.Turns.{base_value, start_of}
use Rattle.rv32im_machine.specs.declared.language.Seen.{Seen}
use Rattle.rv32im_machine.specs.declared.language.Seen.TheVariants.{Base}
use Rattle.rv32im_machine.specs.State.{Setting, Control, Store, entered, saved}
use Rattle.rv32im_machine.specs.Language.{Turn, Saves, Ends, Walk, Looked, walked, Held}
use Rattle.rv32im_machine.specs.Folds.{real_end}
use Rattle.region_machine.specs.Guests.{looks_at, looks, entry}
use Rattle.region_machine.specs.Runs.{passed}
use Rattle.replay_machine.specs.Runs.{Masks, replayed}
use Rattle.lockstep_replay.specs.Crossing.{crossing}
use Rattle.shadow_masks.specs.Writes.{after, Save}
use Rattle.run_labels.specs.TurnLabels.{TurnLabels}
use Rattle.run_labels.specs.Traces.{traced, labels_in, events_in, secret_look}
use Rattle.acceptance_law.specs.Sides.{NamedSide}
use Rattle.acceptance_law.proofs.WritesKeepRelation.{Beside}
use Rattle.acceptance_law.proofs.Turns.{first_none, look_equal}

-- the ranges start at the same addresses
abbrev pub SameStarts : List Range → List ℕ → List ℕ → Type 0
SameStarts ranges registers others =
    AllByRecursion (λ range. start_of registers range ≡ start_of others range) ranges

module _ (setting : Setting) (secret : List ℕ) (store : Store) (held : Held) where
  -- what does not see looks, sees no looks at base registers
  pub looks_same : {A : Type 0} (F : Walk → A) → ((seen : Seen) (value : ℕ) (walk : Walk) → F
      (Looked seen value walk) ≡ F walk) →
      (ranges : List Range) (turn : Turn) →
      F (walked setting secret (looks ranges turn) store held) ≡ F (walked setting secret turn store held)
  unfolding looks walked
  looks_same F blind [] turn = refl
  looks_same F blind (range ∷ ranges) turn =
      one range.base (looks ranges turn) ∙ looks_same F blind ranges turn
    where
      one : (base : Option ℕ) (rest : Turn) →
          F (walked setting secret (looks_at base rest) store held) ≡ F (walked setting secret rest store held)
      one None rest = refl
      one (Some register) rest = blind (Base register) _ _

-- without a refusal the base registers are equal
pub same_starts : (side : NamedSide) (setting : Setting) (secret : List ℕ) (number : ℕ) (labels : TurnLabels)
    (answers : List ℕ) (real : Store) (held : Held) (copy : Store) (taken : Held) →
    Beside side setting.base labels real held copy taken → (ranges : List Range) (turn : Turn) →
    secret_look number labels answers (walked setting secret (looks ranges turn) real held) ≡ None →
    SameStarts ranges real.registers copy.registers
unfolding looks walked traced
same_starts side setting secret number labels answers real held copy taken beside [] turn e = tt
same_starts side setting secret number labels answers real held copy taken beside (range ∷ ranges) turn e =
    let parts = one range.base (looks ranges turn) e in (
      ap (λ b. (b + range.offset) % 2 ^ 32) parts.0,
      same_starts side setting secret number labels answers real held copy taken beside ranges turn parts.1,
    )
  where
    one : (base : Option ℕ) (rest : Turn) →
        secret_look number labels answers (walked setting secret (looks_at base rest) real held) ≡ None →
        (base_value real.registers base ≡ base_value copy.registers base)
        × (secret_look number labels answers (walked setting secret rest real held) ≡ None)
    one None rest none = (refl, none)
    one (Some register) rest none =
        let both = first_none _ _ none in
        (look_equal side setting.base number labels real held copy taken beside (Base register) tt both.0, both.1)

-- ---- the entry as it is folded

module _ (setting : Setting) (secret : List ℕ) (store : Store) (held : Held) (region : Region) (control : Control) where
  abbrev pub saving : Turn
  saving = Saves (Ends (entered region.id control))

  pub entry_end : real_end (walked setting secret (entry region control) store held)
      ≡ record { setting = setting; secret = secret; control = entered region.id control; store = saved store }
  unfolding real_end walked
  entry_end = looks_same setting secret store held (λ w. real_end w) blind region.ranges saving ∙ ending
    where
      blind : (seen : Seen) (value : ℕ) (walk : Walk) → real_end (Looked seen value walk) ≡ real_end walk
      blind seen value walk = refl

      ending : real_end (walked setting secret saving store held)
          ≡ record { setting = setting; secret = secret; control = entered region.id control; store = saved store }
      ending = refl

  pub entry_passed : (past : List Point) → passed past (walked setting secret (entry region control) store held) ≡ past
  unfolding passed walked
  entry_passed past = looks_same setting secret store held (λ w. passed past w) blind region.ranges saving ∙ ending
    where
      blind : (seen : Seen) (value : ℕ) (walk : Walk) → passed past (Looked seen value walk) ≡ passed past walk
      blind seen value walk = refl

      ending : passed past (walked setting secret saving store held) ≡ past
      ending = refl

  pub entry_crossing : (masks : Masks) (past : List Point) →
      crossing masks past (walked setting secret (entry region control) store held) ≡ []
  unfolding crossing walked
  entry_crossing masks past =
      looks_same setting secret store held (λ w. crossing masks past w) blind region.ranges saving ∙ ending
    where
      blind : (seen : Seen) (value : ℕ) (walk : Walk) →
          crossing masks past (Looked seen value walk) ≡ crossing masks past walk
      blind seen value walk = refl

      ending : crossing masks past (walked setting secret saving store held) ≡ []
      ending = refl

  pub entry_replayed : (masks : Masks) (past : List Point) →
      replayed masks past (walked setting secret (entry region control) store held)
      ≡ Over (record {
        state = record {
          setting = setting;
          secret = secret;
          control = entered region.id control;
          store = saved store;
        };
        past = past;
        outside = None;
      })
  unfolding replayed walked
  entry_replayed masks past =
      looks_same setting secret store held (λ w. replayed masks past w) blind region.ranges saving ∙ ending
    where
      blind : (seen : Seen) (value : ℕ) (walk : Walk) →
          replayed masks past (Looked seen value walk) ≡ replayed masks past walk
      blind seen value walk = refl

      ending : replayed masks past (walked setting secret saving store held)
          ≡ Over (record {
            state = record {
              setting = setting;
              secret = secret;
              control = entered region.id control;
              store = saved store;
            };
            past = past;
            outside = None;
          })
      ending = refl

  pub entry_labels : (labels : TurnLabels) (answers : List ℕ) →
      labels_in labels answers (walked setting secret (entry region control) store held) ≡ after Save labels.map
  unfolding traced walked
  entry_labels labels answers =
      looks_same setting secret store held (λ w. labels_in labels answers w) blind region.ranges saving ∙ ending
    where
      blind : (seen : Seen) (value : ℕ) (walk : Walk) →
          labels_in labels answers (Looked seen value walk) ≡ labels_in labels answers walk
      blind seen value walk = refl

      ending : labels_in labels answers (walked setting secret saving store held) ≡ after Save labels.map
      ending = refl

  pub entry_events : (labels : TurnLabels) (answers : List ℕ) →
      events_in labels answers (walked setting secret (entry region control) store held) ≡ []
  unfolding traced walked
  entry_events labels answers =
      looks_same setting secret store held (λ w. events_in labels answers w) blind region.ranges saving ∙ ending
    where
      blind : (seen : Seen) (value : ℕ) (walk : Walk) →
          events_in labels answers (Looked seen value walk) ≡ events_in labels answers walk
      blind seen value walk = refl

      ending : events_in labels answers (walked setting secret saving store held) ≡ []
      ending = refl

-- ---- ranges that start alike

pub outside_same : (region : Region) (registers others : List ℕ) (base : ℕ) →
    SameStarts region.ranges registers others → outside_range region registers base ≡ outside_range region others base
outside_same region registers others base same = go 0 region.ranges same
  where
    go : (place : ℕ) (ranges : List Range) → SameStarts ranges registers others →
        position_from (λ range. not (is_inside base (start_of registers range) range.length)) place ranges
        ≡ position_from (λ range. not (is_inside base (start_of others range) range.length)) place ranges
    go place [] h = refl
    go place (range ∷ ranges) h =
        ap₂ (λ start rest. cond (not (is_inside base start range.length)) (Some place) rest) h.0
        (go (place + 1) ranges h.1)
