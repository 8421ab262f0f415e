-- A verdict that accepts: each turn up to the exit is fine, and so the secret is accepted.
use Rattle.std.proofs.Common.{◌≡◌, ℕ, zero, suc, ◌+◌, ◌==◌, ◌≤◌, inl, inr, List, length, refl, ap, sym, ◌∙◌}
use Rattle.std.proofs.Common.{Bool, true, false, arith}
use Rattle.std.proofs.lemmas.Bool.Decides.{Decides-eqb}
use Rattle.std.specs.Prelude.{if◌then◌else◌, Option, Some, None}
use Rattle.flow_base.specs.declared.outputs.Output.{Output}
use Rattle.crossing_bits.proofs.Feeding.{le_or_lt}
use Rattle.rv32im_machine.specs.declared.stepping.Stepped.{Stepped}
use Rattle.rv32im_machine.specs.declared.stepping.Stepped.TheVariants.{Ran, Exited, Stopped}
use Rattle.lockstep_replay.specs.declared.verdicts.Why.{Why}
use Rattle.lockstep_replay.specs.Tasks.{Task, Limits, real_start, real_of, enclosed_of, common_of, Cross, replay_of}
use Rattle.lockstep_replay.specs.Acceptance.{HasExited, Follows, Accept}
use Rattle.lockstep_replay.specs.Verdicts.{Judgement, Accepts, Rejects, fed_of, why_after}
use Rattle.lockstep_replay.specs.Verdicts.{judged_mode, judged_after, judged_from}
use Rattle.lockstep_replay.specs.VerdictLaws.{AcceptedLaw}
use Rattle.region_machine.proofs.Stillness.{IsOver}
use Rattle.lockstep_replay.proofs.Stillness.{cross_later}
use Rattle.lockstep_replay.proofs.Bounds.{over_exited, same_follows, greater_limits_law}
use Rattle.lockstep_replay.proofs.Conditions.{Alike, Fine, fine_of, alike_same, same_status}

-- the output of these bytes and this exit status
abbrev pub exit_output : List ℕ → ℕ → Output
exit_output bytes status = record { bytes = bytes; status = status }

-- the run exits in the turn after so many, or in a later one, and no condition fails till then
pub record Found (task : Task) (limits : Limits) (secret : List ℕ) (turns last : ℕ)
    (bits : List Bool) (output : Output) : Type 0 where
  pub at : ℕ
  pub above : turns ≤ at
  pub below : suc at ≤ last
  pub exited : HasExited (real_of task secret (suc at)).state output
  pub exposed : enclosed_of task secret at ≡ false
  pub bits_are : bits ≡ Cross task secret (suc at)
  pub fine : (j : ℕ) → turns ≤ j → j ≤ at → why_after task limits secret j ≡ None

fine_here : (task : Task) (limits : Limits) (secret : List ℕ) (turns j : ℕ) →
    why_after task limits secret turns ≡ None → turns ≤ j → j ≤ turns → why_after task limits secret j ≡ None
fine_here task limits secret turns j n low high =
    let same : j ≡ turns = omega (arith, low, high) in ap (λ i. why_after task limits secret i) same ∙ n

found_sooner :
    (task : Task) (limits : Limits) (secret : List ℕ) (turns last : ℕ) (bits : List Bool) (output : Output) →
    why_after task limits secret turns ≡ None → Found task limits secret (suc turns) last bits output →
    Found task limits secret turns last bits output
found_sooner task limits secret turns last bits output n found = record {
  at = found.at;
  above = omega (arith, found.above);
  below = found.below;
  exited = found.exited;
  exposed = found.exposed;
  bits_are = found.bits_are;
  fine = λ j low high. elim (le_or_lt j turns) [
    | inl here ↦ fine_here task limits secret turns j n low here
    | inr later ↦ found.fine j (omega (arith, later)) high
  ];
}

found_mode :
    (task : Task) (limits : Limits) (secret : List ℕ) (turns last : ℕ) (bits : List Bool) (output : Output)
    (later : Judgement) (mode : Stepped) → (later ≡ Accepts bits output →
    Found task limits secret (suc turns) last bits output) → suc turns ≤ last →
    why_after task limits secret turns ≡ None → enclosed_of task secret turns ≡ false →
    (real_of task secret (suc turns)).state.control.mode ≡ mode →
    judged_mode mode (real_of task secret (suc turns)).state (Cross task secret (suc turns)) later ≡ Accepts bits
    output → Found task limits secret turns last bits output
found_mode task limits secret turns last bits output later Ran go below n o m e = found_sooner task limits secret turns
    last bits output n (go e)
found_mode task limits secret turns last bits output later (Stopped fault) go below n o m e =
    found_sooner task limits secret turns last bits output n (go e)
found_mode task limits secret turns last bits output later (Exited status) go below n o m e =
    let both : Accepts (Cross task secret (suc turns)) (exit_output
    (real_of task secret (suc turns)).state.control.output status) ≡ Accepts bits output = e in
    let same : exit_output (real_of task secret (suc turns)).state.control.output status ≡ output = cc in
    let crosses : bits ≡ Cross task secret (suc turns) = cc in record {
      at = turns;
      above = omega arith;
      below = below;
      exited = record {
        bytes = ap (λ (o : Output). o.bytes) same;
        status = m ∙ ap (λ (o : Output). Exited o.status) same;
      };
      exposed = o;
      bits_are = crosses;
      fine = λ j low high. fine_here task limits secret turns j n low high;
    }

found_exposed :
    (task : Task) (limits : Limits) (secret : List ℕ) (turns last : ℕ) (bits : List Bool) (output : Output)
    (later : Judgement) (enclosed : Bool) → (later ≡ Accepts bits output →
    Found task limits secret (suc turns) last bits output) → suc turns ≤ last →
    why_after task limits secret turns ≡ None → enclosed_of task secret turns ≡ enclosed →
    judged_after None enclosed (real_of task secret (suc turns)).state (Cross task secret (suc turns)) later ≡ Accepts
    bits output → Found task limits secret turns last bits output
found_exposed task limits secret turns last bits output later true go below n o e =
    found_sooner task limits secret turns last bits output n (go e)
found_exposed task limits secret turns last bits output later false go below n o e =
    found_mode task limits secret turns last bits output later (real_of task secret (suc turns)).state.control.mode go
    below n o refl e

found_why :
    (task : Task) (limits : Limits) (secret : List ℕ) (turns last : ℕ) (bits : List Bool) (output : Output)
    (later : Judgement) (why : Option Why) → (later ≡ Accepts bits output →
    Found task limits secret (suc turns) last bits output) → suc turns ≤ last →
    why_after task limits secret turns ≡ why → judged_after why (enclosed_of task secret turns)
    (real_of task secret (suc turns)).state (Cross task secret (suc turns)) later ≡ Accepts bits output →
    Found task limits secret turns last bits output
found_why task limits secret turns last bits output later (Some why) go below n e = absurd (cc)
found_why task limits secret turns last bits output later None go below n e =
    found_exposed task limits secret turns last bits output later (enclosed_of task secret turns) go below n refl e

found :
    (task : Task) (limits : Limits) (secret : List ℕ) (left turns last : ℕ) (bits : List Bool) (output : Output) →
    turns + left ≡ last → judged_from task limits secret left turns ≡ Accepts bits output →
    Found task limits secret turns last bits output
unfolding judged_from
found task limits secret zero turns last bits output s e = absurd (cc)
found task limits secret (suc left) turns last bits output s e =
    let sum : suc turns + left ≡ last = omega (arith, s) in
    let below : suc turns ≤ last = omega (arith, s) in
    found_why task limits secret turns last bits output (judged_from task limits secret left (suc turns))
    (why_after task limits secret turns) (λ later. found task limits secret left (suc turns) last bits output sum later)
    below refl e

-- ---- from there to acceptance

-- no condition fails in the turn after so many turns
abbrev pub FineAt : Task → Limits → List ℕ → ℕ → Type 0
FineAt task limits secret turns =
    Fine limits.budget (enclosed_of task secret turns) (real_of task secret (suc turns)) (Cross task secret (suc turns))
    (fed_of task secret (suc turns))

pub fine_at :
    (task : Task) (limits : Limits) (secret : List ℕ) (j : ℕ) → why_after task limits secret j ≡ None →
    FineAt task limits secret j
fine_at task limits secret j n =
    fine_of limits.budget (enclosed_of task secret j) (real_of task secret (suc j)) (Cross task secret (suc j))
    (replay_of task (common_of task secret (suc j))) n

-- then the replay follows in that turn
pub follows_fine :
    (task : Task) (limits : Limits) (secret : List ℕ) (j : ℕ) → FineAt task limits secret j →
    enclosed_of task secret j ≡ false → Follows task secret (suc j)
follows_fine task limits secret j fine exposed = record {
  place = (fine.beside exposed).place;
  uses = (fine.beside exposed).uses;
  inside = (fine.beside exposed).inside;
  mark = record {
    address = (fine.beside exposed).address;
    written = ap (λ bytes. length bytes) (fine.beside exposed).output;
    ended =
        alike_same (real_of task secret (suc j)).state.control.mode (fine.beside exposed).place.state.control.mode
        (fine.beside exposed).mode;
  };
}

-- in this place
pub place_fine :
    (task : Task) (limits : Limits) (secret : List ℕ) (j : ℕ) (fine : FineAt task limits secret j) →
    (exposed : enclosed_of task secret j ≡ false) → (follows : Follows task secret (suc j)) →
    (fine.beside exposed).place ≡ follows.place
unfolding follows_fine
place_fine task limits secret j fine exposed follows =
    same_follows task secret (suc j) (follows_fine task limits secret j fine exposed) follows

-- and where the real run exits in that turn the replay does
exits_fine :
    (task : Task) (limits : Limits) (secret : List ℕ) (j : ℕ) (output : Output) →
    (fine : FineAt task limits secret j) → (exposed : enclosed_of task secret j ≡ false) →
    HasExited (real_of task secret (suc j)).state output →
    HasExited (follows_fine task limits secret j fine exposed).place.state output
unfolding follows_fine
exits_fine task limits secret j output fine exposed exited =
    let alike : Alike (real_of task secret (suc j)).state (fed_of task secret (suc j)) = fine.beside exposed in record {
      bytes = sym alike.output ∙ exited.bytes;
      status =
          same_status (real_of task secret (suc j)).state.control.mode alike.place.state.control.mode output.status
          alike.mode exited.status;
    }

-- the limits up to a turn
abbrev pub up_to : Limits → ℕ → Limits
up_to limits turns = record { budget = limits.budget; turns = turns }

accept_found :
    (task : Task) (limits : Limits) (secret : List ℕ) (last : ℕ) (bits : List Bool) (output : Output) →
    length secret ≡ task.secret_length → (found : Found task limits secret zero last bits output) →
    Accept task (up_to limits (suc found.at)) secret output
accept_found task limits secret last bits output same found =
    let here : found.at ≤ found.at = omega arith in
    let fine : FineAt task limits secret found.at =
    fine_at task limits secret found.at (found.fine found.at found.above here) in record {
      has_length = same;
      unbroken = fine.unbroken;
      exits = found.exited;
      within = fine.within;
      follows = λ j below exposed.
          follows_fine task limits secret j (fine_at task limits secret j (found.fine j (omega arith) (omega (
            arith,
            below,
          )))) exposed;
      last = follows_fine task limits secret found.at fine found.exposed;
      replay_exits = exits_fine task limits secret found.at output fine found.exposed found.exited;
    }

pub accepts_if :
    (test : Bool) (judgement : Judgement) (why : Why) (bits : List Bool) (output : Output) →
    (if test then judgement else Rejects why) ≡ Accepts bits output → (test ≡ true) × (judgement ≡ Accepts bits output)
accepts_if true judgement why bits output e = (refl, e)
accepts_if false judgement why bits output e = absurd (cc)

pub accepted_law : AcceptedLaw
accepted_law task limits secret bits output e =
    let judged : (length secret == task.secret_length ≡ true)
    × (judged_from task limits secret limits.turns zero ≡ Accepts bits output) =
    accepts_if (length secret == task.secret_length) (judged_from task limits secret limits.turns zero) _ bits output
    e in
    let sum : zero + limits.turns ≡ limits.turns = omega arith in
    let the : Found task limits secret zero limits.turns bits output =
    found task limits secret limits.turns zero limits.turns bits output sum judged.1 in
    let over : IsOver (real_of task secret (suc the.at)).state.control.mode =
    over_exited (real_of task secret (suc the.at)).state.control.mode output.status the.exited.status in
    let budget : limits.budget ≤ limits.budget = omega arith in (
      greater_limits_law task (up_to limits (suc the.at)) limits secret output budget the.below
          (accept_found task limits secret limits.turns bits output
          ((Decides-eqb (length secret) task.secret_length).0 judged.0) the),
      the.bits_are ∙ sym (cross_later task.enclosures task.masks (real_start task secret) (suc the.at) limits.turns
          the.below over),
    )
