-- The mask rules of a table that a command names are what its book answers, and they are sound.
use Rattle.std.proofs.Common.{◌≡◌, ◌≤◌, ℕ, zero, suc, refl, arith}
use Rattle.every_secret.specs.declared.public_inputs.PublicInput.{PublicInput}
use Rattle.every_secret.specs.Rules.{AnswerAs, AreSoundRules, TablesAreSound, TablesHaveRules}
use Rattle.task_answers.specs.Bounding.{rules_by}

pub record AreRules (table : ℕ) (public : PublicInput) : Type 0 where
  pub answers : AnswerAs table (rules_by table public)
  pub sound : AreSoundRules (rules_by table public)
  pub known : (rules_by table public).public ≡ public

pub table_rules : TablesHaveRules → TablesAreSound → (table : ℕ) (public : PublicInput) → 1 ≤ table → table ≤ 3 →
    AreRules table public
table_rules have sound zero public first last = absurd (omega (arith, first))
table_rules have sound (suc zero) public first last =
    record { answers = (have public).0; sound = (sound public).0; known = refl }
table_rules have sound (suc (suc zero)) public first last =
    record { answers = (have public).1; sound = (sound public).1; known = refl }
table_rules have sound (suc (suc (suc zero))) public first last =
    record { answers = (have public).2; sound = (sound public).2; known = refl }
table_rules have sound (suc (suc (suc (suc more)))) public first last = absurd (omega (arith, last))
