-- What comes of the command line of a row is what the row says.
use Rattle.std.specs.Prelude.{◌≡◌, ℕ, List}
use Rattle.command_rows.specs.declared.tables.Row.{Row}

pub record IsWanted (row : Row) (text : List ℕ) (status loads : ℕ) (taken : List ℕ) : Type 0 where
  pub status_is : status ≡ row.status
  pub loads_are : loads ≡ row.loads
  pub taken_is : taken ≡ text
