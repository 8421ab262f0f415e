-- The bytes of a page.
use Rattle.std.specs.Prelude.{ℕ}
use Rattle.piece_cells.specs.declared.cells.Cell.{Cell}
use Rattle.region_pieces.specs.Pages.{cells_of}
use Rattle.region_pieces.specs.declared.pages.Page.{Page}

-- what a byte of a page is
abbrev pub page_cell : Page → ℕ → Cell
page_cell page place = cells_of page.tables.items page.values page.masks place
