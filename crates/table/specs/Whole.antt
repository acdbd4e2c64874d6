-- A table that holds all of its places, as every table of the code does: Whole n t == each of the four arrays has 4 x n places.
use Rattle.std.specs.Prelude.{◌≡◌, ℕ, ◌*◌, length}
use Rattle.table.specs.declared.Table.{Table}
use Rattle.table.specs.Numbers.{parts}

pub record Whole (n : ℕ) (t : Table) : Type 0 where
  pub base : length t.base ≡ parts * n
  pub size : length t.size ≡ parts * n
  pub enabled : length t.enabled ≡ parts * n
  pub writable : length t.writable ≡ parts * n
