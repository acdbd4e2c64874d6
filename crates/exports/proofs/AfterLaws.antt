-- The table after one more request and after any number more, and the switch after one more. By their definitions. Assumes nothing.
use mathlib.Core.Path.{◌≡◌, refl, ◌∙◌, ap}
use mathlib.Core.List.{List}
use Prim.Native.Nat.{ℕ, zero, suc, ◌+◌}
use native.Mathlib.Numerals.{add-one}
use native.Mathlib.Omega.{arith}
use Rattle.std.specs.List.{fold, range_with_len}
use Rattle.device.specs.declared.Mpu.{Mpu}
use Rattle.table.specs.declared.Table.{Table}
use Rattle.table.specs.Numbers.{slots}
use Rattle.table.specs.Table.{empty_table}
use Rattle.table.specs.Builder.{try_add}
use Rattle.switch.specs.Switch.{no_log, fresh}
use Rattle.exports.specs.Words.{part_at, request_at}
use Rattle.exports.specs.Many.{table_after, added_at, switch_after, switched_at}

pub table_none : (ws : List ℕ) → empty_table slots ≡ table_after ws 0
unfolding table_after
table_none ws = refl

pub table_next : (ws : List ℕ) (i : ℕ) → (added_at ws i).table ≡ table_after ws (i + 1)
unfolding table_after
table_next ws i = rw (add-one i)

-- the builder's answers to n requests from i on, one after the other
pub table_fold : (ws : List ℕ) (i n : ℕ) → fold (λ t k. (try_add slots t (part_at ws k) (request_at ws k)).table) (table_after ws i) (range_with_len i n) ≡ table_after ws (i + n)
table_fold ws i zero =
    let end : i ≡ i + zero = omega arith in
    ap (table_after ws) end
table_fold ws i (suc n) =
    let end : i + 1 + n ≡ i + suc n = omega arith in
    ap (λ u. fold (λ t k. (try_add slots t (part_at ws k) (request_at ws k)).table) u (range_with_len (i + 1) n)) (table_next ws i) ∙ table_fold ws (i + 1) n ∙ ap (table_after ws) end

module _ (t : Table) (m : Mpu) (ps : List ℕ) where
  pub switch_none : fresh slots m (no_log slots) ≡ switch_after t m ps 0
  unfolding switch_after
  switch_none = refl

  pub switch_next : (i : ℕ) → (switched_at t m ps i).switch ≡ switch_after t m ps (i + 1)
  unfolding switch_after
  switch_next i = rw (add-one i)
