-- The same, step by step, as a program makes it: a machine that holds a state and a place in a fixed list of writes.
--   run step tell m es == the answers, in order, to the accesses of es, where a write event is one step, for any machine m
--   Machine S          == a state, and the place of the next write
--   step put d ws m    == makes exactly the write at m's place, and the place is one more; past the last of ws, m (d stands for no write)
use Rattle.std.specs.Prelude.{List, [], ◌∷◌, ℕ, ◌+◌, ltb, length, get_or}
use Rattle.laws.specs.Pick.{pick}
use Rattle.order.specs.Play.{Event, write, ask}

module _ {M A R : Type 0} (step : M → M) (tell : M → A → R) where
  abbrev pub run : M → List (Event A) → List R
  run m [] = []
  run m (ask a ∷ es) = tell m a ∷ run m es
  run m (write ∷ es) = run (step m) es

pub record Machine (S : Type 0) : Type 0 where
  pub state : S
  pub place : ℕ

abbrev pub step : {S W : Type 0} → (S → W → S) → W → List W → Machine S → Machine S
step put d ws m =
    pick (ltb m.place (length ws)) (record { state = put m.state (get_or ws m.place d); place = m.place + 1 }) m
