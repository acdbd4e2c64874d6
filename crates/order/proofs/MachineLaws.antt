-- The writes that a machine has yet to make are those from its place on: a step takes the first of them, or there is none. And what steps
-- as the machine does, seen through a view, tells what the machine tells. Both by induction on the events. Assumes nothing.
use mathlib.Core.Path.{◌≡◌, refl, ◌∙◌, ap}
use mathlib.Core.List.{List, [], ◌∷◌}
use Prim.Native.Nat.{◌+◌, ◌≤◌, ◌<◌}
use native.Mathlib.Decide.{dec_lt}
use native.Mathlib.Numerals.{add-one}
use native.Mathlib.Omega.{arith}
use borrow.Author.Tests.{lt-ltb, le-ltb}
use lib.ListN.{length, get_or, drop, drop_of_length-le}
use lib.Seq.{drop-cons}
use Rattle.order.specs.Play.{Event, write, ask, play}
use Rattle.order.specs.Machine.{run, Machine, step}

-- ---- one step
module _ {S W : Type 0} (put : S → W → S) (d : W) (ws : List W) (m : Machine S) where
  pub step_makes : m.place < length ws → step put d ws m ≡ record { state = put m.state (get_or ws m.place d); place = m.place + 1 }
  step_makes h = rw (lt-ltb m.place (length ws) h)

  pub step_past : length ws ≤ m.place → step put d ws m ≡ m
  step_past h = rw (le-ltb m.place (length ws) h)

-- ---- all of them
module _ {S W A R : Type 0} (put : S → W → S) (tell : S → A → R) (d : W) (ws : List W) where
  step_play : (m : Machine S) (es : List (Event A)) → play put tell (step put d ws m).state (drop (step put d ws m).place ws) es ≡ play put tell m.state (drop m.place ws) (write ∷ es)
  step_play m es = by (dec_lt m.place (length ws))
    where
      by : Dec (m.place < length ws) → play put tell (step put d ws m).state (drop (step put d ws m).place ws) es ≡ play put tell m.state (drop m.place ws) (write ∷ es)
      by (yes h) = rw (step_makes put d ws m h, drop-cons ws m.place d h, add-one)
      by (no h) = rw (step_past put d ws m (omega arith), drop_of_length-le ws {i = m.place} (omega arith))

  abbrev told_by : Machine S → List (Event A) → List R
  told_by m es = run (step put d ws) (λ (m : Machine S). tell m.state) m es

  pub run_from : (m : Machine S) (es : List (Event A)) → told_by m es ≡ play put tell m.state (drop m.place ws) es
  run_from m [] = refl
  run_from m (ask a ∷ es) = ap (λ (rs : List R). tell m.state a ∷ rs) (run_from m es)
  run_from m (write ∷ es) = run_from (step put d ws m) es ∙ step_play m es

  pub run_play : (s : S) (es : List (Event A)) → told_by (record { state = s; place = 0 }) es ≡ play put tell s ws es
  run_play s es = run_from (record { state = s; place = 0 }) es

-- ---- any machine that steps alike, seen through a view. `Going` is what that takes, and every move keeps it
module _ {M N A R : Type 0} (move : M → M) (go : N → N) (tell : N → A → R) (view : M → N) (Going : M → Type 0) (keeps : (m : M) → Going m → Going (move m)) (alike : (m : M) → Going m → view (move m) ≡ go (view m)) where
  pub run_view : (m : M) (es : List (Event A)) → Going m → run move (λ (m : M). tell (view m)) m es ≡ run go tell (view m) es
  run_view m [] g = refl
  run_view m (ask a ∷ es) g = ap (λ (rs : List R). tell (view m) a ∷ rs) (run_view m es g)
  run_view m (write ∷ es) g = run_view (move m) es (keeps m g) ∙ ap (λ (n : N). run go tell n es) (alike m g)
