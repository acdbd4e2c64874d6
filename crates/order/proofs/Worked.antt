-- A device of two registers and a switch, by computation: a number is permitted where a register holds it. The law holds of it, with the answers
-- listed; and without the writes that turn it off and on, a mixed map answers, which is none of the three. Assumes nothing.
use mathlib.Core.Path.{◌≡◌, refl, ap}
use mathlib.Core.Bool.{Bool, true, false, ◌||◌}
use mathlib.Core.List.{List, [], ◌∷◌}
use Prim.Native.Nat.{ℕ}
use native.Mathlib.Omega.{arith}
use lib.Dec.{eqb}
use Rattle.laws.specs.Pick.{pick}
use Rattle.order.specs.Play.{Event, write, ask, play, counted}
use Rattle.order.specs.Cut.{switch, cut, in_force, OneOf, the_old, the_dark, the_new}
use Rattle.order.specs.Machine.{run, Machine, step}
use Rattle.order.proofs.SwitchLaws.{play_cut}

record Box : Type 0 where
  on : Bool
  low : ℕ
  high : ℕ

data Store : Type 0 where
  turn : Bool → Store
  to_low : ℕ → Store
  to_high : ℕ → Store

data Answer : Type 0 where
  unchecked permitted denied : Answer

abbrev put : Box → Store → Box
put b (turn o) = record { on = o; low = b.low; high = b.high }
put b (to_low n) = record { on = b.on; low = n; high = b.high }
put b (to_high n) = record { on = b.on; low = b.low; high = n }

abbrev tell : Box → ℕ → Answer
tell b a = pick b.on (pick (eqb a b.low || eqb a b.high) permitted denied) unchecked

abbrev box : ℕ → ℕ → Box
box l h = record { on = true; low = l; high = h }

abbrev stores : ℕ → ℕ → List Store
stores l h = switch (turn false) (to_low l ∷ to_high h ∷ []) (turn true)

-- ---- from any box to any map, with any events
abbrev Off : Box → Type 0
Off b = b.on ≡ false

switched : (b : Box) (l h : ℕ) (es : List (Event ℕ)) → play put tell b (stores l h) es ≡ cut (tell b) (λ a. unchecked) (tell (box l h)) 2 es
switched b l h es =
    play_cut put tell Off (λ a. unchecked) (λ s a off. rw off) b (turn false) (to_low l ∷ to_high h ∷ []) (turn true) refl (λ s off. off, (λ s off. off, tt)) es

-- ---- from 1 and 2 to 3 and 4, with a number asked at every place
abbrev events : List (Event ℕ)
events =
    ask 1 ∷ ask 3 ∷ write ∷ ask 1 ∷ write ∷ ask 3 ∷ write ∷ ask 2 ∷ write ∷ ask 1 ∷ ask 3 ∷ write ∷ ask 4 ∷ []

abbrev answers : List Answer
answers = permitted ∷ denied ∷ unchecked ∷ unchecked ∷ unchecked ∷ denied ∷ permitted ∷ permitted ∷ []

played : play put tell (box 1 2) (stores 3 4) events ≡ answers
played = refl

was_cut : cut (tell (box 1 2)) (λ a. unchecked) (tell (box 3 4)) 2 events ≡ answers
was_cut = refl

was_counted : counted (in_force (tell (box 1 2)) (λ a. unchecked) (tell (box 3 4)) 2) 0 events ≡ answers
was_counted = refl

was_run : run (step put (turn false) (stores 3 4)) (λ (m : Machine Box). tell m.state) (record { state = box 1 2; place = 0 }) events ≡ answers
was_run = refl

-- ---- without turning off, 2 and 3 at once: a mixed map, none of the three
mixed : play put tell (box 1 2) (to_low 3 ∷ to_high 4 ∷ []) (write ∷ ask 2 ∷ ask 3 ∷ []) ≡ permitted ∷ permitted ∷ []
mixed = refl

none_of_three : OneOf (tell (box 1 2)) (λ a. unchecked) (tell (box 3 4)) (tell (box 3 2)) → ⊥
none_of_three (the_old e) = let z : ◌≡◌ {A = ℕ} 0 1 = cc (ap (λ (m : ℕ → Answer). m 3) e) in omega arith
none_of_three (the_dark e) = let z : ◌≡◌ {A = ℕ} 0 1 = cc (ap (λ (m : ℕ → Answer). m 3) e) in omega arith
none_of_three (the_new e) = let z : ◌≡◌ {A = ℕ} 0 1 = cc (ap (λ (m : ℕ → Answer). m 2) e) in omega arith
