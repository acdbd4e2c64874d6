-- A switch whose first write turns off, and whose middle writes do not turn on, answers by three maps. Each event meets one clause of `play` and
-- one of `cut`: an access before the first write is told by the old state; while off, dark; after the last, by the state that the writes
-- left. So by induction on the events. Assumes nothing.
use mathlib.Core.Path.{◌≡◌, refl, ◌∙◌, ap}
use mathlib.Core.List.{List, [], ◌∷◌, ◌++◌}
use Prim.Native.Nat.{ℕ, suc, ◌<◌}
use native.Mathlib.Omega.{arith}
use lib.ListN.{length, get_or}
use Rattle.order.specs.Play.{Event, write, ask, play, after, accesses, writes, counted}
use Rattle.order.specs.Off.{Dark, Quiet}
use Rattle.order.specs.Cut.{switch, under_way, cut, in_force, OneOf}
use Rattle.order.proofs.PlayLaws.{play_none_left, counted_at}
use Rattle.order.proofs.CutLaws.{in_force_one, cut_counted}

-- writes are quiet where the write at each place is (d stands for no write)
pub quiet_at : {S W : Type 0} (put : S → W → S) (Off : S → Type 0) (ms : List W) (d : W) → ((k : ℕ) → k < length ms → (s : S) → Off s → Off (put s (get_or ms k d))) → Quiet put Off ms
quiet_at put Off [] d at = tt
quiet_at put Off (m ∷ ms) d at = (at 0 (omega arith), quiet_at put Off ms d (λ k h. at (suc k) (omega arith)))

module _ {S W A R : Type 0} (put : S → W → S) (tell : S → A → R) (Off : S → Type 0) (dark : A → R) (blind : Dark tell Off dark) where
  play_under_way : (s : S) (ms : List W) (l : W) (es : List (Event A)) → Off s → Quiet put Off ms → play put tell s (ms ++ l ∷ []) es ≡ under_way dark (tell (after put s (ms ++ l ∷ []))) (length ms) es
  play_under_way s ms l [] off quiet = refl
  play_under_way s ms l (ask a ∷ es) off quiet = λ i. blind s a off i ∷ play_under_way s ms l es off quiet i
  play_under_way s [] l (write ∷ es) off quiet = play_none_left put tell (put s l) es
  play_under_way s (m ∷ ms) l (write ∷ es) off quiet = play_under_way (put s m) ms l es (quiet.0 s off) quiet.1

  module _ (s : S) (f : W) (ms : List W) (l : W) (off : Off (put s f)) (quiet : Quiet put Off ms) where
    pub play_cut : (es : List (Event A)) → play put tell s (switch f ms l) es ≡ cut (tell s) dark (tell (after put s (switch f ms l))) (length ms) es
    play_cut [] = refl
    play_cut (ask a ∷ es) = ap (λ (rs : List R). tell s a ∷ rs) (play_cut es)
    play_cut (write ∷ es) = play_under_way (put s f) ms l es off quiet

    -- by counting: the number of write events before an access says which map answers it
    pub play_counted : (es : List (Event A)) → play put tell s (switch f ms l) es ≡ counted (in_force (tell s) dark (tell (after put s (switch f ms l))) (length ms)) 0 es
    play_counted es = play_cut es ∙ cut_counted (tell s) dark (tell (after put s (switch f ms l))) (length ms) es

    -- the answer to a, with es before it and gs after it (r stands for no answer)
    pub answer_at : (es gs : List (Event A)) (a : A) (r : R) → get_or (play put tell s (switch f ms l) (es ++ ask a ∷ gs)) (length (accesses es)) r ≡ in_force (tell s) dark (tell (after put s (switch f ms l))) (length ms) (writes es) a
    answer_at es gs a r =
        rw (play_counted (es ++ ask a ∷ gs)) (counted_at (in_force (tell s) dark (tell (after put s (switch f ms l))) (length ms)) 0 (writes es) es gs a r (omega arith))

    -- no mixed map answers: at every number of write events one of the three maps, whole, answers all that is asked
    pub no_mixed : (at : ℕ → A → R) × ((k : ℕ) → OneOf (tell s) dark (tell (after put s (switch f ms l))) (at k)) × ((es : List (Event A)) → play put tell s (switch f ms l) es ≡ counted at 0 es)
    no_mixed = (
      in_force (tell s) dark (tell (after put s (switch f ms l))) (length ms),
      in_force_one (tell s) dark (tell (after put s (switch f ms l))) (length ms),
      play_counted,
    )
