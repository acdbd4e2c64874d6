-- What comes after some events is played from the state that their writes left, with the writes that they left over: by going down those
-- events. So each access is told by the state after the writes before it, and once none is left, by the last state. Assumes nothing.
use mathlib.Core.Path.{◌≡◌, refl, ap}
use mathlib.Core.List.{List, [], ◌∷◌, ◌++◌, map}
use Prim.Native.Nat.{ℕ, suc, ◌+◌, ◌≤◌}
use native.Mathlib.Omega.{arith}
use lib.ListN.{length, get_or, take, drop, drop_of_length-le}
use lib.Seq.{take-nil, drop-nil, take_all, get_or-append_seam}
use Rattle.order.specs.Play.{Event, write, ask, play, after, accesses, writes, counted}

module _ {S W A R : Type 0} (put : S → W → S) (tell : S → A → R) where
  -- as many answers as accesses
  pub play_length : (s : S) (ws : List W) (es : List (Event A)) → length (play put tell s ws es) ≡ length (accesses es)
  play_length s ws [] = refl
  play_length s ws (ask a ∷ es) = ap suc (play_length s ws es)
  play_length s [] (write ∷ es) = play_length s [] es
  play_length s (w ∷ ws) (write ∷ es) = play_length (put s w) ws es

  pub play_append : (s : S) (ws : List W) (es fs : List (Event A)) → play put tell s ws (es ++ fs) ≡ play put tell s ws es ++ play put tell (after put s (take (writes es) ws)) (drop (writes es) ws) fs
  play_append s ws [] fs = refl
  play_append s ws (ask a ∷ es) fs = ap (λ (rs : List R). tell s a ∷ rs) (play_append s ws es fs)
  play_append s [] (write ∷ es) fs = rw (take-nil, drop-nil) at (play_append s [] es fs)
  play_append s (w ∷ ws) (write ∷ es) fs = play_append (put s w) ws es fs

  -- the answer to a, with es before it and fs after it
  pub play_at : (s : S) (ws : List W) (es fs : List (Event A)) (a : A) (d : R) → get_or (play put tell s ws (es ++ ask a ∷ fs)) (length (accesses es)) d ≡ tell (after put s (take (writes es) ws)) a
  play_at s ws es fs a d = rw (play_append, ← play_length s ws es, get_or-append_seam)

  -- ---- past the last write
  pub play_none_left : (s : S) (es : List (Event A)) → play put tell s [] es ≡ map (tell s) (accesses es)
  play_none_left s [] = refl
  play_none_left s (ask a ∷ es) = ap (λ (rs : List R). tell s a ∷ rs) (play_none_left s es)
  play_none_left s (write ∷ es) = play_none_left s es

  pub play_past : (s : S) (ws : List W) (es fs : List (Event A)) → length ws ≤ writes es → play put tell s ws (es ++ fs) ≡ play put tell s ws es ++ map (tell (after put s ws)) (accesses fs)
  play_past s ws es fs h = rw (play_append, take_all, drop_of_length-le ws h, play_none_left)

  -- write events put in, or left out, wherever they stand
  pub past_the_last : (s : S) (ws : List W) (es fs gs : List (Event A)) → length ws ≤ writes es → accesses fs ≡ accesses gs → play put tell s ws (es ++ fs) ≡ play put tell s ws (es ++ gs)
  past_the_last s ws es fs gs h e = rw (play_past s ws es fs h, play_past s ws es gs h, e)

-- ---- by counting: the answer to a, with es before it and fs after it
pub counted_at : {A R : Type 0} (f : ℕ → A → R) (k n : ℕ) (es fs : List (Event A)) (a : A) (r : R) → k + writes es ≡ n → get_or (counted f k (es ++ ask a ∷ fs)) (length (accesses es)) r ≡ f n a
counted_at f k n [] fs a r e = let same : k ≡ n = omega arith in ap (λ (j : ℕ). f j a) same
counted_at f k n (ask b ∷ es) fs a r e = counted_at f k n es fs a r e
counted_at f k n (write ∷ es) fs a r e = counted_at f (suc k) n es fs a r (omega arith)
