-- The text of a log of one write more, alone and in a buffer; the answer where the longest log has room, and where not. By the laws of text. Assumes nothing.
use mathlib.Core.Path.{◌≡◌, refl, sym, ◌∙◌, ap}
use mathlib.Core.List.{List, [], ◌∷◌, ◌++◌, map, append-nil}
use Prim.Native.Nat.{ℕ, suc, ◌+◌, ◌≤◌, ◌<◌}
use native.Mathlib.Nat.{add-zero, add_assoc}
use native.Mathlib.Numerals.{add-one}
use native.Mathlib.Omega.{arith}
use borrow.Author.Tests.{le-leb, lt-leb}
use lib.ListN.{length, get_or, take, drop, length-map, length-append, take-append-drop}
use lib.Seq.{take-suc, length-take-le}
use Rattle.device.specs.declared.Write.{Write}
use Rattle.std.proofs.Common.{Option, Some, None}
use Rattle.text.specs.Line.{lines, log_text}
use Rattle.text.specs.Put.{over}
use Rattle.text.proofs.PutLaws.{over_over}
use Rattle.text.proofs.LogLaws.{log_last}
use Rattle.journal.specs.Journal.{triple_of, write_text, log_of, put_log, after_log}

-- ---- an answer known in two ways
pub one_place : {r : Option ℕ} {p q : ℕ} → r ≡ Some p → r ≡ Some q → p ≡ q
one_place d e = cc

pub not_full : {r : Option ℕ} {q : ℕ} → r ≡ None → r ≡ Some q → ⊥
not_full d e = cc

-- ---- the text
map-append : {A B : Type 0} (f : A → B) (xs ys : List A) → map f (xs ++ ys) ≡ map f xs ++ map f ys
map-append f [] ys = refl
map-append f (x ∷ xs) ys = rw (map-append f xs ys)

-- one write more
pub log_more : (log : List Write) (i : ℕ) (d : Write) → i < length log → log_of (take (suc i) log) ≡ log_of (take i log) ++ write_text i (get_or log i d)
unfolding log_of
log_more log i d h =
    rw (take-suc log i d h, map-append triple_of (take i log) (get_or log i d ∷ []))
    (log_last (map triple_of (take i log)) (triple_of (get_or log i d))
    ∙ ap (λ (k : ℕ). log_text (map triple_of (take i log)) ++ write_text k (get_or log i d))
    (length-map (take i log) triple_of ∙ length-take-le i log (omega arith)))

-- nothing yet, and one write more, in a buffer
module _ (out : List ℕ) (at : ℕ) (log : List Write) where
  pub log_begun : (at ≡ at + length (log_of (take 0 log))) × (out ≡ over out at (log_of (take 0 log)))
  unfolding log_of log_text lines
  log_begun = (sym (add-zero at), sym (rw (add-zero, append-nil) (take-append-drop at out)))

  pub log_next : (i : ℕ) (d : Write) → i < length log → at + length (log_of (take i log)) ≤ length out →
      (at + length (log_of (take i log)) + length (write_text i (get_or log i d)) ≡ at + length (log_of (take (i + 1) log)))
      × (over (over out at (log_of (take i log))) (at + length (log_of (take i log))) (write_text i (get_or log i d)) ≡ over out at (log_of (take (i + 1) log)))
  log_next i d h room =
      let s = log_of (take i log) in
      let t = write_text i (get_or log i d) in
      (rw (add-one, log_more log i d h, length-append, add_assoc), rw (add-one, log_more log i d h) (over_over out at s room t))

  -- the answer and the buffer where the longest log has room, and where it hasn't
  pub log_fits : at + 600 ≤ length out → (Some (at + length (log_of log)) ≡ put_log out at log) × (over out at (log_of log) ≡ after_log out at log)
  unfolding put_log after_log
  log_fits h = (rw (le-leb _ _ h), rw (le-leb _ _ h))

  pub log_full : length out < at + 600 → (None ≡ put_log out at log) × (out ≡ after_log out at log)
  unfolding put_log after_log
  log_full h = (rw (lt-leb _ _ h), rw (lt-leb _ _ h))

  -- a buffer keeps its length, so the place after the log is within it
  pub log_within : {p : ℕ} → at + 600 ≤ length out → put_log out at log ≡ Some p → length (after_log out at log) ≡ length out → p ≤ length out
  log_within h e k =
      let f = log_fits h in
      let there = one_place e (sym f.0) in
      let long : length (take at out) + length (log_of log) + length (drop (at + length (log_of log)) out) ≡ length out =
      sym (rw (length-append, length-append)) ∙ ap length f.1 ∙ k in
      omega (arith, there, long, length-take-le at out (omega arith))
