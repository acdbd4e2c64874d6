-- A log of one line more is the log and then that line, counted by the lines before it: by going down the log. Assumes nothing.
use mathlib.Core.Path.{◌≡◌, sym, ◌∙◌, ap}
use mathlib.Core.List.{List, [], ◌∷◌, ◌++◌, append_assoc, append-nil}
use Prim.Native.Nat.{ℕ, suc, ◌+◌, ◌≤◌}
use native.Mathlib.Nat.{add-zero, zero-add, add-suc, suc-add}
use native.Mathlib.Omega.{arith}
use lib.ListN.{length, length-append}
use Rattle.text.specs.declared.Line.{Line}
use Rattle.text.specs.Line.{line_text, Triple, numbered, lines, log_text}
use Rattle.text.proofs.DigitsLaws.{few_digits}
use Rattle.text.proofs.LineLaws.{Small}

pub lines_last : {W : Type 0} (f : ℕ → W → List ℕ) (i : ℕ) (ws : List W) (w : W) → lines f i (ws ++ (w ∷ [])) ≡ lines f i ws ++ f (i + length ws) w
unfolding lines
lines_last f i [] w = append-nil (f i w) ∙ ap (λ (k : ℕ). f k w) (sym (add-zero i))
lines_last f i (v ∷ ws) w = rw (lines_last f (suc i) ws w, append_assoc, suc-add, add-suc)

pub log_last : (ws : List Triple) (w : Triple) → log_text (ws ++ (w ∷ [])) ≡ log_text ws ++ line_text (numbered (length ws) w)
unfolding log_text
log_last ws w = lines_last (λ i v. line_text (numbered i v)) 0 ws w ∙ ap (λ (k : ℕ). log_text ws ++ line_text (numbered k w)) (zero-add (length ws))

-- a line of numbers that can be read takes no more than 60 bytes
pub line_length : (l : Line) → Small l → length (line_text l) ≤ 60
unfolding line_text
line_length l h =
    simp length-append
    (omega (arith, few_digits 9 l.n h.n (omega (arith, h.n)), few_digits 9 l.rnr h.rnr (omega (arith, h.rnr)), few_digits 9 l.rbar h.rbar (omega (arith, h.rbar)), few_digits 9 l.rasr h.rasr (omega (arith, h.rasr))))
