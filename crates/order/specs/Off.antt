-- A device that can be turned off, as the fact `Off s` says of its state.
--   Dark tell Off dark == a state that is off tells dark a of every access a, whatever else it holds
--   Quiet put Off ms   == no write of ms turns on: each leaves a state that is off, off
use Rattle.std.specs.Prelude.{◌≡◌, List, [], ◌∷◌}

abbrev pub Dark : {S A R : Type 0} → (S → A → R) → (S → Type 0) → (A → R) → Type 0
Dark {S} {A} tell Off dark = (s : S) (a : A) → Off s → tell s a ≡ dark a

abbrev pub Quiet : {S W : Type 0} → (S → W → S) → (S → Type 0) → List W → Type 0
Quiet put Off [] = Unit
Quiet {S} put Off (m ∷ ms) = ((s : S) → Off s → Off (put s m)) × Quiet put Off ms
