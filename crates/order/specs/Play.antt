-- Writes and accesses in any interleaving, over any device: a state S, a write W, an access A, an answer R, what a write puts into a state
-- (`put`), and what a state tells of an access (`tell`).
--   write, ask a          == the two events: the next write is made; a is asked
--   play put tell s ws es == the answers, in order, to the accesses of es, where the state is s and the writes still to be made are ws;
--                            a write event with none left changes nothing
--   after put s ws == the state after the writes ws
--   accesses es    == the accesses of es, in order
--   writes es      == how many write events es has
--   counted f k es == each access a of es answered by f n a, where n is the number of write events before it, k of them before es
use Rattle.std.specs.Prelude.{List, [], ◌∷◌, ℕ, suc}

pub data Event (A : Type 0) : Type 0 where
  write : Event A
  ask : A → Event A

module _ {S W A R : Type 0} (put : S → W → S) (tell : S → A → R) where
  abbrev pub play : S → List W → List (Event A) → List R
  play s ws [] = []
  play s ws (ask a ∷ es) = tell s a ∷ play s ws es
  play s [] (write ∷ es) = play s [] es
  play s (w ∷ ws) (write ∷ es) = play (put s w) ws es

module _ {S W : Type 0} (put : S → W → S) where
  abbrev pub after : S → List W → S
  after s [] = s
  after s (w ∷ ws) = after (put s w) ws

module _ {A : Type 0} where
  abbrev pub accesses : List (Event A) → List A
  accesses [] = []
  accesses (ask a ∷ es) = a ∷ accesses es
  accesses (write ∷ es) = accesses es

  abbrev pub writes : List (Event A) → ℕ
  writes [] = 0
  writes (ask a ∷ es) = writes es
  writes (write ∷ es) = suc (writes es)

module _ {A R : Type 0} (f : ℕ → A → R) where
  abbrev pub counted : ℕ → List (Event A) → List R
  counted k [] = []
  counted k (ask a ∷ es) = f k a ∷ counted k es
  counted k (write ∷ es) = counted (suc k) es
