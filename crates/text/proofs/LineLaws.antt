-- A line is read at a place exactly if its text stands there: each field and the newline in turn, a field's number ending at the byte with which the
-- next begins, which is no digit. Assumes nothing.
use mathlib.Core.Path.{◌≡◌, ap, subst}
use mathlib.Core.Logic.{◌↔◌}
use mathlib.Core.Bool.{false}
use mathlib.Core.List.{List, ◌++◌}
use Prim.Native.Nat.{ℕ, ◌+◌, ◌≤◌, ◌<◌}
use native.Mathlib.Omega.{arith}
use lib.ListN.{length, get_or}
use Rattle.std.proofs.Common.{Some}
use Rattle.std.proofs.lemmas.Option.{option_and_then_some}
use Rattle.text.specs.declared.Line.{Line}
use Rattle.text.specs.Digits.{largest, digits, is_digit}
use Rattle.text.specs.Put.{over, after}
use Rattle.text.specs.Read.{Read, word_at, number_at, Stands}
use Rattle.text.specs.Line.{n_key, rnr_key, rbar_key, rasr_key, end_key, field, line_text, field_at, line_at}
use Rattle.text.proofs.PutLaws.{put_fits}
use Rattle.text.proofs.StandsLaws.{read_one, stands_join, stands_apart, stands_first, stands_within, stands_between, stands_put}
use Rattle.text.proofs.WordLaws.{word_exactly}
use Rattle.text.proofs.NumberLaws.{number_exactly}

-- the four numbers are such as can be read
pub record Small (l : Line) : Type 0 where
  pub n : l.n ≤ largest
  pub rnr : l.rnr ≤ largest
  pub rbar : l.rbar ≤ largest
  pub rasr : l.rasr ≤ largest

-- ---- one field: it is read only where it stands, and where it stands and no digit after it
pub field_read : (bytes : List ℕ) (at : ℕ) (key : List ℕ) (v p : ℕ) → field_at bytes at key ≡ Some (v, p) → (v ≤ largest) × Stands bytes at (field key v) p
unfolding field_at
field_read bytes at key v p e =
    option_and_then_some (number_at bytes) (word_at bytes at key) (v, p) e
    (λ q f d. let w = (number_exactly bytes q v p).0 d in
    (w.small, stands_join bytes at key (digits v) p ((word_exactly bytes at key q).0 f).1 w.here))

pub field_reads : (bytes : List ℕ) (at : ℕ) (key : List ℕ) (v p : ℕ) → 0 < length key → v ≤ largest → Stands bytes at (field key v) p → is_digit (get_or bytes p 0) ≡ false → field_at bytes at key ≡ Some (v, p)
unfolding field_at
field_reads bytes at key v p k h w e =
    let s = stands_apart bytes at key (digits v) p w in
    let within = stands_within bytes at key (at + length key) k s.0 in
    rw ((word_exactly bytes at key (at + length key)).1 (omega arith, s.0)) ((number_exactly bytes (at + length key) v p).1 record { small = h; here = s.1; ends = e })

-- ---- the whole line
line_reads : (bytes : List ℕ) (at : ℕ) (l : Line) (p : ℕ) → Small l → Stands bytes at (line_text l) p → line_at bytes at ≡ Some (l, p)
unfolding line_text line_at
line_reads bytes at l p h w =
    let f1 = field n_key l.n in
    let f2 = field rnr_key l.rnr in
    let f3 = field rbar_key l.rbar in
    let f4 = field rasr_key l.rasr in
    let q1 = at + length f1 in
    let q2 = at + length (f1 ++ f2) in
    let q3 = at + length (f1 ++ f2 ++ f3) in
    let q4 = at + length (f1 ++ f2 ++ f3 ++ f4) in
    let w5 = stands_apart bytes at (f1 ++ f2 ++ f3 ++ f4) end_key p w in
    let w4 = stands_apart bytes at (f1 ++ f2 ++ f3) f4 q4 w5.0 in
    let w3 = stands_apart bytes at (f1 ++ f2) f3 q3 w4.0 in
    let w2 = stands_apart bytes at f1 f2 q2 w3.0 in
    let within = stands_within bytes q4 end_key p (omega arith) w5.1 in
    rw (
      field_reads bytes at n_key l.n q1 (omega arith) h.n w2.0 (ap is_digit (stands_first bytes q1 _ _ q2 w2.1)),
      field_reads bytes q1 rnr_key l.rnr q2 (omega arith) h.rnr w2.1 (ap is_digit (stands_first bytes q2 _ _ q3 w3.1)),
      field_reads bytes q2 rbar_key l.rbar q3 (omega arith) h.rbar w3.1 (ap is_digit (stands_first bytes q3 _ _ q4 w4.1)),
      field_reads bytes q3 rasr_key l.rasr q4 (omega arith) h.rasr w4.1 (ap is_digit (stands_first bytes q4 _ _ p w5.1)),
      (word_exactly bytes q4 end_key p).1 (omega (arith, w5.1.next), w5.1),
    )

-- a line's text stands where its four fields and the newline do
stands_line : (bytes : List ℕ) (at : ℕ) (l : Line) (q1 q2 q3 q4 p : ℕ) → Stands bytes at (field n_key l.n) q1 → Stands bytes q1 (field rnr_key l.rnr) q2 → Stands bytes q2 (field rbar_key l.rbar) q3 → Stands bytes q3 (field rasr_key l.rasr) q4 → Stands bytes q4 end_key p → Stands bytes at (line_text l) p
unfolding line_text
stands_line bytes at l q1 q2 q3 q4 p w1 w2 w3 w4 w5 =
    let f1 = field n_key l.n in
    let f2 = field rnr_key l.rnr in
    let f3 = field rbar_key l.rbar in
    let f4 = field rasr_key l.rasr in
    let j2 = stands_join bytes at f1 f2 q2 w1 w2 in
    let j3 = stands_join bytes at (f1 ++ f2) f3 q3 j2 w3 in
    stands_join bytes at (f1 ++ f2 ++ f3 ++ f4) end_key p (stands_join bytes at (f1 ++ f2 ++ f3) f4 q4 j3 w4) w5

-- the line that was built of what was found is the one answered
module _ (bytes : List ℕ) (at : ℕ) (l : Line) (p : ℕ) where
  answered : (m : Line) (q : ℕ) → ◌≡◌ {A = Read Line} (Some (m, q)) (Some (l, p)) → Small m → Stands bytes at (line_text m) q → Small l × Stands bytes at (line_text l) p
  answered m q e h w =
      let own : m ≡ l = (read_one e).0 in
      let next : q ≡ p = (read_one e).1 in
      (subst Small own h, subst (λ (k : Line). Stands bytes at (line_text k) p) own (subst (λ (i : ℕ). Stands bytes at (line_text m) i) next w))

  line_read : line_at bytes at ≡ Some (l, p) → Small l × Stands bytes at (line_text l) p
  unfolding line_at
  line_read w =
      option_and_then_some _ (field_at bytes at n_key) _ w (λ n e1 w1.
      option_and_then_some _ (field_at bytes n.1 rnr_key) _ w1 (λ rnr e2 w2.
      option_and_then_some _ (field_at bytes rnr.1 rbar_key) _ w2 (λ rbar e3 w3.
      option_and_then_some _ (field_at bytes rbar.1 rasr_key) _ w3 (λ rasr e4 w4.
      option_and_then_some _ (word_at bytes rasr.1 end_key) _ w4 (λ q e5 e.
      let r1 = field_read bytes at n_key n.0 n.1 e1 in
      let r2 = field_read bytes n.1 rnr_key rnr.0 rnr.1 e2 in
      let r3 = field_read bytes rnr.1 rbar_key rbar.0 rbar.1 e3 in
      let r4 = field_read bytes rbar.1 rasr_key rasr.0 rasr.1 e4 in
      answered (record { n = n.0; rnr = rnr.0; rbar = rbar.0; rasr = rasr.0 }) q e
      (record { n = r1.0; rnr = r2.0; rbar = r3.0; rasr = r4.0 })
      (stands_line bytes at _ n.1 rnr.1 rbar.1 rasr.1 q r1.1 r2.1 r3.1 r4.1 ((word_exactly bytes rasr.1 end_key q).0 e5).1))))))

pub line_exactly : (bytes : List ℕ) (at : ℕ) (l : Line) (p : ℕ) → (line_at bytes at ≡ Some (l, p)) ↔ (Small l × Stands bytes at (line_text l) p)
line_exactly bytes at l p = (line_read bytes at l p, λ w. line_reads bytes at l p w.0 w.1)

-- the round trip, whatever follows
pub line_back : (pre rest : List ℕ) (l : Line) → Small l → line_at (pre ++ line_text l ++ rest) (length pre) ≡ Some (l, length pre + length (line_text l))
line_back pre rest l h = line_reads (pre ++ line_text l ++ rest) (length pre) l (length pre + length (line_text l)) h (stands_between pre (line_text l) rest)

-- the same out of a buffer that it was put into
pub line_put_back : (out : List ℕ) (at : ℕ) (l : Line) → Small l → at + length (line_text l) ≤ length out → line_at (after out at (line_text l)) at ≡ Some (l, at + length (line_text l))
line_put_back out at l h r =
    rw (← (put_fits out at (line_text l) r).1) (line_reads (over out at (line_text l)) at l (at + length (line_text l)) h (stands_put out at (line_text l) r))
