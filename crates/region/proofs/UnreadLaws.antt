-- What the list check does not read: attr, and what lies past the count. What an answer says speaks only of the bases and sizes of the judged
-- records, so it is the same of two lists that agree there. Assumes nothing.
use mathlib.Core.Path.{◌≡◌, refl, sym, ◌∙◌, ap, ap₂}
use Prim.Native.Nat.{ℕ, ◌+◌, ◌*◌, ◌≤◌, ◌<◌, zero-le}
use native.Mathlib.Nat.{not-suc-le-zero, not-le_of_lt}
use native.Mathlib.Omega.{arith}
use mathlib.Core.Bool.{Bool, true, false}
use mathlib.Core.List.{List}
use borrow.Author.Tests.{leb-true, leb-false}
use lib.Dec.{leb}
use lib.ListN.{get_or}
use Rattle.region.specs.declared.Range.{Range}
use Rattle.region.specs.List.{Judged, Valid, Short, Unsound, Pair, record_at, records, number_at, meeting, judged, Says}
use Rattle.region.specs.Sound.{region_no}
use Rattle.region.specs.Overlap.{overlaps}
use Rattle.region.proofs.ListLaws.{list_exactly}

module _ (at to : ℕ → Range) (have got n : ℕ) (h : n ≤ have) (g : n ≤ got) (same : (i : ℕ) → i < n → at i ≡ to i) where
  number : (i : ℕ) → i < n → number_at to i ≡ number_at at i
  number i l = ap (λ (r : Range). region_no r.base r.size) (sym (same i l))

  pair : (i j : ℕ) → i < n → j < n → meeting to i j ≡ meeting at i j
  pair i j l k = ap₂ overlaps (sym (same i l)) (sym (same j k))

  carry : (r : Judged) → Says at have n r → Says to got n r
  carry Valid s = (g, λ i l. number i l ∙ s.1 i l, λ i j l k. pair i j (omega arith) k ∙ s.2 i j l k)
  carry Short s = absurd (not-le_of_lt s h)
  carry (Unsound i k) s = (g, λ j l. number j (omega (arith, s.2)) ∙ s.1 j l, s.2, number i s.2 ∙ s.3, s.4)
  carry (Pair i j) s =
      let p = s.2 in (
        g,
        λ i l. number i l ∙ s.1 i l,
        record {
          ordered = p.ordered;
          within = p.within;
          passes = pair i j (omega (arith, p.ordered, p.within)) p.within ∙ p.passes;
          earlier = λ a b l k m. pair a b (omega arith) m ∙ p.earlier a b l k m;
          nearer = λ b l k. pair i b (omega (arith, p.ordered, p.within)) (omega (arith, p.within)) ∙ p.nearer b l k;
        },
      )

  pub same_list : judged at have n ≡ judged to got n
  same_list = sym ((list_exactly to got n (judged at have n)).1 (carry (judged at have n) ((list_exactly at have n (judged at have n)).0 refl)))

-- two lists as long as each other that give the same range at each of their places
pub same_below : (at to : ℕ → Range) (have n : ℕ) → ((i : ℕ) → i < have → at i ≡ to i) → judged at have n ≡ judged to have n
same_below at to have n same = by (leb n have) refl
  where
    by : (b : Bool) → leb n have ≡ b → judged at have n ≡ judged to have n
    by true e = let h : n ≤ have = leb-true n have e in same_list at to have have n h h (λ i l. same i (omega (arith, l, h)))
    by false e = let h : have < n = leb-false n have e in (list_exactly at have n Short).1 h ∙ sym ((list_exactly to have n Short).1 h)

-- two lists of words that hold n records each, with the same bases and sizes: whatever their attr, and whatever follows
pub attr_unread : (ws vs : List ℕ) (n : ℕ) → n ≤ records ws → n ≤ records vs
    → ((i : ℕ) → i < n → (get_or ws (3 * i) 0 ≡ get_or vs (3 * i) 0) × (get_or ws (3 * i + 1) 0 ≡ get_or vs (3 * i + 1) 0))
    → judged (record_at ws) (records ws) n ≡ judged (record_at vs) (records vs) n
attr_unread ws vs n h g e = same_list (record_at ws) (record_at vs) (records ws) (records vs) n h g (λ i l. λ k. record { base = (e i l).0 k; size = (e i l).1 k })

pub none_judged : (at : ℕ → Range) (have : ℕ) → judged at have 0 ≡ Valid
none_judged at have = (list_exactly at have 0 Valid).1 (zero-le, λ i l. absurd (not-suc-le-zero l), λ i j l k. absurd (not-suc-le-zero k))
