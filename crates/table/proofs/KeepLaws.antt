-- Adding keeps a table lawful and whole. Of two entries of the partition that was added to, either neither is the new one, and they were apart
-- before, or one is, and the builder saw that it meets none. Elsewhere nothing changed. Assumes nothing.
use mathlib.Core.Path.{◌≡◌, refl, sym, ◌∙◌, ap, subst}
use mathlib.Core.Bool.{Bool, true, false}
use mathlib.Core.Logic.{◌↔◌}
use Prim.Native.Nat.{ℕ, ◌+◌, ◌≤◌, ◌<◌}
use native.Mathlib.Decide.{ℕ_discrete}
use native.Mathlib.Omega.{arith}
use lib.Dec.{eqb}
use Rattle.laws.specs.Pick.{pick}
use Rattle.region.specs.Sound.{region_no}
use Rattle.region.proofs.SoundLaws.{sound_facts}
use Rattle.region.specs.Overlap.{overlaps}
use Rattle.region.proofs.OverlapLaws.{overlaps_symmetric}
use Rattle.table.specs.declared.Table.{Table}
use Rattle.table.specs.declared.Request.{Request}
use Rattle.table.specs.Numbers.{parts, flat_index}
use Rattle.table.specs.Table.{with_entry, slot_entry}
use Rattle.table.specs.Whole.{Whole}
use Rattle.table.specs.Entries.{range_of}
use Rattle.table.specs.Lawful.{lawful, Lawful}
use Rattle.table.specs.Covers.{covers, Has}
use Rattle.table.specs.Builder.{wanted, granted, first_free, builder_no, try_add, Fits, Grants}
use Rattle.table.proofs.EntryLaws.{with_whole, flat_one}
use Rattle.table.proofs.LawfulLaws.{lawful_exactly}
use Rattle.table.proofs.CoversLaws.{covers_exactly}
use Rattle.table.proofs.AddLaws.{accepts_exactly, refused_same, grants}

-- ---- every slot but the one that was taken
pub grants_elsewhere : (n : ℕ) (t : Table) (p : ℕ) (q : Request) (u : Table) (g : Grants n t p q u) (r s : ℕ) → s < n → ¬ ((r ≡ p) × (s ≡ g.slot)) → slot_entry n u r s ≡ slot_entry n t r s
unfolding slot_entry
grants_elsewhere n t p q u g r s h d = g.others (flat_index n r s) (λ e. d (flat_one n r s p g.slot h g.within e))

-- ---- a table that grants what fits is lawful
module _ (n : ℕ) (t : Table) (p : ℕ) (q : Request) (u : Table) (f : Fits n t p q) (g : Grants n t p q u) where
  elsewhere : (r s : ℕ) → s < n → ¬ ((r ≡ p) × (s ≡ g.slot)) → slot_entry n u r s ≡ slot_entry n t r s
  elsewhere = grants_elsewhere n t p q u g

  -- an enabled entry of u, by whether it is the new one
  at_new : (s : ℕ) → s ≡ g.slot → slot_entry n u p s ≡ granted q
  at_new s e = ap (slot_entry n u p) e ∙ g.entry

  at_old : (s : ℕ) → s < n → ¬ (s ≡ g.slot) → slot_entry n u p s ≡ slot_entry n t p s
  at_old s h d = elsewhere p s h (λ e. d e.1)

  new_apart : (s : ℕ) → s < n → ¬ (s ≡ g.slot) → (slot_entry n u p s).enabled ≡ true → overlaps (wanted q) (range_of (slot_entry n u p s)) ≡ false
  new_apart s h d on = rw (at_old s h d) (f.apart s h (rw (at_old s h d) at on))

  here : Lawful n u p
  here =
      record { sound = λ s h on. sound s h on (ℕ_discrete s g.slot); disjoint = λ i j h k a b. apart i j h k a b (ℕ_discrete i g.slot) (ℕ_discrete j g.slot) }
    where
      sound : (s : ℕ) → s < n → (slot_entry n u p s).enabled ≡ true → Dec (s ≡ g.slot) → region_no (slot_entry n u p s).base (slot_entry n u p s).size ≡ 0
      sound s h on (yes e) = rw (at_new s e) f.sound
      sound s h on (no d) = rw (at_old s h d) ((f.lawful p f.partition).sound s h (rw (at_old s h d) at on))

      apart : (i j : ℕ) → i < j → j < n → (slot_entry n u p i).enabled ≡ true → (slot_entry n u p j).enabled ≡ true → Dec (i ≡ g.slot) → Dec (j ≡ g.slot) → overlaps (range_of (slot_entry n u p i)) (range_of (slot_entry n u p j)) ≡ false
      apart i j h k a b (yes d) (yes e) = absurd (omega (arith, h, d, e))
      apart i j h k a b (yes d) (no e) = rw (at_new i d) (new_apart j k e b)
      apart i j h k a b (no d) (yes e) = rw (at_new j e) (overlaps_symmetric (range_of (slot_entry n u p i)) (wanted q) ∙ new_apart i (omega arith) d a)
      apart i j h k a b (no d) (no e) =
          let m : i < n = omega arith in
          rw (at_old i m d, at_old j k e) ((f.lawful p f.partition).disjoint i j h k (rw (at_old i m d) at a) (rw (at_old j k e) at b))

  there : (r : ℕ) → r < parts → ¬ (r ≡ p) → Lawful n u r
  there r h d =
      let old : (s : ℕ) → s < n → slot_entry n u r s ≡ slot_entry n t r s = λ s k. elsewhere r s k (λ e. d e.0) in
      let l = f.lawful r h in
      record {
        sound = λ s k on. rw (old s k) (l.sound s k (rw (old s k) at on));
        disjoint = λ i j k m a b.
            let x : i < n = omega arith in
            rw (old i x, old j m) (l.disjoint i j k m (rw (old i x) at a) (rw (old j m) at b));
      }

  pub grants_lawful : (r : ℕ) → r < parts → Lawful n u r
  grants_lawful r h = by (ℕ_discrete r p)
    where
      by : Dec (r ≡ p) → Lawful n u r
      by (yes e) = subst (Lawful n u) (sym e) here
      by (no d) = there r h d

-- ---- the builder
module _ (n : ℕ) (t : Table) (p : ℕ) (q : Request) (w : Whole n t) where
  pub add_whole : Whole n (try_add n t p q).table
  unfolding try_add
  add_whole = by (eqb (builder_no n t p q) 0)
    where
      by : (b : Bool) → Whole n (pick b (with_entry t (flat_index n p (first_free n t p)) (granted q)) t)
      by true = with_whole n t (flat_index n p (first_free n t p)) (granted q) w
      by false = w

  pub add_lawful : lawful n t ≡ true → lawful n (try_add n t p q).table ≡ true
  add_lawful l = by (ℕ_discrete (try_add n t p q).no 0)
    where
      by : Dec ((try_add n t p q).no ≡ 0) → lawful n (try_add n t p q).table ≡ true
      by (yes e) = (lawful_exactly n (try_add n t p q).table).1 (grants_lawful n t p q (try_add n t p q).table ((accepts_exactly n t p q).0 e) (grants n t p q w e))
      by (no d) = rw (refused_same n t p q d) l

  -- the accepted entry has exactly the bytes from base to base + size, its base among them
  module _ (ok : (try_add n t p q).no ≡ 0) where
    pub add_has : (a : ℕ) → Has (slot_entry n (try_add n t p q).table p (grants n t p q w ok).slot) a ↔ ((q.base ≤ a) × (a < q.base + q.size))
    add_has a =
        rw (grants n t p q w ok).entry (λ h. (h.from, h.below), λ h. record { on = refl; from = h.0; below = h.1 })

    pub add_covers : covers n (try_add n t p q).table p q.base ≡ true
    add_covers =
        let s = sound_facts q.base q.size ((accepts_exactly n t p q).0 ok).sound in
        (covers_exactly n (try_add n t p q).table p q.base).1
        ((grants n t p q w ok).slot, (grants n t p q w ok).within, (add_has q.base).1 (omega arith, omega (arith, s.least)))
