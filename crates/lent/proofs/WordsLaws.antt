-- A list of records is judged as its flat words are: record by record they give the same range, and there are as many. So every law of the flat form is one of
-- this form. Assumes nothing.
use mathlib.Core.Path.{◌≡◌, refl, sym, ◌∙◌}
use mathlib.Core.List.{List, [], ◌∷◌, map}
use Prim.Native.Nat.{ℕ, zero, suc, ◌+◌, ◌*◌}
use native.Mathlib.Omega.{arith}
use lib.ListN.{length, get_or, get_or-map}
use Rattle.region.specs.List.{record_at, records, judged}
use Rattle.region.specs.List.{range_at as ranged}
use Rattle.lent.specs.declared.MpuRegion.{MpuRegion}
use Rattle.lent.specs.Records.{no_record, range_of, range_at, judged_of, words}

pub same_range : (ys : List MpuRegion) (i : ℕ) → range_at ys i ≡ record_at (words ys) i
same_range [] i = refl
same_range (r ∷ ys) zero = refl
same_range (r ∷ ys) (suc i) =
    let e : 3 * suc i ≡ suc (suc (suc (3 * i))) = omega arith in
    let f : 3 * suc i + 1 ≡ suc (suc (suc (3 * i + 1))) = omega arith in
    same_range ys i ∙ sym (λ k. record { base = get_or (words (r ∷ ys)) (e k) 0; size = get_or (words (r ∷ ys)) (f k) 0 })

three_each : (ys : List MpuRegion) → length (words ys) ≡ 3 * length ys
three_each [] = refl
three_each (r ∷ ys) = let e : length (words ys) ≡ 3 * length ys = three_each ys in omega arith

pub as_many : (ys : List MpuRegion) → length ys ≡ records (words ys)
as_many ys = let e : length (words ys) ≡ 3 * length ys = three_each ys in omega arith

pub as_words : (ys : List MpuRegion) (n : ℕ) → judged_of ys n ≡ judged (record_at (words ys)) (records (words ys)) n
as_words ys n = λ k. judged (λ i. same_range ys i k) (as_many ys k) n

-- the list's ranges, one a record, are judged as the records are
pub as_records : (ys : List MpuRegion) (n : ℕ) → judged (ranged (map range_of ys)) (length ys) n ≡ judged_of ys n
as_records ys n = λ k. judged (λ i. get_or-map range_of ys i no_record k) (length ys) n

-- two lists that differ in attr alone are judged alike
pub attr_unread : (ys zs : List MpuRegion) (n : ℕ) → length ys ≡ length zs → ((i : ℕ) → ((get_or ys i no_record).base ≡ (get_or zs i no_record).base) × ((get_or ys i no_record).size ≡ (get_or zs i no_record).size)) → judged_of ys n ≡ judged_of zs n
attr_unread ys zs n e same = λ k. judged (λ i. record { base = (same i).0 k; size = (same i).1 k }) (e k) n
