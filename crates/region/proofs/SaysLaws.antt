-- What an answer says, case by case: the number and the yes or no, or the places, that stand in it, and nothing else. By the translations alone. Assumes nothing.
use mathlib.Core.Path.{◌≡◌, refl}
use Rattle.std.specs.Prelude.{ℕ, Bool, false, [], ◌∷◌, Ok, Err}
use Rattle.refusal.specs.declared.Refusal.{Refusal}
use Rattle.refusal.specs.Refusal.{number}
use Rattle.region.specs.declared.Fault.TheVariants as fault
use Rattle.region.specs.Overlap.{overlap_of}
use Rattle.region.specs.List.{judged_by, fault_no, number_of, places_of}

pub overlap_says : (b : Bool) → overlap_of (Ok b) ≡ record { no = 0; yes = b }
overlap_says b = refl

pub refused_overlap_says : (e : Refusal) → overlap_of (Err e) ≡ record { no = number e; yes = false }
refused_overlap_says e = refl

pub valid_says : (X : Type 0) (x : X) → (number_of (judged_by (Ok x)) ≡ 0) × (places_of (judged_by (Ok x)) ≡ [])
valid_says X x = (refl, refl)

pub short_says : (X : Type 0) → (number_of (judged_by {X = X} (Err fault.Short)) ≡ 8) × (places_of (judged_by {X = X} (Err fault.Short)) ≡ [])
short_says X = (refl, refl)

pub unsound_says : (X : Type 0) (at : ℕ) (e : Refusal) →
    (number_of (judged_by {X = X} (Err (fault.Unsound at e))) ≡ number e) × (places_of (judged_by {X = X} (Err (fault.Unsound at e))) ≡ at ∷ [])
unsound_says X at e = (refl, refl)

pub pair_says : (X : Type 0) (i j : ℕ) →
    (number_of (judged_by {X = X} (Err (fault.Pair i j))) ≡ 6) × (places_of (judged_by {X = X} (Err (fault.Pair i j))) ≡ i ∷ j ∷ [])
pair_says X i j = (refl, refl)

-- ---- the number of a fault alone
pub short_number : fault_no fault.Short ≡ 8
short_number = refl

pub unsound_number : (at : ℕ) (e : Refusal) → fault_no (fault.Unsound at e) ≡ number e
unsound_number at e = refl

pub pair_number : (i j : ℕ) → fault_no (fault.Pair i j) ≡ 6
pair_number i j = refl
