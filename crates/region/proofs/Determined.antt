-- One answer: of each public routine, two results that its own contract allows at the same arguments are one, each being what the contract's
-- equation says. Assumes nothing.
use mathlib.Core.Path.{◌≡◌, refl, sym, ◌∙◌, ap}
use mathlib.Core.Bool.{Bool, false}
use Prim.Native.Nat.{ℕ, ◌+◌, ◌*◌, ◌/◌}
use lib.ListN.{length, get_or}
use Rattle.std.specs.Prelude.{Result}
use contract.Lifetimes.{Lfts}
use Rattle.region.specs.Overlap.{Overlap, overlaps, overlap_answer, overlap_of}
use Rattle.region.proofs.AnswerLaws.{judged_one}
use Rattle.region.specs.declared.Fault.{Fault}
use Rattle.refusal.specs.declared.Refusal.{Refusal}
use Rattle.refusal.specs.Refusal.{no_of}
use Rattle.refusal.proofs.AnswerLaws.{answer_one}
use Rattle.region.specs.declared.Range.{Range}
use Rattle.laws.specs.Power.{is_pow2}
use Rattle.region.specs.Sound.{region_no}
use Rattle.region.specs.List.{judged, judged_by}
use Rattle.region.proofs.is_power_of_two.Reads as is_power_of_two
use Rattle.region.proofs.validate_region.Reads as validate_region
use Rattle.region.proofs.regions_overlap.Reads as regions_overlap
use Rattle.region.proofs.yes_of.Reads as yes_of
use Rattle.region.proofs.ranges_meet.Reads as ranges_meet
use Rattle.region.proofs.validate_region_set.Reads as validate_region_set
use Rattle.region.proofs.validate_slice.Reads as validate_slice
use Rattle.region.proofs.lists.validate_list.Reads as validate_list
use Rattle.region.proofs.lists.RefSliceU32RegionList.count.Reads as words_count
use Rattle.region.proofs.lists.RefSliceU32RegionList.range.Reads as words_range

is_power_of_two_once : (a : _) (r s : Bool) (e f : _) → is_power_of_two.Post tt a r e → is_power_of_two.Post tt a s f → r ≡ s
is_power_of_two_once a r s e f p q = p ∙ sym q

validate_region_once : (a : _) (r s : Result Unit Refusal) (e f : _) → validate_region.Post tt a r e → validate_region.Post tt a s f → r ≡ s
validate_region_once a r s e f p q = answer_one tt r s (p ∙ sym q) refl

regions_overlap_once : (a : _) (r s : Result Bool Refusal) (e f : _) → regions_overlap.Post tt a r e → regions_overlap.Post tt a s f → r ≡ s
regions_overlap_once a r s e f p q = answer_one false r s (ap (λ (k : Overlap). k.no) (p ∙ sym q)) (ap (λ (k : Overlap). k.yes) (p ∙ sym q))

yes_of_once : (a : _) (r s : Bool) (e f : _) → yes_of.Post tt a r e → yes_of.Post tt a s f → r ≡ s
yes_of_once a r s e f p q = p ∙ sym q

ranges_meet_once : (a : _) (r s : Bool) (e f : _) → ranges_meet.Post tt a r e → ranges_meet.Post tt a s f → r ≡ s
ranges_meet_once a r s e f p q = p ∙ sym q

validate_region_set_once : (κs : Lfts 1) (a : _) (r s : Result Unit Fault) (e f : _) → validate_region_set.Post κs a r e → validate_region_set.Post κs a s f → r ≡ s
validate_region_set_once κs a r s e f p q = judged_one r s (p.0 ∙ sym q.0)

validate_slice_once : (t u v w x y z κs : _) (a : _) (r s : Result Unit Fault) (e f : _) → validate_slice.Post t u v w x y z κs a r e → validate_slice.Post t u v w x y z κs a s f → r ≡ s
validate_slice_once t u v w x y z κs a r s e f p q = judged_one r s (p ∙ sym q)

validate_list_once : (t u v w x y z κs : _) (a : _) (r s : Result Unit Fault) (e f : _) → validate_list.Post t u v w x y z κs a r e → validate_list.Post t u v w x y z κs a s f → r ≡ s
validate_list_once t u v w x y z κs a r s e f p q = judged_one r s (p ∙ sym q)

-- ---- and it is the definition's answer about the very arguments given: no proved caller need ask it
regions_overlap_asked : (a b : Range) (r : Result Bool Refusal) (e : _) → regions_overlap.Post tt (a, (b, tt)) r e → overlap_of r ≡ overlap_answer a b
regions_overlap_asked a b r e q = q

yes_of_asked : (a : Result Bool Refusal) (r : Bool) (e : _) → yes_of.Post tt (a, tt) r e → r ≡ (overlap_of a).yes
yes_of_asked a r e q = q

ranges_meet_asked : (a b : Range) (r : Bool) (e : _) → ranges_meet.Post tt (a, (b, tt)) r e → r ≡ overlaps a b
ranges_meet_asked a b r e q = q

is_power_of_two_asked : (n : ℕ) (r : Bool) (e : _) → is_power_of_two.Post tt (n, tt) r e → r ≡ is_pow2 n
is_power_of_two_asked n r e q = q

validate_region_asked : (b s : ℕ) (r : Result Unit Refusal) (e : _) → validate_region.Post tt (b, (s, tt)) r e → no_of r ≡ region_no b s
validate_region_asked b s r e q = q

-- ---- flat words as a list of their own: three a record, of record i words 3i and 3i + 1
words_count_asked : (κs : _) (ws : _) (r : ℕ) (e : _) → words_count.Post κs (ws, tt) r e → r ≡ length ws.now / 3
words_count_asked κs ws r e q = q

words_range_asked : (κs : _) (ws : _) (i : ℕ) (r : Range) (e : _) → words_range.Post κs (ws, (i, tt)) r e → (r.base ≡ get_or ws.now (3 * i) 0) × (r.size ≡ get_or ws.now (3 * i + 1) 0)
words_range_asked κs ws i r e q = (ap (λ (k : Range). k.base) q, ap (λ (k : Range). k.size) q)

-- any list, by the range that it tells for each place and by how many it tells
validate_list_asked : (t u v w x y z κs : _) (l : _) (n : ℕ) (r : Result Unit Fault) (e : _) → validate_list.Post t u v w x y z κs (l, (n, tt)) r e → judged_by r ≡ judged (w.range_at l) (w.held l) n
validate_list_asked t u v w x y z κs l n r e q = q

-- ---- and nothing is asked for: what holds of one list and count holds of any other; of flat words, nothing has to hold
validate_list_any : (t u v w x y z κs : _) (l m : _) (n k : ℕ) → validate_list.Pre t u v w x y z κs (l, (n, tt)) → validate_list.Pre t u v w x y z κs (m, (k, tt))
validate_list_any t u v w x y z κs l m n k p = p

words_range_any : (κs : _) (ws : _) (i : ℕ) → words_range.Pre κs (ws, (i, tt))
words_range_any κs ws i = tt
