-- The MPU's registers and their fields.
--   slot_count                                == the slots of this MPU
--   ctrl                                      == the register number that names the control
--   slot_at ss k                              == the pair (RBAR, RASR) of slot k; past the last, a pair of zeros
--   bits h l x                                == bits h:l of x; bit x == its lowest bit is set
--   enabled, size_field, subregions, ap_field == of a pair: RASR bit 0, bits 5:1, bits 15:8, bits 26:24
--   enables, priv_def_ena                     == of a control value: ENABLE, bit 0; PRIVDEFENA, bit 2
--   allowed c                                 == the control value is 0, 1, 4 or 5
use Rattle.std.specs.Prelude.{Bool, ◌||◌, List, ℕ, ◌+◌, ◌-◌, ◌/◌, ◌%◌, ◌^◌, eqb, get_or}
use Rattle.device.specs.declared.Pair.{Pair}

abbrev pub slot_count : ℕ
slot_count = 8

abbrev pub ctrl : ℕ
ctrl = 4294967295

abbrev pub slot_at : List Pair → ℕ → Pair
slot_at ss k = get_or ss k (record { rbar = 0; rasr = 0 })

abbrev pub bits : ℕ → ℕ → ℕ → ℕ
bits h l x = x / 2 ^ l % 2 ^ (h + 1 - l)

abbrev pub bit : ℕ → Bool
bit x = eqb (x % 2) 1

abbrev pub enabled : Pair → Bool
enabled p = bit p.rasr

abbrev pub size_field : Pair → ℕ
size_field p = bits 5 1 p.rasr

abbrev pub subregions : Pair → ℕ
subregions p = bits 15 8 p.rasr

abbrev pub ap_field : Pair → ℕ
ap_field p = bits 26 24 p.rasr

abbrev pub enables : ℕ → Bool
enables c = bit c

abbrev pub priv_def_ena : ℕ → Bool
priv_def_ena c = bit (c / 4)

unfoldable pub allowed : ℕ → Bool
allowed c = eqb c 0 || eqb c 1 || eqb c 4 || eqb c 5
