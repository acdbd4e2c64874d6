-- What an answer says, case by case: the number, and the MPU that stands in it, and nothing else. By the translations alone. Assumes nothing.
use mathlib.Core.Path.{◌≡◌, refl}
use Rattle.std.specs.Prelude.{Some, None, Ok, Err}
use Rattle.refusal.specs.declared.Refusal.{Refusal}
use Rattle.refusal.specs.declared.Refused.{Refused}
use Rattle.refusal.specs.Refusal.{number}
use Rattle.device.specs.declared.Mpu.{Mpu}
use Rattle.device.specs.RegisterWrite.{refused_no, written_of}

pub taken_says : refused_no None ≡ 0
taken_says = refl

pub reason_says : (e : Refusal) → refused_no (Some e) ≡ number e
reason_says e = refl

pub written_says : (m : Mpu) → written_of (Ok m) ≡ record { no = 0; mpu = m }
written_says m = refl

pub refused_written_says : (e : Refused Mpu) → written_of (Err e) ≡ record { no = number e.why; mpu = e.held }
refused_written_says e = refl
