-- What an answer says, case by case: the number and the value that stand in it, and nothing else. By the translations alone. Assumes nothing.
use mathlib.Core.Path.{◌≡◌, refl}
use Rattle.std.specs.Prelude.{Ok, Err}
use Rattle.refusal.specs.declared.Refused.{Refused as HandedBack}
use Rattle.refusal.specs.Refusal.{number}
use Rattle.device.specs.declared.Mpu.{Mpu}
use Rattle.switch.specs.declared.Switch.{Switch}
use Rattle.switch.specs.declared.Progress.TheVariants as progress
use Rattle.switch.specs.declared.Logged.{Logged}
use Rattle.switch.specs.Switch.{Wrote, Finished, Refused, no_log, started_of, stepped_of}
use Rattle.switch.specs.Applied.{applied_of}

pub started_says : (s : Switch) → started_of (Ok s) ≡ record { no = 0; switch = s }
started_says s = refl

pub refused_start_says : (e : HandedBack Switch) → started_of (Err e) ≡ record { no = number e.why; switch = e.held }
refused_start_says e = refl

pub wrote_says : (s : Switch) → stepped_of (Ok (progress.Wrote s)) ≡ record { did = Wrote; switch = s }
wrote_says s = refl

pub finished_says : (s : Switch) → stepped_of (Ok (progress.Finished s)) ≡ record { did = Finished; switch = s }
finished_says s = refl

pub refused_step_says : (e : HandedBack Switch) → stepped_of (Err e) ≡ record { did = Refused (number e.why); switch = e.held }
refused_step_says e = refl

pub applied_says : (l : Logged) → applied_of (Ok l) ≡ record { no = 0; mpu = l.mpu; log = l.log }
applied_says l = refl

pub refused_program_says : (e : HandedBack Mpu) → applied_of (Err e) ≡ record { no = number e.why; mpu = e.held; log = no_log 8 }
refused_program_says e = refl
