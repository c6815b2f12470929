-- Why changes are taken back is never told as that they were made.
use Rattle.std.proofs.Common.{ℤ, ℕ, List, Result, Ok, Err}
use Rattle.dml_exec.specs.declared.refusal.Refusal.{Refusal}
use Rattle.dml_exec.specs.declared.written.Halt.{Halt}
use Rattle.dml_exec.specs.declared.written.Halt.TheVariants as halt
use Rattle.dml_exec.specs.declared.written.Written.{Written}
use Rattle.dml_exec.specs.declared.written.Written.TheVariants as written
use Rattle.dml_exec.specs.Writing.{outcome}

-- a fact of what is told, by its two forms
pub by_outcome : (P : Result Written Refusal → Type 0) → ((number : ℤ) (name : List ℕ) → P (Ok (written.Refused number name))) → ((refusal : Refusal) → P (Err refusal)) → (why : Halt) → P (outcome why)
by_outcome P breaks refuses (halt.Broken number name) = breaks number name
by_outcome P breaks refuses (halt.Refused refusal) = refuses refusal
