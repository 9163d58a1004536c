-- Laws of an answer's number as text.
use Prim.Native.Nat.{◌+◌, ◌<◌}
use mathlib.Core.Path.{◌≡◌}
use mathlib.Core.List.{[], ◌∷◌}
use native.Mathlib.Omega.{arith}
use Rattle.rules.specs.declared.Answer.{Answer}
use Rattle.rules.specs.Answers.{refusal_number, cause_number, number}
use Rattle.rules.specs.declared.Answer.TheVariants.{Done, Served, Through, Fetched, Refused, Blocked}
use Rattle.rules.specs.declared.Refusal.{Refusal}
use Rattle.rules.specs.declared.Refusal.TheVariants.{NoSuchGuest, Unsound, UnknownType, WrongLength, BadConfiguration, UnknownEndpoint}
use Rattle.rules.specs.declared.Cause.{Cause}
use Rattle.rules.specs.declared.Cause.TheVariants.{Unattached, Unmapped}
use Rattle.journal_text.specs.Text.{decimal}
use Rattle.journal_text.proofs.Numbers.{one-digit}

-- an answer's number has one digit
refusal-small : (r : Refusal) → refusal_number r < 10
refusal-small NoSuchGuest = omega arith
refusal-small Unsound = omega arith
refusal-small UnknownType = omega arith
refusal-small WrongLength = omega arith
refusal-small BadConfiguration = omega arith
refusal-small UnknownEndpoint = omega arith

cause-small : (c : Cause) → cause_number c < 10
cause-small Unattached = omega arith
cause-small Unmapped = omega arith

pub small : (a : Answer) → number a < 10
small Done = omega arith
small (Served n) = omega arith
small (Through x) = omega arith
small (Fetched n) = omega arith
small (Refused r) = refusal-small r
small (Blocked c) = cause-small c

pub number-text : (a : Answer) → decimal (number a) ≡ (48 + number a) ∷ []
number-text a = one-digit (number a) (small a)
