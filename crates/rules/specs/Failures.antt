-- The status that a request's outcome, as the code gives it, is answered with.
use Rattle.std.specs.Prelude.{ℕ, Result, Ok, Err}
use Rattle.rules.specs.Requests.{OK, UNSUPP, DEVERR, INVAL, RANGE, NOENT, FAULT, NOMEM}
use Rattle.rules.specs.declared.requests.Failure.{Failure}
use Rattle.rules.specs.declared.requests.Failure.TheVariants.{Unsupp, Deverr, Inval, Range, Noent, Fault, Nomem}

abbrev pub failure_status : Failure → ℕ
failure_status Unsupp = UNSUPP
failure_status Deverr = DEVERR
failure_status Inval = INVAL
failure_status Range = RANGE
failure_status Noent = NOENT
failure_status Fault = FAULT
failure_status Nomem = NOMEM

abbrev pub outcome_status : Result (Unit {0}) Failure → ℕ
outcome_status (Ok u) = OK
outcome_status (Err f) = failure_status f
