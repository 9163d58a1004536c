-- "Numbers a call gives back", and the values beside them: "On any number but 0, used length, address and fetched count are 0."
use Rattle.std.specs.Prelude.{ℕ}
use Rattle.rules.specs.declared.Refusal.{Refusal}
use Rattle.rules.specs.declared.Refusal.TheVariants.{NoSuchGuest, Unsound, UnknownType, WrongLength, BadConfiguration, UnknownEndpoint}
use Rattle.rules.specs.declared.Cause.{Cause}
use Rattle.rules.specs.declared.Cause.TheVariants.{Unattached, Unmapped}
use Rattle.rules.specs.declared.Answer.{Answer}
use Rattle.rules.specs.declared.Answer.TheVariants.{Done, Served, Through, Fetched, Refused, Blocked}
use Rattle.rules.specs.declared.Values.{Values}

-- the number of each refusal
abbrev pub refusal_number : Refusal → ℕ
refusal_number NoSuchGuest = 1
refusal_number Unsound = 2
refusal_number UnknownType = 3
refusal_number WrongLength = 4
refusal_number BadConfiguration = 5
refusal_number UnknownEndpoint = 6

-- "access blocked, endpoint unattached", "access blocked, no mapping permits it"
abbrev pub cause_number : Cause → ℕ
cause_number Unattached = 7
cause_number Unmapped = 8

-- document 01's number and values for each case of an answer: "used length 4", "An access lands at the address given with 0",
-- "Fetch [..] gives their number"
abbrev pub values : Answer → Values
values Done = record { number = 0; used = 0; address = 0; count = 0 }
values (Served n) = record { number = 0; used = n; address = 0; count = 0 }
values (Through a) = record { number = 0; used = 0; address = a; count = 0 }
values (Fetched n) = record { number = 0; used = 0; address = 0; count = n }
values (Refused r) = record { number = refusal_number r; used = 0; address = 0; count = 0 }
values (Blocked c) = record { number = cause_number c; used = 0; address = 0; count = 0 }

abbrev pub number : Answer → ℕ
number a = (values a).number

abbrev pub used_length : Answer → ℕ
used_length a = (values a).used

abbrev pub address_of : Answer → ℕ
address_of a = (values a).address

abbrev pub fetched_count : Answer → ℕ
fetched_count a = (values a).count
