-- Calls on the device: what each is answered and leaves, set-up, and whose call it is.
use Rattle.std.specs.Prelude.{ℕ, Bool, true, false, cond, not, List, [], ◌∷◌, ◌++◌, ltb, eqb, length, replicate}
use Rattle.std.proofs.Math.Option.{Option, some, none}
use Rattle.laws.specs.Lists.{first_failing}
use Rattle.rules.specs.declared.Guest.{Guest}
use Rattle.rules.specs.declared.Endpoint.{Endpoint}
use Rattle.rules.specs.declared.Access.{Access}
use Rattle.rules.specs.declared.Answer.{Answer}
use Rattle.rules.specs.declared.Answer.TheVariants.{Done, Served, Fetched, Refused}
use Rattle.rules.specs.declared.Refusal.{Refusal}
use Rattle.rules.specs.declared.Refusal.TheVariants.{NoSuchGuest, Unsound, BadConfiguration, UnknownEndpoint}
use Rattle.rules.specs.Sizes.{table_words}
use Rattle.rules.specs.Configuration.{Config, good}
use Rattle.rules.specs.State.{World, Device, config_of, read, write, state_of, start, zero_state}
use Rattle.rules.specs.Guests.{Own, Part, own, part, replace, with_log}
use Rattle.rules.specs.Requests.{writable_length, type_of, request_refusals}
use Rattle.rules.specs.Handlers.{handle, bytes_before}
use Rattle.rules.specs.Access.{access, after_reset, fetchable, fetched_into, fetched_from}
use Rattle.rules.specs.Sound.{sound}

-- what a guest asks of the device, with the bytes and the buffers as lent
pub data Job : Type 0 where
  request : (readable writable : List ℕ) → Job
  reset : Job
  fetch : (buffer : List ℕ) → Job

-- a call: a guest's job, or an access
pub data Call : Type 0 where
  of_guest : (g : Guest) (j : Job) → Call
  access_by : (a : Access) → Call

-- all that a call gives back besides state and table: the answer, and the lent buffer as left (none: empty)
pub record Reply : Type 0 where
  pub answer : Answer
  pub buffer : List ℕ

-- the buffer that a call writes, as lent
abbrev pub lent_for : Job → List ℕ
lent_for (request r w) = w
lent_for reset = []
lent_for (fetch b) = b

abbrev pub lent : Call → List ℕ
lent (of_guest g j) = lent_for j
lent (access_by a) = []

-- a refusal leaves the buffer as lent
abbrev pub refused_with : Refusal → Call → Reply
refused_with e x = record { answer = Refused e; buffer = lent x }

-- RULES OF ONE GUEST

-- "Writable part: exactly 4 bytes, status then three zeros; used length 4." Of a PROBE "128 bytes of properties and a 4-byte
-- tail", "Used length is 132"
abbrev pub served : Own → List ℕ → ℕ × Part → Reply × Part
served o q r = (record { answer = Served (writable_length (type_of q)); buffer = bytes_before o q ++ (r.0 ∷ 0 ∷ 0 ∷ 0 ∷ []) }, r.1)

-- the request, unless a refusal comes first
unfoldable pub requested : Own → Part → List ℕ → List ℕ → Option Refusal → Reply × Part
requested o p r w none = served o r (handle o p r)
requested o p r w (some e) = (record { answer = Refused e; buffer = w }, p)

abbrev pub access_reply : Answer × Part → Reply × Part
access_reply r = (record { answer = r.0; buffer = [] }, r.1)

abbrev pub fetched : ℕ → Part → List ℕ → Reply × Part
fetched n p buffer = (record { answer = Fetched n; buffer = fetched_into n p.log buffer }, with_log (fetched_from n p.log) p)

-- what a guest's job is answered, and the guest's part afterwards
unfoldable pub job_rule : Own → Part → Job → Reply × Part
job_rule o p (request r w) = requested o p r w (first_failing (request_refusals r (length w)))
job_rule o p reset = (record { answer = Done; buffer = [] }, after_reset p)
job_rule o p (fetch b) = fetched (fetchable p.log b) p b

-- what a call of the guest's own is answered, and the guest's part afterwards
unfoldable pub rule : Own → Part → Call → Reply × Part
rule o p (of_guest g j) = job_rule o p j
rule o p (access_by a) = access_reply (access o p a)

-- WHOSE CALL IT IS

-- the owner of endpoint e
abbrev pub owner_of : Endpoint → List ℕ → List ℕ → Option Guest
owner_of e [] os = none
owner_of e (k ∷ es) [] = none
owner_of e (k ∷ es) (o ∷ os) = cond (eqb k e.0) (some (record { 0 = o })) (owner_of e es os)

-- "the requests, resets and fetches under its number; its devices' accesses name an endpoint it owns"
unfoldable pub caller : Config → Call → Option Guest
caller c (of_guest g j) = some g
caller c (access_by a) = owner_of a.endpoint c.endpoints c.owners

abbrev pub is : Guest → Option Guest → Bool
is g none = false
is g (some h) = eqb h.0 g.0

-- the call is one of guest g's own
unfoldable pub owns : Config → Guest → Call → Bool
owns c g x = is g (caller c x)

-- THE DEVICE

-- the rule of the caller on its own part of the device, and the part put back
unfoldable pub work : Config → Guest → World → Call → Reply × World
work c g w x = ((rule (own c g) (part c g w) x).0, replace c g (rule (own c g) (part c g w) x).1 w)

-- "guest number not below the guest count"; an access names no guest
abbrev pub numbered : Config → Call → Bool
numbered c (of_guest g j) = ltb g.0 c.settings.guests
numbered c (access_by a) = true

-- on sound state and table: "access by an endpoint not listed", else the caller's rule
unfoldable pub performed : Device → Option Guest → Call → Reply × Device
performed d none x = (refused_with UnknownEndpoint x, d)
performed d (some g) x = ((work c g (read d) x).0, write c (work c g (read d) x).1)
  where
    c : Config
    c = config_of d.state

-- one call: number 1, then 2, then 6, then the rule. On 1, 2 and 6 "nothing changes"
unfoldable pub step : Device → Call → Reply × Device
step d x =
    cond (not (numbered (config_of d.state) x)) (refused_with NoSuchGuest x, d)
    (cond (not (sound d)) (refused_with Unsound x, d)
    (performed d (caller (config_of d.state) x) x))

-- SET-UP

pub record SetUp : Type 0 where
  pub answer : Answer
  pub device : Device

-- "Set-up: 2 (length; the state given back has every number zero), then 5. On 0 it zeroes the table and starts with all
-- unattached, logs empty." On 5: "table untouched; the state given back has every number zero"
unfoldable pub set_up : Config → List ℕ → SetUp
set_up c table =
    cond (not (eqb (length table) table_words)) (record { answer = Refused Unsound; device = record { state = zero_state; table = table } })
    (cond (not (good c)) (record { answer = Refused BadConfiguration; device = record { state = zero_state; table = table } })
    (record { answer = Done; device = record { state = state_of c (start c); table = replicate table_words 0 } }))
