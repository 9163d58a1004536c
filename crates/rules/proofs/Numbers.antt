-- Each number is given exactly under its condition.
use Prim.Native.Nat.{ℕ}
use mathlib.Core.Path.{◌≡◌, refl, sym, ap, ◌∙◌}
use mathlib.Core.Bool.{Bool, true, false, cond, not, ◌&&◌, ◌||◌}
use mathlib.Core.List.{List, [], ◌∷◌}
use mathlib.Core.Option.{Option, some, none}
use lib.Dec.{leb, ltb, eqb}
use lib.ListN.{length, replicate}
use borrow.Author.Tests.{ltb-true, ltb-false, le-leb, lt-leb}
use Rattle.laws.proofs.Tests.{not-both, not-leb}
use Rattle.laws.specs.Lists.{any?, find}
use Rattle.rules.specs.declared.Guest.{Guest}
use Rattle.rules.specs.declared.Domain.{Domain}
use Rattle.rules.specs.declared.Mapping.{Mapping}
use Rattle.rules.specs.declared.Access.{Access}
use Rattle.rules.specs.declared.Answer.TheVariants.{Done, Refused}
use Rattle.rules.specs.declared.Refusal.TheVariants.{Unsound, UnknownType, WrongLength, BadConfiguration}
use Rattle.rules.specs.Sizes.{table_words}
use Rattle.rules.specs.Answers.{number}
use Rattle.rules.specs.Configuration.{good}
use Rattle.rules.specs.Table.{key_of}
use Rattle.rules.specs.State.{Device, config_of, read, state_of, start, zero_state}
use Rattle.rules.specs.Guests.{Own, Part, own, part}
use Rattle.rules.specs.Requests.{type_of, readable_length, writable_length}
use Rattle.rules.specs.Access.{permits, blocked, translated, decided}
use Rattle.rules.specs.Sound.{sound}
use Rattle.rules.specs.Device.{Job, request, reset, fetch, of_guest, access_by, requested, job_rule, rule, caller, work, performed, step, SetUp, set_up}
use Rattle.rules.specs.Claims.{first_number, no_such_guest, attached_to, attached_number, owned_number, RequestNumbers, ResetNumbers, FetchNumbers, AccessNumbers, SetUpNumbers}
use Rattle.rules.proofs.Refusals.{no-such-guest, unsound, sound-step}
use Rattle.rules.proofs.Accesses.{answered, looked-up}

-- what the bytes of a request are refused for
abbrev by_length : List ℕ → List ℕ → List (Bool × ℕ)
by_length r w =
    (ltb (length r) 4, 4)
    ∷ (ltb (type_of r) 1 || ltb 5 (type_of r), 3)
    ∷ (not (eqb (length r) (readable_length (type_of r))) || not (eqb (length w) (writable_length (type_of r))), 4)
    ∷ []

-- JOBS: 1, then 2, then what the rule gives

job-number : (d : Device) (g : Guest) (j : Job) (l : List (Bool × ℕ))
    → number (job_rule (own (config_of d.state) g) (part (config_of d.state) g (read d)) j).0.answer ≡ first_number l
    → number (step d (of_guest g j)).0.answer ≡ first_number ((no_such_guest d g, 1) ∷ (not (sound d), 2) ∷ l)
job-number d g j l h = go (ltb g.0 d.state.settings.guests) refl (sound d) refl
  where
    go : (t : Bool) → ltb g.0 d.state.settings.guests ≡ t → (s : Bool) → sound d ≡ s
        → number (step d (of_guest g j)).0.answer ≡ first_number ((no_such_guest d g, 1) ∷ (not (sound d), 2) ∷ l)
    go false e s f = rw (no-such-guest d (of_guest g j) (unfold config_of in e), le-leb d.state.settings.guests g.0 (ltb-false g.0 d.state.settings.guests e))
    go true e false f = rw (unsound d (of_guest g j) (unfold config_of in e) f, lt-leb d.state.settings.guests g.0 (ltb-true g.0 d.state.settings.guests e), f)
    go true e true f =
        rw (sound-step d (of_guest g j) (unfold config_of in e) f, lt-leb d.state.settings.guests g.0 (ltb-true g.0 d.state.settings.guests e), f)
        (unfold caller performed work rule in h)

known-type : (t : ℕ) → not (leb 1 t && leb t 5) ≡ (ltb t 1 || ltb 5 t)
known-type t = not-both (leb 1 t) (leb t 5) ∙ rw (not-leb 1 t, not-leb t 5)

requested-number : (o : Own) (p : Part) (r w : List ℕ)
    → number (job_rule o p (request r w)).0.answer
    ≡ first_number (by_length r w)
unfolding job_rule requested
requested-number o p r w = rw (sym (known-type (type_of r))) (go (ltb (length r) 4) (not (leb 1 (type_of r) && leb (type_of r) 5)) (not (eqb (length r) (readable_length (type_of r)))) (not (eqb (length w) (writable_length (type_of r)))))
  where
    go : (a b c e : Bool)
        → number (requested o p r w (cond a (some WrongLength) (cond b (some UnknownType) (cond c (some WrongLength) (cond e (some WrongLength) none))))).0.answer
        ≡ cond a 4 (cond b 3 (cond (c || e) 4 0))
    go true b c e = refl
    go false true c e = refl
    go false false true e = refl
    go false false false true = refl
    go false false false false = refl

pub request-numbers : RequestNumbers
request-numbers d g r w = job-number d g (request r w) (by_length r w) (requested-number (own (config_of d.state) g) (part (config_of d.state) g (read d)) r w)

pub reset-numbers : ResetNumbers
reset-numbers d g = job-number d g reset [] (unfold job_rule in refl)

pub fetch-numbers : FetchNumbers
fetch-numbers d g b = job-number d g (fetch b) [] (unfold job_rule in refl)

-- ACCESSES

translated-number : (x : Access) (p : Part) (q : Mapping → Bool) (l : List Mapping) → number (translated x p (find q l)).0 ≡ cond (any? q l) 0 8
unfolding translated blocked
translated-number x p q [] = refl
translated-number x p q (r ∷ l) = go (q r) (translated-number x p q l)
  where
    go : (b : Bool) → number (translated x p (find q l)).0 ≡ cond (any? q l) 0 8 → number (translated x p (cond b (some r) (find q l))).0 ≡ cond (b || any? q l) 0 8
    go true i = refl
    go false i = i

module _ (d : Device) (a : Access) (s : sound d ≡ true) where
  attached-number : (g : Guest) → caller (config_of d.state) (access_by a) ≡ some g → (m : Option Domain) → attached_to d g a.endpoint ≡ m
      → number (decided (own (config_of d.state) g) (part (config_of d.state) g (read d)) a m).0 ≡ attached_number d a g m
  unfolding decided blocked
  attached-number g e none i = refl
  attached-number g e (some domain) i = rw (looked-up d s a g e domain i) (translated-number a (part (config_of d.state) g (read d)) (permits (key_of g domain) a) (read d).records)

  owned-number : (m : Option Guest) → caller (config_of d.state) (access_by a) ≡ m → number (step d (access_by a)).0.answer ≡ owned_number d a m
  owned-number none e = rw (sound-step d (access_by a) refl s, e) (unfold performed in refl)
  owned-number (some g) e = ap number (answered d s a g e) ∙ attached-number g e (attached_to d g a.endpoint) refl

pub access-numbers : AccessNumbers
access-numbers d a = go (sound d) refl
  where
    go : (s : Bool) → sound d ≡ s → number (step d (access_by a)).0.answer ≡ cond (not s) 2 (owned_number d a (caller (config_of d.state) (access_by a)))
    go false s = rw (unsound d (access_by a) refl s)
    go true s = owned-number d a s (caller (config_of d.state) (access_by a)) refl

-- SET-UP

pub set-up-numbers : SetUpNumbers
unfolding set_up
set-up-numbers c table = go (not (eqb (length table) table_words)) (not (good c))
  where
    go : (l b : Bool)
        → number (cond {A = SetUp} l (record { answer = Refused Unsound; device = record { state = zero_state; table = table } })
        (cond {A = SetUp} b (record { answer = Refused BadConfiguration; device = record { state = zero_state; table = table } })
        (record { answer = Done; device = record { state = state_of c (start c); table = replicate table_words 0 } }))).answer
        ≡ cond l 2 (cond b 5 0)
    go true b = refl
    go false true = refl
    go false false = refl
