-- An access on sound state and table: its answer is the decision, its address is one of 64 bits, and what it leaves is the
-- device's step.
use Prim.Native.Nat.{ℕ, ◌+◌, ◌-◌, ◌≤◌}
use mathlib.Core.List.{[]}
use mathlib.Core.Path.{◌≡◌, refl, sym}
use mathlib.Core.Bool.{Bool, true, false, cond, not}
use mathlib.Core.Option.{Option, some, none}
use native.Mathlib.Omega.{arith}
use lib.Dec.{leb, ltb, eqb}
use lib.ListN.{get_or}
use borrow.Author.Tests.{le-leb, leb-true}
use Rattle.laws.specs.Lists.{all?}
use Rattle.laws.proofs.Tests.{Clear}
use Rattle.laws.proofs.Filters.{all-imp, found}
use Rattle.rules.specs.declared.Mapping.{Mapping}
use Rattle.rules.specs.declared.Answer.{Answer}
use Rattle.rules.specs.declared.Answer.TheVariants.{Refused, Blocked}
use Rattle.rules.specs.declared.Refusal.TheVariants.{Unsound, UnknownEndpoint}
use Rattle.rules.specs.declared.Cause.TheVariants.{Unattached}
use Rattle.rules.specs.declared.Access.{Access}
use Rattle.rules.specs.Sizes.{max_endpoints, top_address}
use Rattle.rules.specs.Configuration.{window_last}
use Rattle.rules.specs.Table.{key_of}
use Rattle.rules.specs.State.{Device, Lengths, config_of, read}
use Rattle.rules.specs.Guests.{own, part, records_of}
use Rattle.rules.specs.Handlers.{form_steps}
use Rattle.rules.specs.Access.{permits, find_mapping}
use Rattle.rules.specs.Sound.{guest, sound, record_good}
use Rattle.rules.specs.Device.{access_by, step}
use Rattle.rules.proofs.Parts.{record-form}
use Rattle.rules.proofs.Records.{all-guests}
use Rattle.rules.proofs.Chains.{formed}
use Rattle.rules.proofs.Worlds.{Whole}
use Rattle.rules.proofs.Accesses.{permits-covers}
use Rattle.rules.proofs.Reading.{sound-whole}
use Rattle.rules.proofs.Refusals.{unsound}
use Rattle.rules.proofs.Shape.{small_count}
use Rattle.refinement.specs.Flat.{device, owner_at, endpoint_index, live_records, answer_of, decision_at, decision, after_access}
use Rattle.refinement.specs.Translating.{in_words, translate, access_whole}
use Rattle.refinement.proofs.Answered.{access-step}

module _ (d : Device) (h : sound d ≡ true) (k : Lengths d.state) (wide : (i : ℕ) → window_last d.state.settings i ≤ 18446744073709551615) where
  -- the last address that a record leads to is one of 64 bits
  abbrev lands : Mapping → Bool
  lands r = leb (r.phys + r.end - r.start) 18446744073709551615

  whole : Whole (config_of d.state) (read d)
  whole = sound-whole d h

  form-lands : (n : ℕ) (r : Mapping) → Clear (form_steps (own (config_of d.state) (guest n)) r) → lands r ≡ true
  form-lands n r f =
      let h : r.phys + r.end - r.start ≤ window_last d.state.settings n = unfold own config_of in (formed (own (config_of d.state) (guest n)) r f).phys-end-within.1 in
      le-leb (r.phys + r.end - r.start) 18446744073709551615 (omega (arith, wide n))

  all-land : all? lands (read d).records ≡ true
  all-land =
      all-guests (config_of d.state).settings.guests (λ n. lands) (read d).records whole.guests
      (λ n l. unfold part in all-imp (record_good (own (config_of d.state) (guest n)) (part (config_of d.state) (guest n) (read d)).attachments) lands (records_of (guest n) (read d).records) (λ r o. form-lands n r (record-form (own (config_of d.state) (guest n)) (part (config_of d.state) (guest n) (read d)).attachments r o)) (whole.parts (guest n) l).records)

  lands-fit : (x : Access) (key : ℕ) (r : Mapping) → find_mapping key x (live_records d) ≡ some r → x.address - r.start + r.phys ≤ 18446744073709551615
  lands-fit x key r e =
      let q = found (permits key x) lands (live_records d) r (unfold find_mapping in e) (unfold read in all-land) in
      let v = permits-covers key x r q.0 in
      omega (arith, v.from, v.to, leb-true (r.phys + r.end - r.start) 18446744073709551615 q.1)

  pub answer-decides : (x : Access) → translate d x ≡ decision d x
  unfolding decision_at in_words answer_of
  answer-decides x = rw (le-leb d.state.listed max_endpoints (small_count d h k)) (go (ltb place d.state.listed) (eqb (get_or d.state.attached place 0) 1) (find_mapping key x (live_records d)) refl)
    where
      place : ℕ
      place = endpoint_index d.state x.endpoint

      key : ℕ
      key = key_of (owner_at d.state place) (record { 0 = get_or d.state.domains place 0 })

      go : (b c : Bool) (o : Option Mapping) → find_mapping key x (live_records d) ≡ o
          → in_words (cond (not b) (Refused UnknownEndpoint) (cond (not c) (Blocked Unattached) (answer_of x o))) ≡ cond (not b) (Refused UnknownEndpoint) (cond (not c) (Blocked Unattached) (answer_of x o))
      go false c o e = refl
      go true false o e = refl
      go true true none e = refl
      go true true (some r) e = rw (le-leb (x.address - r.start + r.phys) top_address (lands-fit x key r e))

  pub access-answered : (x : Access) → access_whole d x ≡ step d (access_by x)
  access-answered x = rw (answer-decides x) (sym (access-step d h k x))

-- the entry at its returns
module _ (d : Device) (x : Access) where
  pub access-unsound : sound d ≡ false → (record { answer = Refused Unsound; buffer = [] }, d) ≡ step d (access_by x)
  access-unsound f = sym (unsound d (access_by x) refl f)

  pub access-works : sound d ≡ true → Lengths d.state → ((i : ℕ) → window_last d.state.settings i ≤ 18446744073709551615) → (a : Answer) → a ≡ translate d x
      → (record { answer = a; buffer = [] }, device (after_access d.state x a) d.table) ≡ step d (access_by x)
  access-works f k wide a y = rw y (access-answered d f k wide x)
