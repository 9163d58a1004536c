-- Accesses and fetches on sound state and table, as the device's step has them, are what the arrays and words give.
use Prim.Native.Nat.{ℕ, ◌+◌, ◌-◌, ◌*◌, ◌/◌, ◌≤◌, ◌<◌, min}
use mathlib.Core.Path.{◌≡◌, refl, sym, ap, ◌∙◌}
use mathlib.Core.Bool.{Bool, true, false, cond}
use mathlib.Core.List.{List, [], ◌++◌}
use mathlib.Core.Option.{Option, some, none}
use native.Mathlib.Omega.{arith}
use native.Mathlib.Nat.{min-le_left}
use lib.Dec.{ltb, eqb}
use lib.ListN.{length, get_or, take, drop}
use lib.Seq.{get_or-take, length-take-le}
use borrow.Author.Tests.{ltb-true, eq-eqb}
use Rattle.laws.specs.Lists.{tab}
use Rattle.laws.proofs.Filters.{find-keep}
use Rattle.laws.proofs.Tables.{length-tab, get_d-tab, tab-is}
use Rattle.laws.proofs.Tests.{both_left}
use Rattle.rules.specs.declared.Guest.{Guest}
use Rattle.rules.specs.declared.Endpoint.{Endpoint}
use Rattle.rules.specs.declared.Domain.{Domain}
use Rattle.rules.specs.declared.Mapping.{Mapping}
use Rattle.rules.specs.declared.Fault.{Fault}
use Rattle.rules.specs.declared.Answer.{Answer}
use Rattle.rules.specs.declared.Answer.TheVariants.{Through, Fetched, Refused, Blocked}
use Rattle.rules.specs.declared.Refusal.TheVariants.{UnknownEndpoint}
use Rattle.rules.specs.declared.Cause.{Cause}
use Rattle.rules.specs.declared.Cause.TheVariants.{Unattached, Unmapped}
use Rattle.rules.specs.declared.Access.{Access}
use Rattle.rules.specs.Sizes.{max_faults, fault_size}
use Rattle.rules.specs.Configuration.{Config}
use Rattle.rules.specs.Table.{key_of, guest_of}
use Rattle.rules.specs.State.{Attachment, Log, Device, no_fault, config_of, read, write, flag_of, number_of, fault_at, log_at}
use Rattle.rules.specs.Guests.{Part, own, part, replace, with_log}
use Rattle.rules.specs.Handlers.{attachment_of, of_key}
use Rattle.rules.specs.Access.{permits, find_mapping, fault_of, logged, fetchable, fetched_into, fetched_from, bytes_of}
use Rattle.rules.specs.Access as A
use Rattle.rules.specs.Sound.{guest, sound}
use Rattle.rules.specs.Device.{fetch, of_guest, access_by, Reply, job_rule, rule, owner_of, caller, work, step}
use Rattle.rules.specs.Device as rules
use Rattle.rules.proofs.Worlds.{caller-below}
use Rattle.rules.proofs.Reading.{sound-good, sound-whole, sound-listed, log-read}
use Rattle.rules.specs.State.{Lengths}
use Rattle.rules.proofs.Refusals.{sound-step}
use Rattle.rules.proofs.Unchanged.{kept-is, written, still}
use Rattle.state_log.specs.Changes.{log_fault}
use Rattle.state_log.specs.Dropped.{drop_faults}
use Rattle.state_endpoints.specs.Search.{index_of}
use Rattle.refinement.specs.Flat.{device, endpoint_index, is_attached, live_records, answer_of, decision_at, decision, after_access, fetch_count, fetch_bytes, owner_at}
use Rattle.refinement.proofs.Places.{owner_of-at}
use Rattle.refinement.proofs.Leaving.{attachment-here, flag-here, number-here, of-key-mine}
use Rattle.refinement.proofs.Requested.{small-domain, fault-written, fetch-written}

-- a record that permits an access by a key is of the key
permits-key : (key : ℕ) (a : Access) (r : Mapping) → permits key a r ≡ true → of_key key r ≡ true
unfolding permits
permits-key key a r h = both_left (of_key key r) _ h

module _ (d : Device) (h : sound d ≡ true) (k : Lengths d.state) where
  c : Config
  c = config_of d.state

  listed-is : d.state.listed ≡ length (config_of d.state).endpoints
  listed-is = sym (sound-listed d h)

  -- the owner of an endpoint, by its place in the arrays
  owner_here : (e : Endpoint) → owner_of e (config_of d.state).endpoints (config_of d.state).owners ≡ cond (ltb (endpoint_index d.state e) d.state.listed) (some (guest (get_or d.state.owners (endpoint_index d.state e) 0))) none
  unfolding config_of
  owner_here e =
      owner_of-at e (config_of d.state).endpoints (config_of d.state).owners (sym (sound-good d h).sizes)
      ∙ ap (λ n. cond (ltb (endpoint_index d.state e) n) (some (guest (get_or (config_of d.state).owners (endpoint_index d.state e) 0))) none) (sym listed-is)
      ∙ go (ltb (endpoint_index d.state e) d.state.listed) refl
    where
      go : (b : Bool) → ltb (endpoint_index d.state e) d.state.listed ≡ b → cond b (some (guest (get_or (config_of d.state).owners (endpoint_index d.state e) 0))) none ≡ cond b (some (guest (get_or d.state.owners (endpoint_index d.state e) 0))) none
      go true x = ap (λ n. some (guest n)) (get_or-take d.state.listed d.state.owners (endpoint_index d.state e) 0 (ltb-true _ _ x))
      go false x = refl

  module _ (x : Access) (g : Guest) (owner : owner_of x.endpoint (config_of d.state).endpoints (config_of d.state).owners ≡ some g) where
    m : g.0 < (config_of d.state).settings.guests
    m = caller-below (config_of d.state) (access_by x) g (sound-good d h) refl (unfold caller in owner)

    abbrev here : Attachment
    here = attachment_of x.endpoint (own (config_of d.state) g).endpoints (part (config_of d.state) g (read d)).attachments

    found_here : (dom : Domain) → attachment_of x.endpoint (own (config_of d.state) g).endpoints (part (config_of d.state) g (read d)).attachments ≡ some dom
        → find_mapping (key_of (own (config_of d.state) g).guest dom) x (part (config_of d.state) g (read d)).records ≡ find_mapping (key_of g dom) x (live_records d)
    found_here dom a =
        unfold find_mapping own part read in
        find-keep (λ r. eqb (guest_of r) g.0) (permits (key_of g dom) x) (live_records d) (λ r p. eq-eqb (guest_of r) g.0 (of-key-mine g dom r (small-domain (config_of d.state) (kept-is d h k) (read d) (sound-whole d h) g m x.endpoint dom a) (permits-key (key_of g dom) x r p)))

    -- what the arrays say at the endpoint's place
    place_is : endpoint_index d.state x.endpoint ≡ index_of x.endpoint.0 (config_of d.state).endpoints
    place_is = unfold config_of in refl

    attachment-is : attachment_of x.endpoint (own (config_of d.state) g).endpoints (part (config_of d.state) g (read d)).attachments ≡ get_or (read d).attachments (index_of x.endpoint.0 (config_of d.state).endpoints) none
    attachment-is = attachment-here (config_of d.state) (kept-is d h k) (read d) (sound-whole d h) g m x.endpoint owner

    flag_is : is_attached d.state (endpoint_index d.state x.endpoint) ≡ eqb (flag_of (attachment_of x.endpoint (own (config_of d.state) g).endpoints (part (config_of d.state) g (read d)).attachments)) 1
    flag_is =
        ap (λ n. is_attached d.state n) place_is
        ∙ ap (λ (v : Device). is_attached v.state (index_of x.endpoint.0 (config_of d.state).endpoints)) (written d h k)
        ∙ flag-here (config_of d.state) (kept-is d h k) (read d) (sound-whole d h) g m x.endpoint owner
        ∙ ap (λ (a : Attachment). eqb (flag_of a) 1) (sym attachment-is)

    number_is : get_or d.state.domains (endpoint_index d.state x.endpoint) 0 ≡ number_of (attachment_of x.endpoint (own (config_of d.state) g).endpoints (part (config_of d.state) g (read d)).attachments)
    number_is =
        ap (λ n. get_or d.state.domains n 0) place_is
        ∙ ap (λ (v : Device). get_or v.state.domains (index_of x.endpoint.0 (config_of d.state).endpoints) 0) (written d h k)
        ∙ number-here (config_of d.state) (kept-is d h k) (read d) (sound-whole d h) g m x.endpoint owner
        ∙ ap number_of (sym attachment-is)

    -- a fault logged for the owner
    logged-here : (why : Cause) → get_or d.state.owners (endpoint_index d.state x.endpoint) 0 ≡ g.0
        → device (log_fault d.state (owner_at d.state (endpoint_index d.state x.endpoint)) (fault_of why x)) d.table
        ≡ write (config_of d.state) (replace (config_of d.state) g (with_log (logged (fault_of why x) (part (config_of d.state) g (read d)).log) (part (config_of d.state) g (read d))) (read d))
    logged-here why o =
        ap (λ n. device (log_fault d.state (guest n) (fault_of why x)) d.table) o
        ∙ ap (λ (v : Device). device (log_fault v.state g (fault_of why x)) v.table) (written d h k)
        ∙ fault-written (config_of d.state) (kept-is d h k) (read d) (sound-whole d h) g m (fault_of why x)

    same_here : d ≡ write (config_of d.state) (replace (config_of d.state) g (part (config_of d.state) g (read d)) (read d))
    same_here = sym (still d h k g (part (config_of d.state) g (read d)) refl)

    -- an answer, and what it leaves, as the arrays give them
    abbrev flat : Answer → Reply × Device
    flat a = (record { answer = a; buffer = [] }, device (after_access d.state x a) d.table)

    -- and as the rule gives them
    abbrev ruled : Answer × Part → Reply × Device
    ruled r = (record { answer = r.0; buffer = [] }, write (config_of d.state) (replace (config_of d.state) g r.1 (read d)))

    looked : get_or d.state.owners (endpoint_index d.state x.endpoint) 0 ≡ g.0 → (o : Option Mapping) → flat (answer_of x o) ≡ ruled (A.translated x (part (config_of d.state) g (read d)) o)
    unfolding after_access answer_of A.translated A.blocked
    looked w none = ap (λ (v : Device). (record { answer = Blocked Unmapped; buffer = [] }, v)) (logged-here Unmapped w)
    looked w (some r) = ap (λ (v : Device). (record { answer = Through (x.address - r.start + r.phys); buffer = [] }, v)) same_here

    unattached : ltb (endpoint_index d.state x.endpoint) d.state.listed ≡ true → eqb (get_or d.state.attached (endpoint_index d.state x.endpoint) 0) 1 ≡ false → decision d x ≡ Blocked Unattached
    unfolding decision_at
    unattached l off = rw (l, off)

    by-lookup : (dom : Domain) → ltb (endpoint_index d.state x.endpoint) d.state.listed ≡ true → eqb (get_or d.state.attached (endpoint_index d.state x.endpoint) 0) 1 ≡ true → get_or d.state.owners (endpoint_index d.state x.endpoint) 0 ≡ g.0 → get_or d.state.domains (endpoint_index d.state x.endpoint) 0 ≡ dom.0
        → decision d x ≡ answer_of x (find_mapping (key_of g dom) x (live_records d))
    unfolding decision_at
    by-lookup dom l on w number = rw (l, on, w, number)

    -- the rule's answer, by the endpoint's attachment
    abbrev ruled_by : Attachment → Reply × Device
    ruled_by a = ruled (A.decided (own (config_of d.state) g) (part (config_of d.state) g (read d)) x a)

    flat-unattached : get_or d.state.owners (endpoint_index d.state x.endpoint) 0 ≡ g.0 → flat (Blocked Unattached) ≡ ruled_by none
    unfolding after_access A.decided A.blocked
    flat-unattached w = ap (λ (v : Device). (record { answer = Blocked Unattached; buffer = [] }, v)) (logged-here Unattached w)

    flat-found : (dom : Domain) → get_or d.state.owners (endpoint_index d.state x.endpoint) 0 ≡ g.0 → flat (answer_of x (find_mapping (key_of (own (config_of d.state) g).guest dom) x (part (config_of d.state) g (read d)).records)) ≡ ruled_by (some dom)
    unfolding A.decided
    flat-found dom w = looked w (find_mapping (key_of (own (config_of d.state) g).guest dom) x (part (config_of d.state) g (read d)).records)

    decided-by : ltb (endpoint_index d.state x.endpoint) d.state.listed ≡ true → get_or d.state.owners (endpoint_index d.state x.endpoint) 0 ≡ g.0 → (a : Attachment) → attachment_of x.endpoint (own (config_of d.state) g).endpoints (part (config_of d.state) g (read d)).attachments ≡ a → flat (decision d x) ≡ ruled_by a
    decided-by l w none a = ap (λ (y : Answer). flat y) (unattached l (flag_is ∙ ap (λ (y : Attachment). eqb (flag_of y) 1) a)) ∙ flat-unattached w
    decided-by l w (some dom) a =
        ap (λ (y : Answer). flat y) (by-lookup dom l (flag_is ∙ ap (λ (y : Attachment). eqb (flag_of y) 1) a) w (number_is ∙ ap number_of a) ∙ ap (λ (o : Option Mapping). answer_of x o) (sym (found_here dom a)))
        ∙ flat-found dom w

    decided-here : ltb (endpoint_index d.state x.endpoint) d.state.listed ≡ true → get_or d.state.owners (endpoint_index d.state x.endpoint) 0 ≡ g.0
        → flat (decision d x) ≡ ruled_by (attachment_of x.endpoint (own (config_of d.state) g).endpoints (part (config_of d.state) g (read d)).attachments)
    decided-here l w = decided-by l w (attachment_of x.endpoint (own (config_of d.state) g).endpoints (part (config_of d.state) g (read d)).attachments) refl

  unlisted : (x : Access) → ltb (endpoint_index d.state x.endpoint) d.state.listed ≡ false → decision d x ≡ Refused UnknownEndpoint
  unfolding decision_at
  unlisted x l = rw l

  listed-step : (x : Access) (g : Guest) → owner_of x.endpoint (config_of d.state).endpoints (config_of d.state).owners ≡ some g → ltb (endpoint_index d.state x.endpoint) d.state.listed ≡ true → get_or d.state.owners (endpoint_index d.state x.endpoint) 0 ≡ g.0
      → rules.performed d (some g) (access_by x) ≡ (record { answer = decision d x; buffer = [] }, device (after_access d.state x (decision d x)) d.table)
  unfolding rules.performed work rule A.access
  listed-step x g owner l w = sym (decided-here x g owner l w)

  unlisted-step : (x : Access) → rules.performed d none (access_by x) ≡ (record { answer = Refused UnknownEndpoint; buffer = [] }, device (after_access d.state x (Refused UnknownEndpoint)) d.table)
  unfolding rules.performed after_access
  unlisted-step x = refl

  by-owner : (x : Access) → rules.performed d (owner_of x.endpoint (config_of d.state).endpoints (config_of d.state).owners) (access_by x) ≡ (record { answer = decision d x; buffer = [] }, device (after_access d.state x (decision d x)) d.table)
  by-owner x = go (ltb (endpoint_index d.state x.endpoint) d.state.listed) refl
    where
      go : (b : Bool) → ltb (endpoint_index d.state x.endpoint) d.state.listed ≡ b
          → rules.performed d (owner_of x.endpoint (config_of d.state).endpoints (config_of d.state).owners) (access_by x) ≡ (record { answer = decision d x; buffer = [] }, device (after_access d.state x (decision d x)) d.table)
      go true l =
          let owner : owner_of x.endpoint (config_of d.state).endpoints (config_of d.state).owners ≡ some (guest (get_or d.state.owners (endpoint_index d.state x.endpoint) 0)) = owner_here x.endpoint ∙ rw l in
          rw owner (listed-step x (guest (get_or d.state.owners (endpoint_index d.state x.endpoint) 0)) owner l refl)
      go false l =
          let owner : owner_of x.endpoint (config_of d.state).endpoints (config_of d.state).owners ≡ none = owner_here x.endpoint ∙ rw l in
          rw (owner, unlisted x l) (unlisted-step x)

  pub access-step : (x : Access) → step d (access_by x) ≡ (record { answer = decision d x; buffer = [] }, device (after_access d.state x (decision d x)) d.table)
  unfolding caller
  access-step x = sound-step d (access_by x) refl h ∙ by-owner x

  -- FETCH

  take-tab : {A : Type 0} (z : A) (n l : ℕ) (f : ℕ → A) → n ≤ l → take n (tab l f) ≡ tab n f
  take-tab z n l f s = sym (tab-is n f (take n (tab l f)) z (length-take-le n (tab l f) (rw (length-tab l f) s)) (λ i j. sym (get_or-take n (tab l f) i z j ∙ get_d-tab l f i z (omega arith))))

  pub fetch-step : (g : Guest) (b : List ℕ) → ltb g.0 d.state.settings.guests ≡ true
      → step d (of_guest g (fetch b)) ≡ (record { answer = Fetched (fetch_count d.state g (length b)); buffer = fetch_bytes d.state g (fetch_count d.state g (length b)) b }, device (drop_faults d.state g (fetch_count d.state g (length b))) d.table)
  fetch-step g b l =
      sound-step d (of_guest g (fetch b)) (unfold config_of in l) h
      ∙ unfold caller rules.performed work rule job_rule in
      (rw count (ap (λ (p : List ℕ × Device). (record { answer = Fetched n; buffer = p.0 }, p.1)) pair))
    where
      below : g.0 < (config_of d.state).settings.guests
      below = unfold config_of in ltb-true g.0 d.state.settings.guests l

      n : ℕ
      n = fetch_count d.state g (length b)

      log_is : (part (config_of d.state) g (read d)).log ≡ log_at d.state g.0
      log_is = unfold part in log-read d g.0 (unfold config_of in below)

      count : fetchable (part (config_of d.state) g (read d)).log b ≡ n
      count = ap (λ (q : Log). fetchable q b) log_is ∙ ap (λ i. min i (length b / fault_size)) (length-tab (get_or d.state.logged g.0 0) (λ j. fault_at d.state (max_faults * g.0 + j)))

      bytes : fetched_into n (part (config_of d.state) g (read d)).log b ≡ fetch_bytes d.state g n b
      bytes = ap (λ (q : Log). fetched_into n q b) log_is ∙ unfold fetched_into fetch_bytes in ap (λ (q : List Fault). bytes_of q ++ drop (fault_size * n) b) (take-tab no_fault n (get_or d.state.logged g.0 0) (λ j. fault_at d.state (max_faults * g.0 + j)) (min-le_left (get_or d.state.logged g.0 0) (length b / fault_size)))

      kept-device : write (config_of d.state) (replace (config_of d.state) g (with_log (fetched_from n (part (config_of d.state) g (read d)).log) (part (config_of d.state) g (read d))) (read d)) ≡ device (drop_faults d.state g n) d.table
      kept-device = sym (ap (λ (v : Device). device (drop_faults v.state g n) v.table) (written d h k) ∙ fetch-written (config_of d.state) (kept-is d h k) (read d) (sound-whole d h) g below n)

      pair : ◌≡◌ {A = List ℕ × Device} (fetched_into n (part (config_of d.state) g (read d)).log b, write (config_of d.state) (replace (config_of d.state) g (with_log (fetched_from n (part (config_of d.state) g (read d)).log) (part (config_of d.state) g (read d))) (read d))) (fetch_bytes d.state g n b, device (drop_faults d.state g n) d.table)
      pair = rw (bytes, kept-device)
