-- Each call on sound state and table, as the device's step has it, is what the arrays and words give.
use Prim.Native.Nat.{ℕ, ◌+◌, ◌<◌, ◌≤◌}
use native.Mathlib.Omega.{arith}
use mathlib.Core.Path.{◌≡◌, refl, sym, ap, subst, ◌∙◌}
use mathlib.Core.Bool.{Bool, true, false, cond, ◌&&◌}
use mathlib.Core.List.{List, [], ◌∷◌, ◌++◌}
use mathlib.Core.Option.{Option, some, none}
use lib.Dec.{leb, ltb, eqb}
use lib.ListN.{length, get_or, replicate, length-replicate}
use borrow.Author.Tests.{ltb-true, leb-true, eqb-true, eqb-false, lt-ltb, le-leb, not-false}
use Rattle.laws.specs.Lists.{first_failing, pad}
use Rattle.laws.proofs.Tests.{both, both_left, both_right, true-false, cleared}
use Rattle.laws.proofs.Tables.{length-tab}
use Rattle.rules.specs.declared.Guest.{Guest}
use Rattle.rules.specs.declared.Endpoint.{Endpoint}
use Rattle.rules.specs.declared.Answer.TheVariants.{Done, Served, Refused}
use Rattle.rules.specs.declared.Refusal.{Refusal}
use Rattle.rules.specs.declared.Refusal.TheVariants.{NoSuchGuest, UnknownType}
use Rattle.rules.specs.Sizes.{max_guests, status_size, properties_size, probe_size, top_address}
use Rattle.rules.specs.Configuration.{Config}
use Rattle.rules.specs.State.{World, Device, config_of, read, write}
use Rattle.rules.specs.Guests.{Own, Part, own, part, replace}
use Rattle.rules.specs.Requests.{DEVERR, ATTACH, DETACH, MAP, UNMAP, PROBE, writable_length, request_refusals, type_of, domain_field, endpoint_field, attach_reserved, virt_start, virt_end, unmap_reserved, probe_endpoint}
use Rattle.rules.specs.Handlers.{listed, regions_of, handle_attach, handle_detach, handle_map, handle_unmap, status_of, probe_steps, properties_of, probed, asked_for, handle, bytes_before}
use Rattle.rules.specs.Sound.{sound}
use Rattle.rules.specs.Device.{request, reset, of_guest, requested, job_rule, rule, caller, work, step}
use Rattle.rules.specs.Device as rules
use Rattle.rules.proofs.Reading.{sound-good, sound-whole}
use Rattle.rules.proofs.Groups.{sound-facts}
use Rattle.rules.specs.State.{Lengths}
use Rattle.std.specs.Prelude.{Result, Ok, Err}
use Rattle.wire_requests.specs.Parsed.{asked, unless, parsed, map_fields, unmap_fields}
use Rattle.wire_requests.proofs.Laws.{known-type, asked-known}
use Rattle.wire_requests.specs.declared.request.Request.{Request}
use Rattle.wire_requests.specs.declared.request.Request.TheVariants.{Attach, Detach, Map, Unmap, Probe}
use Rattle.refinement.specs.Flat.{StatusAndDevice, with_status, reset_guest}
use Rattle.refinement.specs.Flat as flat
use Rattle.refinement.specs.Requesting.{record_of, refused_request, served, unless_refused, serve}
use Rattle.refinement.specs.Requesting as requesting
use Rattle.rules.proofs.Refusals.{no-such-guest, sound-step}
use Rattle.rules.proofs.Unchanged.{replace-same, kept-is, written, still}
use Rattle.refinement.proofs.Requested.{attach-written, detach-written, map-written, unmap-written, probe-status, probe-bytes, reset-written}

-- what f gives for a request, and z for a refused one
abbrev pub taken : {A : Type 0} → (Request → A) → A → Result Request Refusal → A
taken f z (Ok q) = f q
taken f z (Err a) = z

-- what a PROBE writes before its status is of one length, whatever its outcome
length-probed : (o : Own) (e : Endpoint) → length (probed o e) ≡ properties_size
unfolding probed
length-probed o e = go (listed e o.endpoints)
  where
    go : (b : Bool) → length (cond b (pad properties_size 0 (properties_of (regions_of e o.endpoints o.regions))) (replicate properties_size 0)) ≡ properties_size
    go true = length-tab properties_size (λ i. get_or (properties_of (regions_of e o.endpoints o.regions)) i 0)
    go false = length-replicate {A = ℕ} properties_size 0

-- the used length of a request that is not refused
used-length : (o : Own) (r b : List ℕ) → first_failing (request_refusals r (length b)) ≡ none → length (bytes_before o r) + status_size ≡ writable_length (type_of r)
unfolding bytes_before
used-length o r b f = go (eqb (type_of r) PROBE) refl
  where
    known : (leb ATTACH (type_of r) && leb (type_of r) PROBE) ≡ true
    known = not-false _ (cleared (request_refusals r (length b)) f).1.0

    go : (t : Bool) → eqb (type_of r) PROBE ≡ t → length (cond t (probed o (probe_endpoint r)) []) + status_size ≡ cond (leb ATTACH (type_of r) && leb (type_of r) UNMAP) status_size (cond t probe_size 0)
    go true x = rw (length-probed o (probe_endpoint r), eqb-true (type_of r) PROBE x)
    go false x =
        let low = both_left (leb ATTACH (type_of r)) _ known in
        let high = leb-true (type_of r) PROBE (both_right (leb ATTACH (type_of r)) _ known) in
        let ne : (type_of r ≡ PROBE → ⊥) = eqb-false (type_of r) PROBE x in
        rw (low, le-leb (type_of r) UNMAP (omega (arith, high, ne)))

module _ (d : Device) (h : sound d ≡ true) (k : Lengths d.state) where
  abbrev c : Config
  c = config_of d.state

  abbrev w : World
  w = read d

  -- RESET

  pub reset-step : (g : Guest) → ltb g.0 d.state.settings.guests ≡ true → step d (of_guest g reset) ≡ (record { answer = Done; buffer = [] }, reset_guest d g)
  reset-step g l =
      sound-step d (of_guest g reset) (unfold config_of in l) h
      ∙ unfold caller rules.performed work rule job_rule in
      ap (λ (e : Device). (record { answer = Done; buffer = [] }, e)) (sym (ap (λ (e : Device). reset_guest e g) (written d h k) ∙ reset-written (config_of d.state) (kept-is d h k) (read d) (sound-whole d h) g (unfold config_of in ltb-true g.0 d.state.settings.guests l)))

  -- REQUESTS

  module _ (g : Guest) (l : ltb g.0 d.state.settings.guests ≡ true) where
    m : g.0 < (config_of d.state).settings.guests
    m = unfold config_of in ltb-true g.0 d.state.settings.guests l

    -- what a rule gives, put back
    abbrev back : ℕ × Part → StatusAndDevice
    back r = with_status r.0 (write (config_of d.state) (replace (config_of d.state) g r.1 (read d)))

    abbrev o : Own
    o = own (config_of d.state) g

    abbrev p : Part
    p = part (config_of d.state) g (read d)

    -- the guest and one record more have places
    placed : (ltb g.0 max_guests && ltb (write (config_of d.state) (read d)).state.live top_address) ≡ true
    placed =
        let few : d.state.settings.guests ≤ max_guests = unfold config_of in (sound-good d h).guests.1 in
        let one : g.0 < d.state.settings.guests = ltb-true g.0 d.state.settings.guests l in
        let live = (sound-facts d h).frame.live in
        subst (λ (e : Device). (ltb g.0 max_guests && ltb e.state.live top_address) ≡ true) (written d h k)
        (both (ltb g.0 max_guests) _ (lt-ltb g.0 max_guests (omega (arith, few, one))) (lt-ltb d.state.live top_address (omega (arith, live))))

    map-here : (r : List ℕ) → flat.handle_map (write (config_of d.state) (read d)) g (domain_field r) (record_of g (domain_field r) (map_fields r)) ≡ back (handle_map (own (config_of d.state) g) (part (config_of d.state) g (read d)) (domain_field r) (asked_for (own (config_of d.state) g) r))
    map-here r = unfold own flat.handle_map in rw placed (map-written (config_of d.state) (kept-is d h k) (read d) (sound-whole d h) g m (domain_field r) (record_of g (domain_field r) (map_fields r)) refl)

    -- what the handler of a request's type gives
    abbrev handled : Device → Result Request Refusal → StatusAndDevice
    handled e x = taken (λ (q : Request). requesting.handle e g q) (with_status DEVERR e) x

    handle-step : (r : List ℕ) → handled d (asked r) ≡ back (handle (own (config_of d.state) g) (part (config_of d.state) g (read d)) r)
    handle-step r = ap (λ (e : Device). handled e (asked r)) (written d h k) ∙ unfold asked handle in go (eqb (type_of r) ATTACH) (eqb (type_of r) DETACH) (eqb (type_of r) MAP) (eqb (type_of r) UNMAP) (eqb (type_of r) PROBE)
      where
        same : with_status DEVERR (write (config_of d.state) (read d)) ≡ back (DEVERR, part (config_of d.state) g (read d))
        same = ap (λ (v : World). with_status DEVERR (write (config_of d.state) v)) (sym (replace-same (config_of d.state) (read d) (sound-whole d h) g))

        probe-here : requesting.handle (write (config_of d.state) (read d)) g (Probe (probe_endpoint r)) ≡ back (status_of (probe_steps (own (config_of d.state) g) (probe_endpoint r)), part (config_of d.state) g (read d))
        probe-here =
            unfold requesting.handle in
            (ap (λ (n : ℕ). with_status n (write (config_of d.state) (read d))) (probe-status (config_of d.state) (kept-is d h k) (read d) (sound-whole d h) g m (probe_endpoint r))
            ∙ ap (λ (v : World). with_status (status_of (probe_steps (own (config_of d.state) g) (probe_endpoint r))) (write (config_of d.state) v)) (sym (replace-same (config_of d.state) (read d) (sound-whole d h) g)))

        go : (t u v x y : Bool)
            → handled (write (config_of d.state) (read d)) (cond t (Ok (Attach (domain_field r) (endpoint_field r) (attach_reserved r))) (cond u (Ok (Detach (domain_field r) (endpoint_field r) (attach_reserved r))) (cond v (Ok (Map (domain_field r) (map_fields r))) (cond x (Ok (Unmap (domain_field r) (unmap_fields r))) (cond y (Ok (Probe (probe_endpoint r))) (Err UnknownType))))))
            ≡ back (cond t (handle_attach (own (config_of d.state) g) (part (config_of d.state) g (read d)) (domain_field r) (endpoint_field r) (attach_reserved r)) (cond u (handle_detach (own (config_of d.state) g) (part (config_of d.state) g (read d)) (domain_field r) (endpoint_field r) (attach_reserved r)) (cond v (handle_map (own (config_of d.state) g) (part (config_of d.state) g (read d)) (domain_field r) (asked_for (own (config_of d.state) g) r)) (cond x (handle_unmap (own (config_of d.state) g) (part (config_of d.state) g (read d)) (domain_field r) (virt_start r) (virt_end r) (unmap_reserved r)) (cond y (status_of (probe_steps (own (config_of d.state) g) (probe_endpoint r)), part (config_of d.state) g (read d)) (DEVERR, part (config_of d.state) g (read d)))))))
        go true u v x y = unfold requesting.handle in attach-written (config_of d.state) (kept-is d h k) (read d) (sound-whole d h) g m (domain_field r) (endpoint_field r) (attach_reserved r)
        go false true v x y = unfold requesting.handle in detach-written (config_of d.state) (kept-is d h k) (read d) (sound-whole d h) g m (domain_field r) (endpoint_field r) (attach_reserved r)
        go false false true x y = unfold requesting.handle in map-here r
        go false false false true y = unfold requesting.handle in unmap-written (config_of d.state) (kept-is d h k) (read d) (sound-whole d h) g m (domain_field r) (virt_start r) (virt_end r) (unmap_reserved r)
        go false false false false true = probe-here
        go false false false false false = unfold requesting.handle in same

    -- the bytes before the status
    abbrev written_before : Result Request Refusal → List ℕ
    written_before x = taken (λ (q : Request). requesting.bytes_before d g q) [] x

    bytes-step : (r : List ℕ) → written_before (asked r) ≡ bytes_before (own (config_of d.state) g) r
    unfolding asked bytes_before
    bytes-step r = go (eqb (type_of r) ATTACH) refl (eqb (type_of r) DETACH) refl (eqb (type_of r) MAP) refl (eqb (type_of r) UNMAP) refl (eqb (type_of r) PROBE) refl
      where
        probe-here : requesting.bytes_before d g (Probe (probe_endpoint r)) ≡ probed (own (config_of d.state) g) (probe_endpoint r)
        probe-here =
            unfold requesting.bytes_before in
            (ap (λ (e : Device). flat.probe_bytes e.state g (flat.endpoint_index e.state (probe_endpoint r))) (written d h k)
            ∙ probe-bytes (config_of d.state) (kept-is d h k) (read d) (sound-whole d h) g m (probe_endpoint r))

        -- a request of another type has none
        other : (n : ℕ) → eqb (type_of r) n ≡ true → eqb n PROBE ≡ false → (y : Bool) → eqb (type_of r) PROBE ≡ y → [] ≡ cond y (probed (own (config_of d.state) g) (probe_endpoint r)) []
        other n e f true z = true-false (eqb n PROBE) (rw (eqb-true (type_of r) n e) at z) f
        other n e f false z = refl

        go : (t : Bool) → eqb (type_of r) ATTACH ≡ t → (u : Bool) → eqb (type_of r) DETACH ≡ u → (v : Bool) → eqb (type_of r) MAP ≡ v → (x : Bool) → eqb (type_of r) UNMAP ≡ x → (y : Bool) → eqb (type_of r) PROBE ≡ y
            → written_before (cond t (Ok (Attach (domain_field r) (endpoint_field r) (attach_reserved r))) (cond u (Ok (Detach (domain_field r) (endpoint_field r) (attach_reserved r))) (cond v (Ok (Map (domain_field r) (map_fields r))) (cond x (Ok (Unmap (domain_field r) (unmap_fields r))) (cond y (Ok (Probe (probe_endpoint r))) (Err UnknownType))))))
            ≡ cond y (probed (own (config_of d.state) g) (probe_endpoint r)) []
        go true a u b v e x f y z = unfold requesting.bytes_before in other ATTACH a refl y z
        go false a true b v e x f y z = unfold requesting.bytes_before in other DETACH b refl y z
        go false a false b true e x f y z = unfold requesting.bytes_before in other MAP e refl y z
        go false a false b false e true f y z = unfold requesting.bytes_before in other UNMAP f refl y z
        go false a false b false e false f true z = probe-here
        go false a false b false e false f false z = unfold requesting.bytes_before in refl

    -- a request that is refused, and one that is worked
    refused-step : (r b : List ℕ) (a : Refusal) → first_failing (request_refusals r (length b)) ≡ some a → step d (of_guest g (request r b)) ≡ (record { answer = Refused a; buffer = b }, d)
    refused-step r b a f =
        sound-step d (of_guest g (request r b)) (unfold config_of in l) h
        ∙ unfold caller rules.performed work rule job_rule requested in
        rw f (ap (λ (e : Device). (record { answer = Refused a; buffer = b }, e)) (still d h k g (part (config_of d.state) g (read d)) refl))

    served-step : (r b : List ℕ) → first_failing (request_refusals r (length b)) ≡ none → step d (of_guest g (request r b)) ≡ served (written_before (asked r)) (handled d (asked r))
    served-step r b f =
        sound-step d (of_guest g (request r b)) (unfold config_of in l) h
        ∙ unfold caller rules.performed work rule job_rule requested in
        rw f (sym (rw (bytes-step r, handle-step r) (ap (λ (n : ℕ). (record { answer = Served n; buffer = bytes_before (own (config_of d.state) g) r ++ ((handle (own (config_of d.state) g) (part (config_of d.state) g (read d)) r).0 ∷ 0 ∷ 0 ∷ 0 ∷ []) }, (back (handle (own (config_of d.state) g) (part (config_of d.state) g (read d)) r)).left)) (used-length (own (config_of d.state) g) r b f))))

    -- which is what it is parsed to, since it is of a known type
    parsed-step : (r b : List ℕ) → first_failing (request_refusals r (length b)) ≡ none → (x : Result Request Refusal) → asked r ≡ x → unless_refused d g b x ≡ served (written_before x) (handled d x)
    unfolding unless_refused
    parsed-step r b f (Ok q) e = refl
    parsed-step r b f (Err a) e = let k = known-type r (length b) f in absurd (asked-known r a k.0 k.1 e)

  -- a request on sound state and table is the device's step
  pub request-step : (g : Guest) (r b : List ℕ) → serve d g r b ≡ step d (of_guest g (request r b))
  unfolding serve parsed
  request-step g r b = go (ltb g.0 d.state.settings.guests) refl (first_failing (request_refusals r (length b))) refl
    where
      go : (t : Bool) → ltb g.0 d.state.settings.guests ≡ t → (m : Option Refusal) → first_failing (request_refusals r (length b)) ≡ m
          → cond t (unless_refused d g b (unless m (asked r))) (refused_request d b NoSuchGuest) ≡ step d (of_guest g (request r b))
      go false n m f = sym (no-such-guest d (of_guest g (request r b)) (unfold config_of in n))
      go true l none f = unfold unless in (parsed-step g l r b f (asked r) refl ∙ sym (served-step g l r b f))
      go true l (some a) f = unfold unless unless_refused in sym (refused-step g l r b a f)
