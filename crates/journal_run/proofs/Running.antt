-- The records after the start, on sound state and table: what the calls tell of them, and what they keep.
use Prim.Native.Nat.{ℕ, ◌*◌, ◌≤◌}
use mathlib.Core.Path.{◌≡◌, refl, sym, ap, subst}
use mathlib.Core.Bool.{Bool, true, false, cond, not}
use mathlib.Core.List.{List}
use mathlib.Core.Option.{Option, some, none}
use native.Mathlib.Omega.{arith}
use lib.Dec.{ltb}
use lib.ListN.{get_or, replicate, get_or-eq_default}
use borrow.Author.Tests.{ltb-true, ltb-false}
use Rattle.laws.proofs.Tests.{either_way}
use Rattle.laws.specs.Lists.{tab}
use Rattle.laws.proofs.Tables.{length-tab, get_d-tab}
use Rattle.rules.specs.declared.Guest.{Guest}
use Rattle.rules.specs.declared.Access.{Access}
use Rattle.rules.specs.declared.State.{State}
use Rattle.rules.specs.Sizes.{max_guests, top_address, fault_size, status_size, probe_size}
use Rattle.rules.specs.Configuration.{Config, window_last}
use Rattle.rules.specs.State.{World, Device, Lengths, config_of, trimmed, trimmed_regions, state_of, write}
use Rattle.rules.specs.Device.{request, reset, fetch, Call, of_guest, access_by, Reply, numbered, caller, performed, step}
use Rattle.rules.specs.Sound.{sound}
use Rattle.rules.proofs.Claims.{calls-keep-sound}
use Rattle.refinement.specs.Flat.{device}
use Rattle.refinement.specs.Requesting.{serve}
use Rattle.refinement.proofs.Stepped.{request-step}
use Rattle.refinement.proofs.Resetting.{reset-is-step}
use Rattle.refinement.proofs.Fetching.{fetch-is-step}
use Rattle.call_access.proofs.Stepping.{access-answered}
use Rattle.journal_records.specs.declared.Item.{Item}
use Rattle.journal_records.specs.declared.Item.TheVariants.{Cut, Wrong, NamedGuest, NamedEndpoint, Start, NamedRegion, Request, Probe, AccessBy, Reset, Fetch}
use Rattle.journal_records.specs.Items.{front, request_bytes}
use Rattle.journal_session.specs.declared.session.Session.{Session}
use Rattle.journal_session.specs.declared.session.StepResult.{StepResult}
use Rattle.journal_session.specs.Steps.{session_device, fetched_step, running, step_of, step_record, requested_step, probed_step, accessed_step, cleared_step}
use Rattle.journal_session.specs.Matching.{Matches}
use Rattle.journal_run.specs.Running.{Wide, Ready}
use Rattle.refinement.specs.Translating.{access_whole}
use Rattle.refinement.specs.Resetting.{reset_whole}
use Rattle.refinement.specs.Fetching.{fetched_whole}

-- a session that has started runs
pub runs : (p : Session) → p.started ≡ true → running p.state ≡ p
runs p e = ap (λ (z : Bool). record { started = z; state = p.state }) (sym e)

-- WHAT A CALL KEEPS

-- what is written has the lengths of a state's arrays
write-shaped : (c : Config) (w : World) → Lengths (write c w).state
unfolding write state_of trimmed trimmed_regions
write-shaped c w =
    record {
      shares = length-tab _ _;
      firsts = length-tab _ _;
      lasts = length-tab _ _;
      endpoints = length-tab _ _;
      owners = length-tab _ _;
      attached = length-tab _ _;
      domains = length-tab _ _;
      regions = length-tab _ _;
      logged = length-tab _ _;
      lost = length-tab _ _;
      reasons = length-tab _ _;
      flags = length-tab _ _;
      sources = length-tab _ _;
      addresses = length-tab _ _;
    }

-- and the windows that it had, or none
write-wide : (c : Config) (w : World) → Wide c.settings → Wide (write c w).state.settings
unfolding write state_of trimmed
write-wide c w h i = go (ltb i max_guests) refl
  where
    last : ℕ → ℕ
    last g = cond (ltb g c.settings.guests) (window_last c.settings g) 0

    go : (b : Bool) → ltb i max_guests ≡ b → get_or (tab max_guests last) i 0 ≤ top_address
    go true e = rw (get_d-tab max_guests last i 0 (ltb-true i max_guests e)) (either_way (λ n. n ≤ top_address) (ltb i c.settings.guests) (λ _. h i) (λ _. omega arith))
    go false e = rw (get_or-eq_default (tab max_guests last) 0 {n = i} (omega (arith, length-tab max_guests last, ltb-false i max_guests e))) (omega arith)

-- what a state keeps that is written keeps a step
step-keeps : (K : State → Type 0) (d : Device) → K d.state → ((w : World) → K (write (config_of d.state) w).state) → (x : Call) → K (step d x).1.state
unfolding step performed
step-keeps K d k h x =
    either_way Kept (not (numbered (config_of d.state) x)) (λ _. k) (λ _. either_way Kept (not (sound d)) (λ _. k) (λ _. go (caller (config_of d.state) x)))
  where
    Kept : Reply × Device → Type 0
    Kept r = K r.1.state

    go : (m : Option Guest) → Kept (performed d m x)
    go none = k
    go (some g) = h _

call-keeps : (d : Device) → Ready d → (x : Call) → Ready (step d x).1
call-keeps d h x =
    record {
      on = calls-keep-sound d h.on x;
      shape = step-keeps Lengths d h.shape (write-shaped (config_of d.state)) x;
      wide = step-keeps (λ s. Wide s.settings) d h.wide (λ w. write-wide (config_of d.state) w (unfold config_of in h.wide)) x;
    }

module _ (s : State) (t b : List ℕ) (h : Ready (device s t)) where
  item-keeps : (i : Item) → let x = step_of (running s) t b i in Ready (session_device x.session x.table)
  unfolding step_of
  item-keeps Cut = h
  item-keeps Wrong = h
  item-keeps (NamedGuest f) = h
  item-keeps (NamedEndpoint e g) = h
  item-keeps (Start f) = h
  item-keeps (NamedRegion e q) = h
  item-keeps (Request g) = call-keeps (device s t) h (of_guest g (request (request_bytes b) (replicate status_size 0)))
  item-keeps (Probe g) = call-keeps (device s t) h (of_guest g (request (request_bytes b) (replicate probe_size 0)))
  item-keeps (AccessBy a) = call-keeps (device s t) h (access_by a)
  item-keeps (Reset g) = call-keeps (device s t) h (of_guest g reset)
  item-keeps (Fetch g n) = call-keeps (device s t) h (of_guest g (fetch (replicate (fault_size * n) 0)))

  -- what a record leaves is ready for the next
  pub stays-ready : {q : Session} {r : StepResult} {words out left : List ℕ} {k : ℕ} → Matches q r words out left k (step_record (running s) t b) → Ready (session_device q words)
  unfolding step_record
  stays-ready tells = rw (tells.session, tells.words) (item-keeps (front b))

-- WHAT IS TOLD OF A RECORD

module _ (s : State) (t b : List ℕ) {q : Session} {r : StepResult} {words out left : List ℕ} {k : ℕ} where
  pub told-item : {i : Item} → front b ≡ i → Matches q r words out left k (step_of (running s) t b i) → Matches q r words out left k (step_record (running s) t b)
  unfolding step_record
  told-item e x = rw e x

  module _ (h : Ready (device s t)) where
    pub told-request : (g : Guest) → front b ≡ Request g → Matches q r words out left k (requested_step b (serve (device s t) g (request_bytes b) (replicate status_size 0))) → Matches q r words out left k (step_record (running s) t b)
    unfolding step_of
    told-request g e x = told-item e (subst (λ (y : Reply × Device). Matches q r words out left k (requested_step b y)) (request-step (device s t) h.on h.shape g (request_bytes b) (replicate status_size 0)) x)

    pub told-probe : (g : Guest) → front b ≡ Probe g → Matches q r words out left k (probed_step b (serve (device s t) g (request_bytes b) (replicate probe_size 0))) → Matches q r words out left k (step_record (running s) t b)
    unfolding step_of
    told-probe g e x = told-item e (subst (λ (y : Reply × Device). Matches q r words out left k (probed_step b y)) (request-step (device s t) h.on h.shape g (request_bytes b) (replicate probe_size 0)) x)

    pub told-access : (a : Access) → front b ≡ AccessBy a → Matches q r words out left k (accessed_step b (access_whole (device s t) a)) → Matches q r words out left k (step_record (running s) t b)
    unfolding step_of
    told-access a e x = told-item e (subst (λ (y : Reply × Device). Matches q r words out left k (accessed_step b y)) (access-answered (device s t) h.on h.shape h.wide a) x)

    pub told-reset : (g : Guest) → front b ≡ Reset g → Matches q r words out left k (cleared_step b (reset_whole s.settings.guests (device s t) g)) → Matches q r words out left k (step_record (running s) t b)
    unfolding step_of
    told-reset g e x = told-item e (subst (λ (y : Reply × Device). Matches q r words out left k (cleared_step b y)) (reset-is-step (device s t) h.on h.shape g) x)

    pub told-fetch : (g : Guest) (n : ℕ) → front b ≡ Fetch g n → Matches q r words out left k (fetched_step b (fetched_whole s.settings.guests (device s t) g (replicate (fault_size * n) 0))) → Matches q r words out left k (step_record (running s) t b)
    unfolding step_of
    told-fetch g n e x = told-item e (subst (λ (y : Reply × Device). Matches q r words out left k (fetched_step b y)) (fetch-is-step (device s t) h.on h.shape g (replicate (fault_size * n) 0)) x)
