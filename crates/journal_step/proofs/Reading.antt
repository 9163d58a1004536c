-- How many bytes a step reads.
use Prim.Native.Nat.{ℕ, ◌≤◌}
use mathlib.Core.Path.{◌≡◌, refl}
use mathlib.Core.Bool.{Bool, true, false, not, ◌&&◌}
use mathlib.Core.List.{List}
use native.Mathlib.Omega.{arith}
use lib.Dec.{leb, ltb, eqb}
use lib.ListN.{length, get_or}
use borrow.Author.Tests.{eqb-false, ltb-false, leb-true}
use Rattle.laws.proofs.Tests.{either_way, true-false}
use Rattle.rules.specs.Sizes.{max_guests, max_endpoints, max_faults}
use Rattle.journal_records.specs.declared.Item.{Item}
use Rattle.journal_records.specs.declared.Item.TheVariants.{Cut, Wrong, NamedGuest, NamedEndpoint, Start, NamedRegion, Request, Probe, AccessBy, Reset, Fetch}
use Rattle.journal_session.specs.declared.session.Session.{Session}
use Rattle.journal_records.specs.Items.{GUEST, ENDPOINT, START, REGION, REQUEST72, ACCESS, RESET, FETCH, body_length, kind_of, size_of, item_of, front, Fits}
use Rattle.journal_session.specs.Naming.{region_taken}
use Rattle.journal_session.specs.Steps.{RecordStep, unread, allowed, guest_step, endpoint_step, start_step, region_step, request_step, probe_step, access_step, reset_step, fetch_step, step_of, step_record}

-- there is a record to be worked
abbrev pub works : Item → Bool
works Cut = false
works Wrong = false
works (NamedGuest f) = true
works (NamedEndpoint e g) = true
works (Start f) = true
works (NamedRegion e q) = true
works (Request g) = true
works (Probe g) = true
works (AccessBy x) = true
works (Reset g) = true
works (Fetch g n) = true

pub front_fits : (s : List ℕ) → works (front s) ≡ true → Fits s
unfolding front
front_fits s =
    either_way (λ i. works i ≡ true → Fits s) (eqb (length s) 0) (λ e h. true-false false h refl) (λ a.
    either_way (λ i. works i ≡ true → Fits s) (eqb (body_length (kind_of s)) 0) (λ e h. true-false false h refl) (λ b.
    either_way (λ i. works i ≡ true → Fits s) (ltb (length s) (size_of s)) (λ e h. true-false false h refl) (λ c h.
    let n = eqb-false (length s) 0 a in
    let m = eqb-false (body_length (kind_of s)) 0 b in
    (omega (arith, n), omega (arith, m), ltb-false (length s) (size_of s) c))))

module _ (p : Session) (t s : List ℕ) where
  -- a step reads the record at the front, or nothing
  abbrev ReadsWell : RecordStep → Type 0
  ReadsWell x = x.read ≤ length s

  may_read : (b : Bool) (x : RecordStep) → x.read ≡ size_of s → Fits s → ReadsWell (allowed b p t x)
  may_read b x e f = either_way ReadsWell b {x = x} {y = unread p t true} (λ _. omega (arith, e, f.2)) (λ _. omega arith)

  reads-well : (i : Item) → (works i ≡ true → Fits s) → ReadsWell (step_of p t s i)
  unfolding step_of
  reads-well Cut f = omega arith
  reads-well Wrong f = omega arith
  reads-well (NamedGuest x) f = may_read (not p.started && ltb p.state.settings.guests max_guests) (guest_step p t s x) refl (f refl)
  reads-well (NamedEndpoint e g) f = may_read (not p.started && ltb p.state.listed max_endpoints) (endpoint_step p t s e g) refl (f refl)
  reads-well (Start x) f = may_read (not p.started) (start_step p t s x) refl (f refl)
  reads-well (NamedRegion e q) f =
      may_read (not p.started && region_taken p.state.listed p.state.endpoints p.state.regions e) (region_step p t s e q) refl (f refl)
  reads-well (Request g) f = may_read p.started (request_step p t s g) refl (f refl)
  reads-well (Probe g) f = may_read p.started (probe_step p t s g) refl (f refl)
  reads-well (AccessBy x) f = may_read p.started (access_step p t s x) refl (f refl)
  reads-well (Reset g) f = may_read p.started (reset_step p t s g) refl (f refl)
  reads-well (Fetch g n) f = may_read p.started (fetch_step p t s g n) refl (f refl)

  -- no step reads more than there is
  pub step-reads : (step_record p t s).read ≤ length s
  unfolding step_record
  step-reads = reads-well (front s) (front_fits s)

-- a fetch asks for no more records than a log holds
abbrev pub Most : Item → Type 0
Most Cut = Unit {0}
Most Wrong = Unit {0}
Most (NamedGuest f) = Unit {0}
Most (NamedEndpoint e g) = Unit {0}
Most (Start f) = Unit {0}
Most (NamedRegion e q) = Unit {0}
Most (Request g) = Unit {0}
Most (Probe g) = Unit {0}
Most (AccessBy x) = Unit {0}
Most (Reset g) = Unit {0}
Most (Fetch g n) = n ≤ max_faults

pub asks-few : (s : List ℕ) → Most (front s)
unfolding front item_of
asks-few s =
    either_way Most (eqb (length s) 0) (λ _. tt) (λ _.
    either_way Most (eqb (body_length (kind_of s)) 0) (λ _. tt) (λ _.
    either_way Most (ltb (length s) (size_of s)) (λ _. tt) (λ _.
    either_way Most (eqb (kind_of s) GUEST) (λ _. tt) (λ _.
    either_way Most (eqb (kind_of s) ENDPOINT) (λ _. tt) (λ _.
    either_way Most (eqb (kind_of s) START) (λ _. tt) (λ _.
    either_way Most (eqb (kind_of s) REGION) (λ _. tt) (λ _.
    either_way Most (eqb (kind_of s) REQUEST72) (λ _. tt) (λ _.
    either_way Most (eqb (kind_of s) ACCESS) (λ _. either_way Most (leb (get_or s 13 0) 1) (λ _. tt) (λ _. tt)) (λ _.
    either_way Most (eqb (kind_of s) RESET) (λ _. tt) (λ _.
    either_way Most (eqb (kind_of s) FETCH) (λ _. either_way Most (leb (get_or s 2 0) max_faults) (λ e. leb-true (get_or s 2 0) max_faults e) (λ _. tt)) (λ _. tt)))))))))))
