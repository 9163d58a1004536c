-- Changes of the fault arrays that a world wrote are those that the changed world writes.
use Prim.Native.Nat.{ℕ, suc, ◌+◌, ◌-◌, ◌*◌, ◌/◌, ◌%◌, ◌≤◌, ◌<◌, min}
use mathlib.Core.Path.{◌≡◌, refl, sym, ap, ◌∙◌}
use mathlib.Core.Bool.{Bool, true, false, cond, ◌&&◌}
use mathlib.Core.List.{List, [], ◌∷◌, ◌++◌}
use mathlib.Core.Option.{none}
use native.Mathlib.Omega.{arith}
use lib.Dec.{ltb, eqb}
use lib.ListN.{length, get_or, set, drop, replicate, length-append, length-drop, get_or-eq_default, get_or-append}
use lib.Seq.{get_or-set_same, get_or-set_other, get_or-drop, get_or-append_seam, set-get_or}
use borrow.Author.Tests.{ltb-true, ltb-false, eqb-true, eqb-false, lt-ltb, le-ltb}
use Rattle.laws.specs.Lists.{tab, weave_by, pick_by}
use Rattle.laws.proofs.Tables.{length-tab, get_d-tab, tab-same}
use Rattle.laws.proofs.Owners.{length-weave}
use Rattle.rules.specs.declared.Fault.{Fault}
use Rattle.rules.specs.Sizes.{max_guests, max_endpoints, max_faults, max_lost, fault_places}
use Rattle.rules.specs.Configuration.{Config}
use Rattle.rules.specs.State.{Attachment, Log, World, no_fault, no_log, flag_of, number_of, log_of, fault_placed, state_of}
use Rattle.rules.specs.Guests.{part}
use Rattle.rules.specs.Access.{logged, fetched_from}
use Rattle.rules.specs.Sound.{guest}
use Rattle.rules.proofs.Groups.{good-facts}
use Rattle.rules.proofs.Worlds.{Whole}
use Rattle.state_fields.specs.Fields.{with_counts}
use Rattle.state_log.specs.Changes.{fault_stored, log_fault}
use Rattle.state_log.specs.Dropped.{shifted, shifted_all, drop_faults}
use Rattle.state_reset.specs.Changes.{zero_of, zeroed_of, detach_all, clear_log, guest_cleared}
use Rattle.refinement.proofs.Places.{all-detached}
use Rattle.refinement.proofs.Written.{with_atts, with_logs, set-tab}

-- the log of a guest after guest g's was set
other-log : (w : World) (g : ℕ) (l : Log) (k : ℕ) → (k ≡ g → ⊥) → log_of (with_logs (set w.logs g l) w) k ≡ log_of w k
other-log w g l k n = get_or-set_other w.logs g k l no_log n

same_log : (w : World) (g : ℕ) (l : Log) → g < length w.logs → log_of (with_logs (set w.logs g l) w) g ≡ l
same_log w g l h = get_or-set_same w.logs g l no_log h

-- a list by guest, where guest g's log was set
module _ (w : World) (g : ℕ) (l : Log) (h : g < length w.logs) where
  next : World
  next = with_logs (set w.logs g l) w

  by-guest : (q : Log → ℕ) (v : ℕ) → q l ≡ v → set (tab max_guests (λ k. q (log_of w k))) g v ≡ tab max_guests (λ k. q (log_of next k))
  unfolding next
  by-guest q v e = set-tab max_guests (λ k. q (log_of w k)) (λ k. q (log_of next k)) g v (ap q (same_log w g l h) ∙ e) (λ j m n. ap q (other-log w g l j n))

  by-guest-same : (q : Log → ℕ) → q l ≡ q (log_of w g) → tab max_guests (λ k. q (log_of w k)) ≡ tab max_guests (λ k. q (log_of next k))
  unfolding next
  by-guest-same q e = tab-same max_guests _ _ (λ i m. go i (eqb i g) refl)
    where
      go : (i : ℕ) (b : Bool) → eqb i g ≡ b → q (log_of w i) ≡ q (log_of (with_logs (set w.logs g l) w) i)
      go i true x = ap (λ k. q (log_of w k)) (eqb-true i g x) ∙ sym e ∙ sym (ap (λ k. q (log_of (with_logs (set w.logs g l) w) k)) (eqb-true i g x) ∙ ap q (same_log w g l h))
      go i false x = sym (ap q (other-log w g l i (eqb-false i g x)))

  -- a fault placed in another guest's log
  other_place : (i : ℕ) → (i / max_faults ≡ g → ⊥) → fault_placed next i ≡ fault_placed w i
  unfolding next
  other_place i n = ap (λ (x : Log). get_or x.faults (i % max_faults) no_fault) (other-log w g l (i / max_faults) n)

  own-place : (i : ℕ) → i / max_faults ≡ g → fault_placed next i ≡ get_or l.faults (i % max_faults) no_fault
  unfolding next
  own-place i e = ap (λ (x : Log). get_or x.faults (i % max_faults) no_fault) (ap (λ k. log_of (with_logs (set w.logs g l) w) k) e ∙ same_log w g l h)

  -- the faults' fields where guest g's faults are those of before
  same-faults : (q : Fault → ℕ) → l.faults ≡ (log_of w g).faults → tab fault_places (λ i. q (fault_placed w i)) ≡ tab fault_places (λ i. q (fault_placed next i))
  same-faults q e = tab-same fault_places _ _ (λ i m. go i (eqb (i / max_faults) g) refl)
    where
      go : (i : ℕ) (b : Bool) → eqb (i / max_faults) g ≡ b → q (fault_placed w i) ≡ q (fault_placed next i)
      go i true x = ap q (ap (λ k. get_or (log_of w k).faults (i % max_faults) no_fault) (eqb-true _ g x) ∙ ap (λ (y : List Fault). get_or y (i % max_faults) no_fault) (sym e) ∙ sym (own-place i (eqb-true _ g x)))
      go i false x = ap q (sym (other_place i (eqb-false _ g x)))

module _ (c : Config) (w : World) (h : Whole c w) (g : ℕ) (m : g < c.settings.guests) where
  there : g < length w.logs
  there = rw h.logs m

  few : g < max_guests
  few = omega (arith, m, (good-facts c h.config).guests)

  room : length (log_of w g).faults ≤ max_faults
  room = unfold part in (h.parts (guest g) m).log.count

  count-is : get_or (state_of c w).logged g 0 ≡ length (log_of w g).faults
  count-is = unfold state_of in get_d-tab max_guests (λ k. length (log_of w k).faults) g 0 few

  lost-is : get_or (state_of c w).lost g 0 ≡ (log_of w g).lost
  lost-is = unfold state_of in get_d-tab max_guests (λ k. (log_of w k).lost) g 0 few

  -- ONE FAULT MORE

  abbrev more : Fault → Log
  more f = record { faults = (log_of w g).faults ++ (f ∷ []); lost = (log_of w g).lost }

  stored : (f : Fault) (q : Fault → ℕ) → length (log_of w g).faults < max_faults → set (tab fault_places (λ i. q (fault_placed w i))) (max_faults * g + length (log_of w g).faults) (q f) ≡ tab fault_places (λ i. q (fault_placed (next w g (more f) there) i))
  stored f q r = set-tab fault_places _ _ at (q f) (ap q (own-place w g (more f) there at which ∙ ap (λ n. get_or ((log_of w g).faults ++ (f ∷ [])) n no_fault) slot ∙ get_or-append_seam (log_of w g).faults f [] no_fault)) (λ j k n. ap q (go j n (eqb (j / max_faults) g) refl))
    where
      at : ℕ
      at = max_faults * g + length (log_of w g).faults

      which : at / max_faults ≡ g
      which = omega (arith, r)

      slot : at % max_faults ≡ length (log_of w g).faults
      slot = omega (arith, r)

      mid : (j : ℕ) → (j % max_faults ≡ length (log_of w g).faults → ⊥) → (b : Bool) → ltb (j % max_faults) (length (log_of w g).faults) ≡ b → get_or ((log_of w g).faults ++ (f ∷ [])) (j % max_faults) no_fault ≡ get_or (log_of w g).faults (j % max_faults) no_fault
      mid j n true x = get_or-append (log_of w g).faults (f ∷ []) no_fault (j % max_faults) (ltb-true _ _ x)
      mid j n false x = get_or-eq_default ((log_of w g).faults ++ (f ∷ [])) no_fault (simp length-append (omega (arith, ltb-false))) ∙ sym (get_or-eq_default (log_of w g).faults no_fault (ltb-false _ _ x))

      go : (j : ℕ) → (j ≡ at → ⊥) → (b : Bool) → eqb (j / max_faults) g ≡ b → fault_placed (next w g (more f) there) j ≡ fault_placed w j
      go j n true x =
          own-place w g (more f) there j (eqb-true _ g x)
          ∙ mid j (λ e. n (let y : j / max_faults ≡ g = eqb-true _ g x in omega (arith, e, y))) (ltb (j % max_faults) (length (log_of w g).faults)) refl
          ∙ ap (λ k. get_or (log_of w k).faults (j % max_faults) no_fault) (sym (eqb-true _ g x))
      go j n false x = other_place w g (more f) there j (eqb-false _ g x)

  one_more : (f : Fault) → length (log_of w g).faults < max_faults
      → with_counts (set (state_of c w).logged g (suc (length (log_of w g).faults))) (state_of c w).lost (fault_stored (state_of c w) (max_faults * g + length (log_of w g).faults) f) ≡ state_of c (next w g (more f) there)
  one_more f r =
      unfold fault_stored state_of in
      (rw (
        stored f (λ x. x.reason) r,
        stored f (λ x. x.flags) r,
        stored f (λ x. x.endpoint.0) r,
        stored f (λ x. x.address) r,
        by-guest w g (more f) there (λ l. length l.faults) (suc (length (log_of w g).faults)) (simp length-append (omega arith)),
        by-guest-same w g (more f) there (λ l. l.lost) refl,
      ) (unfold next in refl))

  one-lost : with_counts (state_of c w).logged (set (state_of c w).lost g (suc (log_of w g).lost)) (state_of c w) ≡ state_of c (with_logs (set w.logs g (record { faults = (log_of w g).faults; lost = suc (log_of w g).lost })) w)
  one-lost =
      unfold state_of in
      (rw (
        by-guest w g lost-one there (λ l. l.lost) (suc (log_of w g).lost) refl,
        by-guest-same w g lost-one there (λ l. length l.faults) refl,
        same-faults w g lost-one there (λ x. x.reason) refl,
        same-faults w g lost-one there (λ x. x.flags) refl,
        same-faults w g lost-one there (λ x. x.endpoint.0) refl,
        same-faults w g lost-one there (λ x. x.address) refl,
      ) (unfold next in refl))
    where
      lost-one : Log
      lost-one = record { faults = (log_of w g).faults; lost = suc (log_of w g).lost }

  unchanged : with_logs (set w.logs g (log_of w g)) w ≡ w
  unchanged = rw (set-get_or w.logs g no_log)

  pub logged-written : (f : Fault) → log_fault (state_of c w) (guest g) f ≡ state_of c (with_logs (set w.logs g (logged f (log_of w g))) w)
  logged-written f = unfold log_fault logged in (rw (lt-ltb g max_guests few, count-is, lost-is) (go (ltb (length (log_of w g).faults) max_faults) refl (ltb (log_of w g).lost max_lost) refl))
    where
      go : (a : Bool) → ltb (length (log_of w g).faults) max_faults ≡ a → (b : Bool) → ltb (log_of w g).lost max_lost ≡ b
          → cond a (with_counts (set (state_of c w).logged g (suc (length (log_of w g).faults))) (state_of c w).lost (fault_stored (state_of c w) (max_faults * g + length (log_of w g).faults) f))
          (cond b (with_counts (state_of c w).logged (set (state_of c w).lost g (suc (log_of w g).lost)) (state_of c w)) (state_of c w))
          ≡ state_of c (with_logs (set w.logs g (cond a (more f) (record { faults = (log_of w g).faults; lost = cond b (suc (log_of w g).lost) (log_of w g).lost }))) w)
      go true x b y = one_more f (ltb-true _ _ x) ∙ unfold next in refl
      go false x true y = one-lost
      go false x false y = ap (λ (v : World). state_of c v) (sym unchanged)

  -- THE OLDEST FAULTS GONE

  pub dropped-written : (k : ℕ) → drop_faults (state_of c w) (guest g) k ≡ state_of c (with_logs (set w.logs g (fetched_from k (log_of w g))) w)
  dropped-written k =
      unfold drop_faults fetched_from in
      (rw (lt-ltb g max_guests few, count-is) (unfold state_of in
      (rw (
        by-guest w g rest there (λ l. length l.faults) (length (log_of w g).faults - k) (length-drop k (log_of w g).faults),
        by-guest-same w g rest there (λ l. l.lost) refl,
        fewer (λ x. x.reason) refl,
        fewer (λ x. x.flags) refl,
        fewer (λ x. x.endpoint.0) refl,
        fewer (λ x. x.address) refl,
      ) (unfold next in refl))))
    where
      rest : Log
      rest = record { faults = drop k (log_of w g).faults; lost = (log_of w g).lost }

      fewer : (q : Fault → ℕ) → q no_fault ≡ 0 → shifted_all (guest g) k (tab fault_places (λ i. q (fault_placed w i))) ≡ tab fault_places (λ i. q (fault_placed (next w g rest there) i))
      fewer q z = rw (length-tab fault_places (λ i. q (fault_placed w i))) (tab-same fault_places _ _ (λ i l. unfold shifted in go i l (eqb (i / max_faults) g) refl (ltb (i % max_faults + k) max_faults) refl))
        where
          all : List ℕ
          all = tab fault_places (λ i. q (fault_placed w i))

          go : (i : ℕ) → i < fault_places → (a : Bool) → eqb (i / max_faults) g ≡ a → (b : Bool) → ltb (i % max_faults + k) max_faults ≡ b
              → cond a (cond b (get_or all (i + k) 0) 0) (get_or all i 0) ≡ q (fault_placed (next w g rest there) i)
          go i l true x true y =
              let same : i / max_faults ≡ g = eqb-true _ g x in
              let inner : i % max_faults + k < max_faults = ltb-true _ _ y in
              let which : (i + k) / max_faults ≡ g = omega (arith, same, inner) in
              let slot : (i + k) % max_faults ≡ k + i % max_faults = omega (arith, same, inner) in
              get_d-tab fault_places (λ j. q (fault_placed w j)) (i + k) 0 (omega (arith, l, same, inner))
              ∙ ap q (ap (λ n. get_or (log_of w n).faults ((i + k) % max_faults) no_fault) which ∙ ap (λ n. get_or (log_of w g).faults n no_fault) slot ∙ sym (get_or-drop k (log_of w g).faults (i % max_faults) no_fault) ∙ sym (own-place w g rest there i same))
          go i l true x false y =
              let same : i / max_faults ≡ g = eqb-true _ g x in
              sym z ∙ ap q (sym (own-place w g rest there i same ∙ get_or-eq_default (drop k (log_of w g).faults) no_fault (simp length-drop (omega (arith, room, ltb-false)))))
          go i l false x b y = get_d-tab fault_places (λ j. q (fault_placed w j)) i 0 l ∙ ap q (sym (other_place w g rest there i (eqb-false _ g x)))

  -- A GUEST CLEARED

  cleared-faults : (q : Fault → ℕ) → q no_fault ≡ 0 → shifted_all (guest g) max_faults (tab fault_places (λ i. q (fault_placed w i))) ≡ tab fault_places (λ i. q (fault_placed (next w g no_log there) i))
  cleared-faults q z = rw (length-tab fault_places (λ i. q (fault_placed w i))) (tab-same fault_places _ _ (λ i l. unfold shifted in go i l (eqb (i / max_faults) g) refl))
    where
      go : (i : ℕ) → i < fault_places → (a : Bool) → eqb (i / max_faults) g ≡ a
          → cond a (cond (ltb (i % max_faults + max_faults) max_faults) (get_or (tab fault_places (λ i. q (fault_placed w i))) (i + max_faults) 0) 0) (get_or (tab fault_places (λ i. q (fault_placed w i))) i 0) ≡ q (fault_placed (next w g no_log there) i)
      go i l true x = rw (le-ltb (i % max_faults + max_faults) max_faults (omega arith)) (sym z ∙ ap q (sym (own-place w g no_log there i (eqb-true _ g x))))
      go i l false x = get_d-tab fault_places (λ j. q (fault_placed w j)) i 0 l ∙ ap q (sym (other_place w g no_log there i (eqb-false _ g x)))

  cleared-places : (q : Attachment → ℕ) → q none ≡ 0
      → zeroed_of (min (length c.endpoints) max_endpoints) (guest g) (tab max_endpoints (λ i. get_or c.owners i 0)) (tab max_endpoints (λ i. q (get_or w.attachments i none)))
      ≡ tab max_endpoints (λ i. q (get_or (weave_by g c.owners w.attachments (replicate (length (pick_by g c.owners w.attachments)) none)) i none))
  cleared-places q z =
      rw (placed, length-tab max_endpoints (λ i. q (get_or w.attachments i none)))
      (tab-same max_endpoints _ _ (λ i l. unfold zero_of in (rw (get_d-tab max_endpoints (λ j. get_or c.owners j 0) i 0 l, get_d-tab max_endpoints (λ j. q (get_or w.attachments j none)) i 0 l) (go i (ltb i (length c.endpoints)) refl))))
    where
      placed : min (length c.endpoints) max_endpoints ≡ length c.endpoints
      placed = omega (arith, (good-facts c h.config).few)

      size : length w.attachments ≡ length c.endpoints
      size = h.attachments ∙ sym (good-facts c h.config).sizes

      new : List Attachment
      new = weave_by g c.owners w.attachments (replicate (length (pick_by g c.owners w.attachments)) none)

      by-owner : (b : Bool) (a : Attachment) → cond b 0 (q a) ≡ q (cond b none a)
      by-owner true a = sym z
      by-owner false a = refl

      go : (i : ℕ) (b : Bool) → ltb i (length c.endpoints) ≡ b → cond (b && eqb (get_or c.owners i 0) g) 0 (q (get_or w.attachments i none)) ≡ q (get_or new i none)
      go i true x = by-owner (eqb (get_or c.owners i 0) g) (get_or w.attachments i none) ∙ ap q (sym (all-detached g c.owners w.attachments (length (pick_by g c.owners w.attachments)) h.attachments refl i (omega (arith, size, ltb-true))))
      go i false x =
          ap q (get_or-eq_default w.attachments none (omega (arith, size, ltb-false))
          ∙ sym (get_or-eq_default new none (omega (arith, length-weave g c.owners w.attachments (replicate (length (pick_by g c.owners w.attachments)) none), size, ltb-false))))

  pub cleared-written : guest_cleared (state_of c w) (guest g) ≡ state_of c (with_atts (weave_by g c.owners w.attachments (replicate (length (pick_by g c.owners w.attachments)) none)) (with_logs (set w.logs g no_log) w))
  cleared-written =
      unfold guest_cleared detach_all clear_log state_of in
      (rw (
        lt-ltb g max_guests few,
        cleared-places flag_of refl,
        cleared-places number_of refl,
        by-guest w g no_log there (λ l. length l.faults) 0 refl,
        by-guest w g no_log there (λ l. l.lost) 0 refl,
        cleared-faults (λ x. x.reason) refl,
        cleared-faults (λ x. x.flags) refl,
        cleared-faults (λ x. x.endpoint.0) refl,
        cleared-faults (λ x. x.address) refl,
      ) (unfold next in refl))
