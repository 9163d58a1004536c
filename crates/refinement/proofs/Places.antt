-- A guest's attachments, looked up and changed, against the same on the arrays of all endpoints.
use Prim.Native.Nat.{ℕ, zero, suc, ◌<◌}
use mathlib.Core.Path.{◌≡◌, refl, sym, ap, ◌∙◌}
use mathlib.Core.Bool.{Bool, true, false, cond, not}
use mathlib.Core.List.{List, [], ◌∷◌}
use mathlib.Core.Option.{some, none}
use native.Mathlib.Omega.{arith}
use lib.Dec.{ltb, eqb}
use lib.ListN.{length, get_or, set, replicate}
use borrow.Author.Tests.{ltb-true, eqb-true, eq-eqb, lt-ltb, not-true}
use Rattle.laws.specs.Lists.{all?, any?, pairwise, pick_by, weave_by, head_or, rest}
use Rattle.laws.proofs.Tests.{both_left, both_right, true-false, same_test}
use Rattle.laws.proofs.Owners.{weave-pick}
use Rattle.rules.specs.declared.Guest.{Guest}
use Rattle.rules.specs.declared.Endpoint.{Endpoint}
use Rattle.rules.specs.State.{Attachment}
use Rattle.rules.specs.Handlers.{listed, attachment_of, attached_as}
use Rattle.rules.specs.Sound.{guest}
use Rattle.rules.specs.Device.{owner_of, is}
use Rattle.state_endpoints.specs.Search.{index_of}

-- the owner of an endpoint, by its place
pub owner_of-at : (e : Endpoint) (es os : List ℕ) → length os ≡ length es → owner_of e es os ≡ cond (ltb (index_of e.0 es) (length es)) (some (guest (get_or os (index_of e.0 es) 0))) none
owner_of-at e [] os l = refl
owner_of-at e (k ∷ es) [] l = absurd (omega arith)
owner_of-at e (k ∷ es) (o ∷ os) l = go (eqb k e.0) (owner_of-at e es os (omega arith))
  where
    more : ltb (suc (index_of e.0 es)) (suc (length es)) ≡ ltb (index_of e.0 es) (length es)
    more =
        same_test (ltb (suc (index_of e.0 es)) (suc (length es))) (ltb (index_of e.0 es) (length es))
        (λ h. lt-ltb (index_of e.0 es) (length es) (omega (arith, ltb-true)))
        (λ h. lt-ltb (suc (index_of e.0 es)) (suc (length es)) (omega (arith, ltb-true)))

    go : (b : Bool) → owner_of e es os ≡ cond (ltb (index_of e.0 es) (length es)) (some (guest (get_or os (index_of e.0 es) 0))) none
        → cond b (some (guest o)) (owner_of e es os) ≡ cond (ltb (cond b 0 (suc (index_of e.0 es))) (suc (length es))) (some (guest (get_or (o ∷ os) (cond b 0 (suc (index_of e.0 es))) 0))) none
    go true i = rw (lt-ltb 0 (suc (length es)) (omega arith))
    go false i = i ∙ rw more

-- the owner's number, where the head is the endpoint
pub head-owner : (o : ℕ) (g : Guest) → some (guest o) ≡ some g → eqb o g.0 ≡ true
head-owner o g h = eq-eqb o g.0 (let z : guest o ≡ g = cc in ap (λ y. y.0) z)

-- an endpoint of guest g: its attachment among g's is the one at its place
pub attachment-at : (e : Endpoint) (g : Guest) (es os : List ℕ) (l : List Attachment) → length os ≡ length es → length l ≡ length es → owner_of e es os ≡ some g
    → attachment_of e (pick_by g.0 os es) (pick_by g.0 os l) ≡ get_or l (index_of e.0 es) none
attachment-at e g [] os l m n h = absurd (let z : ◌≡◌ {A = ℕ} 0 1 = cc in omega arith)
attachment-at e g (k ∷ es) [] l m n h = absurd (omega arith)
attachment-at e g (k ∷ es) (o ∷ os) [] m n h = absurd (omega arith)
attachment-at e g (k ∷ es) (o ∷ os) (a ∷ l) m n h = go (eqb k e.0) refl h (eqb o g.0) refl (λ i. attachment-at e g es os l (omega arith) (omega arith) i)
  where
    go : (b : Bool) → eqb k e.0 ≡ b → cond b (some (guest o)) (owner_of e es os) ≡ some g → (c : Bool) → eqb o g.0 ≡ c
        → (owner_of e es os ≡ some g → attachment_of e (pick_by g.0 os es) (pick_by g.0 os l) ≡ get_or l (index_of e.0 es) none)
        → attachment_of e (cond c (k ∷ pick_by g.0 os es) (pick_by g.0 os es)) (cond c (a ∷ pick_by g.0 os l) (pick_by g.0 os l)) ≡ get_or (a ∷ l) (cond b 0 (suc (index_of e.0 es))) none
    go true x h true y i = rw x
    go true x h false y i = true-false (eqb o g.0) (head-owner o g h) y
    go false x h true y i = rw x (i h)
    go false x h false y i = i h

-- and changing it there is changing it at its place
pub attached-at : (e : Endpoint) (b : Attachment) (g : Guest) (es os : List ℕ) (l : List Attachment) → length os ≡ length es → length l ≡ length es → owner_of e es os ≡ some g
    → weave_by g.0 os l (attached_as e b (pick_by g.0 os es) (pick_by g.0 os l)) ≡ set l (index_of e.0 es) b
attached-at e b g [] os l m n h = absurd (let z : ◌≡◌ {A = ℕ} 0 1 = cc in omega arith)
attached-at e b g (k ∷ es) [] l m n h = absurd (omega arith)
attached-at e b g (k ∷ es) (o ∷ os) [] m n h = absurd (omega arith)
attached-at e b g (k ∷ es) (o ∷ os) (a ∷ l) m n h = go (eqb k e.0) refl h (eqb o g.0) refl (λ i. attached-at e b g es os l (omega arith) (omega arith) i)
  where
    new : List Attachment
    new = attached_as e b (pick_by g.0 os es) (pick_by g.0 os l)

    go : (t : Bool) → eqb k e.0 ≡ t → cond t (some (guest o)) (owner_of e es os) ≡ some g → (c : Bool) → eqb o g.0 ≡ c
        → (owner_of e es os ≡ some g → weave_by g.0 os l (attached_as e b (pick_by g.0 os es) (pick_by g.0 os l)) ≡ set l (index_of e.0 es) b)
        → cond c (head_or a (attached_as e b (cond c (k ∷ pick_by g.0 os es) (pick_by g.0 os es)) (cond c (a ∷ pick_by g.0 os l) (pick_by g.0 os l))) ∷ weave_by g.0 os l (rest (attached_as e b (cond c (k ∷ pick_by g.0 os es) (pick_by g.0 os es)) (cond c (a ∷ pick_by g.0 os l) (pick_by g.0 os l)))))
        (a ∷ weave_by g.0 os l (attached_as e b (cond c (k ∷ pick_by g.0 os es) (pick_by g.0 os es)) (cond c (a ∷ pick_by g.0 os l) (pick_by g.0 os l))))
        ≡ set (a ∷ l) (cond t 0 (suc (index_of e.0 es))) b
    go true x h true y i = rw (x, weave-pick g.0 os l)
    go true x h false y i = true-false (eqb o g.0) (head-owner o g h) y
    go false x h true y i = rw (x, i h)
    go false x h false y i = rw (i h)

-- where no endpoint stands twice, an endpoint is among g's exactly where g owns it
pub listed-owned : (e : Endpoint) (g : Guest) (es os : List ℕ) → length os ≡ length es → pairwise (λ a b. not (eqb a b)) es ≡ true → listed e (pick_by g.0 os es) ≡ is g (owner_of e es os)
unfolding listed
listed-owned e g [] [] m p = refl
listed-owned e g [] (o ∷ os) m p = refl
listed-owned e g (k ∷ es) [] m p = absurd (omega arith)
listed-owned e g (k ∷ es) (o ∷ os) m p = go (eqb k e.0) refl (eqb o g.0) refl (listed-owned e g es os (omega arith) (both_right (all? (λ b. not (eqb k b)) es) _ p))
  where
    absent : (l xs : List ℕ) → all? (λ b. not (eqb k b)) l ≡ true → eqb k e.0 ≡ true → any? (eqb e.0) (pick_by g.0 xs l) ≡ false
    absent l [] h x = refl
    absent [] (o ∷ xs) h x = refl
    absent (n ∷ l) (o ∷ xs) h x = mid (eqb o g.0) (absent l xs (both_right (not (eqb k n)) _ h) x)
      where
        mid : (c : Bool) → any? (eqb e.0) (pick_by g.0 xs l) ≡ false → any? (eqb e.0) (cond c (n ∷ pick_by g.0 xs l) (pick_by g.0 xs l)) ≡ false
        mid true i =
            let z : eqb e.0 n ≡ false = rw (sym (eqb-true k e.0 x)) (not-true (eqb k n) (both_left (not (eqb k n)) _ h)) in
            rw z i
        mid false i = i

    step_record : eqb e.0 k ≡ eqb k e.0
    step_record = same_test (eqb e.0 k) (eqb k e.0) (λ h. eq-eqb k e.0 (sym (eqb-true e.0 k h))) (λ h. eq-eqb e.0 k (sym (eqb-true k e.0 h)))

    go : (b : Bool) → eqb k e.0 ≡ b → (c : Bool) → eqb o g.0 ≡ c → any? (eqb e.0) (pick_by g.0 os es) ≡ is g (owner_of e es os)
        → any? (eqb e.0) (cond c (k ∷ pick_by g.0 os es) (pick_by g.0 os es)) ≡ is g (cond b (some (guest o)) (owner_of e es os))
    go true x true y i = rw (step_record, x, y)
    go true x false y i = rw y (absent es os (both_left (all? (λ b. not (eqb k b)) es) _ p) x)
    go false x true y i = rw (step_record, x) i
    go false x false y i = i

-- every endpoint of g detached
pub all-detached : (g : ℕ) (os : List ℕ) (l : List Attachment) (n : ℕ) → length l ≡ length os → n ≡ length (pick_by g os l)
    → (i : ℕ) → i < length l → get_or (weave_by g os l (replicate n none)) i none ≡ cond (eqb (get_or os i 0) g) none (get_or l i none)
all-detached g [] [] n m e i h = absurd (omega arith)
all-detached g [] (a ∷ l) n m e i h = absurd (omega arith)
all-detached g (o ∷ os) [] n m e i h = absurd (omega arith)
all-detached g (o ∷ os) (a ∷ l) n m e i h = go (eqb o g) refl n e i h (λ k q j r. all-detached g os l k (omega arith) q j r)
  where
    go : (b : Bool) → eqb o g ≡ b → (n : ℕ) → n ≡ length (cond b (a ∷ pick_by g os l) (pick_by g os l)) → (i : ℕ) → i < suc (length l)
        → ((k : ℕ) → k ≡ length (pick_by g os l) → (j : ℕ) → j < length l → get_or (weave_by g os l (replicate k none)) j none ≡ cond (eqb (get_or os j 0) g) none (get_or l j none))
        → get_or (cond b (head_or a (replicate n none) ∷ weave_by g os l (rest (replicate n none))) (a ∷ weave_by g os l (replicate n none))) i none ≡ cond (eqb (get_or (o ∷ os) i 0) g) none (get_or (a ∷ l) i none)
    go true x zero e i h f = absurd (omega arith)
    go true x (suc n) e zero h f = rw x
    go true x (suc n) e (suc i) h f = f n (omega arith) i (omega arith)
    go false x n e zero h f = rw x
    go false x n e (suc i) h f = f n e i (omega arith)
