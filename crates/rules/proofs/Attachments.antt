-- Attachments of endpoints.
use Prim.Native.Nat.{ℕ, zero, suc}
use mathlib.Core.Path.{◌≡◌, refl, sym, ap, ◌∙◌}
use mathlib.Core.Bool.{Bool, true, false, cond, ◌||◌}
use mathlib.Core.List.{List, [], ◌∷◌, ◌++◌}
use mathlib.Core.Option.{some, none}
use mathlib.Core.Logic.{◌⊎◌, inl, inr}
use lib.Dec.{eqb}
use lib.ListN.{length, replicate}
use borrow.Author.Tests.{eqb-true, eqb-false, ne_eqb}
use Rattle.laws.specs.Lists.{all?, any?}
use Rattle.laws.proofs.Tests.{both, both_left, both_right, true-false, or_cases, or_left, or_right, nor, or-none}
use Rattle.laws.proofs.Filters.{any_append}
use Rattle.rules.specs.declared.Endpoint.{Endpoint}
use Rattle.rules.specs.declared.Domain.{Domain}
use Rattle.rules.specs.declared.Region.{Region}
use Rattle.rules.specs.State.{Attachment}
use Rattle.rules.specs.Handlers.{is_in, domain_exists, attachment_of, attached_as, regions_of, regions_in}

pub length-attached_as : (e : Endpoint) (b : Attachment) (es : List ℕ) (l : List Attachment) → length (attached_as e b es l) ≡ length l
length-attached_as e b [] l = refl
length-attached_as e b (k ∷ es) [] = refl
length-attached_as e b (k ∷ es) (a ∷ l) = go (eqb k e.0) (length-attached_as e b es l)
  where
    go : (t : Bool) → length (attached_as e b es l) ≡ length l → length (cond t (b ∷ l) (a ∷ attached_as e b es l)) ≡ suc (length l)
    go true ih = refl
    go false ih = ap suc ih

pub all-attached_as : (q : Attachment → Bool) (e : Endpoint) (b : Attachment) (es : List ℕ) (l : List Attachment) → q b ≡ true → all? q l ≡ true → all? q (attached_as e b es l) ≡ true
all-attached_as q e b [] l hb h = h
all-attached_as q e b (k ∷ es) [] hb h = refl
all-attached_as q e b (k ∷ es) (a ∷ l) hb h = go (eqb k e.0) (all-attached_as q e b es l hb (both_right (q a) (all? q l) h))
  where
    go : (t : Bool) → all? q (attached_as e b es l) ≡ true → all? q (cond t (b ∷ l) (a ∷ attached_as e b es l)) ≡ true
    go true ih = both (q b) (all? q l) hb (both_right (q a) (all? q l) h)
    go false ih = both (q a) (all? q (attached_as e b es l)) (both_left (q a) (all? q l) h) ih

-- where the endpoint is not in domain d, d does not lose its last endpoint by it
pub exists-attached_as : (d : Domain) (e : Endpoint) (b : Attachment) (es : List ℕ) (l : List Attachment) → is_in d (attachment_of e es l) ≡ false → domain_exists d l ≡ true → domain_exists d (attached_as e b es l) ≡ true
unfolding domain_exists
exists-attached_as d e b [] l f h = h
exists-attached_as d e b (k ∷ es) [] f h = h
exists-attached_as d e b (k ∷ es) (a ∷ l) f h = go (eqb k e.0) f (λ g i. exists-attached_as d e b es l g i)
  where
    go : (t : Bool) → is_in d (cond t a (attachment_of e es l)) ≡ false → (is_in d (attachment_of e es l) ≡ false → any? (is_in d) l ≡ true → any? (is_in d) (attached_as e b es l) ≡ true)
        → any? (is_in d) (cond t (b ∷ l) (a ∷ attached_as e b es l)) ≡ true
    go true f ih = or_right (is_in d b) (any? (is_in d) l) (rw f at h)
    go false f ih = mid (or_cases (is_in d a) (any? (is_in d) l) h) (ih f)
      where
        mid : (is_in d a ≡ true) ⊎ (any? (is_in d) l ≡ true) → (any? (is_in d) l ≡ true → any? (is_in d) (attached_as e b es l) ≡ true) → (is_in d a || any? (is_in d) (attached_as e b es l)) ≡ true
        mid (inl x) i = or_left (is_in d a) _ x
        mid (inr x) i = or_right (is_in d a) _ (i x)

-- where endpoint e gets the attachment b, a domain has no region more than it had but those of e, if e is then in it
pub regions-attached_as : (q : Region → Bool) (d : Domain) (e : Endpoint) (b : Attachment) (es : List ℕ) (l : List Attachment) (rs : List (List Region))
    → any? q (regions_in d l rs) ≡ false → (is_in d b ≡ true → any? q (regions_of e es rs) ≡ false) → any? q (regions_in d (attached_as e b es l) rs) ≡ false
regions-attached_as q d e b [] l rs h f = h
regions-attached_as q d e b (k ∷ es) [] rs h f = refl
regions-attached_as q d e b (k ∷ es) (a ∷ l) [] h f = go (eqb k e.0)
  where
    go : (t : Bool) → any? q (regions_in d (cond t (b ∷ l) (a ∷ attached_as e b es l)) []) ≡ false
    go true = refl
    go false = refl
regions-attached_as q d e b (k ∷ es) (a ∷ l) (x ∷ rs) h f = go (eqb k e.0) f (λ i j. regions-attached_as q d e b es l rs i j)
  where
    -- the regions of one endpoint more, where it is in the domain
    onto : (t : Bool) (m : List Region) → any? q (cond t (x ++ m) m) ≡ false → (any? q m ≡ false) × (t ≡ true → any? q x ≡ false)
    onto true m i = let n = nor (any? q x) (any? q m) (sym (any_append q x m) ∙ i) in (n.1, λ _. n.0)
    onto false m i = (i, λ j. true-false true refl (sym j))

    back : (t : Bool) (m : List Region) → any? q m ≡ false → (t ≡ true → any? q x ≡ false) → any? q (cond t (x ++ m) m) ≡ false
    back true m i j = any_append q x m ∙ or-none (any? q x) (any? q m) (j refl) i
    back false m i j = i

    rest : (any? q (regions_in d l rs) ≡ false) × (is_in d a ≡ true → any? q x ≡ false)
    rest = onto (is_in d a) (regions_in d l rs) h

    go : (t : Bool) → (is_in d b ≡ true → any? q (cond t x (regions_of e es rs)) ≡ false) → (any? q (regions_in d l rs) ≡ false → (is_in d b ≡ true → any? q (regions_of e es rs) ≡ false) → any? q (regions_in d (attached_as e b es l) rs) ≡ false)
        → any? q (regions_in d (cond t (b ∷ l) (a ∷ attached_as e b es l)) (x ∷ rs)) ≡ false
    go true f ih = back (is_in d b) (regions_in d l rs) rest.0 f
    go false f ih = back (is_in d a) (regions_in d (attached_as e b es l) rs) (ih rest.0 f) rest.1

-- a detached endpoint is in no domain
pub detached : (d : Domain) (e : Endpoint) (es : List ℕ) (l : List Attachment) → is_in d (attachment_of e es (attached_as e none es l)) ≡ false
unfolding is_in
detached d e [] l = refl
detached d e (k ∷ es) [] = refl
detached d e (k ∷ es) (a ∷ l) = go (eqb k e.0) refl (detached d e es l)
  where
    go : (t : Bool) → eqb k e.0 ≡ t → is_in d (attachment_of e es (attached_as e none es l)) ≡ false → is_in d (attachment_of e (k ∷ es) (cond t (none ∷ l) (a ∷ attached_as e none es l))) ≡ false
    go true h ih = rw h
    go false h ih = rw h ih

-- an attachment is to one domain alone
pub in_one : (c d : Domain) (a : Attachment) → is_in c a ≡ true → eqb d.0 c.0 ≡ false → is_in d a ≡ false
unfolding is_in
in_one c d none h n = refl
in_one c d (some e) h n = ne_eqb e.0 d.0 (λ q. eqb-false d.0 c.0 n (sym q ∙ eqb-true e.0 c.0 h))

pub all_none : (q : Attachment → Bool) (n : ℕ) → q none ≡ true → all? q (replicate n none) ≡ true
all_none q zero h = refl
all_none q (suc n) h = both (q none) (all? q (replicate n none)) h (all_none q n h)
