-- The records of all guests together are within the shares' sum, so the table has room whenever a share has.
use Prim.Native.Nat.{ℕ, suc, ◌≤◌, ◌<◌}
use mathlib.Core.Path.{◌≡◌, refl, sym, ap, ◌∙◌}
use mathlib.Core.Bool.{Bool, true, false, cond}
use mathlib.Core.List.{List, [], ◌∷◌}
use native.Mathlib.Nat.{le_trans}
use lib.Dec.{ltb, eqb}
use lib.ListN.{length}
use borrow.Author.Tests.{ltb-true}
use Rattle.laws.specs.Lists.{all?, sum_below}
use Rattle.laws.proofs.Tests.{both_left, both_right}
use Rattle.laws.proofs.Tables.{sum_same, sum-le, sum-zero, sum_bump}
use Rattle.rules.specs.declared.Mapping.{Mapping}
use Rattle.rules.specs.Sizes.{max_records}
use Rattle.rules.specs.Configuration.{Config, share, good}
use Rattle.rules.specs.Table.{guest_of}
use Rattle.rules.specs.State.{World}
use Rattle.rules.specs.Guests.{own, part, records_of}
use Rattle.rules.specs.Sound.{guest}
use Rattle.rules.proofs.Groups.{good-facts}
use Rattle.rules.proofs.Worlds.{Whole}

length-cond : {A : Type 0} (b : Bool) (x : A) (l : List A) → length (cond b (x ∷ l) l) ≡ cond b (suc (length l)) (length l)
length-cond true x l = refl
length-cond false x l = refl

-- the records' number is the sum over the guests
pub records-sum : (n : ℕ) (l : List Mapping) → all? (λ r. ltb (guest_of r) n) l ≡ true → length l ≡ sum_below n (λ g. length (records_of (guest g) l))
records-sum n [] h = sym (sum-zero n)
records-sum n (r ∷ l) h =
    ap suc (records-sum n l (both_right (ltb (guest_of r) n) (all? (λ s. ltb (guest_of s) n) l) h))
    ∙ sym (sum_bump n (guest_of r) (λ g. length (records_of (guest g) l)) (ltb-true (guest_of r) n (both_left (ltb (guest_of r) n) (all? (λ s. ltb (guest_of s) n) l) h)))
    ∙ sum_same n (λ g. cond (eqb (guest_of r) g) (suc (length (records_of (guest g) l))) (length (records_of (guest g) l))) (λ g. length (records_of (guest g) (r ∷ l))) (λ k m. sym (length-cond (eqb (guest_of r) k) r (records_of (guest k) l)))

pub shares_sum : (c : Config) → good c ≡ true → sum_below c.settings.guests (share c.settings) ≤ max_records
shares_sum c h = (good-facts c h).shares

held-le : (c : Config) (w : World) → Whole c w → (k : ℕ) → k < c.settings.guests → length (records_of (guest k) w.records) ≤ share c.settings k
held-le c w h k l = unfold own part in (h.parts (guest k) l).share

pub fits : (c : Config) (w : World) → Whole c w → length w.records ≤ max_records
fits c w h =
    rw (records-sum c.settings.guests w.records h.guests)
    (le_trans (sum-le c.settings.guests (λ g. length (records_of (guest g) w.records)) (share c.settings) (held-le c w h)) (shares_sum c h.config))
