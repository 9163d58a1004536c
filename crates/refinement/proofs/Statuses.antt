-- What the status of a request's steps settles.
use mathlib.Core.Path.{◌≡◌, refl, ap}
use mathlib.Core.Bool.{Bool, true, false, cond}
use lib.Dec.{eqb}
use borrow.Author.Tests.{eqb-true}
use Rattle.laws.specs.Lists.{all?}
use Rattle.laws.proofs.Tests.{Clear}
use Rattle.rules.specs.declared.Guest.{Guest}
use Rattle.rules.specs.Configuration.{Config}
use Rattle.rules.specs.State.{World, Device, write}
use Rattle.rules.specs.Guests.{Part, replace}
use Rattle.rules.specs.Requests.{OK}
use Rattle.rules.specs.Handlers.{Steps, status_of, settle}
use Rattle.rules.proofs.Chains.{nonzero, clear}
use Rattle.refinement.specs.Flat.{with_status, settled}

-- what is settled by the status is what the rule settles
pub settled-written : (c : Config) (w : World) (g : Guest) (l : Steps) (d e : Device) (p q : Part) → all? nonzero l ≡ true → d ≡ write c (replace c g p w) → (Clear l → e ≡ write c (replace c g q w))
    → settled (status_of l) d e ≡ with_status (settle (status_of l) p q).0 (write c (replace c g (settle (status_of l) p q).1 w))
unfolding settle
settled-written c w g l d e p q n a b = go (eqb (status_of l) OK) refl
  where
    go : (t : Bool) → eqb (status_of l) OK ≡ t → with_status (status_of l) (cond t e d) ≡ with_status (status_of l) (write c (replace c g (cond t q p) w))
    go true x = ap (λ (y : Device). with_status (status_of l) y) (b (clear l n (eqb-true (status_of l) OK x)))
    go false x = ap (λ (y : Device). with_status (status_of l) y) a
