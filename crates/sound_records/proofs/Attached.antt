-- A domain's attachments.
use Prim.Native.Nat.{ℕ}
use mathlib.Core.Path.{◌≡◌, refl}
use mathlib.Core.Bool.{Bool, true, false, cond, ◌&&◌}
use mathlib.Core.Option.{some, none}
use lib.Dec.{eqb}
use Rattle.rules.specs.declared.Domain.{Domain}
use Rattle.rules.specs.State.{attachment}
use Rattle.rules.specs.Handlers.{is_in}

abbrev pub named : ℕ → Domain
named d = record { 0 = d }

-- an attached flag and a domain beside it are an attachment to d
pub in-attachment : (d flag e : ℕ) → is_in (named d) (attachment flag e) ≡ (eqb flag 1 && eqb e d)
unfolding is_in
in-attachment d flag e = go (eqb flag 1)
  where
    go : (b : Bool) → is_in (named d) (cond b (some (named e)) none) ≡ (b && eqb e d)
    go true = refl
    go false = refl
