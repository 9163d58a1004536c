-- What a fetch shows at its returns, by what the guest's number and its log's count are.
use Prim.Native.Nat.{ℕ, ◌≤◌, ◌<◌}
use mathlib.Core.Path.{◌≡◌}
use mathlib.Core.List.{List}
use lib.ListN.{length, get_or}
use borrow.Author.Tests.{lt-ltb, le-ltb, le-leb, lt-leb}
use Rattle.rules.specs.declared.Guest.{Guest}
use Rattle.rules.specs.declared.State.{State}
use Rattle.rules.specs.declared.Answer.TheVariants.{Fetched, Refused}
use Rattle.rules.specs.declared.Refusal.TheVariants.{NoSuchGuest, Unsound}
use Rattle.rules.specs.Sizes.{max_guests, max_faults}
use Rattle.state_log.specs.Dropped.{drop_faults}
use Rattle.refinement.specs.Flat.{fetch_count, fetch_bytes}
use Rattle.refinement.specs.Fetching.{fetched, unfetched, fetch_faults}

module _ (guests : ℕ) (s : State) (g : Guest) (b : List ℕ) where
  pub fetch-of-none : guests ≤ g.0 → (record { answer = Refused NoSuchGuest; buffer = b }, s) ≡ fetch_faults guests s g b
  unfolding fetch_faults unfetched
  fetch-of-none h = rw (le-ltb g.0 guests h)

  module _ (below : g.0 < guests) where
    pub fetch-no-log : max_guests ≤ g.0 → (record { answer = Refused Unsound; buffer = b }, s) ≡ fetch_faults guests s g b
    unfolding fetch_faults unfetched
    fetch-no-log h = rw (lt-ltb g.0 guests below, le-ltb g.0 max_guests h)

    module _ (there : g.0 < max_guests) where
      pub fetch-log-past : max_faults < get_or s.logged g.0 0 → (record { answer = Refused Unsound; buffer = b }, s) ≡ fetch_faults guests s g b
      unfolding fetch_faults unfetched
      fetch-log-past h = rw (lt-ltb g.0 guests below, lt-ltb g.0 max_guests there, lt-leb (get_or s.logged g.0 0) max_faults h)

      pub fetch-gives : get_or s.logged g.0 0 ≤ max_faults → (n : ℕ) (c : List ℕ) (r : State) → n ≡ fetch_count s g (length b) → c ≡ fetch_bytes s g n b → r ≡ drop_faults s g n
          → (record { answer = Fetched n; buffer = c }, r) ≡ fetch_faults guests s g b
      unfolding fetch_faults fetched
      fetch-gives h n c r x y z = rw (lt-ltb g.0 guests below, lt-ltb g.0 max_guests there, le-leb (get_or s.logged g.0 0) max_faults h, y, z, x)
