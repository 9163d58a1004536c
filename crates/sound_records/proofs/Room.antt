-- The tests that guests, endpoints and live records have places, as named facts, and back.
use Prim.Native.Nat.{ℕ, ◌≤◌, ◌<◌}
use mathlib.Core.Path.{◌≡◌}
use mathlib.Core.Bool.{true}
use mathlib.Core.List.{List}
use lib.ListN.{length}
use borrow.Author.Tests.{leb-true, ltb-true, le-leb, lt-ltb}
use Rattle.laws.specs.Lists.{every?}
use Rattle.laws.proofs.Tests.{opened, closed}
use Rattle.rules.specs.declared.Settings.{Settings}
use Rattle.rules.specs.Sizes.{max_guests, max_endpoints}
use Rattle.rules.specs.Table.{records}
use Rattle.sound_records.specs.Scan.{room_tests}

pub record Room (s : Settings) (listed live : ℕ) (t : List ℕ) : Type 0 where
  pub guests : s.guests ≤ max_guests
  pub mask : 0 < s.mask
  pub endpoints : listed ≤ max_endpoints
  pub records : live ≤ length (records t)

module _ (s : Settings) (listed live : ℕ) (t : List ℕ) where
  pub room-facts : every? (room_tests s listed live t) ≡ true → Room s listed live t
  room-facts h =
      let p = opened (room_tests s listed live t) h in
      record { guests = leb-true _ _ p.0; mask = ltb-true _ _ p.1.0; endpoints = leb-true _ _ p.1.1.0; records = leb-true _ _ p.1.1.1.0 }

  pub room-tests : Room s listed live t → every? (room_tests s listed live t) ≡ true
  room-tests r = closed (room_tests s listed live t) (le-leb _ _ r.guests, (lt-ltb _ _ r.mask, (le-leb _ _ r.endpoints, (le-leb _ _ r.records, tt))))
