-- The records of a sound table are in the order in which they can be searched by halving.
use Prim.Native.Nat.{ℕ, ◌<◌}
use mathlib.Core.Path.{◌≡◌}
use mathlib.Core.Bool.{true}
use lib.ListN.{take}
use Rattle.laws.specs.Lists.{all?}
use Rattle.laws.proofs.Filters.{all-imp}
use Rattle.rules.specs.Configuration.{Config}
use Rattle.rules.specs.Table.{records}
use Rattle.rules.specs.State.{World, Device, config_of, read}
use Rattle.rules.specs.Guests.{own, part, records_of}
use Rattle.rules.specs.Sound.{guest, sound, record_good}
use Rattle.rules.proofs.Records.{wide, all-guests}
use Rattle.rules.proofs.Parts.{record-wide}
use Rattle.rules.proofs.Worlds.{Whole}
use Rattle.rules.proofs.Reading.{sound-whole}
use Rattle.table_halving.specs.Order.{InOrder}

module _ (c : Config) (w : World) (h : Whole c w) where
  all-wide : all? wide w.records ≡ true
  all-wide = all-guests c.settings.guests (λ k. wide) w.records h.guests of_guest
    where
      of_guest : (n : ℕ) → n < c.settings.guests → all? wide (records_of (guest n) w.records) ≡ true
      of_guest n l = unfold part in all-imp (record_good (own c (guest n)) (part c (guest n) w).attachments) wide (records_of (guest n) w.records) (record-wide (own c (guest n)) (part c (guest n) w).attachments) (h.parts (guest n) l).records

  pub whole-in-order : InOrder w.records
  unfolding wide
  whole-in-order = record { order = h.order; disjoint = h.disjoint; filled = all-wide }

pub sound-in-order : (d : Device) → sound d ≡ true → InOrder (take d.state.live (records d.table))
unfolding read
sound-in-order d h = whole-in-order (config_of d.state) (read d) (sound-whole d h)
