-- One guest's own part of the device: what its rules read and change, and nothing of another guest.
use Rattle.std.specs.Prelude.{ℕ, List, ◌++◌, ltb, eqb, length, set}
use Rattle.laws.specs.Lists.{keep, pick_by, weave_by, tab}
use Rattle.rules.specs.declared.Guest.{Guest}
use Rattle.rules.specs.declared.InputRange.{InputRange}
use Rattle.rules.specs.declared.DomainRange.{DomainRange}
use Rattle.rules.specs.declared.Mapping.{Mapping}
use Rattle.rules.specs.declared.Region.{Region}
use Rattle.rules.specs.Configuration.{Config, share, window_first, window_last, regions_at}
use Rattle.rules.specs.Table.{guest_of}
use Rattle.rules.specs.State.{Attachment, Log, World, log_of}

-- what set-up fixes and a guest's rules read: its number, share, window and endpoints with their regions, and what holds for all guests
pub record Own : Type 0 where
  pub guest : Guest
  pub share : ℕ
  pub first : ℕ
  pub last : ℕ
  pub mask : ℕ
  pub input : InputRange
  pub domains : DomainRange
  pub endpoints : List ℕ
  pub regions : List (List Region)

-- what a guest's rules change: its attachments, its records in table order, its log and its lost count
pub record Part : Type 0 where
  pub attachments : List Attachment
  pub records : List Mapping
  pub log : Log

unfoldable pub own : Config → Guest → Own
own c g =
    record {
      guest = g;
      share = share c.settings g.0;
      first = window_first c.settings g.0;
      last = window_last c.settings g.0;
      mask = c.settings.mask;
      input = c.settings.input;
      domains = c.settings.domains;
      endpoints = pick_by g.0 c.owners c.endpoints;
      regions = pick_by g.0 c.owners (tab (length c.endpoints) (regions_at c.regions));
    }

-- the records of guest g, in table order
abbrev pub records_of : Guest → List Mapping → List Mapping
records_of g l = keep (λ r. eqb (guest_of r) g.0) l

-- the table with the records of guest g replaced: those of lower guests, then p, then those of higher guests
unfoldable pub with_records_of : Guest → List Mapping → List Mapping → List Mapping
with_records_of g p l = keep (λ r. ltb (guest_of r) g.0) l ++ (p ++ keep (λ r. ltb g.0 (guest_of r)) l)

-- a guest's part of the device
unfoldable pub part : Config → Guest → World → Part
part c g w =
    record {
      attachments = pick_by g.0 c.owners w.attachments;
      records = records_of g w.records;
      log = log_of w g.0;
    }

-- the device with that part replaced, and all else as it was
unfoldable pub replace : Config → Guest → Part → World → World
replace c g p w =
    record {
      attachments = weave_by g.0 c.owners w.attachments p.attachments;
      records = with_records_of g p.records w.records;
      logs = set w.logs g.0 p.log;
    }

-- a part with one thing changed
abbrev pub with_attachments : List Attachment → Part → Part
with_attachments l p = record { attachments = l; records = p.records; log = p.log }

abbrev pub with_records : List Mapping → Part → Part
with_records l p = record { attachments = p.attachments; records = l; log = p.log }

abbrev pub with_log : Log → Part → Part
with_log l p = record { attachments = p.attachments; records = p.records; log = l }
