-- What changes nothing: a guest's part put back as it was, and sound state and table as what their world writes.
use mathlib.Core.Path.{◌≡◌, sym, ap, ◌∙◌}
use mathlib.Core.Bool.{true}
use lib.ListN.{set}
use lib.Seq.{set-get_or}
use Rattle.laws.specs.Lists.{weave_by}
use Rattle.laws.proofs.Owners.{weave-pick}
use Rattle.rules.specs.declared.Guest.{Guest}
use Rattle.rules.specs.Configuration.{Config}
use Rattle.rules.specs.State.{World, Device, no_log, config_of, read, write, Lengths}
use Rattle.rules.specs.Guests.{Part, part, replace, with_records_of}
use Rattle.rules.specs.Sound.{sound}
use Rattle.rules.proofs.PutBack.{with-same}
use Rattle.rules.proofs.Worlds.{Whole}
use Rattle.rules.proofs.Writing.{kept}
use Rattle.rules.proofs.Reading.{sound-whole}
use Rattle.rules.proofs.Shape.{settings-back, listed_back, regions-back, state-back, table-back}

module _ (c : Config) (w : World) (h : Whole c w) (g : Guest) where
  pub attachments-same : weave_by g.0 c.owners w.attachments (part c g w).attachments ≡ w.attachments
  attachments-same = unfold part in weave-pick g.0 c.owners w.attachments

  pub records-same : with_records_of g (part c g w).records w.records ≡ w.records
  records-same = unfold part in with-same g w.records h.order

  pub logs-same : set w.logs g.0 (part c g w).log ≡ w.logs
  logs-same = unfold part in set-get_or w.logs g.0 no_log

  -- a part as it was
  pub replace-same : replace c g (part c g w) w ≡ w
  replace-same = unfold replace in rw (attachments-same, records-same, logs-same)

module _ (d : Device) (h : sound d ≡ true) (k : Lengths d.state) where
  pub kept-is : kept (config_of d.state) ≡ config_of d.state
  kept-is = unfold kept config_of in rw (settings-back d h k, listed_back d h k, regions-back d h k)

  -- the device is what its world writes
  pub written : d ≡ write (config_of d.state) (read d)
  written = unfold write in rw (state-back d h k, table-back d h k)

  -- and stays so where a guest's part is put back as it was
  pub still : (g : Guest) (p : Part) → p ≡ part (config_of d.state) g (read d) → write (config_of d.state) (replace (config_of d.state) g p (read d)) ≡ d
  still g p e =
      ap (λ (q : Part). write (config_of d.state) (replace (config_of d.state) g q (read d))) e
      ∙ ap (λ (w : World). write (config_of d.state) w) (replace-same (config_of d.state) (read d) (sound-whole d h) g)
      ∙ sym written
