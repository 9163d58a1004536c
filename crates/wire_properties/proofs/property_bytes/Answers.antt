-- The numbers lie at their places, and all else is zero.
use mathlib.Core.Path.{◌∙◌}
use Rattle.rules.specs.Handlers.{property_bytes}
use Rattle.wire_properties.specs.Properties.{property_put}
use Rattle.wire_properties.proofs.property_bytes.Goals as goal

pub returns : goal.returns
unfolding property_put property_bytes
returns c = c.put_field-2.ensures ∙ rw c.put_field.ensures
