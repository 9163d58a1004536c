-- The three numbers lie at their places, and all else is zero.
use mathlib.Core.Path.{◌∙◌}
use Rattle.rules.specs.Access.{fault_bytes}
use Rattle.wire_faults.proofs.fault_bytes.Goals as goal

pub returns : goal.returns
unfolding fault_bytes
returns c =
    c.put_field-3.ensures ∙ rw (c.put_field-2.ensures, c.put_field.ensures, c.from-flags.ensures, c.from-endpoint.ensures)
