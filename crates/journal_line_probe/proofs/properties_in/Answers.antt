use mathlib.Core.Path.{refl, sym, ◌∙◌}
use native.Mathlib.Omega.{arith}
use lib.ListN.{length}
use lib.Seq.{take_all}
use Rattle.rules.specs.Sizes.{properties_size}
use Rattle.journal_line_probe.proofs.properties_in.Goals as goal

pub returns-else-len-gt-PROPERTIES_SIZE : goal.returns-else-len-gt-PROPERTIES_SIZE
returns-else-len-gt-PROPERTIES_SIZE c =
    let w = c.args.writable.now in
    (omega arith, take_all (length w) w (omega arith) ∙ sym (take_all properties_size w (omega arith)))

pub returns-then-len-gt-PROPERTIES_SIZE : goal.returns-then-len-gt-PROPERTIES_SIZE
returns-then-len-gt-PROPERTIES_SIZE c =
    (omega arith, refl)
