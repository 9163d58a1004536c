use mathlib.Core.Path.{sym}
use Rattle.config_endpoints.proofs.distinct.Goals as goal

pub returns-then-scattered : goal.returns-then-scattered
returns-then-scattered c =
    sym (c.scattered.ensures c.if-scattered.true)

pub returns : goal.returns
returns c =
    c.all_differ.ensures
