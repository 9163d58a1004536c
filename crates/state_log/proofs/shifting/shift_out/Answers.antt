-- The elements that stay are copied to the front, and the places after them are filled.
use Rattle.state_log.proofs.Moved.{shifted-out}
use Rattle.state_log.proofs.shifting.shift_out.Goals as goal

pub returns : goal.returns
returns g c =
    let a = c.args in
    shifted-out a.xs.now c.copy_within.new.self c.fill.new.self a.k c.min-gone.result a.z c.min-gone.ensures c.copy_within.ensures.after (c.fill.ensures.after c.requires.same)
