-- What an endpoint's attachment changes in the state's arrays.
use Rattle.std.specs.Prelude.{ℕ, set}
use Rattle.rules.specs.declared.Domain.{Domain}
use Rattle.rules.specs.declared.State.{State}
use Rattle.state_fields.specs.Fields.{with_attached}

-- the endpoint at place i gets this flag and domain
unfoldable pub attach_at : State → ℕ → ℕ → Domain → State
attach_at s i flag d = with_attached (set s.attached i flag) (set s.domains i d.0) s
