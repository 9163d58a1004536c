-- The lengths of a state's arrays.
use mathlib.Core.List.{List}
use mir.Val.{Val}
use denote.Laws.{Is}
use denote.Struct.Declared.{row}
use Rattle.rules.specs.declared.State.{State}
use Rattle.rules.specs.contracts.State as declared-state
use Rattle.rules.specs.State.{Lengths}

-- each state that a function is handed has the lengths that the types of its arrays fix
pub lengths-hold : (s : State) (vs : List Val) → Is (row declared-state.the_type) s vs → Lengths s
lengths-hold s vs h =
    let o = h.1.1.0.1.1.1 in
    let w = h.1.1.1.1 in
    let x = w.1.1 in
    record {
      shares = o.0.1.0.1;
      firsts = o.1.0.1.0.1;
      lasts = o.1.1.0.1.0.1;
      endpoints = w.0.1.0.1;
      owners = w.1.0.1.0.1;
      attached = x.0.1.0.1;
      domains = x.1.0.1.0.1;
      regions = x.1.1.0.1.0.1;
      logged = x.1.1.1.1.0.1.0.1;
      lost = x.1.1.1.1.1.0.1.0.1;
      reasons = x.1.1.1.1.1.1.0.1.0.1;
      flags = x.1.1.1.1.1.1.1.0.1.0.1;
      sources = x.1.1.1.1.1.1.1.1.0.1.0.1;
      addresses = x.1.1.1.1.1.1.1.1.1.0.1.0.1;
    }
