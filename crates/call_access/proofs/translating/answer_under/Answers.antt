use mathlib.Core.Path.{sym, ◌∙◌}
use Rattle.table_lookup.proofs.Outcomes.{found_at}
use Rattle.call_access.proofs.Found.{starts_before}
use Rattle.call_access.proofs.translating.answer_under.Goals as goal

pub overflow_sub-a : goal.overflow_sub-a
overflow_sub-a c = starts_before c.args.key c.args.a _ c.in-Some.r (found_at _ c.in-Some.r (sym c.in-Some.is ∙ c.find_mapping.ensures))
