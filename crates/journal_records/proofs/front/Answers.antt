use mathlib.Core.Path.{◌∙◌}
use native.Mathlib.Omega.{arith}
use Rattle.journal_records.proofs.Fields.{front-none, front-unknown, front_cut, front-whole}
use Rattle.journal_records.proofs.front.Goals as goal

pub returns-then-s-eq0 : goal.returns-then-s-eq0
returns-then-s-eq0 c = front-none c.args.s.now (omega arith)

pub returns-then-n-eq0 : goal.returns-then-n-eq0
returns-then-n-eq0 c =
    front-unknown c.args.s.now (omega arith) (omega (arith, c.body_length-n.ensures.0))

pub returns-then-s-n : goal.returns-then-s-n
returns-then-s-n c =
    front_cut c.args.s.now (omega arith) (omega (arith, c.body_length-n.ensures.0)) (omega (arith, c.body_length-n.ensures.0))

pub returns : goal.returns
returns c =
    c.take_item.ensures ∙ front-whole c.args.s.now (omega arith) (omega (arith, c.body_length-n.ensures.0)) (omega (arith, c.body_length-n.ensures.0))

pub take_item-requires : goal.take_item-requires
take_item-requires c = (omega (arith, c.body_length-n.ensures.0), omega (arith, c.body_length-n.ensures.0))
