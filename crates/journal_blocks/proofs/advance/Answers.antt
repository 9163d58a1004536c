use Rattle.std.proofs.Common.{refl}
use Rattle.journal_blocks.proofs.Leaving.{leaves}
use Rattle.journal_blocks.proofs.advance.Goals as goal

pub returns : goal.returns
returns c =
    let a = c.args in
    leaves a.p.now a.t.now a.block.now a.out.now a.got c.play-x.new.p c.play-x.result _ _ _ _ _ _ _
    (rw c.held_with-held.ensures at c.play-x.ensures)
    (rw c.held_with-held.ensures at c.keep_rest-p.ensures)
    refl
    c.put_over-printed.ensures
