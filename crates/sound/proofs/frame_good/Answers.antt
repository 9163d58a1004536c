use native.Mathlib.Omega.{arith}
use mathlib.Core.Path.{sym, ◌∙◌}
use lib.Seq.{length-take-le}
use borrow.Author.Tests.{lt-leb}
use Rattle.sound.specs.Assembled.{device_of}
use Rattle.sound.proofs.Verdict.{endpoints-past, lists-bad, regions-decide}
use Rattle.sound.proofs.frame_good.Goals as goal

pub returns-then-s-gt-MAX_ENDPOINTS : goal.returns-then-s-gt-MAX_ENDPOINTS
returns-then-s-gt-MAX_ENDPOINTS c =
    let a = c.args in
    sym (endpoints-past (device_of a.s.now a.t.now) (lt-leb _ _ c.if-s-gt-MAX_ENDPOINTS.true))

pub returns-then-not-good_lists : goal.returns-then-not-good_lists
returns-then-not-good_lists c =
    let a = c.args in
    sym (lists-bad (device_of a.s.now a.t.now) (sym c.good_lists.ensures ∙ c.if-not-good_lists.true))

pub returns : goal.returns
returns c =
    let a = c.args in
    c.good_regions.ensures
    ∙ regions-decide (device_of a.s.now a.t.now) c.if-t-ne-TABLE_WORDS.false c.if-s-gt-MAX_RECORDS.false (length-take-le _ _ (omega arith)) c.requires (sym c.good_lists.ensures ∙ c.if-not-good_lists.false)
