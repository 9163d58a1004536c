use Prim.Native.Nat.{ℕ, ◌*◌}
use mathlib.Core.Path.{◌≡◌}
use borrow.Author.Rules.{rules}
use lib.ListN.{length, take, replicate, length-replicate}
use Rattle.rules.specs.Sizes.{max_faults, fault_size}
use Rattle.refinement.specs.Flat.{device}
use Rattle.journal_line_fetch.specs.Lines.{fetch_room, fetch_lines}
use Rattle.journal_session.specs.Steps.{step_of}
use Rattle.journal_step.proofs.Counting.{few_bytes, take-zeros, fetch-fits}
use Rattle.journal_step.proofs.Calling.{early, later, matches-call}
use Rattle.journal_step.proofs.called.fetch.Goals as goal

pub returns : goal.returns
unfolding step_of
returns c =
    let p = c.args.p.now in
    let few = few_bytes c.requires.0 in
    let zeros = take-zeros (fault_size * c.args.n) (fault_size * max_faults) few in
    let l : length c.fetch-answer.new.buffer ≡ length (take (fault_size * c.args.n) (replicate {A = ℕ} (fault_size * max_faults) 0)) = search rules in
    let e = rw zeros at c.fetch-answer.ensures in
    let f = fetch-fits (device p.state c.args.t.now) c.args.g (replicate (fault_size * c.args.n) 0) e (rw zeros at l) (rw length-replicate few) in
    later p _ c.if-not-p.false
    (matches-call fetch_room c.args.s.now (λ r. fetch_lines r.answer r.buffer) c.requires.1 c.if-not-p.false e (rw f at c.put_fetch-k.ensures) (cc))

pub returns-then-not-p : goal.returns-then-not-p
returns-then-not-p c =
    unfold step_of in early _ c.if-not-p.true c.unread.ensures
