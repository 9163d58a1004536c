use native.Mathlib.Omega.{arith}
use Prim.Native.Nat.{ℕ, ◌+◌, ◌*◌}
use Rattle.rules.specs.Sizes.{max_faults}
use Rattle.rules.specs.State.{fault_at}
use Rattle.call_fetch.proofs.Records.{written_none, written_next, written_all}
use Rattle.call_fetch.proofs.putting.put_faults.Goals as goal

pub loop-j-init : goal.loop-j-init
loop-j-init c = written_none (λ (k : ℕ). fault_at c.args.s.now (max_faults * c.args.g.0 + k)) c.args.buffer.now

pub loop-j-preserved : goal.loop-j-preserved
loop-j-preserved c =
    let a = c.args in
    let p = c.put_fault in
    let l = c.loop-j in
    written_next (λ (k : ℕ). fault_at a.s.now (max_faults * a.g.0 + k)) a.buffer.now l.j l.buffer p.new.out l.invariant (omega arith) p.ensures

pub returns : goal.returns
returns c =
    let a = c.args in
    let l = c.loop-j in
    written_all a.s.now a.g a.n l.j a.buffer.now l.buffer l.invariant (omega arith)
