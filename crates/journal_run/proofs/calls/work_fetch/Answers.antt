use Prim.Native.Nat.{ℕ, ◌*◌, ◌≤◌}
use mathlib.Core.Path.{◌≡◌, refl, ap, ◌∙◌}
use mathlib.Core.Bool.{true}
use mathlib.Core.List.{List}
use native.Mathlib.Omega.{arith}
use lib.ListN.{length, replicate, length-replicate}
use Rattle.rules.specs.Sizes.{max_faults, fault_size}
use Rattle.journal_line_fetch.specs.Lines.{fetch_room, fetch_fits, fetch_lines}
use Rattle.journal_step.proofs.Counting.{few_bytes, take-zeros}
use Rattle.journal_step.proofs.Calling.{matches-call}
use Rattle.journal_run.proofs.Calling.{fetch-fits, handed}
use Rattle.journal_run.proofs.calls.work_fetch.Goals as goal

pub returns : goal.returns
returns c =
    let a = c.args in
    let f = c.fetch_faults-answer in
    let zeros : List ℕ = replicate (fault_size * a.n) 0 in
    let h = few_bytes c.requires.0 in
    let z = take-zeros (fault_size * a.n) (fault_size * max_faults) h in
    let e = rw z at f.ensures in
    let l : length f.new.buffer ≡ length zeros = f.auto.buffer ∙ ap length z in
    let few : length zeros ≤ fault_size * max_faults = omega (arith, length-replicate {A = ℕ}) in
    let fits : fetch_fits f.result f.new.buffer ≡ true = fetch-fits a.s.now.settings.guests a.s.now a.g zeros f.result f.new.buffer f.new.s e l few in
    matches-call fetch_room a.b.now (λ r. fetch_lines r.answer r.buffer) c.requires.1 refl (handed a.t.now e) (rw fits at c.put_fetch-k.ensures) (rw c.size_of.ensures at c.consumed.ensures)
