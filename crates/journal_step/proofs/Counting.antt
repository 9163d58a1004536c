-- How many records a fetch gives.
use Prim.Native.Nat.{ℕ, ◌*◌, ◌/◌, ◌≤◌}
use mathlib.Core.Path.{◌≡◌, sym}
use mathlib.Core.Bool.{true, not}
use mathlib.Core.List.{List}
use native.Mathlib.Omega.{arith}
use lib.ListN.{length, take, replicate}
use borrow.Author.Tests.{le-leb}
use Rattle.std.proofs.lemmas.List.{take-replicate}
use Rattle.laws.proofs.Tests.{either_way}
use Rattle.rules.specs.declared.Guest.{Guest}
use Rattle.rules.specs.declared.Answer.{Answer}
use Rattle.rules.specs.Sizes.{max_faults, fault_size}
use Rattle.rules.specs.State.{Device, config_of}
use Rattle.rules.specs.Answers.{fetched_count}
use Rattle.rules.specs.Sound.{sound}
use Rattle.journal_line_fetch.specs.Lines.{fetch_fits}
use Rattle.rules.specs.Device.{Reply, step, performed, work, rule, job_rule, caller, numbered, fetch, of_guest}

module _ (d : Device) (g : Guest) (b : List ℕ) where
  abbrev Few : Reply × Device → Type 0
  Few x = fetched_count x.0.answer ≤ length b / fault_size

  -- no more than fit whole into the buffer
  pub fetches-few : Few (step d (of_guest g (fetch b)))
  unfolding step
  fetches-few =
      either_way Few (not (numbered (config_of d.state) (of_guest g (fetch b)))) (λ _. omega arith) (λ _.
      either_way Few (not (sound d)) (λ _. omega arith) (λ _. unfold performed caller work rule job_rule in omega arith))

  -- so its lines fit, where the buffer holds no more records than a fetch may ask for
  pub fetch-fits :
      {a : Answer} {buffer : List ℕ} {after : Device}
      → (record { answer = a; buffer = buffer }, after) ≡ step d (of_guest g (fetch b))
      → length buffer ≡ length b
      → length b ≤ fault_size * max_faults
      → fetch_fits a buffer ≡ true
  unfolding fetch_fits
  fetch-fits {a = a} {buffer = buffer} e l h =
      let f : fetched_count a ≤ length b / fault_size = rw (sym e) at fetches-few in
      rw (le-leb (fetched_count a) max_faults (omega arith), le-leb (fault_size * fetched_count a) (length buffer) (omega arith))

-- the bytes of n records, no more than may be asked for
pub few_bytes : {n : ℕ} → n ≤ max_faults → fault_size * n ≤ fault_size * max_faults
few_bytes h = omega arith

-- the first k of n zeros
pub take-zeros : (k n : ℕ) → k ≤ n → take {A = ℕ} k (replicate n 0) ≡ replicate k 0
take-zeros k n h = take-replicate {X = ℕ} k n 0 h
