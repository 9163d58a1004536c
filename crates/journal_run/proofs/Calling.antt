-- What the code's results tell of a call.
use Prim.Native.Nat.{ℕ, ◌*◌, ◌/◌, ◌≤◌}
use mathlib.Core.Path.{◌≡◌, ap}
use mathlib.Core.Bool.{true}
use mathlib.Core.List.{List, []}
use native.Mathlib.Omega.{arith}
use native.Mathlib.Nat.{min-le_right}
use lib.Dec.{ltb}
use lib.ListN.{length, get_or}
use borrow.Author.Tests.{le-leb}
use Rattle.laws.proofs.Tests.{either_way}
use Rattle.rules.specs.declared.Access.{Access}
use Rattle.rules.specs.declared.Answer.{Answer}
use Rattle.rules.specs.declared.Guest.{Guest}
use Rattle.rules.specs.declared.State.{State}
use Rattle.rules.specs.Answers.{fetched_count}
use Rattle.rules.specs.Sizes.{max_faults, fault_size}
use Rattle.rules.specs.State.{Device}
use Rattle.rules.specs.Device.{Reply}
use Rattle.refinement.specs.Flat.{device, after_access}
use Rattle.journal_line_fetch.specs.Lines.{fetch_fits}
use Rattle.refinement.specs.Fetching.{fetched, unfetched, log_fits, fetch_faults}
use Rattle.refinement.specs.Translating.{translate, access_whole}

-- a fetch gives no more records than fit whole into the buffer, so its lines fit where the buffer holds no more than may be asked for
module _ (guests : ℕ) (s : State) (g : Guest) (b : List ℕ) where
  abbrev Few : Reply × State → Type 0
  Few x = fetched_count x.0.answer ≤ length b / fault_size

  fetches-few : Few (fetch_faults guests s g b)
  unfolding fetch_faults fetched unfetched
  fetches-few =
      either_way Few (ltb g.0 guests)
      (λ _. either_way Few (log_fits s g) (λ _. min-le_right (get_or s.logged g.0 0) (length b / fault_size)) (λ _. omega arith))
      (λ _. omega arith)

  pub fetch-fits : (a : Answer) (buffer : List ℕ) (t : State) → (record { answer = a; buffer = buffer }, t) ≡ fetch_faults guests s g b → length buffer ≡ length b → length b ≤ fault_size * max_faults → fetch_fits a buffer ≡ true
  unfolding fetch_fits
  fetch-fits a buffer t e l h =
      let f : fetched_count a ≤ length b / fault_size = rw (← e) at fetches-few in
      rw (le-leb (fetched_count a) max_faults (omega arith), le-leb (fault_size * fetched_count a) (length buffer) (omega arith))

-- the parts that an access and a fetch are told in, put together
pub accessed : (s : State) (t : List ℕ) (x : Access) {a : Answer} {u : State} → a ≡ translate (device s t) x → u ≡ after_access s x a → (record { answer = a; buffer = [] }, device u t) ≡ access_whole (device s t) x
accessed s t x e f = rw (f, e)

pub handed : {r : Reply} {u : State} {x : Reply × State} (t : List ℕ) → ◌≡◌ {A = Reply × State} (r, u) x → ◌≡◌ {A = Reply × Device} (r, device u t) (x.0, device x.1 t)
handed t e = ap (λ (z : Reply × State). (z.0, device z.1 t)) e
