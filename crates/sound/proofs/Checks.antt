-- A guest's job by the test that comes before it.
use Prim.Native.Nat.{ℕ}
use mathlib.Core.Path.{◌≡◌, refl, sym, ◌∙◌}
use mathlib.Core.Bool.{Bool, true, false}
use native.Mathlib.Omega.{arith}
use lib.Dec.{ltb}
use Rattle.std.specs.Prelude.{Result, Ok, Err}
use Rattle.rules.specs.declared.Guest.{Guest}
use Rattle.rules.specs.declared.Answer.TheVariants.{Refused}
use Rattle.rules.specs.declared.Refusal.{Refusal}
use Rattle.rules.specs.declared.Refusal.TheVariants.{NoSuchGuest, Unsound}
use Rattle.rules.specs.State.{Device, config_of}
use Rattle.rules.specs.Sound.{sound}
use Rattle.rules.specs.Device.{Job, of_guest, Reply, lent_for, refused_with, step}
use Rattle.rules.proofs.Refusals.{no-such-guest, unsound}
use Rattle.sound.specs.Checks.{job_checked}

-- a job on any state and table, by what the test gave
module _ (d : Device) (g : Guest) (r : Result (Unit {0}) Refusal) (e : r ≡ job_checked d g) where
  pub job-refused : (j : Job) (a : Refusal) → r ≡ Err a → (record { answer = Refused a; buffer = lent_for j }, d) ≡ step d (of_guest g j)
  job-refused j a f = go (ltb g.0 d.state.settings.guests) refl (sound d) refl (sym f ∙ e)
    where
      same : (b : Refusal) → ◌≡◌ {A = Result (Unit {0}) Refusal} (Err a) (Err b) → ◌≡◌ {A = Reply × Device} (record { answer = Refused a; buffer = lent_for j }, d) (refused_with b (of_guest g j), d)
      same b q = let z : a ≡ b = cc in rw z

      go : (t : Bool) → ltb g.0 d.state.settings.guests ≡ t → (u : Bool) → sound d ≡ u → Err a ≡ job_checked d g → (record { answer = Refused a; buffer = lent_for j }, d) ≡ step d (of_guest g j)
      go false t u v q = same NoSuchGuest (q ∙ rw t) ∙ sym (no-such-guest d (of_guest g j) (unfold config_of in t))
      go true t false v q = same Unsound (q ∙ rw (t, v)) ∙ sym (unsound d (of_guest g j) (unfold config_of in t) v)
      go true t true v q = absurd (let z : Err a ≡ Ok tt = q ∙ rw (t, v) in let y : ◌≡◌ {A = ℕ} 0 1 = cc in omega arith)

  pub job-passes : r ≡ Ok tt → (sound d ≡ true) × (ltb g.0 d.state.settings.guests ≡ true)
  job-passes f = go (ltb g.0 d.state.settings.guests) refl (sound d) refl (sym f ∙ e)
    where
      go : (t : Bool) → ltb g.0 d.state.settings.guests ≡ t → (u : Bool) → sound d ≡ u → Ok tt ≡ job_checked d g → (u ≡ true) × (t ≡ true)
      go false t u v q = absurd (let z : Ok tt ≡ Err NoSuchGuest = q ∙ rw t in let y : ◌≡◌ {A = ℕ} 0 1 = cc in omega arith)
      go true t false v q = absurd (let z : Ok tt ≡ Err Unsound = q ∙ rw (t, v) in let y : ◌≡◌ {A = ℕ} 0 1 = cc in omega arith)
      go true t true v q = (refl, refl)
