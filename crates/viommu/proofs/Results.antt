-- What the entries give back, by the reply and the device that a call makes and the values that its answer has.
use mathlib.Core.Path.{◌≡◌, ap, ◌∙◌}
use Rattle.rules.specs.declared.Values.{Values}
use Rattle.rules.specs.Answers.{values, number, used_length, address_of, fetched_count}
use Rattle.rules.specs.State.{Device}
use Rattle.rules.specs.Device.{Reply}

module _ {p q : Reply × Device} (e : p ≡ q) {v : Values} (w : v ≡ values p.0.answer) where
  all : v ≡ values q.0.answer
  all = w ∙ ap (λ (x : Reply × Device). values x.0.answer) e

  numbered : v.number ≡ number q.0.answer
  numbered = ap (λ (x : Values). x.number) all

  next : p.1 ≡ q.1
  next = ap (λ (x : Reply × Device). x.1) e

  buffer : p.0.buffer ≡ q.0.buffer
  buffer = ap (λ (x : Reply × Device). x.0.buffer) e

  pub of-request : ((v.number ≡ number q.0.answer) × (v.used ≡ used_length q.0.answer)) × ((p.1 ≡ q.1) × (p.0.buffer ≡ q.0.buffer))
  of-request = ((numbered, ap (λ (x : Values). x.used) all), (next, buffer))

  pub of-access : (v.number ≡ number q.0.answer) × (v.address ≡ address_of q.0.answer) × (p.1 ≡ q.1)
  of-access = (numbered, ap (λ (x : Values). x.address) all, next)

  pub of-reset : (v.number ≡ number q.0.answer) × (p.1 ≡ q.1)
  of-reset = (numbered, next)

  pub of-fetch : ((v.number ≡ number q.0.answer) × (v.count ≡ fetched_count q.0.answer)) × ((p.1 ≡ q.1) × (p.0.buffer ≡ q.0.buffer))
  of-fetch = ((numbered, ap (λ (x : Values). x.count) all), (next, buffer))
