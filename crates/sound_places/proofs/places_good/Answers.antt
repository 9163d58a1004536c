use native.Mathlib.Omega.{arith}
use borrow.Author.Rules.{rules}
use borrow.Author.Tests.{le-leb}
use Rattle.rules.specs.Sizes.{max_guests, max_endpoints}
use Rattle.sound_places.proofs.Places.{places-are}
use Rattle.sound_places.proofs.places_good.Goals as goal

pub returns : goal.returns
returns c =
    let s = c.args.s.now in
    let guests = c.guests_good.ensures in
    rw (le-leb s.settings.guests max_guests (omega arith), le-leb s.listed max_endpoints (omega arith), c.endpoints_good.ensures, guests.value)
    (places-are s
    (record {
      shares = guests.lengths.0;
      firsts = guests.lengths.1;
      lasts = guests.lengths.2;
      logged = search rules;
      lost = search rules;
      endpoints = search rules;
      owners = search rules;
      attached = search rules;
      domains = search rules;
    })
    (omega arith)
    (omega arith))
