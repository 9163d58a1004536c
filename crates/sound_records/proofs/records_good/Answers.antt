use Prim.Native.Nat.{ℕ, ◌/◌}
use mathlib.Core.Path.{◌≡◌}
use mathlib.Core.Bool.{Bool, true, false, ◌&&◌, and-true}
use mathlib.Core.List.{List}
use lib.Dec.{leb, ltb}
use lib.ListN.{length}
use Rattle.laws.specs.Lists.{every?}
use Rattle.rules.specs.declared.Settings.{Settings}
use Rattle.rules.specs.Sizes.{max_guests, max_endpoints, record_words}
use Rattle.rules.proofs.Words.{length-records}
use Rattle.sound_records.specs.Scan.{room_tests}
use Rattle.sound_records.proofs.Room.{room-facts}
use Rattle.sound_records.proofs.records_good.Goals as goal

-- the tests of the places, as the branch makes them
tested : (s : Settings) (listed live : ℕ) (t : List ℕ) (b : Bool) → (leb s.guests max_guests && (ltb 0 s.mask && (leb listed max_endpoints && leb live (length t / record_words)))) ≡ b → every? (room_tests s listed live t) ≡ b
tested s listed live t b h = rw (length-records t, and-true) h

pub returns-then-not-s-t : goal.returns-then-not-s-t
returns-then-not-s-t c =
    let s = c.args.s.now in
    rw (tested s.settings s.listed s.live c.args.t.now false c.if-not-s-t.true)

pub placed_good-requires : goal.placed_good-requires
placed_good-requires c =
    let s = c.args.s.now in
    let p = room-facts s.settings s.listed s.live c.args.t.now (tested s.settings s.listed s.live c.args.t.now true c.if-not-s-t.false) in
    (p.guests, p.mask, p.endpoints, p.records)

pub returns : goal.returns
returns c =
    let s = c.args.s.now in
    rw (tested s.settings s.listed s.live c.args.t.now true c.if-not-s-t.false) c.placed_good.ensures
