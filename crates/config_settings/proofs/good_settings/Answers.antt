use borrow.Author.Tests.{lt-leb, le-leb, lt-ltb}
use Prim.Native.Nat.{◌<◌, ◌^◌}
use mathlib.Core.Bool.{and-true}
use lib.Dec.{leb}
use Rattle.rules.specs.Configuration.{good_settings}
use Rattle.config_settings.proofs.good_settings.Goals as goal

pub returns-then-n-lt1 : goal.returns-then-n-lt1
unfolding good_settings
returns-then-n-lt1 c = rw (lt-leb 1 c.args.s.guests c.if-n-lt1.true)

pub returns-then-n-gt-MAX_GUESTS : goal.returns-then-n-gt-MAX_GUESTS
unfolding good_settings
returns-then-n-gt-MAX_GUESTS c =
    let n = c.args.s.guests in
    rw (le-leb 1 n c.if-n-lt1.false, lt-leb n 4 c.if-n-gt-MAX_GUESTS.true)

pub returns : goal.returns
unfolding good_settings
returns c =
    let s = c.args.s in
    let w = c.well_formed.0.1.1.1.1.1.1.1 in
    let i : s.input.end < 2 ^ 64 = w.0.1.1.1.0.1 in
    let d : s.domains.end < 2 ^ 32 = w.1.0.1.1.1.0.1 in
    rw (
      c.shares_sum.ensures,
      c.windows_apart.ensures,
      c.windows_filled.ensures,
      le-leb 1 s.guests c.if-n-lt1.false,
      le-leb s.guests 4 c.if-n-gt-MAX_GUESTS.false,
      lt-ltb s.input.end (2 ^ 64) i,
      lt-ltb s.domains.end (2 ^ 32) d,
      and-true (leb s.domains.start s.domains.end),
    )
