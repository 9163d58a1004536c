-- Laws of the bytes of fault records.
use Prim.Native.Nat.{ℕ}
use mathlib.Core.Path.{◌≡◌, refl}
use mathlib.Core.Bool.{cond}
use mathlib.Core.List.{List, ◌++◌, append-nil}
use native.Mathlib.Omega.{arith}
use lib.Dec.{leb}
use lib.ListN.{length, drop, drop_of_length-le}
use borrow.Author.Tests.{le-leb}
use Rattle.rules.specs.declared.Fault.{Fault}
use Rattle.rules.specs.Access.{fault_bytes}

-- a fault record is 24 bytes long
pub length-fault : (f : Fault) → length (fault_bytes f) ≡ 24
unfolding fault_bytes
length-fault f = refl

-- a part of 24 bytes becomes the record: what `put_fault` ensures of it
pub fault-whole : (f : Fault) (part : List ℕ) → length part ≡ 24 → cond (leb 24 (length part)) (fault_bytes f ++ drop 24 part) part ≡ fault_bytes f
fault-whole f part e = rw (le-leb 24 (length part) (omega arith), drop_of_length-le part {i = 24} (omega arith)) (append-nil (fault_bytes f))
