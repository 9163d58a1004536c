-- Laws of the bytes of properties.
use mathlib.Core.Path.{◌≡◌, refl}
use lib.ListN.{length}
use Rattle.rules.specs.declared.Region.{Region}
use Rattle.rules.specs.Handlers.{property_bytes}
use Rattle.wire_properties.specs.Properties.{property_put}

-- a property is 24 bytes long
pub length-property : (q : Region) → length (property_put q) ≡ 24
unfolding property_put property_bytes
length-property q = refl
