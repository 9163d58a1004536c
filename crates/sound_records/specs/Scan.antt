-- One pass over the live records, each beside the one before it.
use Rattle.std.specs.Prelude.{ℕ, Bool, true, false, not, ◌&&◌, ◌||◌, List, [], ◌∷◌, leb, ltb, eqb, length, get_or, take}
use Rattle.laws.specs.Lists.{pick_by, tab}
use Rattle.rules.specs.declared.Guest.{Guest}
use Rattle.rules.specs.declared.Domain.{Domain}
use Rattle.rules.specs.declared.Settings.{Settings}
use Rattle.rules.specs.declared.Mapping.{Mapping}
use Rattle.rules.specs.Sizes.{max_guests, max_endpoints}
use Rattle.rules.specs.State.{Attachment, attachment}
use Rattle.rules.specs.Table.{records, guest_of, domain_of}
use Rattle.rules.specs.Handlers.{domain_exists}
use Rattle.rules.specs.Sound.{guest}
use Rattle.map_steps.specs.Forms.{limits_at, form_good}

-- the attachments of guest g, among the first n endpoints
abbrev pub attachments_of : Guest → ℕ → List ℕ → List ℕ → List ℕ → List Attachment
attachments_of g n owners attached domains = pick_by g.0 (take n owners) (tab n (λ i. attachment (get_or attached i 0) (get_or domains i 0)))

-- s may stand right after r: a higher first word, or the same and addresses past those of r
unfoldable pub follows : Mapping → Mapping → Bool
follows r s = ltb r.key s.key || (eqb r.key s.key && ltb r.end s.start)

-- the record's guest is one, and steps 2 to 6 of MAP pass for it
unfoldable pub own_good : Settings → Mapping → Bool
own_good s r = ltb (guest_of r) s.guests && form_good (limits_at s (guest_of r)) r

-- a domain exists for a guest, by an attachment of one of the first n endpoints
abbrev pub domain_held : ℕ → List ℕ → List ℕ → List ℕ → Guest → Domain → Bool
domain_held n owners attached domains g d = domain_exists d (attachments_of g n owners attached domains)

-- step 1 of MAP passes: the record's domain exists for its guest
unfoldable pub domain_good : ℕ → List ℕ → List ℕ → List ℕ → Mapping → Bool
domain_good n owners attached domains r = domain_held n owners attached domains (guest (guest_of r)) (domain_of r)

-- each record's own tests, its place after the one before, p, and its domain where that is not the domain of p;
-- the first record has none before it
abbrev pub scan : (Mapping → Bool) → (Mapping → Bool) → Bool → Mapping → List Mapping → Bool
scan form domain start p [] = true
scan form domain start p (r ∷ l) =
    (form r && ((start || follows p r) && ((not start && eqb p.key r.key) || domain r))) && scan form domain false r l

-- the scan where the next record is the first of a domain, which comes after that of key, or is the first of all
abbrev pub opening : (Mapping → Bool) → (Mapping → Bool) → Bool → ℕ → List Mapping → Bool
opening form domain start key [] = true
opening form domain start key (r ∷ l) = (form r && ((start || ltb key r.key) && domain r)) && scan form domain false r l

-- guests, endpoints and live records are as many as there are places for, and the mask has a lowest set bit
abbrev pub room_tests : Settings → ℕ → ℕ → List ℕ → List Bool
room_tests s listed live table =
    leb s.guests max_guests ∷ ltb 0 s.mask ∷ leb listed max_endpoints ∷ leb live (length (records table)) ∷ []
