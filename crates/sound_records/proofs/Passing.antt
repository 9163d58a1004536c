-- One round of the pass over the records, a domain: what the pass says, and the guests' counts.
use Prim.Native.Nat.{ℕ, suc, ◌+◌, ◌-◌, ◌<◌, ◌≤◌}
use mathlib.Core.Path.{◌≡◌, refl, sym, ap, ◌∙◌}
use mathlib.Core.Bool.{Bool, true, false, cond, ◌&&◌, ◌||◌, and_assoc}
use mathlib.Core.List.{List, ◌∷◌}
use native.Mathlib.Omega.{arith}
use lib.Dec.{leb, ltb, eqb}
use lib.ListN.{length, get_or, take, drop, set, length-set}
use lib.Seq.{get_or-set_same, get_or-set_other, drop-drop}
use borrow.Author.Tests.{eqb-true, eqb-false, lt-ltb, le-ltb}
use Rattle.laws.specs.Lists.{below}
use Rattle.rules.specs.declared.Settings.{Settings}
use Rattle.rules.specs.declared.Mapping.{Mapping}
use Rattle.rules.specs.Sizes.{max_guests}
use Rattle.rules.specs.Configuration.{share}
use Rattle.rules.specs.Table.{guest_of}
use Rattle.rules.specs.Guests.{records_of}
use Rattle.rules.specs.Sound.{guest, shares_kept}
use Rattle.table_record.specs.Records.{no_mapping}
use Rattle.table_record.proofs.Laws.{gone}
use Rattle.map_steps.specs.Forms.{limits_at, form_good, run}
use Rattle.map_steps.proofs.Going.{now-at}
use Rattle.sound_records.specs.Scan.{own_good, scan, opening}
use Rattle.laws.proofs.Rounds.{below-same}
use Rattle.sound_records.proofs.GoingOn.{run-own, run-other}

-- a guest that is one, and one that is none
pub own-within : (s : Settings) (r : Mapping) → guest_of r < s.guests → own_good s r ≡ form_good (limits_at s (guest_of r)) r
unfolding own_good
own-within s r h = rw (lt-ltb (guest_of r) s.guests h)

pub own-beyond : (s : Settings) (r : Mapping) → s.guests ≤ guest_of r → own_good s r ≡ false
unfolding own_good
own-beyond s r h = rw (le-ltb (guest_of r) s.guests h)

-- how the guests' counts stand at place i of the records l
abbrev pub Counted : List ℕ → ℕ → List Mapping → Type 0
Counted counts i l =
    (length counts ≡ max_guests)
    × ((g : ℕ) → g < max_guests → (get_or counts g 0 ≤ i) × (get_or counts g 0 + length (records_of (guest g) (drop i l)) ≡ length (records_of (guest g) l)))

-- the record x at place i of the first n
module _ (l : List Mapping) (n i : ℕ) (x : Mapping) (h : i < length (take n l)) (e : x ≡ get_or l i no_mapping) where
  pub opening-at : (form domain : Mapping → Bool) (start : Bool) (key : ℕ) (a d v : Bool) → a ≡ (form x && (start || ltb key x.key)) → d ≡ domain x → (a && d) ≡ v
      → opening form domain start key (drop i (take n l)) ≡ (v && scan form domain false x (drop (i + 1) (take n l)))
  opening-at form domain start key a d v ha hd hv =
      let z : (form x && ((start || ltb key x.key) && domain x)) ≡ v = sym (and_assoc (form x) (start || ltb key x.key) (domain x)) ∙ rw (← ha, ← hd) hv in
      ap (opening form domain start key) (now-at l n i x h e) ∙ rw z

  -- the counts after x and the k records that go on with its domain
  pub count-run : (form : Mapping → Bool) (counts : List ℕ) (k m : ℕ) → k ≡ run form x.key x.end (drop (i + 1) (take n l)) → m ≡ i + 1 + k → guest_of x < max_guests → Counted counts i (take n l)
      → Counted (set counts (guest_of x) (get_or counts (guest_of x) 0 + (m - i))) m (take n l)
  count-run form counts k m hk hm w c = (length-set counts (guest_of x) _ ∙ c.0, λ g h. go g h (eqb (guest_of x) g) refl)
    where
      at : (g : ℕ) (b : Bool) → eqb (guest_of x) g ≡ b → records_of (guest g) (drop i (take n l)) ≡ cond b (x ∷ records_of (guest g) (drop (i + 1) (take n l))) (records_of (guest g) (drop (i + 1) (take n l)))
      at g b q = ap (records_of (guest g)) (now-at l n i x h e) ∙ rw q

      on : drop (run form x.key x.end (drop (i + 1) (take n l))) (drop (i + 1) (take n l)) ≡ drop m (take n l)
      on = drop-drop (run form x.key x.end (drop (i + 1) (take n l))) (i + 1) (take n l) ∙ rw (← hk, ← hm)

      go : (g : ℕ) → g < max_guests → (b : Bool) → eqb (guest_of x) g ≡ b
          → (get_or (set counts (guest_of x) (get_or counts (guest_of x) 0 + (m - i))) g 0 ≤ m) × (get_or (set counts (guest_of x) (get_or counts (guest_of x) 0 + (m - i))) g 0 + length (records_of (guest g) (drop m (take n l))) ≡ length (records_of (guest g) (take n l)))
      go g h true q =
          let f : guest_of x ≡ g = eqb-true (guest_of x) g q in
          let y : length (records_of (guest g) (drop i (take n l))) ≡ suc (length (records_of (guest g) (drop (i + 1) (take n l)))) = ap length (at g true q) in
          let r : length (records_of (guest g) (drop (i + 1) (take n l))) ≡ k + length (records_of (guest g) (drop m (take n l))) =
          run-own form x.key g f x.end (drop (i + 1) (take n l)) ∙ rw (on, ← hk) in
          let z = c.1 g h in
          rw (f, get_or-set_same counts g (get_or counts g 0 + (m - i)) 0 (omega arith)) (omega arith, omega arith)
      go g h false q =
          let y : length (records_of (guest g) (drop i (take n l))) ≡ length (records_of (guest g) (drop (i + 1) (take n l))) = ap length (at g false q) in
          let r : length (records_of (guest g) (drop (i + 1) (take n l))) ≡ length (records_of (guest g) (drop m (take n l))) =
          run-other form x.key g (eqb-false (guest_of x) g q) x.end (drop (i + 1) (take n l)) ∙ rw on in
          let z = c.1 g h in
          rw (get_or-set_other counts (guest_of x) g (get_or counts (guest_of x) 0 + (m - i)) 0 (λ z. eqb-false (guest_of x) g q (sym z))) (omega arith, omega arith)

-- past the last record the counts are the guests' records
pub count-end : (s : Settings) (l : List Mapping) (n i : ℕ) (counts : List ℕ) → length (take n l) ≤ i → s.guests ≤ max_guests → Counted counts i (take n l) → below s.guests (λ g. leb (get_or counts g 0) (share s g)) ≡ shares_kept s (take n l)
count-end s l n i counts h k c =
    below-same s.guests (λ g. leb (get_or counts g 0) (share s g)) (λ g. leb (length (records_of (guest g) (take n l))) (share s g))
    (λ g m.
    let w = c.1 g (omega arith) in
    let z : length (records_of (guest g) (drop i (take n l))) ≡ 0 = ap (λ (r : List Mapping). length (records_of (guest g) r)) (gone l n i h) in
    let f : get_or counts g 0 ≡ length (records_of (guest g) (take n l)) = omega arith in
    rw f)
