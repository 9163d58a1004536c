-- The tests of an endpoint's regions, place by place, are those of the list.
use Prim.Native.Nat.{ℕ, ◌*◌, ◌≤◌, ◌<◌}
use mathlib.Core.Path.{◌≡◌}
use mathlib.Core.Bool.{Bool, true, false, not, ◌&&◌}
use mathlib.Core.List.{List}
use lib.Dec.{leb, eqb}
use lib.ListN.{length}
use borrow.Author.Tests.{le-leb, lt-leb, ne_eqb, eq-eqb}
use Rattle.laws.specs.Lists.{every?, all?, below, tab}
use Rattle.laws.proofs.Tests.{both, both_left, both_right, same_test, opened, closed}
use Rattle.laws.proofs.Tables.{below_at, below_all, length-tab, get_d-tab, all-tab, all-at}
use Rattle.rules.specs.declared.Region.{Region}
use Rattle.rules.specs.Sizes.{max_regions, endpoint_region_words}
use Rattle.rules.specs.Configuration.{MSI, region_count, region_at, regions_at, region_tests, good_regions}
use Rattle.config_regions.specs.Places.{formed, apart, fitting}
use Rattle.config_regions.proofs.Pairs.{pairs-tab-at, pairs-tab}

abbrev no_region : Region
no_region = record { subtype = 0; start = 0; end = 0 }

module _ (n : ℕ) (f : ℕ → Region) where
  all-tab-at : (p : Region → Bool) (j : ℕ) → all? p (tab n f) ≡ true → j < n → p (f j) ≡ true
  all-tab-at p j h l = rw (get_d-tab n f j no_region l) at (all-at p (tab n f) j no_region h (rw (length-tab n f) l))

  listed-fit : n ≤ max_regions → below n (fitting f) ≡ true → every? (region_tests (tab n f)) ≡ true
  listed-fit few h =
      closed (region_tests (tab n f)) (
        rw (length-tab n f) (le-leb n max_regions few),
        (
          all-tab _ n f (λ j l. both_left _ _ (shape j l)),
          (
            all-tab _ n f (λ j l. both_right (leb (f j).subtype MSI) _ (shape j l)),
            (
              pairs-tab _ no_region n f (λ k j a b. both_left _ _ (pair k j a b)),
              (pairs-tab _ no_region n f (λ k j a b. both_right (not (eqb (f k).subtype MSI && eqb (f j).subtype MSI)) _ (pair k j a b)), tt),
            ),
          ),
        ),
      )
    where
      shape : (j : ℕ) → j < n → formed (f j) ≡ true
      shape j l = both_left (formed (f j)) _ (below_at n (fitting f) j h l)

      pair : (k j : ℕ) → k < j → j < n → apart (f k) (f j) ≡ true
      pair k j a b = below_at j (λ i. apart (f i) (f j)) k (both_right (formed (f j)) _ (below_at n (fitting f) j h b)) a

  fit-listed : every? (region_tests (tab n f)) ≡ true → below n (fitting f) ≡ true
  fit-listed h =
      let t = opened (region_tests (tab n f)) h in
      below_all n (fitting f) (λ j l.
      both (formed (f j)) _ (both _ _ (all-tab-at _ j t.1.0 l) (all-tab-at _ j t.1.1.0 l))
      (below_all j (λ k. apart (f k) (f j)) (λ k a. both _ _ (pairs-tab-at _ no_region n f k j t.1.1.1.0 a l) (pairs-tab-at _ no_region n f k j t.1.1.1.1.0 a l))))

module _ (w : List ℕ) (i : ℕ) where
  -- at most four, tested one by one
  pub fit-few : region_count w i ≤ max_regions → below (region_count w i) (fitting (region_at w i)) ≡ every? (region_tests (regions_at w i))
  unfolding regions_at
  fit-few few = same_test _ _ (listed-fit (region_count w i) (region_at w i) few) (fit-listed (region_count w i) (region_at w i))

  -- more than four
  pub fit-many : max_regions < region_count w i → false ≡ every? (region_tests (regions_at w i))
  unfolding regions_at
  fit-many many = rw (length-tab (region_count w i) (region_at w i), lt-leb (region_count w i) max_regions many)

-- words of another length
module _ (n : ℕ) (w : List ℕ) where
  pub words-other : (length w ≡ endpoint_region_words * n → ⊥) → false ≡ good_regions n w
  unfolding good_regions
  words-other h = rw (ne_eqb (length w) (endpoint_region_words * n) h)

  pub words-whole : length w ≡ endpoint_region_words * n → below n (λ i. every? (region_tests (regions_at w i))) ≡ good_regions n w
  unfolding good_regions
  words-whole h = rw (eq-eqb (length w) (endpoint_region_words * n) h)
