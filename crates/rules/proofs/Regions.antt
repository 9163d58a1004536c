-- Laws of the words of the regions: what is trimmed, and what is read off the words as a state holds them.
use Prim.Native.Nat.{ℕ, suc, ◌+◌, ◌*◌, ◌/◌, ◌%◌, ◌≤◌, ◌<◌}
use mathlib.Core.Path.{◌≡◌, refl, sym, ap, ◌∙◌}
use mathlib.Core.Bool.{Bool, true, false, cond, ◌&&◌}
use mathlib.Core.List.{List}
use native.Mathlib.Omega.{arith}
use lib.Dec.{ltb}
use lib.ListN.{length, get_or, take, drop, length-take, length-drop}
use lib.Seq.{get_or-take, get_or-drop, length-take-le}
use borrow.Author.Tests.{ltb-true, ltb-false, lt-ltb, le-ltb, leb-true}
use Rattle.laws.specs.Lists.{every?, tab}
use Rattle.laws.proofs.Tests.{both_left, opened}
use Rattle.laws.proofs.Tables.{length-tab, get_d-tab, tab-is, tab-same}
use Rattle.rules.specs.Sizes.{max_endpoints, max_regions, region_words, endpoint_region_words, region_places}
use Rattle.rules.specs.Configuration.{region_count, region_word, region_at, regions_at, endpoint_regions, used_words, region_used, region_tests}
use Rattle.rules.specs.State.{trimmed_regions}
use Rattle.rules.specs.Sound.{zero_from}
use Rattle.rules.proofs.Zeros.{zero-at, zero-from}

-- words that agree where endpoint i's words are in use have the same regions of endpoint i
pub regions-agree : (v w : List ℕ) (i : ℕ) → region_count w i ≤ max_regions
    → ((k : ℕ) → k < endpoint_region_words → k < used_words w i → get_or v (endpoint_region_words * i + k) 0 ≡ get_or w (endpoint_region_words * i + k) 0)
    → regions_at v i ≡ regions_at w i
unfolding regions_at
regions-agree v w i few h = rw count (tab-same (region_count w i) (region_at v i) (region_at w i) (λ j l. same j l))
  where
    count : region_count v i ≡ region_count w i
    count = ap (λ (n : ℕ). get_or v n 0) (omega arith) ∙ h 0 (omega arith) (omega arith) ∙ ap (λ (n : ℕ). get_or w n 0) (omega arith)

    word : (j k : ℕ) → j < region_count w i → k < region_words → region_word v i j k ≡ region_word w i j k
    word j k l m = h (suc (region_words * j + k)) (omega arith) (omega arith)

    same : (j : ℕ) → j < region_count w i → region_at v i j ≡ region_at w i j
    same j l = rw (word j 0 l (omega arith), word j 1 l (omega arith), word j 2 l (omega arith))

-- an endpoint with good regions has at most four
pub region-count : (w : List ℕ) (i : ℕ) → every? (region_tests (regions_at w i)) ≡ true → region_count w i ≤ max_regions
unfolding regions_at
region-count w i h = rw (length-tab (region_count w i) (region_at w i)) at (leb-true (length (tab (region_count w i) (region_at w i))) max_regions (opened (region_tests (tab (region_count w i) (region_at w i))) h).0)

-- which words are in use is said by the numbers of regions alone
used-agree : (n : ℕ) (v w : List ℕ) (k : ℕ) → ((i : ℕ) → i < n → region_count v i ≡ region_count w i) → region_used n v k ≡ region_used n w k
unfolding region_used
used-agree n v w k h = go (ltb (k / endpoint_region_words) n) refl
  where
    go : (b : Bool) → ltb (k / endpoint_region_words) n ≡ b → (b && ltb (k % endpoint_region_words) (used_words v (k / endpoint_region_words))) ≡ (b && ltb (k % endpoint_region_words) (used_words w (k / endpoint_region_words)))
    go true e = rw (h (k / endpoint_region_words) (ltb-true _ _ e))
    go false e = refl

-- a word in use is of one of the n endpoints
used-below : (n : ℕ) (w : List ℕ) (k : ℕ) → region_used n w k ≡ true → k < endpoint_region_words * n
unfolding region_used
used-below n w k h = omega (arith, ltb-true (k / endpoint_region_words) n (both_left _ _ h))

-- the k-th word of endpoint i, by its place among all
used-at : (n : ℕ) (w : List ℕ) (i k : ℕ) → i < n → k < endpoint_region_words → k < used_words w i → region_used n w (endpoint_region_words * i + k) ≡ true
unfolding region_used
used-at n w i k l m u = rw (whole, rest, lt-ltb i n l) (lt-ltb k (used_words w i) u)
  where
    whole : (endpoint_region_words * i + k) / endpoint_region_words ≡ i
    whole = omega arith

    rest : (endpoint_region_words * i + k) % endpoint_region_words ≡ k
    rest = omega arith

-- past the words in use
past-use : (n : ℕ) (w : List ℕ) (i k : ℕ) → k < endpoint_region_words → used_words w i ≤ k → region_used n w (endpoint_region_words * i + k) ≡ false
unfolding region_used
past-use n w i k m u = rw (whole, rest, le-ltb k (used_words w i) u) (none (ltb i n))
  where
    whole : (endpoint_region_words * i + k) / endpoint_region_words ≡ i
    whole = omega arith

    rest : (endpoint_region_words * i + k) % endpoint_region_words ≡ k
    rest = omega arith

    none : (b : Bool) → (b && false) ≡ false
    none true = refl
    none false = refl

-- the words for an endpoint, each by its place among all
endpoint-word : (w : List ℕ) (i k : ℕ) → k < endpoint_region_words → get_or (endpoint_regions w i) k 0 ≡ get_or w (endpoint_region_words * i + k) 0
endpoint-word w i k l = get_or-take endpoint_region_words (drop (endpoint_region_words * i) w) k 0 l ∙ get_or-drop (endpoint_region_words * i) w k 0

length-endpoint : (w : List ℕ) (i : ℕ) → length (endpoint_regions w i) ≤ endpoint_region_words
length-endpoint w i = simp length-take (omega arith)

length_whole : (w : List ℕ) (i : ℕ) → endpoint_region_words * i + endpoint_region_words ≤ length w → length (endpoint_regions w i) ≡ endpoint_region_words
length_whole w i h = length-take-le endpoint_region_words (drop (endpoint_region_words * i) w) (simp length-drop (omega arith))

module _ (n : ℕ) (few : n ≤ max_endpoints) (w : List ℕ) where
  length-trimmed : length (trimmed_regions n w) ≡ region_places
  unfolding trimmed_regions
  length-trimmed = length-tab region_places (λ k. cond (region_used n w k) (get_or w k 0) 0)

  trimmed-at : (k : ℕ) → k < region_places → get_or (trimmed_regions n w) k 0 ≡ cond (region_used n w k) (get_or w k 0) 0
  unfolding trimmed_regions
  trimmed-at k l = get_d-tab region_places (λ k. cond (region_used n w k) (get_or w k 0) 0) k 0 l

  -- the words as a configuration that is read off a state has them
  abbrev held : List ℕ
  held = take (endpoint_region_words * n) (trimmed_regions n w)

  pub length-held : length held ≡ endpoint_region_words * n
  length-held = length-take-le (endpoint_region_words * n) (trimmed_regions n w) (rw length-trimmed (omega arith))

  held-used : (k : ℕ) → region_used n w k ≡ true → get_or held k 0 ≡ get_or w k 0
  held-used k u =
      get_or-take (endpoint_region_words * n) (trimmed_regions n w) k 0 (used-below n w k u)
      ∙ trimmed-at k (omega (arith, used-below n w k u))
      ∙ rw u

  trimmed-used : (k : ℕ) → region_used n w k ≡ true → get_or (trimmed_regions n w) k 0 ≡ get_or w k 0
  trimmed-used k u = trimmed-at k (omega (arith, used-below n w k u)) ∙ rw u

  held_word : (i k : ℕ) → i < n → k < endpoint_region_words → k < used_words w i → get_or held (endpoint_region_words * i + k) 0 ≡ get_or w (endpoint_region_words * i + k) 0
  held_word i k l m u = held-used (endpoint_region_words * i + k) (used-at n w i k l m u)

  -- the regions are those that were given
  pub regions-held : (i : ℕ) → i < n → region_count w i ≤ max_regions → regions_at held i ≡ regions_at w i
  regions-held i l c = regions-agree held w i c (λ k m u. held_word i k l m u)

  count-used : (i : ℕ) → i < n → region_used n w (endpoint_region_words * i) ≡ true
  count-used i l = ap (λ (k : ℕ). region_used n w k) (omega arith) ∙ used-at n w i 0 l (omega arith) (omega arith)

  used-held : (k : ℕ) → region_used n held k ≡ region_used n w k
  used-held k = used-agree n held w k (λ i l. held-used (endpoint_region_words * i) (count-used i l))

  used-trimmed : (k : ℕ) → region_used n (trimmed_regions n w) k ≡ region_used n w k
  used-trimmed k = used-agree n (trimmed_regions n w) w k (λ i l. trimmed-used (endpoint_region_words * i) (count-used i l))

  -- trimmed once is trimmed for good
  pub trimmed-again : trimmed_regions n held ≡ trimmed_regions n w
  unfolding trimmed_regions
  trimmed-again = tab-same region_places _ _ (λ k l. rw (used-held k) (go k (region_used n w k) refl))
    where
      go : (k : ℕ) (b : Bool) → region_used n w k ≡ b → cond b (get_or held k 0) 0 ≡ cond b (get_or w k 0) 0
      go k true e = held-used k e
      go k false e = refl

  -- "unused region places are zero"
  pub trimmed-past : zero_from (endpoint_region_words * n) (trimmed_regions n w) ≡ true
  trimmed-past = zero-from (endpoint_region_words * n) (trimmed_regions n w) (λ k l m. let b : k < region_places = rw length-trimmed at m in trimmed-at k b ∙ unused (region_used n w k) refl l)
    where
      unused : {k : ℕ} (b : Bool) → region_used n w k ≡ b → endpoint_region_words * n ≤ k → cond b (get_or w k 0) 0 ≡ 0
      unused {k} true u l = absurd (omega (arith, used-below n w k u))
      unused {k} false u l = refl

  pub trimmed-rest : (i : ℕ) → i < n → zero_from (used_words (trimmed_regions n w) i) (endpoint_regions (trimmed_regions n w) i) ≡ true
  trimmed-rest i l = zero-from _ (endpoint_regions (trimmed_regions n w) i) (λ k m s. go k m (omega (arith, s, length-endpoint (trimmed_regions n w) i)))
    where
      go : (k : ℕ) → used_words (trimmed_regions n w) i ≤ k → k < endpoint_region_words → get_or (endpoint_regions (trimmed_regions n w) i) k 0 ≡ 0
      go k m s = endpoint-word (trimmed_regions n w) i k s ∙ trimmed-at (endpoint_region_words * i + k) (omega arith) ∙ rw (past-use n w i k s (rw (sym (trimmed-used (endpoint_region_words * i) (count-used i l))) m))

-- words that are zero where none is in use are what trimming those of the endpoints gives
pub trimmed-back : (n : ℕ) (w : List ℕ) → length w ≡ region_places → zero_from (endpoint_region_words * n) w ≡ true
    → ((i : ℕ) → i < n → zero_from (used_words w i) (endpoint_regions w i) ≡ true)
    → trimmed_regions n (take (endpoint_region_words * n) w) ≡ w
unfolding trimmed_regions region_used
trimmed-back n w e past rest = tab-is region_places _ w 0 e (λ k l. rw (used-agree n (take (endpoint_region_words * n) w) w k (λ i m. get_or-take (endpoint_region_words * n) w (endpoint_region_words * i) 0 (omega arith))) (go k l (region_used n w k) refl))
  where
    whole : (k : ℕ) → endpoint_region_words * (k / endpoint_region_words) + k % endpoint_region_words ≡ k
    whole k = omega arith

    zero-here : (k : ℕ) → k < region_places → (b : Bool) → ltb (k / endpoint_region_words) n ≡ b → (b && ltb (k % endpoint_region_words) (used_words w (k / endpoint_region_words))) ≡ false → get_or w k 0 ≡ 0
    zero-here k l true a u =
        ap (λ (m : ℕ). get_or w m 0) (sym (whole k))
        ∙ sym (endpoint-word w (k / endpoint_region_words) (k % endpoint_region_words) (omega arith))
        ∙ zero-at (used_words w (k / endpoint_region_words)) (endpoint_regions w (k / endpoint_region_words)) (k % endpoint_region_words) (rest (k / endpoint_region_words) (ltb-true _ _ a)) (ltb-false _ _ u)
        (rw (length_whole w (k / endpoint_region_words) (rw e (omega arith))) (omega arith))
    zero-here k l false a u = zero-at (endpoint_region_words * n) w k past (omega (arith, ltb-false (k / endpoint_region_words) n a)) (rw e l)

    go : (k : ℕ) → k < region_places → (b : Bool) → region_used n w k ≡ b → cond b (get_or (take (endpoint_region_words * n) w) k 0) 0 ≡ get_or w k 0
    go k l true u = get_or-take (endpoint_region_words * n) w k 0 (used-below n w k u)
    go k l false u = sym (zero-here k l (ltb (k / endpoint_region_words) n) refl u)
