-- The device's step on state and table is the step on the world that they hold.
use Prim.Native.Nat.{ℕ}
use mathlib.Core.Path.{◌≡◌, refl, ap, subst}
use mathlib.Core.Bool.{Bool, true, false, cond, not}
use mathlib.Core.List.{List, [], ◌∷◌}
use mathlib.Core.Option.{Option, some, none}
use borrow.Author.Tests.{not-false}
use native.Mathlib.Omega.{arith}
use lib.Dec.{eqb}
use lib.ListN.{length, replicate}
use Rattle.laws.specs.Runs.{after, given}
use Rattle.laws.proofs.Tests.{either_way}
use Rattle.rules.specs.declared.Guest.{Guest}
use Rattle.rules.specs.declared.Answer.TheVariants.{Done, Refused}
use Rattle.rules.specs.declared.Refusal.TheVariants.{NoSuchGuest, Unsound, BadConfiguration}
use Rattle.rules.specs.Sizes.{table_words}
use Rattle.rules.specs.Answers.{number}
use Rattle.rules.specs.Configuration.{Config, good}
use Rattle.rules.specs.Table.{table_of}
use Rattle.rules.specs.State.{World, Device, config_of, read, write, state_of, start, zero_state, trimmed}
use Rattle.rules.specs.Guests.{own, part, replace}
use Rattle.rules.specs.Sound.{sound}
use Rattle.rules.specs.Device.{Call, of_guest, access_by, Reply, refused_with, caller, numbered, work, performed, step, SetUp, set_up}
use Rattle.rules.proofs.Worlds.{Whole, caller-below, performed_world, step_world, step_keeps, start-whole}
use Rattle.rules.proofs.Groups.{Good, good-facts}
use Rattle.rules.proofs.Writing.{kept, config-back, read-write}
use Rattle.rules.proofs.Kept.{own-kept, write_kept}
use Rattle.rules.proofs.Soundness.{write-sound}
use Rattle.rules.proofs.Reading.{sound-whole}

-- a sound device's reply is that of its world, and its next state and table are sound
pub reply-of : (d : Device) (x : Call) → sound d ≡ true → (step d x).0 ≡ (step_world (config_of d.state) (read d) x).0
unfolding step step_world performed performed_world
reply-of d x s = rw s (either_way (λ (r : Reply × Device). r.0 ≡ (cond (not (numbered c x)) (refused_with NoSuchGuest x, read d) (performed_world c (read d) (caller c x) x)).0) (not (numbered c x)) (λ n. rw n) (λ n. rw n (go (caller c x))))
  where
    c : Config
    c = config_of d.state

    go : (m : Option Guest) → (performed d m x).0 ≡ (performed_world c (read d) m x).0
    go none = refl
    go (some g) = refl

pub step-sound : (d : Device) (x : Call) → sound d ≡ true → sound (step d x).1 ≡ true
unfolding step performed
step-sound d x s = rw s (either_way (λ (r : Reply × Device). sound r.1 ≡ true) (not (numbered c x)) (λ n. s) (λ n. go (caller c x) refl (not-false _ n)))
  where
    c : Config
    c = config_of d.state

    world : (g : Guest) → caller c x ≡ some g → numbered c x ≡ true → (step_world c (read d) x).1 ≡ (work c g (read d) x).1
    world g e n = unfold step_world performed_world in rw (n, e)

    go : (m : Option Guest) → caller c x ≡ m → numbered c x ≡ true → sound (performed d m x).1 ≡ true
    go none e n = s
    go (some g) e n = write-sound c (work c g (read d) x).1 (subst (λ (w : World). Whole c w) (world g e n) (step_keeps c (read d) x (sound-whole d s)))

-- on what a whole world wrote, the step writes the world's next
pub step-write : (c : Config) (w : World) (x : Call) → Whole c w → step (write c w) x ≡ ((step_world c w x).0, write c (step_world c w x).1)
step-write c w x h =
    unfold step in rw (write-sound c w h, config)
    (unfold step_world in go (not (numbered c x)) refl)
  where
    i : Good c
    i = good-facts c h.config

    config : config_of (write c w).state ≡ kept c
    config = unfold write in config-back c w i

    same_number : (y : Call) → numbered (kept c) y ≡ numbered c y
    same_number (of_guest g j) = unfold kept trimmed in refl
    same_number (access_by a) = refl

    same-caller : (y : Call) → caller (kept c) y ≡ caller c y
    same-caller (of_guest g j) = unfold caller in refl
    same-caller (access_by a) = unfold caller kept in refl

    done : (m : Option Guest) → caller c x ≡ m → numbered c x ≡ true → performed (write c w) m x ≡ ((performed_world c w m x).0, write c (performed_world c w m x).1)
    done none e n = unfold performed performed_world in refl
    done (some g) e n =
        unfold performed performed_world work in
        (rw (config, read-write c w h, write_kept c h.config, own-kept c h.config g (caller-below c x g i n e)) (unfold part replace kept in refl))

    go : (b : Bool) → not (numbered c x) ≡ b
        → cond (not (numbered (kept c) x)) (refused_with NoSuchGuest x, write c w) (performed (write c w) (caller (kept c) x) x)
        ≡ ((cond b (refused_with NoSuchGuest x, w) (performed_world c w (caller c x) x)).0, write c (cond b (refused_with NoSuchGuest x, w) (performed_world c w (caller c x) x)).1)
    go true e = rw (same_number x, e)
    go false e = rw (same_number x, e, same-caller x) (done (caller c x) refl (not-false (numbered c x) e))

-- RUNS

pub after_write : (c : Config) (xs : List Call) (w : World) → Whole c w → after step (write c w) xs ≡ write c (after (step_world c) w xs)
after_write c [] w h = refl
after_write c (x ∷ xs) w h = rw (step-write c w x h) (after_write c xs (step_world c w x).1 (step_keeps c w x h))

pub given-write : (c : Config) (own : Call → Bool) (xs : List Call) (w : World) → Whole c w → given step own (write c w) xs ≡ given (step_world c) own w xs
given-write c own [] w h = refl
given-write c own (x ∷ xs) w h = rw (step-write c w x h, given-write c own xs (step_world c w x).1 (step_keeps c w x h))

-- SET-UP

-- set-up, by the test of the table's length and of the configuration
set-up-by : Config → List ℕ → Bool → Bool → SetUp
set-up-by c table l b =
    cond (not l) (record { answer = Refused Unsound; device = record { state = zero_state; table = table } })
    (cond (not b) (record { answer = Refused BadConfiguration; device = record { state = zero_state; table = table } })
    (record { answer = Done; device = record { state = state_of c (start c); table = replicate table_words 0 } }))

accepted-by : (c : Config) (table : List ℕ) (l b : Bool) → (set-up-by c table l b).answer ≡ Done → (b ≡ true) × ((set-up-by c table l b).device ≡ write c (start c))
unfolding set-up-by
accepted-by c table true true e = (refl, unfold write in rw fresh)
  where
    fresh : table_of (start c).records ≡ replicate table_words 0
    fresh = unfold start table_of in refl
accepted-by c table true false e = absurd (let z : number (Refused BadConfiguration) ≡ number Done = ap number e in omega arith)
accepted-by c table false b e = absurd (let z : number (Refused Unsound) ≡ number Done = ap number e in omega arith)

-- an accepted set-up's configuration is good, and it leaves what writing the start gives
pub set-up-good : (c : Config) (table : List ℕ) → (set_up c table).answer ≡ Done → good c ≡ true
unfolding set_up set-up-by
set-up-good c table e = (accepted-by c table (eqb (length table) table_words) (good c) e).0

pub set-up-write : (c : Config) (table : List ℕ) → (set_up c table).answer ≡ Done → (set_up c table).device ≡ write c (start c)
unfolding set_up set-up-by
set-up-write c table e = (accepted-by c table (eqb (length table) table_words) (good c) e).1

pub set-up-whole : (c : Config) (table : List ℕ) → (set_up c table).answer ≡ Done → Whole c (start c)
set-up-whole c table e = start-whole c (set-up-good c table e)
