-- The claims of specs/Claims.antt, proved.
use Prim.Native.Nat.{ℕ, ◌+◌, ◌<◌}
use mathlib.Core.Path.{◌≡◌, refl, sym, ap, subst, ◌∙◌}
use mathlib.Core.Bool.{Bool, true, false, cond, not}
use mathlib.Core.List.{List, [], ◌∷◌}
use mathlib.Core.Option.{Option, some, none}
use lib.Dec.{eqb}
use lib.ListN.{length}
use borrow.Author.Tests.{eqb-false, eq-eqb}
use Rattle.laws.specs.Lists.{keep}
use Rattle.laws.specs.Runs.{after, given, every}
use Rattle.laws.proofs.Runs.{view-after, given-alone, kept-after}
use Rattle.rules.specs.declared.Guest.{Guest}
use Rattle.rules.specs.declared.Access.{Access}
use Rattle.rules.specs.declared.Answer.TheVariants.{Done}
use Rattle.rules.specs.declared.Refusal.TheVariants.{NoSuchGuest}
use Rattle.rules.specs.Answers.{number}
use Rattle.rules.specs.Configuration.{Config}
use Rattle.rules.specs.State.{World, Device, write, start}
use Rattle.rules.specs.Guests.{own, part}
use Rattle.rules.specs.Device.{Call, access_by, Reply, refused_with, rule, caller, owns, numbered, work, step, set_up}
use Rattle.rules.specs.History.{no_tally}
use Rattle.rules.specs.Claims.{holds, Apart, GuestsApart, WithinWindow, AccessesStayInside, HeldIsHistory, SetUpIsSound, CallsKeepSound, NeverUnsound, OnlyWhenPermitted, WheneverPermitted}
use Rattle.rules.proofs.Worlds.{Whole, caller-below, performed_world, step_world, step_keeps, step_other, step-mine}
use Rattle.rules.proofs.Groups.{good-facts}
use Rattle.rules.proofs.Writing.{read-write}
use Rattle.rules.proofs.Soundness.{write-sound}
use Rattle.rules.proofs.Steps.{step-sound, step-write, after_write, given-write, set-up-write, set-up-whole}
use Rattle.rules.proofs.History.{held-over}
use Rattle.rules.proofs.Accesses.{access-lands, only-when, whenever}
use Rattle.rules.proofs.Share.{rule-number}

keep-keep : {A : Type 0} (q : A → Bool) (l : List A) → keep q (keep q l) ≡ keep q l
keep-keep q [] = refl
keep-keep q (x ∷ l) = go (q x) refl (keep-keep q l)
  where
    go : (b : Bool) → q x ≡ b → keep q (keep q l) ≡ keep q l → keep q (cond b (x ∷ keep q l) (keep q l)) ≡ cond b (x ∷ keep q l) (keep q l)
    go true e i = rw (e, i)
    go false e i = i

-- a list of own calls alone: all its replies are asked for
given-own : {W C A : Type 0} (step : W → C → A × W) (q : C → Bool) (w : W) (l : List C) → given step q w (keep q l) ≡ given step every w (keep q l)
given-own step q w [] = refl
given-own step q w (x ∷ l) = go (q x) refl (given-own step q (step w x).1 l) (given-own step q w l)
  where
    go : (b : Bool) → q x ≡ b → given step q (step w x).1 (keep q l) ≡ given step every (step w x).1 (keep q l) → given step q w (keep q l) ≡ given step every w (keep q l)
        → given step q w (cond b (x ∷ keep q l) (keep q l)) ≡ given step every w (cond b (x ∷ keep q l) (keep q l))
    go true e i j = rw (e, i)
    go false e i j = j

-- FROM WHAT A WHOLE WORLD WROTE

module _ (c : Config) (g : Guest) (l : g.0 < c.settings.guests) (w : World) (h : Whole c w) where
  mine : (w : World) (x : Call) → Whole c w → owns c g x ≡ true → ((step_world c w x).0 ≡ (rule (own c g) (part c g w) x).0) × (part c g (step_world c w x).1 ≡ (rule (own c g) (part c g w) x).1)
  mine w x i o = step-mine c w x g i l o

  others : (w : World) (x : Call) → Whole c w → owns c g x ≡ false → part c g (step_world c w x).1 ≡ part c g w
  others w x i o = step_other c w x g i o

  held_after : (xs : List Call) → holds c g (after step (write c w) xs) ≡ part c g (after (step_world c) w xs)
  held_after xs = rw (after_write c xs w h, read-write c (after (step_world c) w xs) (kept-after (step_world c) (Whole c) (step_keeps c) xs w h))

  by-rule : (xs : List Call) → given step (owns c g) (write c w) xs ≡ given (rule (own c g)) every (holds c g (write c w)) (keep (owns c g) xs)
  by-rule xs =
      given-write c (owns c g) xs w h
      ∙ given-alone (step_world c) (rule (own c g)) (part c g) (owns c g) (Whole c) (step_keeps c) others (λ v x i n. (mine v x i n).0) (λ v x i n. (mine v x i n).1) xs w h
      ∙ ap (λ (v : World). given (rule (own c g)) every (part c g v) (keep (owns c g) xs)) (sym (read-write c w h))

  held-rule : (xs : List Call) → holds c g (after step (write c w) xs) ≡ after (rule (own c g)) (holds c g (write c w)) (keep (owns c g) xs)
  held-rule xs =
      held_after xs
      ∙ view-after (step_world c) (rule (own c g)) (part c g) (owns c g) (Whole c) (step_keeps c) others (λ v x i n. (mine v x i n).0) (λ v x i n. (mine v x i n).1) xs w h
      ∙ ap (λ (v : World). after (rule (own c g)) (part c g v) (keep (owns c g) xs)) (sym (read-write c w h))

  same-replies : (xs ys : List Call) → keep (owns c g) xs ≡ keep (owns c g) ys → given step (owns c g) (write c w) xs ≡ given step (owns c g) (write c w) ys
  same-replies xs ys e = by-rule xs ∙ ap (λ m. given (rule (own c g)) every (holds c g (write c w)) m) e ∙ sym (by-rule ys)

  same-held : (xs ys : List Call) → keep (owns c g) xs ≡ keep (owns c g) ys → holds c g (after step (write c w) xs) ≡ holds c g (after step (write c w) ys)
  same-held xs ys e = held-rule xs ∙ ap (λ m. after (rule (own c g)) (holds c g (write c w)) m) e ∙ sym (held-rule ys)

  apart : (xs ys : List Call) → keep (owns c g) xs ≡ keep (owns c g) ys → Apart c g (write c w) xs ys
  apart xs ys e =
      let alone = sym (keep-keep (owns c g) xs) in
      record {
        replies = same-replies xs ys e;
        held = same-held xs ys e;
        replies_by_rule = by-rule xs;
        held_by_rule = held-rule xs;
        replies_alone = same-replies xs (keep (owns c g) xs) alone ∙ given-own step (owns c g) (write c w) xs;
        held_alone = same-held xs (keep (owns c g) xs) alone;
      }

-- 1.
pub guests-apart : GuestsApart
guests-apart c table done g l xs ys e = subst (λ (d : Device). Apart c g d xs ys) (sym (set-up-write c table done)) (apart c g l (start c) (set-up-whole c table done) xs ys e)

-- 4.
pub set-up-is-sound : SetUpIsSound
set-up-is-sound c table done = rw (set-up-write c table done) (write-sound c (start c) (set-up-whole c table done))

pub calls-keep-sound : CallsKeepSound
calls-keep-sound d s x = step-sound d x s

-- the device after any calls from an accepted set-up is what some whole world writes
after-set-up : (c : Config) (table : List ℕ) → (set_up c table).answer ≡ Done → (xs : List Call) → (w : World) × (after step (set_up c table).device xs ≡ write c w) × Whole c w
after-set-up c table done xs =
    let h = set-up-whole c table done in
    (after (step_world c) (start c) xs, rw (set-up-write c table done) (after_write c xs (start c) h), kept-after (step_world c) (Whole c) (step_keeps c) xs (start c) h)

pub never-unsound : NeverUnsound
never-unsound c table done xs x n =
    let v = after-set-up c table done xs in
    eqb-false _ 2 (ap (λ (y : Reply). eqb (number y.answer) 2) (ap (λ (d : Device). (step d x).0) v.1 ∙ ap (λ (r : Reply × Device). r.0) (step-write c v.0 x v.2)) ∙ answered v.0) n
  where
    answered : (w : World) → eqb (number (step_world c w x).0.answer) 2 ≡ false
    answered w = unfold step_world in go (not (numbered c x)) (caller c x)
      where
        go : (t : Bool) (m : Option Guest) → eqb (number (cond t (refused_with NoSuchGuest x, w) (performed_world c w m x)).0.answer) 2 ≡ false
        go true m = refl
        go false none = unfold performed_world in refl
        go false (some g) = unfold performed_world work in rule-number (own c g) (part c g w) x

-- 2.
rule-lands : (c : Config) (g : Guest) (w : World) (a : Access) → Whole c w → g.0 < c.settings.guests → WithinWindow c g (rule (own c g) (part c g w) (access_by a)).0
unfolding rule own
rule-lands c g w a h l = access-lands (own c g) (part c g w) a (h.parts g l)

world-lands : (c : Config) (w : World) (a : Access) (g : Guest) → Whole c w → caller c (access_by a) ≡ some g → WithinWindow c g (step (write c w) (access_by a)).0
world-lands c w a g h own-call =
    subst (λ (y : Reply). WithinWindow c g y)
    (sym (ap (λ (r : Reply × Device). r.0) (step-write c w (access_by a) h) ∙ (step-mine c w (access_by a) g h l owned).0))
    (rule-lands c g w a h l)
  where
    l : g.0 < c.settings.guests
    l = caller-below c (access_by a) g (good-facts c h.config) refl own-call

    owned : owns c g (access_by a) ≡ true
    owned = unfold owns in rw own-call (eq-eqb g.0 g.0 refl)

pub accesses-stay-inside : AccessesStayInside
accesses-stay-inside c table done xs a g own-call =
    let v = after-set-up c table done xs in
    subst (λ (d : Device). WithinWindow c g (step d (access_by a)).0) (sym v.1) (world-lands c v.0 a g v.2 own-call)

-- 3.
pub held-is-history : HeldIsHistory
held-is-history c table done g l xs =
    let h = set-up-whole c table done in
    rw (set-up-write c table done, after_write c xs (start c) h, read-write c (after (step_world c) (start c) xs) (kept-after (step_world c) (Whole c) (step_keeps c) xs (start c) h))
    (held-over c g xs (start c) no_tally h l none-held)
  where
    none-held : length (part c g (start c)).records + 0 ≡ 0
    none-held = unfold part start in refl

-- 5.
pub only-when-permitted : OnlyWhenPermitted
only-when-permitted d s a to g own-call goes = only-when d s a g own-call to goes

pub whenever-permitted : WheneverPermitted
whenever-permitted d s a g own-call domain there i r p = whenever d s a g own-call domain there i r p
