-- A guest that is none of so many leaves all as it was; else each part is what its function leaves.
use borrow.Author.Tests.{lt-ltb, le-ltb}
use Prim.Native.Nat.{ℕ, ◌+◌, ◌*◌, ◌-◌, min}
use mathlib.Core.Path.{◌≡◌, sym, ap, ◌∙◌}
use mathlib.Core.List.{List, []}
use lib.ListN.{length}
use Rattle.rules.specs.Sizes.{max_guests, domain_span, top_address}
use Rattle.rules.specs.declared.Guest.{Guest}
use Rattle.rules.specs.declared.State.{State}
use Rattle.rules.specs.declared.Answer.TheVariants.{Done}
use Rattle.rules.specs.State.{Device}
use Rattle.state_fields.specs.Fields.{with_live}
use Rattle.state_reset.specs.Changes.{clear_log, detach_all}
use Rattle.table_remove.specs.Removed.{kept_of, removed_words}
use Rattle.refinement.specs.Flat.{device, removed, records_cleared}
use Rattle.refinement.specs.Resetting.{is_guest, reset_answer, logs_reset, domains_reset}
use Rattle.call_reset.proofs.reset_guest.Goals as goal

pub returns-then-guests-g : goal.returns-then-guests-g
unfolding is_guest reset_answer logs_reset domains_reset
returns-then-guests-g c =
    let a = c.args in
    let t = le-ltb a.g.0 (min a.s.now.settings.guests max_guests) (rw (sym c.min-guests.ensures) c.if-guests-g.true) in
    rw t

-- the records gone from the device whose endpoints are detached
gone : (s d : State) (ws vs : List ℕ) (g : Guest) (w n : ℕ) → s ≡ d → w ≡ g.0 → n ≡ length (kept_of s.live (w * domain_span) (w * domain_span + (domain_span - 1)) 0 top_address ws)
    → vs ≡ removed_words s.live (w * domain_span) (w * domain_span + (domain_span - 1)) 0 top_address ws → device (with_live n s) vs ≡ records_cleared (device d ws) g
unfolding removed
gone s d ws vs g w n e f k r = rw (k, r, f, e)

pub returns : goal.returns
unfolding is_guest reset_answer logs_reset domains_reset
returns c =
    let r = c.remove-s in
    let a = c.args in
    let t = lt-ltb a.g.0 (min a.s.now.settings.guests max_guests) (rw (sym c.min-guests.ensures) c.if-guests-g.false) in
    let s : c.detach_all.new.s ≡ detach_all (clear_log a.s.now a.g) a.g = c.detach_all.ensures ∙ ap (λ (x : State). detach_all x a.g) c.clear_log.ensures in
    rw t (ap (λ (d : Device). (record { answer = Done; buffer = [] }, d)) (gone _ _ a.t.now _ a.g c.from-low.result _ s c.from-low.ensures r.ensures.value r.ensures.t_after))
