use Prim.Native.Nat.{ℕ}
use mathlib.Core.Path.{◌≡◌, sym, ap, ◌∙◌}
use Rattle.rules.specs.declared.Answer.{Answer}
use Rattle.rules.specs.declared.Values.{Values}
use Rattle.rules.specs.Answers.{values}
use Rattle.call_answers.proofs.values_of.Goals as goal

-- the values of an answer that is known by its case
known : (a b : Answer) (v : Values) → v ≡ values b → a ≡ b → v ≡ values a
known a b v e f = e ∙ sym (ap (λ (x : Answer). values x) f)

-- a number with no value beside it
numbered : (v : Values) (n m : ℕ) → v ≡ record { number = n; used = 0; address = 0; count = 0 } → n ≡ m → v ≡ record { number = m; used = 0; address = 0; count = 0 }
numbered v n m e f = e ∙ ap (λ k. record { number = k; used = 0; address = 0; count = 0 }) f

pub returns-in-Refused : goal.returns-in-Refused
returns-in-Refused c =
    known _ _ _ (numbered _ _ _ c.with-in-Refused.ensures c.refusal_number.ensures) c.in-Refused.is

pub returns-in-Blocked : goal.returns-in-Blocked
returns-in-Blocked c =
    known _ _ _ (numbered _ _ _ c.with-in-Blocked.ensures c.cause_number.ensures) c.in-Blocked.is

pub returns-in-Done : goal.returns-in-Done
returns-in-Done c =
    known _ _ _ c.with.ensures c.in-Done.is

pub returns-in-Served : goal.returns-in-Served
returns-in-Served c =
    known _ _ _ c.with-in-Served.ensures c.in-Served.is

pub returns-in-Through : goal.returns-in-Through
returns-in-Through c =
    known _ _ _ c.with-in-Through.ensures c.in-Through.is

pub returns-in-Fetched : goal.returns-in-Fetched
returns-in-Fetched c =
    known _ _ _ c.with-in-Fetched.ensures c.in-Fetched.is
