-- A request whose lines are put by a function that is passed.
use Rattle.std.specs.Prelude.{ℕ, ◌≡◌, List, replicate}
use Rattle.std.specs.Borrow.{Bor, MutBor}
use Rattle.rules.specs.declared.Answer.{Answer}
use Rattle.rules.specs.declared.Guest.{Guest}
use Rattle.rules.specs.Device.{Reply, step, request, of_guest}
use Rattle.journal_text.specs.Placing.{written, written_count}
use Rattle.journal_records.specs.Items.{request_bytes}
use Rattle.journal_session.specs.declared.session.Session.{Session}
use Rattle.journal_session.specs.Steps.{RecordStep, call_step, session_device}

-- what is told of a call: the buffer, the place, the answer and the writable part that it takes, the number of bytes that it gives
-- back, and the buffer as left
abbrev pub Post : Type 1
Post = MutBor (List ℕ) → ℕ → Answer → Bor (List ℕ) → ℕ → MutBor (List ℕ) → Type 0

-- each call puts these lines where there is so much room
abbrev pub Puts : ℕ → (Reply → List ℕ) → Post → Type 0
Puts room lines post =
    (o : MutBor (List ℕ)) (k : ℕ) (a : Answer) (w : Bor (List ℕ)) (n : ℕ) (left : MutBor (List ℕ)) → post o k a w n left
    → (n ≡ written_count room k (lines (record { answer = a; buffer = w.now })) o.now) × (left.now ≡ written room k (lines (record { answer = a; buffer = w.now })) o.now)

-- a request with n zeros as its writable part, and these lines
abbrev pub worked_step : (Reply → List ℕ) → Session → List ℕ → List ℕ → Guest → ℕ → RecordStep
worked_step lines p t s g n = call_step s lines (step (session_device p t) (of_guest g (request (request_bytes s) (replicate n 0))))
