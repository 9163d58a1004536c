-- A request's line is its start, the used length, and the status or a dash, each put after the other.
use Prim.Native.Nat.{ℕ, ◌+◌, ◌-◌, ◌≤◌}
use mathlib.Core.Path.{◌≡◌, sym, ◌∙◌}
use mathlib.Core.List.{List, [], ◌∷◌, ◌++◌}
use native.Mathlib.Omega.{arith}
use borrow.Author.Rules.{rules}
use borrow.Author.Tests.{not-true, not-false, leb-true}
use lib.ListN.{length}
use Rattle.rules.specs.Answers.{number, used_length}
use Rattle.journal_text.specs.Placing.{decimal_room, line_room, written, written_count}
use Rattle.journal_line_call.specs.Lines.{request_line}
use Rattle.journal_line_plain.proofs.Numbers.{small}
use Rattle.journal_text.proofs.Places.{Put, Placed, written-few, placed-room, placed-next, put-named, put_whole, put-none}
use Rattle.journal_line_call.proofs.Wording.{request_head, used_text, request-served, request-refused}
use Rattle.journal_line_call.proofs.put_request.Statement.{statement}
use Rattle.journal_line_call.proofs.put_request.Tie as tie

none : tie.Need-returns-then-not-has_room
none c =
    let r = c.before.has_room in
    let a = c.before.before.before.before.args in
    let p = put-none line_room a.at (request_line a.a a.writable.now) a.out.now (sym r.ensures ∙ c.if-not-has_room.true) in
    (p.0, p.1, omega arith)

-- once the line's start and the used length are put, a rest put after them makes the line
line-put : (d : tie.After-put_decimal-after) (s : ℕ) (rest : List ℕ) {m : ℕ} {y : List ℕ} →
    let p = d.before.before.before.before.before in
    let a = p.before.before.before.before.before.before.before.before.args in
    let line = request_line a.a a.writable.now in
    s ≤ decimal_room → line ≡ (request_head (number a.a) ++ used_text (used_length a.a)) ++ rest → Placed s d.put_decimal-after.result rest d.put_decimal-after.new.out m y → m ≤ d.put_decimal-after.result + decimal_room
    → (m - a.at ≡ written_count line_room a.at line a.out.now) × (y ≡ written line_room a.at line a.out.now) × (m - a.at ≤ line_room)
line-put d s rest l e q few =
    let p = d.before.before.before.before.before in
    let n = p.before.before.before in
    let r = n.before.before.has_room in
    let a = n.before.before.before.before.before.args in
    let head = request_head (number a.a) in
    let used = used_text (used_length a.a) in
    let line = request_line a.a a.writable.now in
    let yes = sym r.ensures ∙ n.before.if-not-has_room.false in
    let room : a.at + line_room ≤ length a.out.now = leb-true (a.at + line_room) (length a.out.now) yes in
    let first : Put a.at head a.out.now p.put_bytes-next.result p.put_bytes-next.new.out =
    placed-room 4 a.at head a.out.now (omega (arith, room)) (rw n.number_of-number.ensures at p.put_bytes-next.ensures) in
    let text = rw d.before.used_of.ensures at d.put_decimal-after.ensures in
    let start : Put a.at (head ++ used) a.out.now d.put_decimal-after.result d.put_decimal-after.new.out =
    placed-next decimal_room a.at head used a.out.now (omega (arith, room)) first (text.0, text.1) in
    let whole = put_whole line_room a.at line a.out.now yes
    (put-named a.at line ((head ++ used) ++ rest) a.out.now e
    (placed-next s a.at (head ++ used) rest a.out.now (omega (arith, room, first.0, start.0, d.put_decimal-after.ensures.2)) start q)) in
    (whole.0, whole.1, omega (arith, few, first.0, d.put_decimal-after.ensures.2))

refused : tie.Need-returns-then-number-ne0
refused c =
    let q = c.before.before in
    let t = q.before.before.before in
    let d = t.before.before.before in
    let n = d.before.before.before.before.before.before.before.before.number_of-number in
    line-put d 2 _ (omega arith) (request-refused _ (λ h. t.if-number-ne0.true (n.ensures ∙ h)) _) q.put_bytes.ensures
    (omega (arith, q.put_bytes.ensures.0, written-few 2 d.put_decimal-after.result (45 ∷ 10 ∷ []) d.put_decimal-after.new.out))

served : tie.Need-returns
served c =
    let q = c.before.before in
    let t = q.before.before.before in
    let d = t.before.before.before in
    let n = d.before.before.before.before.before.before.before.before.number_of-number in
    let status = rw q.before.status_in.ensures at q.put_decimal.ensures in
    line-put d decimal_room _ (omega arith) (request-served _ (sym n.ensures ∙ t.if-number-ne0.false) _) (status.0, status.1) status.2

pub put_request_spec : {M : Type 1} → statement M
put_request_spec =
    tie.close
    (tie.spec
    (λ c κs. search rules)
    none
    (λ c κs. search rules)
    (λ c. record { fits = omega (arith, small c.before.before.before.before.before.args.a) })
    (λ c. search rules)
    (λ c κs. search rules)
    (λ c κs. search rules)
    (λ c κs. search rules)
    (λ c. search rules)
    (λ c κs. search rules)
    (λ c. search rules)
    (λ c. search rules)
    refused
    (λ c κs. search rules)
    (λ c κs. search rules)
    (λ c. search rules)
    (λ c. search rules)
    served)
