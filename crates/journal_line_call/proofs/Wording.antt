-- Laws of the lines of a request and an access: each as the pieces that are put one after the other.
use Prim.Native.Nat.{ℕ, ◌+◌}
use mathlib.Core.Path.{◌≡◌}
use mathlib.Core.List.{List, [], ◌∷◌, ◌++◌, append_assoc}
use native.Mathlib.Omega.{arith}
use borrow.Author.Tests.{eq-eqb, ne_eqb}
use Rattle.rules.specs.declared.Answer.{Answer}
use Rattle.rules.specs.Requests.{status_in}
use Rattle.rules.specs.Answers.{number, used_length, address_of}
use Rattle.journal_text.specs.Text.{newline, decimal, address}
use Rattle.journal_line_plain.specs.Plain.{number_line}
use Rattle.journal_text.proofs.Numbers.{decimal-one}
use Rattle.journal_line_plain.proofs.Numbers.{number-text}
use Rattle.journal_line_call.specs.Lines.{request_line, access_line}

-- the start of a request's line
abbrev pub request_head : ℕ → List ℕ
request_head n = 82 ∷ 32 ∷ (48 + n) ∷ 32 ∷ []

-- the used length in it
abbrev pub used_text : ℕ → List ℕ
used_text n = decimal n ++ (32 ∷ [])

-- the start of the line of an access that goes through
abbrev pub access_head : List ℕ
access_head = 65 ∷ 32 ∷ 48 ∷ 32 ∷ []

module _ (a : Answer) where
  module _ (h : number a ≡ 0) where
    pub request-served : (w : List ℕ) → request_line a w ≡ (request_head (number a) ++ used_text (used_length a)) ++ (decimal (status_in w) ++ (newline ∷ []))
    unfolding request_line
    request-served w = rw (eq-eqb (number a) 0 h, number-text a) (simp append_assoc)

    pub access-through : access_line a ≡ access_head ++ (address (address_of a) ++ (newline ∷ []))
    unfolding access_line
    access-through = rw (eq-eqb (number a) 0 h, decimal-one 0 (omega arith))

  module _ (h : number a ≡ 0 → ⊥) where
    pub request-refused : (w : List ℕ) → request_line a w ≡ (request_head (number a) ++ used_text (used_length a)) ++ (45 ∷ 10 ∷ [])
    unfolding request_line
    request-refused w = rw (ne_eqb (number a) 0 h, number-text a) (simp append_assoc)

    pub access-refused : access_line a ≡ number_line 65 a
    unfolding access_line
    access-refused = rw (ne_eqb (number a) 0 h)
