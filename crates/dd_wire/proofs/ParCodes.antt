-- Codes of what par depends on.
use Rattle.std.proofs.Common.{◌≡◌, ℕ, zero, suc, ◌<◌, ◌≤◌, refl, sym, arith, inl, inr, Option, None, Some}
use Rattle.std.specs.Prelude.{◌↔◌, IsSome, IfSome}
use Rattle.std.proofs.lemmas.Bool.Decides.{leb_tells}
use Rattle.dd_cards.specs.declared.seat.Seat.{Seat}
use Rattle.dd_cards.specs.declared.seat.Seat.TheVariants.{North, East, South, West}
use Rattle.dd_cards.specs.Seats.{seat_code}
use Rattle.dd_score.specs.declared.vulnerable.Vulnerable.{Vulnerable}
use Rattle.dd_score.specs.declared.vulnerable.Vulnerable.TheVariants.{Neither, Both, NorthSouth, EastWest}
use Rattle.dd_score.specs.Vulnerability.{vulnerable_code}
use Rattle.dd_wire.specs.ParLines.{seat_coded, vulnerable_coded}

-- a seat of this code is the code's
pub seat-coded : (seat : Seat) (code : ℕ) → seat_code seat ≡ code → seat_coded code ≡ Some seat
seat-coded North code is = rw (← is) refl
seat-coded East code is = rw (← is) refl
seat-coded South code is = rw (← is) refl
seat-coded West code is = rw (← is) refl

-- and above 3 is no seat's code
pub no-seat-coded : (code : ℕ) → 4 ≤ code → seat_coded code ≡ None
no-seat-coded zero h = absurd (omega arith)
no-seat-coded (suc zero) h = absurd (omega arith)
no-seat-coded (suc (suc zero)) h = absurd (omega arith)
no-seat-coded (suc (suc (suc zero))) h = absurd (omega arith)
no-seat-coded (suc (suc (suc (suc code)))) h = refl

-- so it is with who is vulnerable
pub vulnerable-coded : (sides : Vulnerable) (code : ℕ) → vulnerable_code sides ≡ code → vulnerable_coded code ≡ Some sides
vulnerable-coded Neither code is = rw (← is) refl
vulnerable-coded Both code is = rw (← is) refl
vulnerable-coded NorthSouth code is = rw (← is) refl
vulnerable-coded EastWest code is = rw (← is) refl

pub no-vulnerable-coded : (code : ℕ) → 4 ≤ code → vulnerable_coded code ≡ None
no-vulnerable-coded zero h = absurd (omega arith)
no-vulnerable-coded (suc zero) h = absurd (omega arith)
no-vulnerable-coded (suc (suc zero)) h = absurd (omega arith)
no-vulnerable-coded (suc (suc (suc zero))) h = absurd (omega arith)
no-vulnerable-coded (suc (suc (suc (suc code)))) h = refl

-- ---- what is read by a code
-- where nothing was read the code is none
over : {A : Type 0} (code : ℕ) (found : Option A) → found ≡ None → IsSome found ↔ (code < 4) → 4 ≤ code
over code (Some x) is valid = absurd (cc)
over code None is valid = elim (leb_tells 4 code) [
  | inl many ↦ many.1
  | inr few ↦ absurd (let some = valid.1 few.1 in cc)
]

pub seat-read : (code : ℕ) (found : Option Seat) → IsSome found ↔ (code < 4) → IfSome found (λ seat. seat_code seat ≡ code) → found ≡ seat_coded code
seat-read code (Some seat) valid value = sym (seat-coded seat code value)
seat-read code None valid value = sym (no-seat-coded code (over {A = Seat} code None refl valid))

pub vulnerable-read : (code : ℕ) (found : Option Vulnerable) → IsSome found ↔ (code < 4) → IfSome found (λ sides. vulnerable_code sides ≡ code) → found ≡ vulnerable_coded code
vulnerable-read code (Some sides) valid value = sym (vulnerable-coded sides code value)
vulnerable-read code None valid value = sym (no-vulnerable-coded code (over {A = Vulnerable} code None refl valid))
