use Rattle.std.proofs.Common.{◌≡◌, ℕ, zero, suc, ◌+◌, ◌%◌, ◌<◌, refl, sym, ap, ◌∙◌, arith}
use Rattle.dd_cards.specs.declared.seat.Seat.{Seat}
use Rattle.dd_cards.specs.declared.seat.Seat.TheVariants.{North, East, South, West}
use Rattle.dd_cards.specs.Seats.{seat_code, seat_after}
use Rattle.dd_cards.proofs.HandLists.{seat_code-injective}
use Rattle.dd_cards.proofs.seat.Seat.after.Goals as goal

-- so many places after a seat the code is so many more, round the table
code-after : (s : Seat) (k : ℕ) → k < 4 → seat_code (seat_after s k) ≡ (seat_code s + k) % 4
code-after North zero h = refl
code-after North (suc zero) h = refl
code-after North (suc (suc zero)) h = refl
code-after North (suc (suc (suc zero))) h = refl
code-after East zero h = refl
code-after East (suc zero) h = refl
code-after East (suc (suc zero)) h = refl
code-after East (suc (suc (suc zero))) h = refl
code-after South zero h = refl
code-after South (suc zero) h = refl
code-after South (suc (suc zero)) h = refl
code-after South (suc (suc (suc zero))) h = refl
code-after West zero h = refl
code-after West (suc zero) h = refl
code-after West (suc (suc zero)) h = refl
code-after West (suc (suc (suc zero))) h = refl
code-after s (suc (suc (suc (suc k)))) h = absurd (omega arith)

pub returns : goal.returns
returns c =
    seat_code-injective _ _ (c.at.ensures ∙ ap (λ n. (n + c.args.places) % 4) c.code.ensures.value ∙ sym (code-after c.args.self c.args.places c.requires))
