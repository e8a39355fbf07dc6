-- the holders of a suit's cards, by tests of its ranks
use Rattle.std.proofs.Common.{◌≡◌, ℕ, ◌+◌, ◌*◌, Bool, true, false, cond, refl, List, [], ◌∷◌, Option, None, Some}
use Rattle.std.specs.Prelude.{map, filter, ◌||◌}
use Rattle.std.specs.List.{filter_map, list_all}
use mathlib.Core.Path.{ap₂}
use Rattle.dd_cards.specs.declared.seat.Seat.{Seat}
use Rattle.dd_cards.specs.declared.seat.Seat.TheVariants.{North, East, South, West}
use Rattle.dd_cards.specs.Ranks.{IsRank, is_rank}
use Rattle.dd_cards.specs.Seats.{seat_code}
use Rattle.dd_cards.proofs.CallerLemmas.{IsRank-from, and-left, and-right}

-- ---- the holders of a suit's ranks
-- where a rank has a holder it passes, and the number is the holder's code
abbrev pub IsTold : Option Seat → Bool → ℕ → Type 0
IsTold None b n = b ≡ false
IsTold (Some s) b n = (b ≡ true) × (n ≡ seat_code s)

-- the numbers of the ranks that pass are the codes of the holders
pub told-list : (f : ℕ → Option Seat) (test : ℕ → Bool) (number : ℕ → ℕ) (xs : List ℕ) → ((r : ℕ) → IsRank r → IsTold (f r) (test r) (number r)) → list_all is_rank xs ≡ true
    → map number (filter test xs) ≡ map seat_code (filter_map f xs)
told-list f test number [] each real = refl
told-list f test number (r ∷ xs) each real = go (f r) refl (each r (IsRank-from r (and-left (is_rank r) (list_all is_rank xs) real))) (told-list f test number xs each (and-right (is_rank r) (list_all is_rank xs) real))
  where
    go : (o : Option Seat) → f r ≡ o → IsTold o (test r) (number r) → map number (filter test xs) ≡ map seat_code (filter_map f xs) → map number (filter test (r ∷ xs)) ≡ map seat_code (filter_map f (r ∷ xs))
    go None e t ih = rw (e, t) ih
    go (Some s) e t ih = rw (e, t.0) (ap₂ (λ n ns. n ∷ ns) t.1 ih)

-- the holder of a card, by which of four hands have it
pub by-flags : (a b c d : Bool) → (a ≡ true → b ≡ true → ⊥) → (a ≡ true → c ≡ true → ⊥) → (a ≡ true → d ≡ true → ⊥) → (b ≡ true → c ≡ true → ⊥) → (b ≡ true → d ≡ true → ⊥) → (c ≡ true → d ≡ true → ⊥)
    → IsTold (cond a (Some North) (cond b (Some East) (cond c (Some South) (cond d (Some West) None)))) ((a || c) || (b || d)) (cond (b || d) 1 0 + 2 * cond (c || d) 1 0)
by-flags true true c d ab ac ad bc bd cd = absurd (ab refl refl)
by-flags true false true d ab ac ad bc bd cd = absurd (ac refl refl)
by-flags true false false true ab ac ad bc bd cd = absurd (ad refl refl)
by-flags true false false false ab ac ad bc bd cd = (refl, refl)
by-flags false true true d ab ac ad bc bd cd = absurd (bc refl refl)
by-flags false true false true ab ac ad bc bd cd = absurd (bd refl refl)
by-flags false true false false ab ac ad bc bd cd = (refl, refl)
by-flags false false true true ab ac ad bc bd cd = absurd (cd refl refl)
by-flags false false true false ab ac ad bc bd cd = (refl, refl)
by-flags false false false true ab ac ad bc bd cd = (refl, refl)
by-flags false false false false ab ac ad bc bd cd = refl
