-- a walk over all bids and seats by tests alone: where it ends well for a side, the side has something to aim at
use Rattle.std.proofs.Common.{◌≡◌, ℕ, zero, suc, ◌+◌, ◌<◌, ◌≤◌, Bool, true, false, refl, sym, ap, ◌∙◌, inl, inr, arith}
use Rattle.std.specs.Prelude.{◌&&◌, ◌||◌}
use Rattle.std.proofs.lemmas.Bool.Decides.{eqb_tells}
use Rattle.dd_cards.specs.declared.seat.Seat.{Seat}
use Rattle.dd_cards.specs.declared.seat.Seat.TheVariants.{North, East, South, West}
use Rattle.dd_cards.specs.declared.side.Side.{Side}
use Rattle.dd_cards.specs.Seats.{seat_after}
use Rattle.dd_cards.specs.Sides.{side_of, other_side, same_side}
use Rattle.dd_cards.proofs.CallerLemmas.{is-same, and-left, and-right}
use Rattle.dd_score.proofs.Namers.{apart}

-- what the side has after a seat's choice: better where the seat is its own and has something good, worse where it is the other
-- side's and has something bad
abbrev pub chosen_by : Bool → Bool → Bool → Bool
chosen_by true here before = here || before
chosen_by false here before = here && before

-- so many seats from a place on, the last of them first
abbrev pub round_of : Side → (ℕ → Seat → Bool) → Seat → ℕ → ℕ → ℕ → Bool → Bool
round_of side good dealer k zero i before = before
round_of side good dealer k (suc more) i before =
    chosen_by (same_side (side_of (seat_after dealer i)) side) (good k (seat_after dealer i)) (round_of side good dealer k more (suc i) before)

-- all bids up to one, each offered to all seats
abbrev pub walk_of : Side → Bool → (ℕ → Seat → Bool) → Seat → ℕ → Bool
walk_of side none good dealer zero = none
walk_of side none good dealer (suc k) = round_of side good dealer (suc k) 4 0 (walk_of side none good dealer k)

-- what a side may aim at, of the bids up to n: a bid of its own that nothing bad follows, or to let the auction be passed out
pub data Aim (side : Side) (none : Bool) (good : ℕ → Seat → Bool) (dealer : Seat) (n : ℕ) : Type 0 where
  nothing : none ≡ true → ((k : ℕ) (s : Seat) → 0 < k → k ≤ n → side_of s ≡ other_side side → good k s ≡ true) → Aim side none good dealer n
  bidding : (m i : ℕ) → 0 < m → m ≤ n → i < 4 → side_of (seat_after dealer i) ≡ side → good m (seat_after dealer i) ≡ true
      → ((k : ℕ) (s : Seat) → m < k → k ≤ n → side_of s ≡ other_side side → good k s ≡ true)
      → ((j : ℕ) → j < i → side_of (seat_after dealer j) ≡ other_side side → good m (seat_after dealer j) ≡ true)
      → Aim side none good dealer n

-- each seat has a place after the dealer
place-of : (dealer s : Seat) → (i : ℕ) × (i < 4) × (seat_after dealer i ≡ s)
place-of North North = (0, omega arith, refl)
place-of North East = (1, omega arith, refl)
place-of North South = (2, omega arith, refl)
place-of North West = (3, omega arith, refl)
place-of East East = (0, omega arith, refl)
place-of East South = (1, omega arith, refl)
place-of East West = (2, omega arith, refl)
place-of East North = (3, omega arith, refl)
place-of South South = (0, omega arith, refl)
place-of South West = (1, omega arith, refl)
place-of South North = (2, omega arith, refl)
place-of South East = (3, omega arith, refl)
place-of West West = (0, omega arith, refl)
place-of West North = (1, omega arith, refl)
place-of West East = (2, omega arith, refl)
place-of West South = (3, omega arith, refl)

-- an aim among fewer bids is one where the next bid is good whoever of the other side makes it
aim-more : (side : Side) (none : Bool) (good : ℕ → Seat → Bool) (dealer : Seat) (n : ℕ)
    → ((s : Seat) → side_of s ≡ other_side side → good (suc n) s ≡ true) → Aim side none good dealer n → Aim side none good dealer (suc n)
aim-more side none good dealer n here (nothing passed all) = nothing passed (λ k s some most theirs. elim (eqb_tells k (suc n)) [
  | inl same ↦ ap (λ j. good j s) same.1 ∙ here s theirs
  | inr other ↦ all k s some (omega (arith, other.1)) theirs
])
aim-more side none good dealer n here (bidding m i some most place own fine above before) =
    bidding m i some (omega arith) place own fine (λ k s low high theirs. elim (eqb_tells k (suc n)) [
      | inl same ↦ ap (λ j. good j s) same.1 ∙ here s theirs
      | inr other ↦ above k s low (omega (arith, other.1)) theirs
    ]) before

-- one bid offered to the seats from a place on, those before it being harmless
round-aim : (side : Side) (none : Bool) (good : ℕ → Seat → Bool) (dealer : Seat) (k : ℕ) (before : Bool) (more i : ℕ) → more + i ≡ 4
    → ((j : ℕ) → j < i → side_of (seat_after dealer j) ≡ other_side side → good (suc k) (seat_after dealer j) ≡ true)
    → (before ≡ true → Aim side none good dealer k)
    → round_of side good dealer (suc k) more i before ≡ true → Aim side none good dealer (suc k)
round-aim side none good dealer k before zero i all harmless old won =
    aim-more side none good dealer k
    (λ s theirs. let at : (j : ℕ) × (j < 4) × (seat_after dealer j ≡ s) = place-of dealer s in
    ap (good (suc k)) (sym at.2) ∙ harmless at.0 (let l = at.1 in omega arith) (ap side_of at.2 ∙ theirs))
    (old won)
round-aim side none good dealer k before (suc more) i all harmless old won =
    go (same_side (side_of (seat_after dealer i)) side) refl (good (suc k) (seat_after dealer i)) refl won
    (λ h w. round-aim side none good dealer k before more (suc i) (omega arith) h old w)
  where
    rest : Bool
    rest = round_of side good dealer (suc k) more (suc i) before

    go : (b : Bool) → same_side (side_of (seat_after dealer i)) side ≡ b → (f : Bool) → good (suc k) (seat_after dealer i) ≡ f → chosen_by b f rest ≡ true
        → (((j : ℕ) → j < suc i → side_of (seat_after dealer j) ≡ other_side side → good (suc k) (seat_after dealer j) ≡ true)
        → rest ≡ true → Aim side none good dealer (suc k))
        → Aim side none good dealer (suc k)
    go true own true fine w next =
        bidding (suc k) i (omega arith) (omega arith) (omega arith) (is-same (side_of (seat_after dealer i)) side own) fine
        (λ j s low high theirs. absurd (omega arith)) harmless
    go true own false bad w next = next (λ j h theirs. elim (eqb_tells j i) [
      | inl same ↦ absurd (apart side (sym theirs ∙ ap (λ x. side_of (seat_after dealer x)) same.1 ∙ is-same (side_of (seat_after dealer i)) side own))
      | inr other ↦ harmless j (omega (arith, other.1)) theirs
    ]) w
    go false theirs f fine w next = next (λ j h other_one. elim (eqb_tells j i) [
      | inl same ↦ ap (λ x. good (suc k) (seat_after dealer x)) same.1 ∙ fine ∙ and-left f rest w
      | inr other ↦ harmless j (omega (arith, other.1)) other_one
    ]) (and-right f rest w)

-- a walk that ends well leaves an aim
pub walk-aim : (side : Side) (none : Bool) (good : ℕ → Seat → Bool) (dealer : Seat) (n : ℕ) → walk_of side none good dealer n ≡ true
    → Aim side none good dealer n
walk-aim side none good dealer zero won = nothing won (λ k s some most theirs. absurd (omega arith))
walk-aim side none good dealer (suc n) won =
    round-aim side none good dealer n (walk_of side none good dealer n) 4 0 refl (λ j h theirs. absurd (omega arith))
    (λ w. walk-aim side none good dealer n w) won
