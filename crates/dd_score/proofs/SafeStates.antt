-- the states of an auction from which a side can make sure of a test: what it has to see to, and that its calls keep it
use Rattle.std.proofs.Common.{◌≡◌, ℕ, suc, ◌+◌, ◌<◌, ◌≤◌, nat_le, nat_eq, cond, Bool, true, false, refl, ap, ◌∙◌, inl, inr, arith}
use Rattle.std.specs.Prelude.{◌&&◌, ◌==◌}
use Rattle.std.proofs.lemmas.Bool.{leb-true}
use Rattle.std.proofs.lemmas.Bool.Decides.{eqb_tells}
use Rattle.dd_cards.specs.declared.seat.Seat.{Seat}
use Rattle.dd_cards.specs.declared.side.Side.{Side}
use Rattle.dd_cards.specs.declared.strain.Strain.{Strain}
use Rattle.dd_cards.specs.Seats.{next_seat, seat_after}
use Rattle.dd_cards.specs.Sides.{side_of, other_side, is_side}
use Rattle.dd_cards.specs.Strains.{strain_code}
use Rattle.dd_cards.proofs.CallerLemmas.{next-side}
use Rattle.dd_score.specs.declared.doubling.Doubling.TheVariants.{Undoubled, Redoubled}
use Rattle.dd_score.specs.Auctions.{pass, bid, Auction, opened_by, called, caller, last_bid, bidder, doubling, passes, first_to_name, declarer}
use Rattle.dd_score.specs.Bids.{strain_of}
use Rattle.dd_score.proofs.Namers.{other-other, not-of, declarer-side}

-- the calls so far
abbrev pub calls_made : Auction → ℕ
calls_made (opened_by dealer) = 0
calls_made (called a c) = suc (calls_made a)

-- contracts of the other side above a number are all good for this side
abbrev pub AllAbove : Side → (ℕ → Seat → Bool) → ℕ → Type 0
AllAbove side good n = (k : ℕ) (s : Seat) → n < k → k ≤ 35 → side_of s ≡ other_side side → good k s ≡ true

-- a bid and a seat of this side that are good for it, as are the other side's bids of the same number asked before it and all above
pub record IsChosen (side : Side) (good : ℕ → Seat → Bool) (dealer : Seat) (m i : ℕ) : Type 0 where
  pub some : 0 < m
  pub most : m ≤ 35
  pub place : i < 4
  pub own : side_of (seat_after dealer i) ≡ side
  pub here : good m (seat_after dealer i) ≡ true
  pub above : AllAbove side good m
  pub before : (j : ℕ) → j < i → side_of (seat_after dealer j) ≡ other_side side → good m (seat_after dealer j) ≡ true

-- that seat wasn't asked yet, its side bid nothing and the bid can still be made
pub record IsWaiting (side : Side) (good : ℕ → Seat → Bool) (dealer : Seat) (m i : ℕ) (a : Auction) : Type 0 where
  pub early : calls_made a ≤ i
  pub turn : caller a ≡ seat_after dealer (calls_made a)
  pub low : last_bid a < m
  pub undoubled : doubling a ≡ Undoubled
  pub others : 0 < last_bid a → side_of (bidder a) ≡ other_side side
  pub quiet : (strain : Strain) (late : Seat) → first_to_name a side strain late ≡ late
  pub kept : (strain : Strain) (late : Seat) → good m late ≡ true → good m (first_to_name a (other_side side) strain late) ≡ true
  pub few : passes a ≤ calls_made a
  pub fewer : 0 < last_bid a → passes a + 1 ≤ calls_made a

-- the last bid is this side's, and good for it
pub record IsOwnBid (side : Side) (good : ℕ → Seat → Bool) (a : Auction) : Type 0 where
  pub some : 0 < last_bid a
  pub bids : side_of (bidder a) ≡ side
  pub here : good (last_bid a) (declarer a) ≡ true
  pub mild : doubling a ≡ Redoubled → ⊥
  pub above : AllAbove side good (last_bid a)

-- the last bid is the other side's, and good for this side: undoubled if it makes, and doubled or soon to be doubled if it fails
pub record IsOtherBid (side : Side) (good makes : ℕ → Seat → Bool) (a : Auction) : Type 0 where
  pub some : 0 < last_bid a
  pub bids : side_of (bidder a) ≡ other_side side
  pub here : good (last_bid a) (declarer a) ≡ true
  pub above : AllAbove side good (last_bid a)
  pub made : makes (last_bid a) (declarer a) ≡ true → doubling a ≡ Undoubled
  pub failed : makes (last_bid a) (declarer a) ≡ false → doubling a ≡ Undoubled → (passes a ≡ 0) × (side_of (caller a) ≡ side)

-- nothing was bid, and all that the other side can bid is good for this one
pub record IsUnbid (side : Side) (none : Bool) (good : ℕ → Seat → Bool) (a : Auction) : Type 0 where
  pub nothing : last_bid a ≡ 0
  pub undoubled : doubling a ≡ Undoubled
  pub here : none ≡ true
  pub above : AllAbove side good 0

-- a bid of the other side that is good, as are all above it
pub other_bids : (side : Side) (good makes : ℕ → Seat → Bool) (a : Auction) (k : ℕ) → side_of (caller a) ≡ other_side side → 0 < k
    → good k (first_to_name a (side_of (caller a)) (strain_of k) (caller a)) ≡ true → AllAbove side good k
    → IsOtherBid side good makes (called a (bid k))
other_bids side good makes a k turn some here above = record {
  some = some;
  bids = turn;
  here = here;
  above = above;
  made = λ _. refl;
  failed = λ _ _. (refl, next-side (caller a) ∙ ap other_side turn ∙ other-other side);
}

-- and so any bid above one from which on all are good
pub any_above : (side : Side) (good makes : ℕ → Seat → Bool) (a : Auction) (n k : ℕ) → side_of (caller a) ≡ other_side side → n < k → k ≤ 35
    → AllAbove side good n → IsOtherBid side good makes (called a (bid k))
any_above side good makes a n k turn low high above =
    other_bids side good makes a k turn (omega arith)
    (above k (declarer (called a (bid k))) low high (declarer-side (called a (bid k)) ∙ turn))
    (λ j s h most theirs. above j s (omega arith) most theirs)

-- ---- the side waits for the seat that is to bid
-- a pass leaves it waiting
pub waiting-pass : (side : Side) (good : ℕ → Seat → Bool) (dealer : Seat) (m i : ℕ) (a : Auction) → calls_made a < i
    → IsWaiting side good dealer m i a → IsWaiting side good dealer m i (called a pass)
waiting-pass side good dealer m i a early w = record {
  early = omega arith;
  turn = ap next_seat w.turn;
  low = w.low;
  undoubled = w.undoubled;
  others = w.others;
  quiet = w.quiet;
  kept = w.kept;
  few = let f : passes a ≤ calls_made a = w.few in omega arith;
  fewer = λ some. let f : passes a + 1 ≤ calls_made a = w.fewer some in omega arith;
}

-- a lower bid of the other side leaves it waiting
pub waiting-lower : (side : Side) (good : ℕ → Seat → Bool) (dealer : Seat) (m i : ℕ) (a : Auction) (k : ℕ) → calls_made a < i
    → side_of (caller a) ≡ other_side side → k < m → good m (caller a) ≡ true → IsWaiting side good dealer m i a
    → IsWaiting side good dealer m i (called a (bid k))
waiting-lower side good dealer m i a k early turn low here w = record {
  early = omega arith;
  turn = ap next_seat w.turn;
  low = low;
  undoubled = refl;
  others = λ _. turn;
  quiet = λ strain late. w.quiet strain _ ∙ rw (not-of side (caller a) turn) refl;
  kept = λ strain late h. w.kept strain _ (pick (is_side (other_side side) (caller a)) (strain_code (strain_of k) == strain_code strain) late h);
  few = omega arith;
  fewer = λ _. omega arith;
}
  where
    pick : (x y : Bool) (late : Seat) → good m late ≡ true → good m (cond (x && y) (caller a) late) ≡ true
    pick true true late h = here
    pick true false late h = h
    pick false y late h = h

-- the auction is not over before the seat was asked
pub late_end : (k p n : ℕ) → p ≤ n → (0 < k → p + 1 ≤ n) → n ≤ 3 → nat_le (cond (nat_eq k 0) 4 3) p ≡ true → ⊥
late_end k p n few fewer early over = elim (eqb_tells k 0) [
  | inl none ↦ (let h = rw none.0 at over in let four : 4 ≤ p = leb-true 4 p h in omega arith)
  | inr some ↦ (let h = rw some.0 at over in let three : 3 ≤ p = leb-true 3 p h in let positive : 0 < k = omega (arith, some.1) in let f : p + 1 ≤ n = fewer positive in omega arith)
]
