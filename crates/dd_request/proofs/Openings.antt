-- the positions from which the parts of a table are played
use Rattle.std.proofs.Common.{◌≡◌, ℕ, ◌+◌, ◌*◌, ◌≤◌, true, false, refl, ap, ◌∙◌, arith, [], length}
use Rattle.std.proofs.lemmas.Bool.{le-ltb}
use Rattle.dd_cards.specs.declared.seat.Seat.{Seat}
use Rattle.dd_cards.specs.declared.seat.Seat.TheVariants.{North, East, South, West}
use Rattle.dd_cards.specs.declared.strain.Strain.{Strain}
use Rattle.dd_cards.specs.declared.strain.Strain.TheVariants.{Trump, Notrump}
use Rattle.dd_cards.specs.declared.suit.Suit.TheVariants.{Spades, Hearts, Diamonds, Clubs}
use Rattle.dd_cards.specs.Hands.{FourHands, AreHands, hand_of}
use Rattle.dd_cards.specs.Seats.{seat_code, seat_after}
use Rattle.dd_cards.specs.Strains.{strain_code}
use Rattle.dd_play.proofs.CallerLemmas.{times_in-once}
use Rattle.dd_play.specs.Board.{board_of}
use Rattle.dd_play.specs.Positions.{CanPlay}
use Rattle.dd_request.specs.Results.{AreEven, contract_of, contracts}

-- each contract stands at the place of its codes
pub contract-at : (strain : Strain) (declarer : Seat) → contract_of (4 * strain_code strain + seat_code declarer) ≡ record { strain = strain; declarer = declarer }
unfolding contract_of contracts
contract-at (Trump Spades) North = refl
contract-at (Trump Spades) East = refl
contract-at (Trump Spades) South = refl
contract-at (Trump Spades) West = refl
contract-at (Trump Hearts) North = refl
contract-at (Trump Hearts) East = refl
contract-at (Trump Hearts) South = refl
contract-at (Trump Hearts) West = refl
contract-at (Trump Diamonds) North = refl
contract-at (Trump Diamonds) East = refl
contract-at (Trump Diamonds) South = refl
contract-at (Trump Diamonds) West = refl
contract-at (Trump Clubs) North = refl
contract-at (Trump Clubs) East = refl
contract-at (Trump Clubs) South = refl
contract-at (Trump Clubs) West = refl
contract-at Notrump North = refl
contract-at Notrump East = refl
contract-at Notrump South = refl
contract-at Notrump West = refl

-- the contract of a part, by its codes
pub contract-coded : (part : ℕ) (strain : Strain) (declarer : Seat) → part ≡ 4 * strain_code strain + seat_code declarer → contract_of part ≡ record { strain = strain; declarer = declarer }
contract-coded part strain declarer e = ap contract_of e ∙ contract-at strain declarer

-- in even hands each seat has as many cards as North
even-seat : (hands : FourHands) (seat : Seat) → AreEven hands → length (hand_of hands seat) ≡ length hands.north
even-seat hands North even = refl
even-seat hands East even = even.0
even-seat hands South even = even.1
even-seat hands West even = even.2

-- from even hands with a card each seat may lead in each strain
pub can-open : (hands : FourHands) (strain : Strain) (leader : Seat) → AreHands hands → AreEven hands → 1 ≤ length hands.north → CanPlay (board_of hands strain leader [])
can-open hands strain leader valid even some = record {
  board = record {
    sets = valid.sets;
    short = omega arith;
    real = λ c has. absurd (apart has);
    once = λ c. (let h = times_in-once hands c valid in omega (arith, h));
    even = λ k within. (
        let first = even-seat hands leader even in
        let other = even-seat hands (seat_after leader k) even in
        rw (le-ltb k 0 (omega arith)) omega (arith, first, other));
  };
  cards = (let first = even-seat hands leader even in omega (arith, first, some));
}
  where
    apart : false ≡ true → ⊥
    apart e = cc
