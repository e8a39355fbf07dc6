-- To be believed: whether two positions are the same: tests on their parts. That the test is an equivalence stands below.
use Rattle.std.specs.Prelude.{◌&&◌, ◌==◌, Bool}
use Rattle.std.specs.Cmp.{IsEquivalence, IsPartialEquivalence, and_equiv, nat_eq_equiv, on_equiv, partial_equiv_from_equiv}
use Rattle.dd_cards.specs.Seats.{seat_code}
use Rattle.dd_cards.specs.Strains.{strain_code}
use Rattle.dd_cards.specs.Same.{same_cards, same_hands, same-cards, same-hands}
use Rattle.dd_play.specs.Board.{Board}

-- the same hands, strain, leader and trick
abbrev pub same_board : Board → Board → Bool
same_board p q =
    same_hands p.hands q.hands && (strain_code p.strain == strain_code q.strain) &&
    (seat_code p.first == seat_code q.first) && same_cards p.trick q.trick

-- what is the same by the test is an equivalence
pub same-board : IsEquivalence same_board
same-board =
    and_equiv (and_equiv (and_equiv (on_equiv (λ (p : Board). p.hands) same-hands) (on_equiv (λ (p : Board). strain_code p.strain) nat_eq_equiv))
    (on_equiv (λ (p : Board). seat_code p.first) nat_eq_equiv)) (on_equiv (λ (p : Board). p.trick) same-cards)

-- .. and so a partial one
pub same-board-partial : IsPartialEquivalence same_board
same-board-partial = partial_equiv_from_equiv same-board
