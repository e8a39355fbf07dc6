-- what is the same by the tests is the same
use Rattle.std.proofs.Common.{◌≡◌, Bool, true, refl, List, [], ◌∷◌}
use Rattle.std.specs.Prelude.{◌==◌}
use Rattle.std.specs.Cmp.Lexicographic.{pointwise}
use Rattle.std.proofs.lemmas.Bool.{eqb-true}
use Rattle.dd_cards.specs.declared.seat.Seat.{Seat}
use Rattle.dd_cards.specs.declared.strain.Strain.{Strain}
use Rattle.dd_cards.specs.PlayingCard.{PlayingCard}
use Rattle.dd_cards.specs.Hands.{FourHands}
use Rattle.dd_cards.specs.Seats.{seat_code}
use Rattle.dd_cards.specs.Strains.{strain_code}
use Rattle.dd_cards.specs.Same.{same_cards, same_hands}
use Rattle.dd_cards.proofs.CallerLemmas.{four-of, same_cards-is, same_hands-is, seat_code-injective, strain_code-injective}
use Rattle.dd_play.specs.Board.{Board, board_of}
use Rattle.dd_play.specs.Same.{same_board}

pub board-eq : (h h' : FourHands) (s s' : Strain) (f f' : Seat) (t t' : List PlayingCard) → h ≡ h' → s ≡ s' → f ≡ f' → t ≡ t' → board_of h s f t ≡ board_of h' s' f' t'
board-eq h h' s s' f f' t t' p q r u = rw (p, q, r, u) refl

-- the same hands, strain, leader and trick are one position
pub same_board-is : (p q : Board) → same_board p q ≡ true → p ≡ q
same_board-is p q h =
    let parts = four-of (same_hands p.hands q.hands) (strain_code p.strain == strain_code q.strain) (seat_code p.first == seat_code q.first) (same_cards p.trick q.trick) h in
    let hands = same_hands-is p.hands q.hands parts.0 in
    let strain = strain_code-injective p.strain q.strain (eqb-true _ _ parts.1) in
    let first = seat_code-injective p.first q.first (eqb-true _ _ parts.2) in
    let trick = same_cards-is p.trick q.trick parts.3 in
    board-eq _ _ _ _ _ _ _ _ hands strain first trick

-- tests that agree on each two elements agree on lists
pub pointwise-same : {X : Type 0} (e f : X → X → Bool) → ((x y : X) → e x y ≡ f x y) → (xs ys : List X) → pointwise e xs ys ≡ pointwise f xs ys
pointwise-same e f same [] [] = refl
pointwise-same e f same [] (y ∷ ys) = refl
pointwise-same e f same (x ∷ xs) [] = refl
pointwise-same e f same (x ∷ xs) (y ∷ ys) = rw (same x y, pointwise-same e f same xs ys) refl
