-- the card on which a trick's winner rests
use Rattle.std.proofs.Common.{◌≡◌, ◌≢◌, ℕ, zero, suc, ◌+◌, ◌-◌, ◌%◌, ◌<◌, ◌≤◌, Bool, true, refl, sym, ap, ◌∙◌, arith, List, [], ◌∷◌, ◌++◌, length, get_or, Option, None, Some}
use Rattle.std.specs.Prelude.{map, if◌then◌else◌, unwrap_or}
use mathlib.Core.Path.{ap₂}
use Rattle.std.proofs.lemmas.Nat.{mod_below}
use Rattle.std.proofs.lemmas.List.{length-map}
use Rattle.std.proofs.Common.{take, length-take-le}
use Rattle.std.proofs.lemmas.Bool.{eqb-true}
use Rattle.dd_cards.specs.declared.seat.Seat.{Seat}
use Rattle.dd_cards.specs.declared.strain.Strain.{Strain}
use Rattle.dd_cards.specs.PlayingCard.{PlayingCard}
use Rattle.dd_cards.specs.Ranks.{IsRank}
use Rattle.dd_cards.specs.Cards.{has_card, is_of}
use Rattle.dd_cards.specs.Seats.{seat_code, seat_after}
use Rattle.dd_play.specs.Board.{Board, IsBoard}
use Rattle.dd_play.specs.Tricks.{winner_of, winning_place}
use Rattle.dd_play.specs.Strength.{strength}
use Rattle.dd_play.specs.Play.{legal, completes, trick_with}
use Rattle.dd_play.specs.Covers.{IsSettled, count_of}
use Rattle.dd_play.proofs.Boards.{after-code, flag_of}
use Rattle.dd_play.proofs.Counts.{count, count-cons}
use Rattle.dd_play.proofs.Plays.{real-trick, of-suit'}
use Rattle.dd_play.proofs.Strengths.{winning-strongest}
use Rattle.dd_play.proofs.Winners.{place-within}
use Rattle.dd_cards.proofs.CallerLemmas.{seat_code-lt}

-- two places of a list that pass are counted
one-place : (test : PlayingCard → Bool) (cards : List PlayingCard) (i : ℕ) (c : PlayingCard) → i < length cards → test (get_or cards i c) ≡ true → 1 ≤ count test cards
one-place test [] i c h t = absurd (omega arith)
one-place test (x ∷ cards) zero c h t = let a = count-cons test x cards in let f : flag_of (test x) ≡ 1 = ap flag_of t in omega (arith, a, f)
one-place test (x ∷ cards) (suc i) c h t = let ih = one-place test cards i c (omega arith) t in let a = count-cons test x cards in omega (arith, ih, a)

two-places : (test : PlayingCard → Bool) (cards : List PlayingCard) (i j : ℕ) (c : PlayingCard) → i < length cards → j < length cards → i ≢ j → test (get_or cards i c) ≡ true → test (get_or cards j c) ≡ true → 2 ≤ count test cards
two-places test [] i j c h k n t u = absurd (omega arith)
two-places test (x ∷ cards) zero zero c h k n t u = absurd (n refl)
two-places test (x ∷ cards) zero (suc j) c h k n t u = let r = one-place test cards j c (omega arith) u in let a = count-cons test x cards in let f : flag_of (test x) ≡ 1 = ap flag_of t in omega (arith, a, f, r)
two-places test (x ∷ cards) (suc i) zero c h k n t u = let r = one-place test cards i c (omega arith) t in let a = count-cons test x cards in let f : flag_of (test x) ≡ 1 = ap flag_of u in omega (arith, a, f, r)
two-places test (x ∷ cards) (suc i) (suc j) c h k n t u = let ih = two-places test cards i j c (omega arith) (omega arith) (λ e. n (ap suc e)) t u in let a = count-cons test x cards in omega (arith, ih, a)

-- the winner's place is one of the trick's
within : (strain : Strain) (led : PlayingCard) (rest : List PlayingCard) → ((c : PlayingCard) → has_card (led ∷ rest) c ≡ true → IsRank c.rank) → winning_place strain (led ∷ rest) < length (led ∷ rest)
within strain led rest real = rw (winning-strongest strain (led ∷ rest) real) (let k = place-within (strength strain led.suit led) (map (strength strain led.suit) rest) in let l = length-map rest (strength strain led.suit) in omega (arith, k, l))

-- the place from the seats
from-seats : (first seat : Seat) (k place : ℕ) → k < 4 → seat ≡ seat_after first k → place ≡ (seat_code seat + 4 - seat_code first) % 4 → place ≡ k
from-seats first seat k place h e is =
    let a : seat_code seat ≡ (seat_code first + k) % 4 = ap seat_code e ∙ after-code first k in
    let b = seat_code-lt first in
    omega (arith, h, a, b, is)

-- four cards and the seat of the winner among them
abbrev pub IsFour : Board → PlayingCard → List PlayingCard → Seat → Seat → ℕ → PlayingCard → Type 0
IsFour p card four first seat place won = (trick_with p card ≡ four) × (first ≡ p.first) × (seat ≡ winner_of (trick_with p card) p.first p.strain)
    × (place ≡ (seat_code seat + 4 - seat_code first) % 4) × (won ≡ get_or four place card)

-- the place is the winner's
place-is : (p : Board) (card : PlayingCard) (four : List PlayingCard) (first seat : Seat) (place : ℕ) (won : PlayingCard) → IsBoard p → has_card (legal p) card ≡ true → length four ≡ 4 → IsFour p card four first seat place won
    → place ≡ winning_place p.strain (trick_with p card)
place-is p card four first seat place won valid has long is = from-seats p.first seat (winning_place p.strain (trick_with p card)) place (small (trick_with p card) refl) is.2 (is.3 ∙ ap (λ (s : Seat). (seat_code seat + 4 - seat_code s) % 4) is.1)
  where
    small : (trick : List PlayingCard) → trick_with p card ≡ trick → winning_place p.strain (trick_with p card) < 4
    small [] e = absurd (let l : length four ≡ 0 = ap length (sym is.0 ∙ e) in omega (arith, l, long))
    small (led ∷ rest) e =
        let l : length (led ∷ rest) ≡ 4 = ap length (sym e ∙ is.0) ∙ long in
        let w = within p.strain led rest (λ d h. real-trick p card valid has d (ap (λ cards. has_card cards d) e ∙ h)) in
        let same : winning_place p.strain (trick_with p card) ≡ winning_place p.strain (led ∷ rest) = ap (winning_place p.strain) e in
        omega (arith, l, w, same)

-- the trick is settled by a winner that is a top card
pub settled-by-top : (p : Board) (card : PlayingCard) (four : List PlayingCard) (first seat : Seat) (place : ℕ) (won : PlayingCard) → IsBoard p → has_card (legal p) card ≡ true → length four ≡ 4 → IsFour p card four first seat place won
    → (top : PlayingCard → Bool) → top won ≡ true → IsSettled top p card
settled-by-top p card four first seat place won valid has long is top on whole i h other suits =
    let k = place-is p card four first seat place won valid has long is in
    ap top (ap₂ (λ (t : List PlayingCard) (n : ℕ). get_or t n card) is.0 (sym k) ∙ sym is.4) ∙ on

-- and by one that is alone of its suit
pub settled-alone : (p : Board) (card : PlayingCard) (four : List PlayingCard) (first seat : Seat) (place : ℕ) (won : PlayingCard) → IsBoard p → has_card (legal p) card ≡ true → length four ≡ 4 → IsFour p card four first seat place won
    → count_of won.suit four ≤ 1 → (top : PlayingCard → Bool) → IsSettled top p card
settled-alone p card four first seat place won valid has long is few top whole i h other suits =
    let k = place-is p card four first seat place won valid has long is in
    let l : length (trick_with p card) ≡ 4 = ap length is.0 ∙ long in
    let mine : (get_or four place card).suit ≡ won.suit = ap (λ (c : PlayingCard). c.suit) (sym is.4) in
    let winners : get_or (trick_with p card) (winning_place p.strain (trick_with p card)) card ≡ get_or four place card = ap₂ (λ (t : List PlayingCard) (n : ℕ). get_or t n card) is.0 (sym k) in
    let theirs : (get_or four i card).suit ≡ won.suit = ap (λ (t : List PlayingCard). (get_or t i card).suit) (sym is.0) ∙ suits ∙ ap (λ (c : PlayingCard). c.suit) winners ∙ mine in
    let small : place < 4 = within-four place k in
    let two = two-places (is_of won.suit) four i place card (omega (arith, h, l, long)) (omega (arith, small, long)) (λ e. other (e ∙ k)) (of-suit' won.suit (get_or four i card) theirs) (of-suit' won.suit (get_or four place card) mine) in
    absurd (omega (arith, two, few))
  where
    within-four : (n : ℕ) → n ≡ winning_place p.strain (trick_with p card) → place < 4
    within-four n e = let m = mod_below (seat_code seat + 4 - seat_code first) 4 (omega arith) in let x = is.3 in omega (arith, m, x)

-- from what the code has
pub is-four : (p : Board) (card a b c won : PlayingCard) (trick : List PlayingCard) (played : ℕ) (first seat : Seat) (winner : Option Seat) (x y place : ℕ) → p.trick ≡ take played trick → length trick ≡ 3 → played ≤ 3
    → first ≡ p.first → winner ≡ Some seat
    → winner ≡ (if completes p then Some (winner_of (trick_with p card) p.first p.strain) else None) → completes p ≡ true → x ≡ seat_code seat → y ≡ seat_code first → place ≡ (x + 4 - y) % 4
    → won ≡ get_or (get_or trick 0 a ∷ get_or trick 1 b ∷ get_or trick 2 c ∷ card ∷ []) place card
    → IsFour p card (get_or trick 0 a ∷ get_or trick 1 b ∷ get_or trick 2 c ∷ card ∷ []) first seat place won
is-four p card a b c won trick played first seat winner x y place cards three most leads is wins whole sx sy at one =
    (ap (λ t. t ++ card ∷ []) (cards ∙ full trick three), leads, seats, at ∙ ap₂ (λ (i j : ℕ). (i + 4 - j) % 4) sx sy, one)
  where
    length-is : length (take played trick) ≡ 3
    length-is = ap length (sym cards) ∙ eqb-true (length p.trick) 3 whole

    all : played ≡ 3
    all = let s = length-take-le played trick (omega (arith, three, most)) in omega (arith, length-is, s)

    full : (t : List PlayingCard) → length t ≡ 3 → take played t ≡ get_or t 0 a ∷ get_or t 1 b ∷ get_or t 2 c ∷ []
    full [] l = absurd (omega (arith, l))
    full (u ∷ []) l = absurd (omega (arith, l))
    full (u ∷ v ∷ []) l = absurd (omega (arith, l))
    full (u ∷ v ∷ w ∷ z ∷ t) l = absurd (omega (arith, l))
    full (u ∷ v ∷ w ∷ []) l = rw all refl

    some : {X : Type 0} (s t : X) → Some s ≡ Some t → s ≡ t
    some s t e = ap (λ o. unwrap_or o s) e

    seats : seat ≡ winner_of (trick_with p card) p.first p.strain
    seats = some seat (winner_of (trick_with p card) p.first p.strain) (sym is ∙ wins ∙ rw whole refl)
