-- the seats turned, so that the leader is North
use Rattle.std.proofs.Common.{◌≡◌, ℕ, ◌+◌, ◌<◌, refl, sym, ap, ◌∙◌, subst, arith, List, [], length}
use Rattle.std.specs.Prelude.{nat_lt, if◌then◌else◌}
use Rattle.std.proofs.lemmas.Bool.{le-ltb}
use Rattle.dd_cards.specs.declared.seat.Seat.{Seat}
use Rattle.dd_cards.specs.declared.seat.Seat.TheVariants.{North, East, South, West}
use Rattle.dd_cards.specs.declared.strain.Strain.{Strain}
use Rattle.dd_cards.specs.PlayingCard.{PlayingCard}
use Rattle.dd_cards.specs.Cards.{has_card}
use Rattle.dd_cards.specs.Hands.{FourHands, hand_of, AreHands, IsSet}
use Rattle.dd_cards.specs.Seats.{seat_code, seat_after}
use Rattle.dd_cards.proofs.CallerLemmas.{seat_code-injective, seat_code-lt}
use Rattle.dd_play.specs.Board.{Board, IsBoard, cards_at}
use Rattle.dd_play.proofs.CallerLemmas.{flag_of, board-hands}
use Rattle.dd_rank.specs.Alike.{IsAlikeBy, IsAlike, AreAlike}
use Rattle.dd_relative.specs.Relative.{led_by_north}
use Rattle.dd_relative.specs.Turned.{from_seat, from_leader}
use Rattle.dd_relative.specs.Gapped.{stands, IsGapped}
use Rattle.dd_rank.specs.Depths.{all_cards}
use Rattle.std.specs.Prelude.{◌||◌}
use Rattle.dd_cards.proofs.CallerLemmas.{both-ways}
use Rattle.dd_relative.proofs.Boards.{start-board}
use Rattle.dd_relative.proofs.Gapped.{alike-then}
use Rattle.dd_rank.proofs.CallerLemmas.{in-all, after-tells, all-in}

-- how many places on North comes
pub places_to_north : Seat → ℕ
places_to_north North = 0
places_to_north East = 3
places_to_north South = 2
places_to_north West = 1

to-north : (f : Seat) → North ≡ seat_after f (places_to_north f)
unfolding places_to_north
to-north North = refl
to-north East = refl
to-north South = refl
to-north West = refl

-- each hand is where it was, turned
pub turned-hand : (hands : FourHands) (f x : Seat) → hand_of (from_seat hands f) (seat_after x (places_to_north f)) ≡ hand_of hands x
unfolding places_to_north
turned-hand hands North North = refl
turned-hand hands North East = refl
turned-hand hands North South = refl
turned-hand hands North West = refl
turned-hand hands East North = refl
turned-hand hands East East = refl
turned-hand hands East South = refl
turned-hand hands East West = refl
turned-hand hands South North = refl
turned-hand hands South East = refl
turned-hand hands South South = refl
turned-hand hands South West = refl
turned-hand hands West North = refl
turned-hand hands West East = refl
turned-hand hands West South = refl
turned-hand hands West West = refl

-- the hand at a seat, by the seat that it was at
pub from-at : (hands : FourHands) (f x : Seat) → hand_of (from_seat hands f) x ≡ hand_of hands (seat_after f (seat_code x))
from-at hands f North = refl
from-at hands f East = refl
from-at hands f South = refl
from-at hands f West = refl

-- they are four hands
from-hands : (hands : FourHands) (f : Seat) → AreHands hands → AreHands (from_seat hands f)
from-hands hands f valid = record {
  sets = λ x. subst IsSet (sym (from-at hands f x)) (valid.sets (seat_after f (seat_code x)));
  disjoint = λ c x y hx hy. seat_code-injective x y (after-tells f (seat_code x) (seat_code y) (seat_code-lt x) (seat_code-lt y)
      (valid.disjoint c (seat_after f (seat_code x)) (seat_after f (seat_code y)) (ap (λ l. has_card l c) (sym (from-at hands f x)) ∙ hx) (ap (λ l. has_card l c) (sym (from-at hands f y)) ∙ hy)));
}

-- .. and with the leader North a board
pub turned-board : (p : Board) → IsBoard p → p.trick ≡ [] → IsBoard (from_leader p)
turned-board p valid start = start-board _ _ _ _ p.strain (from-hands p.hands p.first (board-hands p valid)) (long-start 1 (omega arith)) (long-start 2 (omega arith)) (long-start 3 (omega arith))
  where
    long : (k : ℕ) → k < 4 → length (cards_at p (seat_after p.first k)) + (if nat_lt k (length p.trick) then 1 else 0) ≡ length (cards_at p (seat_after p.first (length p.trick)))
    long k h = valid.even k h

    long-start : (k : ℕ) → k < 4 → length (cards_at p (seat_after p.first k)) ≡ length (cards_at p (seat_after p.first 0))
    long-start k h =
        let l : length (cards_at p (seat_after p.first k)) + flag_of (nat_lt k 0) ≡ length (cards_at p (seat_after p.first 0)) =
        subst (λ (trick : List PlayingCard). length (cards_at p (seat_after p.first k)) + flag_of (nat_lt k (length trick)) ≡ length (cards_at p (seat_after p.first (length trick)))) start (long k h) in
        let f : flag_of (nat_lt k 0) ≡ 0 = ap flag_of (le-ltb k 0 (omega arith)) in
        omega (arith, l, f)

-- .. that is alike
pub turned-alike : (p : Board) → p.trick ≡ [] → IsAlikeBy (places_to_north p.first) (λ c. c) (λ d. d) p (from_leader p)
turned-alike p start = record {
  start_p = start;
  start_q = refl;
  strain = refl;
  first = to-north p.first;
  to_suit = λ c. refl;
  from_suit = λ d. refl;
  forth = λ x c h. (ap (λ cards. has_card cards c) (turned-hand p.hands p.first x) ∙ h, refl);
  back = λ x d h. (ap (λ cards. has_card cards d) (sym (turned-hand p.hands p.first x)) ∙ h, refl);
  order = λ x y c d hx hy e. refl;
}

-- and so is what is like that without a turn
pub alike-turned : (p q : Board) → p.trick ≡ [] → IsAlike (from_leader p) q → AreAlike p q
alike-turned p q start a = (places_to_north p.first, a.0, a.1, alike-then (places_to_north p.first) (λ c. c) (λ d. d) a.0 a.1 p (from_leader p) q (turned-alike p start) a.2)

-- all hands have the same cards
pub turned-all : (p : Board) (c : PlayingCard) → has_card (all_cards (from_leader p)) c ≡ has_card (all_cards p) c
turned-all p c = both-ways _ _
    (λ h. let x = all-in (from_leader p) c h in in-all p (seat_after p.first (seat_code x.0)) c (ap (λ cards. has_card cards c) (sym (from-at p.hands p.first x.0)) ∙ x.1))
    (λ h. let x = all-in p c h in in-all (from_leader p) (seat_after x.0 (places_to_north p.first)) c (ap (λ cards. has_card cards c) (turned-hand p.hands p.first x.0) ∙ x.1))

-- the gaps stay
pub turned-gapped : (p : Board) (gaps : List PlayingCard) → IsGapped p gaps → IsGapped (from_leader p) gaps
turned-gapped p gaps gapped = record {
  board = turned-board p gapped.board gapped.start;
  start = refl;
  once = gapped.once;
  real = gapped.real;
  apart = λ c h. turned-all p c ∙ gapped.apart c h;
  closed = λ c d h suits less most. same d ∙ gapped.closed c d (sym (same c) ∙ h) suits less most;
}
  where
    same : (c : PlayingCard) → stands (from_leader p) gaps c ≡ stands p gaps c
    same c = ap (λ b. b || has_card gaps c) (turned-all p c)

-- four hands that are those from the leader on
pub led-same : (p : Board) (l s t f : List PlayingCard) (strain : Strain) → l ≡ cards_at p (seat_after p.first 0) → s ≡ cards_at p (seat_after p.first 1) → t ≡ cards_at p (seat_after p.first 2) → f ≡ cards_at p (seat_after p.first 3)
    → strain ≡ p.strain → led_by_north l s t f strain ≡ from_leader p
led-same p l s t f strain el es et ef e = all l _ s _ t _ f _ strain _ el es et ef e
  where
    all : (a b c d e f g h : List PlayingCard) (m n : Strain) → a ≡ b → c ≡ d → e ≡ f → g ≡ h → m ≡ n → led_by_north a c e g m ≡ led_by_north b d f h n
    all a b c d e f g h m n i j k l o = rw (i, j, k, l, o) refl
