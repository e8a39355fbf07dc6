-- Quick tricks: the tricks that a side is sure to take, counted without search.
use Rattle.std.specs.Prelude.{◌≡◌, ◌≤◌, ◌⊎◌, List, [], ◌∷◌, ℕ, ◌+◌, ◌-◌, Bool, true, ◌&&◌, ◌||◌, ◌==◌, length, filter, min, max, nat_le, nat_lt, if◌then◌else◌}
use Rattle.std.specs.List.{list_any}
use mathlib.Core.Bool.{not}
use Rattle.dd_cards.specs.declared.seat.Seat.{Seat}
use Rattle.dd_cards.specs.declared.suit.Suit.{Suit}
use Rattle.dd_cards.specs.declared.suit.Suit.TheVariants.{Spades, Hearts, Diamonds, Clubs}
use Rattle.dd_cards.specs.declared.strain.Strain.{Strain}
use Rattle.dd_cards.specs.declared.strain.Strain.TheVariants.{Trump, Notrump}
use Rattle.dd_cards.specs.PlayingCard.{PlayingCard}
use Rattle.dd_cards.specs.Ranks.{all_ranks}
use Rattle.dd_cards.specs.Seats.{seat_after}
use Rattle.dd_cards.specs.Cards.{is_of, card_of}
use Rattle.dd_play.specs.Board.{Board, cards_at, tricks_left}
use Rattle.dd_play.specs.Tricks.{is_trump}
use Rattle.dd_play.specs.Reach.{reach}

-- does the seat hold a higher card of the suit?
abbrev pub beats : Board → Seat → PlayingCard → Bool
beats p seat c = list_any (λ d. is_of c.suit d && nat_lt c.rank d.rank) (cards_at p seat)

-- is it higher than each card of its suit in the other three hands?
abbrev pub is_winner : Board → Seat → PlayingCard → Bool
is_winner p seat c = not (beats p (seat_after seat 1) c || beats p (seat_after seat 2) c || beats p (seat_after seat 3) c)

-- how many of the highest remaining cards of the suit the seat holds without a gap
abbrev pub run : Board → Seat → Suit → ℕ
run p seat suit = length (filter (λ c. is_of suit c && is_winner p seat c) (cards_at p seat))

-- how many cards of the suit the seat holds
abbrev pub length_at : Board → Seat → Suit → ℕ
length_at p seat suit = length (filter (is_of suit) (cards_at p seat))

-- ---- side suits

-- the greatest length of the suit in the hands that do not lead
abbrev pub longest : Board → Suit → ℕ
longest p suit = max (length_at p (seat_after p.first 1) suit) (max (length_at p (seat_after p.first 2) suit) (length_at p (seat_after p.first 3) suit))

-- A long suit: the leader's run is as long as the suit in any other hand, so no other hand has a card of it after the run.
abbrev pub is_long : Board → Suit → Bool
is_long p suit = nat_le (longest p suit) (run p p.first suit)

-- the cards of the leader's that take a trick when the suit is led from the top and no hand ruffs
abbrev pub suit_tricks : Board → Suit → ℕ
suit_tricks p suit = (if is_long p suit then length_at p p.first suit else run p p.first suit)

-- how many trumps the seat holds
abbrev pub trumps_at : Strain → Board → Seat → ℕ
trumps_at Notrump p seat = 0
trumps_at (Trump trump) p seat = length_at p seat trump

-- of n leads of the suit, those that the seat can't ruff: with trumps as many as it can follow
abbrev pub unruffed : Strain → Board → Seat → Suit → ℕ → ℕ
unruffed strain p seat suit n = (if trumps_at strain p seat == 0 then n else min n (length_at p seat suit))

-- what the leader cashes in a side suit: its tricks that no opponent can ruff
abbrev pub cashed : Strain → Board → Suit → ℕ
cashed strain p suit = (if is_trump strain (card_of suit 0) then 0
    else unruffed strain p (seat_after p.first 1) suit (unruffed strain p (seat_after p.first 3) suit (suit_tricks p suit)))

-- what the leader cashes in all side suits: as long as its partner has cards to throw that are no trumps
abbrev pub side_tricks : Board → ℕ
side_tricks p = min (cashed p.strain p Spades + cashed p.strain p Hearts + cashed p.strain p Diamonds + cashed p.strain p Clubs) (tricks_left p - trumps_at p.strain p (seat_after p.first 2))

-- on how many of the highest cards left of the suit the leader's tricks in it rest
abbrev pub depth : Board → Suit → ℕ
depth p suit = min (longest p suit) (run p p.first suit)

-- ---- trumps

-- is it higher than each card of its suit in the opponents' hands?
abbrev pub is_unbeaten : Board → Seat → PlayingCard → Bool
is_unbeaten p seat c = not (beats p (seat_after seat 1) c || beats p (seat_after seat 3) c)

-- how many cards of the suit, of this rank or higher, the seat holds
abbrev pub from_rank : Board → Seat → Suit → ℕ → ℕ
from_rank p seat suit rank = length (filter (λ c. is_of suit c && nat_le rank c.rank) (cards_at p seat))

-- the longer holding of the seat and its partner in the suit
abbrev pub longer_of : Board → Seat → Suit → ℕ
longer_of p seat suit = max (length_at p seat suit) (length_at p (seat_after seat 2) suit)

-- What the trumps of this rank or higher take: those of the seat and its partner a trick each, as long as one of the two hands
-- has a trump for each, but for as many tricks as the opponents have such trumps.
abbrev pub taken_from : Board → Seat → Suit → ℕ → ℕ
taken_from p seat trump rank = min (from_rank p seat trump rank + from_rank p (seat_after seat 2) trump rank) (longer_of p seat trump)
    - (from_rank p (seat_after seat 1) trump rank + from_rank p (seat_after seat 3) trump rank)

-- the greatest of these numbers
abbrev pub greatest : (ℕ → ℕ) → List ℕ → ℕ
greatest number [] = 0
greatest number (r ∷ ranks) = max (number r) (greatest number ranks)

-- Joint trumps: the most that the trumps of some rank or higher take.
abbrev pub joint_trumps : Strain → Board → Seat → ℕ
joint_trumps Notrump p seat = 0
joint_trumps (Trump trump) p seat = greatest (taken_from p seat trump) all_ranks

-- ---- crossing to the partner

-- does the leader hold a higher card of the suit that is no winner?
abbrev pub is_under_low : Board → PlayingCard → Bool
is_under_low p c = list_any (λ d. (is_of c.suit d && nat_lt c.rank d.rank) && not (is_winner p p.first d)) (cards_at p p.first)

-- can no card beat it but a winner of the leader's?
abbrev pub is_next : Board → PlayingCard → Bool
is_next p c = is_unbeaten p (seat_after p.first 2) c && not (is_under_low p c)

-- how many cards of the suit the partner holds next below the leader's run
abbrev pub next_run : Board → Suit → ℕ
next_run p suit = length (filter (λ c. is_of suit c && is_next p c) (cards_at p (seat_after p.first 2)))

-- the greatest length of the suit in the hands beside the partner's
abbrev pub longest_beside : Board → Suit → ℕ
longest_beside p suit = max (length_at p p.first suit) (max (length_at p (seat_after p.first 1) suit) (length_at p (seat_after p.first 3) suit))

-- A long suit of the partner's: the leader's run and its own cards next below are as many as any other hand has cards of the
-- suit, so no other hand has one after them.
abbrev pub is_partners_long : Board → Suit → Bool
is_partners_long p suit = nat_le (longest_beside p suit) (run p p.first suit + next_run p suit)

-- What the partner takes in a suit once the leader has cashed its run, to which it follows suit with other cards: all that are
-- left in a long suit, else those next below the run.
abbrev pub partners_tricks : Board → Suit → ℕ
partners_tricks p suit = (if is_partners_long p suit then length_at p (seat_after p.first 2) suit - run p p.first suit
    else min (next_run p suit) (length_at p (seat_after p.first 2) suit - run p p.first suit))

-- What the partner cashes in a side suit: its tricks that no opponent can ruff, which has followed suit to the leader's run
-- before.
abbrev pub partners_cashed : Strain → Board → Suit → ℕ
partners_cashed strain p suit = (if is_trump strain (card_of suit 0) then 0
    else unruffed strain p (seat_after p.first 1) suit (unruffed strain p (seat_after p.first 3) suit (run p p.first suit + partners_tricks p suit)) - run p p.first suit)

-- can the leader cross in the suit: has it a card beside its run to lead to a winner of its partner's?
abbrev pub is_entry : Board → Suit → Bool
is_entry p suit = nat_lt 0 (partners_cashed p.strain p suit) && nat_lt (run p p.first suit) (length_at p p.first suit)

-- can it cross in some suit?
abbrev pub has_entry : Board → Bool
has_entry p = (is_entry p Spades || is_entry p Hearts) || (is_entry p Diamonds || is_entry p Clubs)

-- what the partner cashes in all side suits
abbrev pub all_partners : Board → ℕ
all_partners p = partners_cashed p.strain p Spades + partners_cashed p.strain p Hearts + partners_cashed p.strain p Diamonds + partners_cashed p.strain p Clubs

-- how many tricks are left beside those that the leader cashes, where it and its partner keep their trumps
abbrev pub beside_trumps : Board → ℕ
beside_trumps p = tricks_left p - (side_tricks p + max (trumps_at p.strain p p.first) (trumps_at p.strain p (seat_after p.first 2)))

-- Crossing: the leader cashes, then leads to its partner, and the partner cashes its winners, as long as both have other cards
-- than trumps to throw.
abbrev pub crossed : Board → ℕ
crossed p = (if has_entry p then min (all_partners p) (beside_trumps p) else 0)

-- ---- one later trick

-- has no hand a trump?
abbrev pub no_trumps : Board → Bool
no_trumps p = (trumps_at p.strain p p.first == 0 && trumps_at p.strain p (seat_after p.first 1) == 0)
    && (trumps_at p.strain p (seat_after p.first 2) == 0 && trumps_at p.strain p (seat_after p.first 3) == 0)

-- the longer holding of the leader's side in the suit
abbrev pub longer : Board → Suit → ℕ
longer p suit = max (length_at p p.first suit) (length_at p (seat_after p.first 2) suit)

-- how many cards of the suit the seat holds that no opponent of its can beat
abbrev pub unbeaten : Board → Seat → Suit → ℕ
unbeaten p seat suit = length (filter (λ c. is_of suit c && is_unbeaten p seat c) (cards_at p seat))

-- how many of the highest cards left of the suit the leader's side holds without a gap
abbrev pub tops : Board → Suit → ℕ
tops p suit = unbeaten p p.first suit + unbeaten p (seat_after p.first 2) suit

-- is it a card that the seat's partner can't beat?
abbrev pub is_ahead : Board → Seat → PlayingCard → Bool
is_ahead p seat c = not (beats p (seat_after seat 2) c)

-- how many cards of the suit the seat holds that its partner can't beat
abbrev pub ahead : Board → Seat → Suit → ℕ
ahead p seat suit = length (filter (λ c. is_of suit c && is_ahead p seat c) (cards_at p seat))

-- Has the seat none of its side's highest cards in the suit, or no others in it?
abbrev pub is_bare : Board → Seat → Suit → Bool
is_bare p seat suit = (unbeaten p seat suit == 0) || (unbeaten p seat suit == length_at p seat suit)

-- Does the seat that is i places after the leader guard the suit? It has the opponents' highest card, the honour, and for each
-- higher one, all of which are the leader's side's, another card. One hand of that side has more cards than those, and the hand
-- behind it, which is the next to play, has none of those, or no others.
abbrev pub guards : Board → ℕ → Suit → Bool
guards p i suit = ((nat_lt 0 (ahead p (seat_after p.first i) suit) && nat_lt (tops p suit) (longer p suit)) && nat_lt (tops p suit) (length_at p (seat_after p.first i) suit)) && is_bare p (seat_after (seat_after p.first i) 1) suit

-- how often the leader's side can lead the suit before the honour wins, or if nobody guards it
abbrev pub rounds : Board → Suit → ℕ
rounds p suit = (if guards p 1 suit || guards p 3 suit then tops p suit else longer p suit)

-- how often that is, and one for the left and for the right opponent where it guards the suit
abbrev pub IsLed : Board → Suit → ℕ → ℕ → ℕ → Type 0
IsLed p suit n a b = (n ≡ rounds p suit) × (a ≡ (if guards p 1 suit then 1 else 0)) × (b ≡ (if guards p 3 suit then 1 else 0))

-- and all suits
abbrev pub all_rounds : Board → ℕ
all_rounds p = rounds p Spades + rounds p Hearts + rounds p Diamonds + rounds p Clubs

-- how many suits the seat guards
abbrev pub guarded : Board → ℕ → ℕ
guarded p i = (if guards p i Spades then 1 else 0) + (if guards p i Hearts then 1 else 0) + (if guards p i Diamonds then 1 else 0) + (if guards p i Clubs then 1 else 0)

-- The leader's side has to lead to a guarded honour: it has not so many rounds as tricks are left, and with one card for each
-- suit that an opponent guards these are no more, so that neither opponent has to throw what it guards.
unfoldable pub has_later_trick : Board → Bool
has_later_trick p = no_trumps p && (nat_lt (all_rounds p) (tricks_left p) && (nat_le (all_rounds p + guarded p 1) (tricks_left p) && nat_le (all_rounds p + guarded p 3) (tricks_left p)))

-- ---- kept winners

-- a winner of the suit that the seat keeps, where it has one and the leader's side can lead the suit
abbrev pub first_kept : Board → Seat → Suit → ℕ
first_kept p seat suit = min 1 (min (run p seat suit) (longer p suit))

-- how often the leader's side can lead the suit, where the seat has no winner
abbrev pub free_rounds : Board → Seat → Suit → ℕ
free_rounds p seat suit = (if nat_lt 0 (run p seat suit) then 0 else longer p suit)

-- the sum of a number over the suits
abbrev pub of_all : (Suit → ℕ) → ℕ
of_all number = number Spades + number Hearts + number Diamonds + number Clubs

-- Kept winners: what the seat takes when it comes in, where no hand has a trump. The leader's side takes tricks only in the
-- suits where the seat has no winner, and until then it has other cards to throw: those rounds, with one winner for each suit
-- that it heads, are no more than the tricks left.
unfoldable pub kept_winners : Board → Seat → ℕ
kept_winners p seat = (if no_trumps p && nat_le (of_all (first_kept p seat) + of_all (free_rounds p seat)) (tricks_left p)
    then min (of_all (run p seat)) (tricks_left p - of_all (free_rounds p seat)) else 0)

-- those of the opponent that keeps more
abbrev pub others_kept : Board → ℕ
others_kept p = max (kept_winners p (seat_after p.first 1)) (kept_winners p (seat_after p.first 3))

-- ---- both

-- the side of the leader takes at least this number
unfoldable pub quick_lo : Board → ℕ
quick_lo p = side_tricks p + joint_trumps p.strain p p.first + crossed p

-- and no more than this
unfoldable pub quick_hi : Board → ℕ
quick_hi p = tricks_left p - max (max (joint_trumps p.strain p (seat_after p.first 1)) (if has_later_trick p then 1 else 0)) (others_kept p)

-- the tricks that the leader cashes in a suit, and the number of cards on which they rest, if there are any
abbrev pub IsCash : Board → Suit → ℕ → ℕ → Type 0
IsCash p suit tricks cards = (tricks ≡ cashed p.strain p suit) × (1 ≤ tricks → cards ≡ depth p suit)

-- the tricks that the partner takes in a suit once the leader has crossed, and whether the leader can cross there
abbrev pub IsNext : Board → Suit → ℕ → Bool → Type 0
IsNext p suit tricks entry = (tricks ≡ partners_cashed p.strain p suit) × (entry ≡ is_entry p suit)

-- ---- the cards on which a claim rests

-- so many of the leader's winners in the suit, as far as its run goes, are reached by these cards
abbrev pub RestsOn : Board → Suit → List PlayingCard → ℕ → Type 0
RestsOn p suit cards n = min n (run p p.first suit) ≤ length (filter (λ c. (is_of suit c && is_winner p p.first c) && reach cards c) (cards_at p p.first))

-- The leader's side takes so many tricks by so many of each suit: the leader cashes these, its partner has other cards than trumps to throw to
-- them, and the rest are joint trumps.
pub record CanShare (p : Board) (a b d e n : ℕ) : Type 0 where
  pub spades : a ≤ cashed p.strain p Spades
  pub hearts : b ≤ cashed p.strain p Hearts
  pub diamonds : d ≤ cashed p.strain p Diamonds
  pub clubs : e ≤ cashed p.strain p Clubs
  pub throws : a + b + d + e ≤ tricks_left p - trumps_at p.strain p (seat_after p.first 2)
  pub within : a + b + d + e ≤ n
  pub joint : n - (a + b + d + e) ≤ joint_trumps p.strain p p.first

-- so many of the partner's cards next below the leader's run, as far as there are, are reached by these cards
abbrev pub RestsOnNext : Board → Suit → List PlayingCard → ℕ → Type 0
RestsOnNext p suit cards n = min n (next_run p suit) ≤ length (filter (λ c. (is_of suit c && is_next p c) && reach cards c) (cards_at p (seat_after p.first 2)))

-- so many tricks are taken by trumps of some rank or higher, which these cards reach, or no opponent has trumps
abbrev pub RestsOnTrumps : Strain → Board → Seat → List PlayingCard → ℕ → Type 0
RestsOnTrumps Notrump p seat cards n = Unit {0}
RestsOnTrumps (Trump trump) p seat cards n =
    ((n ≡ 0) ⊎ ((rank : ℕ) × (n ≤ taken_from p seat trump rank) × (reach cards (card_of trump rank) ≡ true)))
    ⊎ ((length_at p (seat_after seat 1) trump ≡ 0) × (length_at p (seat_after seat 3) trump ≡ 0))

-- so many of the seat's winners in the suit, as far as its run goes, are reached by these cards
abbrev pub RestsOnRun : Board → Seat → Suit → List PlayingCard → ℕ → Type 0
RestsOnRun p seat suit cards n = min n (run p seat suit) ≤ length (filter (λ c. (is_of suit c && is_winner p seat c) && reach cards c) (cards_at p seat))

-- where the seat guards the suit, a card that its partner can't beat is reached by these cards
abbrev pub RestsOnGuard : Board → ℕ → Suit → List PlayingCard → Type 0
RestsOnGuard p i suit cards = guards p i suit ≡ true → 1 ≤ length (filter (λ c. (is_of suit c && is_ahead p (seat_after p.first i) c) && reach cards c) (cards_at p (seat_after p.first i)))
