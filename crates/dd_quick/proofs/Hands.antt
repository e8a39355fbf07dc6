-- which cards no other hand can beat
use Rattle.std.proofs.Common.{◌≡◌, ◌≢◌, ℕ, zero, suc, ◌+◌, ◌-◌, ◌%◌, ◌<◌, ◌≤◌, Bool, true, false, refl, sym, ap, ◌∙◌, subst, arith, List, [], ◌∷◌, inl, inr}
use Rattle.std.specs.Prelude.{nat_lt, ◌&&◌, ◌||◌, ◌⊎◌}
use Rattle.std.specs.List.{list_any}
use mathlib.Core.Bool.{not}
use mathlib.Core.Path.{ap₂}
use Rattle.std.proofs.lemmas.Bool.Decides.{nat_tests}
use Rattle.dd_cards.specs.declared.seat.Seat.{Seat}
use Rattle.dd_cards.specs.PlayingCard.{PlayingCard}
use Rattle.dd_cards.specs.Cards.{is_of, same_card, card_of, has_card}
use Rattle.dd_cards.specs.Seats.{seat_code, seat_after}
use Rattle.dd_cards.specs.Hands.{hand_of, with_hand, times, FourHands}
use Rattle.dd_cards.proofs.CallerLemmas.{same_card-eq, seat_code-injective, seat_code-lt, times-has, none-at}
use Rattle.dd_play.specs.Board.{Board, IsBoard, cards_at, times_in}
use Rattle.dd_play.proofs.CallerLemmas.{after-code, hand-other, of-suit', times-hand, times_in-with_hand}
use Rattle.dd_quick.specs.QuickTricks.{beats, is_winner, is_unbeaten}

-- a card of one hand is in no other hand
pub one-hand : (p : Board) → IsBoard p → (x h : Seat) (c : PlayingCard) → seat_code x ≢ seat_code h → has_card (cards_at p x) c ≡ true → has_card (cards_at p h) c ≡ true → ⊥
one-hand p valid x h c apart hx hh =
    let taken : FourHands = with_hand p.hands x [] in
    let moved = times_in-with_hand p.hands x [] c in
    let rest : times (hand_of taken h) c ≤ times_in taken c = times-hand taken h c in
    let same : times (hand_of taken h) c ≡ times (cards_at p h) c = ap (λ cards. times cards c) (hand-other p.hands x h [] (λ e. apart (sym e))) in
    let one = times-has (cards_at p x) c hx in
    let two = times-has (cards_at p h) c hh in
    let once = valid.once c in
    omega (arith, moved, rest, same, one, two, once)

-- every other seat is one, two or three places after a seat
pub places-on : (h x : Seat) → seat_code x ≢ seat_code h → (i : ℕ) × (1 ≤ i) × (i < 4) × (x ≡ seat_after h i)
places-on h x apart =
    let a = seat_code-lt h in
    let b = seat_code-lt x in
    let i : ℕ = (4 + seat_code x - seat_code h) % 4 in
    let on = after-code h i in
    (i, omega (arith, apart), omega arith, sym (seat_code-injective (seat_after h i) x (omega (arith, on))))

-- a card that none of three seats beats is beaten by none of them
three : (a b c : Bool) → not (a || b || c) ≡ true → (a ≡ false) × (b ≡ false) × (c ≡ false)
three false false false h = (refl, refl, refl)
three true b c h = absurd (cc)
three false true c h = absurd (cc)
three false false true h = absurd (cc)

-- a winner is beaten by no other seat
winner-free : (p : Board) (h x : Seat) (c : PlayingCard) → seat_code x ≢ seat_code h → is_winner p h c ≡ true → beats p x c ≡ false
winner-free p h x c apart winner = go (places-on h x apart)
  where
    at : (beats p (seat_after h 1) c ≡ false) × (beats p (seat_after h 2) c ≡ false) × (beats p (seat_after h 3) c ≡ false)
    at = three (beats p (seat_after h 1) c) (beats p (seat_after h 2) c) (beats p (seat_after h 3) c) winner

    by : (i : ℕ) → 1 ≤ i → i < 4 → beats p (seat_after h i) c ≡ false
    by zero l m = absurd (omega (arith, l))
    by (suc zero) l m = at.0
    by (suc (suc zero)) l m = at.1
    by (suc (suc (suc zero))) l m = at.2
    by (suc (suc (suc (suc i)))) l m = absurd (omega (arith, m))

    go : (i : ℕ) × (1 ≤ i) × (i < 4) × (x ≡ seat_after h i) → beats p x c ≡ false
    go r = ap (λ y. beats p y c) r.3 ∙ by r.0 r.1 r.2

-- what does not pass one of two tests, and passes the first, fails the second
pub and-fails : (a b : Bool) → a ≡ true → (a && b) ≡ false → b ≡ false
and-fails true b e h = h
and-fails false b e h = absurd (cc)

-- what a hand does not beat is higher than each card of its suit in it
pub lower : (p : Board) → IsBoard p → (h x : Seat) (c e : PlayingCard) → seat_code x ≢ seat_code h → beats p x c ≡ false → has_card (cards_at p h) c ≡ true
    → has_card (cards_at p x) e ≡ true → e.suit ≡ c.suit → e.rank < c.rank
lower p valid h x c e apart free own his suit =
    let fails : (is_of c.suit e && nat_lt c.rank e.rank) ≡ false = none-at (λ d. is_of c.suit d && nat_lt c.rank d.rank) (cards_at p x) e free his in
    let under : nat_lt c.rank e.rank ≡ false = and-fails (is_of c.suit e) (nat_lt c.rank e.rank) (of-suit' c.suit e suit) fails in
    let least : e.rank ≤ c.rank = not-over c.rank e.rank under in
    let differs : e.rank ≢ c.rank = λ ranks. one-hand p valid x h c apart (subst (λ (y : PlayingCard). has_card (cards_at p x) y ≡ true) (same suit ranks) his) own in
    omega (arith, least, differs)
  where
    not-over : (a b : ℕ) → nat_lt a b ≡ false → b ≤ a
    not-over a b h = grind (arith, nat_tests)

    same : e.suit ≡ c.suit → e.rank ≡ c.rank → e ≡ c
    same suits ranks = ap₂ card_of suits ranks

-- a winner in a hand is higher than each card of its suit in another hand
pub no-higher : (p : Board) → IsBoard p → (h x : Seat) (c e : PlayingCard) → seat_code x ≢ seat_code h → is_winner p h c ≡ true → has_card (cards_at p h) c ≡ true
    → has_card (cards_at p x) e ≡ true → e.suit ≡ c.suit → e.rank < c.rank
no-higher p valid h x c e apart winner own his suit = lower p valid h x c e apart (winner-free p h x c apart winner) own his suit

-- the opponents of a seat are one and three places after it
abbrev pub IsOpposed : ℕ → Type 0
IsOpposed i = (i ≡ 1) ⊎ (i ≡ 3)

-- a card that no opponent beats is higher than each card of its suit in an opponent's hand
pub none-over : (p : Board) → IsBoard p → (h : Seat) (i : ℕ) (c e : PlayingCard) → IsOpposed i → is_unbeaten p h c ≡ true → has_card (cards_at p h) c ≡ true
    → has_card (cards_at p (seat_after h i)) e ≡ true → e.suit ≡ c.suit → e.rank < c.rank
none-over p valid h i c e opposed free own his suit = lower p valid h (seat_after h i) c e apart here own his suit
  where
    both : (a b : Bool) → not (a || b) ≡ true → (a ≡ false) × (b ≡ false)
    both false false k = (refl, refl)
    both true b k = absurd (cc)
    both false true k = absurd (cc)

    at : (beats p (seat_after h 1) c ≡ false) × (beats p (seat_after h 3) c ≡ false)
    at = both (beats p (seat_after h 1) c) (beats p (seat_after h 3) c) free

    here : beats p (seat_after h i) c ≡ false
    here = elim opposed [ inl k ↦ ap (λ j. beats p (seat_after h j) c) k ∙ at.0 | inr k ↦ ap (λ j. beats p (seat_after h j) c) k ∙ at.1 ]

    apart : seat_code (seat_after h i) ≢ seat_code h
    apart = (let a = after-code h i in let b = seat_code-lt h in elim opposed [ inl k ↦ (omega (arith, a, b, k)) | inr k ↦ (omega (arith, a, b, k)) ])
