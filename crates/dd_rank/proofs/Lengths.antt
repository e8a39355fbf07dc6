-- the sixteen lengths as one number
use Rattle.std.proofs.Common.{◌≡◌, ℕ, zero, suc, ◌+◌, ◌<◌, refl, sym, ◌∙◌, arith, [], ◌∷◌, ◌++◌}
use Rattle.dd_cards.specs.declared.seat.Seat.{Seat}
use Rattle.dd_cards.specs.declared.seat.Seat.TheVariants.{North, East, South, West}
use Rattle.dd_cards.specs.declared.suit.Suit.{Suit}
use Rattle.dd_cards.specs.declared.suit.Suit.TheVariants.{Spades, Hearts, Diamonds, Clubs}
use Rattle.dd_cards.specs.Cards.{is_of}
use Rattle.dd_cards.specs.Seats.{seat_after}
use Rattle.dd_cards.proofs.CallerLemmas.{length-suit}
use Rattle.dd_play.specs.Board.{Board, IsBoard, cards_at}
use Rattle.dd_play.specs.Covers.{count_of}
use Rattle.dd_rank.specs.Depths.{all_cards}
use Rattle.dd_rank.specs.Strings.{number_of, length_at, suit_lengths, all_lengths}
use Rattle.dd_rank.proofs.Looked.{count-append}

-- four digits to a base are told by their number
four-digits : (a b c d e f g h : ℕ) → a < 16 → b < 16 → c < 16 → d < 16 → e < 16 → f < 16 → g < 16 → h < 16
    → number_of 16 (a ∷ b ∷ c ∷ d ∷ []) ≡ number_of 16 (e ∷ f ∷ g ∷ h ∷ []) → (a ≡ e) × (b ≡ f) × (c ≡ g) × (d ≡ h)
four-digits a b c d e f g h la lb lc ld le lf lg lh same = (omega arith, omega arith, omega arith, omega arith)

-- .. and so to the base of a suit
four-suits : (a b c d e f g h : ℕ) → a < 65536 → b < 65536 → c < 65536 → d < 65536 → e < 65536 → f < 65536 → g < 65536 → h < 65536
    → number_of 65536 (a ∷ b ∷ c ∷ d ∷ []) ≡ number_of 65536 (e ∷ f ∷ g ∷ h ∷ []) → (a ≡ e) × (b ≡ f) × (c ≡ g) × (d ≡ h)
four-suits a b c d e f g h la lb lc ld le lf lg lh same = (omega arith, omega arith, omega arith, omega arith)

-- a hand has at most thirteen cards of a suit
length-small : (p : Board) → IsBoard p → (u : Suit) (k : ℕ) → length_at p u k < 16
length-small p valid u k = (let h = length-suit u (cards_at p (seat_after p.first k)) (valid.sets (seat_after p.first k)) in omega (arith, h))

-- four digits make sixteen bits
pub digits-small : (a b c d : ℕ) → a < 16 → b < 16 → c < 16 → d < 16 → number_of 16 (a ∷ b ∷ c ∷ d ∷ []) < 65536
digits-small a b c d la lb lc ld = omega arith

-- the lengths of a suit take sixteen bits
suit-small : (p : Board) → IsBoard p → (u : Suit) → suit_lengths p u < 65536
suit-small p valid u = digits-small (length_at p u 0) (length_at p u 1) (length_at p u 2) (length_at p u 3) (length-small p valid u 0) (length-small p valid u 1) (length-small p valid u 2) (length-small p valid u 3)

-- where all lengths are the same, so are those of a suit
suit-same : (p q : Board) → IsBoard p → IsBoard q → all_lengths q ≡ all_lengths p → (u : Suit) → suit_lengths q u ≡ suit_lengths p u
unfolding all_lengths
suit-same p q valid_p valid_q same = go
  where
    four : (suit_lengths q Clubs ≡ suit_lengths p Clubs) × (suit_lengths q Diamonds ≡ suit_lengths p Diamonds) × (suit_lengths q Hearts ≡ suit_lengths p Hearts) × (suit_lengths q Spades ≡ suit_lengths p Spades)
    four =
        four-suits (suit_lengths q Clubs) (suit_lengths q Diamonds) (suit_lengths q Hearts) (suit_lengths q Spades) (suit_lengths p Clubs) (suit_lengths p Diamonds) (suit_lengths p Hearts) (suit_lengths p Spades)
        (suit-small q valid_q Clubs) (suit-small q valid_q Diamonds) (suit-small q valid_q Hearts) (suit-small q valid_q Spades)
        (suit-small p valid_p Clubs) (suit-small p valid_p Diamonds) (suit-small p valid_p Hearts) (suit-small p valid_p Spades) same

    go : (u : Suit) → suit_lengths q u ≡ suit_lengths p u
    go Spades = four.3
    go Hearts = four.2
    go Diamonds = four.1
    go Clubs = four.0

-- .. and that at each place after the leader
pub lengths-tell : (p q : Board) → IsBoard p → IsBoard q → all_lengths q ≡ all_lengths p → (u : Suit) (k : ℕ) → k < 4 → length_at q u k ≡ length_at p u k
lengths-tell p q valid_p valid_q same u = go
  where
    four : (length_at q u 0 ≡ length_at p u 0) × (length_at q u 1 ≡ length_at p u 1) × (length_at q u 2 ≡ length_at p u 2) × (length_at q u 3 ≡ length_at p u 3)
    four =
        four-digits (length_at q u 0) (length_at q u 1) (length_at q u 2) (length_at q u 3) (length_at p u 0) (length_at p u 1) (length_at p u 2) (length_at p u 3)
        (length-small q valid_q u 0) (length-small q valid_q u 1) (length-small q valid_q u 2) (length-small q valid_q u 3)
        (length-small p valid_p u 0) (length-small p valid_p u 1) (length-small p valid_p u 2) (length-small p valid_p u 3) (suit-same p q valid_p valid_q same u)

    go : (k : ℕ) → k < 4 → length_at q u k ≡ length_at p u k
    go zero h = four.0
    go (suc zero) h = four.1
    go (suc (suc zero)) h = four.2
    go (suc (suc (suc zero))) h = four.3
    go (suc (suc (suc (suc k)))) h = absurd (omega (arith, h))

-- the same lengths make the same number
pub lengths-give : (p q : Board) → ((u : Suit) (k : ℕ) → length_at q u k ≡ length_at p u k) → all_lengths q ≡ all_lengths p
unfolding all_lengths
lengths-give p q same = whole _ _ _ _ _ _ _ _ (suit Clubs) (suit Diamonds) (suit Hearts) (suit Spades)
  where
    digits : (a b c d e f g h : ℕ) → a ≡ e → b ≡ f → c ≡ g → d ≡ h → number_of 16 (a ∷ b ∷ c ∷ d ∷ []) ≡ number_of 16 (e ∷ f ∷ g ∷ h ∷ [])
    digits a b c d e f g h la lb lc ld = omega arith

    suit : (u : Suit) → suit_lengths q u ≡ suit_lengths p u
    suit u = digits _ _ _ _ _ _ _ _ (same u 0) (same u 1) (same u 2) (same u 3)

    whole : (a b c d e f g h : ℕ) → a ≡ e → b ≡ f → c ≡ g → d ≡ h → number_of 65536 (a ∷ b ∷ c ∷ d ∷ []) ≡ number_of 65536 (e ∷ f ∷ g ∷ h ∷ [])
    whole a b c d e f g h la lb lc ld = omega arith

-- a suit's cards are those of the four hands, from whichever seat on they are counted
all-lengths : (p : Board) (u : Suit) → count_of u (all_cards p) ≡ length_at p u 0 + length_at p u 1 + length_at p u 2 + length_at p u 3
all-lengths p u = sum ∙ from p.first
  where
    at : Seat → ℕ
    at x = count_of u (cards_at p x)

    sum : count_of u (all_cards p) ≡ at North + at East + at South + at West
    sum =
        let n = cards_at p North in
        let e = cards_at p East in
        let s = cards_at p South in
        let w = cards_at p West in
        let a = count-append (is_of u) ((n ++ e) ++ s) w in
        let b = count-append (is_of u) (n ++ e) s in
        let d = count-append (is_of u) n e in
        omega (arith, a, b, d)

    from : (f : Seat) → at North + at East + at South + at West ≡ at (seat_after f 0) + at (seat_after f 1) + at (seat_after f 2) + at (seat_after f 3)
    from North = refl
    from East = turn (at North) (at East) (at South) (at West)
      where
        turn : (a b c d : ℕ) → a + b + c + d ≡ b + c + d + a
        turn a b c d = omega arith
    from South = turn (at North) (at East) (at South) (at West)
      where
        turn : (a b c d : ℕ) → a + b + c + d ≡ c + d + a + b
        turn a b c d = omega arith
    from West = turn (at North) (at East) (at South) (at West)
      where
        turn : (a b c d : ℕ) → a + b + c + d ≡ d + a + b + c
        turn a b c d = omega arith

-- positions of the same lengths have as many cards of each suit
pub counts-same : (p q : Board) → IsBoard p → IsBoard q → all_lengths q ≡ all_lengths p → (u : Suit) → count_of u (all_cards q) ≡ count_of u (all_cards p)
counts-same p q valid_p valid_q same u =
    all-lengths q u ∙ sums _ _ _ _ _ _ _ _ (tell 0 (omega arith)) (tell 1 (omega arith)) (tell 2 (omega arith)) (tell 3 (omega arith)) ∙ sym (all-lengths p u)
  where
    tell : (k : ℕ) → k < 4 → length_at q u k ≡ length_at p u k
    tell = lengths-tell p q valid_p valid_q same u

    sums : (a b c d e f g h : ℕ) → a ≡ e → b ≡ f → c ≡ g → d ≡ h → a + b + c + d ≡ e + f + g + h
    sums a b c d e f g h la lb lc ld = omega arith
