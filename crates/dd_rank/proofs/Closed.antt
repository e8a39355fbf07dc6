-- suits without gaps: the bits of the hands stand at the owners' places
use Rattle.std.proofs.Common.{◌≡◌, ℕ, zero, suc, ◌+◌, ◌*◌, ◌<◌, ◌≤◌, Bool, true, false, refl, sym, ap, ◌∙◌, subst, arith, List, ◌∷◌, ◌++◌}
use Rattle.std.specs.Prelude.{map, filter, ◌||◌}
use Rattle.std.specs.Int.{bit_at}
use Rattle.std.proofs.lemmas.List.Folds.{list_any-append}
use mathlib.Core.Path.{ap₂}
use Rattle.dd_cards.specs.declared.seat.Seat.TheVariants.{North, East, South, West}
use Rattle.dd_cards.specs.declared.suit.Suit.{Suit}
use Rattle.dd_cards.specs.PlayingCard.{PlayingCard}
use Rattle.dd_cards.specs.Ranks.{IsRank, all_ranks, lowest_ranks}
use Rattle.dd_cards.specs.Seats.{seat_after, seat_code}
use Rattle.dd_cards.specs.Cards.{card_of, deck, has_card, same_card, suit_cards}
use Rattle.dd_cards.specs.HandMasks.{cards_of}
use Rattle.dd_cards.specs.Hands.{AreHands, FourHands, dealt}
use Rattle.dd_play.specs.Board.{Board, cards_at}
use Rattle.dd_rank.specs.Depths.{all_cards}
use Rattle.dd_rank.specs.Lanes.{lane, places_of}
use Rattle.dd_rank.specs.Owners.{holder, owners_in}
use Rattle.dd_rank.specs.Strings.{number_of, owners_number}
use Rattle.dd_rank.proofs.Holders.{by-ranks}
use Rattle.dd_rank.proofs.Masked.{bit_of, card-is, held, union-has}
use Rattle.dd_rank.proofs.Seated.{AreSeated, seated-four, suit-owners}
use Rattle.dd_rank.proofs.Suited.{IsTold, told-list}
use Rattle.std.proofs.lemmas.Bool.{false_from_ne_true}
use Rattle.dd_cards.proofs.CallerLemmas.{real_ranks}

-- ---- ranks that pass a test, with none that fails above them
-- where no rank passes, the number is zero
none-pass : (test : ℕ → Bool) (digit : ℕ → ℕ) (k : ℕ) → k ≤ 13 → ((r : ℕ) → IsRank r → test r ≡ false → digit r ≡ 0) → ((r : ℕ) → IsRank r → r < k + 2 → test r ≡ false) → number_of 4 (map digit (lowest_ranks k)) ≡ 0
unfolding lowest_ranks
none-pass test digit zero few clear none = refl
none-pass test digit (suc k) few clear none =
    let real : IsRank (k + 2) = (omega arith, omega (arith, few)) in
    let first = clear (k + 2) real (none (k + 2) real (omega arith)) in
    let rest = none-pass test digit k (omega (arith, few)) clear (λ r real h. none r real (omega (arith, h))) in
    omega (arith, first, rest)

-- .. so that those which fail add nothing at the end
those-passing : (test : ℕ → Bool) (digit : ℕ → ℕ) (k : ℕ) → k ≤ 13 → ((r : ℕ) → IsRank r → test r ≡ false → digit r ≡ 0) → ((q r : ℕ) → IsRank q → IsRank r → q ≤ r → test q ≡ true → test r ≡ true)
    → number_of 4 (map digit (filter test (lowest_ranks k))) ≡ number_of 4 (map digit (lowest_ranks k))
unfolding lowest_ranks
those-passing test digit zero few clear up = refl
those-passing test digit (suc k) few clear up = go (test (k + 2)) refl (those-passing test digit k (omega (arith, few)) clear up)
  where
    real : IsRank (k + 2)
    real = (omega arith, omega (arith, few))

    go : (b : Bool) → test (k + 2) ≡ b → number_of 4 (map digit (filter test (lowest_ranks k))) ≡ number_of 4 (map digit (lowest_ranks k))
        → number_of 4 (map digit (filter test ((k + 2) ∷ lowest_ranks k))) ≡ digit (k + 2) + 4 * number_of 4 (map digit (lowest_ranks k))
    go true e ih = rw e (ap (λ n. digit (k + 2) + 4 * n) ih)
    go false e ih =
        let first = clear (k + 2) real e in
        let rest = none-pass test digit k (omega (arith, few)) clear (λ r is h. false_from_ne_true (test r) (λ t. let w : test (k + 2) ≡ true = up r (k + 2) is real (omega (arith, h)) t in cc)) in
        rw e (omega (arith, ih, first, rest))

-- .. of all
all-passing : (test : ℕ → Bool) (digit : ℕ → ℕ) → ((r : ℕ) → IsRank r → test r ≡ false → digit r ≡ 0) → ((q r : ℕ) → IsRank q → IsRank r → q ≤ r → test q ≡ true → test r ≡ true)
    → number_of 4 (map digit all_ranks) ≡ number_of 4 (map digit (filter test all_ranks))
unfolding all_ranks
all-passing test digit clear up = sym (those-passing test digit 13 (omega arith) clear up)

-- ---- four hands
-- has one of them the card?
abbrev in_some : List PlayingCard → List PlayingCard → List PlayingCard → List PlayingCard → PlayingCard → Bool
in_some l s t f c = (has_card l c || has_card t c) || (has_card s c || has_card f c)

-- then it is one of all cards
some-all : (p : Board) (c : PlayingCard) → in_some (cards_at p North) (cards_at p East) (cards_at p South) (cards_at p West) c ≡ has_card (all_cards p) c
some-all p c = turn (has_card n c) (has_card e c) (has_card s c) (has_card w c) ∙ sym (list_any-append is ((n ++ e) ++ s) w
    ∙ ap (λ b. b || has_card w c) (list_any-append is (n ++ e) s ∙ ap (λ b. b || has_card s c) (list_any-append is n e)))
  where
    is : PlayingCard → Bool
    is d = same_card d c

    n : List PlayingCard
    n = cards_at p North

    e : List PlayingCard
    e = cards_at p East

    s : List PlayingCard
    s = cards_at p South

    w : List PlayingCard
    w = cards_at p West

    turn : (a b c d : Bool) → ((a || c) || (b || d)) ≡ (((a || b) || c) || d)
    turn true b c d = refl
    turn false true true d = refl
    turn false true false d = refl
    turn false false true d = refl
    turn false false false d = refl

-- where each card is in some hand that is no lower than one that is, the places are the owners
gapless-told : (l s t f : List PlayingCard) (odd far : ℕ) (u : Suit) → AreHands (dealt l s t f) → cards_of odd ≡ filter (λ c. has_card s c || has_card f c) deck → cards_of far ≡ filter (λ c. has_card t c || has_card f c) deck
    → ((q r : ℕ) → IsRank q → IsRank r → q ≤ r → in_some l s t f (card_of u q) ≡ true → in_some l s t f (card_of u r) ≡ true)
    → places_of (lane odd u) (lane far u) all_ranks ≡ number_of 4 (map seat_code (owners_in (dealt l s t f) u))
unfolding suit_cards
gapless-told l s t f odd far u hands odd_is far_is up =
    all-passing test digit clear up
    ∙ ap (number_of 4) (told-list (λ r. holder hs (card_of u r)) test digit all_ranks each real_ranks ∙ ap (map seat_code) (sym (by-ranks (holder hs) u all_ranks)))
  where
    hs : FourHands
    hs = dealt l s t f

    test : ℕ → Bool
    test r = in_some l s t f (card_of u r)

    digit : ℕ → ℕ
    digit r = bit_at (lane odd u) r + 2 * bit_at (lane far u) r

    told : (r : ℕ) → IsRank r → digit r ≡ bit_of (has_card s (card_of u r) || has_card f (card_of u r)) + 2 * bit_of (has_card t (card_of u r) || has_card f (card_of u r))
    told r real =
        ap₂ (λ m n. m + 2 * n) (card-is odd u r real ∙ ap bit_of (ap (λ cards. has_card cards (card_of u r)) odd_is ∙ union-has s f u r real))
        (card-is far u r real ∙ ap bit_of (ap (λ cards. has_card cards (card_of u r)) far_is ∙ union-has t f u r real))

    none : (a b c d : Bool) → ((a || c) || (b || d)) ≡ false → bit_of (b || d) + 2 * bit_of (c || d) ≡ 0
    none true b c d h = absurd (cc)
    none false b true d h = absurd (cc)
    none false true false d h = absurd (cc)
    none false false false true h = absurd (cc)
    none false false false false h = refl

    clear : (r : ℕ) → IsRank r → test r ≡ false → digit r ≡ 0
    clear r real h = told r real ∙ none (has_card l (card_of u r)) (has_card s (card_of u r)) (has_card t (card_of u r)) (has_card f (card_of u r)) h

    each : (r : ℕ) → IsRank r → IsTold (holder hs (card_of u r)) (test r) (digit r)
    each r real = subst (λ n. IsTold (holder hs (card_of u r)) (test r) n) (sym (told r real)) (held l s t f hands (card_of u r))

-- The places that the bits of the cards tell are the owners, where North leads and no suit has a gap.
pub gapless-owners : (p : Board) (s t f : List PlayingCard) (odd far : ℕ) → AreHands p.hands → p.first ≡ North → s ≡ cards_at p East → t ≡ cards_at p South → f ≡ cards_at p West
    → cards_of odd ≡ filter (λ c. has_card s c || has_card f c) deck → cards_of far ≡ filter (λ c. has_card t c || has_card f c) deck
    → ((c d : PlayingCard) → has_card (all_cards p) c ≡ true → d.suit ≡ c.suit → c.rank ≤ d.rank → d.rank ≤ 14 → has_card (all_cards p) d ≡ true)
    → (u : Suit) → places_of (lane odd u) (lane far u) all_ranks ≡ owners_number p u
gapless-owners p s t f odd far hands north es et ef odd_is far_is closed u =
    gapless-told (cards_at p North) s t f odd far u (seated-four p (cards_at p North) s t f seated) odd_is far_is
    (λ q r rq rr h has. some (card_of u r) ∙ closed (card_of u q) (card_of u r) (sym (some (card_of u q)) ∙ has) refl h rr.1)
    ∙ suit-owners p (cards_at p North) s t f u seated
  where
    at : (k : ℕ) → cards_at p (seat_after North k) ≡ cards_at p (seat_after p.first k)
    at k = ap (λ x. cards_at p (seat_after x k)) (sym north)

    seated : AreSeated p (cards_at p North) s t f
    seated = record { hands = hands; leader = at 0; second = es ∙ at 1; third = et ∙ at 2; fourth = ef ∙ at 3 }

    some : (c : PlayingCard) → in_some (cards_at p North) s t f c ≡ has_card (all_cards p) c
    some c = rw (es, et, ef) (some-all p c)
