-- the rules of claims that rest on high cards: they hold at every position that is covered
use Rattle.std.proofs.Common.{◌≡◌, ℕ, ◌+◌, ◌<◌, ◌≤◌, Bool, true, false, refl, sym, ap, ◌∙◌, arith, List, [], ◌∷◌, zero-le}
use Rattle.std.specs.Prelude.{nat_le, ◌&&◌, ◌||◌}
use Rattle.std.proofs.lemmas.Bool.{le-leb, leb-true}
use Rattle.std.proofs.lemmas.Bool.Decides.{nat_tests}
use Rattle.dd_cards.specs.PlayingCard.{PlayingCard}
use Rattle.dd_cards.specs.Cards.{is_of, has_card, same_card}
use Rattle.dd_cards.proofs.CallerLemmas.{and-left, and-right, same_card-eq}
use Rattle.dd_cards.specs.Sides.{is_side}
use Rattle.dd_cards.specs.declared.side.Side.{Side}
use Rattle.dd_play.specs.Board.{Board, IsBoard, mover, tricks_left}
use Rattle.dd_play.specs.Play.{after}
use Rattle.dd_play.specs.Won.{won, trick_for}
use Rattle.dd_play.specs.Simulations.{IsLegal}
use Rattle.dd_play.specs.Claims.{Takes}
use Rattle.dd_play.specs.Covers.{ForMet, IsOver, AllAnswer, IsCover, IsSettled}
use Rattle.dd_play.specs.Reach.{reach, IsUpward, TakesBy, IsWorth}
use Rattle.dd_play.proofs.Boards.{has-first, in-rest}
use Rattle.dd_play.proofs.Plays.{suit-of, of-suit'}
use Rattle.dd_play.proofs.Rules.{won_with, can, least}
use Rattle.dd_play.proofs.Steps.{answer, answer', stepped}
use Rattle.dd_play.proofs.Twins.{sides-turned}
use Rattle.dd_play.proofs.ClaimRules.{some-legal}
use Rattle.dd_play.proofs.Fewer.{cover-fewer, answers-fewer, strict-fewer, strict-after}

-- cards that are upward are so among those that can meet
pub met-upward : (top : PlayingCard → Bool) (p : Board) → IsUpward top → ForMet p (IsOver top)
met-upward top p up = record { hands = λ x y c d n hc hd. up c d; trick = λ c d hc hd. up c d; coming = λ k c d low high hc hd. (up c d, up d c) }

-- ---- what a position is worth

-- no trick may be claimed at any time
pub by-nothing : (top : PlayingCard → Bool) (s : Side) (p : Board) → TakesBy top s p 0
by-nothing top s p k to from t q r strict = zero-le

-- and fewer than are claimed
pub by-fewer : (top : PlayingCard → Bool) (s : Side) (p : Board) (n m : ℕ) → TakesBy top s p n → m ≤ n → TakesBy top s p m
by-fewer top s p n m takes h k to from t q r strict = let a = takes k to from t q r strict in omega (arith, a, h)

-- what rests on fewer cards rests on more
pub by-more : (few many : PlayingCard → Bool) (s : Side) (p : Board) (n : ℕ) → ((c : PlayingCard) → few c ≡ true → many c ≡ true) → IsUpward few → TakesBy few s p n → TakesBy many s p n
by-more few many s p n within up takes k to from t q r strict =
    takes k to from t q (cover-fewer few many k to from s p t q within (met-upward few p up) r) (strict-fewer few many k to from s p t q within up r strict)

-- ---- what a card is worth

-- a legal card is worth what is claimed after it, and the trick that it completes, if the winner is settled
pub worth-after : (top : PlayingCard → Bool) (s : Side) (p : Board) (c : PlayingCard) (n : ℕ) → IsLegal p c → IsSettled top p c → TakesBy top s (after p c) n → IsWorth top s p c (n + trick_for s p c)
worth-after top s p c n has settled takes k to from t q r strict d has' a =
    let g = stepped top k to from s p t q r c d has has' a settled in
    let later : n ≤ won t (after q d) = takes k to from t (after q d) g.cover (strict-after top to from p q c d r.valid_p r.valid_q strict) in
    let w : trick_for t q d ≡ trick_for s p c = g.worth in
    omega (arith, later, w)

-- and less
pub worth-fewer : (top : PlayingCard → Bool) (s : Side) (p : Board) (c : PlayingCard) (n m : ℕ) → IsWorth top s p c n → m ≤ n → IsWorth top s p c m
worth-fewer top s p c n m worth h k to from t q r strict d has a = let w = worth k to from t q r strict d has a in omega (arith, w, h)

-- by more cards too
pub worth-more : (few many : PlayingCard → Bool) (s : Side) (p : Board) (c : PlayingCard) (n : ℕ) → ((c : PlayingCard) → few c ≡ true → many c ≡ true) → IsUpward few → IsWorth few s p c n → IsWorth many s p c n
worth-more few many s p c n within up worth k to from t q r strict d has a =
    worth k to from t q (cover-fewer few many k to from s p t q within (met-upward few p up) r) (strict-fewer few many k to from s p t q within up r strict) d has (answers-fewer to from few many within c d a)

-- one low card is worth as much as another of its suit
pub worth-low : (top : PlayingCard → Bool) (s : Side) (p : Board) (c d : PlayingCard) (n : ℕ) → top c ≡ false → top d ≡ false → d.suit ≡ c.suit → IsWorth top s p c n → IsWorth top s p d n
worth-low top s p c d n lowc lowd suits worth k to from t q r strict e has a =
    worth k to from t q r strict e has (record { suit = a.suit ∙ suits; kind = a.kind ∙ lowd ∙ sym lowc; same = λ h. absurd (let z : false ≡ true = sym lowc ∙ h in cc) })

-- ---- from cards to the position

-- where the side is to play, one card is enough
pub by-one : (top : PlayingCard → Bool) (s : Side) (p : Board) (c : PlayingCard) (n : ℕ) → is_side s (mover p) ≡ true → IsLegal p c → IsWorth top s p c n → TakesBy top s p n
by-one top s p c n mine has worth k to from t q r strict =
    let d = answer top k to from s p t q r c has in
    let w : n ≤ won_with t q d.0 = worth k to from t q r strict d.0 d.1 d.2 in
    let reaches : won_with t q d.0 ≤ won t q = can t q d.0 r.valid_q (sides-turned top k to from s p t q r ∙ mine) d.1 in
    omega (arith, w, reaches)

-- where the other side is to play, each of its cards has to be worth as many
pub by-each : (top : PlayingCard → Bool) (s : Side) (p : Board) (n : ℕ) → is_side s (mover p) ≡ false → 1 ≤ tricks_left p → ((c : PlayingCard) → IsLegal p c → IsWorth top s p c n) → TakesBy top s p n
by-each top s p n theirs some each k to from t q r strict =
    let x = some-legal p some in
    let y = answer top k to from s p t q r x.0 x.1 in
    least t q n r.valid_q (sides-turned top k to from s p t q r ∙ theirs) y.0 y.1 (λ e has.
    let c = answer' top k to from s p t q r e has in
    each c.0 c.1 k to from t q r strict e has c.2)

-- ---- where it was made

abbrev pub itself : PlayingCard → PlayingCard
itself c = c

-- each card answers itself
answers-self : (top : PlayingCard → Bool) (cards : List PlayingCard) → AllAnswer itself itself top cards cards
answers-self top [] = tt
answers-self top (c ∷ cards) = (record { suit = refl; kind = refl; same = λ h. (refl, refl) }, answers-self top cards)

-- a position covers itself
pub cover-self : (top : PlayingCard → Bool) (s : Side) (p : Board) → IsBoard p → IsUpward top → IsCover top 0 itself itself s p s p
cover-self top s p good up = record {
  valid_p = good;
  valid_q = good;
  sides = λ x. refl;
  strain = refl;
  first = refl;
  to_suit = λ c. refl;
  from_suit = λ c. refl;
  forth = λ x c h t. (h, refl);
  back = λ x d h t. (h, refl);
  lengths = λ x u. refl;
  trick = answers-self top p.trick;
  keeps = record { hands = λ x y c d n hc hd tc td e. refl; trick = λ c d hc hd tc td e. refl; coming = λ k c d lo hi hc hd. (λ tc td e. refl, λ tc td e. refl) };
  over_p = met-upward top p up;
  over_q = met-upward top p up;
}

-- a claim holds where it was made
pub by-here : (top : PlayingCard → Bool) (s : Side) (p : Board) (n : ℕ) → IsBoard p → IsUpward top → TakesBy top s p n → Takes s p n
by-here top s p n good up takes =
    takes 0 itself itself s p (cover-self top s p good up) (record { keeps = λ x c d hc hd tc td e. refl; over = λ x c d hc hd. up c d })

-- ---- the cards reached

reaches-by : (d c : PlayingCard) → d.suit ≡ c.suit → d.rank ≤ c.rank → (is_of c.suit d && nat_le d.rank c.rank) ≡ true
reaches-by d c suits low = rw (of-suit' c.suit d suits, le-leb d.rank c.rank low) refl

-- a card that is reached is so by one of the cards
pub reach-some : (cards : List PlayingCard) (c : PlayingCard) → reach cards c ≡ true → (d : PlayingCard) × (has_card cards d ≡ true) × (d.suit ≡ c.suit) × (d.rank ≤ c.rank)
reach-some [] c h = absurd (cc)
reach-some (d ∷ cards) c h = go (is_of c.suit d && nat_le d.rank c.rank) refl (reach-some cards c)
  where
    go : (b : Bool) → (is_of c.suit d && nat_le d.rank c.rank) ≡ b → (reach cards c ≡ true → (d : PlayingCard) × (has_card cards d ≡ true) × (d.suit ≡ c.suit) × (d.rank ≤ c.rank))
        → (e : PlayingCard) × (has_card (d ∷ cards) e ≡ true) × (e.suit ≡ c.suit) × (e.rank ≤ c.rank)
    go true e rest = (d, has-first d cards, suit-of c.suit d (and-left (is_of c.suit d) (nat_le d.rank c.rank) e), leb-true d.rank c.rank (and-right (is_of c.suit d) (nat_le d.rank c.rank) e))
    go false e rest = let f = rest (rw e at h) in (f.0, in-rest d f.0 cards f.1, f.2, f.3)

-- and one of the cards reaches it
pub reach-of : (cards : List PlayingCard) (d c : PlayingCard) → has_card cards d ≡ true → d.suit ≡ c.suit → d.rank ≤ c.rank → reach cards c ≡ true
reach-of [] d c h suits low = absurd (cc)
reach-of (x ∷ cards) d c h suits low = go (same_card x d) refl (λ k. reach-of cards d c k suits low)
  where
    or-yes : (a b : Bool) → b ≡ true → (a || b) ≡ true
    or-yes true b h = refl
    or-yes false b h = h

    go : (b : Bool) → same_card x d ≡ b → (has_card cards d ≡ true → reach cards c ≡ true) → reach (x ∷ cards) c ≡ true
    go true e rest = let same : x ≡ d = same_card-eq x d e in rw (reaches-by x c (ap (λ (y : PlayingCard). y.suit) same ∙ suits) (let k : x.rank ≡ d.rank = ap (λ (y : PlayingCard). y.rank) same in omega (arith, k, low))) refl
    go false e rest = or-yes (is_of c.suit x && nat_le x.rank c.rank) (reach cards c) (rest (rw e at h))

-- more cards reach what fewer reach
pub reach-within : (few many : List PlayingCard) → ((c : PlayingCard) → has_card few c ≡ true → has_card many c ≡ true) → (c : PlayingCard) → reach few c ≡ true → reach many c ≡ true
reach-within few many within c h = let d = reach-some few c h in reach-of many d.0 c (within d.0 d.1) d.2 d.3

-- with a card each higher one of its suit is reached
pub reach-upward : (cards : List PlayingCard) → IsUpward (reach cards)
reach-upward cards c d above none suits = go (nat_le c.rank d.rank) refl
  where
    lower : (m n : ℕ) → nat_le m n ≡ false → n < m
    lower m n h = grind (arith, nat_tests)

    go : (b : Bool) → nat_le c.rank d.rank ≡ b → d.rank < c.rank
    go false e = lower c.rank d.rank e
    go true e =
        let f = reach-some cards c above in
        let up : c.rank ≤ d.rank = leb-true c.rank d.rank e in
        let low = f.3 in
        absurd (let k : true ≡ false = sym (reach-of cards f.0 d f.1 (f.2 ∙ suits) (omega (arith, low, up))) ∙ none in cc)

-- a card of a set is reached by it
pub reach-in : (cards : List PlayingCard) (x : PlayingCard) → has_card cards x ≡ true → reach cards x ≡ true
reach-in cards x has = reach-of cards x x has refl (omega arith)
