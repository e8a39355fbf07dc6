-- the four hands from the leader on, and the owner strings that they tell
use Rattle.std.proofs.Common.{◌≡◌, ℕ, ◌+◌, ◌*◌, ◌<◌, true, false, refl, sym, ap, ◌∙◌, subst, arith, List, [], ◌∷◌, Option, None, Some}
use Rattle.std.specs.Prelude.{map}
use Rattle.std.specs.List.{filter_map}
use mathlib.Core.Path.{ap₂}
use Rattle.dd_cards.specs.declared.seat.Seat.{Seat}
use Rattle.dd_cards.specs.declared.seat.Seat.TheVariants.{North, East, South, West}
use Rattle.dd_cards.specs.declared.strain.Strain.{Strain}
use Rattle.dd_cards.specs.declared.suit.Suit.{Suit}
use Rattle.dd_cards.specs.declared.suit.Suit.TheVariants.{Spades, Hearts, Diamonds, Clubs}
use Rattle.dd_cards.specs.PlayingCard.{PlayingCard}
use Rattle.dd_cards.specs.Cards.{has_card, suit_cards}
use Rattle.dd_cards.specs.Hands.{FourHands, dealt, hand_of, IsSet, AreHands}
use Rattle.dd_cards.specs.Seats.{next_seat, seat_code, seat_after}
use Rattle.dd_cards.proofs.CallerLemmas.{seat_code-injective, seat_code-lt}
use Rattle.dd_play.specs.Board.{Board, cards_at}
use Rattle.dd_play.specs.Covers.{count_of}
use Rattle.dd_play.proofs.CallerLemmas.{after-code}
use Rattle.dd_rank.specs.Owners.{holder, owners_in}
use Rattle.dd_rank.specs.Strings.{places_after, number_of, owners_number, suit_lengths, all_lengths, ShapeOf, shape_of, Strings, strings_of}
use Rattle.dd_rank.proofs.Holders.{holder-has, only-holder, no-holder}
use Rattle.dd_rank.proofs.Turned.{places-lt, after-places}
use Rattle.std.proofs.lemmas.Bool.{false_from_ne_true}

-- the same hands turned, so that this seat sits North
pub seated : FourHands → Seat → FourHands
seated hands f = dealt (hand_of hands (seat_after f 0)) (hand_of hands (seat_after f 1)) (hand_of hands (seat_after f 2)) (hand_of hands (seat_after f 3))

-- each is that of the seat at its place
seated-at : (hands : FourHands) (f x : Seat) → hand_of (seated hands f) x ≡ hand_of hands (seat_after f (seat_code x))
unfolding seated
seated-at hands f North = refl
seated-at hands f East = refl
seated-at hands f South = refl
seated-at hands f West = refl

-- two places with one seat are one place
pub after-tells : (f : Seat) (j k : ℕ) → j < 4 → k < 4 → seat_after f j ≡ seat_after f k → j ≡ k
after-tells f j k low high e =
    let a = after-code f j in
    let b = after-code f k in
    let c : seat_code (seat_after f j) ≡ seat_code (seat_after f k) = ap seat_code e in
    omega (arith, a, b, c, low, high)

-- they are four hands
pub seated-hands : (hands : FourHands) (f : Seat) → AreHands hands → AreHands (seated hands f)
unfolding seated
seated-hands hands f valid = record {
  sets = λ x. subst IsSet (sym (seated-at hands f x)) (valid.sets (seat_after f (seat_code x)));
  disjoint = λ c x y hx hy. seat_code-injective x y (after-tells f (seat_code x) (seat_code y) (seat_code-lt x) (seat_code-lt y)
      (valid.disjoint c (seat_after f (seat_code x)) (seat_after f (seat_code y)) (ap (λ l. has_card l c) (sym (seated-at hands f x)) ∙ hx) (ap (λ l. has_card l c) (sym (seated-at hands f y)) ∙ hy)));
}

-- the two holders of a card: the place of the one is the code of the other
abbrev IsTurned : Seat → Option Seat → Option Seat → Type 0
IsTurned f None None = Unit {0}
IsTurned f (Some s) (Some x) = seat_code s ≡ places_after f x
IsTurned f None (Some x) = ⊥
IsTurned f (Some s) None = ⊥

-- a card's holder among the hands from a seat on
turned-holder : (hands : FourHands) (f : Seat) → AreHands hands → (c : PlayingCard) → IsTurned f (holder (seated hands f) c) (holder hands c)
turned-holder hands f valid c = go (holder hands c) refl
  where
    turn : Seat → Seat
    turn x = seat_after North (places_after f x)

    code : (x : Seat) → seat_code (turn x) ≡ places_after f x
    code x = (let a = after-code North (places_after f x) in let l = places-lt f x in omega (arith, a, l))

    own : (x : Seat) → has_card (hand_of hands x) c ≡ true → holder (seated hands f) c ≡ Some (turn x)
    own x h =
        let there : has_card (hand_of (seated hands f) (turn x)) c ≡ true =
        ap (λ l. has_card l c) (seated-at hands f (turn x) ∙ ap (λ k. hand_of hands (seat_after f k)) (code x) ∙ ap (hand_of hands) (after-places f x)) ∙ h in
        only-holder (seated hands f) c (turn x) there (λ t k. (seated-hands hands f valid).disjoint c t (turn x) k there)

    lacks : holder hands c ≡ None → (x : Seat) → has_card (hand_of (seated hands f) x) c ≡ false
    lacks none x = false_from_ne_true _ (λ h.
        let k : has_card (hand_of hands (seat_after f (seat_code x))) c ≡ true = ap (λ l. has_card l c) (sym (seated-at hands f x)) ∙ h in
        let held = only-holder hands c (seat_after f (seat_code x)) k (λ t g. valid.disjoint c t (seat_after f (seat_code x)) g k) in
        cc)

    go : (o : Option Seat) → holder hands c ≡ o → IsTurned f (holder (seated hands f) c) o
    go None e = subst (λ (o : Option Seat). IsTurned f o None) (sym (no-holder (seated hands f) c (lacks e))) tt
    go (Some x) e = subst (λ (o : Option Seat). IsTurned f o (Some x)) (sym (own x (holder-has hands c x e))) (code x)

-- the owners among these hands are the owners by their places
pub turned-owners : (hands : FourHands) (f : Seat) → AreHands hands → (u : Suit) → map seat_code (owners_in (seated hands f) u) ≡ map (places_after f) (owners_in hands u)
turned-owners hands f valid u = each (suit_cards u)
  where
    each : (cards : List PlayingCard) → map seat_code (filter_map (holder (seated hands f)) cards) ≡ map (places_after f) (filter_map (holder hands) cards)
    each [] = refl
    each (c ∷ cards) = go (holder (seated hands f) c) refl (holder hands c) refl (turned-holder hands f valid c) (each cards)
      where
        go : (o : Option Seat) → holder (seated hands f) c ≡ o → (h : Option Seat) → holder hands c ≡ h → IsTurned f (holder (seated hands f) c) (holder hands c)
            → map seat_code (filter_map (holder (seated hands f)) cards) ≡ map (places_after f) (filter_map (holder hands) cards)
            → map seat_code (filter_map (holder (seated hands f)) (c ∷ cards)) ≡ map (places_after f) (filter_map (holder hands) (c ∷ cards))
        go None d None e t ih = rw (d, e) ih
        go (Some s) d (Some x) e t ih = rw (d, e) (ap₂ (λ n ns. n ∷ ns) (let k : IsTurned f (Some s) (Some x) = rw (d, e) at t in k) ih)
        go None d (Some x) e t ih = absurd (let k : IsTurned f None (Some x) = rw (d, e) at t in k)
        go (Some s) d None e t ih = absurd (let k : IsTurned f (Some s) None = rw (d, e) at t in k)

-- the four hands of a position, from the leader on
pub record AreSeated (p : Board) (l s t f : List PlayingCard) : Type 0 where
  pub hands : AreHands p.hands
  pub leader : l ≡ cards_at p (seat_after p.first 0)
  pub second : s ≡ cards_at p (seat_after p.first 1)
  pub third : t ≡ cards_at p (seat_after p.first 2)
  pub fourth : f ≡ cards_at p (seat_after p.first 3)

-- the hand of a seat that comes so many places after the leader
pub at-seat : (p : Board) (hands : FourHands) (f seat : Seat) (k : ℕ) (cards : List PlayingCard) → hands ≡ p.hands → f ≡ p.first → seat ≡ seat_after f k → cards ≡ hand_of hands seat
    → cards ≡ cards_at p (seat_after p.first k)
at-seat p hands f seat k cards eh ef es ec = ec ∙ ap₂ hand_of eh (es ∙ ap (λ x. seat_after x k) ef)

-- the hands that code takes one after the other
pub taken-seated : (p : Board) (hands : FourHands) (first second third fourth : Seat) (l s t f : List PlayingCard) → AreHands hands → hands ≡ p.hands → first ≡ p.first
    → second ≡ next_seat first → third ≡ next_seat second → fourth ≡ next_seat third
    → l ≡ hand_of hands first → s ≡ hand_of hands second → t ≡ hand_of hands third → f ≡ hand_of hands fourth → AreSeated p l s t f
taken-seated p hands first second third fourth l s t f valid eh ef e2 e3 e4 el es et eu =
    let third_at = e3 ∙ ap next_seat e2 in
    record {
      hands = subst AreHands eh valid;
      leader = at-seat p hands first first 0 l eh ef refl el;
      second = at-seat p hands first second 1 s eh ef e2 es;
      third = at-seat p hands first third 2 t eh ef third_at et;
      fourth = at-seat p hands first fourth 3 f eh ef (e4 ∙ ap next_seat third_at) eu;
    }

-- .. with the leader as North
turned : (p : Board) (l s t f : List PlayingCard) → AreSeated p l s t f → dealt l s t f ≡ seated p.hands p.first
unfolding seated
turned p l s t f a = same l _ s _ t _ f _ a.leader a.second a.third a.fourth
  where
    same : (a b c d e f g h : List PlayingCard) → a ≡ b → c ≡ d → e ≡ f → g ≡ h → dealt a c e g ≡ dealt b d f h
    same a b c d e f g h i j k l = rw (i, j, k, l) refl

-- .. are four hands
pub seated-four : (p : Board) (l s t f : List PlayingCard) → AreSeated p l s t f → AreHands (dealt l s t f)
seated-four p l s t f a = subst AreHands (sym (turned p l s t f a)) (seated-hands p.hands p.first a.hands)

-- the lengths of a suit in the four hands from the leader on
pub suit-lengths : (p : Board) (l s t f : List PlayingCard) (u : Suit) → AreSeated p l s t f → number_of 16 (count_of u l ∷ count_of u s ∷ count_of u t ∷ count_of u f ∷ []) ≡ suit_lengths p u
suit-lengths p l s t f u a = digits _ _ _ _ _ _ _ _ (ap (count_of u) a.leader) (ap (count_of u) a.second) (ap (count_of u) a.third) (ap (count_of u) a.fourth)
  where
    digits : (a b c d e f g h : ℕ) → a ≡ e → b ≡ f → c ≡ g → d ≡ h → number_of 16 (a ∷ b ∷ c ∷ d ∷ []) ≡ number_of 16 (e ∷ f ∷ g ∷ h ∷ [])
    digits a b c d e f g h la lb lc ld = omega arith

-- .. and its owners
pub suit-owners : (p : Board) (l s t f : List PlayingCard) (u : Suit) → AreSeated p l s t f → number_of 4 (map seat_code (owners_in (dealt l s t f) u)) ≡ owners_number p u
unfolding owners_number
suit-owners p l s t f u a = ap (λ hs. number_of 4 (map seat_code (owners_in hs u))) (turned p l s t f a) ∙ ap (number_of 4) (turned-owners p.hands p.first a.hands u)

-- the lengths of four suits make the shape
pub four-lengths : (p : Board) (strain : Strain) (a b c d : ℕ) → strain ≡ p.strain → a ≡ suit_lengths p Spades → b ≡ suit_lengths p Hearts → c ≡ suit_lengths p Diamonds → d ≡ suit_lengths p Clubs
    → (let r : ShapeOf = record { strain = strain; lengths = d + c * 65536 + b * 4294967296 + a * 281474976710656 } in r) ≡ shape_of p
unfolding all_lengths
four-lengths p strain a b c d es ea eb ec ed = ap₂ (λ s n. (let r : ShapeOf = record { strain = s; lengths = n } in r)) es (lanes a b c d _ _ _ _ ea eb ec ed)
  where
    lanes : (a b c d i j k l : ℕ) → a ≡ i → b ≡ j → c ≡ k → d ≡ l → d + c * 65536 + b * 4294967296 + a * 281474976710656 ≡ number_of 65536 (l ∷ k ∷ j ∷ i ∷ [])
    lanes a b c d i j k l ei ej ek el = omega arith

-- the shape and the owners of four suits make the strings
pub shape-strings : (p : Board) (shape : ShapeOf) (e f g h : ℕ) → shape ≡ shape_of p → e ≡ owners_number p Spades → f ≡ owners_number p Hearts → g ≡ owners_number p Diamonds → h ≡ owners_number p Clubs
    → (let r : Strings = record { strain = shape.strain; lengths = shape.lengths; spades = e; hearts = f; diamonds = g; clubs = h } in r) ≡ strings_of p
shape-strings p shape e f g h is ee ef eg eh = rw (is, ee, ef, eg, eh) refl
