-- A lead of a suit to its highest card, which an opponent has, and what is counted of lists of cards until then.
use Rattle.std.proofs.Common.{◌≡◌, ◌≢◌, ℕ, zero, suc, ◌<◌, ◌≤◌, Bool, true, false, refl, sym, ap, ◌∙◌, subst, arith, List, [], ◌∷◌, ◌++◌, length, inl, inr}
use Rattle.std.specs.Prelude.{nat_lt, ◌==◌}
use Rattle.std.proofs.lemmas.Bool.Decides.{nat_tests}
use Rattle.dd_cards.specs.declared.seat.Seat.{Seat}
use Rattle.dd_cards.specs.declared.seat.Seat.TheVariants.{North, East, South, West}
use Rattle.dd_cards.specs.declared.side.Side.{Side}
use Rattle.dd_cards.specs.declared.side.Side.TheVariants.{NorthSouth, EastWest}
use Rattle.dd_cards.specs.declared.strain.Strain.{Strain}
use Rattle.dd_cards.specs.PlayingCard.{PlayingCard}
use Rattle.dd_cards.specs.Cards.{has_card}
use Rattle.dd_cards.specs.Seats.{seat_code, seat_after}
use Rattle.dd_cards.specs.Sides.{side_of, other_side, is_side}
use Rattle.dd_play.specs.Board.{Board, IsBoard, cards_at, mover}
use Rattle.dd_play.specs.Tricks.{is_trump}
use Rattle.dd_play.specs.Play.{after, completes, following}
use Rattle.dd_play.specs.Simulations.{IsLegal}
use Rattle.dd_play.specs.Won.{won}
use Rattle.dd_play.proofs.CallerLemmas.{after-code, count, count-has, flag_of, hand-others, in-following, legal-leads, own-card, strain-after, trick-after, was-in}
use Rattle.dd_quick.specs.SecondHand.{unled}
use Rattle.dd_quick.proofs.Cashing.{IsMaster, hand_on, is_plain}
use Rattle.dd_quick.proofs.Chosen.{count-never}
use Rattle.dd_quick.proofs.Crossings.{NoTrumps}
use Rattle.dd_quick.proofs.Hands.{IsOpposed}
use Rattle.dd_quick.proofs.JointPlans.{trumps-plain}
use Rattle.dd_quick.proofs.JointTrumps.{place-of}
use Rattle.dd_quick.proofs.LeadBack.{board-back, is-back, was-back}
use Rattle.dd_quick.proofs.SecondTrump.{any-card}
use Rattle.dd_quick.proofs.TakenTrick.{Allows, trick-taken}
use Rattle.dd_cards.proofs.CallerLemmas.{seat_code-lt}

-- ---- sides

-- a seat and its partner are of one side
pub two-same : (t : Side) (f : Seat) → is_side t (seat_after f 2) ≡ is_side t f
two-same t North = refl
two-same t East = refl
two-same t South = refl
two-same t West = refl

-- the last seat of a trick is of the other side than its leader
pub last-side : (t : Side) (f : Seat) → is_side t f ≡ false → is_side t (seat_after f 3) ≡ true
last-side NorthSouth North e = absurd (cc)
last-side NorthSouth East e = refl
last-side NorthSouth South e = absurd (cc)
last-side NorthSouth West e = refl
last-side EastWest North e = refl
last-side EastWest East e = absurd (cc)
last-side EastWest South e = refl
last-side EastWest West e = absurd (cc)

-- a seat is not on the other side
pub leaders-side : (f : Seat) → is_side (other_side (side_of f)) f ≡ false
leaders-side North = refl
leaders-side East = refl
leaders-side South = refl
leaders-side West = refl

-- a seat of the other side is an opponent
pub opposite : (t : Side) (f x : Seat) → is_side t f ≡ false → is_side t x ≡ true → (i : ℕ) × IsOpposed i × (x ≡ seat_after f i)
opposite t f x away on = by (place-of f x)
  where
    by : (i : ℕ) × (i < 4) × (x ≡ seat_after f i) → (i : ℕ) × IsOpposed i × (x ≡ seat_after f i)
    by (zero, l, at) = absurd (let k : false ≡ true = sym away ∙ ap (is_side t) (sym at) ∙ on in cc)
    by (suc zero, l, at) = (1, inl refl, at)
    by (suc (suc zero), l, at) = absurd (let k : false ≡ true = sym away ∙ sym (two-same t f) ∙ ap (is_side t) (sym at) ∙ on in cc)
    by (suc (suc (suc zero)), l, at) = (3, inr refl, at)
    by (suc (suc (suc (suc j))), l, at) = absurd (omega (arith, l))

-- ---- a suit that an opponent heads is led

-- no card of a hand is a trump, and where it waits to play it has one
abbrev plain_hand : Strain → Bool → ℕ → List PlayingCard → Type 0
plain_hand strain waits j his = (count (is_trump strain) his ≡ 0) × (waits ≡ true → 1 ≤ count (is_plain strain) his)

-- the opponent takes the trick
pub head-wins : (q : Board) (m g : PlayingCard) (h : Seat) (i : ℕ) → IsBoard q → NoTrumps q → q.trick ≡ [] → IsLegal q m → IsOpposed i → h ≡ seat_after q.first i → has_card (cards_at q h) g ≡ true → m.suit ≡ g.suit
    → ((x : Seat) (d : PlayingCard) → seat_code x ≢ seat_code h → has_card (cards_at q x) d ≡ true → d.suit ≡ g.suit → d.rank < g.rank) → 1 ≤ won (side_of h) (after q m)
head-wins q m g h i valid none empty has opposed at own suit high =
    let all = trick-taken p m h (plain_hand p.strain) g 0 valid_p led there suit master allows start (λ z now e f. omega arith) i opposed (at ∙ ap (λ f. seat_after f i) (sym first)) in
    omega (arith, all)
  where
    p : Board
    p = after q m

    leads : mover q ≡ q.first
    leads = ap (λ trick. seat_after q.first (length trick)) empty

    opens : completes q ≡ false
    opens = ap (λ trick. length trick == 3) empty

    valid_p : IsBoard (after q m)
    valid_p = (legal-leads q m valid has).valid

    first : (after q m).first ≡ q.first
    first = (trick-after q m opens).1

    led : (after q m).trick ≡ m ∷ []
    led = (trick-after q m opens).0 ∙ ap (λ trick. trick ++ m ∷ []) empty

    -- a card of a hand before the lead is one of q's
    was : (x : Seat) (d : PlayingCard) → has_card (cards_at (unled (after q m) m h) x) d ≡ true → has_card (cards_at q x) d ≡ true
    was x d k = elim (was-back (after q m) m valid_p led h x d k) [
      | inl now ↦ subst (λ y. has_card (cards_at q y) d ≡ true) (leads ∙ sym first ∙ sym now.0) (ap (has_card (cards_at q (mover q))) now.1 ∙ own-card q m has)
      | inr old ↦ was-in q m valid x d old
    ]

    apart : seat_code h ≢ seat_code (mover q)
    apart = (let a = after-code q.first i in let b = seat_code-lt q.first in let c : seat_code h ≡ seat_code (seat_after q.first i) = ap seat_code at in let l : seat_code (mover q) ≡ seat_code q.first = ap seat_code leads in
        elim opposed [ inl e ↦ (λ z. omega (arith, a, b, c, l, e, z)) | inr e ↦ (λ z. omega (arith, a, b, c, l, e, z)) ])

    there : has_card (cards_at (unled (after q m) m h) h) g ≡ true
    there = is-back (after q m) m valid_p led h h g (ap (λ cards. has_card cards g) (hand-others q m h apart) ∙ own)

    master : IsMaster (unled (after q m) m h) g
    master x d away k suits = high x d away (was x d k) suits

    allows : Allows (after q m).strain g (plain_hand (after q m).strain)
    allows = record {
      opponents = λ j his rest d other now mine follows taken. (
        (let t = taken (is_trump (after q m).strain) in let z = now.0 in omega (arith, t, z), λ e. absurd (cc)),
        λ trump. absurd (let some = count-has (is_trump (after q m).strain) his d mine trump in let z = now.0 in omega (arith, some, z)),
      );
      partner = λ his trick on now. (
          let d = any-card (after q m).strain g trick his on (now.1 refl) in (
            d.0,
            d.1,
            λ trump. absurd (let some = count-has (is_trump (after q m).strain) his d.0 (in-hand trick his d.0 d.1) trump in let z = now.0 in omega (arith, some, z)),
            λ rest taken. (let t = taken (is_trump (after q m).strain) in let z = now.0 in omega (arith, t, z), λ e. absurd (cc)),
          ));
    }
      where
        in-hand : (trick his : List PlayingCard) (d : PlayingCard) → has_card (following trick his) d ≡ true → has_card his d ≡ true
        in-hand trick his d h = in-following trick his d h

    start : (j : ℕ) → 1 ≤ j → j < 4 → plain_hand (after q m).strain true j (hand_on (unled (after q m) m h) j)
    start j l k =
        let x : Seat = seat_after h j in
        let zero_trumps = count-never (is_trump (after q m).strain) (hand_on (unled (after q m) m h) j) (λ d mine. ap (λ s. is_trump s d) (strain-after q m) ∙ none (seat_after h j) d (was (seat_after h j) d mine)) in
        let all = trumps-plain (after q m).strain (hand_on (unled (after q m) m h) j) in
        let some = (board-back (after q m) m valid_p led h).even j k in
        let flag : flag_of (nat_lt j 0) ≡ 0 = ap flag_of (not-under j) in
        let card : 1 ≤ length (cards_at (unled (after q m) m h) h) = some-length (cards_at (unled (after q m) m h) h) g there in
        (zero_trumps, λ e. omega (arith, zero_trumps, all, some, flag, card))
      where
        not-under : (a : ℕ) → nat_lt a 0 ≡ false
        not-under a = grind (arith, nat_tests)

        some-length : (cards : List PlayingCard) (c : PlayingCard) → has_card cards c ≡ true → 1 ≤ length cards
        some-length [] c h = absurd (cc)
        some-length (d ∷ cards) c h = omega arith
