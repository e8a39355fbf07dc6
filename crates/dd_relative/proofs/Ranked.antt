-- starts of a trick by relative ranks that are alike are the same, and one covers another where the same hands have the highest cards
use Rattle.std.proofs.Common.{◌≡◌, ℕ, ◌+◌, ◌<◌, ◌≤◌, true, refl, sym, ap, ◌∙◌, arith, []}
use Rattle.std.specs.Prelude.{◌↔◌}
use mathlib.Core.Path.{ap₂}
use Rattle.dd_cards.specs.declared.seat.Seat.{Seat}
use Rattle.dd_cards.specs.declared.seat.Seat.TheVariants.{North, East, South, West}
use Rattle.dd_cards.specs.declared.suit.Suit.{Suit}
use Rattle.dd_cards.specs.PlayingCard.{PlayingCard}
use Rattle.dd_cards.specs.Cards.{has_card, card_of}
use Rattle.dd_cards.specs.Hands.{FourHands, dealt}
use Rattle.dd_cards.specs.Seats.{seat_after}
use Rattle.dd_cards.proofs.CallerLemmas.{both-ways, same-members}
use Rattle.dd_play.specs.Board.{Board, IsBoard, board_of, cards_at}
use Rattle.dd_play.specs.Covers.{count_of}
use Rattle.dd_play.proofs.CallerLemmas.{card-real, turn-turn}
use Rattle.dd_rank.specs.Alike.{AreAlike}
use Rattle.dd_rank.specs.Depths.{all_cards, place, IsCoverAt, Covers}
use Rattle.dd_rank.specs.Strings.{strings_of}
use Rattle.dd_relative.specs.Relative.{IsRelative}
use Rattle.dd_relative.specs.Tops.{HaveSameTops}
use Rattle.dd_relative.proofs.Places.{all-count, place-within, rank-place}
use Rattle.dd_rank.proofs.CallerLemmas.{in-all}

-- a turn that leaves North where it is leaves every seat
turned-back : (k : ℕ) (x : Seat) → seat_after North k ≡ North → seat_after x k ≡ x
turned-back k North e = e
turned-back k East e = turn-turn North 1 k ∙ ap (λ y. seat_after y 1) e
turned-back k South e = turn-turn North 2 k ∙ ap (λ y. seat_after y 2) e
turned-back k West e = turn-turn North 3 k ∙ ap (λ y. seat_after y 3) e

-- a card of the same suit and place is the same card
same-place : (p q : Board) (x y : Seat) (c d : PlayingCard) → IsRelative p → IsRelative q → has_card (cards_at p x) c ≡ true → has_card (cards_at q y) d ≡ true
    → d.suit ≡ c.suit → place q d ≡ place p c → d ≡ c
same-place p q x y c d relative_p relative_q hc hd suits places =
    let here = rank-place p c relative_p (in-all p x c hc) in
    let there = rank-place q d relative_q (in-all q y d hd) in
    let ranks : d.rank ≡ c.rank = omega (arith, here, there, places) in
    ap₂ card_of suits ranks

-- ---- covers
-- of a cover the seats are the same
stays : (k : ℕ) (p q : Board) → IsRelative p → IsRelative q → q.first ≡ seat_after p.first k → (x : Seat) → seat_after x k ≡ x
stays k p q relative_p relative_q first x = turned-back k x (ap (λ y. seat_after y k) (sym relative_p.leader) ∙ sym first ∙ relative_q.leader)

-- .. and so are the hands that have the highest cards
cover-tops : (k : ℕ) (depths : Suit → ℕ) (p q : Board) → IsRelative p → IsRelative q → IsCoverAt k depths p q → HaveSameTops depths p q
cover-tops k depths p q relative_p relative_q a = record {
  strain = a.strain;
  lengths = λ x u. ap (λ y. count_of u (cards_at q y)) (sym (still x)) ∙ a.lengths x u;
  tops = λ x c real high. both-ways _ _ (back x c high) (forth x c high);
}
  where
    still : (x : Seat) → seat_after x k ≡ x
    still = stays k p q relative_p relative_q a.first

    forth : (x : Seat) (c : PlayingCard) → 14 < c.rank + depths c.suit → has_card (cards_at p x) c ≡ true → has_card (cards_at q x) c ≡ true
    forth x c high has =
        let at = rank-place p c relative_p (in-all p x c has) in
        let d = a.forth x c has (omega (arith, at, high)) in
        let same : d.0 ≡ c = same-place p q x (seat_after x k) c d.0 relative_p relative_q has d.1 d.2 d.3 in
        ap₂ (λ y e. has_card (cards_at q y) e) (sym (still x)) (sym same) ∙ d.1

    back : (x : Seat) (d : PlayingCard) → 14 < d.rank + depths d.suit → has_card (cards_at q x) d ≡ true → has_card (cards_at p x) d ≡ true
    back x d high has =
        let at = rank-place q d relative_q (in-all q x d has) in
        let c = a.back x d (ap (λ y. has_card (cards_at q y) d) (still x) ∙ has) (omega (arith, at, high)) in
        let same : c.0 ≡ d = same-place q p x x d c.0 relative_q relative_p has c.1 c.2 c.3 in
        ap (λ e. has_card (cards_at p x) e) (sym same) ∙ c.1

-- and the other way
tops-cover : (depths : Suit → ℕ) (p q : Board) → IsRelative p → IsRelative q → ((u : Suit) → depths u ≤ count_of u (all_cards p)) → HaveSameTops depths p q → IsCoverAt 0 depths p q
tops-cover depths p q relative_p relative_q most same = record {
  start_p = relative_p.start;
  start_q = relative_q.start;
  strain = same.strain;
  first = relative_q.leader ∙ sym relative_p.leader;
  most = most;
  lengths = same.lengths;
  forth = λ x c has low.
      let at = rank-place p c relative_p (in-all p x c has) in
      let there : has_card (cards_at q x) c ≡ true = same.tops x c (card-real p x c relative_p.board has) (omega (arith, at, low)) ∙ has in
      let too = rank-place q c relative_q (in-all q x c there) in
      (c, there, refl, omega (arith, at, too));
  back = λ x d has low.
      let at = rank-place q d relative_q (in-all q x d has) in
      let here : has_card (cards_at p x) d ≡ true = sym (same.tops x d (card-real q x d relative_q.board has) (omega (arith, at, low))) ∙ has in
      let too = rank-place p d relative_p (in-all p x d here) in
      (d, here, refl, omega (arith, at, too));
}

pub covers-tops : (p q : Board) (depths : Suit → ℕ) → IsRelative p → IsRelative q → ((u : Suit) → depths u ≤ count_of u (all_cards p)) → Covers p depths q ↔ HaveSameTops depths p q
covers-tops p q depths relative_p relative_q most = (
  λ a. cover-tops a.0 depths p q relative_p relative_q a.1,
  λ same. (0, tops-cover depths p q relative_p relative_q most same),
)

-- ---- alike
-- two boards of the same parts
same-board : (p q : Board) → p.hands ≡ q.hands → p.strain ≡ q.strain → p.first ≡ q.first → p.trick ≡ q.trick → p ≡ q
same-board p q hands strain first trick =
    ap₂ (λ h s. board_of h s p.first p.trick) hands strain ∙ ap₂ (λ f t. board_of q.hands q.strain f t) first trick

same-hands : (h g : FourHands) → h.north ≡ g.north → h.east ≡ g.east → h.south ≡ g.south → h.west ≡ g.west → h ≡ g
same-hands h g n e s w = ap₂ (λ a b. dealt a b h.south h.west) n e ∙ ap₂ (λ c d. dealt g.north g.east c d) s w

-- where each hand has the same cards
pub alike-same : (p q : Board) → IsRelative p → IsRelative q
    → ((depths : Suit → ℕ) → ((u : Suit) → depths u ≡ count_of u (all_cards p)) → Covers p depths q ↔ AreAlike p q) → AreAlike p q → p ≡ q
alike-same p q relative_p relative_q full alike =
    same-board p q (same-hands p.hands q.hands (hand North) (hand East) (hand South) (hand West)) (sym tops.strain) (relative_p.leader ∙ sym relative_q.leader) (relative_p.start ∙ sym relative_q.start)
  where
    depths : Suit → ℕ
    depths u = count_of u (all_cards p)

    tops : HaveSameTops depths p q
    tops = (covers-tops p q depths relative_p relative_q (λ u. omega arith)).0 ((full depths (λ u. refl)).1 alike)

    hand : (x : Seat) → cards_at p x ≡ cards_at q x
    hand x = same-members (cards_at p x) (cards_at q x) (relative_p.board.sets x) (relative_q.board.sets x) (λ c real. both-ways _ _ (λ has. tops.tops x c real (low c has) ∙ has) (λ has. sym (tops.tops x c real (low' c has)) ∙ has))
      where
        low : (c : PlayingCard) → has_card (cards_at p x) c ≡ true → 14 < c.rank + count_of c.suit (all_cards p)
        low c has = (let at = rank-place p c relative_p (in-all p x c has) in let within = place-within p c (in-all p x c has) in omega (arith, at, within))

        low' : (c : PlayingCard) → has_card (cards_at q x) c ≡ true → 14 < c.rank + count_of c.suit (all_cards p)
        low' c has =
            let at = rank-place q c relative_q (in-all q x c has) in
            let within = place-within q c (in-all q x c has) in
            let here = all-count p c.suit in
            let there = all-count q c.suit in
            let n : count_of c.suit (cards_at q North) ≡ count_of c.suit (cards_at p North) = tops.lengths North c.suit in
            let e : count_of c.suit (cards_at q East) ≡ count_of c.suit (cards_at p East) = tops.lengths East c.suit in
            let s : count_of c.suit (cards_at q South) ≡ count_of c.suit (cards_at p South) = tops.lengths South c.suit in
            let w : count_of c.suit (cards_at q West) ≡ count_of c.suit (cards_at p West) = tops.lengths West c.suit in
            omega (arith, at, within, here, there, n, e, s, w)

-- what is alike to one board
pub one-start : (p q r : Board) → IsBoard p → p.trick ≡ [] → IsRelative q → IsRelative r
    → ((x y : Board) → IsBoard x → IsBoard y → x.trick ≡ [] → y.trick ≡ [] → AreAlike x y ↔ strings_of y ≡ strings_of x)
    → ((depths : Suit → ℕ) → ((u : Suit) → depths u ≡ count_of u (all_cards q)) → Covers q depths r ↔ AreAlike q r) → AreAlike p q → AreAlike p r → q ≡ r
one-start p q r valid start relative_q relative_r strings full first second =
    let one : strings_of q ≡ strings_of p = (strings p q valid relative_q.board start relative_q.start).0 first in
    let two : strings_of r ≡ strings_of p = (strings p r valid relative_r.board start relative_r.start).0 second in
    alike-same q r relative_q relative_r full ((strings q r relative_q.board relative_r.board relative_q.start relative_r.start).1 (two ∙ sym one))
